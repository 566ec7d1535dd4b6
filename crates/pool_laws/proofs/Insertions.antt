-- A pool with one transaction more.
use Rattle.std.proofs.Common.{◌≡◌, ℕ, ◌+◌, ◌<◌, Bool, true, false, List, [], ◌∷◌, ◌++◌, length, nat_lt, refl, sym, ◌∙◌, subst, arith, length-append}
use Rattle.std.proofs.lemmas.Bool.{leb-true, ltb-true, and_parts}
use Rattle.std.proofs.lemmas.List.Sums.{sum_by-append}
use Rattle.id_rules.specs.Bytes.{are_bytes, is_tx, is_tx_length}
use Rattle.id_rules.specs.Ids.{wtxid}
use Rattle.pool_rules.specs.Pools.{Transaction, AreDistinctIds, IsTransaction, IsPool, byte_count, has_byte_room, has_room, transaction_of, is_in_pool, insertion_of, insertion_by, pool_ids}
use Rattle.pool_rules.specs.declared.limits.TheConstants.{POOL_LIMIT, POOL_BYTES}
use Rattle.pool_laws.specs.Outcomes.{IsOutcome}
use Rattle.pool_laws.proofs.IdLists.{distinct_both, one_alone}
use Rattle.id_rules.proofs.Lists.{all_append}
use Rattle.pool_laws.proofs.PoolIds.{is_in_pool-is_listed, pool_ids_append}

-- bytes that may be a transaction, with their id
pub tx-transaction_of : (tx : List ℕ) → is_tx tx ≡ true → IsTransaction (transaction_of tx)
tx-transaction_of tx may = let parts = and_parts (is_tx_length (length tx)) (are_bytes tx) may in record { named = refl; sized = parts.0; bytes = parts.1 }

-- a new transaction that finds room makes it a larger pool
pub pool-grown : (pool : List Transaction) (t : Transaction) → IsPool pool → IsTransaction t → is_in_pool pool t.id ≡ false → length pool < POOL_LIMIT → has_byte_room pool t.bytes ≡ true → IsPool (pool ++ t ∷ [])
pool-grown pool t sound may new few fits =
    let bytes = sum_by-append (λ u. length u.bytes) pool (t ∷ []) in
    let room = leb-true (byte_count pool + length t.bytes) POOL_BYTES fits in
    record {
      distinct = subst AreDistinctIds (sym (pool_ids_append pool (t ∷ []))) (distinct_both (pool_ids pool) (t.id ∷ []) sound.distinct (one_alone t.id) (sym (is_in_pool-is_listed pool t.id) ∙ new, tt));
      each = all_append IsTransaction pool (t ∷ []) sound.each (may, tt);
      count = omega (arith, length-append pool (t ∷ []), few);
      size = omega (arith, bytes, room);
    }

pub pool-behind : (pool : List Transaction) (tx : List ℕ) → IsPool pool → IsTransaction (transaction_of tx) → is_in_pool pool (wtxid tx) ≡ false → has_room pool tx ≡ true → IsPool (pool ++ transaction_of tx ∷ [])
pool-behind pool tx sound may new room =
    let parts = and_parts (nat_lt (length pool) POOL_LIMIT) (has_byte_room pool tx) room in
    pool-grown pool (transaction_of tx) sound may new (ltb-true (length pool) POOL_LIMIT parts.0) parts.1

-- by whether the pool has it, and whether it has room
insertion_of-pool : (there room : Bool) (pool : List Transaction) (tx : List ℕ) → is_in_pool pool (wtxid tx) ≡ there → has_room pool tx ≡ room → IsPool pool → IsTransaction (transaction_of tx)
    → IsPool (insertion_by there room pool tx).pool
unfolding insertion_by
insertion_of-pool true room pool tx h k sound may = sound
insertion_of-pool false false pool tx h k sound may = sound
insertion_of-pool false true pool tx h k sound may = pool-behind pool tx sound may h k

pub insertion_of-kept : (pool : List Transaction) (tx : List ℕ) → IsPool pool → is_tx tx ≡ true → IsPool (insertion_of pool tx).pool
insertion_of-kept pool tx sound may = insertion_of-pool (is_in_pool pool (wtxid tx)) (has_room pool tx) pool tx refl refl sound (tx-transaction_of tx may)

outcome-by : (there room : Bool) (pool : List Transaction) (tx : List ℕ) → is_in_pool pool (wtxid tx) ≡ there → has_room pool tx ≡ room
    → IsOutcome (insertion_by there room pool tx).inserted pool tx (insertion_by there room pool tx).pool
unfolding insertion_by
outcome-by true room pool tx h k = (h, refl)
outcome-by false false pool tx h k = (h, k, refl)
outcome-by false true pool tx h k = (h, k, refl)

pub insertion_of-outcome : (pool : List Transaction) (tx : List ℕ) → IsOutcome (insertion_of pool tx).inserted pool tx (insertion_of pool tx).pool
insertion_of-outcome pool tx = outcome-by (is_in_pool pool (wtxid tx)) (has_room pool tx) pool tx refl refl
