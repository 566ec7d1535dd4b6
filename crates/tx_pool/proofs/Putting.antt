-- What becomes of a transaction that is put into a pool.
use Rattle.std.proofs.Common.{◌≡◌, ℕ, ◌+◌, true, false, List, ◌∷◌, [], ◌++◌, length, sym, ap, subst, ◌∙◌, arith}
use Rattle.std.proofs.lemmas.List.Sums.{sum_by-append}
use Rattle.id_rules.specs.Bytes.{is_tx}
use Rattle.id_rules.specs.Ids.{wtxid}
use Rattle.pool_rules.specs.Pools.{Transaction, IsPool, byte_count, has_room, insertion_by, insertion_of, is_in_pool, transaction_of}
use Rattle.pool_rules.specs.declared.insertion.Inserted.TheVariants as inserted
use Rattle.pool_rules.specs.declared.insertion.Inserted.{Inserted}
use Rattle.pool_laws.specs.Outcomes.{IsOutcome}
use Rattle.pool_laws.proofs.Insertions.{insertion_of-outcome, pool-behind, tx-transaction_of}

module _ (pool : List Transaction) (tx : List ℕ) where
  pub insertion_of-present : is_in_pool pool (wtxid tx) ≡ true → insertion_of pool tx ≡ record { pool = pool; inserted = inserted.Present }
  unfolding insertion_by
  insertion_of-present there = ap (λ b. insertion_by b (has_room pool tx) pool tx) there

  pub insertion_of-full : is_in_pool pool (wtxid tx) ≡ false → has_room pool tx ≡ false → insertion_of pool tx ≡ record { pool = pool; inserted = inserted.Full }
  unfolding insertion_by
  insertion_of-full absent full = ap (λ b. insertion_by b (has_room pool tx) pool tx) absent ∙ ap (λ b. insertion_by false b pool tx) full

  pub insertion_of-new : is_in_pool pool (wtxid tx) ≡ false → has_room pool tx ≡ true → insertion_of pool tx ≡ record { pool = pool ++ transaction_of tx ∷ []; inserted = inserted.New }
  unfolding insertion_by
  insertion_of-new absent room = ap (λ b. insertion_by b (has_room pool tx) pool tx) absent ∙ ap (λ b. insertion_by false b pool tx) room

  -- a pool with one transaction more is a pool, and its bytes are so many more
  pub sound-behind : (bytes : ℕ) (after : List Transaction) → IsPool pool × (byte_count pool ≡ bytes) → after ≡ pool ++ transaction_of tx ∷ [] → is_tx tx ≡ true → is_in_pool pool (wtxid tx) ≡ false → has_room pool tx ≡ true
      → IsPool after × (byte_count after ≡ bytes + length tx)
  sound-behind bytes after sound grown may absent room = (
    subst IsPool (sym grown) (pool-behind pool tx sound.0 (tx-transaction_of tx may) absent room),
    (let more = sum_by-append (λ t. length t.bytes) pool (transaction_of tx ∷ []) in omega (arith, ap byte_count grown, more, sound.1)),
  )

  -- what the answer says
  pub outcome_of : (i : Inserted) (after : List Transaction) → after ≡ (insertion_of pool tx).pool → i ≡ (insertion_of pool tx).inserted → IsOutcome i pool tx after
  outcome_of i after grown answered =
      subst (λ i. IsOutcome i pool tx after) (sym answered) (subst (λ after. IsOutcome (insertion_of pool tx).inserted pool tx after) (sym grown) (insertion_of-outcome pool tx))
