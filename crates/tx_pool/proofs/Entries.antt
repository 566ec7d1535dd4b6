-- The entries of a map, and the transactions that they show.
use Rattle.std.proofs.Common.{◌≡◌, ℕ, ◌||◌, Bool, true, false, cond, List, [], ◌∷◌, ◌++◌, Some, None, Option, option_map, is_some, find, refl, ap, ◌∙◌}
use Rattle.std.specs.Map.{keys_of, lookup}
use Rattle.std.proofs.lemmas.Cmp.{nat_list_eq_equiv}
use Rattle.std.proofs.lemmas.List.{map-append}
use Rattle.base_types.specs.declared.lists.Hash32.{Hash32}
use Rattle.base_types.specs.contracts.lists.Hash32PartialEq.TheImpl.{eq-value}
use Rattle.id_rules.specs.Ids.{wtxid}
use Rattle.line_rules.specs.Lines.{lines, numbered_lines}
use Rattle.pool_laws.proofs.Read.{pool_in-sound}
use Rattle.pool_rules.specs.Pools.{Transaction, IsPool, bytes_of_id, is_in_pool, is_same_id, pool_ids, transaction_of}
use Rattle.pool_rules.specs.PoolFile.{pool_of_lines}
use Rattle.tx_pool.specs.Views.{transactions_of}

-- how the map compares the key that it looks for
abbrev pub is_key : Hash32 → Hash32 → Bool
is_key id key = eq-value.it id key

key_is : (id key : Hash32) → is_key id key ≡ is_same_id key id
key_is id key = nat_list_eq_equiv.symm id.0 key.0

some_or : {X : Type 0} (b : Bool) (x : X) (o : Option X) → is_some (cond b (Some x) o) ≡ (b || is_some o)
some_or true x o = refl
some_or false x o = refl

-- an id is found where the pool has it
pub lookup-is_in_pool : (entries : List (Hash32 × List ℕ)) (id : Hash32) → is_some (lookup (is_key id) entries) ≡ is_in_pool (transactions_of entries) id
lookup-is_in_pool [] id = refl
lookup-is_in_pool (e ∷ es) id =
    ap (λ b. is_some (cond b (Some e.1) (lookup (is_key id) es))) (key_is id e.0)
    ∙ some_or (is_same_id e.0 id) e.1 (lookup (is_key id) es)
    ∙ ap (λ b. is_same_id e.0 id || b) (lookup-is_in_pool es id)

bytes_or : (b : Bool) (t : Transaction) (o : Option (List ℕ)) (u : Option Transaction) → o ≡ option_map (λ t. t.bytes) u → cond b (Some t.bytes) o ≡ option_map (λ t. t.bytes) (cond b (Some t) u)
bytes_or true t o u e = refl
bytes_or false t o u e = e

-- what is found is the transaction of the id
pub lookup-bytes_of_id : (entries : List (Hash32 × List ℕ)) (id : Hash32) → lookup (is_key id) entries ≡ bytes_of_id (transactions_of entries) id
lookup-bytes_of_id [] id = refl
lookup-bytes_of_id (e ∷ es) id =
    ap (λ b. cond b (Some e.1) (lookup (is_key id) es)) (key_is id e.0)
    ∙ bytes_or (is_same_id e.0 id) (record { id = e.0; bytes = e.1 }) (lookup (is_key id) es) (find (λ t. is_same_id t.id id) (transactions_of es)) (lookup-bytes_of_id es id)

-- the keys are the ids
pub keys-pool_ids : (entries : List (Hash32 × List ℕ)) → keys_of entries ≡ pool_ids (transactions_of entries)
keys-pool_ids [] = refl
keys-pool_ids (e ∷ es) = ap (λ ids. e.0 ∷ ids) (keys-pool_ids es)

-- one entry more is one transaction more
pub transactions_of-more : (entries : List (Hash32 × List ℕ)) (id : Hash32) (tx : List ℕ) → id ≡ wtxid tx → transactions_of (entries ++ (id, tx) ∷ []) ≡ transactions_of entries ++ transaction_of tx ∷ []
transactions_of-more entries id tx named =
    map-append (λ e. record { id = e.0; bytes = e.1 }) entries ((id, tx) ∷ [])
    ∙ ap (λ i. transactions_of entries ++ record { id = i; bytes = tx } ∷ []) named

-- the empty pool
pub IsPool-empty : IsPool []
unfolding lines numbered_lines pool_of_lines
IsPool-empty = pool_in-sound [] [] refl

none_of : {X : Type 0} (o : Option X) → is_some o ≡ false → o ≡ None
none_of None e = refl
none_of (Some x) e = cc

-- an id that the pool lacks is not found
pub lookup-absent : (entries : List (Hash32 × List ℕ)) (id : Hash32) → is_in_pool (transactions_of entries) id ≡ false → lookup (is_key id) entries ≡ None
lookup-absent entries id absent = none_of (lookup (is_key id) entries) (lookup-is_in_pool entries id ∙ absent)
