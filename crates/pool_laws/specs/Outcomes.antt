-- What each answer to an insertion says. Exactly one of the three holds of a pool and a transaction.
use Rattle.std.specs.Prelude.{◌≡◌, ℕ, true, false, List, [], ◌∷◌, ◌++◌}
use Rattle.id_rules.specs.Ids.{wtxid}
use Rattle.pool_rules.specs.Pools.{Transaction, transaction_of, is_in_pool, has_room}
use Rattle.pool_rules.specs.declared.insertion.Inserted.{Inserted}
use Rattle.pool_rules.specs.declared.insertion.Inserted.TheVariants as inserted

-- a pool that had no such transaction, and room, has it as its last; one that had it, or has no room, stays as it is
abbrev pub IsOutcome : Inserted → List Transaction → List ℕ → List Transaction → Type 0
IsOutcome inserted.New pool tx after = (is_in_pool pool (wtxid tx) ≡ false) × (has_room pool tx ≡ true) × (after ≡ pool ++ transaction_of tx ∷ [])
IsOutcome inserted.Present pool tx after = (is_in_pool pool (wtxid tx) ≡ true) × (after ≡ pool)
IsOutcome inserted.Full pool tx after = (is_in_pool pool (wtxid tx) ≡ false) × (has_room pool tx ≡ false) × (after ≡ pool)
