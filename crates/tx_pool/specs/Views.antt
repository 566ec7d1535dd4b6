-- What contracts see of a pool.
use Rattle.std.specs.Prelude.{ℕ, List, map}
use Rattle.base_types.specs.declared.lists.Hash32.{Hash32}
use Rattle.pool_rules.specs.Pools.{Transaction}

-- the transactions of a map's entries
abbrev pub transactions_of : List (Hash32 × List ℕ) → List Transaction
transactions_of entries = map (λ e. record { id = e.0; bytes = e.1 }) entries
