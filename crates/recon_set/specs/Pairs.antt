-- Members as pairs of an id and a short id.
use Rattle.std.specs.Prelude.{ℕ, List, map}
use Rattle.base_types.specs.declared.lists.Hash32.{Hash32}
use Rattle.pool_rules.specs.Snapshots.{Member}

abbrev pub pair_ids : List (Hash32 × ℕ) → List Hash32
pair_ids ps = map (λ p. p.0) ps

abbrev pub pair_members : List (Hash32 × ℕ) → List Member
pair_members ps = map (λ p. record { id = p.0; short = p.1 }) ps
