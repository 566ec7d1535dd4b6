-- One member more or fewer.
use Rattle.std.specs.Prelude.{◌≡◌, ℕ, ◌==◌, not, List, filter}
use Rattle.std.specs.List.{count_by}
use Rattle.pool_rules.specs.Snapshots.{Member}

-- the members change at one short id alone: another number of them has it, and the others stay
pub record IsChange (short : ℕ) (xs ys : List Member) : Type 0 where
  pub rest : filter (λ m. not (m.short == short)) xs ≡ filter (λ m. not (m.short == short)) ys
  pub counts : count_by (λ m. m.short == short) xs ≡ count_by (λ m. m.short == short) ys → ⊥
