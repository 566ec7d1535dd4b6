-- What the program sees of its wire and its shelf before and after a call.
use Rattle.std.specs.Prelude.{ℕ, Bool}
use Rattle.std.specs.declared.option.Option.{Option}
use Rattle.link_rules.specs.Links.{Link}
use Rattle.erlay_base.specs.ShelfCalls.{ToldShelf}

-- the link that a wire tells, where it does; whether its input has ended; and its count of faults
pub record WireSight : Type 0 where
  pub link : Option Link
  pub ended : Bool
  pub faults : ℕ

abbrev pub wire_sight : {W : Type 0} → (W → Option Link) → (W → Bool) → (W → ℕ) → W → WireSight
wire_sight link ended faults w = record { link = link w; ended = ended w; faults = faults w }

-- what a shelf tells, where it does, and its count of faults
pub record ShelfSight : Type 0 where
  pub told : ToldShelf
  pub faults : ℕ

abbrev pub shelf_sight : {S : Type 0} → (S → ToldShelf) → (S → ℕ) → S → ShelfSight
shelf_sight told faults s = record { told = told s; faults = faults s }
