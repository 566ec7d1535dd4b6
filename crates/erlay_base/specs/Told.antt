-- What objects tell before and after a call.
use Rattle.std.specs.Prelude.{⊤, None, Some}
use Rattle.std.specs.declared.option.Option.{Option}

-- P holds of what is told before and after. An object that tells goes on telling
abbrev pub AreTold : {A : Type 0} → Option A → Option A → (A → A → Type 0) → Type 0
AreTold None new P = ⊤
AreTold (Some a) None P = ⊥
AreTold (Some a) (Some b) P = P a b
