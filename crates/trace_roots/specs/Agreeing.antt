-- Sums of odd powers among those of all powers.
use Rattle.std.specs.Prelude.{◌≡◌, ℕ, ◌*◌, ◌<◌, List, length}
use Rattle.field_rules.specs.Ops.{Ops}
use Rattle.poly_rules.specs.Polynomials.{coefficient}

-- the sums s_1, s_3, .. are those that stand among s_1, s_2, s_3, ..
abbrev pub AreAtOddPowers : {A : Type 0} → Ops A → List A → List A → Type 0
AreAtOddPowers ops odd sums = (i : ℕ) → i < length odd → coefficient ops odd i ≡ coefficient ops sums (2 * i)
