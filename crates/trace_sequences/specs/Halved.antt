-- Taps that are halved: the lists whose multiples make correlations with them.
use Rattle.std.specs.Prelude.{◌≡◌, ℕ, zero, suc, ◌+◌, ◌≤◌, ◌^◌, List, [], ◌∷◌, ◌++◌, length, take, drop, reverse, replicate}
use Rattle.field_rules.specs.Ops.{Ops}
use Rattle.field_rules.specs.Lists.{sums_of_both}

-- the first third of the lists is for the sum of the halves of t, the next for its first half, the last for its second
pub record AreForHalves {A : Type 0} (ops : Ops A) (are_for : List A → List (List A) → Type 0) (third : ℕ) (t : List A) (lists : List (List A)) : Type 0 where
  pub first : List A
  pub second : List A
  pub whole : t ≡ first ++ second
  pub alike : length first ≡ length second
  pub for_sum : are_for (sums_of_both ops first second) (take third lists)
  pub for_first : are_for first (take third (drop third lists))
  pub for_second : are_for second (drop third (drop third lists))

-- the lists for t, where it is halved so many times: t turned round, where it isn't
unfoldable pub AreLists : {A : Type 0} → Ops A → ℕ → List A → List (List A) → Type 0
AreLists ops zero t lists = (1 ≤ length t) × (lists ≡ reverse t ∷ [])
AreLists ops (suc depth) t lists = AreForHalves ops (AreLists ops depth) (3 ^ depth) t lists

-- those of t with zeros behind it, up to a size
pub record ArePaddedLists {A : Type 0} (ops : Ops A) (depth size : ℕ) (t : List A) (lists : List (List A)) : Type 0 where
  pub zeros : ℕ
  pub size_is : length t + zeros ≡ size
  pub lists_are : AreLists ops depth (t ++ replicate zeros ops.zero) lists
