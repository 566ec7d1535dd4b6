-- The first of some numbers that repeats an earlier one.
use Rattle.std.specs.Prelude.{◌≡◌, ◌<◌, ℕ, List, length, take, slice_index}
use Rattle.std.specs.List.{AllPairs, AllWithin, Contains}
use Rattle.field_rules.specs.Lists.{AreDistinct}

-- each number that xs has twice is among `repeats`
abbrev pub HasRepeats : List ℕ → List ℕ → Type 0
HasRepeats repeats xs = AllPairs (λ a b. a ≡ b → Contains repeats a) xs

-- the number at `index` repeats an earlier one, and none before it does
pub record IsFirstRepeat (xs : List ℕ) (index : ℕ) : Type 0 where
  pub within : index < length xs
  pub fresh : AreDistinct (take index xs)
  pub again : Contains (take index xs) (slice_index xs index)

-- x stands at `index`, and the numbers before it are those that are smaller
pub record IsIndexOf (xs : List ℕ) (x index : ℕ) : Type 0 where
  pub within : index < length xs
  pub here : slice_index xs index ≡ x
  pub smaller : AllWithin (λ y. y < x) xs 0 index
