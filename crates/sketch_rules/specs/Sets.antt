-- Sets as lists of numbers.
use Rattle.std.specs.Prelude.{ℕ, ◌==◌, ◌++◌, nat_lt, not, filter, if◌then◌else◌, List, [], ◌∷◌}
use Rattle.std.specs.List.{list_any}

-- the numbers of the first list that aren't in the second
abbrev pub relative_complement : List ℕ → List ℕ → List ℕ
relative_complement xs ys = filter (λ x. not (list_any (λ y. y == x) ys)) xs

-- an ascending list with one more number, which keeps it ascending
unfoldable pub sorted_insertion : ℕ → List ℕ → List ℕ
sorted_insertion x [] = x ∷ []
sorted_insertion x (y ∷ ys) = if nat_lt x y then x ∷ y ∷ ys else y ∷ sorted_insertion x ys

-- the numbers of a list, ascending
unfoldable pub sorted_numbers : List ℕ → List ℕ
sorted_numbers [] = []
sorted_numbers (x ∷ xs) = sorted_insertion x (sorted_numbers xs)

-- the difference of two sets: the numbers that are in exactly one of them, ascending
abbrev pub difference : List ℕ → List ℕ → List ℕ
difference xs ys = sorted_numbers (relative_complement xs ys ++ relative_complement ys xs)
