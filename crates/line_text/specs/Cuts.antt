-- A line without the CR before its LF.
use Rattle.std.specs.Prelude.{ℕ, ◌==◌, if◌then◌else◌, List, [], ◌∷◌}

-- a line without the CR that it may end in
abbrev pub without_carriage_return : List ℕ → List ℕ
without_carriage_return [] = []
without_carriage_return (b ∷ []) = if b == 13 then [] else b ∷ []
without_carriage_return (b ∷ c ∷ rest) = b ∷ without_carriage_return (c ∷ rest)
