-- The lines of a text.
use Rattle.std.specs.Prelude.{ℕ, ◌+◌, ◌==◌, ◌&&◌, nat_eq, Bool, true, false, if◌then◌else◌, List, [], ◌∷◌, ◌++◌}
use Rattle.std.specs.List.{starts_with}

-- whether the text begins with LF
abbrev pub has_leading_line_feed : List ℕ → Bool
has_leading_line_feed [] = false
has_leading_line_feed (b ∷ rest) = b == 10

-- a byte put in front of the first line; where there is no line, it is one of its own
abbrev pub with_first_byte : ℕ → List (List ℕ) → List (List ℕ)
with_first_byte b [] = (b ∷ []) ∷ []
with_first_byte b (l ∷ ls) = (b ∷ l) ∷ ls

-- the lines of a text, without their ends. A line ends at LF, or at CR and LF; bytes behind the last end are a line too
unfoldable pub lines : List ℕ → List (List ℕ)
lines [] = []
lines (b ∷ rest) = if b == 10 then [] ∷ lines rest else (if b == 13 && has_leading_line_feed rest then lines rest else with_first_byte b (lines rest))

-- a line and its number
pub record NumberedLine : Type 0 where
  pub number : ℕ
  pub bytes : List ℕ

-- whether a line has no byte
abbrev pub is_empty : List ℕ → Bool
is_empty [] = true
is_empty (b ∷ rest) = false

-- whether a line begins with these bytes
abbrev pub begins_with : List ℕ → List ℕ → Bool
begins_with bytes first = starts_with nat_eq bytes first

-- the lines that aren't empty, with their numbers, of which the first line has n: empty lines are counted and passed over
unfoldable pub numbered_lines : ℕ → List (List ℕ) → List NumberedLine
numbered_lines n [] = []
numbered_lines n (l ∷ ls) = if is_empty l then numbered_lines (n + 1) ls else record { number = n; bytes = l } ∷ numbered_lines (n + 1) ls

-- the lines of a text that aren't empty, numbered from 1
abbrev pub lines_of : List ℕ → List NumberedLine
lines_of text = numbered_lines 1 (lines text)

-- a text as one line, ended by LF
abbrev pub line : List ℕ → List ℕ
line text = text ++ 10 ∷ []
