-- The lines that aren't empty, told by the first line.
use Rattle.std.proofs.Common.{◌≡◌, ℕ, ◌+◌, ◌<◌, ◌≤◌, List, [], ◌∷◌, length, refl, arith}
use Rattle.line_rules.specs.Lines.{lines, lines_of, numbered_lines}
use Rattle.line_text.proofs.Cutting.{length-lines}

pub numbered_lines-full : (n : ℕ) (l : List ℕ) (ls : List (List ℕ)) → 0 < length l → numbered_lines n (l ∷ ls) ≡ record { number = n; bytes = l } ∷ numbered_lines (n + 1) ls
unfolding numbered_lines
numbered_lines-full n [] ls some = absurd (omega arith)
numbered_lines-full n (b ∷ l) ls some = refl

pub numbered_lines-empty : (n : ℕ) (l : List ℕ) (ls : List (List ℕ)) → l ≡ [] → numbered_lines n (l ∷ ls) ≡ numbered_lines (n + 1) ls
unfolding numbered_lines
numbered_lines-empty n l ls none = rw none

pub numbered_lines-none : (n : ℕ) → numbered_lines n (lines []) ≡ []
unfolding lines numbered_lines
numbered_lines-none n = refl

length-numbered_lines : (n : ℕ) (ls : List (List ℕ)) → length (numbered_lines n ls) ≤ length ls
unfolding numbered_lines
length-numbered_lines n [] = omega arith
length-numbered_lines n ([] ∷ ls) = omega (arith, length-numbered_lines (n + 1) ls)
length-numbered_lines n ((b ∷ l) ∷ ls) = omega (arith, length-numbered_lines (n + 1) ls)

-- a text has no more lines than bytes
pub length-lines_of : (text : List ℕ) → length (lines_of text) ≤ length text
length-lines_of text = omega (arith, length-numbered_lines 1 (lines text), length-lines text)
