-- The first fault of a text that is read line by line.
use Rattle.std.specs.Prelude.{ℕ, List, [], ◌∷◌, Result, Ok, Err}
use Rattle.base_types.specs.declared.text.Kind.{Kind}
use Rattle.base_types.specs.declared.text.TextFault.{TextFault}
use Rattle.line_rules.specs.Lines.{NumberedLine}

-- goes on with what a line gave; where the line is faulty, its number and what is wrong with it
abbrev pub after_line : {A B : Type 0} → NumberedLine → Result A Kind → (A → Result B TextFault) → Result B TextFault
after_line l (Ok a) next = next a
after_line l (Err k) next = Err (record { place = l.number; kind = k })

-- the lines in order, up to the first faulty one: `step` says what a line makes of what was read before it
unfoldable pub line_fold : {S : Type 0} → (S → List ℕ → Result S Kind) → S → List NumberedLine → Result S TextFault
line_fold step s [] = Ok s
line_fold step s (l ∷ ls) = after_line l (step s l.bytes) (λ more. line_fold step more ls)
