-- Reading line by line, one line at a time.
use Rattle.std.proofs.Common.{◌≡◌, ℕ, List, [], ◌∷◌, Result, Ok, Err, refl, ap}
use Rattle.base_types.specs.declared.text.Kind.{Kind}
use Rattle.line_rules.specs.Lines.{NumberedLine}
use Rattle.line_rules.specs.Reading.{after_line, line_fold}

module _ {S : Type 0} (step : S → List ℕ → Result S Kind) (s : S) where
  -- where no line is left
  pub line_fold-none : line_fold step s [] ≡ Ok s
  unfolding line_fold
  line_fold-none = refl

  -- a line that is sound
  pub line_fold-step : (l : NumberedLine) (ls : List NumberedLine) (more : S) → step s l.bytes ≡ Ok more → line_fold step s (l ∷ ls) ≡ line_fold step more ls
  unfolding line_fold
  line_fold-step l ls more sound = ap (λ r. after_line l r (λ s. line_fold step s ls)) sound

  -- a line that is faulty
  pub line_fold-fault : (l : NumberedLine) (ls : List NumberedLine) (k : Kind) → step s l.bytes ≡ Err k → line_fold step s (l ∷ ls) ≡ Err (record { place = l.number; kind = k })
  unfolding line_fold
  line_fold-fault l ls k faulty = ap (λ r. after_line l r (λ s. line_fold step s ls)) faulty
