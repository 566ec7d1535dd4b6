-- Reading line by line, up to a line that stops it.
use Rattle.std.proofs.Common.{◌≡◌, ℕ, List, ◌∷◌, Result, Err, sym, ap, ◌∙◌, subst}
use Rattle.base_types.specs.declared.text.Kind.{Kind}
use Rattle.line_rules.specs.Lines.{NumberedLine}
use Rattle.line_rules.specs.Reading.{line_fold}
use Rattle.line_text.specs.Gives.{IsOutcome}
use Rattle.line_text.specs.declared.stop.ReadStop.{ReadStop}
use Rattle.line_text.proofs.Steps.{line_fold-fault}
use Rattle.tx_pool.specs.Lines.{IsLineOutcome, stop_at}
use Rattle.tx_pool.specs.declared.line.LineStop.{LineStop}
use Rattle.tx_pool.specs.declared.line.LineStop.TheVariants as stop

-- a line that stops the reading: `step` says what a line makes of what was read before it
pub outcome_at : {S A C : Type 0} (step : S → List ℕ → Result S Kind) (see : A → S) (view : C → S) (first so_far : S) (lines left rest : List NumberedLine) (l : NumberedLine) (s : LineStop) (at : ReadStop)
    → line_fold step first lines ≡ line_fold step so_far left → left ≡ l ∷ rest → IsLineOutcome see (Err s) (step so_far l.bytes) → at ≡ stop_at l.number s → IsOutcome view (Err at) (line_fold step first lines)
outcome_at step see view first so_far lines left rest l (stop.Faulty k) at read next faulty is =
    subst (λ r. IsOutcome view (Err r) (line_fold step first lines)) (sym is) (read ∙ ap (line_fold step so_far) next ∙ line_fold-fault step so_far l rest k faulty)
outcome_at step see view first so_far lines left rest l stop.OutOfMemory at read next faulty is = subst (λ r. IsOutcome view (Err r) (line_fold step first lines)) (sym is) tt
