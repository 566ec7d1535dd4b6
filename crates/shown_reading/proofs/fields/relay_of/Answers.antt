use Rattle.std.proofs.Common.{◌∙◌, sym, ap, List, ℕ, codes, bytes_eq}
use Rattle.std.proofs.lemmas.Slice.Eq.{bytes_eq-Decides}
use Rattle.shown_reading.proofs.OneWord.{none_only}
use Rattle.shown_reading.proofs.fields.relay_of.Goals as goal

pub returns-then-eq : goal.returns-then-eq
returns-then-eq c = none_only c.args.word.now ((bytes_eq-Decides c.args.word.now (codes "none")).0 (ap (λ (s : List ℕ). bytes_eq c.args.word.now s) (sym c.as_slice.ensures) ∙ (sym c.eq.ensures ∙ c.if-eq.true)))
