use Rattle.std.proofs.Common.{refl, arith, ◌∙◌}
use Rattle.sketch_text.specs.declared.plain.TheConstants.{VALUES}
use Rattle.sketch_text.proofs.Digits.{agree_below, table_at}
use Rattle.sketch_text.proofs.plain.value_of.Goals as goal

pub returns-clause-value : goal.returns-clause-value
unfolding agree_below
returns-clause-value c = c.from.ensures ∙ table_at VALUES c.args.byte (omega arith) refl
