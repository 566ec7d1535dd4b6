-- Each clause is a lemma.
use Rattle.text_commands.proofs.Differences.{difference_decoded, difference_found}
use Rattle.text_commands.proofs.laws.differences_are_decoded.Goals as goal

pub returns-clause-sum : goal.returns-clause-sum
returns-clause-sum c = difference_decoded

pub returns-clause-texts : goal.returns-clause-texts
returns-clause-texts c = difference_found
