use Rattle.sketch_text_rules.proofs.Written.{set_in-text}
use Rattle.sketch_text_rules.proofs.written_sets_are_read.Goals as goal

pub returns : goal.returns
returns c = set_in-text
