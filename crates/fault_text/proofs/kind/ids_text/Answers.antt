use Rattle.std.proofs.Common.{append_assoc, rules}
use Rattle.fault_text.proofs.kind.ids_text.Goals as goal

pub returns : goal.returns
returns c = simp append_assoc (search rules)
