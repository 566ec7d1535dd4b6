use Rattle.duet.proofs.Reached.{new-pair}
use Rattle.duet.proofs.duet.Duet.new.Goals as goal

pub invariant_of-result : goal.invariant_of-result
invariant_of-result c = new-pair c.args.a c.args.b c.requires
