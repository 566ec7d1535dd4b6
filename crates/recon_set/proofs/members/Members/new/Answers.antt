use Rattle.recon_set.proofs.Kept.{is_kept-none}
use Rattle.recon_set.proofs.members.Members.new.Goals as goal

pub invariant_of-result : goal.invariant_of-result
invariant_of-result c = is_kept-none _ _ c.new.ensures c.new-2.ensures.empty
