use Rattle.std.proofs.Common.{sym, ◌∙◌}
use Rattle.recon_set.proofs.Announced.{is_sketched-single}
use Rattle.recon_set.proofs.members.Members.has_sketched.Goals as goal

pub returns : goal.returns
returns c = c.is_single.ensures.value ∙ sym (is_sketched-single c.args.self.now c.args.short)
