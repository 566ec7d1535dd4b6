use Rattle.std.proofs.Common.{◌∙◌}
use Rattle.recon_set.proofs.Announced.{found-listed}
use Rattle.recon_set.proofs.members.is_among.Goals as goal

pub returns : goal.returns
returns c = c.is_ok.ensures.value ∙ found-listed c.args.sorted.now c.args.number c.binary_search.result c.binary_search.ensures.position c.requires
