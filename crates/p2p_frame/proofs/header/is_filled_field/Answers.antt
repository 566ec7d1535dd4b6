use Rattle.std.proofs.Common.{◌∙◌, sym, rules}
use Rattle.p2p_frame.proofs.Commands.{is_filled-behind}
use Rattle.p2p_frame.proofs.header.is_filled_field.Goals as goal

pub returns : goal.returns
returns c = rw (is_filled-behind c.args.bytes.now) (search rules)
