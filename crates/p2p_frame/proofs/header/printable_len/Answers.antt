use Rattle.std.proofs.Common.{◌∙◌, ap, unwrap_or, length, rules}
use Rattle.p2p_frame.proofs.Commands.{position-unwrapped, position-within}
use Rattle.p2p_frame.proofs.header.printable_len.Goals as goal

pub returns-clause-length : goal.returns-clause-length
returns-clause-length c = c.unwrap_or.ensures ∙ (ap (λ o. unwrap_or o (length c.args.bytes.now)) c.first_other.ensures ∙ position-unwrapped c.args.bytes.now)

pub returns-clause-within : goal.returns-clause-within
returns-clause-within c = let same = returns-clause-length c in let low = position-within c.args.bytes.now in rw same low
