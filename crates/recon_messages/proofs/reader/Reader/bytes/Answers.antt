use Rattle.recon_messages.proofs.Fields.{bytes_short, bytes_taken}
use Rattle.recon_messages.proofs.reader.Reader.bytes.Goals as goal

pub returns-in_default : goal.returns-in_default
returns-in_default c = rw (← c.self.view_is) (bytes_short c.args.n c.self.inside.at c.self.inside.rest.now c.in_default.ensures.cases)

pub returns : goal.returns
returns c = rw (← c.self.view_is, c.in-Some.ensures.cases.1, c.in-Some.ensures.cases.2) (bytes_taken c.args.n c.self.inside.at c.self.inside.rest.now c.in-Some.ensures.cases.0)
