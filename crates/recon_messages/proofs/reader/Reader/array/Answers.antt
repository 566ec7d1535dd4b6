use Rattle.std.proofs.Common.{arith}
use Rattle.recon_messages.proofs.Fields.{bytes_short, bytes_taken}
use Rattle.recon_messages.proofs.reader.Reader.array.Goals as goal

pub returns-in_default : goal.returns-in_default
returns-in_default g c = rw (← c.self.view_is) (bytes_short g.row.N c.self.inside.at c.self.inside.rest.now c.in_default.ensures.cases)

pub returns : goal.returns
returns g c = rw (← c.self.view_is, c.in-Some.ensures.cases.0, c.in-Some.ensures.cases.1) (bytes_taken g.row.N c.self.inside.at c.self.inside.rest.now (omega (arith, c.in-Some.ensures.cases.2)))
