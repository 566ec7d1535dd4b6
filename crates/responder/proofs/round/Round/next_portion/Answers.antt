use Rattle.std.proofs.Common.{ap, arith}
use Rattle.responder.specs.Machines.{Progress}
use Rattle.responder.proofs.Steps.{within_largest}
use Rattle.responder.proofs.round.Round.next_portion.Goals as goal

pub portion-requires-clause-within : goal.portion-requires-clause-within
portion-requires-clause-within g c =
    let sent = ap (λ (p : Progress). p.extensions) c.self.view_is in
    let small = within_largest c.self.inside.capacity c.self.inside.extensions c.self.invariant.greatest (omega arith) in
    omega arith
