use Rattle.std.proofs.Common.{◌<◌, ◌≤◌, IfSome, subst, arith}
use Rattle.responder.specs.Machines.{Progress}
use Rattle.responder.proofs.Steps.{idle_extends_not, level_extends_not, extension_answers}
use Rattle.responder.proofs.responder.Responder.on_reqsketchext.Goals as goal

pub returns-in_default-clause-refused : goal.returns-in_default-clause-refused
returns-in_default-clause-refused g c =
    idle_extends_not c.self.inside.level c.self.inside.reports.items c.args.self.now c.self.inside.round c.misplaced-misplaced.result c.self.view_is c.in_default.is c.misplaced-misplaced.ensures

pub returns-then-extensions-self-clause-refused : goal.returns-then-extensions-self-clause-refused
returns-then-extensions-self-clause-refused g c =
    level_extends_not c.self.inside.level c.self.inside.reports.items c.args.self.now c.self.inside.round c.in-Some.round c.misplaced-misplaced.result c.self.view_is c.in-Some.is (omega arith) (omega arith) c.misplaced-misplaced.ensures

pub returns-clause-answered : goal.returns-clause-answered
returns-clause-answered g c =
    let within = subst (λ o. IfSome o (λ (p : Progress). p.extensions ≤ c.self.inside.level)) c.in-Some.is c.self.invariant.within in
    let below : c.in-Some.round.extensions < c.self.inside.level = omega arith in
    extension_answers c.self.inside.level c.self.inside.reports.items c.args.self.now c.self.inside.round c.in-Some.round c.extend.new.self c.in_ok-sums.sums c.self.view_is c.in-Some.is (omega arith) below c.extend.ensures c.in_ok-sums.ensures
