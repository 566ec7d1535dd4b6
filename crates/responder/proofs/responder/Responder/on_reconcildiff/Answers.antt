use Rattle.std.proofs.Common.{◌≡◌, ◌≤◌, None, ap, ◌∙◌, IfSome, subst, arith}
use Rattle.std.proofs.lemmas.Result.{err_from_is_err_and}
use Rattle.node_rules.specs.Accepter.{diff_fault, accepter_announcement, ending_of}
use Rattle.node_rules.specs.Outcomes.{report_of}
use Rattle.node_rules.specs.Turns.{inv_of}
use Rattle.responder.specs.Refusals.{IsFault}
use Rattle.responder.specs.Machines.{Progress, round_of}
use Rattle.responder.proofs.Steps.{idle_ends_not, faults_refused, diff_answers}
use Rattle.responder.proofs.responder.Responder.on_reconcildiff.Goals as goal

pub returns-in_default-clause-refused : goal.returns-in_default-clause-refused
returns-in_default-clause-refused g c =
    idle_ends_not c.self.inside.level c.self.inside.reports.items c.args.self.now c.args.success c.args.asks.now c.self.inside.round c.misplaced-misplaced.result c.self.view_is c.in_default.is c.misplaced-misplaced.ensures

pub returns-in_err-check_diff-clause-refused : goal.returns-in_err-check_diff-clause-refused
returns-in_err-check_diff-clause-refused g c =
    let within = subst (λ o. IfSome o (λ (p : Progress). p.extensions ≤ c.self.inside.level)) c.in-Some.is c.self.invariant.within in
    let fault = subst (λ asks. IsFault (diff_fault c.args.success (round_of c.in-Some.round) asks) c.in_err-check_diff.field-0.0) c.as_slice.ensures c.in_err-check_diff.ensures.refused in
    let p = err_from_is_err_and c.from_residual.result c.from_residual.ensures.1 in
    rw (p.1, p.2)
    (faults_refused c.self.inside.level c.self.inside.reports.items c.args.self.now c.args.success c.args.asks.now c.self.inside.round c.in-Some.round c.self.view_is c.in-Some.is (omega arith) c.in_err-check_diff.field-0.0 fault)

pub returns-clause-answered : goal.returns-clause-answered
returns-clause-answered g c =
    let within = subst (λ o. IfSome o (λ (p : Progress). p.extensions ≤ c.self.inside.level)) c.in-Some.is c.self.invariant.within in
    let sound = subst (λ asks. diff_fault c.args.success (round_of c.in-Some.round) asks ≡ None) c.as_slice.ensures c.in_ok-check_diff.ensures.sound in
    diff_answers c.self.inside.level c.self.inside.reports.items c.args.self.now c.args.success c.args.asks.now c.self.inside.round c.in-Some.round c.self.view_is c.in-Some.is (omega arith)
    c.in_ok-report.report c.push.new.self.items c.in_ok-announced.announced c.from_vec.result sound
    (c.in_ok-announced.ensures ∙ ap (accepter_announcement c.args.success (round_of c.in-Some.round)) c.as_slice-2.ensures)
    (c.in_ok-report.ensures ∙ ap (report_of (round_of c.in-Some.round) (ending_of c.args.success c.in-Some.round.extensions)) c.as_slice-4.ensures)
    c.in_ok-push.ensures.items
    (c.from_vec.ensures ∙ c.in_ok-messages.ensures ∙ ap inv_of c.as_slice-3.ensures)
