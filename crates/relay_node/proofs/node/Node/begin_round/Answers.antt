use Rattle.std.proofs.Common.{sym, ap}
use Rattle.std.proofs.lemmas.Result.{IfOk-weaker}
use Rattle.node_rules.specs.Steps.{on_start}
use Rattle.node_laws.proofs.Ended.{on_start-ended}
use Rattle.node_laws.proofs.LaterSteps.{on_start-later}
use Rattle.invariant_laws.proofs.Joined.{on_start-node}
use Rattle.relay_node.specs.Views.{inbox_of}
use Rattle.relay_node.proofs.Nodes.{IsBeside, linked-behind, opened, seen-state, seen-behind, seen-end, seen-stays}
use Rattle.relay_node.proofs.Steps.{on_start-beside, on_start-begun}
use Rattle.relay_node.proofs.node.Node.begin_round.Goals as goal

pub invariant_of-self : goal.invariant_of-self
invariant_of-self c =
    let v = c.self.inside.conversation in
    let h = opened v c.self.inside.link c.in-Open.field-0 c.in-Open.is c.self.invariant in
    linked-behind c.begin_round.result v c.begin_round.new.self c.self.inside.link c.in-Open.field-0 (on_start v.state).turn _ c.in-Open.is h
    (on_start-beside (inbox_of c.in-Open.field-0) v.state) (on_start-node v.state h.node) (on_start-later v.state).config c.begin_round.ensures.ok c.begin_round.ensures.err

pub returns-in-Open-clause-told : goal.returns-in-Open-clause-told
returns-in-Open-clause-told c =
    let v = c.self.inside.conversation in
    let h = opened v c.self.inside.link c.in-Open.field-0 c.in-Open.is c.self.invariant in
    let same = seen-state v c.args.self.now c.self.inside.link c.in-Open.field-0 c.self.view_is c.in-Open.is h.unended in
    rw (same, on_start-begun) c.begin_round.ensures.told

pub returns-in-Open-clause-ok : goal.returns-in-Open-clause-ok
returns-in-Open-clause-ok c =
    let v = c.self.inside.conversation in
    let h = opened v c.self.inside.link c.in-Open.field-0 c.in-Open.is c.self.invariant in
    let same = seen-state v c.args.self.now c.self.inside.link c.in-Open.field-0 c.self.view_is c.in-Open.is h.unended in
    let t = (on_start v.state).turn in
    let u = (on_start c.args.self.now.state).turn in
    let beside : IsBeside (inbox_of c.in-Open.field-0) v.state t u = rw same (on_start-beside (inbox_of c.in-Open.field-0) v.state) in
    IfOk-weaker c.begin_round.result _ _ (λ a k. seen-behind v c.args.self.now c.self.inside.link c.in-Open.field-0 c.self.view_is c.in-Open.is h.unended c.begin_round.new.self t u beside k) c.begin_round.ensures.ok

pub returns-in-Ended-clause-told : goal.returns-in-Ended-clause-told
returns-in-Ended-clause-told c =
    let ended = seen-end c.self.inside.conversation c.args.self.now c.self.inside.link c.in-Ended.end c.in-Ended.offset c.self.view_is c.in-Ended.is in
    sym (ap (λ x. x.begun) (on_start-ended c.args.self.now.state c.in-Ended.end ended))

pub returns-in-Ended-clause-ok : goal.returns-in-Ended-clause-ok
returns-in-Ended-clause-ok c =
    let ended = seen-end c.self.inside.conversation c.args.self.now c.self.inside.link c.in-Ended.end c.in-Ended.offset c.self.view_is c.in-Ended.is in
    seen-stays c.self.inside.conversation c.args.self.now c.self.inside.link c.in-Ended.end c.in-Ended.offset c.self.view_is c.in-Ended.is (on_start c.args.self.now.state).turn (ap (λ x. x.turn) (on_start-ended c.args.self.now.state c.in-Ended.end ended))
