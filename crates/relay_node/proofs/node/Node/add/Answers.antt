use Rattle.std.proofs.Common.{length, sym, ap}
use Rattle.std.proofs.lemmas.Bool.{and_from}
use Rattle.std.proofs.lemmas.Result.{IfOk-weaker}
use Rattle.id_rules.specs.Bytes.{are_bytes, is_tx_length}
use Rattle.pool_laws.proofs.Insertions.{tx-transaction_of}
use Rattle.node_rules.specs.Additions.{on_addition}
use Rattle.node_laws.proofs.Ended.{on_addition-ended}
use Rattle.node_laws.proofs.LaterSteps.{on_addition-later}
use Rattle.invariant_laws.proofs.Joined.{on_addition-node}
use Rattle.relay_node.specs.Views.{inbox_of}
use Rattle.relay_node.proofs.Nodes.{IsBeside, linked-behind, opened, seen-state, seen-behind, seen-end, seen-stays}
use Rattle.relay_node.proofs.Steps.{on_addition-beside, on_addition-added}
use Rattle.relay_node.proofs.node.Node.add.Goals as goal

pub invariant_of-self : goal.invariant_of-self
invariant_of-self c =
    let v = c.self.inside.conversation in
    let h = opened v c.self.inside.link c.in-Open.field-0 c.in-Open.is c.self.invariant in
    linked-behind c.add.result v c.add.new.self c.self.inside.link c.in-Open.field-0 (on_addition v.state c.args.tx).turn _ c.in-Open.is h
    (on_addition-beside (inbox_of c.in-Open.field-0) v.state c.args.tx) (on_addition-node v.state h.node c.args.tx (tx-transaction_of c.args.tx (and_from (is_tx_length (length c.args.tx)) (are_bytes c.args.tx) c.requires (rw c.as_slice.ensures at c.is_tx.ensures.bytes)))) (on_addition-later v.state c.args.tx).config c.add.ensures.ok c.add.ensures.err

pub returns-in-Open-clause-told : goal.returns-in-Open-clause-told
returns-in-Open-clause-told c =
    let v = c.self.inside.conversation in
    let h = opened v c.self.inside.link c.in-Open.field-0 c.in-Open.is c.self.invariant in
    let same = seen-state v c.args.self.now c.self.inside.link c.in-Open.field-0 c.self.view_is c.in-Open.is h.unended in
    rw (same, on_addition-added) c.add.ensures.told

pub returns-in-Open-clause-ok : goal.returns-in-Open-clause-ok
returns-in-Open-clause-ok c =
    let v = c.self.inside.conversation in
    let h = opened v c.self.inside.link c.in-Open.field-0 c.in-Open.is c.self.invariant in
    let same = seen-state v c.args.self.now c.self.inside.link c.in-Open.field-0 c.self.view_is c.in-Open.is h.unended in
    let t = (on_addition v.state c.args.tx).turn in
    let u = (on_addition c.args.self.now.state c.args.tx).turn in
    let beside : IsBeside (inbox_of c.in-Open.field-0) v.state t u = rw same (on_addition-beside (inbox_of c.in-Open.field-0) v.state c.args.tx) in
    IfOk-weaker c.add.result _ _ (λ a k. seen-behind v c.args.self.now c.self.inside.link c.in-Open.field-0 c.self.view_is c.in-Open.is h.unended c.add.new.self t u beside k) c.add.ensures.ok

pub returns-in-Ended-clause-told : goal.returns-in-Ended-clause-told
returns-in-Ended-clause-told c =
    let ended = seen-end c.self.inside.conversation c.args.self.now c.self.inside.link c.in-Ended.end c.in-Ended.offset c.self.view_is c.in-Ended.is in
    sym (ap (λ x. x.added) (on_addition-ended c.args.self.now.state c.in-Ended.end c.args.tx ended))

pub returns-in-Ended-clause-ok : goal.returns-in-Ended-clause-ok
returns-in-Ended-clause-ok c =
    let ended = seen-end c.self.inside.conversation c.args.self.now c.self.inside.link c.in-Ended.end c.in-Ended.offset c.self.view_is c.in-Ended.is in
    seen-stays c.self.inside.conversation c.args.self.now c.self.inside.link c.in-Ended.end c.in-Ended.offset c.self.view_is c.in-Ended.is (on_addition c.args.self.now.state c.args.tx).turn (ap (λ x. x.turn) (on_addition-ended c.args.self.now.state c.in-Ended.end c.args.tx ended))
