use Rattle.wire_rules.specs.Limits.{is_within_limits}
use Rattle.conversation.proofs.Taking.{step_as, relay_other}
use Rattle.conversation.proofs.conversation.Conversation.in_relay.Goals as goal

pub returns-in_default : goal.returns-in_default
returns-in_default c =
    step_as c.args.self.now _ _ _ _
    (relay_other c.args.self.now.state c.args.message.now c.in_default.not-ReqRecon c.in_default.not-Sketch c.in_default.not-ReqSketchExt c.in_default.not-ReconcilDiff c.in_default.not-Inv c.in_default.not-GetData c.in_default.not-NotFound c.in_default.not-Tx c.in_default.not-Ping c.in_default.not-Pong)
    c.refuse.ensures

pub on_tx-requires-clause-sized : goal.on_tx-requires-clause-sized
unfolding is_within_limits
on_tx-requires-clause-sized c = rw c.as_slice-in-Tx.ensures (rw c.in-Tx.is at c.requires.message.within)
