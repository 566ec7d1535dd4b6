use Rattle.conversation.proofs.Shaking.{greeted_other}
use Rattle.conversation.proofs.Taking.{step_as, greeted_offer, greeted_ping, greeted_pong, greeted_relay, greeted_verack}
use Rattle.conversation.proofs.conversation.Conversation.in_greeted.Goals as goal

pub returns-in-WtxidRelay : goal.returns-in-WtxidRelay
returns-in-WtxidRelay c = step_as c.args.self.now _ _ _ _ (greeted_relay c.args.self.now.state c.args.message.now c.in-WtxidRelay.is) c.on_wtxidrelay.ensures

pub returns-in-SendTxRcncl : goal.returns-in-SendTxRcncl
returns-in-SendTxRcncl c = step_as c.args.self.now _ _ _ _ (greeted_offer c.args.self.now.state c.args.message.now _ _ c.in-SendTxRcncl.is) c.on_sendtxrcncl.ensures

pub returns-in-Verack : goal.returns-in-Verack
returns-in-Verack c = step_as c.args.self.now _ _ _ _ (greeted_verack c.args.self.now.state c.args.message.now c.in-Verack.is) c.on_verack.ensures

pub returns-in-Ping : goal.returns-in-Ping
returns-in-Ping c = step_as c.args.self.now _ _ _ _ (greeted_ping c.args.self.now.state c.args.message.now _ c.in-Ping.is) c.pass_over.ensures

pub returns-in-Pong : goal.returns-in-Pong
returns-in-Pong c = step_as c.args.self.now _ _ _ _ (greeted_pong c.args.self.now.state c.args.message.now _ c.in-Pong.is) c.pass_over-in-Pong.ensures

pub returns-in_default : goal.returns-in_default
returns-in_default c = step_as c.args.self.now _ _ _ _ (greeted_other c.args.self.now.state c.args.message.now c.in_default.not-WtxidRelay c.in_default.not-SendTxRcncl c.in_default.not-Verack c.in_default.not-Ping c.in_default.not-Pong) c.refuse.ensures
