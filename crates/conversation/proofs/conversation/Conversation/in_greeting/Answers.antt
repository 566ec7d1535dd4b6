use Rattle.conversation.proofs.Shaking.{greeting_other}
use Rattle.conversation.proofs.Taking.{step_as, greeting_ping, greeting_pong, greeting_version}
use Rattle.conversation.proofs.conversation.Conversation.in_greeting.Goals as goal

pub returns-in-Version : goal.returns-in-Version
returns-in-Version c = step_as c.args.self.now _ _ _ _ (greeting_version c.args.self.now.state c.args.message.now _ c.in-Version.is) c.on_version.ensures

pub returns-in-Ping : goal.returns-in-Ping
returns-in-Ping c = step_as c.args.self.now _ _ _ _ (greeting_ping c.args.self.now.state c.args.message.now _ c.in-Ping.is) c.pass_over.ensures

pub returns-in-Pong : goal.returns-in-Pong
returns-in-Pong c = step_as c.args.self.now _ _ _ _ (greeting_pong c.args.self.now.state c.args.message.now _ c.in-Pong.is) c.pass_over-in-Pong.ensures

pub returns-in_default : goal.returns-in_default
returns-in_default c = step_as c.args.self.now _ _ _ _ (greeting_other c.args.self.now.state c.args.message.now c.in_default.not-Version c.in_default.not-Ping c.in_default.not-Pong) c.refuse.ensures
