use Rattle.conversation.proofs.Shaking.{relay_taken}
use Rattle.conversation.proofs.Views.{parts_of}
use Rattle.conversation.proofs.conversation.Conversation.on_wtxidrelay.Goals as goal

pub returns : goal.returns
returns c = relay_taken (parts_of c.self.inside.config c.self.inside.peer c.self.inside.stage c.self.inside.set c.self.inside.store c.self.inside.outbox) c.args.self.now c.self.view_is
