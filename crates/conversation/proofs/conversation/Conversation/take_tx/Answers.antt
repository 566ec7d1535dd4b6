use Rattle.std.proofs.Common.{refl, sym, ◌∙◌, subst}
use Rattle.wire_rules.specs.declared.message.Message.TheVariants as message
use Rattle.wire_rules.specs.declared.name.Name.TheVariants as name
use Rattle.node_rules.specs.Steps.{on_message}
use Rattle.node_rules.specs.Turns.{Turn}
use Rattle.node_rules.specs.declared.end.End.TheVariants as end
use Rattle.conversation.specs.Handled.{IsStep}
use Rattle.conversation.proofs.Relaying.{early_tx, refused, relayed_tx}
use Rattle.conversation.proofs.conversation.Conversation.take_tx.Goals as goal

pub returns-then-not-is_after_handshake : goal.returns-then-not-is_after_handshake
returns-then-not-is_after_handshake c =
    refused (on_message c.args.self.now.state (message.Tx c.args.tx.now)) c.args.self.now c.args.self.now (end.Handshake name.Tx) refl
    (early_tx c.args.self.now.state c.args.tx.now (sym c.is_after_handshake.ensures ∙ c.if-not-is_after_handshake.true))

pub on_tx-requires : goal.on_tx-requires
on_tx-requires c = record { node = c.requires.node; relaying = sym c.is_after_handshake.ensures ∙ c.if-not-is_after_handshake.false; sized = c.requires.sized }

pub returns : goal.returns
returns c =
    subst (λ (t : Turn). IsStep t c.args.self.now c.on_tx.new.self c.on_tx.result) (sym (relayed_tx c.args.self.now.state c.args.tx.now (sym c.is_after_handshake.ensures ∙ c.if-not-is_after_handshake.false)))
    c.on_tx.ensures
