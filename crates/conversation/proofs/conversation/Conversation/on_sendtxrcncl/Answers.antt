use Rattle.std.proofs.Common.{refl, sym, ◌∙◌}
use Rattle.node_rules.specs.declared.end.End.TheVariants as end
use Rattle.wire_rules.specs.declared.name.Name.TheVariants as name
use Rattle.node_rules.specs.Handshake.{on_sendtxrcncl}
use Rattle.conversation.specs.Views.{offer_of}
use Rattle.conversation.proofs.Shaking.{zero_offer, second_offer, offer_taken, offered}
use Rattle.conversation.proofs.Steps.{refused}
use Rattle.conversation.proofs.Views.{parts_of}
use Rattle.conversation.proofs.conversation.Conversation.on_sendtxrcncl.Goals as goal

pub returns-then-is_zero : goal.returns-then-is_zero
returns-then-is_zero c = refused c.args.self.now (on_sendtxrcncl c.args.self.now.state (offer_of c.args.offer)) _ end.ZeroReconVersion refl (zero_offer c.args.self.now.state (offer_of c.args.offer) (sym c.is_zero.ensures ∙ c.if-is_zero.true))

pub returns-then-is_some : goal.returns-then-is_some
returns-then-is_some c = refused c.args.self.now (on_sendtxrcncl c.args.self.now.state (offer_of c.args.offer)) _ (end.Handshake name.SendTxRcncl) refl (second_offer c.args.self.now.state (offer_of c.args.offer) (sym c.is_zero.ensures ∙ c.if-is_zero.false) (offered (parts_of c.self.inside.config c.self.inside.peer c.self.inside.stage c.self.inside.set c.self.inside.store c.self.inside.outbox) c.args.self.now c.self.view_is ∙ (sym c.is_some.ensures ∙ c.if-is_some.true)))

pub returns : goal.returns
returns c = offer_taken (parts_of c.self.inside.config c.self.inside.peer c.self.inside.stage c.self.inside.set c.self.inside.store c.self.inside.outbox) c.args.self.now c.self.view_is c.args.offer (sym c.is_zero.ensures ∙ c.if-is_zero.false) (sym c.is_some.ensures ∙ c.if-is_some.false) c.self.invariant.0 c.requires
