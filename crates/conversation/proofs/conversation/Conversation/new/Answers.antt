use Rattle.std.proofs.Common.{◌∙◌, ap}
use Rattle.invariant_laws.proofs.Sending.{opening-sendable}
use Rattle.outbox.specs.Waiting.{Waiting}
use Rattle.conversation.proofs.Stages.{fresh}
use Rattle.conversation.proofs.conversation.Conversation.new.Goals as goal

pub push_all-requires : goal.push_all-requires
push_all-requires c = rw (c.as_slice.ensures.value ∙ c.in_ok-messages.ensures) (opening-sendable c.args.config c.requires)

pub invariant_of-result : goal.invariant_of-result
invariant_of-result c = (fresh c.args.config.role, ap (λ (w : Waiting). w.magic) c.in_ok-push_all.ensures.ok ∙ ap (λ (w : Waiting). w.magic) c.new-outbox.ensures)
