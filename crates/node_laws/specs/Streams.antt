-- What a node makes of a stream of messages.
use Rattle.std.specs.Prelude.{◌≡◌, List, [], Some}
use Rattle.wire_rules.specs.Stream.{StreamFault, StreamFrameFault, StreamPayloadFault}
use Rattle.wire_rules.specs.declared.message.Message.{Message}
use Rattle.node_rules.specs.State.{Inbox, NodeState}
use Rattle.node_rules.specs.Steps.{next_unless_ended, on_messages}
use Rattle.node_rules.specs.Turns.{Turn, refusal}
use Rattle.node_rules.specs.declared.end.End.{End}
use Rattle.node_rules.specs.declared.end.End.TheVariants as end
use Rattle.node_laws.specs.Inboxes.{turn_with_inbox}

-- the end that a fault of the stream is
unfoldable pub end_for : StreamFault → End
end_for (StreamFrameFault f) = end.Frame f
end_for (StreamPayloadFault f) = end.Payload f

-- the messages before a fault, and then the end that it is, where the node hasn't ended in them
abbrev pub takes_to_fault : NodeState → List Message → StreamFault → Turn
takes_to_fault s ms f = next_unless_ended (on_messages s ms).state.ended (on_messages s ms) (λ u. refusal u (end_for f))

-- u is the step t, with other bytes received; and a node that has ended in it has none
pub record IsTakenAs (t u : Turn) : Type 0 where
  pub inbox : Inbox
  pub same : u ≡ turn_with_inbox t inbox
  pub dropped : (e : End) → t.state.ended ≡ Some e → inbox.unread ≡ []
