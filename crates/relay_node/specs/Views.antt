-- What a node is: its conversation, and what it has received.
use Rattle.std.specs.Prelude.{◌≡◌, ℕ, ◌<◌, ◌^◌, Bool, true, false, IsTrue, List, [], ◌++◌, Some, None}
use Rattle.std.specs.declared.option.Option.{Option}
use Rattle.id_rules.specs.Bytes.{are_bytes}
use Rattle.node_rules.specs.Invariant.{IsNode}
use Rattle.node_rules.specs.State.{Inbox, NodeState, NodeView, no_wants}
use Rattle.node_rules.specs.declared.end.End.{End}
use Rattle.p2p_frame.specs.Feeding.{Feed}
use Rattle.relay_node.specs.declared.link.Link.{Link}
use Rattle.relay_node.specs.declared.link.Link.TheVariants as link

-- the unread bytes of a feeder, and the offset of the first of them
abbrev pub inbox_of : Feed → Inbox
inbox_of feed = record { unread = feed.unread; offset = feed.place }

-- a feeder with more bytes behind those that it has
abbrev pub with_bytes : Feed → List ℕ → Feed
with_bytes feed bytes = record feed { unread = feed.unread ++ bytes }

-- a node that has stopped holds no bytes
abbrev pub inbox_at : Link → Inbox
inbox_at (link.Open feed) = inbox_of feed
inbox_at (link.Ended end offset) = record { unread = []; offset = offset }
inbox_at link.OutOfMemory = record { unread = []; offset = 0 }

abbrev pub end_at : Link → Option End
end_at (link.Ended end offset) = Some end
end_at other = None

abbrev pub is_starved_at : Link → Bool
is_starved_at link.OutOfMemory = true
is_starved_at other = false

-- a node that has received other bytes, and may have ended
abbrev pub state_at : NodeState → Link → NodeState
state_at s l = record s { inbox = inbox_at l; ended = end_at l }

abbrev pub view_at : NodeView → Link → NodeView
view_at v l = record { state = state_at v.state l; outbox = v.outbox; out_of_memory = is_starved_at l }

-- a feeder of the node's stream, of which no fault was answered
pub record IsFeederOf (s : NodeState) (feed : Feed) : Type 0 where
  pub magic : feed.magic ≡ s.config.magic
  pub going : feed.stop ≡ None
  pub unread : IsTrue (are_bytes feed.unread)
  pub place : feed.place < 2 ^ 64

-- a node that takes what comes
pub record IsOpen (s : NodeState) (feed : Feed) : Type 0 where
  pub node : IsNode s
  pub unended : s.ended ≡ None
  pub feeder : IsFeederOf s feed

-- a node's own invariant holds until memory is refused; then nothing is wanted any more
abbrev pub IsLinked : NodeView → Link → Type 0
IsLinked v (link.Open feed) = IsOpen v.state feed
IsLinked v (link.Ended end offset) = IsNode v.state × (offset < 2 ^ 64)
IsLinked v link.OutOfMemory = v.state.wants ≡ no_wants
