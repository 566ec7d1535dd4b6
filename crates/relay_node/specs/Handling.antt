-- What is made of the frames that stand whole in what a node has received.
use Rattle.std.specs.Prelude.{◌≡◌, ℕ, ◌<◌, Bool, true, false, ◌++◌, length, take, Ok, Err}
use Rattle.std.specs.declared.result.Result.{Result}
use Rattle.wire_rules.specs.Layout.{wire_bytes}
use Rattle.wire_rules.specs.Reading.{message_of}
use Rattle.wire_rules.specs.Stream.{PartialFrame}
use Rattle.wire_rules.specs.declared.frame.Frame.{Frame}
use Rattle.node_rules.specs.Invariant.{IsNode}
use Rattle.node_rules.specs.State.{NodeState, NodeView}
use Rattle.node_rules.specs.Steps.{at_message, on_frames, on_unread, without_unread_if_ended}
use Rattle.node_rules.specs.Turns.{Turn, refusal, unchanged}
use Rattle.p2p_frame.specs.Feeding.{Feed, feed_front}
use Rattle.conversation.specs.Handled.{IsStarved, IsStep}
use Rattle.conversation.specs.declared.stop.Stop.{Stop}
use Rattle.conversation.specs.declared.stop.Stop.TheVariants as stop
use Rattle.relay_node.specs.Views.{IsOpen, state_at}
use Rattle.relay_node.specs.declared.link.Link.{Link}
use Rattle.relay_node.specs.declared.link.Link.TheVariants as link

-- what a conversation makes of a frame: of its message, or of the fault of its payload
abbrev pub turn_of : NodeState → Frame → Turn
turn_of s f = at_message (message_of f) s unchanged

abbrev pub IsFrameHandled : Frame → NodeView → NodeView → Result Unit Stop → Type 0
IsFrameHandled f old new result = IsStep (turn_of old.state f) old new result

-- a turn of a node leads from a conversation to a conversation and a link: the frames of its messages wait behind what waited
pub record IsTurnTo (t : Turn) (old new : NodeView) (l : Link) : Type 0 where
  pub state : t.state ≡ state_at new.state l
  pub outbox : new.outbox ≡ old.outbox ++ wire_bytes old.state.config.magic t.out

-- memory was refused behind some of the frames, whose answers wait
pub record IsStarvedBehind (s : NodeState) (old new : NodeView) : Type 0 where
  pub count : ℕ
  pub size : ℕ
  pub pool : new.state.pool ≡ (on_frames count s).state.pool
  pub outbox : new.outbox ≡ old.outbox ++ take size (wire_bytes old.state.config.magic (on_unread s).out)
  pub config : new.state.config ≡ old.state.config

-- what stands in front is handled: it is a frame, it isn't whole, the node ends at it, or memory was refused
unfoldable pub IsFrontHandled : NodeView → Feed → NodeView → Feed → Result Bool Stop → Type 0
IsFrontHandled old was new feed (Ok true) = IsTurnTo (on_frames 1 (state_at old.state (link.Open was))) old new (link.Open feed) × (IsOpen new.state feed × (length feed.unread < length was.unread))
IsFrontHandled old was new feed (Ok false) = (feed_front was ≡ PartialFrame) × ((new ≡ old) × (feed ≡ was))
IsFrontHandled old was new feed (Err (stop.Ended e)) = (on_frames 1 (state_at old.state (link.Open was)) ≡ refusal (state_at old.state (link.Open feed)) e) × (new ≡ old)
IsFrontHandled old was new feed (Err stop.OutOfMemory) = IsStarved old new

-- what stands whole is handled, up to the node's end, or until memory was refused
unfoldable pub AreHandled : NodeView → Feed → NodeView → Feed → Result Unit Stop → Type 0
AreHandled old was new feed (Ok done) = IsTurnTo (without_unread_if_ended (on_unread (state_at old.state (link.Open was)))) old new (link.Open feed) × IsOpen new.state feed
AreHandled old was new feed (Err (stop.Ended e)) = IsTurnTo (without_unread_if_ended (on_unread (state_at old.state (link.Open was)))) old new (link.Ended e feed.place) × IsNode new.state
AreHandled old was new feed (Err stop.OutOfMemory) = IsStarvedBehind (state_at old.state (link.Open was)) old new
