-- A node whose memory was refused while it took a piece of bytes. Nothing happens to it any more.
use Rattle.std.specs.Prelude.{◌≡◌, ℕ, Bool, true, false, List, [], ◌++◌, take, None}
use Rattle.wire_rules.specs.Layout.{wire_bytes}
use Rattle.node_rules.specs.Additions.{on_addition}
use Rattle.node_rules.specs.State.{NodeState, NodeView}
use Rattle.node_rules.specs.Steps.{on_frames, with_piece, on_piece, on_start}
use Rattle.node_rules.specs.Turns.{after_turn}

-- behind the view `old` memory was refused in a piece: the pool is that behind the first of the messages that are handled,
-- the outbox has a front part of their answers, and no byte is unread. Of the rest of the node nothing is said
pub record IsOutOfMemoryIn (old : NodeView) (piece : List ℕ) (new : NodeView) : Type 0 where
  pub count : ℕ
  pub size : ℕ
  pub pool : new.state.pool ≡ (on_frames count (with_piece old.state piece)).state.pool
  pub outbox : new.outbox ≡ old.outbox ++ take size (wire_bytes old.state.config.magic (on_piece old.state piece).out)
  pub config : new.state.config ≡ old.state.config
  pub unread : new.state.inbox.unread ≡ []
  pub unended : new.state.ended ≡ None
  pub out_of_memory : new.out_of_memory ≡ true

unfoldable pub unless_out_of_memory : Bool → NodeView → NodeView → NodeView
unless_out_of_memory true v next = v
unless_out_of_memory false v next = next

-- a caller's view behind a piece, an addition and the start of a round, where memory isn't refused in it
abbrev pub view_behind_piece : NodeView → List ℕ → NodeView
view_behind_piece v piece = unless_out_of_memory v.out_of_memory v (after_turn v (on_piece v.state piece))

abbrev pub view_behind_addition : NodeView → List ℕ → NodeView
view_behind_addition v tx = unless_out_of_memory v.out_of_memory v (after_turn v (on_addition v.state tx).turn)

abbrev pub view_behind_start : NodeView → NodeView
view_behind_start v = unless_out_of_memory v.out_of_memory v (after_turn v (on_start v.state).turn)
