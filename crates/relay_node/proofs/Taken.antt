-- What is made of a piece of the peer's stream.
use Rattle.std.proofs.Common.{◌≡◌, ℕ, ◌+◌, ◌<◌, true, false, List, ◌++◌, length, take, Option, Some, None, Ok, Err, refl, sym, ap, subst, ◌∙◌, append-nil}
use Rattle.id_rules.specs.Bytes.{are_bytes}
use Rattle.id_rules.proofs.Bytes.{bytes_join}
use Rattle.wire_rules.specs.Layout.{wire_bytes}
use Rattle.wire_rules.specs.declared.limits.TheConstants.{HEADER_LEN, PAYLOAD_LIMIT}
use Rattle.stream_laws.proofs.Few.{partial-few}
use Rattle.node_rules.specs.Invariant.{IsNode}
use Rattle.node_rules.specs.Memory.{unless_out_of_memory}
use Rattle.node_rules.specs.State.{NodeState, NodeView, no_wants}
use Rattle.node_rules.specs.Steps.{on_frames, on_piece, on_piece_by, on_unread, without_unread_by, without_unread_if_ended}
use Rattle.node_rules.specs.Turns.{Turn, after_turn}
use Rattle.node_rules.specs.declared.config.Config.{Config}
use Rattle.node_rules.specs.declared.end.End.{End}
use Rattle.node_laws.proofs.Ended.{on_piece-ended}
use Rattle.node_laws.proofs.LaterSteps.{on_piece-later}
use Rattle.node_laws.proofs.Streaming.{on_piece-rests}
use Rattle.p2p_frame.specs.Feeding.{Feed, feed_with, feed_with_by}
use Rattle.conversation.specs.declared.stop.Stop.TheVariants as stop
use Rattle.relay_node.specs.Answers.{IsTaken, IsStarvedBy}
use Rattle.relay_node.specs.Handling.{AreHandled, IsTurnTo}
use Rattle.relay_node.specs.Views.{IsOpen, is_starved_at, state_at, view_at, with_bytes}
use Rattle.relay_node.specs.declared.link.Link.{Link}
use Rattle.relay_node.specs.declared.link.Link.TheVariants as link
use Rattle.relay_node.proofs.Nodes.{seen-stays}

-- ---- a node that has stopped

pub taken-starved : (v : NodeView) (piece : List ℕ) → IsTaken (view_at v link.OutOfMemory) piece (view_at v link.OutOfMemory) (Err stop.OutOfMemory)
unfolding IsTaken IsStarvedBy
taken-starved v piece = (refl, refl)

pub taken-ended : (v : NodeView) (e : End) (offset : ℕ) (piece : List ℕ) → IsTaken (view_at v (link.Ended e offset)) piece (view_at v (link.Ended e offset)) (Err (stop.Ended e))
unfolding IsTaken
taken-ended v e offset piece =
    let old = view_at v (link.Ended e offset) in
    let stays = seen-stays v old (link.Ended e offset) e offset refl refl (on_piece old.state piece) (on_piece-ended old.state e piece refl) in
    (stays.0, stays.1, refl)

-- ---- a node that takes what comes

module _ (v : NodeView) (feed : Feed) (piece : List ℕ) where
  abbrev pub received : NodeState
  received = state_at v.state (link.Open (with_bytes feed piece))

  abbrev pub before : NodeView
  before = view_at v (link.Open feed)

  -- what its caller sees of what the piece made of the conversation
  seen : (new : NodeView) (l : Link) → is_starved_at l ≡ false → IsTurnTo (without_unread_if_ended (on_unread received)) v new l → view_at new l ≡ after_turn before (on_piece before.state piece)
  unfolding on_piece_by
  seen new l fed h =
      let t = on_piece before.state piece in
      let config : t.state.config ≡ v.state.config = (on_piece-later before.state piece).config in
      λ i. record {
        state = sym h.state i;
        outbox = (h.outbox ∙ ap (λ (c : Config). v.outbox ++ wire_bytes c.magic t.out) (sym config)) i;
        out_of_memory = fed i;
      }

  pub taken-all : (new : NodeView) (left : Feed) → AreHandled v (with_bytes feed piece) new left (Ok tt) → IsTaken before piece (view_at new (link.Open left)) (Ok tt)
  unfolding IsTaken AreHandled unless_out_of_memory
  taken-all new left h = (refl, seen new (link.Open left) refl h.0, refl)

  pub taken-to-end : (new : NodeView) (left : Feed) (e : End) → AreHandled v (with_bytes feed piece) new left (Err (stop.Ended e)) → IsTaken before piece (view_at new (link.Ended e left.place)) (Err (stop.Ended e))
  unfolding IsTaken AreHandled unless_out_of_memory
  taken-to-end new left e h = (refl, seen new (link.Ended e left.place) refl h.0, refl)

  -- what is left is shorter than the longest frame
  pub taken-short : (new : NodeView) (left : Feed) → AreHandled v (with_bytes feed piece) new left (Ok tt) → length left.unread < HEADER_LEN + PAYLOAD_LIMIT
  unfolding AreHandled on_piece_by
  taken-short new left h =
      let t = on_piece before.state piece in
      let still : t.state.ended ≡ None = ap (λ (s : NodeState). s.ended) h.0.state in
      let same : t.state.inbox.unread ≡ left.unread = ap (λ (s : NodeState). s.inbox.unread) h.0.state in
      subst (λ xs. length xs < HEADER_LEN + PAYLOAD_LIMIT) same (partial-few v.state.config.magic 0 t.state.inbox.unread (on_piece-rests before.state piece refl still).front)

  pub taken-open : (new : NodeView) (left : Feed) → AreHandled v (with_bytes feed piece) new left (Ok tt) → IsOpen new.state left
  unfolding AreHandled
  taken-open new left h = h.1

  pub taken-node : (new : NodeView) (left : Feed) (e : End) → AreHandled v (with_bytes feed piece) new left (Err (stop.Ended e)) → IsNode new.state
  unfolding AreHandled
  taken-node new left e h = h.1

  -- ---- where memory was refused

  without_unread-out : (e : Option End) (t : Turn) → (without_unread_by e t).out ≡ t.out
  unfolding without_unread_by
  without_unread-out (Some e) t = refl
  without_unread-out None t = refl

  taken-out : (on_piece before.state piece).out ≡ (on_unread received).out
  unfolding on_piece_by
  taken-out = without_unread-out (on_unread received).state.ended (on_unread received)

  pub taken-refused : (w new : NodeView) (left : Feed) → AreHandled v (with_bytes feed piece) w left (Err stop.OutOfMemory) → new ≡ record w { state = record w.state { wants = no_wants } } → IsTaken before piece (view_at new link.OutOfMemory) (Err stop.OutOfMemory)
  unfolding IsTaken IsStarvedBy AreHandled
  taken-refused w new left h cleared = (
    refl,
    record {
      count = h.count;
      size = h.size;
      pool = ap (λ (n : NodeView). n.state.pool) cleared ∙ h.pool;
      outbox = ap (λ (n : NodeView). n.outbox) cleared ∙ (h.outbox ∙ ap (λ out. v.outbox ++ take h.size (wire_bytes v.state.config.magic out)) (sym taken-out));
      config = ap (λ (n : NodeView). n.state.config) cleared ∙ h.config;
      unread = refl;
      unended = refl;
      out_of_memory = refl;
    },
  )

  -- memory was refused for the piece itself
  pub piece-refused : (left : Feed) → AreHandled v (with_bytes feed piece) v left (Err stop.OutOfMemory)
  unfolding on_frames AreHandled
  piece-refused left = record { count = 0; size = 0; pool = refl; outbox = sym (append-nil v.outbox); config = refl }

  -- the piece stands behind what was unread
  pub piece-fed : (fed : Feed) → IsOpen v.state feed → are_bytes piece ≡ true → fed ≡ feed_with feed piece → IsOpen v.state fed
  piece-fed fed h bytes e =
      subst (IsOpen v.state) (sym (e ∙ ap (λ o. feed_with_by o feed piece) h.feeder.going)) (record {
        node = h.node;
        unended = h.unended;
        feeder = record { magic = h.feeder.magic; going = h.feeder.going; unread = bytes_join feed.unread piece h.feeder.unread bytes; place = h.feeder.place };
      })
