-- Nodes that have received other bytes, and ended or not.
use Rattle.std.proofs.Common.{◌≡◌, ℕ, ◌^◌, ◌<◌, true, false, [], ◌++◌, Option, Some, None, Result, Ok, Err, IfOk, OnErr, refl, sym, ap, subst, ◌∙◌, append-nil}
use Rattle.id_rules.specs.Bytes.{are_bytes}
use Rattle.wire_rules.specs.Layout.{wire_bytes}
use Rattle.node_rules.specs.Invariant.{IsNode}
use Rattle.node_rules.specs.State.{Inbox, NodeState, NodeView}
use Rattle.node_rules.specs.Steps.{with_inbox}
use Rattle.node_rules.specs.Memory.{unless_out_of_memory}
use Rattle.node_rules.specs.Turns.{Turn, after_turn, unchanged}
use Rattle.node_rules.specs.declared.config.Config.{Config}
use Rattle.node_rules.specs.declared.end.End.{End}
use Rattle.invariant_laws.proofs.Conversing.{beside-conversing}
use Rattle.node_laws.specs.Inboxes.{turn_with_inbox}
use Rattle.p2p_frame.specs.Feeding.{Feed}
use Rattle.relay_node.specs.Views.{IsLinked, IsOpen, end_at, inbox_of, is_starved_at, state_at, view_at}
use Rattle.relay_node.specs.declared.link.Link.{Link}
use Rattle.relay_node.specs.declared.link.Link.TheVariants as link

pub node-beside : (s : NodeState) → IsNode s → (i : Inbox) (ended : Option End) → i.offset < 2 ^ 64 → are_bytes i.unread ≡ true → IsNode (record s { inbox = i; ended = ended })
node-beside s h i ended offset unread = record {
  config = h.config;
  store = record {
    pool = h.store.pool;
    wanting = record { once = h.store.wanting.once; unwanted = h.store.wanting.unwanted; room = h.store.wanting.room };
    ids = h.store.ids;
    serving = record { once = h.store.serving.once; pooled = h.store.serving.pooled };
  };
  setup = record { set = h.setup.set; snapshot = h.setup.snapshot; apart = h.setup.apart; unknown = h.setup.unknown };
  conversing = beside-conversing s h.conversing i ended;
  bounded = h.bounded;
  reports = h.reports;
  offset = offset;
  unread = unread;
}

pub linked-node : (v : NodeView) (l : Link) → IsLinked v l → is_starved_at l ≡ false → IsNode (state_at v.state l)
linked-node v (link.Open feed) h going = node-beside v.state h.node (inbox_of feed) None h.feeder.place h.feeder.unread
linked-node v (link.Ended end offset) h going = node-beside v.state h.0 (record { unread = []; offset = offset }) (Some end) h.1 refl
linked-node v link.OutOfMemory h going = absurd (cc)

-- ---- a node that takes what comes

-- the step u is the step t of the node s with these bytes received, and t doesn't end the node
pub record IsBeside (i : Inbox) (s : NodeState) (t u : Turn) : Type 0 where
  pub same : u ≡ turn_with_inbox t i
  pub ended : t.state.ended ≡ s.ended

pub open-state : (s : NodeState) (feed : Feed) → s.ended ≡ None → state_at s (link.Open feed) ≡ with_inbox s (inbox_of feed)
open-state s feed unended = λ i. record s { inbox = inbox_of feed; ended = sym unended i }

pub opened : (v : NodeView) (l : Link) (feed : Feed) → l ≡ link.Open feed → IsLinked v l → IsOpen v.state feed
opened v l feed e h = subst (IsLinked v) e h

-- with the state of a step that doesn't end it
pub still-open : (s : NodeState) (t u : Turn) (feed : Feed) → IsOpen s feed → IsBeside (inbox_of feed) s t u → IsNode t.state → t.state.config ≡ s.config → IsOpen t.state feed
still-open s t u feed h beside node config = record {
  node = node;
  unended = beside.ended ∙ h.unended;
  feeder = record { magic = subst (λ (c : Config). feed.magic ≡ c.magic) (sym config) h.feeder.magic; going = h.feeder.going; unread = h.feeder.unread; place = h.feeder.place };
}

module _ (v old : NodeView) (l : Link) (feed : Feed) (seen : view_at v l ≡ old) (open_link : l ≡ link.Open feed) (unended : v.state.ended ≡ None) where
  pub seen-state : old.state ≡ with_inbox v.state (inbox_of feed)
  seen-state = sym (ap (λ (o : NodeView). o.state) seen) ∙ (ap (state_at v.state) open_link ∙ open-state v.state feed unended)

  -- what its caller sees of a step of the conversation
  pub seen-behind : (new : NodeView) (t u : Turn) → IsBeside (inbox_of feed) v.state t u → new ≡ after_turn v t → (old.out_of_memory ≡ false) × (view_at new l ≡ unless_out_of_memory old.out_of_memory old (after_turn old u))
  unfolding unless_out_of_memory
  seen-behind new t u beside same =
      subst (λ (o : NodeView). (o.out_of_memory ≡ false) × (view_at new l ≡ unless_out_of_memory o.out_of_memory o (after_turn o u))) seen
      (subst (λ (k : Link). (is_starved_at k ≡ false) × (view_at new k ≡ unless_out_of_memory (is_starved_at k) (view_at v k) (after_turn (view_at v k) u))) (sym open_link)
      (refl, ap (λ n. view_at n (link.Open feed)) same ∙ (behind ∙ sym (ap (after_turn (view_at v (link.Open feed))) beside.same))))
    where
      behind : view_at (after_turn v t) (link.Open feed) ≡ after_turn (view_at v (link.Open feed)) (turn_with_inbox t (inbox_of feed))
      behind = λ i. record { state = open-state t.state feed (beside.ended ∙ unended) i; outbox = v.outbox ++ wire_bytes t.state.config.magic t.out; out_of_memory = false }

-- it goes on behind a step that was taken, or behind one in which memory was refused
pub linked-behind : {A E : Type 0} (r : Result A E) (v new : NodeView) (l : Link) (feed : Feed) (t u : Turn) → l ≡ link.Open feed → IsOpen v.state feed → IsBeside (inbox_of feed) v.state t u → IsNode t.state → t.state.config ≡ v.state.config
    → IfOk r (λ a. new ≡ after_turn v t) → OnErr r (new ≡ v) → IsLinked new l
linked-behind (Ok a) v new l feed t u open_link h beside node config ok err = subst (IsLinked new) (sym open_link) (subst (λ (n : NodeView). IsOpen n.state feed) (sym ok) (still-open v.state t u feed h beside node config))
linked-behind (Err e) v new l feed t u open_link h beside node config ok err = subst (IsLinked new) (sym open_link) (subst (λ (n : NodeView). IsOpen n.state feed) (sym err) h)

-- ---- a node that has ended

module _ (v old : NodeView) (l : Link) (e : End) (offset : ℕ) (seen : view_at v l ≡ old) (ended_link : l ≡ link.Ended e offset) where
  pub seen-end : old.state.ended ≡ Some e
  seen-end = sym (ap (λ (o : NodeView). o.state.ended) seen) ∙ ap end_at ended_link

  pub seen-stays : (t : Turn) → t ≡ unchanged old.state → (old.out_of_memory ≡ false) × (old ≡ unless_out_of_memory old.out_of_memory old (after_turn old t))
  unfolding unless_out_of_memory
  seen-stays t same = (fed, sym (ap (λ b. unless_out_of_memory b old (after_turn old t)) fed ∙ (ap (after_turn old) same ∙ (λ i. record old { outbox = append-nil old.outbox i }))))
    where
      fed : old.out_of_memory ≡ false
      fed = sym (ap (λ (o : NodeView). o.out_of_memory) seen) ∙ ap is_starved_at ended_link
