-- One event at two nodes that have not ended, by what the calls of the nodes answer.
use Rattle.std.proofs.Common.{◌≡◌, ℕ, ◌+◌, ◌-◌, ◌^◌, ◌<◌, length, min, ◌||◌, Bool, true, false, IsTrue, List, take, drop, Option, None, is_some, Result, Ok, Err, refl, sym, ap, ap₂, ◌∙◌, arith}
use Rattle.std.proofs.lemmas.Bool.{or_parts, and_parts}
use Rattle.id_rules.specs.Bytes.{are_bytes, is_tx_length}
use Rattle.node_rules.specs.Additions.{on_addition}
use Rattle.node_rules.specs.Memory.{IsOutOfMemoryIn, unless_out_of_memory, view_behind_piece, view_behind_addition, view_behind_start}
use Rattle.node_rules.specs.State.{NodeView}
use Rattle.node_rules.specs.Steps.{on_piece, on_start}
use Rattle.node_rules.specs.Turns.{Turn, after_turn}
use Rattle.node_rules.specs.declared.end.End.{End}
use Rattle.conversation.specs.declared.stop.Stop.{Stop}
use Rattle.conversation.specs.declared.stop.Stop.TheVariants as node_stop
use Rattle.relay_node.specs.Answers.{IsStarvedBy, IsTaken}
use Rattle.relay_node.proofs.Steps.{on_addition-beside, on_start-beside}
use Rattle.pair_rules.specs.World.{effect_of, fullness, has_end, is_event}
use Rattle.pair_rules.specs.declared.event.Event.{Event}
use Rattle.pair_rules.specs.declared.event.Event.TheVariants as event
use Rattle.pair_rules.specs.declared.side.Side.TheVariants as side
use Rattle.pair_invariant_laws.proofs.Bridge.{no_end}
use Rattle.duet.specs.Events.{HasHappened, IsFirstEnd, IsPartOf, IsWhole, node_view, told_on}
use Rattle.duet.specs.Views.{world_of}
use Rattle.duet.specs.declared.stop.DuetStop.TheVariants as stop

-- ---- nodes that have enough memory

within_memory : (b : Bool) (v next : NodeView) → b ≡ false → unless_out_of_memory b v next ≡ next
unfolding unless_out_of_memory
within_memory b v next h = ap (λ (x : Bool). unless_out_of_memory x v next) h

behind : (v new : NodeView) (t : Turn) → v.out_of_memory ≡ false → new ≡ unless_out_of_memory v.out_of_memory v (after_turn v t) → new ≡ after_turn v t
behind v new t h e = e ∙ within_memory v.out_of_memory v (after_turn v t) h

starved_in : (b : Bool) (v new : NodeView) (piece : List ℕ) → b ≡ false → IsStarvedBy b v piece new → IsOutOfMemoryIn v piece new
unfolding IsStarvedBy
starved_in true v new piece e h = absurd (cc)
starved_in false v new piece e h = h

starved_view : (v new : NodeView) (piece : List ℕ) → IsOutOfMemoryIn v piece new → IsOutOfMemoryIn (node_view v.state v.outbox false) piece (node_view new.state new.outbox true)
starved_view v new piece h = record { count = h.count; size = h.size; pool = h.pool; outbox = h.outbox; config = h.config; unread = h.unread; unended = h.unended; out_of_memory = refl }

-- ---- no count and no end

pub counted : (full : ℕ) → full < 2 ^ 64 → full ≡ min (full + 0) (2 ^ 64 - 1)
counted full few = omega arith

neither : (x y : Option End) → x ≡ None → y ≡ None → (is_some x || is_some y) ≡ false
neither x y e f = ap₂ (λ (u v : Option End). is_some u || is_some v) e f

ends : (a b : NodeView) → has_end (world_of a b) ≡ false → (a.state.ended ≡ None) × (b.state.ended ≡ None)
ends a b going = let parts = or_parts (is_some a.state.ended) (is_some b.state.ended) going in (no_end a.state.ended parts.0, no_end b.state.ended parts.1)

-- ---- deliveries

module _ (a b new_a new_b : NodeView) (full n : ℕ) (memory_of_a : a.out_of_memory ≡ false) (memory_of_b : b.out_of_memory ≡ false) (going : has_end (world_of a b) ≡ false) where
  whole_ab : new_a ≡ record a { outbox = drop n a.outbox } → new_b ≡ view_behind_piece b (take n a.outbox) → IsWhole a b full (event.DeliverAb n) new_a new_b full
  unfolding effect_of
  whole_ab e f =
      let g = behind b new_b (on_piece b.state (take n a.outbox)) memory_of_b f in
      record {
        memory_a = ap (λ v. v.out_of_memory) e ∙ memory_of_a;
        memory_b = ap (λ v. v.out_of_memory) g ∙ memory_of_b;
        world = ap₂ world_of e g;
        count = counted full;
      }

  pub delivered_ab : (told : Result Unit Stop) → new_a ≡ record a { outbox = drop n a.outbox } → IsTaken b (take n a.outbox) new_b told → HasHappened a b full (event.DeliverAb n) new_a new_b full (told_on side.B told)
  unfolding HasHappened IsTaken IsPartOf IsFirstEnd
  delivered_ab (Ok done) e h = (whole_ab e h.1, neither new_a.state.ended new_b.state.ended (ap (λ v. v.state.ended) e ∙ (ends a b going).0) h.2)
  delivered_ab (Err (node_stop.Ended end)) e h = (whole_ab e h.1, (ap (λ v. v.state.ended) e ∙ (ends a b going).0, h.2))
  delivered_ab (Err node_stop.OutOfMemory) e h =
      ((ap (λ v. v.state) e, ap (λ v. v.outbox) e, starved_view b new_b (take n a.outbox) (starved_in b.out_of_memory b new_b (take n a.outbox) memory_of_b h.1)), refl)

  whole_ba : new_b ≡ record b { outbox = drop n b.outbox } → new_a ≡ view_behind_piece a (take n b.outbox) → IsWhole a b full (event.DeliverBa n) new_a new_b full
  unfolding effect_of
  whole_ba e f =
      let g = behind a new_a (on_piece a.state (take n b.outbox)) memory_of_a f in
      record {
        memory_a = ap (λ v. v.out_of_memory) g ∙ memory_of_a;
        memory_b = ap (λ v. v.out_of_memory) e ∙ memory_of_b;
        world = ap₂ world_of g e;
        count = counted full;
      }

  pub delivered_ba : (told : Result Unit Stop) → new_b ≡ record b { outbox = drop n b.outbox } → IsTaken a (take n b.outbox) new_a told → HasHappened a b full (event.DeliverBa n) new_a new_b full (told_on side.A told)
  unfolding HasHappened IsTaken IsPartOf IsFirstEnd
  delivered_ba (Ok done) e h = (whole_ba e h.1, neither new_a.state.ended new_b.state.ended h.2 (ap (λ v. v.state.ended) e ∙ (ends a b going).1))
  delivered_ba (Err (node_stop.Ended end)) e h = (whole_ba e h.1, h.2)
  delivered_ba (Err node_stop.OutOfMemory) e h =
      ((ap (λ v. v.state) e, ap (λ v. v.outbox) e, starved_view a new_a (take n b.outbox) (starved_in a.out_of_memory a new_a (take n b.outbox) memory_of_a h.1)), refl)

-- ---- additions, and the start of a round

module _ (a b new : NodeView) (full count : ℕ) (memory_of_a : a.out_of_memory ≡ false) (memory_of_b : b.out_of_memory ≡ false) (going : has_end (world_of a b) ≡ false) (done : Unit) where
  pub added_a : (tx : List ℕ) → new ≡ view_behind_addition a tx → count ≡ min (full + fullness (on_addition a.state tx).added) (2 ^ 64 - 1) → HasHappened a b full (event.AddA tx) new b count (Ok done)
  unfolding HasHappened effect_of
  added_a tx e k =
      let t = (on_addition a.state tx).turn in
      let f : new ≡ after_turn a t = behind a new t memory_of_a e in
      let ended : new.state.ended ≡ None = ap (λ v. v.state.ended) f ∙ (on_addition-beside a.state.inbox a.state tx).ended ∙ (ends a b going).0 in
      (record { memory_a = ap (λ v. v.out_of_memory) f ∙ memory_of_a; memory_b = memory_of_b; world = ap (λ v. world_of v b) f; count = λ few. k }, neither new.state.ended b.state.ended ended (ends a b going).1)

  pub added_b : (tx : List ℕ) → new ≡ view_behind_addition b tx → count ≡ min (full + fullness (on_addition b.state tx).added) (2 ^ 64 - 1) → HasHappened a b full (event.AddB tx) a new count (Ok done)
  unfolding HasHappened effect_of
  added_b tx e k =
      let t = (on_addition b.state tx).turn in
      let f : new ≡ after_turn b t = behind b new t memory_of_b e in
      let ended : new.state.ended ≡ None = ap (λ v. v.state.ended) f ∙ (on_addition-beside b.state.inbox b.state tx).ended ∙ (ends a b going).1 in
      (record { memory_a = memory_of_a; memory_b = ap (λ v. v.out_of_memory) f ∙ memory_of_b; world = ap (λ v. world_of a v) f; count = λ few. k }, neither a.state.ended new.state.ended (ends a b going).0 ended)

  pub begun : new ≡ view_behind_start a → HasHappened a b full event.Round new b full (Ok done)
  unfolding HasHappened effect_of
  begun e =
      let t = (on_start a.state).turn in
      let f : new ≡ after_turn a t = behind a new t memory_of_a e in
      let ended : new.state.ended ≡ None = ap (λ v. v.state.ended) f ∙ (on_start-beside a.state.inbox a.state).ended ∙ (ends a b going).0 in
      (record { memory_a = ap (λ v. v.out_of_memory) f ∙ memory_of_a; memory_b = memory_of_b; world = ap (λ v. world_of v b) f; count = counted full }, neither new.state.ended b.state.ended ended (ends a b going).1)

-- ---- memory is refused, and nothing has changed

module _ (a b new : NodeView) (full count : ℕ) where
  pub unchanged_a : (tx : List ℕ) → new ≡ a → count ≡ full → HasHappened a b full (event.AddA tx) new b count (Err stop.OutOfMemory)
  unfolding HasHappened IsPartOf
  unchanged_a tx e k = (ap (λ v. world_of v b) e, k)

  pub unchanged_b : (tx : List ℕ) → new ≡ b → count ≡ full → HasHappened a b full (event.AddB tx) a new count (Err stop.OutOfMemory)
  unfolding HasHappened IsPartOf
  unchanged_b tx e k = (ap (λ v. world_of a v) e, k)

  pub unchanged_start : new ≡ a → HasHappened a b full event.Round new b full (Err stop.OutOfMemory)
  unfolding HasHappened IsPartOf
  unchanged_start e = (ap (λ v. world_of v b) e, refl)

-- ---- what is added may be a transaction

pub sized_a : (e : Event) (tx : List ℕ) → e ≡ event.AddA tx → IsTrue (is_event e) → IsTrue (is_tx_length (length tx))
unfolding is_event
sized_a e tx is fine = (and_parts (is_tx_length (length tx)) (are_bytes tx) (sym (ap is_event is) ∙ fine)).0

pub sized_b : (e : Event) (tx : List ℕ) → e ≡ event.AddB tx → IsTrue (is_event e) → IsTrue (is_tx_length (length tx))
unfolding is_event
sized_b e tx is fine = (and_parts (is_tx_length (length tx)) (are_bytes tx) (sym (ap is_event is) ∙ fine)).0
