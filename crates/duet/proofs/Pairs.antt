-- Two nodes behind an event, and where they stop.
use Rattle.std.proofs.Common.{◌≡◌, ℕ, ◌-◌, ◌^◌, ◌≤◌, ◌||◌, Bool, true, false, IsTrue, [], ◌∷◌, Option, Some, None, is_some, Result, Ok, Err, sym, ap, ap₂, ◌∙◌, subst, arith}
use Rattle.node_rules.specs.State.{NodeView}
use Rattle.node_rules.specs.declared.end.End.{End}
use Rattle.pair_rules.specs.World.{has_end, is_event}
use Rattle.pair_rules.specs.declared.event.Event.{Event}
use Rattle.pair_rules.specs.declared.side.Side.TheVariants as side
use Rattle.duet.specs.Events.{HasHappened, IsFirstEnd, IsWhole, is_starved_by}
use Rattle.duet.specs.Runs.{IsRun}
use Rattle.duet.specs.Views.{IsPairOf, IsReached, PairView, world_of}
use Rattle.duet.specs.declared.stop.DuetStop.{DuetStop}
use Rattle.duet.specs.declared.stop.DuetStop.TheVariants as stop
use Rattle.duet.proofs.Reached.{event-reached, pair-reached, reached-few}
use Rattle.duet.proofs.Scripts.{IsRun-ended, IsRun-none, IsRun-starved, event-run}

abbrev pub pair_view : NodeView → NodeView → ℕ → Bool → PairView
pair_view a b full starved = record { world = world_of a b; full = full; out_of_memory = starved }

module _ (a b : NodeView) (full : ℕ) (starved : Bool) (v : PairView) (view_is : pair_view a b full starved ≡ v) (pair : IsPairOf starved a b full) where
  pub pair_view-reached : v.out_of_memory ≡ false → IsReached v.world v.full
  pair_view-reached going = subst (λ (u : PairView). IsReached u.world u.full) view_is (pair-reached starved a b full (ap (λ u. u.out_of_memory) view_is ∙ going) pair)

  going-view : starved ≡ false → v.out_of_memory ≡ false
  going-view e = ap (λ (u : PairView). u.out_of_memory) (sym view_is) ∙ e

  few : starved ≡ false → v.full ≤ 2 ^ 64 - 1
  few e = reached-few v.world v.full (pair_view-reached (going-view e))

  -- ---- where they stop

  pub stopped_by_memory : starved ≡ true → IsRun v [] v (Err stop.OutOfMemory)
  stopped_by_memory e = IsRun-starved v [] (ap (λ (u : PairView). u.out_of_memory) (sym view_is) ∙ e)

  pub stopped_a : (end : End) → starved ≡ false → Some end ≡ a.state.ended → IsRun v [] v (Err (stop.Ended side.A end))
  unfolding IsFirstEnd
  stopped_a end e h = IsRun-ended v [] side.A end (going-view e) (few e) (ap (λ (u : PairView). u.world.a.ended) (sym view_is) ∙ sym h)

  pub stopped_b : (end : End) → starved ≡ false → None ≡ a.state.ended → Some end ≡ b.state.ended → IsRun v [] v (Err (stop.Ended side.B end))
  unfolding IsFirstEnd
  stopped_b end e h k =
      IsRun-ended v [] side.B end (going-view e) (few e)
      (ap (λ (u : PairView). u.world.a.ended) (sym view_is) ∙ sym h, ap (λ (u : PairView). u.world.b.ended) (sym view_is) ∙ sym k)

  pub unstopped : (done : Unit) → starved ≡ false → None ≡ a.state.ended → None ≡ b.state.ended → IsRun v [] v (Ok done)
  unstopped done e h k =
      IsRun-none v done (going-view e) (few e)
      (ap (λ (u : PairView). has_end u.world) (sym view_is) ∙ ap₂ (λ (x y : Option End). is_some x || is_some y) (sym h) (sym k))

  -- ---- behind an event

  module _ (new_a new_b : NodeView) (new_full : ℕ) (new_starved : Bool) (e : Event) (told : Result Unit DuetStop) (going : v.out_of_memory ≡ false) (unended : has_end v.world ≡ false) (happened : HasHappened a b full e new_a new_b new_full told) (is : new_starved ≡ is_starved_by told) where
    before : starved ≡ false
    before = ap (λ u. u.out_of_memory) view_is ∙ going

    unended_before : has_end (world_of a b) ≡ false
    unended_before = ap (λ u. has_end u.world) view_is ∙ unended

    reached_before : IsReached (world_of a b) full
    reached_before = pair-reached starved a b full before pair

    pub happened-run : IsRun v (e ∷ []) (pair_view new_a new_b new_full new_starved) told
    happened-run =
        subst (λ u. IsRun u (e ∷ []) (pair_view new_a new_b new_full new_starved) told) (ap (pair_view a b full) (sym before) ∙ view_is)
        (event-run a b new_a new_b full new_full e told new_starved (reached-few (world_of a b) full reached_before) unended_before happened is)

    whole-pair : IsTrue (is_event e) → IsWhole a b full e new_a new_b new_full → IsPairOf false new_a new_b new_full
    unfolding IsPairOf
    whole-pair fine h =
        let low = reached-few (world_of a b) full reached_before in
        (h.memory_a, h.memory_b, event-reached (world_of a b) (world_of new_a new_b) full new_full e unended_before fine h.world (h.count (omega arith)) reached_before)

  told-pair : (told : Result Unit DuetStop) (new_a new_b : NodeView) (new_full : ℕ) (e : Event) → HasHappened a b full e new_a new_b new_full told → (IsWhole a b full e new_a new_b new_full → IsPairOf false new_a new_b new_full) → IsPairOf (is_starved_by told) new_a new_b new_full
  unfolding HasHappened IsPairOf
  told-pair (Ok done) new_a new_b new_full e h whole = whole h.0
  told-pair (Err (stop.Ended side end)) new_a new_b new_full e h whole = whole h.0
  told-pair (Err stop.OutOfMemory) new_a new_b new_full e h whole = tt

  pub happened-pair : (new_a new_b : NodeView) (new_full : ℕ) (new_starved : Bool) (e : Event) (told : Result Unit DuetStop) → v.out_of_memory ≡ false → has_end v.world ≡ false → IsTrue (is_event e) → HasHappened a b full e new_a new_b new_full told → new_starved ≡ is_starved_by told → IsPairOf new_starved new_a new_b new_full
  happened-pair new_a new_b new_full new_starved e told going unended fine happened is =
      subst (λ s. IsPairOf s new_a new_b new_full) (sym is)
      (told-pair told new_a new_b new_full e happened (whole-pair new_a new_b new_full new_starved e told going unended happened is fine))
