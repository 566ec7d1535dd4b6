-- What the pools of two nodes gain in a run, also where memory is refused in one of its events.
use Rattle.std.proofs.Common.{◌≡◌, ◌⊎◌, inl, inr, ⊎_elim, ℕ, Bool, true, false, List, [], ◌∷◌, ◌++◌, take, None, is_some, Result, Ok, Err, refl, sym, ap, ◌∙◌, subst, append-nil, append_assoc}
use Rattle.std.specs.List.{AllByRecursion, Contains, list_all, flat_map}
use Rattle.std.proofs.lemmas.Bool.{or_parts, and_parts}
use Rattle.std.proofs.lemmas.Grind.{flat_map-append}
use Rattle.std.proofs.lemmas.List.{append_cancel_left}
use Rattle.std.proofs.lemmas.List.Folds.{list_all-append}
use Rattle.id_rules.proofs.Lists.{all_left, all_weaker}
use Rattle.pool_rules.specs.Pools.{Transaction}
use Rattle.node_rules.specs.Memory.{IsOutOfMemoryIn}
use Rattle.node_rules.specs.State.{NodeState, NodeView}
use Rattle.node_rules.specs.Steps.{on_piece}
use Rattle.node_laws.proofs.OutOfMemory.{out_of_memory-pool}
use Rattle.pair_rules.specs.Gains.{addition_to_a, addition_to_b, additions_to_a, additions_to_b, HasGainedOnly, HaveGainedOnly}
use Rattle.pair_rules.specs.World.{World, IsScript, is_event, effect_of, has_end, run}
use Rattle.pair_rules.specs.declared.event.Event.{Event}
use Rattle.pair_rules.specs.declared.event.Event.TheVariants as event
use Rattle.pair_laws.proofs.Effects.{run_from-both}
use Rattle.pair_invariant_laws.proofs.Bridge.{no_end}
use Rattle.duet.specs.Events.{IsPartOf, node_view}
use Rattle.duet.specs.Runs.{IsStarvedIn, IsStarvedBy, IsRun}
use Rattle.duet.specs.Views.{IsReached, PairView}
use Rattle.duet.specs.declared.stop.DuetStop.{DuetStop}
use Rattle.duet.specs.declared.stop.DuetStop.TheVariants as stop
use Rattle.duet.proofs.Pools.{IsFront, front_contains, front_grown, front_same, part-front}
use Rattle.duet.proofs.Reached.{reached-gains}
use Rattle.duet.proofs.Scripts.{run-one}

abbrev From : List Transaction → List Transaction → Transaction → Type 0
From added other t = Contains added t ⊎ Contains other t

from_more : (added more other larger : List Transaction) → IsFront added more → IsFront other larger → (t : Transaction) → From added other t → From more larger t
from_more added more other larger f g t h = ⊎_elim (λ x. inl (front_contains added more t f x)) (λ x. inr (front_contains other larger t g x)) h

-- the same is gained where more is added, and where the other pool has more
pub gained-more : (old new added more other larger : List Transaction) → IsFront added more → IsFront other larger → HasGainedOnly old new added other → HasGainedOnly old new more larger
gained-more old new added more other larger f g h = record {
  gained = h.gained;
  grown = h.grown;
  each = all_weaker (From added other) (From more larger) (from_more added more other larger f g) h.gained h.each;
}

-- a front part of what a pool has gained
pub gained-front : (old new part added other : List Transaction) → IsFront old part → IsFront part new → HasGainedOnly old new added other → HasGainedOnly old part added other
gained-front old new part added other f g h =
    let same : f.rest ++ g.rest ≡ h.gained =
    append_cancel_left old (f.rest ++ g.rest) h.gained (sym (append_assoc old f.rest g.rest) ∙ sym (ap (λ xs. xs ++ g.rest) f.whole) ∙ sym g.whole ∙ h.grown) in
    record {
      gained = f.rest;
      grown = f.whole;
      each = all_left (From added other) f.rest g.rest (subst (AllByRecursion (From added other)) (sym same) h.each);
    }

gained-none : (pool added other : List Transaction) → HasGainedOnly pool pool added other
gained-none pool added other = record { gained = []; grown = sym (append-nil pool); each = tt }

-- ---- scripts

front_flat : (f : Event → List Transaction) (xs ys zs : List Event) → zs ≡ xs ++ ys → IsFront (flat_map f xs) (flat_map f zs)
front_flat f xs ys zs e = record { rest = flat_map f ys; whole = ap (flat_map f) e ∙ flat_map-append f xs ys }

front_script : (xs ys zs : List Event) → zs ≡ xs ++ ys → IsScript zs → IsScript xs
front_script xs ys zs e fine = (and_parts (list_all is_event xs) (list_all is_event ys) (sym (list_all-append is_event xs ys) ∙ sym (ap (list_all is_event) e) ∙ fine)).0

-- ---- an event in which memory is refused

-- the pool of the node that ran out of memory is between what it was and what the whole piece leaves
starved-later : (s : NodeState) (outbox : List ℕ) (piece : List ℕ) (new : NodeView) → IsOutOfMemoryIn (node_view s outbox false) piece new → IsFront s.pool new.state.pool
starved-later s outbox piece new h = let more = out_of_memory-pool (node_view s outbox false) new piece h in front_grown s.pool new.state.pool more.0 more.1

starved-earlier : (s : NodeState) (outbox : List ℕ) (piece : List ℕ) (new : NodeView) → s.ended ≡ None → IsOutOfMemoryIn (node_view s outbox false) piece new → IsFront new.state.pool (on_piece s piece).state.pool
starved-earlier s outbox piece new going h = subst (λ xs. IsFront xs (on_piece s piece).state.pool) (sym h.pool) (part-front h.count s piece going)

front_both : (xs ys zs : List Transaction) → IsFront xs ys → IsFront ys zs → IsFront xs zs
front_both xs ys zs f g = record { rest = f.rest ++ g.rest; whole = g.whole ∙ ap (λ vs. vs ++ g.rest) f.whole ∙ append_assoc xs f.rest g.rest }

gained-is_front : (old new added other : List Transaction) → HasGainedOnly old new added other → IsFront old new
gained-is_front old new added other h = front_grown old new h.gained h.grown

-- a longer script
script-more : (old w : World) (xs ys : List Event) → HaveGainedOnly old xs w → HaveGainedOnly old (xs ++ ys) w
script-more old w xs ys g = record {
  a = gained-more old.a.pool w.a.pool (additions_to_a xs) (additions_to_a (xs ++ ys)) w.b.pool w.b.pool (front_flat addition_to_a xs ys (xs ++ ys) refl) (front_same w.b.pool w.b.pool refl) g.a;
  b = gained-more old.b.pool w.b.pool (additions_to_b xs) (additions_to_b (xs ++ ys)) w.a.pool w.a.pool (front_flat addition_to_b xs ys (xs ++ ys) refl) (front_same w.a.pool w.a.pool refl) g.b;
}

unchanged-gained : (w : World) (script : List Event) → HaveGainedOnly w script w
unchanged-gained w script = record { a = gained-none w.a.pool (additions_to_a script) w.b.pool; b = gained-none w.b.pool (additions_to_b script) w.a.pool }

-- what is gained before an event, and what is gained with it, where only the first part of it happens
record IsGained (old : World) (before : List Event) (e : Event) (w : World) : Type 0 where
  pub first : HaveGainedOnly old before w
  pub whole : HaveGainedOnly old (before ++ e ∷ []) (effect_of w e).world

part-gained : (old w u : World) (before : List Event) (e : Event) → has_end w ≡ false → IsGained old before e w → IsPartOf w e u → HaveGainedOnly old (before ++ e ∷ []) u
unfolding IsPartOf effect_of
part-gained old w u before (event.DeliverAb n) going g h =
    let none = or_parts (is_some w.a.ended) (is_some w.b.ended) going in
    let new = node_view u.b u.ba true in
    let later : IsFront w.b.pool u.b.pool = starved-later w.b w.ba (take n w.ab) new h.2 in
    let earlier : IsFront u.b.pool (on_piece w.b (take n w.ab)).state.pool = starved-earlier w.b w.ba (take n w.ab) new (no_end w.b.ended none.1) h.2 in
    let pool : u.a.pool ≡ w.a.pool = ap (λ s. s.pool) h.0 in
    let script = before ++ event.DeliverAb n ∷ [] in
    let of_a : HasGainedOnly old.a.pool w.a.pool (additions_to_a script) u.b.pool =
    gained-more old.a.pool w.a.pool (additions_to_a before) (additions_to_a script) w.b.pool u.b.pool (front_flat addition_to_a before (event.DeliverAb n ∷ []) script refl) later g.first.a in
    let of_b : HasGainedOnly old.b.pool u.b.pool (additions_to_b script) w.a.pool =
    gained-front old.b.pool (on_piece w.b (take n w.ab)).state.pool u.b.pool (additions_to_b script) w.a.pool
    (front_both old.b.pool w.b.pool u.b.pool (gained-is_front old.b.pool w.b.pool (additions_to_b before) w.a.pool g.first.b) later) earlier g.whole.b in
    record {
      a = subst (λ xs. HasGainedOnly old.a.pool xs (additions_to_a script) u.b.pool) (sym pool) of_a;
      b = subst (λ xs. HasGainedOnly old.b.pool u.b.pool (additions_to_b script) xs) (sym pool) of_b;
    }
part-gained old w u before (event.DeliverBa n) going g h =
    let none = or_parts (is_some w.a.ended) (is_some w.b.ended) going in
    let new = node_view u.a u.ab true in
    let later : IsFront w.a.pool u.a.pool = starved-later w.a w.ab (take n w.ba) new h.2 in
    let earlier : IsFront u.a.pool (on_piece w.a (take n w.ba)).state.pool = starved-earlier w.a w.ab (take n w.ba) new (no_end w.a.ended none.0) h.2 in
    let pool : u.b.pool ≡ w.b.pool = ap (λ s. s.pool) h.0 in
    let script = before ++ event.DeliverBa n ∷ [] in
    let of_b : HasGainedOnly old.b.pool w.b.pool (additions_to_b script) u.a.pool =
    gained-more old.b.pool w.b.pool (additions_to_b before) (additions_to_b script) w.a.pool u.a.pool (front_flat addition_to_b before (event.DeliverBa n ∷ []) script refl) later g.first.b in
    let of_a : HasGainedOnly old.a.pool u.a.pool (additions_to_a script) w.b.pool =
    gained-front old.a.pool (on_piece w.a (take n w.ba)).state.pool u.a.pool (additions_to_a script) w.b.pool
    (front_both old.a.pool w.a.pool u.a.pool (gained-is_front old.a.pool w.a.pool (additions_to_a before) w.b.pool g.first.a) later) earlier g.whole.a in
    record {
      a = subst (λ xs. HasGainedOnly old.a.pool u.a.pool (additions_to_a script) xs) (sym pool) of_a;
      b = subst (λ xs. HasGainedOnly old.b.pool xs (additions_to_b script) u.a.pool) (sym pool) of_b;
    }
part-gained old w u before (event.AddA tx) going g h = subst (HaveGainedOnly old (before ++ event.AddA tx ∷ [])) (sym h) (script-more old w before (event.AddA tx ∷ []) g.first)
part-gained old w u before (event.AddB tx) going g h = subst (HaveGainedOnly old (before ++ event.AddB tx ∷ [])) (sym h) (script-more old w before (event.AddB tx ∷ []) g.first)
part-gained old w u before event.Round going g h = subst (HaveGainedOnly old (before ++ event.Round ∷ [])) (sym h) (script-more old w before (event.Round ∷ []) g.first)

-- ---- a run

starved-gained : (old new : PairView) (script : List Event) → IsReached old.world old.full → IsScript script → IsStarvedIn old script new → HaveGainedOnly old.world script new.world
starved-gained old new script r fine h =
    let w = (run old.world h.before).world in
    let part = h.before ++ h.at ∷ [] in
    let more : script ≡ part ++ h.behind = h.whole ∙ sym (append_assoc h.before (h.at ∷ []) h.behind) in
    let done : (run old.world part).world ≡ (effect_of w h.at).world = ap (λ x. x.world) (run_from-both h.before (h.at ∷ []) old.world) ∙ ap (λ x. x.world) (run-one w h.at h.unended) in
    let first : HaveGainedOnly old.world h.before w = reached-gains old.world old.full h.before r (front_script h.before (h.at ∷ h.behind) script h.whole fine) in
    let whole : HaveGainedOnly old.world part (effect_of w h.at).world = subst (HaveGainedOnly old.world part) done (reached-gains old.world old.full part r (front_script part h.behind script more fine)) in
    let in_part : HaveGainedOnly old.world part new.world = part-gained old.world w new.world h.before h.at h.unended (record { first = first; whole = whole }) h.world in
    subst (λ zs. HaveGainedOnly old.world zs new.world) (sym more) (script-more old.world new.world part h.behind in_part)

starved_by-gained : (b : Bool) (old new : PairView) (script : List Event) → (b ≡ false → IsReached old.world old.full) → IsScript script → IsStarvedBy b old script new → HaveGainedOnly old.world script new.world
unfolding IsStarvedBy
starved_by-gained true old new script r fine h = subst (λ (v : PairView). HaveGainedOnly old.world script v.world) (sym h) (unchanged-gained old.world script)
starved_by-gained false old new script r fine h = starved-gained old new script (r refl) fine h

pub run-gained : (old new : PairView) (script : List Event) (told : Result Unit DuetStop) → (old.out_of_memory ≡ false → IsReached old.world old.full) → IsScript script → IsRun old script new told → HaveGainedOnly old.world script new.world
unfolding IsRun
run-gained old new script (Ok done) r fine h = subst (λ (v : PairView). HaveGainedOnly old.world script v.world) (sym h.1) (reached-gains old.world old.full script (r h.0) fine)
run-gained old new script (Err (stop.Ended side end)) r fine h = subst (λ (v : PairView). HaveGainedOnly old.world script v.world) (sym h.1) (reached-gains old.world old.full script (r h.0) fine)
run-gained old new script (Err stop.OutOfMemory) r fine h = starved_by-gained old.out_of_memory old new script r fine h
