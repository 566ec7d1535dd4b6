-- Runs of events in a row.
use Rattle.std.proofs.Common.{◌≡◌, ℕ, ◌+◌, ◌-◌, ◌^◌, ◌≤◌, ◌<◌, min, Option, length, take, drop, get_or, take-append-drop, ◌||◌, Bool, true, false, List, [], ◌∷◌, ◌++◌, is_some, Result, Ok, Err, refl, sym, ap, ap₂, ◌∙◌, subst, arith, append_assoc}
use Rattle.std.proofs.Math.Seq.{take-length}
use Rattle.std.proofs.lemmas.List.{take_more}
use Rattle.node_rules.specs.State.{NodeView}
use Rattle.node_rules.specs.declared.end.End.{End}
use Rattle.pair_rules.specs.World.{World, no_effect, effect_of, effect_sequence, unless_ended, run_from, run, has_end}
use Rattle.pair_rules.specs.declared.event.Event.{Event}
use Rattle.pair_rules.specs.declared.side.Side.{Side}
use Rattle.pair_rules.specs.declared.side.Side.TheVariants as side
use Rattle.pair_rules.proofs.Runs.{run_from-ended}
use Rattle.pair_laws.proofs.Effects.{run_from-both}
use Rattle.duet.specs.Events.{HasHappened, IsFirstEnd, IsPartOf, IsWhole, is_starved_by}
use Rattle.duet.specs.Runs.{view_behind, IsStarvedIn, IsStarvedBy, IsRun}
use Rattle.duet.specs.Views.{PairView, world_of}
use Rattle.duet.specs.declared.stop.DuetStop.{DuetStop}
use Rattle.duet.specs.declared.stop.DuetStop.TheVariants as stop

-- ---- an event alone

pub run-one : (w : World) (e : Event) → has_end w ≡ false → run w (e ∷ []) ≡ effect_sequence (effect_of w e) (no_effect (effect_of w e).world)
unfolding run_from unless_ended
run-one w e going = ap (λ over. unless_ended over w (effect_of w e) (run_from [])) going

-- a node that has ended
first_end-has_end : (w : World) (s : Side) (end : End) → IsFirstEnd w s end → has_end w ≡ true
unfolding IsFirstEnd
first_end-has_end w side.A end h = ap (λ e. is_some e || is_some w.b.ended) h
first_end-has_end w side.B end h = ap₂ (λ (e f : Option End). is_some e || is_some f) h.0 h.1

-- ---- views behind two scripts

same_view : (v : PairView) (w u : World) (n m : ℕ) → w ≡ u → n ≡ m → (let x : PairView = record v { world = w; full = n } in x) ≡ record v { world = u; full = m }
same_view v w u n m e f = ap₂ (λ (x : World) (k : ℕ). record { world = x; full = k; out_of_memory = v.out_of_memory }) e f

pub view_behind-both : (v : PairView) (xs ys : List Event) → view_behind (view_behind v xs) ys ≡ view_behind v (xs ++ ys)
view_behind-both v xs ys =
    let first = run v.world xs in
    let both = run_from-both xs ys v.world in
    same_view v (run first.world ys).world (run v.world (xs ++ ys)).world
    (min (min (v.full + first.full) (2 ^ 64 - 1) + (run first.world ys).full) (2 ^ 64 - 1))
    (min (v.full + (run v.world (xs ++ ys)).full) (2 ^ 64 - 1))
    (sym (ap (λ x. x.world) both))
    (counts v.full first.full (run first.world ys).full ∙ ap (λ x. min (v.full + x.full) (2 ^ 64 - 1)) (sym both))
  where
    counts : (a b c : ℕ) → min (min (a + b) (2 ^ 64 - 1) + c) (2 ^ 64 - 1) ≡ min (a + min (b + c) (2 ^ 64 - 1)) (2 ^ 64 - 1)
    counts a b c = omega arith

-- nothing happens behind an end
pub view_behind-ended : (v : PairView) (script : List Event) → v.full ≤ 2 ^ 64 - 1 → has_end v.world ≡ true → view_behind v script ≡ v
view_behind-ended v script few over =
    let none = run_from-ended script v.world over in
    same_view v (run v.world script).world v.world (min (v.full + (run v.world script).full) (2 ^ 64 - 1)) v.full
    (ap (λ x. x.world) none) (ap (λ x. min (v.full + x.full) (2 ^ 64 - 1)) none ∙ same v.full few)
  where
    same : (n : ℕ) → n ≤ 2 ^ 64 - 1 → min (n + 0) (2 ^ 64 - 1) ≡ n
    same n few = omega arith

view_behind-few : (v : PairView) (script : List Event) → (view_behind v script).full ≤ 2 ^ 64 - 1
view_behind-few v script = let n = v.full in let k = (run v.world script).full in let few : min (n + k) (2 ^ 64 - 1) ≤ 2 ^ 64 - 1 = omega arith in few

view_behind-stays : (v : PairView) (xs ys : List Event) → has_end (view_behind v xs).world ≡ true → view_behind v xs ≡ view_behind v (xs ++ ys)
view_behind-stays v xs ys over = sym (view_behind-ended (view_behind v xs) ys (view_behind-few v xs) over) ∙ view_behind-both v xs ys

-- ---- runs in a row

starved-behind : (old mid new : PairView) (xs ys : List Event) → mid ≡ view_behind old xs → IsStarvedIn mid ys new → IsStarvedIn old (xs ++ ys) new
starved-behind old mid new xs ys e h =
    let k : IsStarvedIn (view_behind old xs) ys new = subst (λ v. IsStarvedIn v ys new) e h in
    let both = run_from-both xs k.before old.world in
    record {
      before = xs ++ k.before;
      at = k.at;
      behind = k.behind;
      whole = ap (λ zs. xs ++ zs) k.whole ∙ sym (append_assoc xs k.before (k.at ∷ k.behind));
      unended = ap (λ x. has_end x.world) both ∙ k.unended;
      world = subst (λ w. IsPartOf w k.at new.world) (sym (ap (λ x. x.world) both)) k.world;
      full = k.full ∙ ap (λ v. v.full) (view_behind-both old xs k.before);
      out_of_memory = k.out_of_memory;
    }

starved_by-in : (b : Bool) (old new : PairView) (script : List Event) → b ≡ false → IsStarvedBy b old script new → IsStarvedIn old script new
unfolding IsStarvedBy
starved_by-in true old new script e h = absurd (cc)
starved_by-in false old new script e h = h

in-starved_by : (b : Bool) (old new : PairView) (script : List Event) → b ≡ false → IsStarvedIn old script new → IsStarvedBy b old script new
unfolding IsStarvedBy
in-starved_by true old new script e h = absurd (cc)
in-starved_by false old new script e h = h

pub IsRun-behind : (old mid new : PairView) (xs ys : List Event) (done : Unit) (r : Result Unit DuetStop) → IsRun old xs mid (Ok done) → IsRun mid ys new r → IsRun old (xs ++ ys) new r
unfolding IsRun
IsRun-behind old mid new xs ys done (Ok all) h k = (h.0, k.1 ∙ ap (λ v. view_behind v ys) h.1 ∙ view_behind-both old xs ys, k.2)
IsRun-behind old mid new xs ys done (Err (stop.Ended side end)) h k = (h.0, k.1 ∙ ap (λ v. view_behind v ys) h.1 ∙ view_behind-both old xs ys, k.2)
IsRun-behind old mid new xs ys done (Err stop.OutOfMemory) h k =
    in-starved_by old.out_of_memory old new (xs ++ ys) h.0
    (starved-behind old mid new xs ys h.1 (starved_by-in mid.out_of_memory mid new ys (ap (λ v. v.out_of_memory) h.1 ∙ h.0) k))

starved-more : (b : Bool) (old new : PairView) (xs ys : List Event) → IsStarvedBy b old xs new → IsStarvedBy b old (xs ++ ys) new
unfolding IsStarvedBy
starved-more true old new xs ys h = h
starved-more false old new xs ys h = record {
  before = h.before;
  at = h.at;
  behind = h.behind ++ ys;
  whole = ap (λ zs. zs ++ ys) h.whole ∙ append_assoc h.before (h.at ∷ h.behind) ys;
  unended = h.unended;
  world = h.world;
  full = h.full;
  out_of_memory = h.out_of_memory;
}

-- what follows a stop changes nothing
pub IsRun-stopped : (old new : PairView) (xs ys : List Event) (s : DuetStop) → IsRun old xs new (Err s) → IsRun old (xs ++ ys) new (Err s)
unfolding IsRun
IsRun-stopped old new xs ys (stop.Ended side end) h =
    let over : has_end (view_behind old xs).world ≡ true = subst (λ (v : PairView). has_end v.world ≡ true) h.1 (first_end-has_end new.world side end h.2) in
    (h.0, h.1 ∙ view_behind-stays old xs ys over, h.2)
IsRun-stopped old new xs ys stop.OutOfMemory h = starved-more old.out_of_memory old new xs ys h

-- no event at all
pub IsRun-none : (old : PairView) (done : Unit) → old.out_of_memory ≡ false → old.full ≤ 2 ^ 64 - 1 → has_end old.world ≡ false → IsRun old [] old (Ok done)
unfolding IsRun run_from
IsRun-none old done memory few going = (memory, sym (same_view old old.world old.world (min (old.full + 0) (2 ^ 64 - 1)) old.full refl (same old.full few)), going)
  where
    same : (n : ℕ) → n ≤ 2 ^ 64 - 1 → min (n + 0) (2 ^ 64 - 1) ≡ n
    same n few = omega arith

-- a node had ended before
pub IsRun-ended : (old : PairView) (script : List Event) (s : Side) (end : End) → old.out_of_memory ≡ false → old.full ≤ 2 ^ 64 - 1 → IsFirstEnd old.world s end → IsRun old script old (Err (stop.Ended s end))
unfolding IsRun
IsRun-ended old script s end memory few over = (memory, sym (view_behind-ended old script few (first_end-has_end old.world s end over)), over)

pub IsRun-starved : (old : PairView) (script : List Event) → old.out_of_memory ≡ true → IsRun old script old (Err stop.OutOfMemory)
unfolding IsRun IsStarvedBy
IsRun-starved old script starved = same old.out_of_memory starved
  where
    same : (b : Bool) → b ≡ true → IsStarvedBy b old script old
    same true e = refl
    same false e = absurd (cc)

-- ---- an event as a run

whole-behind : (a b new_a new_b : NodeView) (full new_full : ℕ) (e : Event) (starved : Bool) → full ≤ 2 ^ 64 - 1 → has_end (world_of a b) ≡ false → starved ≡ false → IsWhole a b full e new_a new_b new_full
    → (let new : PairView = record { world = world_of new_a new_b; full = new_full; out_of_memory = starved } in new) ≡ view_behind (record { world = world_of a b; full = full; out_of_memory = false }) (e ∷ [])
whole-behind a b new_a new_b full new_full e starved few going s h =
    let w = world_of a b in
    let one = run-one w e going in
    let old : PairView = record { world = w; full = full; out_of_memory = false } in
    ap (λ (x : Bool). (let v : PairView = record { world = world_of new_a new_b; full = new_full; out_of_memory = x } in v)) s
    ∙ same_view old (world_of new_a new_b) (run w (e ∷ [])).world new_full (min (full + (run w (e ∷ [])).full) (2 ^ 64 - 1))
    (h.world ∙ sym (ap (λ x. x.world) one)) (h.count (omega arith) ∙ counts full (effect_of w e).full ∙ ap (λ x. min (full + x.full) (2 ^ 64 - 1)) (sym one))
  where
    counts : (n m : ℕ) → min (n + m) (2 ^ 64 - 1) ≡ min (n + min (m + 0) (2 ^ 64 - 1)) (2 ^ 64 - 1)
    counts n m = omega arith

pub event-run : (a b new_a new_b : NodeView) (full new_full : ℕ) (e : Event) (r : Result Unit DuetStop) (starved : Bool) → full ≤ 2 ^ 64 - 1 → has_end (world_of a b) ≡ false → HasHappened a b full e new_a new_b new_full r → starved ≡ is_starved_by r
    → IsRun (record { world = world_of a b; full = full; out_of_memory = false }) (e ∷ []) (record { world = world_of new_a new_b; full = new_full; out_of_memory = starved }) r
unfolding IsRun HasHappened IsStarvedBy run_from
event-run a b new_a new_b full new_full e (Ok done) starved few going h s = (refl, whole-behind a b new_a new_b full new_full e starved few going s h.0, h.1)
event-run a b new_a new_b full new_full e (Err (stop.Ended side end)) starved few going h s = (refl, whole-behind a b new_a new_b full new_full e starved few going s h.0, h.1)
event-run a b new_a new_b full new_full e (Err stop.OutOfMemory) starved few going h s = record {
  before = [];
  at = e;
  behind = [];
  whole = refl;
  unended = going;
  world = h.0;
  full = h.1 ∙ same full few;
  out_of_memory = s;
}
  where
    same : (n : ℕ) → n ≤ 2 ^ 64 - 1 → n ≡ min (n + 0) (2 ^ 64 - 1)
    same n few = omega arith

-- ---- a run that goes on

pub IsRun-memory : (old new : PairView) (script : List Event) (done : Unit) → IsRun old script new (Ok done) → new.out_of_memory ≡ false
unfolding IsRun
IsRun-memory old new script done h = ap (λ v. v.out_of_memory) h.1 ∙ h.0

pub IsRun-going : (old new : PairView) (script : List Event) (done : Unit) → IsRun old script new (Ok done) → has_end new.world ≡ false
unfolding IsRun
IsRun-going old new script done h = h.2

pub IsRun-step : (old mid new : PairView) (script : List Event) (i : ℕ) (e : Event) (done : Unit) (r : Result Unit DuetStop) → i < length script → e ≡ get_or script i e → IsRun old (take i script) mid (Ok done) → IsRun mid (e ∷ []) new r → IsRun old (take (i + 1) script) new r
IsRun-step old mid new script i e done r low is h k =
    let more : take (i + 1) script ≡ take i script ++ e ∷ [] = take_more script i e low ∙ ap (λ x. take i script ++ x ∷ []) (sym is) in
    subst (λ events. IsRun old events new r) (sym more) (IsRun-behind old mid new (take i script) (e ∷ []) done r h k)

-- behind the last event
pub IsRun-rest : (old new : PairView) (script : List Event) (n : ℕ) (s : DuetStop) → IsRun old (take n script) new (Err s) → IsRun old script new (Err s)
IsRun-rest old new script n s h = subst (λ events. IsRun old events new (Err s)) (take-append-drop n script) (IsRun-stopped old new (take n script) (drop n script) s h)

pub IsRun-all : (old new : PairView) (script : List Event) (i : ℕ) (done : Unit) → length script ≤ i → i ≤ length script → IsRun old (take i script) new (Ok done) → IsRun old script new (Ok done)
IsRun-all old new script i done least most h =
    let same : i ≡ length script = omega arith in
    subst (λ events. IsRun old events new (Ok done)) (ap (λ n. take n script) same ∙ take-length script) h
