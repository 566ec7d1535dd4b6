-- The worlds that two new nodes come to, and what holds in them.
use Rattle.std.proofs.Common.{◌≡◌, ℕ, ◌+◌, ◌-◌, ◌^◌, ◌≤◌, min, Result, Ok, Err, ◌&&◌, Bool, true, false, IsTrue, List, [], ◌∷◌, ◌++◌, refl, sym, ap, ap₂, ◌∙◌, subst, arith}
use Rattle.std.proofs.lemmas.List.Folds.{list_all-append}
use Rattle.pool_rules.specs.Pools.{Transaction}
use Rattle.node_rules.specs.State.{NodeView}
use Rattle.node_rules.specs.declared.config.Config.{Config}
use Rattle.pair_rules.specs.Announcements.{HaveAnnouncedOnly}
use Rattle.pair_rules.specs.Deliveries.{IsDrainedWhereUnended}
use Rattle.pair_rules.specs.Ends.{HasCauseOfEnd}
use Rattle.pair_rules.specs.Gains.{HaveGainedOnly}
use Rattle.pair_rules.specs.Headline.{IsFinishedWhereDrained}
use Rattle.pair_rules.specs.Messages.{AreBounded, all_messages, rounds_of_script}
use Rattle.pair_rules.specs.Reports.{AreAlikeSoFar, AreAlikeWhereDrained}
use Rattle.pair_rules.specs.Rounds.{pair_keys}
use Rattle.pair_rules.specs.World.{World, ArePair, IsScript, is_event, effect_of, has_end, opening_world, run, run_from}
use Rattle.pair_rules.specs.declared.event.Event.{Event}
use Rattle.pair_laws.proofs.Effects.{run_from-both, run_from-few}
use Rattle.headline_laws.proofs.Headline.{headline}
use Rattle.pair_end_laws.proofs.Alike.{drained_reports_are_alike}
use Rattle.pair_end_laws.proofs.Ending.{nodes_end_for_cause, reports_are_alike_so_far, rounds_are_announced}
use Rattle.pair_end_laws.proofs.Gaining.{pools_gain_what_is_added_or_shared}
use Rattle.pair_bound_laws.proofs.Counts.{messages_are_bounded}
use Rattle.pair_bound_laws.proofs.Deliveries.{deliveries_drain}
use Rattle.duet.specs.Runs.{IsRun, IsStarvedBy, view_behind}
use Rattle.duet.proofs.Scripts.{run-one}
use Rattle.duet.specs.Views.{AreNew, AreNewOf, IsReached, IsReachedBy, IsPairOf, PairView, world_of}
use Rattle.duet.specs.declared.stop.DuetStop.{DuetStop}
use Rattle.duet.specs.declared.stop.DuetStop.TheVariants as stop

-- ---- how a pair begins and goes on

pub opening-reached : (c d : Config) (p q : List Transaction) → ArePair c d p q → IsReachedBy c d p q [] (opening_world c d p q) 0
unfolding run_from
opening-reached c d p q pair = record { pair = pair; is_script = refl; world_is = refl; full_is = refl }

pub opening-world : (c d : Config) (p q : List Transaction) (a b : NodeView) → AreNewOf c d p q a b → world_of a b ≡ opening_world c d p q
opening-world c d p q a b new = ap₂ world_of new.node_a new.node_b

pub new-pair : (a b : NodeView) → AreNew a b → IsPairOf false a b 0
unfolding IsPairOf
new-pair a b new =
    let of = new.of in (
      ap (λ v. v.out_of_memory) of.node_a,
      ap (λ v. v.out_of_memory) of.node_b,
      record {
        c = new.c;
        d = new.d;
        p = new.p;
        q = new.q;
        script = [];
        by = subst (λ w. IsReachedBy new.c new.d new.p new.q [] w 0) (sym (opening-world new.c new.d new.p new.q a b of)) (opening-reached new.c new.d new.p new.q of.pair);
      },
    )

all_both : (xs ys : List Event) → IsScript xs → IsScript ys → IsScript (xs ++ ys)
all_both xs ys h k = list_all-append is_event xs ys ∙ ap₂ (λ (x y : Bool). x && y) h k

-- more events
pub script-reached : (w : World) (full : ℕ) (script : List Event) → IsScript script → IsReached w full → IsReached (run w script).world (min (full + (run w script).full) (2 ^ 64 - 1))
script-reached w full script fine r =
    let o = opening_world r.c r.d r.p r.q in
    let by = r.by in
    let both = run_from-both r.script script o in
    record {
      c = r.c;
      d = r.d;
      p = r.p;
      q = r.q;
      script = r.script ++ script;
      by = record {
        pair = by.pair;
        is_script = all_both r.script script by.is_script fine;
        world_is = ap (λ v. (run v script).world) by.world_is ∙ sym (ap (λ x. x.world) both);
        full_is = ap₂ (λ (n : ℕ) (v : World). min (n + (run v script).full) (2 ^ 64 - 1)) by.full_is by.world_is ∙ sym (ap (λ x. x.full) both);
      };
    }

-- one event more
pub event-reached : (w u : World) (full count : ℕ) (e : Event) → has_end w ≡ false → IsTrue (is_event e) → u ≡ (effect_of w e).world → count ≡ min (full + (effect_of w e).full) (2 ^ 64 - 1) → IsReached w full → IsReached u count
event-reached w u full count e going fine world_is count_is r =
    let one = run-one w e going in
    let world : (run w (e ∷ [])).world ≡ u = ap (λ x. x.world) one ∙ sym world_is in
    let counted : min (full + (run w (e ∷ [])).full) (2 ^ 64 - 1) ≡ count = ap (λ x. min (full + x.full) (2 ^ 64 - 1)) one ∙ sym (counts full (effect_of w e).full) ∙ sym count_is in
    subst (IsReached u) counted (subst (λ x. IsReached x (min (full + (run w (e ∷ [])).full) (2 ^ 64 - 1))) world (script-reached w full (e ∷ []) (ap (λ b. b && true) fine) r))
  where
    counts : (n m : ℕ) → min (n + m) (2 ^ 64 - 1) ≡ min (n + min (m + 0) (2 ^ 64 - 1)) (2 ^ 64 - 1)
    counts n m = omega arith

pub view-reached : (old new : PairView) (script : List Event) → IsScript script → new ≡ view_behind old script → IsReached old.world old.full → IsReached new.world new.full
view-reached old new script fine e r = subst (λ (v : PairView). IsReached v.world v.full) (sym e) (script-reached old.world old.full script fine r)

starved_by-out_of_memory : (b : Bool) (old new : PairView) (script : List Event) → b ≡ old.out_of_memory → IsStarvedBy b old script new → new.out_of_memory ≡ true
unfolding IsStarvedBy
starved_by-out_of_memory true old new script e h = ap (λ v. v.out_of_memory) h ∙ sym e
starved_by-out_of_memory false old new script e h = h.out_of_memory

-- until memory is refused
pub run-reached : (old new : PairView) (script : List Event) (told : Result Unit DuetStop) → (old.out_of_memory ≡ false → IsReached old.world old.full) → IsScript script → IsRun old script new told → new.out_of_memory ≡ false → IsReached new.world new.full
unfolding IsRun
run-reached old new script (Ok done) r fine h going = view-reached old new script fine h.1 (r h.0)
run-reached old new script (Err (stop.Ended side end)) r fine h going = view-reached old new script fine h.1 (r h.0)
run-reached old new script (Err stop.OutOfMemory) r fine h going = absurd (let starved = starved_by-out_of_memory old.out_of_memory old new script refl h in cc)

-- ---- what holds in them

pub reached-finished : (w : World) (full : ℕ) → IsReached w full → IsFinishedWhereDrained w
reached-finished w full r = subst IsFinishedWhereDrained (sym r.by.world_is) (headline r.c r.d r.p r.q r.script r.by.pair r.by.is_script)

pub reached-alike : (w : World) (full : ℕ) → IsReached w full → AreAlikeWhereDrained w
reached-alike w full r = subst AreAlikeWhereDrained (sym r.by.world_is) (drained_reports_are_alike r.c r.d r.p r.q r.script r.by.pair r.by.is_script)

pub reached-cause : (w : World) (full : ℕ) → IsReached w full → HasCauseOfEnd w.a w.b
reached-cause w full r = subst (λ (v : World). HasCauseOfEnd v.a v.b) (sym r.by.world_is) (nodes_end_for_cause r.c r.d r.p r.q r.script r.by.pair r.by.is_script)

pub reached-drains : (w : World) (full : ℕ) → IsReached w full → has_end w ≡ false → IsDrainedWhereUnended w 16
reached-drains w full r =
    subst (λ (v : World). has_end v ≡ false → IsDrainedWhereUnended v 16) (sym r.by.world_is)
    (deliveries_drain r.c r.d r.p r.q r.script r.by.pair r.by.is_script)

pub reached-gains : (w : World) (full : ℕ) (script : List Event) → IsReached w full → IsScript script → HaveGainedOnly w script (run w script).world
reached-gains w full script r fine =
    subst (λ (v : World). HaveGainedOnly v script (run v script).world) (sym r.by.world_is)
    (pools_gain_what_is_added_or_shared r.c r.d r.p r.q r.script script r.by.pair r.by.is_script fine)

-- ---- what was said on the way

pub reached-announced : (c d : Config) (p q : List Transaction) (script : List Event) (w : World) (full : ℕ) → IsReachedBy c d p q script w full → HaveAnnouncedOnly (run (opening_world c d p q) script)
reached-announced c d p q script w full r = rounds_are_announced c d p q script r.pair r.is_script

pub reached-bounded : (c d : Config) (p q : List Transaction) (script : List Event) (w : World) (full : ℕ) → IsReachedBy c d p q script w full
    → AreBounded (min c.top d.top) (all_messages c d (run (opening_world c d p q) script)) (rounds_of_script script (opening_world c d p q))
reached-bounded c d p q script w full r = messages_are_bounded c d p q script r.pair r.is_script

pub reached-alike_so_far : (c d : Config) (p q : List Transaction) (script : List Event) (w : World) (full : ℕ) → IsReachedBy c d p q script w full → AreAlikeSoFar (pair_keys w) w.a.machine.reports w.b.machine.reports
reached-alike_so_far c d p q script w full r =
    subst (λ (v : World). AreAlikeSoFar (pair_keys v) v.a.machine.reports v.b.machine.reports) (sym r.world_is)
    (reports_are_alike_so_far c d p q script r.pair r.is_script)

-- ---- pairs

pub pair-reached : (b : Bool) (x y : NodeView) (full : ℕ) → b ≡ false → IsPairOf b x y full → IsReached (world_of x y) full
unfolding IsPairOf
pair-reached true x y full e h = absurd (cc)
pair-reached false x y full e h = h.2

pub pair-memory : (b : Bool) (x y : NodeView) (full : ℕ) → b ≡ false → IsPairOf b x y full → (x.out_of_memory ≡ false) × (y.out_of_memory ≡ false)
unfolding IsPairOf
pair-memory true x y full e h = absurd (cc)
pair-memory false x y full e h = (h.0, h.1)

-- the count has at most its last value
pub reached-few : (w : World) (full : ℕ) → IsReached w full → full ≤ 2 ^ 64 - 1
reached-few w full r = subst (λ n. n ≤ 2 ^ 64 - 1) (sym r.by.full_is) (run_from-few r.script (opening_world r.c r.d r.p r.q))
