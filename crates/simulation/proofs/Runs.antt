-- What a run makes of two new nodes, in any world.
use Rattle.std.proofs.Common.{◌≡◌, ℕ, ◌+◌, ◌-◌, ◌^◌, ◌≤◌, min, Bool, false, List, ap, ◌∙◌, arith, Ok, Err}
use Rattle.node_rules.specs.declared.end.End.{End}
use Rattle.pair_rules.specs.World.{World, Effect, no_effect, run}
use Rattle.pair_rules.specs.declared.event.Event.{Event}
use Rattle.pair_rules.specs.declared.side.Side.{Side}
use Rattle.pair_laws.proofs.Effects.{run_from-few}
use Rattle.protocol_text_rules.specs.Pairs.{run_text}
use Rattle.duet.specs.Runs.{IsRun, view_behind}
use Rattle.duet.specs.Views.{PairView}
use Rattle.duet.specs.declared.stop.DuetStop.TheVariants as stop
use Rattle.simulation.specs.Views.{end_in, view_of}

behind : (w : World) (script : List Event) (old new : PairView) → old ≡ view_of (no_effect w) → new ≡ view_behind old script → new ≡ view_of (run w script)
behind w script old new begins is =
    is
    ∙ (ap (λ (v : PairView). view_behind v script) begins
    ∙ ap (λ (n : ℕ). (let v : PairView = record { world = (run w script).world; full = n; out_of_memory = false } in v)) (counted (run w script).full (run_from-few script w)))
  where
    counted : (n : ℕ) → n ≤ 2 ^ 64 - 1 → min (0 + n) (2 ^ 64 - 1) ≡ n
    counted n few = omega arith

pub run-done : (w : World) (script : List Event) (old new : PairView) (done : Unit) → old ≡ view_of (no_effect w) → IsRun old script new (Ok done) → new ≡ view_of (run w script)
unfolding IsRun
run-done w script old new done begins h = behind w script old new begins h.1

pub run-ended : (w : World) (script : List Event) (old new : PairView) (s : Side) (end : End) → old ≡ view_of (no_effect w) → IsRun old script new (Err (stop.Ended s end)) → new ≡ view_of (run w script)
unfolding IsRun
run-ended w script old new s end begins h = behind w script old new begins h.1

-- what is written of them, and why one has ended
pub text-of : (x : Effect) (v : PairView) → v ≡ view_of x → (with_ids : Bool) → run_text with_ids (record (no_effect v.world) { full = v.full }) ≡ run_text with_ids x
text-of x v is with_ids = ap (λ (u : PairView). run_text with_ids (record (no_effect u.world) { full = u.full })) is

pub end-of : (x : Effect) (v : PairView) → v ≡ view_of x → end_in v.world ≡ end_in x.world
end-of x v is = ap (λ (u : PairView). end_in u.world) is
