-- Scripts in a row.
use Rattle.std.proofs.Common.{◌≡◌, Bool, true, false, List, [], ◌∷◌, ◌++◌, refl, sym, ap}
use Rattle.pair_rules.specs.World.{World, Effect, no_effect, unless_ended, run_from, effect_of, has_end}
use Rattle.pair_rules.specs.declared.event.Event.{Event}

-- a world with an ended node stays as it is
pub run_from-ended : (es : List Event) (w : World) → has_end w ≡ true → run_from es w ≡ no_effect w
unfolding run_from unless_ended
run_from-ended [] w h = refl
run_from-ended (e ∷ es) w h = ap (λ b. unless_ended b w (effect_of w e) (run_from es)) h

-- by whether a node had ended before the first event
first_event : (fs : List Event) (w : World) (x : Effect) (next later : World → Effect) (b : Bool) → has_end w ≡ b
    → (later x.world).world ≡ (run_from fs (next x.world).world).world
    → (unless_ended b w x later).world ≡ (run_from fs (unless_ended b w x next).world).world
unfolding unless_ended
first_event fs w x next later true h then_so = sym (ap (λ y. y.world) (run_from-ended fs w h))
first_event fs w x next later false h then_so = then_so

-- a run of one script behind another leaves what the second leaves of what the first leaves
pub run_from-append : (es fs : List Event) (w : World) → (run_from (es ++ fs) w).world ≡ (run_from fs (run_from es w).world).world
unfolding run_from
run_from-append [] fs w = refl
run_from-append (e ∷ es) fs w =
    first_event fs w (effect_of w e) (run_from es) (run_from (es ++ fs)) (has_end w) refl (run_from-append es fs (effect_of w e).world)
