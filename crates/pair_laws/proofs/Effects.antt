-- What a script does behind another one.
use Rattle.std.proofs.Common.{◌≡◌, ℕ, ◌+◌, ◌-◌, ◌^◌, ◌≤◌, min, Bool, true, false, List, [], ◌∷◌, ◌++◌, refl, sym, ap, ap₂, ◌∙◌, arith, append_assoc}
use Rattle.wire_rules.specs.declared.message.Message.{Message}
use Rattle.pair_rules.specs.World.{World, Effect, no_effect, effect_sequence, unless_ended, run_from, effect_of, has_end}
use Rattle.pair_rules.specs.declared.event.Event.{Event}
use Rattle.pair_rules.proofs.Runs.{run_from-ended}

-- no count of full additions passes its last value
unless_ended-few : (over : Bool) (w : World) (x : Effect) (next : World → Effect) → (unless_ended over w x next).full ≤ 2 ^ 64 - 1
unfolding unless_ended
unless_ended-few true w x next = omega arith
unless_ended-few false w x next = let n = x.full in let k = (next x.world).full in let few : min (n + k) (2 ^ 64 - 1) ≤ 2 ^ 64 - 1 = omega arith in few

pub run_from-few : (es : List Event) (w : World) → (run_from es w).full ≤ 2 ^ 64 - 1
unfolding run_from
run_from-few [] w = omega arith
run_from-few (e ∷ es) w = unless_ended-few (has_end w) w (effect_of w e) (run_from es)

followed_assoc : (x y z : Effect) → effect_sequence x (effect_sequence y z) ≡ effect_sequence (effect_sequence x y) z
followed_assoc x y z = λ i. record {
  world = z.world;
  by_a = sym (append_assoc x.by_a y.by_a z.by_a) i;
  by_b = sym (append_assoc x.by_b y.by_b z.by_b) i;
  full = sums x.full y.full z.full i;
}
  where
    sums : (a b c : ℕ) → min (a + min (b + c) (2 ^ 64 - 1)) (2 ^ 64 - 1) ≡ min (min (a + b) (2 ^ 64 - 1) + c) (2 ^ 64 - 1)
    sums a b c = omega arith

-- nothing in front of an effect
nothing_followed : (w : World) (x : Effect) → x.full ≤ 2 ^ 64 - 1 → effect_sequence (no_effect w) x ≡ x
nothing_followed w x few = λ i. record { world = x.world; by_a = x.by_a; by_b = x.by_b; full = same x.full few i }
  where
    same : (n : ℕ) → n ≤ 2 ^ 64 - 1 → min (0 + n) (2 ^ 64 - 1) ≡ n
    same n few = omega arith

first_event : (over : Bool) (fs : List Event) (w : World) (x : Effect) (next later : World → Effect) → has_end w ≡ over
    → later x.world ≡ effect_sequence (next x.world) (run_from fs (next x.world).world)
    → unless_ended over w x later ≡ effect_sequence (unless_ended over w x next) (run_from fs (unless_ended over w x next).world)
unfolding unless_ended
first_event true fs w x next later h more =
    sym (ap (effect_sequence (no_effect w)) (run_from-ended fs w h) ∙ nothing_followed w (no_effect w) (omega arith))
first_event false fs w x next later h more = ap (effect_sequence x) more ∙ followed_assoc x (next x.world) (run_from fs (next x.world).world)

-- one script behind another does what the first does, and then what the second does in the world that is left
pub run_from-both : (es fs : List Event) (w : World) → run_from (es ++ fs) w ≡ effect_sequence (run_from es w) (run_from fs (run_from es w).world)
unfolding run_from
run_from-both [] fs w = sym (nothing_followed w (run_from fs w) (run_from-few fs w))
run_from-both (e ∷ es) fs w =
    first_event (has_end w) fs w (effect_of w e) (run_from es) (run_from (es ++ fs)) refl (run_from-both es fs (effect_of w e).world)
