-- Nothing leaves the pool of a side, whatever happens.
use Rattle.std.proofs.Common.{ℕ, Bool, true, false, List, [], ◌∷◌, ◌++◌, take, drop, sym, ap, ◌∙◌, append_assoc, append-nil}
use Rattle.node_rules.specs.Additions.{on_addition}
use Rattle.node_rules.specs.Steps.{on_piece, on_start}
use Rattle.node_rules.specs.Turns.{Turn}
use Rattle.node_laws.specs.Later.{IsLater}
use Rattle.node_laws.proofs.LaterSteps.{on_piece-later, on_addition-later, on_start-later}
use Rattle.pair_rules.specs.World.{World, Effect, turn_a, turn_b, fullness, effect_of, unless_ended, run_from, has_end}
use Rattle.pair_rules.specs.declared.event.Event.{Event}
use Rattle.pair_rules.specs.declared.event.Event.TheVariants as event
use Rattle.pair_laws.specs.Pools.{HaveGrown}

extends-same : (w : World) → HaveGrown w w
extends-same w = record { more_a = []; more_b = []; pool_a = sym (append-nil w.a.pool); pool_b = sym (append-nil w.b.pool) }

extends-both : (u v w : World) → HaveGrown u v → HaveGrown v w → HaveGrown u w
extends-both u v w first second = record {
  more_a = first.more_a ++ second.more_a;
  more_b = first.more_b ++ second.more_b;
  pool_a = second.pool_a ∙ ap (λ pool. pool ++ second.more_a) first.pool_a ∙ append_assoc u.a.pool first.more_a second.more_a;
  pool_b = second.pool_b ∙ ap (λ pool. pool ++ second.more_b) first.pool_b ∙ append_assoc u.b.pool first.more_b second.more_b;
}

-- a step of a side
turn_a-extends : (w : World) (ba : List ℕ) (t : Turn) (full : ℕ) → IsLater w.a t.state → HaveGrown w (turn_a (record w { ba = ba }) t full).world
turn_a-extends w ba t full g = record { more_a = g.new_held; more_b = []; pool_a = g.pool; pool_b = sym (append-nil w.b.pool) }

turn_b-extends : (w : World) (ab : List ℕ) (t : Turn) (full : ℕ) → IsLater w.b t.state → HaveGrown w (turn_b (record w { ab = ab }) t full).world
turn_b-extends w ab t full g = record { more_a = []; more_b = g.new_held; pool_a = sym (append-nil w.a.pool); pool_b = g.pool }

pub effect_of-extends : (w : World) (e : Event) → HaveGrown w (effect_of w e).world
unfolding effect_of
effect_of-extends w (event.DeliverAb n) = turn_b-extends w (drop n w.ab) (on_piece w.b (take n w.ab)) 0 (on_piece-later w.b (take n w.ab))
effect_of-extends w (event.DeliverBa n) = turn_a-extends w (drop n w.ba) (on_piece w.a (take n w.ba)) 0 (on_piece-later w.a (take n w.ba))
effect_of-extends w (event.AddA tx) = turn_a-extends w w.ba (on_addition w.a tx).turn (fullness (on_addition w.a tx).added) (on_addition-later w.a tx)
effect_of-extends w (event.AddB tx) = turn_b-extends w w.ab (on_addition w.b tx).turn (fullness (on_addition w.b tx).added) (on_addition-later w.b tx)
effect_of-extends w event.Round = turn_a-extends w w.ba (on_start w.a).turn 0 (on_start-later w.a)

unless_ended-extends : (over : Bool) (w : World) (x : Effect) (next : World → Effect) → HaveGrown w x.world → ((v : World) → HaveGrown v (next v).world) → HaveGrown w (unless_ended over w x next).world
unfolding unless_ended
unless_ended-extends true w x next first later = extends-same w
unless_ended-extends false w x next first later = extends-both w x.world (next x.world).world first (later x.world)

pub run_from-extends : (es : List Event) (w : World) → HaveGrown w (run_from es w).world
unfolding run_from
run_from-extends [] w = extends-same w
run_from-extends (e ∷ es) w = unless_ended-extends (has_end w) w (effect_of w e) (run_from es) (effect_of-extends w e) (run_from-extends es)
