-- What one event does to two nodes that have not ended.
use Rattle.std.specs.Prelude.{◌≡◌, ℕ, ◌+◌, ◌-◌, ◌^◌, ◌<◌, min, Bool, true, false, List, take, drop, Some, None, Ok, Err}
use Rattle.std.specs.declared.result.Result.{Result}
use Rattle.node_rules.specs.Memory.{IsOutOfMemoryIn}
use Rattle.node_rules.specs.State.{NodeState, NodeView}
use Rattle.node_rules.specs.declared.end.End.{End}
use Rattle.pair_rules.specs.World.{World, effect_of, has_end}
use Rattle.pair_rules.specs.declared.event.Event.{Event}
use Rattle.pair_rules.specs.declared.event.Event.TheVariants as event
use Rattle.pair_rules.specs.declared.side.Side.{Side}
use Rattle.pair_rules.specs.declared.side.Side.TheVariants as side
use Rattle.conversation.specs.declared.stop.Stop.{Stop}
use Rattle.conversation.specs.declared.stop.Stop.TheVariants as node_stop
use Rattle.duet.specs.Views.{world_of}
use Rattle.duet.specs.declared.stop.DuetStop.{DuetStop}
use Rattle.duet.specs.declared.stop.DuetStop.TheVariants as stop

abbrev pub node_view : NodeState → List ℕ → Bool → NodeView
node_view s outbox starved = record { state = s; outbox = outbox; out_of_memory = starved }

-- memory was refused in an event: a delivery is taken off the wire, and its node is as one that has run out of memory in it;
-- an addition or the start of a round has changed nothing
unfoldable pub IsPartOf : World → Event → World → Type 0
IsPartOf w (event.DeliverAb n) u = (u.a ≡ w.a) × (u.ab ≡ drop n w.ab) × IsOutOfMemoryIn (node_view w.b w.ba false) (take n w.ab) (node_view u.b u.ba true)
IsPartOf w (event.DeliverBa n) u = (u.b ≡ w.b) × (u.ba ≡ drop n w.ba) × IsOutOfMemoryIn (node_view w.a w.ab false) (take n w.ba) (node_view u.a u.ab true)
IsPartOf w other u = u ≡ w

-- which node has ended first, and why: a before b
unfoldable pub IsFirstEnd : World → Side → End → Type 0
IsFirstEnd w side.A end = w.a.ended ≡ Some end
IsFirstEnd w side.B end = (w.a.ended ≡ None) × (w.b.ended ≡ Some end)

-- an event is done, and memory was not refused in it
pub record IsWhole (a b : NodeView) (full : ℕ) (e : Event) (new_a new_b : NodeView) (new_full : ℕ) : Type 0 where
  pub memory_a : new_a.out_of_memory ≡ false
  pub memory_b : new_b.out_of_memory ≡ false
  pub world : world_of new_a new_b ≡ (effect_of (world_of a b) e).world
  pub count : full < 2 ^ 64 → new_full ≡ min (full + (effect_of (world_of a b) e).full) (2 ^ 64 - 1)

-- the event is done, and no node has ended in it; one has; or memory was refused in it
unfoldable pub HasHappened : NodeView → NodeView → ℕ → Event → NodeView → NodeView → ℕ → Result Unit DuetStop → Type 0
HasHappened a b full e new_a new_b new_full (Ok done) = IsWhole a b full e new_a new_b new_full × (has_end (world_of new_a new_b) ≡ false)
HasHappened a b full e new_a new_b new_full (Err (stop.Ended side end)) = IsWhole a b full e new_a new_b new_full × IsFirstEnd (world_of new_a new_b) side end
HasHappened a b full e new_a new_b new_full (Err stop.OutOfMemory) = IsPartOf (world_of a b) e (world_of new_a new_b) × (new_full ≡ full)

-- what the node on a side has answered
abbrev pub told_on : Side → Result Unit Stop → Result Unit DuetStop
told_on side (Ok done) = Ok done
told_on side (Err (node_stop.Ended end)) = Err (stop.Ended side end)
told_on side (Err node_stop.OutOfMemory) = Err stop.OutOfMemory

-- whether memory was refused
abbrev pub is_starved_by : Result Unit DuetStop → Bool
is_starved_by (Err stop.OutOfMemory) = true
is_starved_by other = false
