-- What a run of events does to two nodes.
use Rattle.std.specs.Prelude.{◌≡◌, ◌+◌, ◌-◌, ◌^◌, min, Bool, true, false, List, ◌∷◌, ◌++◌, Ok, Err}
use Rattle.std.specs.declared.result.Result.{Result}
use Rattle.pair_rules.specs.World.{has_end, run}
use Rattle.pair_rules.specs.declared.event.Event.{Event}
use Rattle.duet.specs.Events.{IsFirstEnd, IsPartOf}
use Rattle.duet.specs.Views.{PairView}
use Rattle.duet.specs.declared.stop.DuetStop.{DuetStop}
use Rattle.duet.specs.declared.stop.DuetStop.TheVariants as stop

-- the world behind a script, and how many additions found no room, up to 2 ^ 64 - 1, where the count stays
abbrev pub view_behind : PairView → List Event → PairView
view_behind v script = record v { world = (run v.world script).world; full = min (v.full + (run v.world script).full) (2 ^ 64 - 1) }

-- the events before the one in which memory was refused are done, and that one in part
pub record IsStarvedIn (old : PairView) (script : List Event) (new : PairView) : Type 0 where
  pub before : List Event
  pub at : Event
  pub behind : List Event
  pub whole : script ≡ before ++ at ∷ behind
  pub unended : has_end (run old.world before).world ≡ false
  pub world : IsPartOf (run old.world before).world at new.world
  pub full : new.full ≡ (view_behind old before).full
  pub out_of_memory : new.out_of_memory ≡ true

-- behind that nothing changes
unfoldable pub IsStarvedBy : Bool → PairView → List Event → PairView → Type 0
IsStarvedBy true old script new = new ≡ old
IsStarvedBy false old script new = IsStarvedIn old script new

-- all events are done, and no node has ended; a node has ended, in these or before; or memory was refused
unfoldable pub IsRun : PairView → List Event → PairView → Result Unit DuetStop → Type 0
IsRun old script new (Ok done) = (old.out_of_memory ≡ false) × (new ≡ view_behind old script) × (has_end new.world ≡ false)
IsRun old script new (Err (stop.Ended side end)) = (old.out_of_memory ≡ false) × (new ≡ view_behind old script) × IsFirstEnd new.world side end
IsRun old script new (Err stop.OutOfMemory) = IsStarvedBy old.out_of_memory old script new
