-- What a node answers to a piece of its peer's stream.
use Rattle.std.specs.Prelude.{◌≡◌, ℕ, Bool, true, false, List, Some, None, Ok, Err}
use Rattle.std.specs.declared.result.Result.{Result}
use Rattle.node_rules.specs.Memory.{IsOutOfMemoryIn, view_behind_piece}
use Rattle.node_rules.specs.State.{NodeView}
use Rattle.conversation.specs.declared.stop.Stop.{Stop}
use Rattle.conversation.specs.declared.stop.Stop.TheVariants as stop

-- memory is refused in the piece, or was before: then nothing changes
unfoldable pub IsStarvedBy : Bool → NodeView → List ℕ → NodeView → Type 0
IsStarvedBy true old piece new = new ≡ old
IsStarvedBy false old piece new = IsOutOfMemoryIn old piece new

-- the piece is taken, and the node goes on; it has ended, in this piece or before; or memory was refused
unfoldable pub IsTaken : NodeView → List ℕ → NodeView → Result Unit Stop → Type 0
IsTaken old piece new (Ok done) = (old.out_of_memory ≡ false) × (new ≡ view_behind_piece old piece) × (new.state.ended ≡ None)
IsTaken old piece new (Err (stop.Ended e)) = (old.out_of_memory ≡ false) × (new ≡ view_behind_piece old piece) × (new.state.ended ≡ Some e)
IsTaken old piece new (Err stop.OutOfMemory) = (old.state.ended ≡ None) × IsStarvedBy old.out_of_memory old piece new
