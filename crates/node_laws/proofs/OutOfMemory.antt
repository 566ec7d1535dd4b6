-- A node whose memory was refused keeps its pool, and nothing happens to it any more.
use Rattle.std.proofs.Common.{◌≡◌, true, List, ℕ, ◌++◌, ◌∙◌, ap}
use Rattle.pool_rules.specs.Pools.{Transaction}
use Rattle.node_rules.specs.Additions.{on_addition}
use Rattle.node_rules.specs.Memory.{IsOutOfMemoryIn, unless_out_of_memory, view_behind_piece, view_behind_addition, view_behind_start}
use Rattle.node_rules.specs.State.{NodeView}
use Rattle.node_rules.specs.Steps.{with_piece, on_piece, on_start}
use Rattle.node_rules.specs.Turns.{after_turn}
use Rattle.node_laws.proofs.LaterSteps.{on_frames-later}

pub out_of_memory-pool : (old new : NodeView) (piece : List ℕ) → IsOutOfMemoryIn old piece new → (more : List Transaction) × (new.state.pool ≡ old.state.pool ++ more)
out_of_memory-pool old new piece h = let later = on_frames-later h.count (with_piece old.state piece) in (later.new_held, h.pool ∙ later.pool)

stays_out_of_memory : (v next : NodeView) → v.out_of_memory ≡ true → unless_out_of_memory v.out_of_memory v next ≡ v
unfolding unless_out_of_memory
stays_out_of_memory v next h = ap (λ b. unless_out_of_memory b v next) h

pub out_of_memory-piece : (v : NodeView) (piece : List ℕ) → v.out_of_memory ≡ true → view_behind_piece v piece ≡ v
out_of_memory-piece v piece h = stays_out_of_memory v (after_turn v (on_piece v.state piece)) h

pub out_of_memory-addition : (v : NodeView) (tx : List ℕ) → v.out_of_memory ≡ true → view_behind_addition v tx ≡ v
out_of_memory-addition v tx h = stays_out_of_memory v (after_turn v (on_addition v.state tx).turn) h

pub out_of_memory-start : (v : NodeView) → v.out_of_memory ≡ true → view_behind_start v ≡ v
out_of_memory-start v h = stays_out_of_memory v (after_turn v (on_start v.state).turn) h
