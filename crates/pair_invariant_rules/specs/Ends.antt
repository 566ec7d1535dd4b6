-- A pair behind the step in which a node ends.
use Rattle.std.specs.Prelude.{◌≡◌, true, false, List, ◌∷◌, Some, None}
use Rattle.wire_rules.specs.declared.message.Message.{Message}
use Rattle.node_rules.specs.Steps.{on_message}
use Rattle.node_rules.specs.declared.end.End.{End}
use Rattle.pair_rules.specs.World.{World, has_end}
use Rattle.pair_invariant_rules.specs.Pairs.{Pair, after_message_a, after_message_b, pair_of_world, HasPair}

-- what holds of a pair behind a message that ends a node. Nothing else ends one
pub record IsEndLaw (Kept Over : Pair → Type 0) : Type 0 where
  pub by_message_a : (p : Pair) (m : Message) (ms : List Message) (e : End) → Kept p → p.a.ended ≡ None → p.b.ended ≡ None → p.to_a ≡ m ∷ ms → (on_message p.a m).state.ended ≡ Some e → Over (after_message_a p m ms)
  pub by_message_b : (p : Pair) (m : Message) (ms : List Message) (e : End) → Kept p → p.a.ended ≡ None → p.b.ended ≡ None → p.to_b ≡ m ∷ ms → (on_message p.b m).state.ended ≡ Some e → Over (after_message_b p m ms)

pub record HasEndedPair (Over : Pair → Type 0) (w : World) (by_a by_b : List Message) : Type 0 where
  pub to_a : List Message
  pub to_b : List Message
  pub over : Over (pair_of_world w to_a to_b by_a by_b)

-- at every moment, by whether a node has ended
pub record HasPairAlways (Kept Over : Pair → Type 0) (w : World) (by_a by_b : List Message) : Type 0 where
  pub going : has_end w ≡ false → HasPair Kept w by_a by_b
  pub over : has_end w ≡ true → HasEndedPair Over w by_a by_b
