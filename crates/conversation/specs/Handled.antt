-- What a step makes of a conversation.
use Rattle.std.specs.Prelude.{◌≡◌, Some, None, Ok, Err}
use Rattle.std.specs.declared.option.Option.{Option}
use Rattle.std.specs.declared.result.Result.{Result}
use Rattle.wire_rules.specs.declared.message.Message.{Message}
use Rattle.node_rules.specs.State.{NodeView}
use Rattle.node_rules.specs.Steps.{on_message}
use Rattle.node_rules.specs.Turns.{Turn, after_turn, refusal}
use Rattle.node_rules.specs.declared.end.End.{End}
use Rattle.conversation.specs.declared.stop.Stop.{Stop}
use Rattle.conversation.specs.declared.stop.Stop.TheVariants as stop

-- why a node takes no more, where a call ends with this end; with none where memory was refused
abbrev pub stop_for : Option End → Stop
stop_for (Some e) = stop.Ended e
stop_for None = stop.OutOfMemory

-- memory was refused in a step: the pool and what waits to be sent are as they were
pub record IsStarved (old new : NodeView) : Type 0 where
  pub config : new.state.config ≡ old.state.config
  pub pool : new.state.pool ≡ old.state.pool
  pub outbox : new.outbox ≡ old.outbox

-- the step is taken whole; it is an end, and nothing else changes; or memory was refused in it
unfoldable pub IsStep : Turn → NodeView → NodeView → Result Unit Stop → Type 0
IsStep t old new (Ok done) = (new ≡ after_turn old t) × (t.state.ended ≡ None)
IsStep t old new (Err (stop.Ended e)) = (new ≡ old) × (t ≡ refusal old.state e)
IsStep t old new (Err stop.OutOfMemory) = IsStarved old new

-- a whole message is taken
abbrev pub IsHandled : Message → NodeView → NodeView → Result Unit Stop → Type 0
IsHandled m old new result = IsStep (on_message old.state m) old new result
