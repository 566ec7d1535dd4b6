-- Steps of nodes that have received other bytes.
use Rattle.node_rules.specs.State.{Inbox}
use Rattle.node_rules.specs.Steps.{with_inbox}
use Rattle.node_rules.specs.Turns.{Turn}

-- the step, with these bytes received behind it
abbrev pub turn_with_inbox : Turn → Inbox → Turn
turn_with_inbox t i = record t { state = with_inbox t.state i }
