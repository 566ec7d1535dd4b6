-- An announcement and a request in steps.
use Rattle.std.specs.Prelude.{◌+◌, nat_lt, List, length}
use Rattle.wire_rules.specs.declared.message.InvEntry.{InvEntry}
use Rattle.pool_rules.specs.declared.limits.TheConstants.{POOL_LIMIT}
use Rattle.node_rules.specs.Inventory.{inv_by, serving_of, unknown_ids, with_served}
use Rattle.node_rules.specs.State.{NodeState, NodeView, taken_room}
use Rattle.node_rules.specs.Turns.{Turn, after_turn, turn_with}

-- what is new of an announcement is wanted or asked for, and the set is left as it is
abbrev pub want_turn : NodeState → List InvEntry → Turn
want_turn s es = inv_by (nat_lt POOL_LIMIT (taken_room s + length (unknown_ids s es))) s.config.role s s.set (unknown_ids s es)

-- entries are served, and what can't be isn't told
abbrev pub serve_turn : NodeState → List InvEntry → Turn
serve_turn s es = turn_with (with_served s (serving_of s es).served) (serving_of s es).sent

abbrev pub view_serving : NodeView → List InvEntry → NodeView
view_serving v es = after_turn v (serve_turn v.state es)

-- which of them can't be served
abbrev pub missing_in : NodeState → List InvEntry → List InvEntry
missing_in s es = (serving_of s es).missing
