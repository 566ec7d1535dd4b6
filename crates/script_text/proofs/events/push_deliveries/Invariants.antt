use Rattle.std.proofs.Common.{◌≡◌, ◌-◌, ◌++◌}
use Rattle.pair_rules.specs.World.{deliveries}
use Rattle.script_text.proofs.events.push_deliveries.Given as goal

-- the deliveries that are left, behind the events so far
abbrev pub invariant-loop : goal.invariant-loop
invariant-loop l = l.events.items ++ deliveries (16 - l.counter) ≡ l.fn.events.items ++ deliveries 16
