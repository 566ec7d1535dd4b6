use Rattle.std.proofs.Common.{◌≡◌, ◌-◌, ◌++◌}
use Rattle.protocol_text_rules.specs.Generator.{generated_from, generated_script}
use Rattle.script_text.proofs.generator.generated_script.Given as goal

-- what is left, behind the events so far
abbrev pub invariant-loop-i : goal.invariant-loop-i
invariant-loop-i l = l.events.items ++ generated_from (l.n - l.i) l.i l.number ≡ generated_script l.n
