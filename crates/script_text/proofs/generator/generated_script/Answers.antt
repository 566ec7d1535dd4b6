use Rattle.std.proofs.Common.{arith, subst, sym}
use Rattle.pair_rules.specs.World.{IsScript}
use Rattle.protocol_text_rules.specs.Generator.{generated_script}
use Rattle.script_text.proofs.Lists.{generated_all, generated_more}
use Rattle.script_text.proofs.Sound.{generated_script-sound}
use Rattle.script_text.proofs.generator.generated_script.Goals as goal

pub loop-i-preserved : goal.loop-i-preserved
loop-i-preserved c =
    generated_more c.args.n c.loop-i.i c.loop-i.number c.next_number-number.result c.loop-i.events.items c.push_additions.new.events.items (generated_script c.args.n) (omega (arith, c.loop-i-test.true))
    c.next_number-number.ensures c.in_ok-push_additions.ensures c.loop-i.invariant

pub returns-clause-made : goal.returns-clause-made
returns-clause-made c =
    generated_all c.args.n c.loop-i.i c.loop-i.number c.next_number.result c.in_ok-last.last c.loop-i.events.items c.push_rounds.new.events.items (generated_script c.args.n) (omega (arith, c.loop-i-test.false))
    c.next_number.ensures c.in_ok-last.ensures c.in_ok-push_rounds.ensures c.loop-i.invariant

pub returns-clause-sound : goal.returns-clause-sound
returns-clause-sound c = subst IsScript (sym (returns-clause-made c)) (generated_script-sound c.args.n)
