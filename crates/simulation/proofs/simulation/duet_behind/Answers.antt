use Rattle.std.proofs.Common.{subst, Err}
use Rattle.duet.specs.Runs.{IsRun}
use Rattle.duet.specs.declared.stop.DuetStop.{DuetStop}
use Rattle.protocol_text_rules.specs.Pairs.{script_world}
use Rattle.simulation.proofs.Runs.{run-done, run-ended}
use Rattle.simulation.proofs.simulation.duet_behind.Goals as goal

pub returns-in-Ok : goal.returns-in-Ok
returns-in-Ok c = run-done script_world c.args.script.now c.in_ok-duet.duet c.run.new.self c.in-Ok.field-0 c.in_ok-duet.ensures c.in-Ok.ensures.run

pub returns-in-Err-Ended : goal.returns-in-Err-Ended
returns-in-Err-Ended c =
    run-ended script_world c.args.script.now c.in_ok-duet.duet c.run.new.self c.in-Err-Ended.field-0-0 c.in-Err-Ended.field-0-1 c.in_ok-duet.ensures
    (subst (λ (s : DuetStop). IsRun c.in_ok-duet.duet c.args.script.now c.run.new.self (Err s)) c.in-Err-Ended.field-0-is c.in-Err-Ended.ensures.run)
