use Rattle.std.proofs.Common.{take, Ok}
use Rattle.duet.specs.Runs.{IsRun}
use Rattle.duet.proofs.duet.Duet.run.Given as goal

abbrev pub invariant-loop-event : goal.invariant-loop-event
invariant-loop-event l = IsRun l.fn.self (take l.event-index l.script) l.self (Ok tt)
