use Rattle.std.proofs.Common.{Ok, Err, ◌+◌, []}
use Rattle.std.proofs.lemmas.Result.{err_from_is_err_and}
use Rattle.duet.specs.Runs.{IsRun}
use Rattle.duet.proofs.Gaining.{run-gained}
use Rattle.duet.proofs.Reached.{reached-cause, run-reached}
use Rattle.duet.proofs.Scripts.{IsRun-all, IsRun-memory, IsRun-going, IsRun-rest, IsRun-step, IsRun-stopped}
use Rattle.duet.proofs.duet.Duet.run.Goals as goal

-- ---- nothing happens

pub returns-in_err-stop-clause-run : goal.returns-in_err-stop-clause-run
returns-in_err-stop-clause-run c =
    let p = err_from_is_err_and c.from_residual.result c.from_residual.ensures.1 in
    rw (p.1, p.2) (IsRun-stopped c.args.self.now c.args.self.now [] c.args.script.now c.in_err-stop.field-0.0 c.in_err-stop.ensures.run)

pub returns-in_err-stop-clause-causes : goal.returns-in_err-stop-clause-causes
returns-in_err-stop-clause-causes c = λ going. reached-cause c.args.self.now.world c.args.self.now.full (c.in_err-stop.ensures.reached going)

-- ---- an event

pub happen-requires-clause-memory : goal.happen-requires-clause-memory
happen-requires-clause-memory c = IsRun-memory c.args.self.now c.loop-event.self _ tt c.loop-event.invariant

pub happen-requires-clause-unended : goal.happen-requires-clause-unended
happen-requires-clause-unended c = IsRun-going c.args.self.now c.loop-event.self _ tt c.loop-event.invariant

pub loop-event-preserved : goal.loop-event-preserved
loop-event-preserved c =
    IsRun-step c.args.self.now c.loop-event.self c.happen.new.self c.args.script.now c.loop-event.event-index c.event-item.result tt (Ok tt) c.loop-event-test.true c.event-item.is c.loop-event.invariant c.in_ok-happen.ensures

-- ---- the last one, where it ends a node or memory is refused in it

stopped : (c : goal.After-from_residual-in_err-happen) → IsRun c.args.self.now c.args.script.now c.happen.new.self (Err c.in_err-happen.field-0.0)
stopped c =
    IsRun-rest c.args.self.now c.happen.new.self c.args.script.now (c.loop-event.event-index + 1) c.in_err-happen.field-0.0
    (IsRun-step c.args.self.now c.loop-event.self c.happen.new.self c.args.script.now c.loop-event.event-index c.event-item.result tt (Err c.in_err-happen.field-0.0) c.loop-event-test.true c.event-item.is c.loop-event.invariant c.in_err-happen.ensures)

pub returns-in_err-happen-clause-run : goal.returns-in_err-happen-clause-run
returns-in_err-happen-clause-run c =
    let p = err_from_is_err_and c.from_residual-in_err-happen.result c.from_residual-in_err-happen.ensures.1 in
    rw (p.1, p.2) (stopped c)

pub returns-in_err-happen-clause-gains : goal.returns-in_err-happen-clause-gains
returns-in_err-happen-clause-gains c = run-gained c.args.self.now c.happen.new.self c.args.script.now (Err c.in_err-happen.field-0.0) c.in_ok-stop.ensures.reached c.requires (stopped c)

pub returns-in_err-happen-clause-causes : goal.returns-in_err-happen-clause-causes
returns-in_err-happen-clause-causes c = λ going.
    reached-cause c.happen.new.self.world c.happen.new.self.full
    (run-reached c.args.self.now c.happen.new.self c.args.script.now (Err c.in_err-happen.field-0.0) c.in_ok-stop.ensures.reached c.requires (stopped c) going)

-- ---- all events

pub returns-clause-gains : goal.returns-clause-gains
returns-clause-gains c =
    run-gained c.args.self.now c.loop-event.self c.args.script.now (Ok tt) c.in_ok-stop.ensures.reached c.requires
    (IsRun-all c.args.self.now c.loop-event.self c.args.script.now c.loop-event.event-index tt c.loop-event-test.false c.loop-event.auto.event-index-end c.loop-event.invariant)

pub returns-clause-causes : goal.returns-clause-causes
returns-clause-causes c = λ going.
    reached-cause c.loop-event.self.world c.loop-event.self.full
    (run-reached c.args.self.now c.loop-event.self c.args.script.now (Ok tt) c.in_ok-stop.ensures.reached c.requires
    (IsRun-all c.args.self.now c.loop-event.self c.args.script.now c.loop-event.event-index tt c.loop-event-test.false c.loop-event.auto.event-index-end c.loop-event.invariant) going)
