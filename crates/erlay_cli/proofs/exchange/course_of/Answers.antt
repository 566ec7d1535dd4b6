use Rattle.std.proofs.Common.{subst, Err}
use Rattle.erlay_base.specs.ShelfCalls.{AreReads}
use Rattle.erlay_base.specs.Told.{AreTold}
use Rattle.pool_session.specs.PoolFiles.{IsLoaded}
use Rattle.text_commands.specs.Outside.{observation_of}
use Rattle.erlay_cli.specs.Courses.{IsLoadedPool}
use Rattle.erlay_cli.specs.Exchanges.{Exchange, config_of}
use Rattle.erlay_cli.specs.Sights.{wire_sight}
use Rattle.erlay_cli.proofs.Stages.{unloaded_announced, unloaded_course, whole_course}
use Rattle.erlay_cli.proofs.exchange.course_of.Goals as goal

pub returns-in-Ok-clause-course : goal.returns-in-Ok-clause-course
returns-in-Ok-clause-course g c =
    let loaded = subst (λ (x : Exchange). IsLoadedPool x (g.S.Shelf.told c.args.shelf.now) (g.S.Shelf.told c.load_pool.new.shelf) c.in-Ok.pool) c.asked.view_is (record { loaded = c.in-Ok.ensures.loaded; reads = c.in-Ok.ensures.reads }) in
    whole_course c.linked_course.result c.args.asked.now (config_of c.args.asked.now.role c.args.chance) c.in-Ok.pool (wire_sight g.W.Wire.link g.W.Wire.has_ended g.W.Wire.faults c.args.wire.now) (wire_sight g.W.Wire.link g.W.Wire.has_ended g.W.Wire.faults c.linked_course.new.wire) (g.S.Shelf.told c.args.shelf.now) (g.S.Shelf.told c.load_pool.new.shelf) (g.S.Shelf.told c.linked_course.new.shelf)
    loaded c.linked_course.ensures.course

pub returns-in-Err-clause-course : goal.returns-in-Err-clause-course
returns-in-Err-clause-course g c =
    let read = subst (λ (x : Exchange). IsLoaded (Err c.in-Err.stop) (g.S.Shelf.told c.args.shelf.now) x.pool × AreTold (g.S.Shelf.told c.args.shelf.now) (g.S.Shelf.told c.load_pool.new.shelf) (AreReads x.pool)) c.asked.view_is
    (c.in-Err.ensures.loaded, c.in-Err.ensures.reads) in
    unloaded_course c.args.asked.now (config_of c.args.asked.now.role c.args.chance) c.in-Err.stop (wire_sight g.W.Wire.link g.W.Wire.has_ended g.W.Wire.faults c.args.wire.now) (g.S.Shelf.told c.args.shelf.now) (g.S.Shelf.told c.load_pool.new.shelf) read

pub returns-in-Err-clause-announced : goal.returns-in-Err-clause-announced
returns-in-Err-clause-announced g c = unloaded_announced c.args.asked.now.role c.in-Err.stop (observation_of g.O.Sink.written g.O.Sink.faults c.args.output.now)
