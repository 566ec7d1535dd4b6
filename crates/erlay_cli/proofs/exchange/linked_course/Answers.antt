use Rattle.std.proofs.Common.{◌∙◌, sym, subst}
use Rattle.text_commands.specs.Outside.{observation_of}
use Rattle.erlay_cli.specs.Exchanges.{Exchange, config_of}
use Rattle.erlay_cli.specs.Links.{IsLinked, IsNotAccepted, IsNotAnnounced, IsNotReached}
use Rattle.erlay_cli.specs.Sights.{wire_sight}
use Rattle.erlay_cli.proofs.Stages.{loaded_course, session_announced, unaccepted_announced, unaccepted_course, unannounced, unannounced_course, unlinked_announced, unlinked_course}
use Rattle.erlay_cli.proofs.exchange.linked_course.Goals as goal

pub returns-in-Linked-clause-course : goal.returns-in-Linked-clause-course
returns-in-Linked-clause-course g c =
    let h = subst (λ (x : Exchange). IsLinked x.role x.address (wire_sight g.W.Wire.link g.W.Wire.has_ended g.W.Wire.faults c.args.wire.now) (wire_sight g.W.Wire.link g.W.Wire.has_ended g.W.Wire.faults c.link.new.wire) (observation_of g.O.Sink.written g.O.Sink.faults c.args.output.now) (observation_of g.O.Sink.written g.O.Sink.faults c.link.new.output)) c.asked.view_is c.in-Linked.ensures.end in
    loaded_course c.session_course.result c.args.asked.now (config_of c.args.asked.now.role c.args.chance) c.args.pool (g.W.Wire.link c.link.new.wire) (wire_sight g.W.Wire.link g.W.Wire.has_ended g.W.Wire.faults c.args.wire.now) (wire_sight g.W.Wire.link g.W.Wire.has_ended g.W.Wire.faults c.session_course.new.wire)
    (g.S.Shelf.told c.args.shelf.now) (g.S.Shelf.told c.session_course.new.shelf) h.link c.session_course.ensures.course

pub returns-in-Linked-clause-announced : goal.returns-in-Linked-clause-announced
returns-in-Linked-clause-announced g c =
    let h = subst (λ (x : Exchange). IsLinked x.role x.address (wire_sight g.W.Wire.link g.W.Wire.has_ended g.W.Wire.faults c.args.wire.now) (wire_sight g.W.Wire.link g.W.Wire.has_ended g.W.Wire.faults c.link.new.wire) (observation_of g.O.Sink.written g.O.Sink.faults c.args.output.now) (observation_of g.O.Sink.written g.O.Sink.faults c.link.new.output)) c.asked.view_is c.in-Linked.ensures.end in
    session_announced c.session_course.result c.args.asked.now (config_of c.args.asked.now.role c.args.chance) c.args.pool (g.W.Wire.link c.link.new.wire) (wire_sight g.W.Wire.link g.W.Wire.has_ended g.W.Wire.faults c.session_course.new.wire)
    (g.S.Shelf.told c.args.shelf.now) (g.S.Shelf.told c.session_course.new.shelf) c.args.asked.now.role (observation_of g.O.Sink.written g.O.Sink.faults c.args.output.now) (observation_of g.O.Sink.written g.O.Sink.faults c.link.new.output) c.session_course.ensures.course h.written h.no_write_fault

pub returns-in-Unlinked-clause-course : goal.returns-in-Unlinked-clause-course
returns-in-Unlinked-clause-course g c =
    let h = subst (λ (x : Exchange). IsNotReached x.role x.address (wire_sight g.W.Wire.link g.W.Wire.has_ended g.W.Wire.faults c.args.wire.now) (wire_sight g.W.Wire.link g.W.Wire.has_ended g.W.Wire.faults c.link.new.wire) (observation_of g.O.Sink.written g.O.Sink.faults c.args.output.now) (observation_of g.O.Sink.written g.O.Sink.faults c.link.new.output)) c.asked.view_is c.in-Unlinked.ensures.end in
    unlinked_course c.args.asked.now (config_of c.args.asked.now.role c.args.chance) c.args.pool (wire_sight g.W.Wire.link g.W.Wire.has_ended g.W.Wire.faults c.args.wire.now) (wire_sight g.W.Wire.link g.W.Wire.has_ended g.W.Wire.faults c.link.new.wire) (g.S.Shelf.told c.args.shelf.now) (observation_of g.O.Sink.written g.O.Sink.faults c.args.output.now) (observation_of g.O.Sink.written g.O.Sink.faults c.link.new.output) (c.in-Unlinked.ensures.input ∙ sym c.requires) h

pub returns-in-Unlinked-clause-announced : goal.returns-in-Unlinked-clause-announced
returns-in-Unlinked-clause-announced g c =
    let h = subst (λ (x : Exchange). IsNotReached x.role x.address (wire_sight g.W.Wire.link g.W.Wire.has_ended g.W.Wire.faults c.args.wire.now) (wire_sight g.W.Wire.link g.W.Wire.has_ended g.W.Wire.faults c.link.new.wire) (observation_of g.O.Sink.written g.O.Sink.faults c.args.output.now) (observation_of g.O.Sink.written g.O.Sink.faults c.link.new.output)) c.asked.view_is c.in-Unlinked.ensures.end in
    unlinked_announced c.args.asked.now.role (observation_of g.O.Sink.written g.O.Sink.faults c.args.output.now) (observation_of g.O.Sink.written g.O.Sink.faults c.link.new.output) h.output

pub returns-in-Unannounced-clause-course : goal.returns-in-Unannounced-clause-course
returns-in-Unannounced-clause-course g c =
    let h = subst (λ (x : Exchange). IsNotAnnounced x.role x.address (wire_sight g.W.Wire.link g.W.Wire.has_ended g.W.Wire.faults c.args.wire.now) (wire_sight g.W.Wire.link g.W.Wire.has_ended g.W.Wire.faults c.link.new.wire) (observation_of g.O.Sink.written g.O.Sink.faults c.args.output.now) (observation_of g.O.Sink.written g.O.Sink.faults c.link.new.output)) c.asked.view_is c.in-Unannounced.ensures.end in
    unannounced_course c.args.asked.now (config_of c.args.asked.now.role c.args.chance) c.args.pool (wire_sight g.W.Wire.link g.W.Wire.has_ended g.W.Wire.faults c.args.wire.now) (wire_sight g.W.Wire.link g.W.Wire.has_ended g.W.Wire.faults c.link.new.wire) (g.S.Shelf.told c.args.shelf.now) (observation_of g.O.Sink.written g.O.Sink.faults c.args.output.now) (observation_of g.O.Sink.written g.O.Sink.faults c.link.new.output) (c.in-Unannounced.ensures.input ∙ sym c.requires) h

pub returns-in-Unannounced-clause-announced : goal.returns-in-Unannounced-clause-announced
returns-in-Unannounced-clause-announced g c =
    let h = subst (λ (x : Exchange). IsNotAnnounced x.role x.address (wire_sight g.W.Wire.link g.W.Wire.has_ended g.W.Wire.faults c.args.wire.now) (wire_sight g.W.Wire.link g.W.Wire.has_ended g.W.Wire.faults c.link.new.wire) (observation_of g.O.Sink.written g.O.Sink.faults c.args.output.now) (observation_of g.O.Sink.written g.O.Sink.faults c.link.new.output)) c.asked.view_is c.in-Unannounced.ensures.end in
    unannounced c.args.asked.now.role (observation_of g.O.Sink.written g.O.Sink.faults c.args.output.now) (observation_of g.O.Sink.written g.O.Sink.faults c.link.new.output) h.write_fault h.written

pub returns-in-Unaccepted-clause-course : goal.returns-in-Unaccepted-clause-course
returns-in-Unaccepted-clause-course g c =
    let h = subst (λ (x : Exchange). IsNotAccepted x.role x.address (wire_sight g.W.Wire.link g.W.Wire.has_ended g.W.Wire.faults c.args.wire.now) (wire_sight g.W.Wire.link g.W.Wire.has_ended g.W.Wire.faults c.link.new.wire) (observation_of g.O.Sink.written g.O.Sink.faults c.args.output.now) (observation_of g.O.Sink.written g.O.Sink.faults c.link.new.output)) c.asked.view_is c.in-Unaccepted.ensures.end in
    unaccepted_course c.args.asked.now (config_of c.args.asked.now.role c.args.chance) c.args.pool (wire_sight g.W.Wire.link g.W.Wire.has_ended g.W.Wire.faults c.args.wire.now) (wire_sight g.W.Wire.link g.W.Wire.has_ended g.W.Wire.faults c.link.new.wire) (g.S.Shelf.told c.args.shelf.now) (observation_of g.O.Sink.written g.O.Sink.faults c.args.output.now) (observation_of g.O.Sink.written g.O.Sink.faults c.link.new.output) (c.in-Unaccepted.ensures.input ∙ sym c.requires) h

pub returns-in-Unaccepted-clause-announced : goal.returns-in-Unaccepted-clause-announced
returns-in-Unaccepted-clause-announced g c =
    let h = subst (λ (x : Exchange). IsNotAccepted x.role x.address (wire_sight g.W.Wire.link g.W.Wire.has_ended g.W.Wire.faults c.args.wire.now) (wire_sight g.W.Wire.link g.W.Wire.has_ended g.W.Wire.faults c.link.new.wire) (observation_of g.O.Sink.written g.O.Sink.faults c.args.output.now) (observation_of g.O.Sink.written g.O.Sink.faults c.link.new.output)) c.asked.view_is c.in-Unaccepted.ensures.end in
    unaccepted_announced c.args.asked.now.role (observation_of g.O.Sink.written g.O.Sink.faults c.args.output.now) (observation_of g.O.Sink.written g.O.Sink.faults c.link.new.output) h.written h.no_write_fault
