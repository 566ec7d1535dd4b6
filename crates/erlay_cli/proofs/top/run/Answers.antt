use Rattle.std.proofs.Common.{sym, subst}
use Rattle.text_commands.specs.Outside.{observation_of}
use Rattle.erlay_cli.specs.Exchanges.{Exchange}
use Rattle.erlay_cli.specs.Runs.{IsExchangeEnding}
use Rattle.erlay_cli.specs.Sights.{shelf_sight, wire_sight}
use Rattle.erlay_cli.proofs.Forms.{one_exchange}
use Rattle.erlay_cli.proofs.Reports.{IsCut, ended_cut, ended_output, ended_sound}
use Rattle.erlay_cli.proofs.top.run.Goals as goal

pub returns-in-Some-clause-write_fault : goal.returns-in-Some-clause-write_fault
returns-in-Some-clause-write_fault g c fault = (ended_output _ _ _ _ _ _ _ _ _ c.exchange_status.ensures.ending).fault fault

pub returns-in-Some-clause-no_write_fault : goal.returns-in-Some-clause-no_write_fault
returns-in-Some-clause-no_write_fault g c other = (ended_output _ _ _ _ _ _ _ _ _ c.exchange_status.ensures.ending).no_fault other

pub returns-in-Some-clause-truncated : goal.returns-in-Some-clause-truncated
returns-in-Some-clause-truncated g c p cut = ended_cut _ _ _ _ _ _ _ _ _ c.exchange_status.ensures.ending (λ fault. cc (cut, fault)) (subst IsCut (sym cut) tt)

pub returns-in-Some-clause-complete_exchange : goal.returns-in-Some-clause-complete_exchange
returns-in-Some-clause-complete_exchange g c x asks sound no_write no_link no_shelf =
    let ended = subst (λ (y : Exchange). IsExchangeEnding y c.args.chance (wire_sight g.W.Wire.link g.W.Wire.has_ended g.W.Wire.faults c.args.wire.now) (wire_sight g.W.Wire.link g.W.Wire.has_ended g.W.Wire.faults c.exchange_status.new.wire) (shelf_sight g.S.Shelf.told g.S.Shelf.faults c.args.shelf.now) (shelf_sight g.S.Shelf.told g.S.Shelf.faults c.exchange_status.new.shelf)
    (observation_of g.O.Sink.written g.O.Sink.faults c.args.output.now) (observation_of g.O.Sink.written g.O.Sink.faults c.exchange_status.new.output) c.exchange_status.result) (one_exchange _ _ _ c.in-Some.ensures.some asks) c.exchange_status.ensures.ending in
    ended_sound x c.args.chance (wire_sight g.W.Wire.link g.W.Wire.has_ended g.W.Wire.faults c.args.wire.now) (wire_sight g.W.Wire.link g.W.Wire.has_ended g.W.Wire.faults c.exchange_status.new.wire) (shelf_sight g.S.Shelf.told g.S.Shelf.faults c.args.shelf.now) (shelf_sight g.S.Shelf.told g.S.Shelf.faults c.exchange_status.new.shelf) (observation_of g.O.Sink.written g.O.Sink.faults c.args.output.now) (observation_of g.O.Sink.written g.O.Sink.faults c.exchange_status.new.output)
    c.exchange_status.result ended (λ fault. no_write ((ended_output _ _ _ _ _ _ _ _ _ ended).fault fault)) sound no_link no_shelf
