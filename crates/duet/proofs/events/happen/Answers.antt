use Rattle.std.proofs.lemmas.Result.{err_from_is_err_and}
use Rattle.duet.proofs.Happening.{added_a, added_b, begun, delivered_ab, delivered_ba, sized_a, sized_b, unchanged_a, unchanged_b, unchanged_start}
use Rattle.duet.proofs.events.happen.Goals as goal

pub add-requires : goal.add-requires
add-requires c = sized_a c.args.event.now c.in-AddA.tx c.in-AddA.is c.requires.event

pub add-requires-in-AddB : goal.add-requires-in-AddB
add-requires-in-AddB c = sized_b c.args.event.now c.in-AddB.tx c.in-AddB.is c.requires.event

pub returns-in-DeliverAb : goal.returns-in-DeliverAb
returns-in-DeliverAb c =
    rw (c.in-DeliverAb.is, c.stop_of.ensures)
    (delivered_ab c.args.a.now c.args.b.now c.deliver.new.sender c.deliver.new.reader c.args.full.now c.in-DeliverAb.n c.requires.memory_a c.requires.memory_b c.requires.unended c.deliver.result c.deliver.ensures.sent c.deliver.ensures.taken)

pub returns-in-DeliverBa : goal.returns-in-DeliverBa
returns-in-DeliverBa c =
    rw (c.in-DeliverBa.is, c.stop_of-in-DeliverBa.ensures)
    (delivered_ba c.args.a.now c.args.b.now c.deliver-in-DeliverBa.new.reader c.deliver-in-DeliverBa.new.sender c.args.full.now c.in-DeliverBa.n c.requires.memory_a c.requires.memory_b c.requires.unended c.deliver-in-DeliverBa.result c.deliver-in-DeliverBa.ensures.sent c.deliver-in-DeliverBa.ensures.taken)

pub returns-in_ok-add-in-AddA : goal.returns-in_ok-add-in-AddA
returns-in_ok-add-in-AddA c =
    rw c.in-AddA.is
    (added_a c.args.a.now c.args.b.now c.add.new.node c.args.full.now c.add.new.full c.requires.memory_a c.requires.memory_b c.requires.unended tt c.in-AddA.tx c.in_ok-add-in-AddA.ensures.node c.in_ok-add-in-AddA.ensures.full)

pub returns-in_ok-add-in-AddB : goal.returns-in_ok-add-in-AddB
returns-in_ok-add-in-AddB c =
    rw c.in-AddB.is
    (added_b c.args.a.now c.args.b.now c.add-in-AddB.new.node c.args.full.now c.add-in-AddB.new.full c.requires.memory_a c.requires.memory_b c.requires.unended tt c.in-AddB.tx c.in_ok-add-in-AddB.ensures.node c.in_ok-add-in-AddB.ensures.full)

pub returns-in_ok-begin_round-in-Round : goal.returns-in_ok-begin_round-in-Round
returns-in_ok-begin_round-in-Round c =
    rw c.in-Round.is
    (begun c.args.a.now c.args.b.now c.begin_round.new.self c.args.full.now c.args.full.now c.requires.memory_a c.requires.memory_b c.requires.unended tt c.in_ok-begin_round-in-Round.ensures.ok.1)

pub returns-in_err-add-in-AddA : goal.returns-in_err-add-in-AddA
returns-in_err-add-in-AddA c =
    let p = err_from_is_err_and c.from_residual.result c.from_residual.ensures.1 in
    let same = c.in_err-add-in-AddA.ensures.err in
    rw (p.1, p.2, c.in-AddA.is) (unchanged_a c.args.a.now c.args.b.now c.add.new.node c.args.full.now c.add.new.full c.in-AddA.tx same.0 same.1)

pub returns-in_err-add-in-AddB : goal.returns-in_err-add-in-AddB
returns-in_err-add-in-AddB c =
    let p = err_from_is_err_and c.from_residual-in_err-add-in-AddB.result c.from_residual-in_err-add-in-AddB.ensures.1 in
    let same = c.in_err-add-in-AddB.ensures.err in
    rw (p.1, p.2, c.in-AddB.is) (unchanged_b c.args.a.now c.args.b.now c.add-in-AddB.new.node c.args.full.now c.add-in-AddB.new.full c.in-AddB.tx same.0 same.1)

pub returns-in_err-begin_round-in-Round : goal.returns-in_err-begin_round-in-Round
returns-in_err-begin_round-in-Round c =
    let p = err_from_is_err_and c.from_residual-in_err-begin_round-in-Round.result c.from_residual-in_err-begin_round-in-Round.ensures.1 in
    rw (p.1, p.2, c.in-Round.is) (unchanged_start c.args.a.now c.args.b.now c.begin_round.new.self c.args.full.now c.args.full.now c.in_err-begin_round-in-Round.ensures.err)
