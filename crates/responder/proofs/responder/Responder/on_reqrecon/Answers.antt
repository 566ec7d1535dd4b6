use Rattle.std.proofs.Common.{sym, ap, ◌∙◌}
use Rattle.pool_rules.specs.Capacity.{capacity}
use Rattle.pool_rules.specs.Snapshots.{snapshot_sums}
use Rattle.sketch_rules.specs.Sketches.{bytes_of}
use Rattle.responder.proofs.Steps.{busy_refuses, idle_answers}
use Rattle.responder.proofs.responder.Responder.on_reqrecon.Goals as goal

pub returns-then-is_some-clause-refused : goal.returns-then-is_some-clause-refused
returns-then-is_some-clause-refused g c =
    busy_refuses c.self.inside.level c.self.inside.reports.items c.args.set.now c.args.size c.args.q c.self.inside.round c.args.self.now c.misplaced.result c.self.view_is
    (sym c.is_some.ensures ∙ c.if-is_some.true) c.misplaced.ensures

pub returns-clause-answered : goal.returns-clause-answered
returns-clause-answered g c =
    idle_answers c.self.inside.level c.self.inside.reports.items c.args.set.now c.args.size c.args.q c.self.inside.round c.args.self.now c.take_snapshot.result.members c.capacity-capacity.result c.begun.result c.in_ok-sketch.sketch c.self.view_is
    (sym c.is_some.ensures ∙ c.if-is_some.false)
    c.take_snapshot.ensures.taken
    (c.capacity-capacity.ensures.value ∙ ap (λ n. capacity c.args.size n c.args.q) c.len.ensures.value)
    c.begun.ensures
    (c.in_ok-sketch.ensures ∙ ap (λ ms. bytes_of (snapshot_sums ms 0 c.capacity-capacity.result)) c.as_snapshot.ensures)
