use Rattle.duet.proofs.Pairs.{pair_view-reached}
use Rattle.duet.proofs.Reached.{reached-alike, reached-finished}
use Rattle.duet.proofs.duet.Duet.drained.Goals as goal

pub returns-then-is_empty-clause-finished : goal.returns-then-is_empty-clause-finished
returns-then-is_empty-clause-finished c = λ going.
    reached-finished c.args.self.now.world c.args.self.now.full
    (pair_view-reached c.self.inside.a c.self.inside.b c.self.inside.full c.self.inside.out_of_memory c.args.self.now c.self.view_is c.self.invariant going)

pub returns-then-is_empty-clause-alike : goal.returns-then-is_empty-clause-alike
returns-then-is_empty-clause-alike c = λ going.
    reached-alike c.args.self.now.world c.args.self.now.full
    (pair_view-reached c.self.inside.a c.self.inside.b c.self.inside.full c.self.inside.out_of_memory c.args.self.now c.self.view_is c.self.invariant going)
