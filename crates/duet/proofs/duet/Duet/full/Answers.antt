use Rattle.duet.proofs.Pairs.{pair_view-reached}
use Rattle.duet.proofs.Reached.{reached-alike_so_far, reached-announced, reached-bounded, reached-drains}
use Rattle.duet.proofs.duet.Duet.full.Goals as goal

pub returns-clause-reached : goal.returns-clause-reached
returns-clause-reached c = pair_view-reached c.self.inside.a c.self.inside.b c.self.inside.full c.self.inside.out_of_memory c.args.self.now c.self.view_is c.self.invariant

pub returns-clause-announced : goal.returns-clause-announced
returns-clause-announced c = λ x d p q script by. reached-announced x d p q script c.args.self.now.world c.args.self.now.full by

pub returns-clause-bounded : goal.returns-clause-bounded
returns-clause-bounded c = λ x d p q script by. reached-bounded x d p q script c.args.self.now.world c.args.self.now.full by

pub returns-clause-alike : goal.returns-clause-alike
returns-clause-alike c = λ going.
    let r = returns-clause-reached c going in
    reached-alike_so_far r.c r.d r.p r.q r.script c.args.self.now.world c.args.self.now.full r.by

pub returns-clause-deliveries : goal.returns-clause-deliveries
returns-clause-deliveries c = λ going. reached-drains c.args.self.now.world c.args.self.now.full (returns-clause-reached c going)
