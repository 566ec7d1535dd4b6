use Rattle.duet.proofs.Pairs.{pair_view-reached, stopped_a, stopped_b, stopped_by_memory, unstopped}
use Rattle.duet.proofs.duet.Duet.stop.Goals as goal

pub returns-then-self-clause-run : goal.returns-then-self-clause-run
returns-then-self-clause-run c = stopped_by_memory c.self.inside.a c.self.inside.b c.self.inside.full c.self.inside.out_of_memory c.args.self.now c.self.view_is c.self.invariant c.if-self.true

pub returns-in-Some-clause-run : goal.returns-in-Some-clause-run
returns-in-Some-clause-run c = stopped_a c.self.inside.a c.self.inside.b c.self.inside.full c.self.inside.out_of_memory c.args.self.now c.self.view_is c.self.invariant c.in-Some.end c.if-self.false c.in-Some.ensures

pub returns-in-Some-clause-reached : goal.returns-in-Some-clause-reached
returns-in-Some-clause-reached c = pair_view-reached c.self.inside.a c.self.inside.b c.self.inside.full c.self.inside.out_of_memory c.args.self.now c.self.view_is c.self.invariant

pub returns-in-Some-end-clause-run : goal.returns-in-Some-end-clause-run
returns-in-Some-end-clause-run c = stopped_b c.self.inside.a c.self.inside.b c.self.inside.full c.self.inside.out_of_memory c.args.self.now c.self.view_is c.self.invariant c.in-Some-end.end c.if-self.false c.in-None.ensures c.in-Some-end.ensures

pub returns-in-Some-end-clause-reached : goal.returns-in-Some-end-clause-reached
returns-in-Some-end-clause-reached c = pair_view-reached c.self.inside.a c.self.inside.b c.self.inside.full c.self.inside.out_of_memory c.args.self.now c.self.view_is c.self.invariant

pub returns-in-None-end-clause-run : goal.returns-in-None-end-clause-run
returns-in-None-end-clause-run c = unstopped c.self.inside.a c.self.inside.b c.self.inside.full c.self.inside.out_of_memory c.args.self.now c.self.view_is c.self.invariant tt c.if-self.false c.in-None.ensures c.in-None-end.ensures

pub returns-in-None-end-clause-reached : goal.returns-in-None-end-clause-reached
returns-in-None-end-clause-reached c = pair_view-reached c.self.inside.a c.self.inside.b c.self.inside.full c.self.inside.out_of_memory c.args.self.now c.self.view_is c.self.invariant
