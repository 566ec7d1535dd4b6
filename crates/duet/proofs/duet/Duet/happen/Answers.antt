use Rattle.std.proofs.Common.{ap, ◌∙◌}
use Rattle.duet.proofs.Pairs.{happened-pair, happened-run}
use Rattle.duet.proofs.Reached.{pair-memory}
use Rattle.duet.proofs.duet.Duet.happen.Goals as goal

pub happen-told-requires-clause-memory_a : goal.happen-told-requires-clause-memory_a
happen-told-requires-clause-memory_a c = (pair-memory c.self.inside.out_of_memory c.self.inside.a c.self.inside.b c.self.inside.full (ap (λ v. v.out_of_memory) c.self.view_is ∙ c.requires.memory) c.self.invariant).0

pub happen-told-requires-clause-memory_b : goal.happen-told-requires-clause-memory_b
happen-told-requires-clause-memory_b c = (pair-memory c.self.inside.out_of_memory c.self.inside.a c.self.inside.b c.self.inside.full (ap (λ v. v.out_of_memory) c.self.view_is ∙ c.requires.memory) c.self.invariant).1

pub invariant_of-self : goal.invariant_of-self
invariant_of-self c = happened-pair c.self.inside.a c.self.inside.b c.self.inside.full c.self.inside.out_of_memory c.args.self.now c.self.view_is c.self.invariant c.happen-told.new.a c.happen-told.new.b c.happen-told.new.full c.is_out_of_memory-self-inside.result c.args.event.now c.happen-told.result c.requires.memory c.requires.unended c.requires.event c.happen-told.ensures c.is_out_of_memory-self-inside.ensures

pub returns : goal.returns
returns c = happened-run c.self.inside.a c.self.inside.b c.self.inside.full c.self.inside.out_of_memory c.args.self.now c.self.view_is c.self.invariant c.happen-told.new.a c.happen-told.new.b c.happen-told.new.full c.is_out_of_memory-self-inside.result c.args.event.now c.happen-told.result c.requires.memory c.requires.unended c.happen-told.ensures c.is_out_of_memory-self-inside.ensures
