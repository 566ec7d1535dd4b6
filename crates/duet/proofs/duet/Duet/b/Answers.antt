use Rattle.std.proofs.Common.{ap, ◌∙◌}
use Rattle.duet.proofs.Reached.{pair-memory}
use Rattle.duet.proofs.duet.Duet.b.Goals as goal

pub returns-clause-memory : goal.returns-clause-memory
returns-clause-memory c = λ going. (pair-memory c.self.inside.out_of_memory c.self.inside.a c.self.inside.b c.self.inside.full (ap (λ v. v.out_of_memory) c.self.view_is ∙ going) c.self.invariant).1
