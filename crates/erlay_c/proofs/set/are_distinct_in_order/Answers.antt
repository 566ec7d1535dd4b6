use Rattle.std.proofs.Common.{arith, rules}
use Rattle.list_laws.proofs.Pairs.{distinct_from_neighbours}
use Rattle.erlay_c.proofs.set.are_distinct_in_order.Goals as goal

pub returns : goal.returns
returns c = (λ _. distinct_from_neighbours c.args.sorted.now c.requires (λ k before. c.loop-i.invariant k (omega arith)), λ _. search rules)
