-- Each clause is a lemma.
use Rattle.node_rules.specs.State.{node_keys}
use Rattle.invariant_laws.proofs.Fitting.{members_fit}
use Rattle.invariant_laws.proofs.sets_fit_the_pool.Goals as goal

pub returns-clause-set : goal.returns-clause-set
returns-clause-set c = λ s h. members_fit (node_keys s) s.pool s.set h.store.pool.count h.setup.set

pub returns-clause-snapshot : goal.returns-clause-snapshot
returns-clause-snapshot c = λ s h. members_fit (node_keys s) s.pool s.machine.round.snapshot h.store.pool.count h.setup.snapshot
