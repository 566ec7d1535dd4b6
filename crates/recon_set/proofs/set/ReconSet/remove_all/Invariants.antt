use Rattle.std.proofs.Common.{◌≡◌, filter, not, take}
use Rattle.pool_rules.specs.Pools.{is_listed}
use Rattle.recon_set.proofs.set.ReconSet.remove_all.Given as goal

abbrev pub invariant-loop-id : goal.invariant-loop-id
invariant-loop-id g l = l.self ≡ filter (λ m. not (is_listed (take l.id-index l.ids) m.id)) l.fn.self
