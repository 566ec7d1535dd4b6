use Rattle.std.proofs.Common.{◌≡◌, [], ap, subst, sym}
use Rattle.pool_rules.specs.Pools.{IsPool, byte_count}
use Rattle.tx_pool.specs.Views.{transactions_of}
use Rattle.tx_pool.proofs.Entries.{IsPool-empty}
use Rattle.tx_pool.proofs.pool.Pool.empty.Goals as goal

pub invariant_of-result : goal.invariant_of-result
invariant_of-result c =
    let none : c.new.result.entries ≡ [] = c.new.ensures.empty in
    (subst (λ entries. IsPool (transactions_of entries)) (sym none) IsPool-empty, ap (λ entries. byte_count (transactions_of entries)) none)
