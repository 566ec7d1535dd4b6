-- Pools of two nodes that only grow.
use Rattle.std.specs.Prelude.{◌≡◌, List, ◌++◌}
use Rattle.pool_rules.specs.Pools.{Transaction}
use Rattle.pair_rules.specs.World.{World}

-- each pool of the first world is a front part of the same pool of the second
pub record HaveGrown (old new : World) : Type 0 where
  pub more_a : List Transaction
  pub more_b : List Transaction
  pub pool_a : new.a.pool ≡ old.a.pool ++ more_a
  pub pool_b : new.b.pool ≡ old.b.pool ++ more_b
