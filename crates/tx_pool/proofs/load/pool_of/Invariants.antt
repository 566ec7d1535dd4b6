use Rattle.std.proofs.Common.{◌≡◌, []}
use Rattle.line_rules.specs.Reading.{line_fold}
use Rattle.pool_rules.specs.PoolFile.{pool_step}
use Rattle.tx_pool.proofs.load.pool_of.Given as goal

-- the lines that are left, behind the pool so far
abbrev pub invariant-loop-line : goal.invariant-loop-line
invariant-loop-line l = line_fold pool_step [] l.fn.lines ≡ line_fold pool_step l.pool l.line-iterator
