use Rattle.std.proofs.Common.{◌≡◌, ◌++◌}
use Rattle.pool_rules.specs.PoolFile.{pool_text}
use Rattle.tx_pool.proofs.Texts.{lines_text}
use Rattle.tx_pool.proofs.pool.Pool.save_text.Given as goal

-- the lines that are left, behind the text so far
abbrev pub invariant-loop-id : goal.invariant-loop-id
invariant-loop-id l = l.text.items ++ lines_text l.id-iterator ≡ pool_text l.self
