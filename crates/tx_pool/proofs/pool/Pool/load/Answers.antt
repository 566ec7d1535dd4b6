use Rattle.std.proofs.Common.{sym, ap, ◌∙◌, subst}
use Rattle.line_text.specs.Gives.{IsOutcome}
use Rattle.pool_laws.proofs.Written.{pool_in-text}
use Rattle.pool_rules.specs.PoolFile.{pool_in}
use Rattle.tx_pool.proofs.pool.Pool.load.Goals as goal

pub returns-in-Ok-clause-saved : goal.returns-in-Ok-clause-saved
returns-in-Ok-clause-saved c pool sound is =
    subst (λ given. IsOutcome (λ read. read) c.pool_of.result given) (sym c.in-Ok.ensures.lines ∙ ap pool_in is ∙ pool_in-text pool sound) c.pool_of.ensures

pub returns-in-Err-clause-saved : goal.returns-in-Err-clause-saved
returns-in-Err-clause-saved c pool sound is = sym (ap pool_in is ∙ pool_in-text pool sound) ∙ c.in-Err.ensures.fault
