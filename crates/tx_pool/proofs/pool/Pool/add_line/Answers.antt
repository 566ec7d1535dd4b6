use Rattle.std.proofs.Common.{List, ℕ, Err, sym, ap, subst, ◌∙◌}
use Rattle.id_rules.specs.Ids.{wtxid}
use Rattle.pool_rules.specs.declared.insertion.Inserted.TheVariants as inserted
use Rattle.pool_rules.specs.PoolFile.{tx_in}
use Rattle.tx_pool.specs.Lines.{IsLineOutcome}
use Rattle.tx_pool.proofs.Reading.{pool_step-id, outcome_of-tx, outcome_of-mismatch, outcome_of-put}
use Rattle.tx_pool.proofs.pool.Pool.add_line.Goals as goal

pub returns-in-Err : goal.returns-in-Err
returns-in-Err c = pool_step-id c.args.self.now c.args.line.now c.in-Err.kind (sym c.in-Err.ensures)

pub returns-in-Err-tx_in : goal.returns-in-Err-tx_in
returns-in-Err-tx_in c =
    outcome_of-tx c.args.self.now c.args.line.now {A = List ℕ} {C = Unit {0}} (λ tx. tx) (λ _. c.args.self.now) c.in-Ok.id c.in-Err-tx_in.stop (sym c.in-Ok.ensures)
    (subst (λ digits. IsLineOutcome {A = List ℕ} {B = List ℕ} (λ tx. tx) (Err c.in-Err-tx_in.stop) (tx_in digits)) c.split_at.ensures.back c.in-Err-tx_in.ensures.read)

pub returns-then-ne : goal.returns-then-ne
returns-then-ne c =
    outcome_of-mismatch c.args.self.now c.args.line.now c.in-Ok.id c.wtxid-computed.result c.in-Ok-tx_in.tx (sym c.in-Ok.ensures) (ap tx_in (sym c.split_at.ensures.back) ∙ c.in-Ok-tx_in.ensures.read)
    (c.wtxid-computed.ensures ∙ ap wtxid c.as_slice.ensures) (sym c.ne.ensures ∙ c.if-ne.true)

pub returns-in-New : goal.returns-in-New
returns-in-New c =
    outcome_of-put c.args.self.now c.args.line.now c.in-Ok.id c.wtxid-computed.result c.in-Ok-tx_in.tx inserted.New c.insert_named.new.self (sym c.in-Ok.ensures) (ap tx_in (sym c.split_at.ensures.back) ∙ c.in-Ok-tx_in.ensures.read)
    (c.wtxid-computed.ensures ∙ ap wtxid c.as_slice.ensures) (sym c.ne.ensures ∙ c.if-ne.false) c.in_ok-insert_named.ensures.pool (sym c.in-New.is ∙ c.in_ok-insert_named.ensures.inserted)

pub returns-in-Present : goal.returns-in-Present
returns-in-Present c =
    outcome_of-put c.args.self.now c.args.line.now c.in-Ok.id c.wtxid-computed.result c.in-Ok-tx_in.tx inserted.Present c.insert_named.new.self (sym c.in-Ok.ensures) (ap tx_in (sym c.split_at.ensures.back) ∙ c.in-Ok-tx_in.ensures.read)
    (c.wtxid-computed.ensures ∙ ap wtxid c.as_slice.ensures) (sym c.ne.ensures ∙ c.if-ne.false) c.in_ok-insert_named.ensures.pool (sym c.in-Present.is ∙ c.in_ok-insert_named.ensures.inserted)

pub returns-in-Full : goal.returns-in-Full
returns-in-Full c =
    outcome_of-put c.args.self.now c.args.line.now c.in-Ok.id c.wtxid-computed.result c.in-Ok-tx_in.tx inserted.Full c.insert_named.new.self (sym c.in-Ok.ensures) (ap tx_in (sym c.split_at.ensures.back) ∙ c.in-Ok-tx_in.ensures.read)
    (c.wtxid-computed.ensures ∙ ap wtxid c.as_slice.ensures) (sym c.ne.ensures ∙ c.if-ne.false) c.in_ok-insert_named.ensures.pool (sym c.in-Full.is ∙ c.in_ok-insert_named.ensures.inserted)
