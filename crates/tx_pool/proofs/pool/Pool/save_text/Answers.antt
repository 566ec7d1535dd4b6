use Rattle.std.proofs.Common.{◌≡◌, ◌≤◌, length, sym, ap, ◌∙◌, subst}
use Rattle.pool_laws.proofs.Written.{pool_in-text, length-text}
use Rattle.pool_rules.specs.PoolFile.{pool_in, pool_text}
use Rattle.pool_rules.specs.declared.limits.TheConstants.{POOL_FILE_LIMIT}
use Rattle.tx_pool.proofs.Texts.{text_begun, text_ended, written_more}
use Rattle.tx_pool.proofs.pool.Pool.save_text.Goals as goal

pub loop-id-init : goal.loop-id-init
loop-id-init c =
    text_begun c.args.self.now c.push_heading.new.text.items c.in_ok-text.text.items c.len-2.result c.self.inside.transactions.entries c.into_iter-id-iterator.result
    c.in_ok-text.ensures.items c.len-2.ensures.len c.in_ok-push_heading.ensures (c.into_iter-id-iterator.ensures.into_iter_gives ∙ c.iter-id-items.ensures.rest) c.self.view_is

pub loop-id-preserved : goal.loop-id-preserved
loop-id-preserved c =
    written_more c.loop-id.text.items c.push_line.new.text.items c.in-Some.id.now c.in-Some.tx.now c.next.new.self c.loop-id.id-iterator c.in-Some.ensures.steps c.in_ok-push_line.ensures
    ∙ c.loop-id.invariant

whole : (c : goal.After-from_vec) → c.from_vec.result ≡ pool_text c.args.self.now
whole c = c.from_vec.ensures ∙ text_ended c.loop-id.text.items (pool_text c.args.self.now) c.loop-id.id-iterator c.loop-id.invariant c.in-None.ensures.steps.0

pub returns-clause-text : goal.returns-clause-text
returns-clause-text c = whole c

pub returns-clause-read_again : goal.returns-clause-read_again
returns-clause-read_again c = ap pool_in (whole c) ∙ pool_in-text c.args.self.now c.len.ensures.sound

pub returns-clause-short : goal.returns-clause-short
returns-clause-short c = subst (λ text. length text ≤ POOL_FILE_LIMIT) (sym (whole c)) (length-text c.args.self.now c.len.ensures.sound)
