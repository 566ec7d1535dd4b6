use Rattle.std.proofs.Common.{get_or, refl, sym, ◌∙◌, arith}
use Rattle.std.specs.BTreeMap.{is_at}
use Rattle.std.specs.Ordering.{nat_cmp}
use Rattle.std.specs.List.{list_any}
use Rattle.std.proofs.lemmas.Bool.{not-true, not-false}
use Rattle.pool_rules.specs.Snapshots.{sketched_shorts}
use Rattle.responder.proofs.AskFaults.{unknown, repeated, passed, all_passed}
use Rattle.responder.proofs.asks.check_in_order.Goals as goal

pub returns-then-not-has_sketched-clause-refused : goal.returns-then-not-has_sketched-clause-refused
returns-then-not-has_sketched-clause-refused g c =
    unknown (sketched_shorts c.args.snapshot.now.members) c.args.asks.now c.loop-ask.before.keys c.loop-ask.ask-index c.loop-ask.invariant (omega arith) (get_or c.args.asks.now c.loop-ask.ask-index 0) refl
    (sym c.has_sketched.ensures ∙ c.if-not-has_sketched.true)

pub returns-then-not-branch-clause-refused : goal.returns-then-not-branch-clause-refused
returns-then-not-branch-clause-refused g c =
    repeated (sketched_shorts c.args.snapshot.now.members) c.args.asks.now c.loop-ask.before.keys c.loop-ask.ask-index c.loop-ask.invariant (omega arith) (get_or c.args.asks.now c.loop-ask.ask-index 0) refl
    (sym c.has_sketched.ensures ∙ c.if-not-has_sketched.false)
    (not-false (list_any (is_at (nat_cmp (get_or c.args.asks.now c.loop-ask.ask-index 0))) c.loop-ask.before.keys) (sym c.in_ok-insert.ensures.added ∙ c.if-not-branch.true))

pub loop-ask-preserved : goal.loop-ask-preserved
loop-ask-preserved g c =
    passed (sketched_shorts c.args.snapshot.now.members) c.args.asks.now c.loop-ask.before.keys c.loop-ask.ask-index c.loop-ask.invariant (omega arith) (get_or c.args.asks.now c.loop-ask.ask-index 0) refl c.insert.new.self.keys
    (sym c.has_sketched.ensures ∙ c.if-not-has_sketched.false)
    (not-true (list_any (is_at (nat_cmp (get_or c.args.asks.now c.loop-ask.ask-index 0))) c.loop-ask.before.keys) (sym c.in_ok-insert.ensures.added ∙ c.if-not-branch.false))
    c.in_ok-insert.ensures.updates.0

pub returns-clause-sound : goal.returns-clause-sound
returns-clause-sound g c =
    all_passed (sketched_shorts c.args.snapshot.now.members) c.args.asks.now c.loop-ask.before.keys c.loop-ask.ask-index c.loop-ask.invariant (omega arith)
