use Rattle.std.proofs.Common.{◌≢◌, ◌-◌, ◌≤◌, get_or, sym, ◌∙◌, arith, rules}
use Rattle.pool_rules.specs.Snapshots.{sketched_shorts}
use Rattle.responder.proofs.SoundAsks.{all_once, sketched_to, apart_to}
use Rattle.responder.proofs.asks.are_sketched_once.Goals as goal
use Rattle.responder.proofs.asks.are_sketched_once.Goals.{else-i-gt0-via-then-i-gt0+else-sorted-i, else-i-gt0-via-else-i-gt0}

pub loop-i-init : goal.loop-i-init
loop-i-init g c = (λ k before. search rules, λ k before same. search rules)

pub loop-i-preserved : goal.loop-i-preserved
loop-i-preserved g c =
    let sorted = c.args.sorted.now in
    let neighbour : 1 ≤ c.loop-i.i → get_or sorted (c.loop-i.i - 1) 0 ≢ get_or sorted c.loop-i.i 0 =
    elim c.else-i-gt0.branch [
      | else-i-gt0-via-then-i-gt0+else-sorted-i w ↦ λ low same. (let apart = w.if-sorted-i.false in search rules)
      | else-i-gt0-via-else-i-gt0 w ↦ λ low same. (let none = w.if-i-gt0.false in omega (arith, low, none))
    ] in (
      sketched_to (sketched_shorts c.args.snapshot.now.members) sorted c.loop-i.i c.loop-i.invariant.0 (sym c.has_sketched.ensures ∙ c.if-not-has_sketched.false),
      apart_to sorted c.loop-i.i c.loop-i.invariant.1 neighbour,
    )

pub returns : goal.returns
returns g c = λ _. all_once (sketched_shorts c.args.snapshot.now.members) c.args.sorted.now c.loop-i.i c.requires c.loop-i-test.false c.loop-i.invariant.0 c.loop-i.invariant.1
