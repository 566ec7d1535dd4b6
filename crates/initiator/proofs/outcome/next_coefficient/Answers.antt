use Rattle.std.proofs.Common.{◌≡◌, ◌-◌, ◌≤◌, length, ap, ◌∙◌, arith, rules}
use Rattle.pool_rules.specs.Capacity.{next_q}
use Rattle.pool_rules.specs.Snapshots.{sketched_shorts}
use Rattle.pool_rules.specs.declared.limits.TheConstants.{POOL_LIMIT}
use Rattle.node_rules.specs.Outcomes.{own_short_ids, missing_short_ids}
use Rattle.invariant_laws.proofs.Numbers.{mine_few}
use Rattle.initiator.proofs.Counts.{sketched_few, own_and_missing}
use Rattle.initiator.proofs.outcome.next_coefficient.Goals as goal

pub prove-unreachable-requires : goal.prove-unreachable-requires
prove-unreachable-requires g c =
    let own = ap length (c.as_slice-own.ensures ∙ c.in_ok-sketched.ensures) in
    let few = sketched_few c.args.snapshot.now.members in
    let size = c.len.ensures.value in
    let more = c.if-prove.true in
    omega (arith, own, few, size, more)

pub overflow_sub-mine : goal.overflow_sub-mine
overflow_sub-mine g c =
    let asks = ap length c.requires.asks in
    let parts = own_and_missing c.args.snapshot.now.members c.args.shorts.now in
    omega (arith, asks, parts)

pub overflow_cast-asks : goal.overflow_cast-asks
overflow_cast-asks g c =
    let asks = ap length c.requires.asks in
    let parts = own_and_missing c.args.snapshot.now.members c.args.shorts.now in
    let few : length c.args.asks.now ≤ POOL_LIMIT = let all = c.requires.few in omega (arith, asks, parts, all) in
    search (rules, few)

pub next_q-requires-clause-subset : goal.next_q-requires-clause-subset
next_q-requires-clause-subset g c =
    let asks = ap length c.requires.asks in
    let parts = own_and_missing c.args.snapshot.now.members c.args.shorts.now in
    let own = ap length (c.as_slice-own.ensures ∙ c.in_ok-sketched.ensures) in
    let mine = mine_few c.args.snapshot.now.members c.args.shorts.now c.requires.rises in
    omega (arith, asks, parts, own, mine)

pub next_q-requires-clause-few_asks : goal.next_q-requires-clause-few_asks
next_q-requires-clause-few_asks g c =
    let asks = ap length c.requires.asks in
    let parts = own_and_missing c.args.snapshot.now.members c.args.shorts.now in
    let all = c.requires.few in
    omega (arith, asks, parts, all)

pub returns : goal.returns
returns g c =
    let ms = c.args.snapshot.now.members in
    let es = c.args.shorts.now in
    let asks : length c.args.asks.now ≡ length (missing_short_ids ms es) = ap length c.requires.asks in
    let parts = own_and_missing ms es in
    let own : length c.as_slice-own.result.now ≡ length (sketched_shorts ms) = ap length (c.as_slice-own.ensures ∙ c.in_ok-sketched.ensures) in
    let mine : length es - length c.args.asks.now ≡ length (own_short_ids ms es) = omega (arith, asks, parts) in
    c.next_q.ensures.value
    ∙ ap (λ n. next_q n (length c.args.asks.now) (length c.as_slice-own.result.now)) mine
    ∙ ap (λ n. next_q (length (own_short_ids ms es)) n (length c.as_slice-own.result.now)) asks
    ∙ ap (λ n. next_q (length (own_short_ids ms es)) (length (missing_short_ids ms es)) n) own
