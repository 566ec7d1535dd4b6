use Rattle.std.proofs.Common.{[], get_or, ap, ◌∙◌}
use Rattle.pool_rules.specs.Pools.{is_listed}
use Rattle.pool_rules.specs.Snapshots.{ids_of}
use Rattle.recon_set.proofs.Starts.{unlisted_next}
use Rattle.recon_set.proofs.snapshot.members_of_pairs.Goals as goal

pub push-requires-clause-absent : goal.push-requires-clause-absent
push-requires-clause-absent c =
    ap (λ ms. is_listed (ids_of ms) (get_or c.args.pairs.now c.loop-id.id-index (record { 0 = [] }, 0)).0) c.loop-id.invariant
    ∙ unlisted_next c.args.pairs.now c.loop-id.id-index (record { 0 = [] }, 0) c.requires.distinct c.loop-id-test.true
