-- The headline, of the worked round of two nodes: it speaks of a world that is there, and of a round that fits.
use Rattle.std.proofs.Common.{◌≡◌, [], false, ap, refl, subst, lit≤}
use Rattle.node_rules.proofs.Samples.{config_of}
use Rattle.node_rules.specs.declared.config.Role.TheVariants as role
use Rattle.pool_rules.specs.Pools.{IsPool, AreDistinctIds}
use Rattle.pair_rules.proofs.RoundExample.{script, last, whole, script_drains, opener_report, accepter_report, fits}
use Rattle.pair_rules.proofs.Samples.{new_pair}
use Rattle.pair_rules.specs.Rounds.{HasBothSnapshots, IsFinished, EachRound}
use Rattle.pair_rules.specs.World.{ArePair, IsScript, deliveries, has_end, is_event, run}
use Rattle.headline_laws.proofs.Headline.{headline}

empty_pool : IsPool []
unfolding AreDistinctIds
empty_pool = record { distinct = tt; each = tt; count = lit≤ tt; size = lit≤ tt }

are_pair : ArePair (config_of role.Opener 1) (config_of role.Accepter 2) [] []
are_pair = record {
  opener = refl;
  accepter = refl;
  magic = refl;
  config_a = record { magic = refl; salt = lit≤ tt; nonce = lit≤ tt; time = refl; least = lit≤ tt; most = lit≤ tt };
  config_b = record { magic = refl; salt = lit≤ tt; nonce = lit≤ tt; time = refl; least = lit≤ tt; most = lit≤ tt };
  pool_a = empty_pool;
  pool_b = empty_pool;
}

is_script : IsScript script
unfolding is_event deliveries
is_script = refl

unended : has_end (run new_pair script).world ≡ false
unended = ap has_end whole

-- by the headline the script leaves a finished world, since it leaves a drained one
finished : IsFinished (run new_pair script).world
finished = headline (config_of role.Opener 1) (config_of role.Accepter 2) [] [] script are_pair is_script unended script_drains

-- so its round, which fits, has left both snapshots in both pools
both_snapshots : HasBothSnapshots last opener_report accepter_report
unfolding EachRound
both_snapshots = (subst IsFinished whole finished).rounds.0 fits
