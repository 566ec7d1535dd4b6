-- What holds of a pair at every moment until a node ends.
use Rattle.std.specs.Prelude.{◌≡◌, length}
use Rattle.std.specs.List.{AllByRecursion}
use Rattle.wire_rules.specs.Limits.{IsMessage}
use Rattle.node_rules.specs.Invariant.{IsNode}
use Rattle.node_rules.specs.declared.config.Role.TheVariants as role
use Rattle.pair_invariant_rules.specs.Announcements.{AreAnnouncements}
use Rattle.pair_invariant_rules.specs.Pairs.{Pair}
use Rattle.pair_invariant_rules.specs.Handshake.{HasHandshake}
use Rattle.pair_invariant_rules.specs.Announced.{AreTold}
use Rattle.pair_invariant_rules.specs.Rounds.{HasRound, keys_of_pair}
use Rattle.pair_invariant_rules.specs.Wants.{AreMutualWants}

pub record IsPair (p : Pair) : Type 0 where
  pub opener : p.a.config.role ≡ role.Opener
  pub accepter : p.b.config.role ≡ role.Accepter
  pub four : length p.a.config.magic ≡ 4
  pub one_net : p.b.config.magic ≡ p.a.config.magic
  pub node_a : IsNode p.a
  pub node_b : IsNode p.b
  pub to_a : AllByRecursion IsMessage p.to_a
  pub to_b : AllByRecursion IsMessage p.to_b
  pub handshake : HasHandshake p
  pub rounds : HasRound p
  pub wants : AreMutualWants p.a p.b p.to_a p.to_b
  pub announcements : AreAnnouncements p
  pub told_a : AreTold (keys_of_pair p) p.a p.b p.to_b
  pub told_b : AreTold (keys_of_pair p) p.b p.a p.to_a
