-- What two nodes say of the outcome of their rounds.
use Rattle.std.specs.Prelude.{◌≡◌, ℕ, Bool, true, false, List, [], ◌∷◌, filter, flat_map, Some, None}
use Rattle.std.specs.declared.option.Option.{Option}
use Rattle.id_rules.specs.Ids.{KeyPair}
use Rattle.wire_rules.specs.declared.message.Message.{Message}
use Rattle.wire_rules.specs.declared.message.Message.TheVariants as message
use Rattle.pool_rules.specs.Pools.{Transaction}
use Rattle.pool_rules.specs.declared.report.Report.{Report}
use Rattle.node_rules.specs.Outcomes.{missing_short_ids}
use Rattle.node_rules.specs.Stages.{extensions_in}
use Rattle.node_rules.specs.Turns.{inv_of}
use Rattle.node_rules.specs.declared.config.Config.{Config}
use Rattle.node_rules.specs.declared.config.Role.{Role}
use Rattle.node_rules.specs.declared.config.Role.TheVariants as role
use Rattle.pair_rules.specs.Rounds.{pair_keys, snapshot_of, announced_of}
use Rattle.pair_rules.specs.World.{Effect, ArePair, IsScript, opening_world, run}
use Rattle.pair_rules.specs.declared.event.Event.{Event}

-- a difference, or an announcement
unfoldable pub is_outcome : Message → Bool
is_outcome (message.ReconcilDiff success asks) = true
is_outcome (message.Inv es) = true
is_outcome other = false

abbrev pub outcomes : List Message → List Message
outcomes ms = filter is_outcome ms

-- the difference that an opener sends, by the extensions of the sketch that answered: it asks for the short ids that it has
-- answered and not sketched
unfoldable pub difference_of : Option ℕ → KeyPair → Report → Message
difference_of (Some n) keys r = message.ReconcilDiff true (missing_short_ids (snapshot_of keys r) r.answered)
difference_of None keys r = message.ReconcilDiff false []

-- what a side says of a round: an opener its difference, and then each side one announcement. Of an answered round that is of
-- the ids that were set aside and of those whose short ids the side has answered, of one that fell back of all. Of no ids
-- there is none
unfoldable pub outcome_of : Role → KeyPair → Report → List Message
outcome_of role.Opener keys r = difference_of (extensions_in r.ending) keys r ∷ inv_of (announced_of keys r)
outcome_of role.Accepter keys r = inv_of (announced_of keys r)

abbrev pub outcomes_of : Role → KeyPair → List Report → List Message
outcomes_of side keys reports = flat_map (outcome_of side keys) reports

pub record HaveAnnouncedOnly (x : Effect) : Type 0 where
  pub by_a : outcomes x.by_a ≡ outcomes_of role.Opener (pair_keys x.world) x.world.a.machine.reports
  pub by_b : outcomes x.by_b ≡ outcomes_of role.Accepter (pair_keys x.world) x.world.b.machine.reports

-- over every run, also one in which a node ends, each side says this of its rounds, in their order, and announces nothing else
abbrev pub RoundsAreAnnounced : Type 0
RoundsAreAnnounced =
    (c d : Config) (p q : List Transaction) (script : List Event) → ArePair c d p q → IsScript script → HaveAnnouncedOnly (run (opening_world c d p q) script)
