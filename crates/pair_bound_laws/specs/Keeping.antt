-- What bounds the messages of a pair at every moment until a node ends.
use Rattle.std.specs.Prelude.{◌≡◌, ◌≤◌, ℕ, min, ◌+◌, ◌*◌, List, ◌++◌}
use Rattle.std.specs.List.{AllByRecursion}
use Rattle.wire_rules.specs.declared.message.Message.{Message}
use Rattle.pool_rules.specs.Pools.{AreDistinctIds, pool_ids}
use Rattle.node_rules.specs.State.{NodeState}
use Rattle.node_rules.specs.declared.config.Role.TheVariants as role
use Rattle.pair_rules.specs.Messages.{round_messages}
use Rattle.pair_invariant_rules.specs.Pairs.{Pair}
use Rattle.pair_invariant_rules.specs.Invariant.{IsPair}
use Rattle.pair_invariant_rules.specs.Wants.{carried_transactions, IsPooled, IsHonest}
use Rattle.pair_bound_laws.specs.Costs.{total_weight, handshake_weight, rounds_weight, request_weight, unasking_weight, owed_messages, remaining_messages, remaining_handshake, unpinged_invs, IsFilled}

-- how many messages of rounds, announcements and requests are still to be sent before all comes to rest
abbrev pub outstanding_messages : Pair → ℕ
outstanding_messages p = remaining_messages role.Opener p.a.machine + remaining_messages role.Accepter p.b.machine + total_weight (owed_messages role.Opener) p.to_a + total_weight (owed_messages role.Accepter) p.to_b

-- how many of the handshake
abbrev pub outstanding_handshake : Pair → ℕ
outstanding_handshake p = remaining_handshake role.Opener p.a.machine.phase + remaining_handshake role.Accepter p.b.machine.phase

-- the level of the connection, once it is made
abbrev pub level_between : Pair → ℕ
level_between p = min p.a.config.top p.b.config.top

pub record IsWithinBudget (level : ℕ) (p : Pair) : Type 0 where
  pub rounds_weight : outstanding_messages p + total_weight rounds_weight p.by_a + total_weight rounds_weight p.by_b ≤ round_messages level * total_weight request_weight p.by_a
  pub room : outstanding_messages p + outstanding_handshake p + 1 ≤ round_messages level
  pub greets : outstanding_handshake p + total_weight handshake_weight p.by_a + total_weight handshake_weight p.by_b ≤ 7
  pub ways : outstanding_messages p + total_weight unasking_weight p.to_a + total_weight unasking_weight p.to_b ≤ round_messages level
  pub greet_ways : outstanding_handshake p + total_weight handshake_weight p.to_a + total_weight handshake_weight p.to_b ≤ 8
  pub unpinged_invs : unpinged_invs p.to_b ≡ 0
  pub filled_a : AllByRecursion IsFilled p.to_a
  pub filled_b : AllByRecursion IsFilled p.to_b

-- what a side has given: it is what it has sent as transactions, all of its pool
pub record HasServedOnce (s : NodeState) (by_s : List Message) : Type 0 where
  pub said : pool_ids (carried_transactions by_s) ≡ s.wants.served
  pub own : AllByRecursion (IsPooled s.pool) s.wants.served
  pub unasked : AreDistinctIds (s.wants.served ++ s.wants.asked)

-- no transaction is given twice, over both directions
pub record HaveServedOnce (s u : NodeState) (by_s by_u : List Message) : Type 0 where
  pub mine : HasServedOnce s by_s
  pub theirs : HasServedOnce u by_u
  pub asked : AreDistinctIds (s.wants.asked ++ u.wants.asked)
  pub given : AreDistinctIds (s.wants.served ++ u.wants.served)

pub record IsOrderly (m : Message) : Type 0 where
  pub honest : IsHonest m
  pub filled : IsFilled m

pub record IsBudgetedPair (level : ℕ) (p : Pair) : Type 0 where
  pub kept : IsPair p
  pub at : level_between p ≡ level
  pub bounding : IsWithinBudget level p
  pub giving : HaveServedOnce p.a p.b p.by_a p.by_b
  pub fair_a : AllByRecursion IsOrderly p.by_a
  pub fair_b : AllByRecursion IsOrderly p.by_b

-- what is so of all that both sides have said
pub record IsSaid (level : ℕ) (by_a by_b : List Message) : Type 0 where
  pub rounds_weight : total_weight rounds_weight by_a + total_weight rounds_weight by_b ≤ round_messages level * total_weight request_weight by_a
  pub greets : total_weight handshake_weight by_a + total_weight handshake_weight by_b ≤ 7
  pub given : AreDistinctIds (pool_ids (carried_transactions by_a) ++ pool_ids (carried_transactions by_b))
  pub fair_a : AllByRecursion IsOrderly by_a
  pub fair_b : AllByRecursion IsOrderly by_b
