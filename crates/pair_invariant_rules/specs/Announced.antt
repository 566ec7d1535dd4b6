-- What each side of a pair has announced of its reports reaches the other.
use Rattle.std.specs.Prelude.{◌≡◌, ◌||◌, true, List}
use Rattle.std.specs.List.{AllByRecursion}
use Rattle.base_types.specs.declared.lists.Hash32.{Hash32}
use Rattle.id_rules.specs.Ids.{KeyPair}
use Rattle.wire_rules.specs.declared.message.Message.{Message}
use Rattle.pool_rules.specs.Pools.{is_listed, is_in_pool}
use Rattle.pool_rules.specs.declared.report.Report.{Report}
use Rattle.pair_rules.specs.Rounds.{announced_of}
use Rattle.node_rules.specs.State.{NodeState, open_wants}
use Rattle.pair_invariant_rules.specs.Wants.{announced_ids, IsPooled}

-- the id is with the reader, or wanted there, or announced on the way
abbrev pub IsReaching : NodeState → List Message → Hash32 → Type 0
IsReaching reader to_reader id = (is_in_pool reader.pool id || (is_listed (open_wants reader) id || is_listed (announced_ids to_reader) id)) ≡ true

pub record IsTold (keys : KeyPair) (sender reader : NodeState) (to_reader : List Message) (r : Report) : Type 0 where
  pub reaches : AllByRecursion (IsReaching reader to_reader) (announced_of keys r)
  pub pooled : AllByRecursion (IsPooled sender.pool) r.snapshot

abbrev pub AreTold : KeyPair → NodeState → NodeState → List Message → Type 0
AreTold keys sender reader to_reader = AllByRecursion (IsTold keys sender reader to_reader) sender.machine.reports
