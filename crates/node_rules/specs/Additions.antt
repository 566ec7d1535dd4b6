-- Transactions that a node's own side adds.
use Rattle.std.specs.Prelude.{ℕ, ◌&&◌, ◌||◌, nat_le, not, is_some, Bool, true, false, List, [], ◌∷◌, ◌++◌}
use Rattle.base_types.specs.declared.lists.Hash32.{Hash32}
use Rattle.pool_rules.specs.Pools.{Transaction, transaction_of, is_listed, without_id, is_in_pool, has_byte_room}
use Rattle.pool_rules.specs.Snapshots.{member_of}
use Rattle.pool_rules.specs.declared.limits.TheConstants.{POOL_LIMIT}
use Rattle.node_rules.specs.Stages.{is_after_handshake}
use Rattle.node_rules.specs.State.{NodeState, node_keys, open_wants, taken_room}
use Rattle.node_rules.specs.Turns.{Turn, unchanged, turn_with, inv_of}
use Rattle.node_rules.specs.declared.added.Added.{Added}
use Rattle.node_rules.specs.declared.added.Added.TheVariants as added

pub record Addition : Type 0 where
  pub added : Added
  pub turn : Turn

-- the node with the transaction in its pool, which it wants no more
abbrev pub with_pooled : NodeState → Transaction → NodeState
with_pooled s t = record s { pool = s.pool ++ t ∷ []; wants = record s.wants { wanted = without_id s.wants.wanted t.id } }

abbrev pub with_member : NodeState → Hash32 → NodeState
with_member s id = record s { set = s.set ++ member_of (node_keys s) id ∷ [] }

-- what else becomes of it: by whether the peer is known to have it, since it is among the open wants, by whether the
-- handshake is over, and by whether the node is plain
unfoldable pub after_addition_by : Bool → Bool → Bool → NodeState → Hash32 → Turn
after_addition_by true past plain s id = unchanged s
after_addition_by false false plain s id = unchanged s
after_addition_by false true true s id = turn_with s (inv_of (id ∷ []))
after_addition_by false true false s id = unchanged (with_member s id)

abbrev pub after_addition : NodeState → Transaction → Turn
after_addition s t = after_addition_by (is_listed (open_wants s) t.id) (is_after_handshake s.machine.phase) s.plain (with_pooled s t) t.id

-- whether there is no room. An open want has its room already
abbrev pub is_full : NodeState → Transaction → Bool
is_full s t = not (has_byte_room s.pool t.bytes) || (not (is_listed (open_wants s) t.id) && nat_le POOL_LIMIT (taken_room s))

-- by whether the node has ended, whether its pool has the transaction, and whether there is no room
unfoldable pub on_addition_by : Bool → Bool → Bool → NodeState → Transaction → Addition
on_addition_by true present full s t = record { added = added.Ended; turn = unchanged s }
on_addition_by false true full s t = record { added = added.Present; turn = unchanged s }
on_addition_by false false true s t = record { added = added.Full; turn = unchanged s }
on_addition_by false false false s t = record { added = added.New; turn = after_addition s t }

abbrev pub on_addition_of : NodeState → Transaction → Addition
on_addition_of s t = on_addition_by (is_some s.ended) (is_in_pool s.pool t.id) (is_full s t) s t

-- a transaction is added
abbrev pub on_addition : NodeState → List ℕ → Addition
on_addition s tx = on_addition_of s (transaction_of tx)
