-- What one node of a pair wants of the other. Wires and lists keep their order.
use Rattle.std.specs.Prelude.{◌≡◌, ◌||◌, Bool, true, false, List, [], ◌∷◌, ◌++◌, map, flat_map, Some}
use Rattle.std.specs.List.{AllByRecursion}
use Rattle.base_types.specs.declared.lists.Hash32.{Hash32}
use Rattle.wire_rules.specs.declared.message.InvEntry.{InvEntry}
use Rattle.wire_rules.specs.declared.message.Message.{Message}
use Rattle.wire_rules.specs.declared.message.Message.TheVariants as message
use Rattle.pool_rules.specs.Pools.{Transaction, transaction_of, is_listed, is_in_pool, bytes_of_id, pool_ids}
use Rattle.node_rules.specs.State.{NodeState}

abbrev pub entry_ids : List InvEntry → List Hash32
entry_ids es = map (λ e. e.id) es

unfoldable pub requested_ids_of : Message → List Hash32
requested_ids_of (message.GetData es) = entry_ids es
requested_ids_of _ = []

unfoldable pub announced_ids_of : Message → List Hash32
announced_ids_of (message.Inv es) = entry_ids es
announced_ids_of _ = []

unfoldable pub carried_transactions_of : Message → List Transaction
carried_transactions_of (message.Tx tx) = transaction_of tx ∷ []
carried_transactions_of _ = []

-- the ids asked for on the way, those announced, and the transactions
abbrev pub requested_ids : List Message → List Hash32
requested_ids ms = flat_map requested_ids_of ms

abbrev pub announced_ids : List Message → List Hash32
announced_ids ms = flat_map announced_ids_of ms

abbrev pub carried_transactions : List Message → List Transaction
carried_transactions ms = flat_map carried_transactions_of ms

abbrev pub IsTxEntry : InvEntry → Type 0
IsTxEntry e = e.kind ≡ 5

-- inventories are of transactions alone, and nothing is missing
unfoldable pub HasTxEntries : Message → Type 0
HasTxEntries (message.Inv es) = AllByRecursion IsTxEntry es
HasTxEntries (message.GetData es) = AllByRecursion IsTxEntry es
HasTxEntries (message.NotFound es) = ⊥
HasTxEntries _ = Unit {0}

pub record IsHonest (m : Message) : Type 0 where
  pub honest : HasTxEntries m

abbrev pub IsPooled : List Transaction → Hash32 → Type 0
IsPooled pool id = is_in_pool pool id ≡ true

-- a transaction on the way is the pool's
abbrev pub IsPoolTransaction : List Transaction → Transaction → Type 0
IsPoolTransaction pool t = bytes_of_id pool t.id ≡ Some t.bytes

-- what the reader asked the holder for: it is, in order, what is on the way as transactions and then what is on the way
-- as requests. So each id is asked for once, and served once
pub record AreWantsOf (reader holder : NodeState) (to_reader to_holder : List Message) : Type 0 where
  pub flow : reader.wants.asked ≡ pool_ids (carried_transactions to_reader) ++ requested_ids to_holder
  pub own : AllByRecursion (IsPoolTransaction holder.pool) (carried_transactions to_reader)
  pub wanted : AllByRecursion (IsPooled holder.pool) reader.wants.wanted
  pub asked : AllByRecursion (IsPooled holder.pool) reader.wants.asked
  pub coming : AllByRecursion (IsPooled holder.pool) (announced_ids to_reader)
  pub unserved : AllByRecursion (λ id. is_listed holder.wants.served id ≡ false) (requested_ids to_holder)
  pub served : AllByRecursion (λ id. (is_in_pool reader.pool id || is_listed reader.wants.asked id) ≡ true) holder.wants.served
  pub honest : AllByRecursion IsHonest to_reader

-- messages that have to do with wants
unfoldable pub is_about_wants : Message → Bool
is_about_wants (message.Inv es) = true
is_about_wants (message.GetData es) = true
is_about_wants (message.NotFound es) = true
is_about_wants (message.Tx tx) = true
is_about_wants (message.Pong n) = true
is_about_wants _ = false

-- what both sides of a pair want of each other
pub record AreMutualWants (self other : NodeState) (to_self to_other : List Message) : Type 0 where
  pub mine : AreWantsOf self other to_self to_other
  pub theirs : AreWantsOf other self to_other to_self
