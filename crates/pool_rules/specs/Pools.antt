-- Pools of transactions: lists in order of insertion. All limits are this project's own.
use Rattle.std.specs.Prelude.{◌≡◌, ℕ, ◌+◌, ◌≤◌, ◌&&◌, nat_lt, nat_le, not, Bool, true, false, IsTrue, List, [], ◌∷◌, ◌++◌, length, map, filter, find, sum_by, option_map, bytes_eq}
use Rattle.std.specs.List.{list_any, AllByRecursion}
use Rattle.std.specs.declared.option.Option.{Option}
use Rattle.base_types.specs.declared.lists.Hash32.{Hash32}
use Rattle.id_rules.specs.Bytes.{are_bytes, is_tx_length}
use Rattle.id_rules.specs.Ids.{wtxid}
use Rattle.pool_rules.specs.declared.insertion.Inserted.{Inserted}
use Rattle.pool_rules.specs.declared.insertion.Inserted.TheVariants as inserted
use Rattle.pool_rules.specs.declared.limits.TheConstants.{POOL_LIMIT, POOL_BYTES}

-- a transaction and its id
pub record Transaction : Type 0 where
  pub id : Hash32
  pub bytes : List ℕ

abbrev pub transaction_of : List ℕ → Transaction
transaction_of tx = record { id = wtxid tx; bytes = tx }

abbrev pub is_same_id : Hash32 → Hash32 → Bool
is_same_id a b = bytes_eq a.0 b.0

-- whether an id stands in a list
abbrev pub is_listed : List Hash32 → Hash32 → Bool
is_listed ids id = list_any (λ other. is_same_id other id) ids

-- a list without an id
abbrev pub without_id : List Hash32 → Hash32 → List Hash32
without_id ids id = filter (λ other. not (is_same_id other id)) ids

-- no id stands twice
unfoldable pub AreDistinctIds : List Hash32 → Type 0
AreDistinctIds [] = Unit {0}
AreDistinctIds (id ∷ ids) = IsTrue (not (is_listed ids id)) × AreDistinctIds ids

-- the ids of a pool, in its order
abbrev pub pool_ids : List Transaction → List Hash32
pool_ids pool = map (λ t. t.id) pool

-- whether a pool has an id
abbrev pub is_in_pool : List Transaction → Hash32 → Bool
is_in_pool pool id = list_any (λ t. is_same_id t.id id) pool

-- the transaction of an id
abbrev pub bytes_of_id : List Transaction → Hash32 → Option (List ℕ)
bytes_of_id pool id = option_map (λ t. t.bytes) (find (λ t. is_same_id t.id id) pool)

-- the bytes of all transactions
abbrev pub byte_count : List Transaction → ℕ
byte_count pool = sum_by (λ t. length t.bytes) pool

-- whether the bytes of one more transaction stay within the limit
abbrev pub has_byte_room : List Transaction → List ℕ → Bool
has_byte_room pool tx = nat_le (byte_count pool + length tx) POOL_BYTES

-- whether a pool has room for one more transaction
abbrev pub has_room : List Transaction → List ℕ → Bool
has_room pool tx = nat_lt (length pool) POOL_LIMIT && has_byte_room pool tx

-- a pool after a transaction was put into it, and what became of it
pub record Insertion : Type 0 where
  pub pool : List Transaction
  pub inserted : Inserted

-- by whether the pool has the transaction, and whether it has room
unfoldable pub insertion_by : Bool → Bool → List Transaction → List ℕ → Insertion
insertion_by true room pool tx = record { pool = pool; inserted = inserted.Present }
insertion_by false false pool tx = record { pool = pool; inserted = inserted.Full }
insertion_by false true pool tx = record { pool = pool ++ transaction_of tx ∷ []; inserted = inserted.New }

abbrev pub insertion_of : List Transaction → List ℕ → Insertion
insertion_of pool tx = insertion_by (is_in_pool pool (wtxid tx)) (has_room pool tx) pool tx

-- bytes that may be a transaction, and their id
pub record IsTransaction (t : Transaction) : Type 0 where
  pub named : t.id ≡ wtxid t.bytes
  pub sized : IsTrue (is_tx_length (length t.bytes))
  pub bytes : IsTrue (are_bytes t.bytes)

-- a pool: no transaction twice, within both limits
pub record IsPool (pool : List Transaction) : Type 0 where
  pub distinct : AreDistinctIds (pool_ids pool)
  pub each : AllByRecursion IsTransaction pool
  pub count : length pool ≤ POOL_LIMIT
  pub size : byte_count pool ≤ POOL_BYTES
