-- A pool as text, which is this project's own: a line for each transaction, its id in stored order, a space and its bytes.
-- A text of form 2 has a heading before them, which tells how many they are; one of form 1 has none. Form 2 is written.
use Rattle.std.specs.Prelude.{ℕ, ◌==◌, ◌&&◌, nat_lt, nat_le, Bool, if◌then◌else◌, List, [], ◌∷◌, ◌++◌, length, take, drop, slice_index, flat_map, codes, Some, None, Ok, Err}
use Rattle.std.specs.Fmt.{decimal}
use Rattle.std.specs.declared.option.Option.{Option}
use Rattle.std.specs.declared.result.Result.{Result}
use Rattle.hex.specs.Hex.{encode_lower}
use Rattle.base_types.specs.declared.lists.Hash32.{Hash32}
use Rattle.base_types.specs.declared.text.Kind.{Kind}
use Rattle.base_types.specs.declared.text.Kind.TheVariants as kind
use Rattle.base_types.specs.declared.text.TextFault.{TextFault}
use Rattle.line_rules.specs.Lines.{NumberedLine, line, lines_of, begins_with}
use Rattle.line_rules.specs.Numbers.{number_within}
use Rattle.line_rules.specs.Reading.{line_fold}
use Rattle.line_rules.specs.Digits.{◌>>=◌, bytes_in}
use Rattle.id_rules.specs.Ids.{wtxid}
use Rattle.id_rules.specs.declared.TheConstants.{TX_LIMIT}
use Rattle.pool_rules.specs.declared.limits.TheConstants.{POOL_LIMIT}
use Rattle.pool_rules.specs.Pools.{Transaction, transaction_of, is_same_id, is_in_pool, has_room}

-- a transaction's line
abbrev pub transaction_line : Transaction → List ℕ
transaction_line t = encode_lower t.id.0 ++ codes " " ++ encode_lower t.bytes

-- the heading of so many transactions
abbrev pub heading : ℕ → List ℕ
heading count = codes "pool 2 " ++ decimal count

-- a pool as text: its heading, and its transactions in order
abbrev pub pool_text : List Transaction → List ℕ
pool_text pool = line (heading (length pool)) ++ flat_map (λ t. line (transaction_line t)) pool

-- 64 bytes, a space, and at least one byte more
abbrev pub has_form : List ℕ → Bool
has_form bytes = nat_le 66 (length bytes) && (slice_index bytes 64 == 32)

-- the faults of a line in order, each of what stands before it

abbrev pub id_in : List ℕ → Result Hash32 Kind
id_in bytes = if has_form bytes then (bytes_in (take 64 bytes) >>= (λ id. Ok (record { 0 = id }))) else Err kind.Form

abbrev pub tx_within_limit : List ℕ → Result (List ℕ) Kind
tx_within_limit tx = if nat_lt TX_LIMIT (length tx) then Err kind.TxTooLong else Ok tx

-- the transaction that digits spell
abbrev pub tx_in : List ℕ → Result (List ℕ) Kind
tx_in text = bytes_in text >>= tx_within_limit

abbrev pub tx_of_id : Hash32 → List ℕ → Result (List ℕ) Kind
tx_of_id id tx = if is_same_id id (wtxid tx) then Ok tx else Err (kind.IdMismatch id (wtxid tx))

abbrev pub new_tx : List Transaction → List ℕ → Result (List ℕ) Kind
new_tx pool tx = if is_in_pool pool (wtxid tx) then Err kind.Repeated else Ok tx

abbrev pub with_transaction : List Transaction → List ℕ → Result (List Transaction) Kind
with_transaction pool tx = if has_room pool tx then Ok (pool ++ transaction_of tx ∷ []) else Err kind.PoolFull

-- a pool with the transaction of one more line
unfoldable pub pool_step : List Transaction → List ℕ → Result (List Transaction) Kind
pool_step pool bytes = do
  id ← id_in bytes
  read ← tx_in (drop 65 bytes)
  named ← tx_of_id id read
  tx ← new_tx pool named
  with_transaction pool tx

-- whether a text that begins with this line is of form 2. No sound line of form 1 begins so
abbrev pub is_heading : List ℕ → Bool
is_heading bytes = begins_with bytes (codes "pool ")

-- the number that a heading tells, where it is one from the first byte to the last
abbrev pub heading_count : List ℕ → Option ℕ
heading_count bytes = if begins_with bytes (codes "pool 2 ") then number_within 0 POOL_LIMIT (drop 7 bytes) else None

-- the pool of lines, of which the heading tells how many there are
unfoldable pub pool_of_count : Option ℕ → NumberedLine → List NumberedLine → Result (List Transaction) TextFault
pool_of_count (Some count) first ls = if length ls == count then line_fold pool_step [] ls else Err (record { place = length ls; kind = kind.LineCount })
pool_of_count None first ls = Err (record { place = first.number; kind = kind.Form })

-- the pool of the lines of a text of either form
unfoldable pub pool_of_lines : List NumberedLine → Result (List Transaction) TextFault
pool_of_lines [] = Ok []
pool_of_lines (l ∷ ls) = if is_heading l.bytes then pool_of_count (heading_count l.bytes) l ls else line_fold pool_step [] (l ∷ ls)

-- the pool of a text, or its first fault
abbrev pub pool_in : List ℕ → Result (List Transaction) TextFault
pool_in text = pool_of_lines (lines_of text)
