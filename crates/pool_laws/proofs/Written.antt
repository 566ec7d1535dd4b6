-- A pool that was written, read again.
use Rattle.std.proofs.Common.{◌≡◌, ℕ, suc, ◌+◌, ◌*◌, ◌<◌, ◌≤◌, ◌==◌, nat_le, nat_lt, true, false, List, [], ◌∷◌, ◌++◌, length, take, drop, slice_index, if◌then◌else◌, Ok, Err, Some, refl, sym, ap, subst, ◌∙◌, arith, append_assoc, eq-eqb, le-leb, le-ltb, lt-ltb, length-append}
use Rattle.std.specs.Prelude.{codes, flat_map}
use Rattle.std.specs.Fmt.{decimal}
use Rattle.std.specs.List.{All, AllByRecursion}
use Rattle.std.proofs.Math.Seq.{take-append_seam, drop-append_seam, get_or-append_seam}
use Rattle.std.proofs.lemmas.Bool.{and_from, and_parts, eqb-true, leb-true, ltb-true}
use Rattle.std.proofs.lemmas.Fmt.{length-decimal-le}
use Rattle.std.proofs.lemmas.List.{append-nil}
use Rattle.std.proofs.lemmas.List.Elements.{All-append}
use Rattle.std.proofs.lemmas.List.Sums.{sum_by-append, sum_by-cons}
use Rattle.hex.specs.Hex.{IsBytes, encode_lower, lower_digits}
use Rattle.hex.proofs.HexLemmas.{decode_of-encode_lower, length-encode_with}
use Rattle.base_types.specs.declared.text.Kind.TheVariants as kind
use Rattle.line_rules.specs.Digits.{◌>>=◌, bytes_in, with_kind}
use Rattle.line_rules.specs.Lines.{NumberedLine, line, lines, lines_of, numbered_lines}
use Rattle.line_rules.specs.Reading.{after_line, line_fold}
use Rattle.line_rules.proofs.Lines.{IsPlain, digits_plain, plain_since-tested, lines-line, numbered_lines-line}
use Rattle.line_rules.proofs.Numbers.{decimal-plain, number_within-decimal}
use Rattle.id_rules.specs.Bytes.{are_bytes}
use Rattle.id_rules.specs.Ids.{wtxid}
use Rattle.id_rules.proofs.Bytes.{IsBytes-are_bytes}
use Rattle.id_rules.specs.declared.TheConstants.{TX_LIMIT}
use Rattle.pool_rules.specs.PoolFile.{has_form, transaction_line, heading, heading_count, id_in, tx_of_id, new_tx, pool_in, pool_of_count, pool_of_lines, pool_step, pool_text, with_transaction, tx_in, tx_within_limit}
use Rattle.pool_rules.specs.Pools.{Transaction, AreDistinctIds, IsTransaction, IsPool, byte_count, has_byte_room, has_room, transaction_of, is_in_pool, pool_ids, is_same_id}
use Rattle.pool_rules.specs.declared.limits.TheConstants.{POOL_LIMIT, POOL_BYTES, POOL_FILE_LIMIT}
use Rattle.pool_laws.proofs.Ids.{wtxid-bytes}
use Rattle.pool_laws.proofs.IdLists.{distinct_apart, is_same_id-self}
use Rattle.pool_laws.proofs.PoolIds.{is_in_pool-is_listed, pool_ids_append}

-- ---- bytes and their digits

pub bytes_in-digits : (bytes : List ℕ) → IsBytes bytes → bytes_in (encode_lower bytes) ≡ Ok bytes
bytes_in-digits bytes small = ap with_kind (decode_of-encode_lower bytes small)

length-digits : (bytes : List ℕ) → length (encode_lower bytes) ≡ 2 * length bytes
length-digits bytes = length-encode_with lower_digits bytes

-- ---- the line of a transaction

-- its id has 32 bytes, and it is no longer and no shorter than a transaction may be
pub record IsWritten (t : Transaction) : Type 0 where
  pub id_length : length t.id.0 ≡ 32
  pub id_bytes : IsBytes t.id.0
  pub bytes : IsBytes t.bytes
  pub some : 0 < length t.bytes
  pub limited : length t.bytes ≤ TX_LIMIT

pub transaction_of-written : (t : Transaction) → IsTransaction t → IsWritten t
transaction_of-written t sound =
    let id = and_parts (length (wtxid t.bytes).0 == 32) (are_bytes (wtxid t.bytes).0) (wtxid-bytes t.bytes) in
    let size = and_parts (nat_lt 0 (length t.bytes)) (nat_le (length t.bytes) TX_LIMIT) sound.sized in
    record {
      id_length = ap (λ h. length h.0) sound.named ∙ eqb-true (length (wtxid t.bytes).0) 32 id.0;
      id_bytes = subst (λ h. IsBytes h.0) (sym sound.named) (IsBytes-are_bytes (wtxid t.bytes).0 id.1);
      bytes = IsBytes-are_bytes t.bytes sound.bytes;
      some = ltb-true 0 (length t.bytes) size.0;
      limited = leb-true (length t.bytes) TX_LIMIT size.1;
    }

transaction_line-plain : (t : Transaction) → IsWritten t → All IsPlain (transaction_line t)
transaction_line-plain t w =
    All-append IsPlain (encode_lower t.id.0 ++ codes " ") (encode_lower t.bytes)
    (All-append IsPlain (encode_lower t.id.0) (codes " ") (digits_plain t.id.0 w.id_bytes) (plain_since-tested (codes " ") refl))
    (digits_plain t.bytes w.bytes)

-- an id's digits, a space, and more digits: each part is found by its offset
module _ (a b : List ℕ) (la : length a ≡ 64) (lb : 0 < length b) where
  front_length : length (a ++ codes " ") ≡ 65
  front_length = omega (arith, length-append a (codes " "))

  front_space : slice_index (a ++ codes " " ++ b) 64 ≡ 32
  front_space =
      ap (λ xs. slice_index xs 64) (append_assoc a (codes " ") b)
      ∙ subst (λ n. slice_index (a ++ 32 ∷ b) n ≡ 32) la (get_or-append_seam a 32 b 0)

  pub parts_form : has_form (a ++ codes " " ++ b) ≡ true
  parts_form =
      and_from (nat_le 66 (length (a ++ codes " " ++ b))) (slice_index (a ++ codes " " ++ b) 64 == 32)
      (le-leb 66 (length (a ++ codes " " ++ b)) (omega (arith, length-append (a ++ codes " ") b, front_length)))
      (eq-eqb (slice_index (a ++ codes " " ++ b) 64) 32 front_space)

  pub parts_id : take 64 (a ++ codes " " ++ b) ≡ a
  parts_id = ap (take 64) (append_assoc a (codes " ") b) ∙ subst (λ n. take n (a ++ (codes " " ++ b)) ≡ a) la (take-append_seam a (codes " " ++ b))

  pub parts_tx : drop 65 (a ++ codes " " ++ b) ≡ b
  parts_tx = subst (λ n. drop n (a ++ codes " " ++ b) ≡ b) front_length (drop-append_seam (a ++ codes " ") b)

-- the four steps of a line that is written, each by what the one before read
module _ (t : Transaction) (w : IsWritten t) where
  id_digits : length (encode_lower t.id.0) ≡ 64
  id_digits = omega (arith, length-digits t.id.0, w.id_length)

  some_digits : 0 < length (encode_lower t.bytes)
  some_digits = omega (arith, length-digits t.bytes, w.some)

  pub id_in-transaction_line : id_in (transaction_line t) ≡ Ok t.id
  id_in-transaction_line =
      ap (λ form. if form then (bytes_in (take 64 (transaction_line t)) >>= (λ id. Ok (record { 0 = id }))) else Err kind.Form) (parts_form (encode_lower t.id.0) (encode_lower t.bytes) id_digits some_digits)
      ∙ ap (λ digits. bytes_in digits >>= (λ id. Ok (record { 0 = id }))) (parts_id (encode_lower t.id.0) (encode_lower t.bytes) id_digits some_digits)
      ∙ ap (λ r. r >>= (λ id. Ok (record { 0 = id }))) (bytes_in-digits t.id.0 w.id_bytes)

  pub tx_in-transaction_line : tx_in (drop 65 (transaction_line t)) ≡ Ok t.bytes
  tx_in-transaction_line =
      ap tx_in (parts_tx (encode_lower t.id.0) (encode_lower t.bytes) id_digits some_digits)
      ∙ ap (λ r. r >>= tx_within_limit) (bytes_in-digits t.bytes w.bytes)
      ∙ ap (λ long. if long then Err kind.TxTooLong else Ok t.bytes) (le-ltb TX_LIMIT (length t.bytes) w.limited)

-- the line of a transaction that a pool lacks and has room for
pool_step-transaction_line : (pool : List Transaction) (t : Transaction) → IsTransaction t → is_in_pool pool t.id ≡ false → has_room pool t.bytes ≡ true → pool_step pool (transaction_line t) ≡ Ok (pool ++ t ∷ [])
unfolding pool_step
pool_step-transaction_line pool t sound new room =
    let w = transaction_of-written t sound in
    let named : tx_of_id t.id t.bytes ≡ Ok t.bytes = ap (λ id. if is_same_id id (wtxid t.bytes) then Ok t.bytes else Err (kind.IdMismatch id (wtxid t.bytes))) sound.named ∙ ap (λ same. if same then Ok t.bytes else Err (kind.IdMismatch (wtxid t.bytes) (wtxid t.bytes))) (is_same_id-self (wtxid t.bytes)) in
    let fresh : new_tx pool t.bytes ≡ Ok t.bytes = ap (λ there. if there then Err kind.Repeated else Ok t.bytes) (subst (λ id. is_in_pool pool id ≡ false) sound.named new) in
    let whole : transaction_of t.bytes ≡ t = ap (λ id. record { id = id; bytes = t.bytes }) (sym sound.named) in
    let placed : with_transaction pool t.bytes ≡ Ok (pool ++ t ∷ []) = ap (λ fits. if fits then Ok (pool ++ transaction_of t.bytes ∷ []) else Err kind.PoolFull) room ∙ ap (λ x. Ok (pool ++ x ∷ [])) whole in
    ap (λ r. r >>= (λ id. tx_in (drop 65 (transaction_line t)) >>= (λ read. tx_of_id id read >>= (λ named. new_tx pool named >>= (λ tx. with_transaction pool tx))))) (id_in-transaction_line t w)
    ∙ ap (λ r. r >>= (λ read. tx_of_id t.id read >>= (λ named. new_tx pool named >>= (λ tx. with_transaction pool tx)))) (tx_in-transaction_line t w)
    ∙ ap (λ r. r >>= (λ named. new_tx pool named >>= (λ tx. with_transaction pool tx))) named
    ∙ ap (λ r. r >>= (λ tx. with_transaction pool tx)) fresh
    ∙ placed

-- ---- the lines of a pool

-- the lines of transactions, of which the first has number n
held_lines : ℕ → List Transaction → List NumberedLine
held_lines n [] = []
held_lines n (t ∷ ts) = record { number = n; bytes = transaction_line t } ∷ held_lines (n + 1) ts

length-held_lines : (n : ℕ) (ts : List Transaction) → length (held_lines n ts) ≡ length ts
unfolding held_lines
length-held_lines n [] = refl
length-held_lines n (t ∷ ts) = ap suc (length-held_lines (n + 1) ts)

transaction_line-some : (t : Transaction) → 0 < length (transaction_line t)
transaction_line-some t = omega (arith, length-append (encode_lower t.id.0 ++ codes " ") (encode_lower t.bytes), length-append (encode_lower t.id.0) (codes " "))

-- their text is cut into them again
numbered_lines-held_lines : (n : ℕ) (ts : List Transaction) → AllByRecursion IsTransaction ts → numbered_lines n (lines (flat_map (λ t. line (transaction_line t)) ts)) ≡ held_lines n ts
unfolding held_lines lines numbered_lines
numbered_lines-held_lines n [] sound = refl
numbered_lines-held_lines n (t ∷ ts) sound =
    ap (numbered_lines n) (lines-line (transaction_line t) (flat_map (λ u. line (transaction_line u)) ts) (transaction_line-plain t (transaction_of-written t sound.0)))
    ∙ numbered_lines-line n (transaction_line t) (lines (flat_map (λ u. line (transaction_line u)) ts)) (transaction_line-some t)
    ∙ ap (λ ls. record { number = n; bytes = transaction_line t } ∷ ls) (numbered_lines-held_lines (n + 1) ts sound.1)

-- a pool in two parts: of the second, the first transaction is new to the first part, which has room for it
parted-new : (earlier : List Transaction) (t : Transaction) (ts : List Transaction) → IsPool (earlier ++ t ∷ ts) → is_in_pool earlier t.id ≡ false
parted-new earlier t ts sound =
    is_in_pool-is_listed earlier t.id ∙ (distinct_apart (pool_ids earlier) (pool_ids (t ∷ ts)) (subst AreDistinctIds (pool_ids_append earlier (t ∷ ts)) sound.distinct)).0

parted-room : (earlier : List Transaction) (t : Transaction) (ts : List Transaction) → IsPool (earlier ++ t ∷ ts) → has_room earlier t.bytes ≡ true
parted-room earlier t ts sound =
    let both = sum_by-append (λ u. length u.bytes) earlier (t ∷ ts) in
    let first = sum_by-cons (λ u. length u.bytes) t ts in
    let size = sound.size in
    let count = sound.count in
    and_from (nat_lt (length earlier) POOL_LIMIT) (has_byte_room earlier t.bytes)
    (lt-ltb (length earlier) POOL_LIMIT (omega (arith, length-append earlier (t ∷ ts), count)))
    (le-leb (byte_count earlier + length t.bytes) POOL_BYTES (omega (arith, both, first, size)))

line_fold-held : (earlier ts : List Transaction) (n : ℕ) → IsPool (earlier ++ ts) → AllByRecursion IsTransaction ts → line_fold pool_step earlier (held_lines n ts) ≡ Ok (earlier ++ ts)
unfolding line_fold held_lines
line_fold-held earlier [] n sound each = ap Ok (sym (append-nil earlier))
line_fold-held earlier (t ∷ ts) n sound each =
    ap (λ r. after_line (record { number = n; bytes = transaction_line t }) r (λ more. line_fold pool_step more (held_lines (n + 1) ts))) (pool_step-transaction_line earlier t each.0 (parted-new earlier t ts sound) (parted-room earlier t ts sound))
    ∙ line_fold-held (earlier ++ t ∷ []) ts (n + 1) (subst IsPool (sym (append_assoc earlier (t ∷ []) ts)) sound) each.1
    ∙ ap Ok (append_assoc earlier (t ∷ []) ts)

-- ---- the heading

heading-plain : (n : ℕ) → n ≤ POOL_LIMIT → All IsPlain (heading n)
heading-plain n le = All-append IsPlain (codes "pool 2 ") (decimal n) (plain_since-tested (codes "pool 2 ") refl) (decimal-plain n (omega arith))

heading_count-heading : (n : ℕ) → n ≤ POOL_LIMIT → heading_count (heading n) ≡ Some n
heading_count-heading n le = number_within-decimal 0 POOL_LIMIT n (omega arith) le (omega arith)

-- the text of a pool is read as the pool
pub pool_in-text : (pool : List Transaction) → IsPool pool → pool_in (pool_text pool) ≡ Ok pool
unfolding pool_of_lines pool_of_count
pool_in-text pool sound =
    let n = length pool in
    let body = flat_map (λ t. line (transaction_line t)) pool in
    let first : NumberedLine = record { number = 1; bytes = heading n } in
    let cut : lines_of (pool_text pool) ≡ first ∷ held_lines 2 pool =
    ap (numbered_lines 1) (lines-line (heading n) body (heading-plain n sound.count))
    ∙ numbered_lines-line 1 (heading n) (lines body) (omega (arith, length-append (codes "pool 2 ") (decimal n)))
    ∙ ap (λ ls. first ∷ ls) (numbered_lines-held_lines 2 pool sound.each) in
    ap pool_of_lines cut
    ∙ ap (λ count. pool_of_count count first (held_lines 2 pool)) (heading_count-heading n sound.count)
    ∙ ap (λ same. if same then line_fold pool_step [] (held_lines 2 pool) else Err (record { place = length (held_lines 2 pool); kind = kind.LineCount })) (eq-eqb (length (held_lines 2 pool)) n (length-held_lines 2 pool))
    ∙ line_fold-held [] pool 2 sound sound.each

-- ---- its length

length-transaction_line : (t : Transaction) → IsWritten t → length (line (transaction_line t)) ≡ 66 + 2 * length t.bytes
length-transaction_line t w =
    let id = length-digits t.id.0 in
    let bytes = length-digits t.bytes in
    let size = w.id_length in
    omega (arith, length-append (transaction_line t) (10 ∷ []), length-append (encode_lower t.id.0 ++ codes " ") (encode_lower t.bytes), length-append (encode_lower t.id.0) (codes " "), id, bytes, size)

length-lines : (ts : List Transaction) → AllByRecursion IsTransaction ts → length (flat_map (λ t. line (transaction_line t)) ts) ≡ 66 * length ts + 2 * byte_count ts
length-lines [] each = refl
length-lines (t ∷ ts) each =
    let first = length-transaction_line t (transaction_of-written t each.0) in
    let rest = length-lines ts each.1 in
    let bytes = sum_by-cons (λ u. length u.bytes) t ts in
    omega (arith, length-append (line (transaction_line t)) (flat_map (λ u. line (transaction_line u)) ts), first, rest, bytes)

-- a pool at both limits is written in 271,735,469 bytes
pub length-text : (pool : List Transaction) → IsPool pool → length (pool_text pool) ≤ POOL_FILE_LIMIT
length-text pool sound =
    let lines = length-lines pool sound.each in
    let count = sound.count in
    let size = sound.size in
    let few = length-decimal-le 5 (length pool) (omega arith) (omega (arith, count)) (omega (arith, count)) in
    let head = length-append (line (heading (length pool))) (flat_map (λ t. line (transaction_line t)) pool) in
    let first = length-append (heading (length pool)) (10 ∷ []) in
    let word = length-append (codes "pool 2 ") (decimal (length pool)) in
    omega (arith, lines, few, head, first, word, count, size)
