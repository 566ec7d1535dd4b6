-- What is read of a text is a pool.
use Rattle.std.proofs.Common.{◌≡◌, ℕ, ◌<◌, ◌==◌, nat_le, nat_lt, Bool, true, false, List, [], ◌∷◌, ◌++◌, length, drop, slice_index, if◌then◌else◌, Ok, Err, Some, None, Option, Result, refl, subst, ◌∙◌, arith, le-leb, lt-ltb, length-drop}
use Rattle.std.proofs.lemmas.Bool.{and_from, and_parts, leb-true, ltb-false}
use Rattle.hex.specs.Hex.{decode_of}
use Rattle.hex.specs.declared.error.FromHexError.{FromHexError}
use Rattle.hex.proofs.HexLemmas.{decode_of-ok}
use Rattle.base_types.specs.declared.text.Kind.{Kind}
use Rattle.base_types.specs.declared.text.Kind.TheVariants as kind
use Rattle.base_types.specs.declared.text.TextFault.{TextFault}
use Rattle.line_rules.specs.Digits.{◌>>=◌, bytes_in, with_kind}
use Rattle.line_rules.specs.Lines.{NumberedLine, lines_of}
use Rattle.line_rules.specs.Reading.{after_line, line_fold}
use Rattle.id_rules.specs.Bytes.{are_bytes, is_tx_length}
use Rattle.id_rules.specs.Ids.{wtxid}
use Rattle.id_rules.proofs.Bytes.{are_bytes-IsBytes}
use Rattle.id_rules.specs.declared.TheConstants.{TX_LIMIT}
use Rattle.pool_rules.specs.PoolFile.{has_form, heading_count, id_in, is_heading, tx_of_id, new_tx, pool_in, pool_of_count, pool_of_lines, pool_step, tx_in, tx_within_limit}
use Rattle.pool_rules.specs.Pools.{Transaction, AreDistinctIds, IsTransaction, IsPool, has_room, transaction_of, is_in_pool, is_same_id}
use Rattle.pool_laws.proofs.Insertions.{pool-behind}

-- ---- results that are Ok

bind_ok : {A B : Type 0} (r : Result A Kind) (f : A → Result B Kind) (y : B) → (r >>= f) ≡ Ok y → (x : A) × (r ≡ Ok x) × (f x ≡ Ok y)
bind_ok (Ok x) f y h = (x, refl, h)
bind_ok (Err k) f y h = cc

if_ok : {A : Type 0} (b : Bool) (r : Result A Kind) (k : Kind) (y : A) → (if b then r else Err k) ≡ Ok y → (b ≡ true) × (r ≡ Ok y)
if_ok true r k y h = (refl, h)
if_ok false r k y h = cc

unless_ok : {A : Type 0} (b : Bool) (r : Result A Kind) (k : Kind) (y : A) → (if b then Err k else r) ≡ Ok y → (b ≡ false) × (r ≡ Ok y)
unless_ok true r k y h = cc
unless_ok false r k y h = (refl, h)

kinded_ok : (r : Result (List ℕ) FromHexError) (bytes : List ℕ) → with_kind r ≡ Ok bytes → r ≡ Ok bytes
kinded_ok (Ok xs) bytes h = cc
kinded_ok (Err e) bytes h = cc

-- ---- a line

-- the digits of a transaction, at least one of them, spell bytes that may be one
tx_in-may : (text tx : List ℕ) → 0 < length text → tx_in text ≡ Ok tx → IsTransaction (transaction_of tx)
tx_in-may text tx some h =
    let read = bind_ok (bytes_in text) tx_within_limit tx h in
    let digits = decode_of-ok text read.0 (kinded_ok (decode_of text) read.0 read.1) in
    let within = unless_ok (nat_lt TX_LIMIT (length read.0)) (Ok read.0) _ tx read.2 in
    let same : read.0 ≡ tx = cc within.1 in
    let limited = ltb-false TX_LIMIT (length read.0) within.0 in
    let twice = digits.2 in
    record {
      named = refl;
      sized = subst (λ xs. is_tx_length (length xs) ≡ true) same (and_from (nat_lt 0 (length read.0)) (nat_le (length read.0) TX_LIMIT) (lt-ltb 0 (length read.0) (omega (arith, twice, some))) (le-leb (length read.0) TX_LIMIT limited));
      bytes = subst (λ xs. are_bytes xs ≡ true) same (are_bytes-IsBytes read.0 digits.3);
    }

-- a line makes a larger pool of a pool
pool_step-kept : (pool : List Transaction) (bytes : List ℕ) (more : List Transaction) → IsPool pool → pool_step pool bytes ≡ Ok more → IsPool more
unfolding pool_step
pool_step-kept pool bytes more sound h =
    let id = bind_ok (id_in bytes) _ more h in
    let read = bind_ok (tx_in (drop 65 bytes)) _ more id.2 in
    let named = bind_ok (tx_of_id id.0 read.0) _ more read.2 in
    let fresh = bind_ok (new_tx pool named.0) _ more named.2 in
    let form = if_ok (has_form bytes) _ _ id.0 id.1 in
    let long = leb-true 66 (length bytes) (and_parts (nat_le 66 (length bytes)) (slice_index bytes 64 == 32) form.0).0 in
    let may = tx_in-may (drop 65 bytes) read.0 (omega (arith, length-drop 65 bytes, long)) read.1 in
    let name = if_ok (is_same_id id.0 (wtxid read.0)) (Ok read.0) _ named.0 named.1 in
    let new = unless_ok (is_in_pool pool (wtxid named.0)) (Ok named.0) _ fresh.0 fresh.1 in
    let room = if_ok (has_room pool fresh.0) (Ok (pool ++ transaction_of fresh.0 ∷ [])) _ more fresh.2 in
    let first : read.0 ≡ named.0 = cc name.1 in
    let second : named.0 ≡ fresh.0 = cc new.1 in
    let whole : pool ++ transaction_of fresh.0 ∷ [] ≡ more = cc room.1 in
    subst IsPool whole
    (pool-behind pool fresh.0 sound (subst (λ tx. IsTransaction (transaction_of tx)) (first ∙ second) may) (subst (λ tx. is_in_pool pool (wtxid tx) ≡ false) second new.0) room.0)

-- ---- lines, and a text

after_line-ok : (l : NumberedLine) (r : Result (List Transaction) Kind) (next : List Transaction → Result (List Transaction) TextFault) (pool : List Transaction) → after_line l r next ≡ Ok pool → (more : List Transaction) × (r ≡ Ok more) × (next more ≡ Ok pool)
after_line-ok l (Ok more) next pool h = (more, refl, h)
after_line-ok l (Err k) next pool h = cc

line_fold-kept : (ls : List NumberedLine) (earlier pool : List Transaction) → IsPool earlier → line_fold pool_step earlier ls ≡ Ok pool → IsPool pool
unfolding line_fold
line_fold-kept [] earlier pool sound h = subst IsPool (let same : earlier ≡ pool = cc h in same) sound
line_fold-kept (l ∷ ls) earlier pool sound h =
    let first = after_line-ok l (pool_step earlier l.bytes) _ pool h in
    line_fold-kept ls first.0 pool (pool_step-kept earlier l.bytes first.0 sound first.1) first.2

empty-pool : IsPool []
unfolding AreDistinctIds
empty-pool = record { distinct = tt; each = tt; count = omega arith; size = omega arith }

counted-kept : (count : Option ℕ) (first : NumberedLine) (ls : List NumberedLine) (pool : List Transaction) → pool_of_count count first ls ≡ Ok pool → IsPool pool
unfolding pool_of_count
counted-kept (Some n) first ls pool h = by_count (length ls == n) ls pool h
  where
    by_count : (same : Bool) (ls : List NumberedLine) (pool : List Transaction) → (if same then line_fold pool_step [] ls else Err (record { place = length ls; kind = kind.LineCount })) ≡ Ok pool → IsPool pool
    by_count true ls pool h = line_fold-kept ls [] pool empty-pool h
    by_count false ls pool h = cc
counted-kept None first ls pool h = cc

by_heading : (headed : Bool) (l : NumberedLine) (ls : List NumberedLine) (pool : List Transaction) → (if headed then pool_of_count (heading_count l.bytes) l ls else line_fold pool_step [] (l ∷ ls)) ≡ Ok pool → IsPool pool
by_heading true l ls pool h = counted-kept (heading_count l.bytes) l ls pool h
by_heading false l ls pool h = line_fold-kept (l ∷ ls) [] pool empty-pool h

of_lines-kept : (ls : List NumberedLine) (pool : List Transaction) → pool_of_lines ls ≡ Ok pool → IsPool pool
unfolding pool_of_lines
of_lines-kept [] pool h = subst IsPool (let same : [] ≡ pool = cc h in same) empty-pool
of_lines-kept (l ∷ ls) pool h = by_heading (is_heading l.bytes) l ls pool h

pub pool_in-sound : (text : List ℕ) (pool : List Transaction) → pool_in text ≡ Ok pool → IsPool pool
pool_in-sound text pool h = of_lines-kept (lines_of text) pool h
