-- What the readers of fields make of bytes that were spelled.
use Rattle.std.proofs.Common.{◌≡◌, ℕ, suc, ◌+◌, ◌^◌, ◌<◌, ◌≤◌, Bool, true, false, List, [], ◌∷◌, ◌++◌, ℤ, pos, negsuc, FitsSigned, if◌then◌else◌, ◌==◌, Option, Some, None, Result, Ok, length, nat_lt, refl, sym, ap, subst, ◌∙◌, arith, append_assoc, flat_map, lit<}
use Rattle.std.specs.List.{list_all}
use Rattle.std.specs.Int.{w8, w16, w32, w64, to_le_bytes, from_le_bytes, cast_signed, cast_unsigned}
use Rattle.std.proofs.lemmas.Bool.{lt-leb, leb-false, ltb-true, ne_eqb, and_parts, le-leb}
use Rattle.std.proofs.lemmas.Int.{to_z-of_z}
use Rattle.std.proofs.lemmas.List.{length-append}
use Rattle.std.proofs.lemmas.Nat.{from_le_bytes-to_le_bytes_2, from_le_bytes-to_le_bytes_4, from_le_bytes-to_le_bytes_8}
use Rattle.id_rules.specs.Bytes.{are_bytes_of, fits_signed}
use Rattle.wire_rules.specs.Reading.{FieldFault, Cursor, FieldReading, ◌>>=◌, bytes_at, number_at, signed_at, count_at, number_by_mark, fault_at, items_at, counted_items_at, counted_bytes_at, entry_at, flag_at, optional_at}
use Rattle.wire_rules.specs.Layout.{compact_size, counted_bytes, entry_bytes, flag_byte, optional_byte, signed_bytes}
use Rattle.wire_rules.specs.Limits.{is_entry}
use Rattle.wire_rules.specs.declared.limits.TheConstants.{LIST_LIMIT}
use Rattle.wire_rules.specs.declared.message.InvEntry.{InvEntry}
use Rattle.wire_rules.specs.declared.faults.PayloadKind.TheVariants as fault
use Rattle.wire_laws.proofs.Parts.{take_front, drop_front, of_length}

-- a cursor
abbrev pub cursor : ℕ → List ℕ → Cursor
cursor at rest = record { at = at; rest = rest }

-- goes on behind what was read
pub then_so : {A B : Type 0} (r : Result A FieldFault) (a : A) (next : A → Result B FieldFault) (out : Result B FieldFault) → r ≡ Ok a → next a ≡ out → (r >>= next) ≡ out
then_so r a next out e f = ap (λ x. x >>= next) e ∙ f

-- bytes that stand in front
pub bytes_at-front : (n at : ℕ) (xs ys : List ℕ) → length xs ≡ n → bytes_at n (cursor at (xs ++ ys)) ≡ Ok (xs, cursor (at + n) ys)
unfolding bytes_at
bytes_at-front n at xs ys e = rw (fits, take_front n xs ys e, drop_front n xs ys e) refl
  where
    fits : nat_lt (length (xs ++ ys)) n ≡ false
    fits = lt-leb (suc (length (xs ++ ys))) n (subst (λ k. n < suc k) (sym (length-append xs ys)) (omega (arith, e)))

-- numbers that stand in front
pub number_at-16 : (at n : ℕ) (ys : List ℕ) → n < 2 ^ 16 → number_at w16 (cursor at (to_le_bytes w16 n ++ ys)) ≡ Ok (n, cursor (at + 2) ys)
number_at-16 at n ys h =
    then_so (bytes_at 2 (cursor at (to_le_bytes w16 n ++ ys))) (to_le_bytes w16 n, cursor (at + 2) ys) (λ bytes. Ok (from_le_bytes w16 bytes.0, bytes.1)) (Ok (n, cursor (at + 2) ys))
    (bytes_at-front 2 at (to_le_bytes w16 n) ys refl) (ap (λ k. Ok (k, cursor (at + 2) ys)) (from_le_bytes-to_le_bytes_2 n h))

pub number_at-32 : (at n : ℕ) (ys : List ℕ) → n < 2 ^ 32 → number_at w32 (cursor at (to_le_bytes w32 n ++ ys)) ≡ Ok (n, cursor (at + 4) ys)
number_at-32 at n ys h =
    then_so (bytes_at 4 (cursor at (to_le_bytes w32 n ++ ys))) (to_le_bytes w32 n, cursor (at + 4) ys) (λ bytes. Ok (from_le_bytes w32 bytes.0, bytes.1)) (Ok (n, cursor (at + 4) ys))
    (bytes_at-front 4 at (to_le_bytes w32 n) ys refl) (ap (λ k. Ok (k, cursor (at + 4) ys)) (from_le_bytes-to_le_bytes_4 n h))

pub number_at-64 : (at n : ℕ) (ys : List ℕ) → n < 2 ^ 64 → number_at w64 (cursor at (to_le_bytes w64 n ++ ys)) ≡ Ok (n, cursor (at + 8) ys)
number_at-64 at n ys h =
    then_so (bytes_at 8 (cursor at (to_le_bytes w64 n ++ ys))) (to_le_bytes w64 n, cursor (at + 8) ys) (λ bytes. Ok (from_le_bytes w64 bytes.0, bytes.1)) (Ok (n, cursor (at + 8) ys))
    (bytes_at-front 8 at (to_le_bytes w64 n) ys refl) (ap (λ k. Ok (k, cursor (at + 8) ys)) (from_le_bytes-to_le_bytes_8 n h))

-- a signed number that stands in front
signed_32 : (z : ℤ) → fits_signed 31 z ≡ true → FitsSigned w32 z
signed_32 (pos k) h = record { sfits = ltb-true k (2 ^ 31) h }
signed_32 (negsuc k) h = record { sfits = ltb-true k (2 ^ 31) h }

signed_64 : (z : ℤ) → fits_signed 63 z ≡ true → FitsSigned w64 z
signed_64 (pos k) h = record { sfits = ltb-true k (2 ^ 63) h }
signed_64 (negsuc k) h = record { sfits = ltb-true k (2 ^ 63) h }

unsigned_32 : (z : ℤ) → fits_signed 31 z ≡ true → cast_unsigned w32 z < 2 ^ 32
unsigned_32 (pos k) h = let below = ltb-true k (2 ^ 31) h in omega arith
unsigned_32 (negsuc k) h = let below = ltb-true k (2 ^ 31) h in omega arith

unsigned_64 : (z : ℤ) → fits_signed 63 z ≡ true → cast_unsigned w64 z < 2 ^ 64
unsigned_64 (pos k) h = let below = ltb-true k (2 ^ 63) h in omega arith
unsigned_64 (negsuc k) h = let below = ltb-true k (2 ^ 63) h in omega arith

pub signed_at-32 : (at : ℕ) (z : ℤ) (ys : List ℕ) → fits_signed 31 z ≡ true → signed_at w32 (cursor at (signed_bytes w32 z ++ ys)) ≡ Ok (z, cursor (at + 4) ys)
signed_at-32 at z ys h =
    then_so (number_at w32 (cursor at (signed_bytes w32 z ++ ys))) (cast_unsigned w32 z, cursor (at + 4) ys) (λ n. Ok (cast_signed w32 n.0, n.1)) (Ok (z, cursor (at + 4) ys))
    (number_at-32 at (cast_unsigned w32 z) ys (unsigned_32 z h)) (ap (λ k. Ok (k, cursor (at + 4) ys)) (to_z-of_z w32 z (signed_32 z h)))

pub signed_at-64 : (at : ℕ) (z : ℤ) (ys : List ℕ) → fits_signed 63 z ≡ true → signed_at w64 (cursor at (signed_bytes w64 z ++ ys)) ≡ Ok (z, cursor (at + 8) ys)
signed_at-64 at z ys h =
    then_so (number_at w64 (cursor at (signed_bytes w64 z ++ ys))) (cast_unsigned w64 z, cursor (at + 8) ys) (λ n. Ok (cast_signed w64 n.0, n.1)) (Ok (z, cursor (at + 8) ys))
    (number_at-64 at (cast_unsigned w64 z) ys (unsigned_64 z h)) (ap (λ k. Ok (k, cursor (at + 8) ys)) (to_z-of_z w64 z (signed_64 z h)))

-- ---- counts

-- a byte that is no mark
no_mark : {R : Type 0} (a b d : Bool) (x y z w : R) → a ≡ false → b ≡ false → d ≡ false → (if a then x else if b then y else if d then z else w) ≡ w
no_mark a b d x y z w ha hb hd = rw (ha, hb, hd) refl

-- one byte that stands in front
byte_front : (at b : ℕ) (ys : List ℕ) → number_at w8 (cursor at (b ∷ ys)) ≡ Ok (b, cursor (at + 1) ys)
byte_front at b ys = then_so _ _ _ _ (bytes_at-front 1 at (b ∷ []) ys refl) refl

-- a count that isn't above its limit
within_limit : (limit at n : ℕ) (c : Cursor) → n ≤ limit → (if nat_lt limit n then fault_at {A = ℕ × Cursor} at fault.TooMany else Ok (n, c)) ≡ Ok (n, c)
within_limit limit at n c within = rw (lt-leb (suc limit) n (omega arith)) refl

-- a byte below 0xFD is its own count
count_small : (limit at n : ℕ) (ys : List ℕ) → n < 0xFD → n ≤ limit → count_at limit (cursor at (n ∷ ys)) ≡ Ok (n, cursor (at + 1) ys)
unfolding count_at
count_small limit at n ys small within =
    then_so _ _ _ _ (byte_front at n ys) (then_so _ _ _ _ unmarked (within_limit limit at n (cursor (at + 1) ys) within))
  where
    unmarked : number_by_mark at n (cursor (at + 1) ys) ≡ Ok (n, cursor (at + 1) ys)
    unmarked = no_mark (n == 0xFD) (n == 0xFE) (n == 0xFF) _ _ _ _ (ne_eqb n 0xFD (λ e. omega (arith, small, e))) (ne_eqb n 0xFE (λ e. omega (arith, small, e))) (ne_eqb n 0xFF (λ e. omega (arith, small, e)))

-- a count behind the mark of two bytes
count_marked : (limit at n : ℕ) (ys : List ℕ) → 0xFD ≤ n → n < 2 ^ 16 → n ≤ limit → count_at limit (cursor at (0xFD ∷ (to_le_bytes w16 n ++ ys))) ≡ Ok (n, cursor (at + 1 + 2) ys)
unfolding count_at
count_marked limit at n ys least below within =
    then_so _ _ _ _ (byte_front at 0xFD (to_le_bytes w16 n ++ ys)) (then_so _ _ _ _ marked (within_limit limit at n (cursor (at + 1 + 2) ys) within))
  where
    minimal : (if nat_lt n 0xFD then fault_at {A = ℕ × Cursor} at fault.NotMinimal else Ok (n, cursor (at + 1 + 2) ys)) ≡ Ok (n, cursor (at + 1 + 2) ys)
    minimal = rw (lt-leb (suc n) 0xFD (omega (arith, least))) refl

    marked : number_by_mark at 0xFD (cursor (at + 1) (to_le_bytes w16 n ++ ys)) ≡ Ok (n, cursor (at + 1 + 2) ys)
    marked = then_so _ _ _ _ (number_at-16 (at + 1) n ys below) minimal

-- a count that stands in front, up to a limit of two bytes
count_by : (small : Bool) (limit at n : ℕ) (ys : List ℕ) → nat_lt n 0xFD ≡ small → n ≤ limit → limit < 2 ^ 16
    → (next : ℕ) × (count_at limit (cursor at ((if small then n ∷ [] else 0xFD ∷ to_le_bytes w16 n) ++ ys)) ≡ Ok (n, cursor next ys))
count_by true limit at n ys h within low = (at + 1, count_small limit at n ys (ltb-true n 0xFD h) within)
count_by false limit at n ys h within low = (at + 1 + 2, count_marked limit at n ys (let least = leb-false (suc n) 0xFD h in omega arith) (omega arith) within)

pub two_bytes : (n : ℕ) → n < 2 ^ 16 → compact_size n ≡ (if nat_lt n 0xFD then n ∷ [] else 0xFD ∷ to_le_bytes w16 n)
unfolding compact_size
two_bytes n h = rw (le-leb (suc n) (2 ^ 16) h) refl

pub count_at-front : (limit at n : ℕ) (ys : List ℕ) → n ≤ limit → limit < 2 ^ 16 → (next : ℕ) × (count_at limit (cursor at (compact_size n ++ ys)) ≡ Ok (n, cursor next ys))
count_at-front limit at n ys within low =
    subst (λ xs. (next : ℕ) × (count_at limit (cursor at (xs ++ ys)) ≡ Ok (n, cursor next ys))) (sym (two_bytes n (omega arith)))
    (count_by (nat_lt n 0xFD) limit at n ys refl within low)

-- ---- items in a row

module _ {A : Type 0} (item : Cursor → FieldReading A) (spell : A → List ℕ) (test : A → Bool)
    (reads : (x : A) (at : ℕ) (ys : List ℕ) → test x ≡ true → (next : ℕ) × (item (cursor at (spell x ++ ys)) ≡ Ok (x, cursor next ys))) where
  pub items_at-front : (xs : List A) (at : ℕ) (ys : List ℕ) → list_all test xs ≡ true → (next : ℕ) × (items_at item (length xs) (cursor at (flat_map spell xs ++ ys)) ≡ Ok (xs, cursor next ys))
  unfolding items_at
  items_at-front [] at ys h = (at, refl)
  items_at-front (x ∷ xs) at ys h =
      let tests = and_parts (test x) (list_all test xs) h in
      let one = reads x at (flat_map spell xs ++ ys) tests.0 in
      let more = items_at-front xs one.0 ys tests.1 in (
        more.0,
        ap (λ bytes. items_at item (suc (length xs)) (cursor at bytes)) (append_assoc (spell x) (flat_map spell xs) ys)
            ∙ then_so _ _ _ _ one.1 (then_so _ _ _ _ more.1 refl),
      )

  -- the same behind their count
  pub counted_items_at-front : (xs : List A) (at : ℕ) (ys : List ℕ) → length xs ≤ LIST_LIMIT → list_all test xs ≡ true
      → (next : ℕ) × (counted_items_at item (cursor at (compact_size (length xs) ++ flat_map spell xs ++ ys)) ≡ Ok (xs, cursor next ys))
  counted_items_at-front xs at ys within h =
      let count = count_at-front LIST_LIMIT at (length xs) (flat_map spell xs ++ ys) within (lit< tt) in
      let items = items_at-front xs count.0 ys h in (
        items.0,
        ap (λ bytes. counted_items_at item (cursor at bytes)) (append_assoc (compact_size (length xs)) (flat_map spell xs) ys)
            ∙ then_so _ _ _ _ count.1 items.1,
      )

-- bytes behind their count
pub counted_bytes-front : (limit : ℕ) (xs : List ℕ) (at : ℕ) (ys : List ℕ) → length xs ≤ limit → limit < 2 ^ 16
    → (next : ℕ) × (counted_bytes_at limit (cursor at (counted_bytes xs ++ ys)) ≡ Ok (xs, cursor next ys))
counted_bytes-front limit xs at ys within low =
    let count = count_at-front limit at (length xs) (xs ++ ys) within low in (
      count.0 + length xs,
      ap (λ bytes. counted_bytes_at limit (cursor at bytes)) (append_assoc (compact_size (length xs)) xs ys)
          ∙ then_so _ _ _ _ count.1 (bytes_at-front (length xs) count.0 xs ys refl),
    )

-- a short id
pub short-front : (n at : ℕ) (ys : List ℕ) → nat_lt n (2 ^ 32) ≡ true → (next : ℕ) × (number_at w32 (cursor at (to_le_bytes w32 n ++ ys)) ≡ Ok (n, cursor next ys))
short-front n at ys h = (at + 4, number_at-32 at n ys (ltb-true n (2 ^ 32) h))

-- an entry
pub entry-front : (e : InvEntry) (at : ℕ) (ys : List ℕ) → is_entry e ≡ true → (next : ℕ) × (entry_at (cursor at (entry_bytes e ++ ys)) ≡ Ok (e, cursor next ys))
unfolding entry_at
entry-front e at ys h =
    let tests = and_parts (nat_lt e.kind (2 ^ 32)) (are_bytes_of 32 e.id.0) h in
    let size = of_length 32 e.id.0 tests.1 in (
      at + 4 + 32,
      then_so _ _ _ _ (number_at-32 at e.kind (e.id.0 ++ ys) (ltb-true e.kind (2 ^ 32) tests.0)) (then_so _ _ _ _ (bytes_at-front 32 (at + 4) e.id.0 ys size) refl),
    )

-- a flag
pub flag-front : (b : Bool) (at : ℕ) (ys : List ℕ) → flag_at (cursor at (flag_byte b ∷ ys)) ≡ Ok (b, cursor (at + 1) ys)
unfolding flag_at
flag-front true at ys = then_so _ _ _ _ (byte_front at 1 ys) refl
flag-front false at ys = then_so _ _ _ _ (byte_front at 0 ys) refl

-- a byte that may be absent, where nothing follows
pub optional-front : (b : Option ℕ) (at : ℕ) → (next : ℕ) × (optional_at (cursor at (optional_byte b)) ≡ Ok (b, cursor next []))
unfolding optional_at
optional-front None at = (at, refl)
optional-front (Some b) at = (at + 1, then_so _ _ _ _ (byte_front at b []) refl)
