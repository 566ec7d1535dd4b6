-- What is written of a field is read back, and has no space.
use Rattle.std.proofs.Common.{◌≡◌, ℕ, zero, suc, ◌+◌, ◌-◌, ◌*◌, ◌/◌, ◌%◌, ◌^◌, ◌<◌, ◌≤◌, ◌==◌, ◌&&◌, Bool, true, false, not, List, [], ◌∷◌, ◌++◌, ℤ, pos, negsuc, Option, Some, None, length, take, drop, nat_lt, nat_le, get_or, map, codes, bytes_eq, if◌then◌else◌, refl, sym, ap, subst, ◌∙◌, arith, append_assoc, lit<}
use Rattle.std.specs.List.{AllByRecursion, after_first, before_first, list_all, position_or_len}
use Rattle.std.specs.Int.{w32, w64, to_be_bytes, from_be_bytes, bytes_high_first, byte_at}
use Rattle.std.specs.Fmt.{decimal, signed_decimal}
use Rattle.std.proofs.Math.Nat.{pow-le-pow_right}
use Rattle.std.proofs.Math.Seq.{get_or-append_seam}
use Rattle.std.proofs.lemmas.Bool.{le-leb, ltb-true, and_from, and_parts}
use Rattle.std.proofs.lemmas.Fmt.{decimal_by_steps}
use Rattle.std.proofs.lemmas.List.{length-append, get_or_append_left}
use Rattle.std.proofs.lemmas.List.Sums.{list_all-from_AllPass, position_or_len_is}
use Rattle.std.proofs.lemmas.Nat.{from_be_bytes-to_be_bytes_4, from_be_bytes-to_be_bytes_8}
use Rattle.std.proofs.lemmas.Slice.Eq.{bytes_eq-Decides}
use Rattle.hex.specs.Hex.{IsBytes, decode_of, encode_lower, is_hex_digit, lower_digits}
use Rattle.hex.proofs.HexLemmas.{decode_of-encode_lower, decode_of-ok, length-encode_with}
use Rattle.line_rules.specs.Digits.{eight_digits}
use Rattle.line_rules.specs.Numbers.{digits_onto, is_digit, number_of}
use Rattle.id_rules.specs.Bytes.{are_bytes, are_bytes_of, fits_signed, is_optional_byte}
use Rattle.wire_rules.specs.Limits.{is_entry}
use Rattle.wire_rules.specs.Shown.{bytes_word, entry_word, flag_word, relay_word, salt_word}
use Rattle.wire_rules.specs.ShownReading.{◌>>=◌, bytes_of, decoded_bytes, items_of, entry_of, flag_of, is_colon, negative_number, positive_number, present_byte, relay_of, salt_of, short_of, signed_of}
use Rattle.wire_rules.specs.declared.message.InvEntry.{InvEntry}
use Rattle.wire_laws.proofs.Parts.{all_join, drop_front, take_front}
use Rattle.wire_laws.proofs.Sound.{byte_small}
use Rattle.wire_laws.proofs.Taken.{small_byte}
use Rattle.shown_laws.proofs.Fields.{IsSpaceless, another, no-space}

-- a word is read as what it was written for
pub record Reads {A : Type 0} (item : List ℕ → Option A) (word : List ℕ) (x : A) : Type 0 where
  pub spaces : IsSpaceless word
  pub said : item word ≡ Some x

pub then_some : {A B : Type 0} (o : Option A) (a : A) (next : A → Option B) (out : Option B) → o ≡ Some a → next a ≡ out → (o >>= next) ≡ out
then_some o a next out e f = ap (λ x. x >>= next) e ∙ f

-- ---- numbers

digits_by : (test : Bool) (k : ℕ) (b c v : ℕ) (ds : List ℕ) → (digits_onto (k * 10 + (b - 48)) ds ≡ Some v → digits_onto (k * 10 + (b - 48)) (ds ++ (c ∷ [])) ≡ Some (v * 10 + (c - 48)))
    → (if test then digits_onto (k * 10 + (b - 48)) ds else None) ≡ Some v → (if test then digits_onto (k * 10 + (b - 48)) (ds ++ (c ∷ [])) else None) ≡ Some (v * 10 + (c - 48))
digits_by true k b c v ds more e = more e
digits_by false k b c v ds more e = absurd (cc)

-- one digit more
digits_push : (k : ℕ) (ds : List ℕ) (c v : ℕ) → is_digit c ≡ true → digits_onto k ds ≡ Some v → digits_onto k (ds ++ (c ∷ [])) ≡ Some (v * 10 + (c - 48))
unfolding digits_onto
digits_push k [] c v h e =
    let same : k ≡ v = cc in
    ap (λ t. if t then Some (k * 10 + (c - 48)) else None) h ∙ ap (λ n. Some (n * 10 + (c - 48))) same
digits_push k (b ∷ ds) c v h e = digits_by (is_digit b) k b c v ds (digits_push (k * 10 + (b - 48)) ds c v h) e

-- digits, at least one, that are read as a number
pub record IsNumber (n : ℕ) (ds : List ℕ) : Type 0 where
  pub some : 0 < length ds
  pub digits : list_all is_digit ds ≡ true
  pub said : number_of ds ≡ Some n

digit_of : (n : ℕ) → n < 10 → is_digit (48 + n) ≡ true
digit_of n h = and_from (nat_le 48 (48 + n)) (nat_le (48 + n) 57) (le-leb 48 (48 + n) (omega arith)) (le-leb (48 + n) 57 (omega arith))

one_digit : (n : ℕ) → n < 10 → IsNumber n ((48 + n) ∷ [])
unfolding digits_onto
one_digit n h = record {
  some = omega arith;
  digits = and_from (is_digit (48 + n)) true (digit_of n h) refl;
  said = ap (λ t. if t then Some (0 * 10 + (48 + n - 48)) else None) (digit_of n h) ∙ ap (λ k. Some k) (omega arith);
}

more_digits : (n : ℕ) (ds : List ℕ) → 10 ≤ n → IsNumber (n / 10) ds → IsNumber n (ds ++ ((48 + n % 10) ∷ []))
more_digits n ds low h = record {
  some = let front = h.some in let size = length-append ds ((48 + n % 10) ∷ []) in omega arith;
  digits = all_join is_digit ds ((48 + n % 10) ∷ []) h.digits (and_from (is_digit (48 + n % 10)) true (digit_of (n % 10) (omega arith)) refl);
  said = digits_push 0 ds (48 + n % 10) (n / 10) (digit_of (n % 10) (omega arith)) h.said ∙ ap (λ k. Some k) (omega arith);
}

pub decimal_number : (n : ℕ) → n < 2 ^ 64 → IsNumber n (decimal n)
decimal_number = decimal_by_steps IsNumber one_digit more_digits

pub number-reads : (n : ℕ) → n < 2 ^ 64 → Reads number_of (decimal n) n
number-reads n h = let number = decimal_number n h in record { spaces = record { none = no-space is_digit refl (decimal n) number.digits }; said = number.said }

-- ---- signed numbers

signed_by : (n : ℕ) (ds : List ℕ) → IsNumber n ds → signed_of ds ≡ Some (pos n)
signed_by n [] number = absurd (let some = number.some in omega arith)
signed_by n (b ∷ ds) number =
    ap (λ t. if t then (number_of ds >>= negative_number) else positive_number (number_of (b ∷ ds))) (another is_digit b 45 (and_parts (is_digit b) (list_all is_digit ds) number.digits).0 refl)
    ∙ ap positive_number number.said

-- a number of n bits and a sign is one of 64 bits
pub low_bits : (n k : ℕ) → n ≤ 63 → nat_lt k (2 ^ n) ≡ true → suc k < 2 ^ 64
low_bits n k h fits = let below = ltb-true k (2 ^ n) fits in let power : 2 ^ n ≤ 2 ^ 63 = pow-le-pow_right {n = 2} (lit< tt) h in omega arith

pub signed-reads : (n : ℕ) (z : ℤ) → n ≤ 63 → fits_signed n z ≡ true → Reads signed_of (signed_decimal z) z
signed-reads n (pos k) h fits =
    let low : k < 2 ^ 64 = let next = low_bits n k h fits in omega arith in
    record { spaces = (number-reads k low).spaces; said = signed_by k (decimal k) (decimal_number k low) }
signed-reads n (negsuc k) h fits =
    let number = number-reads (suc k) (low_bits n k h fits) in
    record { spaces = record { none = number.spaces.none }; said = ap (λ o. o >>= negative_number) number.said }

-- ---- bytes

pub is_bytes : (xs : List ℕ) → are_bytes xs ≡ true → IsBytes xs
is_bytes xs h i = small_byte xs i h

pub hex-reads : (xs : List ℕ) → are_bytes xs ≡ true → Reads (λ word. decoded_bytes (decode_of word)) (encode_lower xs) xs
hex-reads xs h =
    let back = decode_of-encode_lower xs (is_bytes xs h) in
    let ok = decode_of-ok (encode_lower xs) xs back in
    record { spaces = record { none = no-space is_hex_digit refl (encode_lower xs) (list_all-from_AllPass is_hex_digit (encode_lower xs) ok.1) }; said = ap decoded_bytes back }

-- digits of bytes are no `-`
pub no_dash : (b : ℕ) (xs : List ℕ) → bytes_eq (encode_lower (b ∷ xs)) (codes "-") ≡ false
no_dash b xs = by (bytes_eq (encode_lower (b ∷ xs)) (codes "-")) refl
  where
    by : (t : Bool) → bytes_eq (encode_lower (b ∷ xs)) (codes "-") ≡ t → t ≡ false
    by false e = refl
    by true e =
        let same = ap length ((bytes_eq-Decides (encode_lower (b ∷ xs)) (codes "-")).0 e) in
        let size = length-encode_with lower_digits (b ∷ xs) in
        absurd (omega arith)

pub some-bytes-reads : (b : ℕ) (xs : List ℕ) → are_bytes (b ∷ xs) ≡ true → Reads bytes_of (encode_lower (b ∷ xs)) (b ∷ xs)
some-bytes-reads b xs h =
    let hex = hex-reads (b ∷ xs) h in
    let word = encode_lower (b ∷ xs) in
    record { spaces = hex.spaces; said = ap (λ t. if t then Some [] else decoded_bytes (decode_of word)) (no_dash b xs) ∙ hex.said }

pub bytes-reads : (xs : List ℕ) → are_bytes xs ≡ true → Reads bytes_of (bytes_word xs) xs
bytes-reads [] h = record { spaces = record { none = refl }; said = refl }
bytes-reads (b ∷ xs) h = some-bytes-reads b xs h

-- ---- numbers of 8 and of 16 digits

pub high_bytes : (k n : ℕ) → are_bytes (bytes_high_first k n) ≡ true
high_bytes zero n = refl
high_bytes (suc k) n = and_from (nat_lt (byte_at k n) (2 ^ 8)) (are_bytes (bytes_high_first k n)) (byte_small k n) (high_bytes k n)

pub short-reads : (n : ℕ) → nat_lt n (2 ^ 32) ≡ true → Reads short_of (eight_digits n) n
short-reads n h =
    let hex = hex-reads (to_be_bytes w32 n) (high_bytes 4 n) in
    record { spaces = hex.spaces; said = then_some (decoded_bytes (decode_of (eight_digits n))) (to_be_bytes w32 n) (λ bytes. Some (from_be_bytes w32 bytes)) (Some n) hex.said (ap (λ k. Some k) (from_be_bytes-to_be_bytes_4 n (ltb-true n (2 ^ 32) h))) }

pub salt-reads : (n : ℕ) → n < 2 ^ 64 → Reads salt_of (salt_word n) n
salt-reads n h =
    let hex = hex-reads (to_be_bytes w64 n) (high_bytes 8 n) in
    record { spaces = hex.spaces; said = then_some (decoded_bytes (decode_of (salt_word n))) (to_be_bytes w64 n) (λ bytes. Some (from_be_bytes w64 bytes)) (Some n) hex.said (ap (λ k. Some k) (from_be_bytes-to_be_bytes_8 n h)) }

-- ---- other fields

pub flag-reads : (b : Bool) → Reads flag_of (flag_word b) b
flag-reads true = record { spaces = record { none = refl }; said = refl }
flag-reads false = record { spaces = record { none = refl }; said = refl }

-- digits are no word of letters
no_word : (ds : List ℕ) (c : ℕ) (word : List ℕ) → 0 < length ds → list_all is_digit ds ≡ true → is_digit c ≡ false → bytes_eq ds (c ∷ word) ≡ false
no_word [] c word some h e = absurd (omega arith)
no_word (b ∷ ds) c word some h e = ap (λ t. t && bytes_eq ds word) (another is_digit b c (and_parts (is_digit b) (list_all is_digit ds) h).0 e)

pub relay-reads : (o : Option ℕ) → is_optional_byte o ≡ true → Reads relay_of (relay_word o) o
relay-reads None h = record { spaces = record { none = refl }; said = refl }
relay-reads (Some b) h =
    let low : b < 2 ^ 64 = let below = ltb-true b (2 ^ 8) h in omega arith in
    let number = decimal_number b low in
    let reads = number-reads b low in
    record {
      spaces = reads.spaces;
      said = ap (λ t. if t then Some None else present_byte (number_of (decimal b))) (no_word (decimal b) 110 (codes "one") number.some number.digits refl) ∙ ap present_byte reads.said;
    }

-- no digit is a colon
no_colon : (ds : List ℕ) → list_all is_digit ds ≡ true → (k : ℕ) → k < length ds → is_colon (get_or ds k 0) ≡ false
no_colon [] h k low = absurd (omega arith)
no_colon (b ∷ ds) h zero low = another is_digit b 58 (and_parts (is_digit b) (list_all is_digit ds) h).0 refl
no_colon (b ∷ ds) h (suc k) low = no_colon ds (and_parts (is_digit b) (list_all is_digit ds) h).1 k (omega arith)

-- a number ends at the first colon
module _ (ds rest : List ℕ) (digits : list_all is_digit ds ≡ true) where
  pub colon : position_or_len is_colon (ds ++ (58 ∷ rest)) ≡ length ds
  colon =
      position_or_len_is is_colon (ds ++ (58 ∷ rest)) (length ds) 0 (let size = length-append ds (58 ∷ rest) in omega arith)
      (λ k low. ap is_colon (get_or_append_left ds (58 ∷ rest) 0 k low) ∙ no_colon ds digits k low)
      (λ low. ap is_colon (get_or-append_seam ds 58 rest 0))

  pub before_colon : before_first is_colon (ds ++ (58 ∷ rest)) ≡ ds
  before_colon = ap (λ n. take n (ds ++ (58 ∷ rest))) colon ∙ take_front (length ds) ds (58 ∷ rest) refl

  pub after_colon : after_first is_colon (ds ++ (58 ∷ rest)) ≡ rest
  after_colon =
      ap (λ n. drop (n + 1) (ds ++ (58 ∷ rest))) colon
      ∙ (ap (drop (length ds + 1)) (sym (append_assoc ds (58 ∷ []) rest))
      ∙ drop_front (length ds + 1) (ds ++ (58 ∷ [])) rest (length-append ds (58 ∷ [])))

pub entry-reads : (e : InvEntry) → is_entry e ≡ true → Reads entry_of (entry_word e) e
unfolding entry_of
entry-reads e h =
    let tests = and_parts (nat_lt e.kind (2 ^ 32)) (are_bytes_of 32 e.id.0) h in
    let low : e.kind < 2 ^ 64 = let below = ltb-true e.kind (2 ^ 32) tests.0 in omega arith in
    let number = decimal_number e.kind low in
    let kind = number-reads e.kind low in
    let id = hex-reads e.id.0 (and_parts (length e.id.0 == 32) (are_bytes e.id.0) tests.1).1 in
    let word = decimal e.kind ++ (58 ∷ encode_lower e.id.0) in
    let same = append_assoc (decimal e.kind) (58 ∷ []) (encode_lower e.id.0) in
    subst (λ xs. Reads entry_of xs e) (sym same) (record {
      spaces = record { none = all_join (λ b. not (b == 32)) (decimal e.kind) (58 ∷ encode_lower e.id.0) kind.spaces.none id.spaces.none };
      said =
          then_some (number_of (before_first is_colon word)) e.kind _ _ (ap number_of (before_colon (decimal e.kind) (encode_lower e.id.0) number.digits) ∙ kind.said)
          (then_some (decoded_bytes (decode_of (after_first is_colon word))) e.id.0 _ _ (ap (λ xs. decoded_bytes (decode_of xs)) (after_colon (decimal e.kind) (encode_lower e.id.0) number.digits) ∙ id.said) refl);
    })

-- ---- any number of like fields

module _ {A : Type 0} (item : List ℕ → Option A) (spell : A → List ℕ) (test : A → Bool) (reads : (x : A) → test x ≡ true → Reads item (spell x) x) where
  pub each-spaces : (xs : List A) → list_all test xs ≡ true → AllByRecursion IsSpaceless (map spell xs)
  each-spaces [] h = tt
  each-spaces (x ∷ xs) h = let tests = and_parts (test x) (list_all test xs) h in ((reads x tests.0).spaces, each-spaces xs tests.1)

  pub each-said : (xs : List A) → list_all test xs ≡ true → items_of item (map spell xs) ≡ Some xs
  unfolding items_of
  each-said [] h = refl
  each-said (x ∷ xs) h =
      let tests = and_parts (test x) (list_all test xs) h in
      then_some (item (spell x)) x _ _ (reads x tests.0).said (then_some (items_of item (map spell xs)) xs _ _ (each-said xs tests.1) refl)
