-- Words that stand for one value alone.
use Rattle.std.proofs.Common.{◌≡◌, ℕ, suc, ◌+◌, ◌^◌, ◌<◌, ◌==◌, Bool, true, false, List, [], ◌∷◌, ℤ, pos, negsuc, Option, Some, None, Result, Ok, Err, length, take, drop, get_or, nat_lt, codes, inl, inr, ◌⊎◌, refl, sym, ap, subst, ◌∙◌, append_assoc, arith, w32, w64}
use Rattle.std.specs.Prelude.{FitsSigned, IsTrue}
use Rattle.std.specs.Fmt.{decimal, signed_decimal}
use Rattle.std.specs.Int.{to_be_bytes, from_be_bytes}
use Rattle.std.specs.Str.{IsUtf8}
use Rattle.std.specs.Str.Parse.{ParsesSigned, ParsesUnsigned}
use Rattle.std.proofs.lemmas.Bool.{and_from, and_parts, eqb-true, eq-eqb, le-leb, ltb-true}
use Rattle.std.proofs.lemmas.Fmt.{IsAscii-decimal, IsAscii-signed, parse-decimal, parse-signed_decimal}
use Rattle.std.proofs.lemmas.Int.{to_z-of_z}
use lib.Signed.{mag}
use mir.Val.{of_z, to_z}
use Rattle.std.proofs.lemmas.Nat.{from_be_bytes-to_be_bytes_4, from_be_bytes-to_be_bytes_8}
use Rattle.std.proofs.lemmas.Str.{IsUtf8-from_ascii}
use Rattle.hex.specs.Hex.{IsBytes, decode_of, decode_sized, encode_lower}
use Rattle.hex.specs.declared.error.FromHexError.{FromHexError}
use Rattle.hex.specs.declared.error.FromHexError.TheVariants as hex
use Rattle.hex.proofs.HexLemmas.{decode_of-encode_lower, decode_of-ok, decode_sized-encode_lower, decode_sized-ok, decode_sized-twice, length-encode_with}
use Rattle.hex.specs.Hex.{lower_digits}
use Rattle.line_rules.specs.Digits.{eight_digits}
use Rattle.id_rules.specs.Bytes.{are_bytes, are_bytes_of, fits_signed, is_optional_byte}
use Rattle.wire_rules.specs.Limits.{is_entry}
use Rattle.wire_rules.specs.Shown.{bytes_word, entry_word, relay_word, salt_word}
use Rattle.wire_rules.specs.ShownReading.{is_colon}
use Rattle.wire_rules.specs.declared.message.InvEntry.{InvEntry}
use Rattle.line_rules.specs.Numbers.{is_digit}
use Rattle.std.specs.List.{after_first, before_first, list_all, position_or_len}
use Rattle.std.proofs.lemmas.List.Sums.{position_or_len_is}
use Rattle.shown_laws.proofs.Words.{after_colon, before_colon, decimal_number, high_bytes, is_bytes}
use Rattle.shown_reading.specs.Reads.{IsOnly, fault_of}
use Rattle.shown_reading.specs.declared.fault.ShownFault.{ShownFault}
use Rattle.shown_reading.specs.declared.fault.ShownFault.TheVariants as fault

-- a value that passes a test, and is the only such one of which a fact holds
abbrev pub Only : {A : Type 0} → (A → Bool) → (A → Type 0) → A → Type 0
Only fits stands x = IsTrue (fits x) × ((y : _) → IsTrue (fits y) → stands y → y ≡ x)

-- no value is such a one
abbrev pub NoSuch : {A : Type 0} → (A → Bool) → (A → Type 0) → Type 0
NoSuch fits stands = (y : _) → IsTrue (fits y) → stands y → ⊥

-- where a part stands for no value, or memory ran out, so does the whole
pub failed : {A B : Type 0} (part : A → Bool) (stands : A → Type 0) (whole : B → Bool) (shows : B → Type 0) (e : ShownFault)
    → ((y : B) → IsTrue (whole y) → shows y → (x : A) × IsTrue (part x) × stands x) → IsOnly part stands (Err e) → IsOnly whole shows (Err e)
failed part stands whole shows fault.Form leads none = λ y fits shown. let x = leads y fits shown in none x.0 x.1 x.2
failed part stands whole shows fault.OutOfMemory leads none = tt

-- the same values of words that are told in another way
pub eased : {A : Type 0} (fits : A → Bool) (stands shows : A → Type 0) (r : Result A ShownFault) → ((y : A) → IsTrue (fits y) → shows y → stands y) → IsOnly fits stands r → IsOnly fits shows r
eased fits stands shows (Ok x) leads only = (only.0, λ y h shown. only.1 y h (leads y h shown))
eased fits stands shows (Err fault.Form) leads none = λ y h shown. none y h (leads y h shown)
eased fits stands shows (Err fault.OutOfMemory) leads none = tt

-- ---- numbers

module _ (text word : List ℕ) (same : text ≡ word) where
  pub number_only : {E : Type 0} (r : Result ℕ E) → ParsesUnsigned 64 10 text r → (n : ℕ) → r ≡ Ok n → Only (λ k. nat_lt k (2 ^ 64)) (λ k. word ≡ decimal k) n
  number_only (Err e) parsed n is = absurd (cc)
  number_only {E} (Ok m) parsed n is =
      let one : n ≡ m = cc in
      subst (Only (λ k. nat_lt k (2 ^ 64)) (λ k. word ≡ decimal k)) (sym one) (
        le-leb (suc m) (2 ^ 64) (let low = parsed.0.1 in let value = parsed.1 in omega arith),
        λ y fits spelled. let read = parse-decimal {E = E} 64 y text (Ok m) (ltb-true y (2 ^ 64) fits) (ltb-true y (2 ^ 64) fits) (same ∙ spelled) parsed in cc,
      )

  pub number_none : {E : Type 0} (r : Result ℕ E) → ParsesUnsigned 64 10 text r → (e : E) → r ≡ Err e → NoSuch (λ k. nat_lt k (2 ^ 64)) (λ k. word ≡ decimal k)
  number_none {E} r parsed e is y fits spelled =
      let read = parse-decimal {E = E} 64 y text r (ltb-true y (2 ^ 64) fits) (ltb-true y (2 ^ 64) fits) (same ∙ spelled) parsed in absurd (cc)

-- a word that is no text
pub number_no_text : (word : List ℕ) → (IsUtf8 word → ⊥) → NoSuch (λ k. nat_lt k (2 ^ 64)) (λ k. word ≡ decimal k)
number_no_text word none y fits spelled = none (subst IsUtf8 (sym spelled) (IsUtf8-from_ascii (decimal y) (IsAscii-decimal y (ltb-true y (2 ^ 64) fits))))

-- ---- signed numbers

small : (z : ℤ) → fits_signed 63 z ≡ true → mag z < 2 ^ 63
small (pos k) fits = ltb-true k (2 ^ 63) fits
small (negsuc k) fits = ltb-true k (2 ^ 63) fits

within : (z : ℤ) → mag z < 2 ^ 63 → fits_signed 63 z ≡ true
within (pos k) low = le-leb (suc k) (2 ^ 63) low
within (negsuc k) low = le-leb (suc k) (2 ^ 63) low

module _ (text word : List ℕ) (same : text ≡ word) where
  pub signed_only : {E : Type 0} (r : Result ℤ E) → ParsesSigned w64 10 text r → (z : ℤ) → r ≡ Ok z → Only (fits_signed 63) (λ k. word ≡ signed_decimal k) (to_z w64 (of_z w64 z))
  signed_only (Err e) parsed z is = absurd (cc)
  signed_only {E} (Ok m) parsed z is =
      let one : z ≡ m = cc in
      let fits_all = subst (FitsSigned w64) (sym parsed.1) parsed.0.1 in
      subst (Only (fits_signed 63) (λ k. word ≡ signed_decimal k)) (sym (ap (λ k. to_z w64 (of_z w64 k)) one ∙ to_z-of_z w64 m fits_all)) (
        within m fits_all.sfits,
        λ y fits spelled. let read = parse-signed_decimal {E = E} w64 y text (Ok m) (record { sfits = small y fits }) (small y fits) (same ∙ spelled) parsed in cc,
      )

  pub signed_none : {E : Type 0} (r : Result ℤ E) → ParsesSigned w64 10 text r → (e : E) → r ≡ Err e → NoSuch (fits_signed 63) (λ k. word ≡ signed_decimal k)
  signed_none {E} r parsed e is y fits spelled =
      let read = parse-signed_decimal {E = E} w64 y text r (record { sfits = small y fits }) (small y fits) (same ∙ spelled) parsed in absurd (cc)

pub signed_no_text : (word : List ℕ) → (IsUtf8 word → ⊥) → NoSuch (fits_signed 63) (λ k. word ≡ signed_decimal k)
signed_no_text word none y fits spelled = none (subst IsUtf8 (sym spelled) (IsUtf8-from_ascii (signed_decimal y) (IsAscii-signed y (small y fits))))

-- ---- bytes

pub tested_bytes : (xs : List ℕ) → IsBytes xs → are_bytes xs ≡ true
tested_bytes [] h = refl
tested_bytes (x ∷ xs) h = and_from (nat_lt x (2 ^ 8)) (are_bytes xs) (le-leb (suc x) (2 ^ 8) (let first = h 0 in omega arith)) (tested_bytes xs (λ i. h (suc i)))

module _ (word : List ℕ) (n : ℕ) where
  spelled_sized : (y : List ℕ) → are_bytes_of n y ≡ true → word ≡ encode_lower y → decode_sized word n ≡ Ok y
  spelled_sized y h same =
      let tests = and_parts (length y == n) (are_bytes y) h in
      ap (λ (w : List ℕ). decode_sized w n) same ∙ decode_sized-encode_lower y n (eqb-true (length y) n tests.0) (is_bytes y tests.1)

  pub array_only : (bytes : List ℕ) → decode_sized word n ≡ Ok bytes → Only (are_bytes_of n) (λ y. word ≡ encode_lower y) bytes
  array_only bytes e =
      let len = decode_sized-ok word n bytes e in
      let ok = decode_of-ok word bytes (sym (decode_sized-twice word n len) ∙ e) in (
        and_from (length bytes == n) (are_bytes bytes) (eq-eqb (length bytes) n (let twice = ok.2 in omega arith)) (tested_bytes bytes ok.3),
        λ y h same. let read = spelled_sized y h same in cc,
      )

  pub array_none : (fault : FromHexError) → decode_sized word n ≡ Err fault → NoSuch (are_bytes_of n) (λ y. word ≡ encode_lower y)
  array_none fault e y h same = let read = spelled_sized y h same in absurd (cc)

-- the digits of bytes are no `-`
dash : (y : List ℕ) → codes "-" ≡ bytes_word y → y ≡ []
dash [] same = refl
dash (b ∷ rest) same = let size = ap length same in let twice = length-encode_with lower_digits (b ∷ rest) in absurd (omega arith)

pub dash_only : (word bytes : List ℕ) → word ≡ codes "-" → bytes ≡ [] → Only are_bytes (λ y. word ≡ bytes_word y) bytes
dash_only word bytes is none = subst (Only are_bytes (λ y. word ≡ bytes_word y)) (sym none) (refl, λ y h same. dash y (sym is ∙ same))

-- another word is read by its digits
digits_read : (word y : List ℕ) → (word ≡ codes "-" → ⊥) → are_bytes y ≡ true → word ≡ bytes_word y → decode_of word ≡ Ok y
digits_read word [] other h same = absurd (other same)
digits_read word (b ∷ rest) other h same = ap decode_of same ∙ decode_of-encode_lower (b ∷ rest) (is_bytes (b ∷ rest) h)

pub bytes_only : (word bytes out : List ℕ) → (word ≡ codes "-" → ⊥) → decode_of word ≡ Ok bytes → out ≡ bytes → Only are_bytes (λ y. word ≡ bytes_word y) out
bytes_only word bytes out other read is = subst (Only are_bytes (λ y. word ≡ bytes_word y)) (sym is) (
  tested_bytes bytes (decode_of-ok word bytes read).3,
  λ y h same. let said = digits_read word y other h same in cc,
)

bytes_none : (word : List ℕ) (e : FromHexError) → (word ≡ codes "-" → ⊥) → decode_of word ≡ Err e → NoSuch are_bytes (λ y. word ≡ bytes_word y)
bytes_none word e other read y h same = let said = digits_read word y other h same in absurd (cc)

pub bytes_failed : (word : List ℕ) (e : FromHexError) → (word ≡ codes "-" → ⊥) → (e ≡ hex.OutOfMemory) ⊎ (decode_of word ≡ Err e) → IsOnly are_bytes (λ y. word ≡ bytes_word y) (Err (fault_of e))
bytes_failed word hex.OutOfMemory other why = tt
bytes_failed word (hex.InvalidHexCharacter c i) other (inl memory) = absurd (cc)
bytes_failed word (hex.InvalidHexCharacter c i) other (inr read) = bytes_none word (hex.InvalidHexCharacter c i) other read
bytes_failed word hex.OddLength other (inl memory) = absurd (cc)
bytes_failed word hex.OddLength other (inr read) = bytes_none word hex.OddLength other read
bytes_failed word hex.InvalidStringLength other (inl memory) = absurd (cc)
bytes_failed word hex.InvalidStringLength other (inr read) = bytes_none word hex.InvalidStringLength other read

-- ---- numbers by their digits

pub short_only : (word bytes : List ℕ) (n : ℕ) → Only (are_bytes_of 4) (λ y. word ≡ encode_lower y) bytes → n ≡ from_be_bytes w32 bytes → n < 2 ^ 32 → Only (λ k. nat_lt k (2 ^ 32)) (λ k. word ≡ eight_digits k) n
short_only word bytes n only is low = (
  le-leb (suc n) (2 ^ 32) low,
  λ y h same. sym (from_be_bytes-to_be_bytes_4 y (ltb-true y (2 ^ 32) h)) ∙ ap (from_be_bytes w32) (only.1 (to_be_bytes w32 y) (high_bytes 4 y) same) ∙ sym is,
)

pub salt_only : (word bytes : List ℕ) (n : ℕ) → Only (are_bytes_of 8) (λ y. word ≡ encode_lower y) bytes → n ≡ from_be_bytes w64 bytes → n < 2 ^ 64 → Only (λ k. nat_lt k (2 ^ 64)) (λ k. word ≡ salt_word k) n
salt_only word bytes n only is low = (
  le-leb (suc n) (2 ^ 64) low,
  λ y h same. sym (from_be_bytes-to_be_bytes_8 y (ltb-true y (2 ^ 64) h)) ∙ ap (from_be_bytes w64) (only.1 (to_be_bytes w64 y) (high_bytes 8 y) same) ∙ sym is,
)

-- ---- a byte that may be absent, and an entry

pub none_only : (word : List ℕ) → word ≡ codes "none" → Only is_optional_byte (λ y. word ≡ relay_word y) None
none_only word is = (refl, only)
  where
    only : (y : Option ℕ) → is_optional_byte y ≡ true → word ≡ relay_word y → y ≡ None
    only None h same = refl
    only (Some b) h same =
        let number = decimal_number b (let low = ltb-true b (2 ^ 8) h in omega arith) in
        let letters : list_all is_digit (codes "none") ≡ true = ap (list_all is_digit) (sym is ∙ same) ∙ number.digits in
        absurd (cc)

module _ (word : List ℕ) (end : ℕ) (low : end < length word) (before : (j : ℕ) → j < end → is_colon (get_or word j 0) ≡ true → ⊥) (here : is_colon (get_or word end 0) ≡ true) where
  false_by : (t : Bool) → (t ≡ true → ⊥) → t ≡ false
  false_by true other = absurd (other refl)
  false_by false other = refl

  place : position_or_len is_colon word ≡ end
  place = position_or_len_is is_colon word end 0 (omega arith) (λ j below. false_by (is_colon (get_or word j 0)) (before j below)) (λ within. here)

  parts : (y : InvEntry) → is_entry y ≡ true → word ≡ entry_word y → (take end word ≡ decimal y.kind) × (drop (end + 1) word ≡ encode_lower y.id.0)
  parts y h same =
      let tests = and_parts (nat_lt y.kind (2 ^ 32)) (are_bytes_of 32 y.id.0) h in
      let number = decimal_number y.kind (let small = ltb-true y.kind (2 ^ 32) tests.0 in omega arith) in
      let split = same ∙ append_assoc (decimal y.kind) (58 ∷ []) (encode_lower y.id.0) in (
        ap (λ (n : ℕ). take n word) (sym place) ∙ ap (before_first is_colon) split ∙ before_colon (decimal y.kind) (encode_lower y.id.0) number.digits,
        ap (λ (n : ℕ). drop (n + 1) word) (sym place) ∙ ap (after_first is_colon) split ∙ after_colon (decimal y.kind) (encode_lower y.id.0) number.digits,
      )

  pub kind_part : (y : InvEntry) → IsTrue (is_entry y) → word ≡ entry_word y → (k : ℕ) × IsTrue (nat_lt k (2 ^ 32)) × (take end word ≡ decimal k)
  kind_part y h same = (y.kind, (and_parts (nat_lt y.kind (2 ^ 32)) (are_bytes_of 32 y.id.0) h).0, (parts y h same).0)

  pub id_part : (y : InvEntry) → IsTrue (is_entry y) → word ≡ entry_word y → (id : List ℕ) × IsTrue (are_bytes_of 32 id) × (drop (end + 1) word ≡ encode_lower id)
  id_part y h same = (y.id.0, (and_parts (nat_lt y.kind (2 ^ 32)) (are_bytes_of 32 y.id.0) h).1, (parts y h same).1)

  same_entry : (k l : ℕ) (a b : List ℕ) → k ≡ l → a ≡ b → (let e : InvEntry = record { kind = k; id = record { 0 = a } } in let f : InvEntry = record { kind = l; id = record { 0 = b } } in e ≡ f)
  same_entry k l a b e f = cc

  -- where the digits of the id are these
  pub id_failed : (digits : List ℕ) (e : ShownFault) → digits ≡ drop (end + 1) word → IsOnly (are_bytes_of 32) (λ bytes. digits ≡ encode_lower bytes) (Err e) → IsOnly is_entry (λ y. word ≡ entry_word y) (Err e)
  id_failed digits e is none =
      failed (are_bytes_of 32) (λ bytes. digits ≡ encode_lower bytes) is_entry (λ y. word ≡ entry_word y) e
      (λ y h same. let id = id_part y h same in (id.0, id.1, is ∙ id.2)) none

  pub entry_only : (k : ℕ) (id : List ℕ) → Only (λ n. nat_lt n (2 ^ 32)) (λ n. take end word ≡ decimal n) k → (digits : List ℕ) → digits ≡ drop (end + 1) word → Only (are_bytes_of 32) (λ bytes. digits ≡ encode_lower bytes) id
      → Only is_entry (λ y. word ≡ entry_word y) (record { kind = k; id = record { 0 = id } })
  unfolding kind_part id_part
  entry_only k id kinds digits is ids = (
    and_from (nat_lt k (2 ^ 32)) (are_bytes_of 32 id) kinds.0 ids.0,
    λ y h same. let kind = kind_part y h same in let part = id_part y h same in same_entry y.kind k y.id.0 id (kinds.1 y.kind kind.1 kind.2) (ids.1 y.id.0 part.1 (is ∙ part.2)),
  )
