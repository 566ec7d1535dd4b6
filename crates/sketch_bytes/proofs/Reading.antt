-- What bytes and lines are read as.
use Rattle.std.proofs.Common.{◌≡◌, ◌⊎◌, inl, inr, ℕ, zero, suc, ◌+◌, ◌*◌, ◌%◌, ◌^◌, ◌<◌, ◌≤◌, false, List, [], ◌∷◌, ◌++◌, length, take, drop, get_or, slice_index, map, Result, Ok, Err, refl, sym, ap, subst, ◌∙◌, lit<, arith, append_assoc, append-nil}
use Rattle.std.specs.Int.{from_le_bytes, w32}
use Rattle.std.specs.List.{All, AllPass}
use Rattle.std.proofs.Math.Seq.{drop-cons}
use Rattle.std.proofs.Math.ListN.{drop_of_length-le}
use Rattle.std.proofs.lemmas.List.{map-append}
use Rattle.std.proofs.lemmas.Bool.{eq-eqb, ne_eqb, le-ltb, lt-ltb}
use Rattle.hex.specs.Hex.{IsBytes, decode_of, encode_upper, is_hex_digit}
use Rattle.hex.specs.declared.error.FromHexError.{FromHexError}
use Rattle.hex.specs.declared.error.FromHexError.TheVariants as hex_error
use Rattle.hex.proofs.HexLemmas.{decode_of-err, decode_of-encode_lower, decode_of-encode_upper}
use Rattle.sketch_rules.specs.Sketches.{IsCapacity, bytes_of, digits_of, sums_in}
use Rattle.sketch_rules.specs.declared.limits.TheConstants.{MAX_SKETCH_BYTES}
use Rattle.sketch_laws.proofs.Bytes.{sums_in-bytes_of, length-bytes_of, length-sums_in}
use Rattle.sketch_bytes.specs.Reading.{IsOutcome, sums_of_bytes, sums_of_line, sums_of_digits, line_result}
use Rattle.sketch_bytes.specs.declared.fault.BytesFault.{BytesFault}
use Rattle.sketch_bytes.specs.declared.fault.BytesFault.TheVariants as bytes_fault
use Rattle.sketch_bytes.specs.declared.fault.LineFault.{LineFault}
use Rattle.sketch_bytes.specs.declared.fault.LineFault.TheVariants as line_fault

-- ---- bytes

pub read-ragged : (bytes : List ℕ) → ¬ (length bytes % 4 ≡ 0) → sums_of_bytes bytes ≡ Err (bytes_fault.RaggedLength (length bytes))
read-ragged bytes ragged =
    let some : ¬ (length bytes ≡ 0) = λ e. ragged (ap (λ n. n % 4) e) in
    rw (ne_eqb (length bytes) 0 some, ne_eqb (length bytes % 4) 0 ragged) refl

pub read-wide : (bytes : List ℕ) → length bytes % 4 ≡ 0 → MAX_SKETCH_BYTES < length bytes → sums_of_bytes bytes ≡ Err (bytes_fault.TooWide (length bytes))
read-wide bytes whole wide =
    let some : ¬ (length bytes ≡ 0) = λ e. absurd (omega arith) in
    rw (ne_eqb (length bytes) 0 some, eq-eqb (length bytes % 4) 0 whole, lt-ltb MAX_SKETCH_BYTES (length bytes) wide) refl

pub read-sums : (bytes : List ℕ) → ¬ (length bytes ≡ 0) → length bytes % 4 ≡ 0 → length bytes ≤ MAX_SKETCH_BYTES → sums_of_bytes bytes ≡ Ok (sums_in bytes)
read-sums bytes some whole fits = rw (ne_eqb (length bytes) 0 some, eq-eqb (length bytes % 4) 0 whole, le-ltb MAX_SKETCH_BYTES (length bytes) fits) refl

-- the bytes of a sketch are read as its sums
pub read-bytes_of : (sums : List ℕ) → IsCapacity (length sums) → All (λ s. s < 2 ^ 32) sums → sums_of_bytes (bytes_of sums) ≡ Ok sums
read-bytes_of sums capacity small =
    let long = length-bytes_of sums in
    let low = capacity.0 in
    let high = capacity.1 in
    let some : ¬ (length (bytes_of sums) ≡ 0) = λ e. absurd (omega arith) in
    read-sums (bytes_of sums) some (omega arith) (omega arith) ∙ ap Ok (sums_in-bytes_of sums small)

-- how many sums bytes spell
pub capacity_of : {A : Type 0} (f : A → ℕ) (items : List A) (bytes : List ℕ) → map f items ≡ sums_in bytes → ¬ (length bytes ≡ 0) → length bytes % 4 ≡ 0 → length bytes ≤ MAX_SKETCH_BYTES → IsCapacity (length items)
capacity_of f items bytes is some whole fits =
    let long = length-sums_in bytes whole in
    let same : length items ≡ length (sums_in bytes) = sym (mapped f items) ∙ ap length is in
    let some_items : 1 ≤ length items = positive (length items) (λ e. some (omega arith)) in
    (some_items, omega arith)
  where
    positive : (n : ℕ) → ¬ (n ≡ 0) → 1 ≤ n
    positive zero h = absurd (h refl)
    positive (suc n) h = omega arith

    mapped : {A : Type 0} (f : A → ℕ) (items : List A) → length (map f items) ≡ length items
    mapped f [] = refl
    mapped f (x ∷ xs) = ap suc (mapped f xs)

-- four more bytes
four_more : (bytes : List ℕ) (j : ℕ) → j + 3 < length bytes → drop j bytes ≡ get_or bytes j 0 ∷ get_or bytes (j + 1) 0 ∷ get_or bytes (j + 2) 0 ∷ get_or bytes (j + 3) 0 ∷ drop (j + 4) bytes
four_more bytes j inside =
    let e1 : j + 1 ≡ suc j = omega arith in
    let e2 : j + 2 ≡ suc (suc j) = omega arith in
    let e3 : j + 3 ≡ suc (suc (suc j)) = omega arith in
    let e4 : j + 4 ≡ suc (suc (suc (suc j))) = omega arith in
    let d0 = drop-cons bytes j 0 (omega arith) in
    let d1 = drop-cons bytes (suc j) 0 (omega arith) in
    let d2 = drop-cons bytes (suc (suc j)) 0 (omega arith) in
    let d3 = drop-cons bytes (suc (suc (suc j))) 0 (omega arith) in
    rw (e1, e2, e3, e4, d0, d1, d2, d3) refl

-- the sum of the next four bytes
pub sums_in-more : (i : ℕ) (bytes : List ℕ) → 4 * i + 3 < length bytes
    → sums_in (drop (4 * i) bytes) ≡ from_le_bytes w32 (slice_index bytes (4 * i) ∷ slice_index bytes (4 * i + 1) ∷ slice_index bytes (4 * i + 2) ∷ slice_index bytes (4 * i + 3) ∷ []) ∷ sums_in (drop (4 * (i + 1)) bytes)
unfolding sums_in
sums_in-more i bytes inside = let e : 4 * (i + 1) ≡ 4 * i + 4 = omega arith in rw e (ap sums_in (four_more bytes (4 * i) inside))

-- the bytes of sums are bytes
pub IsBytes-bytes_of : (sums : List ℕ) → IsBytes (bytes_of sums)
IsBytes-bytes_of [] i = lit< tt
IsBytes-bytes_of (s ∷ rest) zero = omega arith
IsBytes-bytes_of (s ∷ rest) (suc zero) = omega arith
IsBytes-bytes_of (s ∷ rest) (suc (suc zero)) = omega arith
IsBytes-bytes_of (s ∷ rest) (suc (suc (suc zero))) = omega arith
IsBytes-bytes_of (s ∷ rest) (suc (suc (suc (suc i)))) = IsBytes-bytes_of rest i

-- ---- lines

-- the line of a sketch, in digits of one case, is read as its sums
pub read-line_of : (line sums : List ℕ) → IsCapacity (length sums) → All (λ s. s < 2 ^ 32) sums → (line ≡ digits_of sums) ⊎ (line ≡ encode_upper (bytes_of sums)) → sums_of_line line ≡ Ok sums
read-line_of line sums capacity small spelled = ap sums_of_digits (back spelled) ∙ ap line_result (read-bytes_of sums capacity small)
  where
    back : (line ≡ digits_of sums) ⊎ (line ≡ encode_upper (bytes_of sums)) → decode_of line ≡ Ok (bytes_of sums)
    back (inl e) = ap decode_of e ∙ decode_of-encode_lower (bytes_of sums) (IsBytes-bytes_of sums)
    back (inr e) = ap decode_of e ∙ decode_of-encode_upper (bytes_of sums) (IsBytes-bytes_of sums)

-- the offset of a bad digit
abbrev offset_of : Result (List ℕ) LineFault → ℕ
offset_of (Err (line_fault.BadDigit offset)) = offset
offset_of _ = 0

-- the bytes of a line have no bad digit
no_bad_digit : (r : Result (List ℕ) BytesFault) (offset : ℕ) → line_result r ≡ Err (line_fault.BadDigit offset) → ⊥
no_bad_digit (Ok sums) offset e = cc e
no_bad_digit (Err fault) offset e = cc e

-- a line that is refused for a bad digit has its first one there
pub read-bad_digit : (line : List ℕ) (offset : ℕ) → sums_of_line line ≡ Err (line_fault.BadDigit offset)
    → (offset < length line) × (is_hex_digit (slice_index line offset) ≡ false) × AllPass is_hex_digit (take offset line)
read-bad_digit line offset e = at (decode_of line) refl e
  where
    first : (refused : FromHexError) → sums_of_digits (Err refused) ≡ Err (line_fault.BadDigit offset)
        → ((length line % 2 ≡ 1) × (refused ≡ hex_error.OddLength))
        ⊎ ((k : ℕ) × (refused ≡ hex_error.InvalidHexCharacter (slice_index line k) (0 + k)) × (k < length line) × (is_hex_digit (slice_index line k) ≡ false) × AllPass is_hex_digit (take k line))
        → (offset < length line) × (is_hex_digit (slice_index line offset) ≡ false) × AllPass is_hex_digit (take offset line)
    first refused e (inl odd) = cc (sym (ap (λ x. sums_of_digits (Err x)) odd.1) ∙ e)
    first refused e (inr r) =
        let there : 0 + r.0 ≡ offset = ap offset_of (sym (ap (λ x. sums_of_digits (Err x)) r.1) ∙ e) in
        let same : offset ≡ r.0 = omega arith in
        rw same (r.2, r.3, r.4)

    at : (r : Result (List ℕ) FromHexError) → decode_of line ≡ r → sums_of_digits r ≡ Err (line_fault.BadDigit offset)
        → (offset < length line) × (is_hex_digit (slice_index line offset) ≡ false) × AllPass is_hex_digit (take offset line)
    at (Ok bytes) d e = absurd (no_bad_digit (sums_of_bytes bytes) offset e)
    at (Err refused) d e = first refused e (decode_of-err line refused d)

-- ---- the loop that takes sums

module _ {A : Type 0} (f : A → ℕ) where
  -- the sum of the next four bytes is taken
  pub taken_more : (i : ℕ) (bytes : List ℕ) (old new : List A) (e : A) (word : ℕ) → 4 * i + 3 < length bytes → new ≡ old ++ e ∷ [] → f e ≡ word
      → word ≡ from_le_bytes w32 (slice_index bytes (4 * i) ∷ slice_index bytes (4 * i + 1) ∷ slice_index bytes (4 * i + 2) ∷ slice_index bytes (4 * i + 3) ∷ [])
      → map f old ++ sums_in (drop (4 * i) bytes) ≡ sums_in bytes → map f new ++ sums_in (drop (4 * (i + 1)) bytes) ≡ sums_in bytes
  taken_more i bytes old new e word inside more bits is before =
      ap (λ xs. map f xs ++ sums_in (drop (4 * (i + 1)) bytes)) more
      ∙ ap (λ xs. xs ++ sums_in (drop (4 * (i + 1)) bytes)) (map-append f old (e ∷ []))
      ∙ append_assoc (map f old) (f e ∷ []) (sums_in (drop (4 * (i + 1)) bytes))
      ∙ ap (λ w. map f old ++ w ∷ sums_in (drop (4 * (i + 1)) bytes)) (bits ∙ is)
      ∙ ap (λ xs. map f old ++ xs) (sym (sums_in-more i bytes inside))
      ∙ before

  -- no byte is left
  pub taken_all : (i : ℕ) (bytes : List ℕ) (items : List A) → length bytes ≤ i → map f items ++ sums_in (drop i bytes) ≡ sums_in bytes → map f items ≡ sums_in bytes
  unfolding sums_in
  taken_all i bytes items past e =
      let empty : drop i bytes ≡ [] = drop_of_length-le bytes {i = i} past in
      sym (append-nil (map f items)) ∙ ap (λ xs. map f items ++ sums_in xs) (sym empty) ∙ e

-- ---- what a call gives

-- of a call that gives what was read, where that is sums
pub gives_sums : {S E : Type 0} (view : S → List ℕ) (want : E) (read : Result (List ℕ) E) (sums : List ℕ) (result : Result S E) → read ≡ Ok sums → IsOutcome view want read result → IsOutcome view want (Ok sums) result
gives_sums view want read sums result e h = subst (λ r. IsOutcome view want r result) e h

-- the fault of a result
abbrev fault_of : {S : Type 0} → Result S LineFault → LineFault
fault_of (Ok s) = line_fault.OddDigits
fault_of (Err fault) = fault

-- of a call that gives what a line is read as, where it answers a bad digit
pub gives_bad_digit : {S : Type 0} (view : S → List ℕ) (line : List ℕ) (result : Result S LineFault) (offset : ℕ) → IsOutcome view (line_fault.Bytes bytes_fault.OutOfMemory) (sums_of_line line) result → result ≡ Err (line_fault.BadDigit offset)
    → (offset < length line) × (is_hex_digit (slice_index line offset) ≡ false) × AllPass is_hex_digit (take offset line)
gives_bad_digit view line (Ok s) offset h is = cc is
gives_bad_digit view line (Err fault) offset (inl want) is = cc (want, is)
gives_bad_digit view line (Err fault) offset (inr read) is = read-bad_digit line offset (read ∙ ap Err (ap fault_of is))
