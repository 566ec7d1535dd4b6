-- A set that was written, read again.
use Rattle.std.proofs.Common.{◌≡◌, ◌≢◌, ℕ, zero, suc, ◌+◌, ◌==◌, ◌^◌, ◌<◌, false, List, [], ◌∷◌, ◌++◌, length, get_or, if◌then◌else◌, Ok, Err, refl, sym, ap, ◌∙◌, arith, append_assoc, lit<}
use Rattle.std.specs.Int.{to_be_bytes, w32}
use Rattle.std.specs.List.{All, list_any}
use Rattle.std.proofs.lemmas.Bool.{eq-eqb, ne_eqb}
use Rattle.std.proofs.lemmas.List.{append-nil}
use Rattle.std.proofs.lemmas.List.Elements.{All-head, All-tail}
use Rattle.std.proofs.lemmas.List.Folds.{list_any-append}
use Rattle.std.proofs.lemmas.Nat.{from_be_bytes-to_be_bytes_4}
use Rattle.hex.specs.Hex.{IsBytes, decode_of, lower_digits}
use Rattle.hex.proofs.HexLemmas.{decode_of-encode_lower, length-encode_with}
use Rattle.base_types.specs.declared.text.Kind.TheVariants as kind
use Rattle.field_rules.specs.Lists.{AreDistinct}
use Rattle.line_rules.specs.Digits.{eight_digits}
use Rattle.line_rules.specs.Lines.{lines, numbered_lines}
use Rattle.line_rules.specs.Reading.{after_line, line_fold}
use Rattle.line_rules.proofs.Lines.{digits_plain, lines-line, numbered_lines-line}
use Rattle.sketch_text_rules.specs.Elements.{IsSet, element_of, nonzero_element, with_element, set_in, set_text, element_of_bytes}

-- the bytes of an element are bytes
IsBytes-be_bytes : (e : ℕ) → IsBytes (to_be_bytes w32 e)
IsBytes-be_bytes e zero = omega arith
IsBytes-be_bytes e (suc zero) = omega arith
IsBytes-be_bytes e (suc (suc zero)) = omega arith
IsBytes-be_bytes e (suc (suc (suc zero))) = omega arith
IsBytes-be_bytes e (suc (suc (suc (suc i)))) = lit< tt

-- 8 digits
length-eight_digits : (e : ℕ) → length (eight_digits e) ≡ 8
length-eight_digits e = length-encode_with lower_digits (to_be_bytes w32 e)

-- the line of an element spells it
element_of-eight_digits : (e : ℕ) → 0 < e → e < 2 ^ 32 → element_of (eight_digits e) ≡ Ok e
element_of-eight_digits e some small =
    let there : e ≢ 0 = λ none. omega arith in
    let decoded = decode_of-encode_lower (to_be_bytes w32 e) (IsBytes-be_bytes e) in
    ap (λ eight. if eight then element_of_bytes (decode_of (eight_digits e)) else Err kind.DigitCount) (eq-eqb (length (eight_digits e)) 8 (length-eight_digits e))
    ∙ ap element_of_bytes decoded
    ∙ ap nonzero_element (from_be_bytes-to_be_bytes_4 e small)
    ∙ ap (λ zero. if zero then Err kind.Zero else Ok e) (ne_eqb e 0 there)

-- an element that wasn't there
with_element-new : (s : List ℕ) (e : ℕ) → list_any (λ d. d == e) s ≡ false → with_element s (Ok e) ≡ Ok (s ++ e ∷ [])
with_element-new s e fresh = rw fresh refl

-- it isn't one that comes later
still_new : (s : List ℕ) (e : ℕ) (es : List ℕ) → AreDistinct (e ∷ es) → All (λ x. list_any (λ d. d == x) s ≡ false) (e ∷ es)
    → All (λ x. list_any (λ d. d == x) (s ++ e ∷ []) ≡ false) es
still_new s e es differ fresh k d within =
    let x = get_or es k d in
    let other : e ≢ x = differ 0 (suc k) d (omega arith) (omega arith) in
    list_any-append (λ y. y == x) s (e ∷ []) ∙ (rw (fresh (suc k) d (omega arith), ne_eqb e x other) refl)

-- the lines of elements are read behind others
read-elements : (es s : List ℕ) (n : ℕ) → All (λ e. (0 < e) × (e < 2 ^ 32)) es → AreDistinct es → All (λ e. list_any (λ d. d == e) s ≡ false) es
    → line_fold (λ ds bytes. with_element ds (element_of bytes)) s (numbered_lines n (lines (set_text es))) ≡ Ok (s ++ es)
unfolding line_fold lines numbered_lines
read-elements [] s n within differ fresh = ap Ok (sym (append-nil s))
read-elements (e ∷ es) s n within differ fresh =
    let here = All-head (λ e. (0 < e) × (e < 2 ^ 32)) e es within in
    let cut = lines-line (eight_digits e) (set_text es) (digits_plain (to_be_bytes w32 e) (IsBytes-be_bytes e)) in
    let first = numbered_lines-line n (eight_digits e) (lines (set_text es)) (omega (arith, length-eight_digits e)) in
    let spells = element_of-eight_digits e here.0 here.1 in
    let placed = with_element-new s e (fresh 0 e (omega arith)) in
    ap (λ ls. line_fold (λ ds bytes. with_element ds (element_of bytes)) s (numbered_lines n ls)) cut
    ∙ ap (line_fold (λ ds bytes. with_element ds (element_of bytes)) s) first
    ∙ ap (λ r. after_line (record { number = n; bytes = eight_digits e }) (with_element s r) (λ more. line_fold (λ ds bytes. with_element ds (element_of bytes)) more (numbered_lines (n + 1) (lines (set_text es))))) spells
    ∙ ap (λ r. after_line (record { number = n; bytes = eight_digits e }) r (λ more. line_fold (λ ds bytes. with_element ds (element_of bytes)) more (numbered_lines (n + 1) (lines (set_text es))))) placed
    ∙ read-elements es (s ++ e ∷ []) (n + 1) (All-tail (λ e. (0 < e) × (e < 2 ^ 32)) e es within) (λ i j d below in_es. differ (suc i) (suc j) d (omega arith) (omega arith)) (still_new s e es differ fresh)
    ∙ ap Ok (append_assoc s (e ∷ []) es)

-- the text of a set is read as the set
pub set_in-text : (es : List ℕ) → IsSet es → set_in (set_text es) ≡ Ok es
set_in-text es set = read-elements es [] 1 set.0 set.1 (λ k d inside. refl)
