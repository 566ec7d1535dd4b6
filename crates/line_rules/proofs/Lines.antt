-- Texts as lines, cut again.
use Rattle.std.proofs.Common.{◌≡◌, ◌≢◌, ℕ, ◌+◌, ◌<◌, List, [], ◌∷◌, ◌++◌, ◌==◌, ◌&&◌, not, length, true, refl, sym, ap, subst, ◌∙◌, arith}
use Rattle.std.specs.List.{All, list_all}
use Rattle.std.proofs.lemmas.Bool.{and_parts, eqb-false, ne_eqb, not-true}
use Rattle.std.proofs.lemmas.List.{append-nil}
use Rattle.std.proofs.lemmas.List.Elements.{All-cons, All-head, All-nil, All-tail}
use Rattle.hex.specs.Hex.{IsBytes, encode_lower, is_hex_digit}
use Rattle.hex.proofs.HexLemmas.{decode_of-encode_lower, decode_of-ok}
use Rattle.line_rules.specs.Lines.{line, lines, lines_of, numbered_lines}

-- neither LF nor CR
abbrev pub IsPlain : ℕ → Type 0
IsPlain b = (b ≢ 10) × (b ≢ 13)

-- a text of which each byte is tested to be so
pub plain_since-tested : (text : List ℕ) → list_all (λ b. not (b == 10) && not (b == 13)) text ≡ true → All IsPlain text
plain_since-tested [] h = All-nil IsPlain
plain_since-tested (b ∷ rest) h =
    let parts = and_parts (not (b == 10) && not (b == 13)) (list_all (λ c. not (c == 10) && not (c == 13)) rest) h in
    let both = and_parts (not (b == 10)) (not (b == 13)) parts.0 in
    All-cons IsPlain b rest (eqb-false b 10 (not-true (b == 10) both.0), eqb-false b 13 (not-true (b == 13) both.1)) (plain_since-tested rest parts.1)

-- a digit is neither
digit_plain : (b : ℕ) → is_hex_digit b ≡ true → IsPlain b
digit_plain b digit = (
  λ e. (let bad : is_hex_digit 10 ≡ true = subst (λ (x : ℕ). is_hex_digit x ≡ true) e digit in cc bad),
  λ e. (let bad : is_hex_digit 13 ≡ true = subst (λ (x : ℕ). is_hex_digit x ≡ true) e digit in cc bad),
)

pub digits_plain : (bytes : List ℕ) → IsBytes bytes → All IsPlain (encode_lower bytes)
digits_plain bytes small k d within =
    let digits = decode_of-ok (encode_lower bytes) bytes (decode_of-encode_lower bytes small) in digit_plain _ (digits.1 k d within)

-- a line of plain bytes is the first line
pub lines-line : (text rest : List ℕ) → All IsPlain text → lines (line text ++ rest) ≡ text ∷ lines rest
unfolding lines
lines-line [] rest plain = refl
lines-line (b ∷ text) rest plain =
    let first = All-head IsPlain b text plain in
    rw (ne_eqb b 10 first.0, ne_eqb b 13 first.1, lines-line text rest (All-tail IsPlain b text plain)) refl

-- a line that isn't empty has a number
pub numbered_lines-line : (n : ℕ) (text : List ℕ) (ls : List (List ℕ)) → 0 < length text → numbered_lines n (text ∷ ls) ≡ record { number = n; bytes = text } ∷ numbered_lines (n + 1) ls
unfolding numbered_lines
numbered_lines-line n [] ls some = absurd (omega arith)
numbered_lines-line n (b ∷ text) ls some = refl

-- one such line is all lines
pub lines_of-line : (text : List ℕ) → All IsPlain text → 0 < length text → lines_of (line text) ≡ record { number = 1; bytes = text } ∷ []
unfolding lines numbered_lines
lines_of-line text plain some =
    ap (numbered_lines 1) (ap lines (sym (append-nil (line text))) ∙ lines-line text [] plain) ∙ numbered_lines-line 1 text [] some

-- and so are two
pub lines_of-two : (first second : List ℕ) → All IsPlain first → All IsPlain second → 0 < length first → 0 < length second
    → lines_of (line first ++ line second) ≡ record { number = 1; bytes = first } ∷ record { number = 2; bytes = second } ∷ []
unfolding lines numbered_lines
lines_of-two first second first_plain second_plain first_some second_some =
    ap (numbered_lines 1) (lines-line first (line second) first_plain ∙ ap (λ ls. first ∷ ls) (ap lines (sym (append-nil (line second))) ∙ lines-line second [] second_plain))
    ∙ numbered_lines-line 1 first (second ∷ []) first_some
    ∙ ap (λ ls. record { number = 1; bytes = first } ∷ ls) (numbered_lines-line 2 second [] second_some)
