-- Decimal numbers that were written, read again.
use Rattle.std.proofs.Common.{◌≡◌, ℕ, ◌+◌, ◌-◌, ◌*◌, ◌^◌, ◌<◌, ◌≤◌, nat_le, true, List, [], ◌∷◌, Some, refl, ap, ◌∙◌, arith, le-leb}
use Rattle.std.specs.Prelude.{bytes_eq, option_and_then}
use Rattle.std.specs.Char.{digit_value}
use Rattle.std.specs.Cmp.Lexicographic.{bytes_decides}
use Rattle.std.specs.Fmt.{decimal}
use Rattle.std.specs.List.{All}
use Rattle.std.specs.Str.Parse.{AllDigits, digits_value_after}
use Rattle.std.proofs.lemmas.Bool.{and_from}
use Rattle.std.proofs.lemmas.Fmt.{decimal_is_IsNumeral}
use Rattle.std.proofs.lemmas.List.Elements.{All-nil, All-cons}
use Rattle.std.proofs.lemmas.Str.{digit_value_digit}
use Rattle.std.proofs.lemmas.Str.Parse.{digit_from_value}
use Rattle.line_rules.specs.Numbers.{bounded, digits_onto, is_digit, number_of, number_within}
use Rattle.line_rules.proofs.Lines.{IsPlain}

-- the number of digits is the one that std reads
digits_onto-value : (n : ℕ) (ds : List ℕ) → AllDigits 10 ds → digits_onto n ds ≡ Some (digits_value_after 10 n ds)
unfolding digits_onto
digits_onto-value n [] d = refl
digits_onto-value n (c ∷ cs) d =
    let range = digit_from_value c d.0 in
    let digit : is_digit c ≡ true = and_from (nat_le 48 c) (nat_le c 57) (le-leb 48 c (omega arith)) (le-leb c 57 (omega arith)) in
    let value : n * 10 + (c - 48) ≡ n * 10 + digit_value c = omega (arith, digit_value_digit c range) in
    rw digit (ap (λ m. digits_onto m cs) value ∙ digits_onto-value (n * 10 + digit_value c) cs d.1)

pub number_of-decimal : (n : ℕ) → n < 2 ^ 64 → number_of (decimal n) ≡ Some n
number_of-decimal n small =
    let written = decimal_is_IsNumeral n small in digits_onto-value 0 (decimal n) written.0.1 ∙ ap Some written.1

-- a number within these bounds is read as it is written
pub number_within-decimal : (low high n : ℕ) → low ≤ n → n ≤ high → n < 2 ^ 64 → number_within low high (decimal n) ≡ Some n
number_within-decimal low high n above below small =
    let same : bytes_eq (decimal n) (decimal n) ≡ true = (bytes_decides (decimal n) (decimal n)).1 refl in
    ap (option_and_then (bounded low high (decimal n))) (number_of-decimal n small) ∙ (rw (le-leb low n above, le-leb n high below, same) refl)

-- decimal digits are neither LF nor CR
digits_plain : (ds : List ℕ) → AllDigits 10 ds → All IsPlain ds
digits_plain [] d = All-nil IsPlain
digits_plain (c ∷ cs) d =
    let range = digit_from_value c d.0 in
    All-cons IsPlain c cs ((λ e. omega arith), (λ e. omega arith)) (digits_plain cs d.1)

pub decimal-plain : (n : ℕ) → n < 2 ^ 64 → All IsPlain (decimal n)
decimal-plain n small = digits_plain (decimal n) (decimal_is_IsNumeral n small).0.1
