-- Facts on the decimal texts of numbers.
use Rattle.std.proofs.Common.{◌≡◌, ◌≢◌, ◌∙◌, sym, ap, ℕ, zero, suc, ◌^◌, ◌<◌, List, [], ◌∷◌, get_or, Result, Ok, Err, MatchOption, arith}
use Rattle.std.specs.Fmt.{decimal}
use Rattle.std.specs.Result.{result_ok}
use Rattle.std.specs.Str.Parse.{ParsesUnsigned, AllDigits, digits_value}
use Rattle.std.proofs.lemmas.Fmt.{decimal_digit, first_decimal, decimal-digits_value, parse-decimal}
use Rattle.std.proofs.lemmas.Str.Parse.{IsNumeralModel, numerals_by_value, tells_digits, parse_plain}

-- the texts of decimal digits, and their values
own : IsNumeralModel (AllDigits 10) (digits_value 10)
own = numerals_by_value _ tells_digits

-- the text of 0
pub decimal_zero : decimal 0 ≡ 48 ∷ []
decimal_zero = decimal_digit 0 (omega arith)

-- the text of another number begins with a digit from 1 to 9
pub decimal_start : (bs : List ℕ) (n : ℕ) → n < 2 ^ 64 → bs ≡ decimal n → bs ≢ 48 ∷ [] → 48 < get_or bs 0 0
decimal_start bs zero small spelled other = absurd (other (spelled ∙ decimal_zero))
decimal_start bs (suc n) small spelled other = rw spelled (first_decimal (suc n) (omega arith) small)

-- what is read of a text that begins with neither a sign nor a zero
pub parsed_decimal : {E : Type 0} (bs : List ℕ) (r : Result ℕ E) → ParsesUnsigned 64 10 bs r → get_or bs 0 0 ≢ 43 → get_or bs 0 0 ≢ 48
    → MatchOption (result_ok r) ((n : ℕ) → n < 2 ^ 64 → bs ≢ decimal n) (λ n. bs ≡ decimal n)
parsed_decimal {E} bs (Ok n) p no_plus no_zero =
    let read = parse_plain own {E = E} 64 bs (Ok n) p no_plus in
    sym (ap decimal read.1 ∙ decimal-digits_value own bs read.0.0 read.0.1 (λ same. absurd (no_zero same)) read.0.2)
parsed_decimal {E} bs (Err e) p no_plus no_zero = λ n small spelled.
    let read = parse-decimal {E = E} 64 n bs (Err e) small small spelled p in
    cc read
