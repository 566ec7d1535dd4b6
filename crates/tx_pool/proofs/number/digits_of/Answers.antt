use Rattle.std.proofs.Common.{◌≡◌, ◌+◌, ◌-◌, ◌*◌, ◌≤◌, length, drop, get_or, true, false, [], Some, None, sym, ap, ◌∙◌, arith}
use Rattle.std.proofs.Math.ListN.{drop_of_length-le}
use Rattle.line_rules.specs.Numbers.{digits_onto, is_digit}
use Rattle.tx_pool.proofs.Numbers.{digits_onto-digit, digits_onto-other, digits_onto-least}
use Rattle.tx_pool.proofs.number.digits_of.Goals as goal

pub returns-then-not-is_ascii_digit : goal.returns-then-not-is_ascii_digit
returns-then-not-is_ascii_digit c n is =
    let word = c.args.word.now in
    let i = c.loop-digit.digit-index in
    let other : is_digit (get_or word i 0) ≡ false = sym c.is_ascii_digit.ensures.value ∙ c.if-not-is_ascii_digit.true in
    let none : None ≡ Some n = sym (c.loop-digit.invariant.same ∙ digits_onto-other word i c.loop-digit-test.true c.loop-digit.number other) ∙ is in
    absurd (cc)

pub returns-then-high-number : goal.returns-then-high-number
returns-then-high-number c n is =
    let word = c.args.word.now in
    let i = c.loop-digit.digit-index in
    let digit : is_digit (get_or word i 0) ≡ true = sym c.is_ascii_digit.ensures.value ∙ c.if-not-is_ascii_digit.false in
    let more = c.loop-digit.invariant.same ∙ digits_onto-digit word i c.loop-digit-test.true c.loop-digit.number digit in
    let least = digits_onto-least (drop (i + 1) word) (c.loop-digit.number * 10 + (get_or word i 0 - 48)) n (sym more ∙ is) in
    omega (arith, least, c.if-high-number.true)

pub loop-digit-preserved : goal.loop-digit-preserved
loop-digit-preserved c =
    let word = c.args.word.now in
    let i = c.loop-digit.digit-index in
    let digit : is_digit (get_or word i 0) ≡ true = sym c.is_ascii_digit.ensures.value ∙ c.if-not-is_ascii_digit.false in
    record {
      same = c.loop-digit.invariant.same ∙ digits_onto-digit word i c.loop-digit-test.true c.loop-digit.number digit;
      small = omega (arith, c.if-high-number.false);
    }

pub returns : goal.returns
unfolding digits_onto
returns c =
    let word = c.args.word.now in
    let past : length word ≤ c.loop-digit.digit-index = omega arith in
    let none : drop c.loop-digit.digit-index word ≡ [] = drop_of_length-le word {i = c.loop-digit.digit-index} past in
    (c.loop-digit.invariant.small, c.loop-digit.invariant.same ∙ ap (digits_onto c.loop-digit.number) none)
