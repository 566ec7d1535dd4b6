-- Worked examples, computed from the definitions alone.
use Rattle.std.proofs.Common.{◌≡◌, [], ◌∷◌, ◌++◌, Ok, Err, refl, ap, ◌∙◌, lit<, lit≤}
use Rattle.std.specs.Prelude.{codes, Some, None}
use Rattle.hex.specs.Hex.{decode_pairs, encode_with}
use Rattle.base_types.specs.declared.text.Kind.TheVariants as kind
use Rattle.field_rules.specs.Ops.{power}
use Rattle.field_rules.specs.Elements.{carryless_product, product, remainder}
use Rattle.field_rules.specs.Lists.{sums_of_both}
use Rattle.sketch_rules.specs.PowerSums.{power_sum, odd_power_sums}
use Rattle.sketch_rules.specs.Sketches.{sums_in}
use Rattle.sketch_rules.specs.Answers.{IsAscending, answer_of}
use Rattle.sketch_laws.proofs.Unique.{answer_at-is}
use Rattle.clmul_lanes.specs.Lane32.{bits_of, field, numbered as gf_numbered, ops, ring}
use Rattle.line_rules.specs.Lines.{line, lines, numbered_lines}
use Rattle.command_words.specs.declared.command.Command.TheVariants as command
use Rattle.text_commands.specs.declared.status.Status.TheVariants as status
use Rattle.text_commands.specs.SketchLines.{sketch_in, sum_in}
use Rattle.text_commands.specs.Answers.{decode_answer, set_answer, answer_within_limit}

-- the sketches of 1, 2 and of 2
sum : sum_in (line (codes "0300000009000000") ++ line (codes "0200000008000000")) ≡ Ok (1 ∷ 1 ∷ [])
unfolding lines numbered_lines decode_pairs sums_in sums_of_both
sum = refl

differ : sum_in (line (codes "010000000100000001000000") ++ line (codes "0300000009000000")) ≡ Err (record { place = 2; kind = kind.LengthsDiffer })
unfolding lines numbered_lines decode_pairs sums_in sums_of_both
differ = refl

ragged : sum_in (line (codes "03000000") ++ line (codes "030000000900")) ≡ Err (record { place = 2; kind = kind.RaggedLength 6 })
unfolding lines numbered_lines decode_pairs sums_in sums_of_both
ragged = refl

-- one CR is a line
lone : sum_in (13 ∷ []) ≡ Err (record { place = 1; kind = kind.LineCount })
unfolding lines numbered_lines
lone = refl

-- the count of lines is judged before the lines
counted : sum_in (line (codes "x")) ≡ Err (record { place = 1; kind = kind.LineCount })
unfolding lines numbered_lines
counted = refl

-- ---- decode

two_sums : sketch_in (line (codes "0300000009000000")) ≡ Ok (3 ∷ 9 ∷ [])
unfolding lines numbered_lines decode_pairs sums_in
two_sums = refl

odd : sketch_in (line (codes "0300000")) ≡ Err (record { place = 1; kind = kind.OddDigits })
unfolding lines numbered_lines decode_pairs
odd = refl

-- CR before LF is no digit, and an empty line counts
no_digit : sketch_in (line [] ++ codes "0300x0" ++ 13 ∷ 10 ∷ []) ≡ Err (record { place = 2; kind = kind.BadDigit })
unfolding lines numbered_lines decode_pairs
no_digit = refl

ragged_line : sketch_in (codes "030000000900") ≡ Err (record { place = 1; kind = kind.RaggedLength 6 })
unfolding lines numbered_lines decode_pairs
ragged_line = refl

no_line : sketch_in [] ≡ Err (record { place = 0; kind = kind.LineCount })
unfolding lines numbered_lines
no_line = refl

two_lines : sketch_in (line (codes "x") ++ line (codes "03000000")) ≡ Err (record { place = 2; kind = kind.LineCount })
unfolding lines numbered_lines
two_lines = refl

-- 1 and 2 have this sketch, and so no other set has
answer : answer_of (3 ∷ 9 ∷ []) ≡ Some (1 ∷ 2 ∷ [])
unfolding product remainder carryless_product power power_sum odd_power_sums IsAscending
answer = answer_at-is ops bits_of 32 ring field gf_numbered (3 ∷ 9 ∷ []) (1 ∷ 2 ∷ []) (record { rises = (lit≤ tt, lit< tt, (lit≤ tt, lit< tt, tt)); few = lit≤ tt; sketched = refl })

written : answer_within_limit command.Decode (line (codes "0300000009000000")) ≡ record { status = status.Ok; text = line (codes "00000001") ++ line (codes "00000002") }
unfolding encode_with
written = ap decode_answer two_sums ∙ ap set_answer answer

-- nothing computes that no set has a sketch
none_written : answer_of (0 ∷ 6 ∷ []) ≡ None → answer_within_limit command.Decode (line (codes "0000000006000000")) ≡ record { status = status.NoSet; text = line (codes "no set") }
unfolding lines numbered_lines decode_pairs sums_in
none_written none = ap set_answer none
