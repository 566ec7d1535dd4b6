-- The lines of sketches, read.
use Rattle.std.proofs.Common.{◌≡◌, inl, ℕ, ◌*◌, ◌^◌, ◌<◌, List, [], ◌∷◌, ◌++◌, length, if◌then◌else◌, Ok, Err, refl, ap, ◌∙◌, arith}
use Rattle.std.specs.List.{All}
use Rattle.std.proofs.lemmas.Bool.{eq-eqb}
use Rattle.hex.specs.Hex.{lower_digits}
use Rattle.hex.proofs.HexLemmas.{length-encode_with}
use Rattle.base_types.specs.declared.text.Kind.TheVariants as kind
use Rattle.sketch_rules.specs.Sketches.{IsCapacity, bytes_of, digits_of, sketch_sum}
use Rattle.sketch_laws.proofs.Bytes.{length-bytes_of}
use Rattle.sketch_bytes.proofs.Reading.{IsBytes-bytes_of, read-line_of}
use Rattle.line_rules.specs.Lines.{NumberedLine, line, lines_of}
use Rattle.line_rules.specs.Reading.{after_line}
use Rattle.line_rules.proofs.Lines.{IsPlain, digits_plain, lines_of-line, lines_of-two}
use Rattle.text_commands.specs.SketchLines.{with_kind, sketch_in, sketch_of_line, sketch_of_lines, sum_in, sum_of_lines, sum_of_two}

-- two digits a byte, 4 bytes a sum
pub length-digits_of : (sums : List ℕ) → length (digits_of sums) ≡ 8 * length sums
length-digits_of sums =
    let bytes = length-bytes_of sums in let digits = length-encode_with lower_digits (bytes_of sums) in omega arith

digits_of-plain : (sums : List ℕ) → All IsPlain (digits_of sums)
digits_of-plain sums = digits_plain (bytes_of sums) (IsBytes-bytes_of sums)

-- its digits are read as the sums
sketch_of_line-digits : (sums : List ℕ) → IsCapacity (length sums) → All (λ s. s < 2 ^ 32) sums → sketch_of_line (digits_of sums) ≡ Ok sums
sketch_of_line-digits sums capacity small = ap with_kind (read-line_of (digits_of sums) sums capacity small (inl refl))

-- a text of one such line
pub sketch_in-line : (sums : List ℕ) → IsCapacity (length sums) → All (λ s. s < 2 ^ 32) sums → sketch_in (line (digits_of sums)) ≡ Ok sums
sketch_in-line sums capacity small =
    let some = length-digits_of sums in
    let only : lines_of (line (digits_of sums)) ≡ record { number = 1; bytes = digits_of sums } ∷ [] = lines_of-line (digits_of sums) (digits_of-plain sums) (omega (arith, capacity.0)) in
    ap sketch_of_lines only ∙ ap (λ r. after_line (record { number = 1; bytes = digits_of sums }) r (λ ns. Ok ns)) (sketch_of_line-digits sums capacity small)

-- a text of two such lines, of one capacity
pub sum_in-lines : (ms ns : List ℕ) → IsCapacity (length ms) → IsCapacity (length ns) → length ms ≡ length ns → All (λ s. s < 2 ^ 32) ms → All (λ s. s < 2 ^ 32) ns
    → sum_in (line (digits_of ms) ++ line (digits_of ns)) ≡ Ok (sketch_sum ms ns)
sum_in-lines ms ns first second same m_small n_small =
    let one : NumberedLine = record { number = 1; bytes = digits_of ms } in
    let two : NumberedLine = record { number = 2; bytes = digits_of ns } in
    let cut : lines_of (line (digits_of ms) ++ line (digits_of ns)) ≡ one ∷ two ∷ [] =
    lines_of-two (digits_of ms) (digits_of ns) (digits_of-plain ms) (digits_of-plain ns) (omega (arith, length-digits_of ms, first.0)) (omega (arith, length-digits_of ns, second.0)) in
    ap sum_of_lines cut
    ∙ ap (λ r. after_line one r (λ a. after_line two (sketch_of_line (digits_of ns)) (λ b. sum_of_two two a b))) (sketch_of_line-digits ms first m_small)
    ∙ ap (λ r. after_line two r (λ b. sum_of_two two ms b)) (sketch_of_line-digits ns second n_small)
    ∙ ap (λ equal. if equal then Ok (sketch_sum ms ns) else Err (record { place = 2; kind = kind.LengthsDiffer })) (eq-eqb (length ms) (length ns) same)
