-- Worked examples, computed from the definitions alone.
use Rattle.std.proofs.Common.{◌≡◌, [], ◌∷◌, ◌++◌, Ok, Err, refl}
use Rattle.std.specs.Prelude.{codes}
use Rattle.std.specs.Fmt.{digits}
use Rattle.hex.specs.Hex.{decode_pairs, encode_with}
use Rattle.base_types.specs.declared.text.Kind.TheVariants as kind
use Rattle.line_rules.specs.Lines.{lines, line, numbered_lines}
use Rattle.line_rules.specs.Reading.{line_fold}
use Rattle.sketch_text_rules.specs.Elements.{set_in, set_text}
use Rattle.sketch_text_rules.specs.Faults.{bad_input_text, kind_text}

-- CR and LF, an empty line, digits of both cases, and no LF at the end
two : set_in (codes "0000000a" ++ 13 ∷ 10 ∷ 10 ∷ [] ++ codes "0000000B") ≡ Ok (10 ∷ 11 ∷ [])
unfolding lines numbered_lines line_fold decode_pairs
two = refl

zero : set_in (line (codes "00000000")) ≡ Err (record { place = 1; kind = kind.Zero })
unfolding lines numbered_lines line_fold decode_pairs
zero = refl

repeated : set_in (line (codes "00000005") ++ line (codes "00000005")) ≡ Err (record { place = 2; kind = kind.Repeated })
unfolding lines numbered_lines line_fold decode_pairs
repeated = refl

short : set_in (line (codes "123")) ≡ Err (record { place = 1; kind = kind.DigitCount })
unfolding lines numbered_lines line_fold decode_pairs
short = refl

no_digit : set_in (line (codes "0000000g")) ≡ Err (record { place = 1; kind = kind.BadDigit })
unfolding lines numbered_lines line_fold decode_pairs
no_digit = refl

-- a last line without LF keeps its CR
kept : set_in (codes "00000001" ++ 13 ∷ []) ≡ Err (record { place = 1; kind = kind.DigitCount })
unfolding lines numbered_lines line_fold decode_pairs
kept = refl

-- each element as a line, the most significant digit first
written : set_text (1 ∷ 0x8000000A ∷ []) ≡ line (codes "00000001") ++ line (codes "8000000a")
unfolding encode_with
written = refl

none_written : set_text [] ≡ []
none_written = refl

faulty : bad_input_text 3 (kind.RaggedLength 6) ≡ codes "bad input 3: ragged length 6"
unfolding kind_text digits
faulty = refl
