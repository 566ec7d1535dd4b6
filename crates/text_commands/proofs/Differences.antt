-- The sum of the sketches of two sets, decoded.
use Rattle.std.proofs.Common.{◌≡◌, ℕ, ◌^◌, ◌<◌, ◌≤◌, List, [], ◌∷◌, ◌++◌, length, Some, refl, sym, ap, ◌∙◌, arith, length-append}
use Rattle.std.specs.List.{All}
use Rattle.sketch_rules.specs.Sets.{difference}
use Rattle.sketch_rules.specs.Sketches.{IsCapacity, digits_of, sketch_sum, sketch_of}
use Rattle.sketch_rules.specs.Answers.{answer_of}
use Rattle.sketch_laws.proofs.Differences.{length-sketch_at, of_difference}
use Rattle.sketch_laws.proofs.Merging.{sketch_sum-sketches}
use Rattle.sketch_bytes.proofs.Sketches.{sketch_small}
use Rattle.trace_roots.proofs.Decoded.{differs}
use Rattle.clmul_lanes.specs.Lane32.{bits_of, field, numbered, ops, ring}
use Rattle.line_rules.specs.Lines.{line}
use Rattle.sketch_text_rules.specs.Elements.{IsSet, set_text}
use Rattle.sketch_text_rules.specs.Limits.{input_limit}
use Rattle.sketch_text_rules.proofs.Written.{set_in-text}
use Rattle.command_words.specs.declared.command.Command.TheVariants as command
use Rattle.text_commands.specs.declared.status.Status.TheVariants as status
use Rattle.text_commands.specs.Answers.{Answer, answer_to, decode_answer, set_answer, make_answer, sketch_answer, merge_answer}
use Rattle.text_commands.proofs.Endings.{short_answer}
use Rattle.text_commands.proofs.Spelled.{length-digits_of, sketch_in-line, sum_in-lines}

-- the line of a sketch is within the limit
line_within : (sums : List ℕ) → IsCapacity (length sums) → length (line (digits_of sums)) ≤ input_limit
line_within sums capacity =
    let digits = length-digits_of sums in let whole = length-append (digits_of sums) (10 ∷ []) in omega (arith, capacity.1)

-- the line of a sketch that a set has, decoded
line_decoded : (sums es : List ℕ) → IsCapacity (length sums) → All (λ s. s < 2 ^ 32) sums → answer_of sums ≡ Some es
    → answer_to command.Decode (line (digits_of sums)) ≡ record { status = status.Ok; text = set_text es }
line_decoded sums es capacity small answered =
    short_answer command.Decode (line (digits_of sums)) (line_within sums capacity)
    ∙ ap decode_answer (sketch_in-line sums capacity small)
    ∙ ap set_answer answered

-- the text of a set, made a sketch of
set_made : (es : List ℕ) (c : ℕ) → IsSet es → length (set_text es) ≤ input_limit → answer_to (command.Make c) (set_text es) ≡ sketch_answer (sketch_of es c)
set_made es c set short = short_answer (command.Make c) (set_text es) short ∙ ap (make_answer c) (set_in-text es set)

-- the lines of two sketches of one capacity, merged
lines_merged : (ms ns : List ℕ) → IsCapacity (length ms) → IsCapacity (length ns) → length ms ≡ length ns → All (λ s. s < 2 ^ 32) ms → All (λ s. s < 2 ^ 32) ns
    → answer_to command.Merge (line (digits_of ms) ++ line (digits_of ns)) ≡ sketch_answer (sketch_sum ms ns)
lines_merged ms ns first second same m_small n_small =
    short_answer command.Merge (line (digits_of ms) ++ line (digits_of ns)) (omega (arith, length-digits_of ms, length-digits_of ns, length-append (line (digits_of ms)) (line (digits_of ns)), length-append (digits_of ms) (10 ∷ []), length-append (digits_of ns) (10 ∷ []), first.1, second.1))
    ∙ ap merge_answer (sum_in-lines ms ns first second same m_small n_small)

module _ (xs ys : List ℕ) (c : ℕ) (x_set : IsSet xs) (y_set : IsSet ys) (capacity : IsCapacity c) where
  -- the sum of the sketches is a sketch
  is_sketch : sketch_sum (sketch_of xs c) (sketch_of ys c) ≡ sketch_of (difference xs ys) c
  is_sketch = sketch_sum-sketches 32 xs ys c x_set.1 y_set.1

  fits : (es : List ℕ) → IsCapacity (length (sketch_of es c))
  fits es = rw (length-sketch_at 32 es c) capacity

  -- its line, decoded
  pub difference_decoded : length (difference xs ys) ≤ c
      → answer_to command.Decode (line (digits_of (sketch_sum (sketch_of xs c) (sketch_of ys c)))) ≡ record { status = status.Ok; text = set_text (difference xs ys) }
  difference_decoded few =
      line_decoded (sketch_sum (sketch_of xs c) (sketch_of ys c)) (difference xs ys)
      (rw is_sketch (fits (difference xs ys)))
      (rw is_sketch (sketch_small ops bits_of 32 numbered (difference xs ys) c (λ k d within. (of_difference (λ e. (0 < e) × (e < 2 ^ 32)) xs ys x_set.0 y_set.0 k d within).1)))
      (differs ops ring bits_of 32 field numbered (answer_of (sketch_sum (sketch_of xs c) (sketch_of ys c))) (sketch_sum (sketch_of xs c) (sketch_of ys c)) xs ys c refl x_set.0 y_set.0 x_set.1 y_set.1 few refl)

  -- the lines of the sketches, merged and decoded
  pub difference_found : length (difference xs ys) ≤ c → length (set_text xs) ≤ input_limit → length (set_text ys) ≤ input_limit
      → answer_to command.Decode (answer_to command.Merge ((answer_to (command.Make c) (set_text xs)).text ++ (answer_to (command.Make c) (set_text ys)).text)).text
      ≡ record { status = status.Ok; text = set_text (difference xs ys) }
  difference_found few x_short y_short =
      ap (λ sums. answer_to command.Decode (answer_to command.Merge sums).text)
      (ap (λ (a : Answer). a.text ++ (answer_to (command.Make c) (set_text ys)).text) (set_made xs c x_set x_short) ∙ ap (λ (a : Answer). line (digits_of (sketch_of xs c)) ++ a.text) (set_made ys c y_set y_short))
      ∙ ap (λ (a : Answer). answer_to command.Decode a.text)
      (lines_merged (sketch_of xs c) (sketch_of ys c) (fits xs) (fits ys) (length-sketch_at 32 xs c ∙ sym (length-sketch_at 32 ys c)) (small xs x_set) (small ys y_set))
      ∙ difference_decoded few
    where
      small : (es : List ℕ) → IsSet es → All (λ s. s < 2 ^ 32) (sketch_of es c)
      small es set = sketch_small ops bits_of 32 numbered es c (λ k d within. (set.0 k d within).1)
