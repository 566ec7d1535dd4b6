-- The lines of a text of either form.
use Rattle.std.proofs.Common.{◌≡◌, ◌≢◌, ℕ, true, false, if◌then◌else◌, List, [], ◌∷◌, length, Option, Some, None, Err, sym, ap, ◌∙◌, eq-eqb}
use Rattle.std.proofs.lemmas.Bool.{ne_eqb}
use Rattle.base_types.specs.declared.text.Kind.TheVariants as kind
use Rattle.line_rules.specs.Lines.{NumberedLine}
use Rattle.line_rules.specs.Reading.{line_fold}
use Rattle.pool_rules.specs.PoolFile.{heading_count, is_heading, pool_of_count, pool_of_lines, pool_step}

-- no line
pub pool_of_lines-none : (all rest : List NumberedLine) → all ≡ [] → rest ≡ [] → pool_of_lines all ≡ line_fold pool_step [] rest
unfolding pool_of_lines line_fold
pool_of_lines-none all rest none left = ap pool_of_lines none ∙ sym (ap (line_fold pool_step []) left)

module _ (all : List NumberedLine) (l : NumberedLine) (ls : List NumberedLine) (is : all ≡ l ∷ ls) where
  -- a first line that is no heading
  pub pool_of_lines-bare : is_heading l.bytes ≡ false → pool_of_lines all ≡ line_fold pool_step [] all
  unfolding pool_of_lines
  pool_of_lines-bare bare =
      ap pool_of_lines is ∙ ap (λ b. if b then pool_of_count (heading_count l.bytes) l ls else line_fold pool_step [] (l ∷ ls)) bare
      ∙ ap (line_fold pool_step []) (sym is)

  pool_of_lines-headed : (count : Option ℕ) → is_heading l.bytes ≡ true → heading_count l.bytes ≡ count → pool_of_lines all ≡ pool_of_count count l ls
  unfolding pool_of_lines
  pool_of_lines-headed count headed told =
      ap pool_of_lines is ∙ ap (λ b. if b then pool_of_count (heading_count l.bytes) l ls else line_fold pool_step [] (l ∷ ls)) headed
      ∙ ap (λ count. pool_of_count count l ls) told

  pub pool_of_lines-form : is_heading l.bytes ≡ true → heading_count l.bytes ≡ None → pool_of_lines all ≡ Err (record { place = l.number; kind = kind.Form })
  unfolding pool_of_count
  pool_of_lines-form headed told = pool_of_lines-headed None headed told

  pub pool_of_lines-count : (n : ℕ) → is_heading l.bytes ≡ true → heading_count l.bytes ≡ Some n → length ls ≢ n → pool_of_lines all ≡ Err (record { place = length ls; kind = kind.LineCount })
  unfolding pool_of_count
  pool_of_lines-count n headed told other =
      pool_of_lines-headed (Some n) headed told
      ∙ ap (λ b. if b then line_fold pool_step [] ls else Err (record { place = length ls; kind = kind.LineCount })) (ne_eqb (length ls) n other)

  pub pool_of_lines-told : (n : ℕ) → is_heading l.bytes ≡ true → heading_count l.bytes ≡ Some n → length ls ≡ n → pool_of_lines all ≡ line_fold pool_step [] ls
  unfolding pool_of_count
  pool_of_lines-told n headed told same =
      pool_of_lines-headed (Some n) headed told
      ∙ ap (λ b. if b then line_fold pool_step [] ls else Err (record { place = length ls; kind = kind.LineCount })) (eq-eqb (length ls) n same)
