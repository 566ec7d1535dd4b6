-- The first line of a text, told by the offset of the first LF.
use Rattle.std.proofs.Common.{◌≡◌, ◌≢◌, ℕ, zero, suc, ◌<◌, ◌≤◌, ◌&&◌, ◌==◌, true, false, List, [], ◌∷◌, ◌++◌, length, take, drop, get_or, if◌then◌else◌, refl, ap, ◌∙◌, arith}
use Rattle.std.proofs.lemmas.Bool.{cond_both, eq-eqb, ne_eqb}
use Rattle.line_rules.specs.Lines.{lines, has_leading_line_feed, with_first_byte}
use Rattle.line_text.specs.Cuts.{without_carriage_return}

-- a text that begins with LF
lines-end : (b : ℕ) (rest : List ℕ) → b ≡ 10 → lines (b ∷ rest) ≡ [] ∷ lines rest
unfolding lines
lines-end b rest is = rw (eq-eqb b 10 is)

-- a text that begins with another byte
lines-other : (b : ℕ) (rest : List ℕ) → b ≢ 10 → lines (b ∷ rest) ≡ (if b == 13 && has_leading_line_feed rest then lines rest else with_first_byte b (lines rest))
unfolding lines
lines-other b rest other = rw (ne_eqb b 10 other)

-- a byte before a line that isn't empty, nor begins behind a CR
begun : (b : ℕ) (rest : List ℕ) → b ≢ 10 → has_leading_line_feed rest ≡ false → lines (b ∷ rest) ≡ with_first_byte b (lines rest)
begun b rest other goes_on = lines-other b rest other ∙ elim (b == 13) as (λ v. (if v && has_leading_line_feed rest then lines rest else with_first_byte b (lines rest)) ≡ with_first_byte b (lines rest)) [
  | true ↦ rw goes_on
  | false ↦ refl
]

-- one byte before LF
alone : (b c : ℕ) (rest : List ℕ) → b ≢ 10 → c ≡ 10 → lines (b ∷ c ∷ rest) ≡ without_carriage_return (b ∷ []) ∷ lines rest
alone b c rest other is = lines-other b (c ∷ rest) other ∙ rw (eq-eqb c 10 is, lines-end c rest is) (elim (b == 13) as (λ v. (if v && true then [] ∷ lines rest else with_first_byte b ([] ∷ lines rest)) ≡ (if v then [] else b ∷ []) ∷ lines rest) [
  | true ↦ refl
  | false ↦ refl
])

-- where LF stands at k, and none before it
pub lines_cut : (text : List ℕ) (k : ℕ) → k < length text → ((j : ℕ) → j < k → get_or text j 0 ≢ 10) → get_or text k 0 ≡ 10
    → lines text ≡ without_carriage_return (take k text) ∷ lines (drop (suc k) text)
lines_cut [] k within none is = absurd (omega arith)
lines_cut (b ∷ rest) zero within none is = lines-end b rest is
lines_cut (b ∷ []) (suc k) within none is = absurd (omega arith)
lines_cut (b ∷ c ∷ rest) (suc zero) within none is = alone b c rest (none 0 (omega arith)) is
lines_cut (b ∷ c ∷ rest) (suc (suc k)) within none is =
    let later = lines_cut (c ∷ rest) (suc k) (omega arith) (λ j before. none (suc j) (omega arith)) is in
    begun b (c ∷ rest) (none 0 (omega arith)) (ne_eqb c 10 (none 1 (omega arith))) ∙ ap (with_first_byte b) later

-- where no LF stands
lines_unended : (b : ℕ) (rest : List ℕ) → ((j : ℕ) → j < length (b ∷ rest) → get_or (b ∷ rest) j 0 ≢ 10) → lines (b ∷ rest) ≡ (b ∷ rest) ∷ lines []
unfolding lines
lines_unended b [] none = begun b [] (none 0 (omega arith)) refl
lines_unended b (c ∷ rest) none =
    begun b (c ∷ rest) (none 0 (omega arith)) (ne_eqb c 10 (none 1 (omega arith))) ∙ ap (with_first_byte b) (lines_unended c rest (λ j before. none (suc j) (omega arith)))

pub lines_whole : (text : List ℕ) → 0 < length text → ((j : ℕ) → j < length text → get_or text j 0 ≢ 10) → lines text ≡ text ∷ lines []
lines_whole [] some none = absurd (omega arith)
lines_whole (b ∷ rest) some none = lines_unended b rest none

length-with_first_byte : (b : ℕ) (ls : List (List ℕ)) → length (with_first_byte b ls) ≤ suc (length ls)
length-with_first_byte b [] = omega arith
length-with_first_byte b (l ∷ ls) = omega arith

-- a text has no more lines than bytes
pub length-lines : (text : List ℕ) → length (lines text) ≤ length text
unfolding lines
length-lines [] = omega arith
length-lines (b ∷ rest) =
    let later = length-lines rest in
    cond_both (b == 10) ([] ∷ lines rest) (if b == 13 && has_leading_line_feed rest then lines rest else with_first_byte b (lines rest)) (λ ls. length ls ≤ suc (length rest))
    (λ ends. omega arith)
    (λ goes_on. cond_both (b == 13 && has_leading_line_feed rest) (lines rest) (with_first_byte b (lines rest)) (λ ls. length ls ≤ suc (length rest)) (λ returns. omega arith) (λ stays. omega (arith, length-with_first_byte b (lines rest))))

-- a line that ends in CR
pub without_carriage_return-cut : (front : List ℕ) (b : ℕ) → b ≡ 13 → without_carriage_return (front ++ b ∷ []) ≡ front
without_carriage_return-cut [] b is = rw (eq-eqb b 13 is)
without_carriage_return-cut (x ∷ []) b is = ap (λ l. x ∷ l) (without_carriage_return-cut [] b is)
without_carriage_return-cut (x ∷ y ∷ front) b is = ap (λ l. x ∷ l) (without_carriage_return-cut (y ∷ front) b is)

-- a line that ends in another byte
pub without_carriage_return-same : (front : List ℕ) (b : ℕ) → b ≢ 13 → without_carriage_return (front ++ b ∷ []) ≡ front ++ b ∷ []
without_carriage_return-same [] b other = rw (ne_eqb b 13 other)
without_carriage_return-same (x ∷ []) b other = ap (λ l. x ∷ l) (without_carriage_return-same [] b other)
without_carriage_return-same (x ∷ y ∷ front) b other = ap (λ l. x ∷ l) (without_carriage_return-same (y ∷ front) b other)
