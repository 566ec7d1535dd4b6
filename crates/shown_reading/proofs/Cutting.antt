-- The first word of a line, told by the place of the first space.
use Rattle.std.proofs.Common.{◌≡◌, ℕ, zero, suc, ◌<◌, ◌==◌, Bool, true, false, not, List, [], ◌∷◌, ◌++◌, length, take, drop, get_or, refl, sym, ap, ◌∙◌, arith}
use Rattle.std.proofs.lemmas.Bool.{and_from, eqb-true}
use Rattle.wire_rules.specs.ShownReading.{fields_of}
use Rattle.shown_laws.proofs.Fields.{fields-last, fields-word, spaceless}

no_space_by : (t : Bool) → (t ≡ true → ⊥) → not t ≡ true
no_space_by true other = absurd (other refl)
no_space_by false other = refl

-- no byte before the first k is a space
before : (text : List ℕ) (k : ℕ) → ((j : ℕ) → j < k → j < length text → (get_or text j 0 == 32) ≡ true → ⊥) → spaceless (take k text) ≡ true
before text zero none = refl
before [] (suc k) none = refl
before (b ∷ text) (suc k) none =
    and_from (not (b == 32)) (spaceless (take k text)) (no_space_by (b == 32) (none 0 (omega arith) (omega arith))) (before text k (λ j low in_text. none (suc j) (omega arith) (omega arith)))

parted : (text : List ℕ) (k : ℕ) → k < length text → get_or text k 0 ≡ 32 → text ≡ take k text ++ (32 ∷ drop (suc k) text)
parted [] k low is = absurd (omega arith)
parted (b ∷ text) zero low is = ap (λ x. x ∷ text) is
parted (b ∷ text) (suc k) low is = ap (λ xs. b ∷ xs) (parted text k (omega arith) is)

-- where a space stands at k, and none before it
pub fields_cut : (text : List ℕ) (k : ℕ) → k < length text → ((j : ℕ) → j < k → (get_or text j 0 == 32) ≡ true → ⊥) → (get_or text k 0 == 32) ≡ true
    → fields_of text ≡ take k text ∷ fields_of (drop (suc k) text)
fields_cut text k low none is =
    ap fields_of (parted text k low (eqb-true (get_or text k 0) 32 is)) ∙ fields-word (take k text) (drop (suc k) text) (before text k (λ j below in_text. none j below))

take_whole : (text : List ℕ) → take (length text) text ≡ text
take_whole [] = refl
take_whole (b ∷ text) = ap (λ xs. b ∷ xs) (take_whole text)

-- where no space stands
pub fields_whole : (text : List ℕ) → ((j : ℕ) → j < length text → (get_or text j 0 == 32) ≡ true → ⊥) → fields_of text ≡ text ∷ []
fields_whole text none = fields-last text (ap spaceless (sym (take_whole text)) ∙ before text (length text) (λ j below in_text. none j in_text))
