-- Fields of a line, with one space between, are read back.
use Rattle.std.proofs.Common.{◌≡◌, ℕ, ◌==◌, Bool, true, false, not, List, [], ◌∷◌, ◌++◌, if◌then◌else◌, refl, sym, ap, ◌∙◌}
use Rattle.std.specs.List.{AllByRecursion, join_with_byte, list_all}
use Rattle.std.proofs.lemmas.Bool.{ne_eqb, and_from, and_parts}
use Rattle.wire_rules.specs.ShownReading.{fields_of, with_first_byte}

-- no byte of a word is a space
abbrev pub spaceless : List ℕ → Bool
spaceless word = list_all (λ b. not (b == 32)) word

pub record IsSpaceless (word : List ℕ) : Type 0 where
  pub none : spaceless word ≡ true

-- a byte that passes a test is another than one that doesn't
pub another : (test : ℕ → Bool) (b c : ℕ) → test b ≡ true → test c ≡ false → (b == c) ≡ false
another test b c h e = ne_eqb b c (λ same. apart (sym h ∙ (ap test same ∙ e)))
  where
    apart : true ≡ false → ⊥
    apart x = absurd (cc)

-- so there is no space among bytes that pass a test of which a space doesn't
pub no-space : (test : ℕ → Bool) → test 32 ≡ false → (word : List ℕ) → list_all test word ≡ true → spaceless word ≡ true
no-space test none [] h = refl
no-space test none (b ∷ word) h = let tests = and_parts (test b) (list_all test word) h in and_from (not (b == 32)) (spaceless word) (ap not (another test b 32 tests.0 none)) (no-space test none word tests.1)

-- a byte that is no space stands in the first field
byte_by : (space : Bool) (b : ℕ) (rest : List ℕ) → not space ≡ true → (if space then [] ∷ fields_of rest else with_first_byte b (fields_of rest)) ≡ with_first_byte b (fields_of rest)
byte_by true b rest h = absurd (cc)
byte_by false b rest h = refl

-- a word and a space behind it
pub fields-word : (word rest : List ℕ) → spaceless word ≡ true → fields_of (word ++ (32 ∷ rest)) ≡ word ∷ fields_of rest
unfolding fields_of
fields-word [] rest h = refl
fields-word (b ∷ word) rest h =
    let tests = and_parts (not (b == 32)) (spaceless word) h in
    byte_by (b == 32) b (word ++ (32 ∷ rest)) tests.0 ∙ ap (with_first_byte b) (fields-word word rest tests.1)

-- the last word
pub fields-last : (word : List ℕ) → spaceless word ≡ true → fields_of word ≡ word ∷ []
unfolding fields_of
fields-last [] h = refl
fields-last (b ∷ word) h =
    let tests = and_parts (not (b == 32)) (spaceless word) h in
    byte_by (b == 32) b word tests.0 ∙ ap (with_first_byte b) (fields-last word tests.1)

pub fields-joined : (word : List ℕ) (words : List (List ℕ)) → AllByRecursion IsSpaceless (word ∷ words) → fields_of (join_with_byte 32 (word ∷ words)) ≡ word ∷ words
fields-joined word [] each = fields-last word each.0.none
fields-joined word (next ∷ words) each =
    fields-word word (join_with_byte 32 (next ∷ words)) each.0.none ∙ ap (λ more. word ∷ more) (fields-joined next words each.1)
