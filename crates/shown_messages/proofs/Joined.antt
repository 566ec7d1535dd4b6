-- Words with one space between, as a word and what stands behind it.
use Rattle.std.proofs.Common.{◌≡◌, ℕ, List, [], ◌∷◌, ◌++◌, map, flat_map, sym, ap, ◌∙◌, append_assoc, append-nil}
use Rattle.std.specs.List.{join_with_byte}

-- a space before each word
abbrev pub spaced : {A : Type 0} → (A → List ℕ) → List A → List ℕ
spaced spell xs = flat_map (λ x. 32 ∷ spell x) xs

pub joined : {A : Type 0} (spell : A → List ℕ) (word : List ℕ) (xs : List A) → join_with_byte 32 (word ∷ map spell xs) ≡ word ++ spaced spell xs
joined spell word [] = sym (append-nil word)
joined spell word (x ∷ xs) = ap (λ (text : List ℕ). word ++ 32 ∷ text) (joined spell (spell x) xs)

-- the same behind other bytes
pub first_joined : {A : Type 0} (spell : A → List ℕ) (out word : List ℕ) (xs : List A) → (out ++ word) ++ spaced spell xs ≡ out ++ join_with_byte 32 (word ∷ map spell xs)
first_joined spell out word xs = append_assoc out word (spaced spell xs) ∙ ap (λ (text : List ℕ). out ++ text) (sym (joined spell word xs))

-- and behind two words
pub second_joined : {A : Type 0} (spell : A → List ℕ) (out word next : List ℕ) (xs : List A) → ((out ++ word) ++ 32 ∷ next) ++ spaced spell xs ≡ out ++ (word ++ 32 ∷ join_with_byte 32 (next ∷ map spell xs))
second_joined spell out word next xs =
    append_assoc (out ++ word) (32 ∷ next) (spaced spell xs)
    ∙ (append_assoc out word (32 ∷ (next ++ spaced spell xs))
    ∙ ap (λ (text : List ℕ). out ++ (word ++ 32 ∷ text)) (sym (joined spell next xs)))

-- and behind ten
pub ten_joined : (out w a b c d e f g h i : List ℕ)
    → (((((((((out ++ w) ++ 32 ∷ a) ++ 32 ∷ b) ++ 32 ∷ c) ++ 32 ∷ d) ++ 32 ∷ e) ++ 32 ∷ f) ++ 32 ∷ g) ++ 32 ∷ h) ++ 32 ∷ i
    ≡ out ++ (w ++ 32 ∷ (a ++ 32 ∷ (b ++ 32 ∷ (c ++ 32 ∷ (d ++ 32 ∷ (e ++ 32 ∷ (f ++ 32 ∷ (g ++ 32 ∷ (h ++ 32 ∷ i)))))))))
ten_joined out w a b c d e f g h i =
    let x1 = out ++ w in let x2 = x1 ++ 32 ∷ a in let x3 = x2 ++ 32 ∷ b in let x4 = x3 ++ 32 ∷ c in let x5 = x4 ++ 32 ∷ d in
    let x6 = x5 ++ 32 ∷ e in let x7 = x6 ++ 32 ∷ f in let x8 = x7 ++ 32 ∷ g in
    let t9 = 32 ∷ i in let t8 = 32 ∷ (h ++ t9) in let t7 = 32 ∷ (g ++ t8) in let t6 = 32 ∷ (f ++ t7) in let t5 = 32 ∷ (e ++ t6) in
    let t4 = 32 ∷ (d ++ t5) in let t3 = 32 ∷ (c ++ t4) in let t2 = 32 ∷ (b ++ t3) in let t1 = 32 ∷ (a ++ t2) in
    append_assoc x8 (32 ∷ h) t9 ∙ (append_assoc x7 (32 ∷ g) t8 ∙ (append_assoc x6 (32 ∷ f) t7 ∙ (append_assoc x5 (32 ∷ e) t6 ∙ (append_assoc x4 (32 ∷ d) t5
    ∙ (append_assoc x3 (32 ∷ c) t4 ∙ (append_assoc x2 (32 ∷ b) t3 ∙ (append_assoc x1 (32 ∷ a) t2 ∙ append_assoc out w t1)))))))
