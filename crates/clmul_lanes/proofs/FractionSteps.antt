-- Steps of the functions that make fractions and their terms.
use Rattle.std.proofs.Common.{◌≡◌, ◌≢◌, ℕ, suc, ◌+◌, ◌-◌, ◌*◌, ◌<◌, ◌≤◌, List, [], ◌∷◌, length, get_or, set, take, drop, sym, ◌∙◌, ap, ap₂, arith, below_more, get_or-set_same, get_or-set_other}
use Rattle.std.proofs.lemmas.List.{get_or_default, drop_more}
use Rattle.field_rules.specs.Ops.{power}
use Rattle.field_rules.specs.Elements.{product}
use Rattle.field_laws.proofs.Rings.{product-comm}
use Rattle.sketch_rules.specs.PowerSums.{power_sum}
use Rattle.fraction_laws.specs.Fractions.{denominator, numerator}
use Rattle.fraction_laws.proofs.Fractions.{numerator-first, numerator-next, numerator-beyond}
use Rattle.clmul_lanes.specs.declared.lane32.Lane32.{Lane32}
use Rattle.clmul_lanes.specs.Lane32.{ops, ring, bits_of, zero_of, same_bits}
use Rattle.clmul_lanes.specs.Fractions.{IsNumerator, IsLaterDenominator}

-- the elements from the back
pub drop_back : (es : List Lane32) (e : Lane32) (n : ℕ) → n < length es → e ≡ get_or es (length es - 1 - n) e → e ∷ drop (length es - n) es ≡ drop (length es - (n + 1)) es
drop_back es e n lt is =
    let index : length es - (n + 1) ≡ length es - 1 - n = omega arith in
    let next : length es - 1 - n + 1 ≡ length es - n = omega arith in
    sym
    (ap (λ k. drop k es) index
    ∙ drop_more es (length es - 1 - n) e (omega arith)
    ∙ ap (λ x. x ∷ drop (length es - 1 - n + 1) es) (sym is)
    ∙ ap (λ k. e ∷ drop k es) next)

-- ---- the terms

-- one coefficient of the next numerator
pub next_made : (top next : List Lane32) (list : List ℕ) (i word k : ℕ) (a first p r : Lane32) → length top ≡ 33 → length next ≡ 33 → i < 32
    → a ≡ get_or top (i + 1) a → first ≡ get_or top 0 first → k ≡ bits_of (get_or top 0 first) → ((d : Lane32) → bits_of d ≡ get_or list i 0 → word ≡ product 32 (get_or list i 0) k) → bits_of p ≡ word → r ≡ ops.plus (get_or top (i + 1) a) p
    → ((m : ℕ) → m < i → (d : Lane32) → bits_of d ≡ get_or list m 0 → get_or next m zero_of ≡ ops.plus (get_or top (suc m) zero_of) (ops.times (get_or top 0 zero_of) d))
    → (m : ℕ) → m < i + 1 → (d : Lane32) → bits_of d ≡ get_or list m 0 → get_or (set next i r) m zero_of ≡ ops.plus (get_or top (suc m) zero_of) (ops.times (get_or top 0 zero_of) d)
next_made top next list i word k a first p r top_size next_size below a_is first_is k_is word_is p_is r_is before =
    below_more (λ m. (d : Lane32) → bits_of d ≡ get_or list m 0 → get_or (set next i r) m zero_of ≡ ops.plus (get_or top (suc m) zero_of) (ops.times (get_or top 0 zero_of) d)) i
    (λ m lt d is. let other : m ≢ i = omega arith in get_or-set_other next i m r zero_of other ∙ before m lt d is)
    (λ d is.
    let index : i + 1 ≡ suc i = omega arith in
    let later : a ≡ get_or top (suc i) zero_of = a_is ∙ get_or_default top (i + 1) a zero_of (omega (arith, top_size)) ∙ ap (λ k. get_or top k zero_of) index in
    let zeroth : first ≡ get_or top 0 zero_of = first_is ∙ get_or_default top 0 first zero_of (omega (arith, top_size)) in
    let product_bits : bits_of p ≡ product 32 (bits_of first) (bits_of d) =
    p_is ∙ word_is d is ∙ ap (λ z. product 32 z k) (sym is) ∙ ap (product 32 (bits_of d)) (k_is ∙ ap bits_of (sym first_is)) ∙ product-comm 32 (bits_of d) (bits_of first) d.small first.small in
    get_or-set_same next i r zero_of (omega (arith, next_size))
    ∙ r_is
    ∙ ap (λ z. ops.plus z p) (sym a_is)
    ∙ ap (ops.plus a) (same_bits p (ops.times first d) product_bits)
    ∙ ap (λ z. ops.plus a (ops.times z d)) zeroth
    ∙ ap (λ z. ops.plus z (ops.times (get_or top 0 zero_of) d)) later)

-- the numerator that belongs to the next odd power
pub next_numerator_is : (es : List Lane32) (list : List ℕ) (i : ℕ) (top next : List Lane32) → length es ≤ 32 → IsLaterDenominator es list → IsNumerator i es top
    → ((j : ℕ) → j < 32 → (d : Lane32) → bits_of d ≡ get_or list j 0 → get_or next j zero_of ≡ ops.plus (get_or top (suc j) zero_of) (ops.times (get_or top 0 zero_of) d)) → get_or next 32 zero_of ≡ zero_of
    → IsNumerator (i + 1) es next
next_numerator_is es list i top next small later is made last =
    below_more (λ j. get_or next j zero_of ≡ numerator ops (i + 1) es j) 32
    (λ j lt.
    made j lt (denominator ops es (suc j)) (sym (later j lt))
    ∙ ap (λ z. ops.plus z (ops.times (get_or top 0 zero_of) (denominator ops es (suc j)))) (is (suc j) (omega arith))
    ∙ ap (λ z. ops.plus (numerator ops i es (suc j)) (ops.times z (denominator ops es (suc j)))) (is 0 (omega arith))
    ∙ sym (numerator-next ops ring i es j))
    (last ∙ sym (numerator-beyond ops ring (i + 1) es 32 small))

-- the first coefficient, added to an item
pub term_added : (es : List Lane32) (i : ℕ) (top acc : List Lane32) (a first v : Lane32) → length top ≡ 33 → i < length acc → IsNumerator i es top → a ≡ get_or acc i a → v ≡ ops.plus a (get_or top 0 first)
    → v ≡ ops.plus (get_or acc i zero_of) (power_sum ops (2 * i + 1) es)
term_added es i top acc a first v size inside is a_is v_is =
    v_is
    ∙ ap (λ z. ops.plus z (get_or top 0 first)) (a_is ∙ get_or_default acc i a zero_of inside)
    ∙ ap (ops.plus (get_or acc i zero_of)) (get_or_default top 0 first zero_of (omega (arith, size)) ∙ is 0 (omega arith) ∙ numerator-first ops ring i es)

-- ---- four elements

pub four_items : (es : List Lane32) (n : ℕ) (d e f g : Lane32) → n + 3 < length es → d ≡ get_or es n d → e ≡ get_or es (n + 1) e → f ≡ get_or es (n + 2) f → g ≡ get_or es (n + 3) g
    → d ∷ e ∷ f ∷ g ∷ [] ≡ take 4 (drop n es)
four_items es n d e f g lt d_is e_is f_is g_is =
    let second : n + 1 + 1 ≡ n + 2 = omega arith in
    let third : n + 2 + 1 ≡ n + 3 = omega arith in
    let from_d : drop n es ≡ d ∷ drop (n + 1) es = drop_more es n d (omega arith) ∙ ap (λ x. x ∷ drop (n + 1) es) (sym d_is) in
    let from_e : drop (n + 1) es ≡ e ∷ drop (n + 2) es = drop_more es (n + 1) e (omega arith) ∙ ap₂ (λ x k. x ∷ drop k es) (sym e_is) second in
    let from_f : drop (n + 2) es ≡ f ∷ drop (n + 3) es = drop_more es (n + 2) f (omega arith) ∙ ap₂ (λ x k. x ∷ drop k es) (sym f_is) third in
    let from_g : drop (n + 3) es ≡ g ∷ drop (n + 3 + 1) es = drop_more es (n + 3) g lt ∙ ap (λ x. x ∷ drop (n + 3 + 1) es) (sym g_is) in
    sym (ap (take 4) (from_d ∙ ap (λ l. d ∷ l) (from_e ∙ ap (λ l. e ∷ l) (from_f ∙ ap (λ l. f ∷ l) from_g))))

-- four powers, added to an item
pub four_added : (d e f g p q r s v : Lane32) (i : ℕ) (acc : List Lane32) (a : Lane32) → i < length acc
    → p ≡ power ops d (2 * i + 1) → q ≡ power ops e (2 * i + 1) → r ≡ power ops f (2 * i + 1) → s ≡ power ops g (2 * i + 1) → v ≡ ops.plus (ops.plus (ops.plus (ops.plus (get_or acc i a) p) q) r) s
    → v ≡ ops.plus (get_or acc i zero_of) (power_sum ops (2 * i + 1) (d ∷ e ∷ f ∷ g ∷ []))
unfolding power_sum
four_added d e f g p q r s v i acc a inside p_is q_is r_is s_is v_is =
    v_is
    ∙ ring.plus_assoc (ops.plus (ops.plus (get_or acc i a) p) q) r s
    ∙ ring.plus_assoc (ops.plus (get_or acc i a) p) q (ops.plus r s)
    ∙ ring.plus_assoc (get_or acc i a) p (ops.plus q (ops.plus r s))
    ∙ ap (λ z. ops.plus z (ops.plus p (ops.plus q (ops.plus r s)))) (get_or_default acc i a zero_of inside)
    ∙ ap (ops.plus (get_or acc i zero_of)) (ap₂ ops.plus p_is (ap₂ ops.plus q_is (ap₂ ops.plus r_is (s_is ∙ sym (ring.plus_zero (power ops g (2 * i + 1)))))))
