-- Lists of events, one event or one transaction more.
use Rattle.std.proofs.Common.{◌≡◌, ◌≢◌, ℕ, suc, ◌+◌, ◌-◌, ◌/◌, ◌^◌, ◌<◌, ◌≤◌, List, [], ◌∷◌, ◌++◌, refl, sym, ap, ◌∙◌, arith, append_assoc, append-nil, eq-eqb}
use Rattle.std.proofs.lemmas.Bool.{ne_eqb}
use Rattle.pair_rules.specs.World.{deliveries}
use Rattle.pair_rules.specs.declared.event.Event.{Event}
use Rattle.pair_rules.specs.declared.event.Event.TheVariants as event
use Rattle.protocol_text_rules.specs.Generator.{additions_by, generated_from, generated_rounds, generated_tx, next_number}

-- ---- deliveries

deliveries-left : (n i : ℕ) → i < n → deliveries (n - i) ≡ event.DeliverAb (2 ^ 64 - 1) ∷ event.DeliverBa (2 ^ 64 - 1) ∷ deliveries (n - (i + 1))
unfolding deliveries
deliveries-left n i more = let left : n - i ≡ suc (n - (i + 1)) = omega arith in ap deliveries left

-- two events more of those that are left
pub delivered_more : (n i : ℕ) (so_far one two whole : List Event) → i < n → one ≡ so_far ++ event.DeliverAb (2 ^ 64 - 1) ∷ [] → two ≡ one ++ event.DeliverBa (2 ^ 64 - 1) ∷ []
    → so_far ++ deliveries (n - i) ≡ whole → two ++ deliveries (n - (i + 1)) ≡ whole
delivered_more n i so_far one two whole more first second is =
    let left = deliveries (n - (i + 1)) in
    ap (λ es. es ++ left) second ∙ append_assoc one (event.DeliverBa (2 ^ 64 - 1) ∷ []) left ∙ ap (λ es. es ++ event.DeliverBa (2 ^ 64 - 1) ∷ left) first
    ∙ append_assoc so_far (event.DeliverAb (2 ^ 64 - 1) ∷ []) (event.DeliverBa (2 ^ 64 - 1) ∷ left)
    ∙ ap (λ es. so_far ++ es) (sym (deliveries-left n i more))
    ∙ is

-- no delivery is left
pub delivered_all : (n i : ℕ) (so_far whole : List Event) → n ≤ i → so_far ++ deliveries (n - i) ≡ whole → so_far ≡ whole
unfolding deliveries
delivered_all n i so_far whole all is =
    let none : n - i ≡ 0 = omega arith in
    sym (append-nil so_far) ∙ ap (λ k. so_far ++ deliveries k) (sym none) ∙ is

-- ---- who gets a transaction

pub additions_by-a : (r : ℕ) (tx : List ℕ) → r ≡ 0 → event.AddA tx ∷ [] ≡ additions_by r tx
additions_by-a r tx is = rw (eq-eqb r 0 is) refl

pub additions_by-b : (r : ℕ) (tx : List ℕ) → r ≡ 1 → event.AddB tx ∷ [] ≡ additions_by r tx
additions_by-b r tx is = let other : r ≢ 0 = λ none. omega arith in rw (ne_eqb r 0 other, eq-eqb r 1 is) refl

pub additions_by-both : (r : ℕ) (tx : List ℕ) (so_far one : List Event) → r ≢ 0 → r ≢ 1 → one ≡ so_far ++ event.AddA tx ∷ [] → one ++ event.AddB tx ∷ [] ≡ so_far ++ additions_by r tx
additions_by-both r tx so_far one no_a no_b first =
    rw (ne_eqb r 0 no_a, ne_eqb r 1 no_b) (ap (λ es. es ++ event.AddB tx ∷ []) first ∙ append_assoc so_far (event.AddA tx ∷ []) (event.AddB tx ∷ []))

-- ---- the script of a number

generated_from-left : (n i x : ℕ) → i < n → generated_from (n - i) i x ≡ additions_by (next_number x / 2 ^ 60) (generated_tx i (next_number x)) ++ generated_from (n - (i + 1)) (i + 1) (next_number x)
unfolding generated_from
generated_from-left n i x more = let left : n - i ≡ suc (n - (i + 1)) = omega arith in ap (λ k. generated_from k i x) left

-- one transaction more
pub generated_more : (n i x y : ℕ) (so_far more whole : List Event) → i < n → y ≡ next_number x → more ≡ so_far ++ additions_by (y / 2 ^ 60) (generated_tx i y) → so_far ++ generated_from (n - i) i x ≡ whole
    → more ++ generated_from (n - (i + 1)) (i + 1) y ≡ whole
generated_more n i x y so_far more whole inside next added is =
    ap (λ es. es ++ generated_from (n - (i + 1)) (i + 1) y) added
    ∙ append_assoc so_far (additions_by (y / 2 ^ 60) (generated_tx i y)) (generated_from (n - (i + 1)) (i + 1) y)
    ∙ ap (λ z. so_far ++ (additions_by (z / 2 ^ 60) (generated_tx i z) ++ generated_from (n - (i + 1)) (i + 1) z)) next
    ∙ ap (λ es. so_far ++ es) (sym (generated_from-left n i x inside))
    ∙ is

-- the rounds, behind all transactions but the last
pub generated_all : (n i x y : ℕ) (tx : List ℕ) (so_far all whole : List Event) → i ≡ n → y ≡ next_number x → tx ≡ generated_tx n y → all ≡ so_far ++ generated_rounds tx → so_far ++ generated_from (n - i) i x ≡ whole
    → all ≡ whole
unfolding generated_from
generated_all n i x y tx so_far all whole past next last added is =
    let none : n - i ≡ 0 = omega arith in
    let left : generated_from (n - i) i x ≡ generated_rounds (generated_tx n (next_number x)) = ap (λ k. generated_from k i x) none ∙ ap (λ k. generated_rounds (generated_tx k (next_number x))) past in
    added ∙ ap (λ t. so_far ++ generated_rounds t) (last ∙ ap (generated_tx n) next) ∙ ap (λ es. so_far ++ es) (sym left) ∙ is
