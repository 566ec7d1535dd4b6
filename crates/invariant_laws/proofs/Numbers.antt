-- Numbers in lists: those that rise are distinct, an opener's own of an answer are no more than it has sketched, and sums as
-- bytes.
use Rattle.std.proofs.Common.{◌≡◌, ⊎_elim, ℕ, ◌+◌, ◌^◌, ◌<◌, ◌≤◌, ◌==◌, ◌||◌, nat_eq, nat_lt, Bool, true, false, List, [], ◌∷◌, length, filter, refl, sym, ap₂, ◌∙◌, subst, arith, eqb-true, ne_eqb}
use Rattle.std.specs.Int.{to_le_bytes, w32}
use Rattle.std.specs.List.{AllByRecursion, IsDistinct}
use Rattle.std.specs.Set.{is_member}
use Rattle.std.proofs.lemmas.Bool.{and_parts, ltb-true, or_cases, cond_both}
use Rattle.std.proofs.lemmas.Cmp.{nat_eq_equiv}
use Rattle.std.proofs.lemmas.Map.Made.{length-le_from_is_member}
use Rattle.sketch_rules.specs.Answers.{IsAscending}
use Rattle.sketch_rules.specs.Sketches.{bytes_of, sums_in}
use Rattle.id_rules.specs.Bytes.{are_bytes}
use Rattle.id_rules.proofs.Bytes.{are_bytes-low_first, bytes_join}
use Rattle.pool_rules.specs.Snapshots.{Member, sketched_shorts}
use Rattle.id_rules.proofs.Lists.{all_filter, filter_passed}
use Rattle.node_rules.specs.Outcomes.{own_short_ids, is_in}

-- ---- distinct numbers

-- numbers that rise from above another one
rising_apart : (n low high : ℕ) (es : List ℕ) → n < low → IsAscending low high es → AllByRecursion (λ e. nat_eq n e ≡ false) es
unfolding IsAscending
rising_apart n low high [] lt h = tt
rising_apart n low high (e ∷ es) lt h = let le = h.0 in (ne_eqb n e (λ same. absurd (omega (arith, same, le, lt))), rising_apart n (e + 1) high es (omega (arith, le, lt)) h.2)

pub rising_once : (low high : ℕ) (es : List ℕ) → IsAscending low high es → IsDistinct nat_eq es
unfolding IsAscending IsDistinct
rising_once low high [] h = tt
rising_once low high (e ∷ es) h = (rising_apart e (e + 1) high es (omega arith) h.2, rising_once (e + 1) high es h.2)

distinct_filter : (t : ℕ → Bool) (ns : List ℕ) → IsDistinct nat_eq ns → IsDistinct nat_eq (filter t ns)
unfolding IsDistinct
distinct_filter t [] h = tt
distinct_filter t (n ∷ ns) h =
    cond_both (t n) (n ∷ filter t ns) (filter t ns) (IsDistinct nat_eq) (λ k. (all_filter (λ m. nat_eq n m ≡ false) t ns h.0, distinct_filter t ns h.1)) (λ k. distinct_filter t ns h.1)

-- ---- members

pub is_in_each : (P : ℕ → Type 0) (ns : List ℕ) (n : ℕ) → AllByRecursion P ns → is_in ns n ≡ true → P n
is_in_each P [] n h e = absurd (let apart : false ≡ true = e in cc)
is_in_each P (x ∷ xs) n h e = ⊎_elim (λ here. subst P (eqb-true x n here) h.0) (λ later. is_in_each P xs n h.1 later) (or_cases (x == n) (is_in xs n) e)

member_in : (ns : List ℕ) (n : ℕ) → is_member nat_eq ns n ≡ is_in ns n
member_in [] n = refl
member_in (x ∷ xs) n = ap₂ (λ a b. a || b) (nat_eq_equiv.symm n x) (member_in xs n)

-- the opener's own of an answer are no more than it has sketched
pub mine_few : (snapshot : List Member) (es : List ℕ) → IsAscending 1 (2 ^ 32) es → length (own_short_ids snapshot es) ≤ length (sketched_shorts snapshot)
mine_few snapshot es h =
    let shorts : List ℕ = sketched_shorts snapshot in
    length-le_from_is_member nat_eq_equiv (own_short_ids snapshot es) shorts (distinct_filter (is_in shorts) es (rising_once 1 (2 ^ 32) es h))
    (λ n e. member_in shorts n ∙ is_in_each (λ m. is_in shorts m ≡ true) (own_short_ids snapshot es) n (filter_passed (is_in shorts) es) (sym (member_in (own_short_ids snapshot es) n) ∙ e))

-- ---- sums and bytes

pub sums_bytes : (sums : List ℕ) → are_bytes (bytes_of sums) ≡ true
sums_bytes [] = refl
sums_bytes (s ∷ sums) = bytes_join (to_le_bytes w32 s) (bytes_of sums) (are_bytes-low_first 0 4 s) (sums_bytes sums)

-- sums that bytes spell have 32 bits
pub sums_small : (bytes : List ℕ) → are_bytes bytes ≡ true → AllByRecursion (λ n. n < 2 ^ 32) (sums_in bytes)
unfolding sums_in
sums_small [] h = tt
sums_small (a ∷ []) h = tt
sums_small (a ∷ b ∷ []) h = tt
sums_small (a ∷ b ∷ c ∷ []) h = tt
sums_small (a ∷ b ∷ c ∷ d ∷ rest) h =
    let of_a = and_parts (nat_lt a (2 ^ 8)) (are_bytes (b ∷ c ∷ d ∷ rest)) h in
    let of_b = and_parts (nat_lt b (2 ^ 8)) (are_bytes (c ∷ d ∷ rest)) of_a.1 in
    let of_c = and_parts (nat_lt c (2 ^ 8)) (are_bytes (d ∷ rest)) of_b.1 in
    let of_d = and_parts (nat_lt d (2 ^ 8)) (are_bytes rest) of_c.1 in
    let a_small = ltb-true a (2 ^ 8) of_a.0 in
    let b_small = ltb-true b (2 ^ 8) of_b.0 in
    let c_small = ltb-true c (2 ^ 8) of_c.0 in
    let d_small = ltb-true d (2 ^ 8) of_d.0 in
    (omega (arith, a_small, b_small, c_small, d_small), sums_small rest of_d.1)
