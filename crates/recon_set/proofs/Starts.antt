-- Sums of no short ids, and parts of sums.
use Rattle.std.proofs.Common.{◌≡◌, ◌+◌, ◌<◌, ◌≤◌, ◌==◌, ◌≢◌, false, ℕ, zero, suc, List, [], ◌∷◌, map, take, replicate, length, get_or, refl, sym, ap, subst, ◌∙◌, arith}
use Rattle.std.specs.List.{AllByRecursion}
use Rattle.std.proofs.lemmas.Bool.{or_parts, not-true}
use Rattle.std.proofs.lemmas.Cmp.{nat_list_eq_equiv}
use Rattle.base_types.specs.declared.lists.Hash32.{Hash32}
use Rattle.pool_rules.specs.Pools.{is_same_id, is_listed, AreDistinctIds}
use Rattle.pool_rules.specs.Snapshots.{ids_of}
use Rattle.pool_laws.proofs.IdLists.{both_false}
use Rattle.recon_set.specs.Pairs.{pair_ids, pair_members}
use Rattle.field_rules.specs.Ops.{Ops}
use Rattle.field_rules.specs.Elements.{numbers}
use Rattle.field_rules.specs.Numbered.{IsNumbered}
use Rattle.sketch_rules.specs.PowerSums.{power_sum, odd_power_sums}
use Rattle.sketch_rules.specs.Sketches.{sketch_of}
use Rattle.sketch_laws.proofs.SketchNumbers.{sketch_by-numbers}
use Rattle.sketch_laws.proofs.Parts.{odd_power_sums-front}
use Rattle.sketch_laws.proofs.EverySums.{length-odd_power_sums}
use Rattle.std.proofs.lemmas.List.{length-map}

pub all_at : {X : Type 0} (P : X → Type 0) (xs : List X) (i : ℕ) (d : X) → AllByRecursion P xs → i < length xs → P (get_or xs i d)
all_at P [] i d h lt = absurd (omega arith)
all_at P (x ∷ xs) zero d h lt = h.0
all_at P (x ∷ xs) (suc i) d h lt = all_at P xs i d h.1 (omega arith)

pub all_take : {X : Type 0} (P : X → Type 0) (xs : List X) (i : ℕ) → AllByRecursion P xs → AllByRecursion P (take i xs)
all_take P xs zero h = tt
all_take P [] (suc i) h = tt
all_take P (x ∷ xs) (suc i) h = (h.0, all_take P xs i h.1)

map-take : {A B : Type 0} (f : A → B) (xs : List A) (n : ℕ) → map f (take n xs) ≡ take n (map f xs)
map-take f xs zero = refl
map-take f [] (suc n) = refl
map-take f (x ∷ xs) (suc n) = ap (λ zs. f x ∷ zs) (map-take f xs n)

module _ {A : Type 0} (ops : Ops A) (bits_of : A → ℕ) (width : ℕ) (numbered : IsNumbered ops bits_of width) (wide : width ≡ 32) where
  -- the sums of no element are zeros
  sums_of_none : (i n : ℕ) → odd_power_sums ops [] i n ≡ replicate n ops.zero
  unfolding odd_power_sums power_sum
  sums_of_none i zero = refl
  sums_of_none i (suc n) = ap (λ rest. ops.zero ∷ rest) (sums_of_none (i + 1) n)

  pub zeros_are : (c : ℕ) (z : A) → ops.zero ≡ z → map bits_of (replicate c z) ≡ sketch_of [] c
  zeros_are c z is =
      ap (λ x. map bits_of (replicate c x)) (sym is)
      ∙ ap (map bits_of) (sym (sums_of_none 0 c))
      ∙ sketch_by-numbers ops bits_of 32 (subst (IsNumbered ops bits_of) wide numbered) [] c

  pub nonzero : (e : A) (s : ℕ) → bits_of e ≡ s → 0 < s → e ≢ ops.zero
  nonzero e s is lt = λ z. let bits = sym is ∙ ap bits_of z ∙ numbered.zero_bits in absurd (omega arith)

-- the front of sums
pub sums_cut : {A : Type 0} (bits_of : A → ℕ) (sums : List A) (ns : List ℕ) (c k : ℕ) → k ≤ c → map bits_of sums ≡ sketch_of ns c → map bits_of (take k sums) ≡ sketch_of ns k
sums_cut bits_of sums ns c k le are = map-take bits_of sums k ∙ ap (take k) are ∙ odd_power_sums-front (numbers 32) ns 0 c k le

-- as many as the capacity
pub sums_length : {A : Type 0} (bits_of : A → ℕ) (sums : List A) (ns : List ℕ) (c : ℕ) → map bits_of sums ≡ sketch_of ns c → length sums ≡ c
sums_length bits_of sums ns c are = sym (length-map sums bits_of) ∙ ap length are ∙ length-odd_power_sums (numbers 32) ns 0 c

pub positive : (n : ℕ) → (n == 0) ≡ false → 0 < n
positive zero e = cc
positive (suc n) e = omega arith

-- ---- pairs of different ids

unlike : (ps : List (Hash32 × ℕ)) (i : ℕ) (d : Hash32 × ℕ) (id : Hash32) → is_listed (pair_ids ps) id ≡ false → i < length ps → is_same_id (get_or ps i d).0 id ≡ false
unlike [] i d id h lt = absurd (omega arith)
unlike (p ∷ ps) zero d id h lt = (or_parts (is_same_id p.0 id) (is_listed (pair_ids ps) id) h).0
unlike (p ∷ ps) (suc i) d id h lt = unlike ps i d id (or_parts (is_same_id p.0 id) (is_listed (pair_ids ps) id) h).1 (omega arith)

-- a pair's id isn't among those before it
pub unlisted_next : (ps : List (Hash32 × ℕ)) (i : ℕ) (d : Hash32 × ℕ) → AreDistinctIds (pair_ids ps) → i < length ps → is_listed (ids_of (pair_members (take i ps))) (get_or ps i d).0 ≡ false
unfolding AreDistinctIds
unlisted_next [] i d h lt = absurd (omega arith)
unlisted_next (p ∷ ps) zero d h lt = refl
unlisted_next (p ∷ ps) (suc i) d h lt =
    both_false (is_same_id p.0 (get_or ps i d).0) (is_listed (ids_of (pair_members (take i ps))) (get_or ps i d).0)
    (nat_list_eq_equiv.symm p.0.0 (get_or ps i d).0.0 ∙ unlike ps i d p.0 (not-true (is_listed (pair_ids ps) p.0) h.0) (omega arith))
    (unlisted_next ps i d h.1 (omega arith))
