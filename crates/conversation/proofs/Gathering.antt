-- Ids as the members of a set, one after another.
use Rattle.std.proofs.Common.{◌≡◌, ◌<◌, ◌≤◌, false, ℕ, zero, suc, List, [], ◌∷◌, take, length, get_or, refl, ap, ◌∙◌, arith}
use Rattle.std.proofs.lemmas.List.{length-map}
use Rattle.pool_rules.specs.declared.limits.TheConstants.{POOL_LIMIT}
use Rattle.std.proofs.lemmas.Bool.{or_parts, not-true}
use Rattle.std.proofs.lemmas.Cmp.{nat_list_eq_equiv}
use Rattle.base_types.specs.declared.lists.Hash32.{Hash32}
use Rattle.id_rules.specs.Ids.{KeyPair}
use Rattle.pool_rules.specs.Pools.{is_same_id, is_listed, AreDistinctIds}
use Rattle.pool_rules.specs.Snapshots.{Member, ids_of, member_of, members}
use Rattle.pool_laws.proofs.IdLists.{both_false}

unlike : (ids : List Hash32) (i : ℕ) (d id : Hash32) → is_listed ids id ≡ false → i < length ids → is_same_id (get_or ids i d) id ≡ false
unlike [] i d id h lt = absurd (omega arith)
unlike (x ∷ xs) zero d id h lt = (or_parts (is_same_id x id) (is_listed xs id) h).0
unlike (x ∷ xs) (suc i) d id h lt = unlike xs i d id (or_parts (is_same_id x id) (is_listed xs id) h).1 (omega arith)

-- an id isn't among those before it
pub unlisted_next : (keys : KeyPair) (ids : List Hash32) (i : ℕ) (d : Hash32) → AreDistinctIds ids → i < length ids → is_listed (ids_of (members keys (take i ids))) (get_or ids i d) ≡ false
unfolding AreDistinctIds
unlisted_next keys [] i d h lt = absurd (omega arith)
unlisted_next keys (x ∷ xs) zero d h lt = refl
unlisted_next keys (x ∷ xs) (suc i) d h lt =
    both_false (is_same_id x (get_or xs i d)) (is_listed (ids_of (members keys (take i xs))) (get_or xs i d))
    (nat_list_eq_equiv.symm x.0 (get_or xs i d).0 ∙ unlike xs i d x (not-true (is_listed xs x) h.0) (omega arith))
    (unlisted_next keys xs i d h.1 (omega arith))

taken_few : {A : Type 0} (xs : List A) (i : ℕ) → length (take i xs) ≤ i
taken_few [] zero = omega arith
taken_few [] (suc i) = omega arith
taken_few (x ∷ xs) zero = omega arith
taken_few (x ∷ xs) (suc i) = let rest = taken_few xs i in omega (arith, rest)

pub few_members : (keys : KeyPair) (ids : List Hash32) (set : List Member) (i : ℕ) → set ≡ members keys (take i ids) → i < length ids → length ids ≤ POOL_LIMIT → length set < POOL_LIMIT
few_members keys ids set i made lt few =
    let size : length set ≡ length (take i ids) = ap length made ∙ length-map (take i ids) (member_of keys) in
    let short = taken_few ids i in
    omega (arith, size, short, lt, few)
