-- Holdings as their parts are changed.
use Rattle.std.proofs.Common.{◌≡◌, ℕ, ◌+◌, ◌<◌, false, List, [], ◌∷◌, ◌++◌, length, take, drop, get_or, append_assoc, refl, sym, ap, ◌∙◌, subst, map}
use Rattle.std.specs.Map.{values_of}
use Rattle.std.proofs.lemmas.List.{take_more, take-append-drop}
use Rattle.base_types.specs.declared.lists.Hash32.{Hash32}
use Rattle.pool_rules.specs.Pools.{Transaction, is_listed, AreDistinctIds}
use Rattle.pool_laws.proofs.IdLists.{distinct_left, distinct_apart}
use Rattle.id_list.specs.declared.list.Entry.{Entry}
use Rattle.id_list.specs.Entries.{ids_in}
use Rattle.relay_store.specs.Holdings.{Holdings}

abbrev pub holdings : List Transaction → List Hash32 → List Hash32 → List Hash32 → Holdings
holdings pool wanted asked served = record { pool = pool; wants = record { wanted = wanted; asked = asked; served = served } }

abbrev pub no_id : Hash32
no_id = record { 0 = [] }

-- of distinct ids one behind others isn't among these
pub distinct_next : (xs ys : List Hash32) (k : ℕ) → k < length ys → AreDistinctIds (xs ++ ys) → is_listed (xs ++ take k ys) (get_or ys k no_id) ≡ false
distinct_next xs ys k below once =
    let here : (xs ++ take (k + 1) ys) ≡ ((xs ++ take k ys) ++ get_or ys k no_id ∷ []) = ap (λ zs. xs ++ zs) (take_more ys k no_id below) ∙ sym (append_assoc xs (take k ys) (get_or ys k no_id ∷ [])) in
    let front : AreDistinctIds (xs ++ take (k + 1) ys) = distinct_left (xs ++ take (k + 1) ys) (drop (k + 1) ys)
    (subst AreDistinctIds (ap (λ zs. xs ++ zs) (sym (take-append-drop (k + 1) ys)) ∙ sym (append_assoc xs (take (k + 1) ys) (drop (k + 1) ys))) once) in
    (distinct_apart (xs ++ take k ys) (get_or ys k no_id ∷ []) (subst AreDistinctIds here front)).0

-- the ids of the entries that a list goes over
pub values_ids : {V : Type 0} (es : List (ℕ × Entry V)) → map (λ e. e.id) (values_of es) ≡ ids_in es
values_ids [] = refl
values_ids (e ∷ es) = ap (λ zs. e.1.id ∷ zs) (values_ids es)
