-- Entries as members.
use Rattle.std.proofs.Common.{◌≡◌, ◌++◌, ◌+◌, ◌==◌, ℕ, suc, Bool, true, false, cond, List, [], ◌∷◌, Some, find, filter, length, option_map, refl, sym, ap, subst, ◌∙◌}
use Rattle.std.specs.List.{AllByRecursion, count_by}
use Rattle.id_list.specs.declared.list.Entry.{Entry}
use Rattle.id_list.specs.Entries.{ids_in}
use Rattle.pool_rules.specs.Snapshots.{Member, ids_of}
use Rattle.pool_laws.proofs.Singles.{count_by-cons}
use Rattle.recon_set.specs.Members.{member, members_of}
use Rattle.recon_set.specs.Groups.{count_at}

pub ids_of-members : (es : List (ℕ × Entry ℕ)) → ids_of (members_of es) ≡ ids_in es
ids_of-members [] = refl
ids_of-members (e ∷ es) = ap (λ zs. e.1.id ∷ zs) (ids_of-members es)

pub length-members : (es : List (ℕ × Entry ℕ)) → length (members_of es) ≡ length es
length-members [] = refl
length-members (e ∷ es) = ap suc (length-members es)

pub members_of-append : (es : List (ℕ × Entry ℕ)) (e : ℕ × Entry ℕ) → members_of (es ++ e ∷ []) ≡ members_of es ++ member e.1 ∷ []
members_of-append [] e = refl
members_of-append (x ∷ es) e = ap (λ zs. member x.1 ∷ zs) (members_of-append es e)

pub count_by-members : (es : List (ℕ × Entry ℕ)) (s : ℕ) → count_by (λ m. m.short == s) (members_of es) ≡ count_at es s
count_by-members [] s = refl
count_by-members (e ∷ es) s =
    count_by-cons (λ m. m.short == s) (member e.1) (members_of es)
    ∙ ap (λ n. cond (e.1.value == s) 1 0 + n) (count_by-members es s)
    ∙ sym (count_by-cons (λ e. e.1.value == s) e es)

pub find-members : (t : Member → Bool) (es : List (ℕ × Entry ℕ)) → find t (members_of es) ≡ option_map (λ e. member e.1) (find (λ e. t (member e.1)) es)
find-members t [] = refl
find-members t (e ∷ es) = by_head (t (member e.1)) (find-members t es)
  where
    by_head : (b : Bool) → find t (members_of es) ≡ option_map (λ e. member e.1) (find (λ e. t (member e.1)) es)
        → cond b (Some (member e.1)) (find t (members_of es)) ≡ option_map (λ e. member e.1) (cond b (Some e) (find (λ e. t (member e.1)) es))
    by_head true rest = refl
    by_head false rest = rest

pub filter-members : (t : Member → Bool) (es : List (ℕ × Entry ℕ)) → members_of (filter (λ e. t (member e.1)) es) ≡ filter t (members_of es)
filter-members t [] = refl
filter-members t (e ∷ es) = by_head (t (member e.1)) (filter-members t es)
  where
    by_head : (b : Bool) → members_of (filter (λ e. t (member e.1)) es) ≡ filter t (members_of es)
        → members_of (cond b (e ∷ filter (λ e. t (member e.1)) es) (filter (λ e. t (member e.1)) es)) ≡ cond b (member e.1 ∷ filter t (members_of es)) (filter t (members_of es))
    by_head true rest = ap (λ zs. member e.1 ∷ zs) rest
    by_head false rest = rest

-- what is so of each entry is so of one that is found
pub found_entry : {X : Type 0} (P : X → Type 0) (t : X → Bool) (xs : List X) (x : X) → AllByRecursion P xs → find t xs ≡ Some x → P x
found_entry P t [] x h f = cc
found_entry P t (y ∷ ys) x h f = by_head (t y) f (found_entry P t ys x h.1)
  where
    by_head : (b : Bool) → cond b (Some y) (find t ys) ≡ Some x → (find t ys ≡ Some x → P x) → P x
    by_head true f rest = let same : y ≡ x = cc in subst P same h.0
    by_head false f rest = rest f

-- and what is found passes
pub found_passes : {X : Type 0} (t : X → Bool) (xs : List X) (x : X) → find t xs ≡ Some x → t x ≡ true
found_passes t [] x f = cc
found_passes t (y ∷ ys) x f = by_head (t y) refl f (found_passes t ys x)
  where
    by_head : (b : Bool) → t y ≡ b → cond b (Some y) (find t ys) ≡ Some x → (find t ys ≡ Some x → t x ≡ true) → t x ≡ true
    by_head true h f rest = let same : y ≡ x = cc in subst (λ z. t z ≡ true) same h
    by_head false h f rest = rest f
