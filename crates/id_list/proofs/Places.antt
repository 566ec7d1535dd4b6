-- Entries by their places, which are numbers that rise.
use Rattle.std.proofs.Common.{◌≡◌, ◌<◌, ◌++◌, ℕ, Bool, true, false, cond, List, [], ◌∷◌, Some, Less, Equal, Greater, find, option_map, ◌==◌, refl, sym, ap, subst, ◌∙◌, arith}
use Rattle.std.specs.Ordering.{nat_cmp, is_eq, match_ordering}
use Rattle.std.specs.List.{AllByRecursion}
use Rattle.std.specs.List.Sorted.{IsStrictlySortedBy}
use Rattle.std.specs.Map.{lookup, keys_of}
use Rattle.std.specs.BTreeMap.{insert_entry, is_at}
use Rattle.std.proofs.lemmas.Bool.{le-ltb, ne_eqb, eq-eqb}
use Rattle.std.proofs.lemmas.Bool.Decides.{nat_tests}
use Rattle.std.proofs.lemmas.Cmp.{ranked}

-- ---- two places

pub above : (a b : ℕ) → b < a → nat_cmp a b ≡ Greater
above a b lt = rw (le-ltb a b (omega arith), ne_eqb a b (λ e. omega arith)) refl

pub equal : (a : ℕ) → nat_cmp a a ≡ Equal
equal a = rw (le-ltb a a (omega arith), eq-eqb a a refl) refl

-- the second of two that rise isn't at the first
pub apart : (a b : ℕ) → nat_cmp a b ≡ Less → is_eq (nat_cmp b a) ≡ false
apart a b e = let lt : a < b = ranked a b Less (sym e) in ap is_eq (above b a lt)

-- it is at the place that is equal to it
is_eq-place : (a b : ℕ) → is_eq (nat_cmp a b) ≡ (b == a)
is_eq-place a b = grind (arith, nat_tests)

module _ {X : Type 0} where
  -- what is so of each key is so of an entry that is found
  pub found_key : (P : ℕ → Type 0) (test : ℕ × X → Bool) (es : List (ℕ × X)) (e : ℕ × X) → AllByRecursion P (keys_of es) → find test es ≡ Some e → P e.0
  found_key P test [] e h f = cc
  found_key P test (x ∷ es) e h f = by_head (test x) f (found_key P test es e h.1)
    where
      by_head : (b : Bool) → cond b (Some x) (find test es) ≡ Some e → (find test es ≡ Some e → P e.0) → P e.0
      by_head true f rest = let same : x ≡ e = cc in subst (λ z. P z.0) same h.0
      by_head false f rest = rest f

  -- what stands at the place of an entry that is found
  pub lookup-place : (test : ℕ × X → Bool) (es : List (ℕ × X)) (e : ℕ × X) → IsStrictlySortedBy nat_cmp (keys_of es) → find test es ≡ Some e → lookup (is_at (nat_cmp e.0)) es ≡ Some e.1
  unfolding IsStrictlySortedBy
  lookup-place test [] e s f = cc
  lookup-place test (x ∷ es) e s f = by_head (test x) f (lookup-place test es e s.1)
    where
      by_head : (b : Bool) → cond b (Some x) (find test es) ≡ Some e → (find test es ≡ Some e → lookup (is_at (nat_cmp e.0)) es ≡ Some e.1) → cond (is_eq (nat_cmp e.0 x.0)) (Some x.1) (lookup (is_at (nat_cmp e.0)) es) ≡ Some e.1
      by_head true f rest = let same : x ≡ e = cc in subst (λ z. cond (is_eq (nat_cmp z.0 x.0)) (Some x.1) (lookup (is_at (nat_cmp z.0)) es) ≡ Some z.1) same (ap (λ o. cond (is_eq o) (Some x.1) (lookup (is_at (nat_cmp x.0)) es)) (equal x.0))
      by_head false f rest =
          ap (λ b. cond b (Some x.1) (lookup (is_at (nat_cmp e.0)) es)) (apart x.0 e.0 (found_key (λ y. nat_cmp x.0 y ≡ Less) test es e s.0 f))
          ∙ rest f

  -- an entry at a place above all comes last
  pub insert_entry-last : (es : List (ℕ × X)) (place : ℕ) (x : X) → AllByRecursion (λ e. e.0 < place) es → insert_entry nat_cmp es place x ≡ es ++ (place, x) ∷ []
  insert_entry-last [] place x h = refl
  insert_entry-last (e ∷ es) place x h =
      ap (λ o. match_ordering o ((place, x) ∷ e ∷ es) ((e.0, x) ∷ es) (e ∷ insert_entry nat_cmp es place x)) (above place e.0 h.0)
      ∙ ap (λ zs. e ∷ zs) (insert_entry-last es place x h.1)

  -- ---- what stands at a place

  pub lookup-find : (es : List (ℕ × X)) (place : ℕ) → lookup (is_at (nat_cmp place)) es ≡ option_map (λ e. e.1) (find (λ e. e.0 == place) es)
  lookup-find [] place = refl
  lookup-find (e ∷ es) place = by_head (e.0 == place) (is_eq-place place e.0) (lookup-find es place)
    where
      by_head : (b : Bool) → is_eq (nat_cmp place e.0) ≡ b → lookup (is_at (nat_cmp place)) es ≡ option_map (λ e. e.1) (find (λ e. e.0 == place) es)
          → cond (is_eq (nat_cmp place e.0)) (Some e.1) (lookup (is_at (nat_cmp place)) es) ≡ option_map (λ e. e.1) (cond b (Some e) (find (λ e. e.0 == place) es))
      by_head true h rest = ap (λ b. cond b (Some e.1) (lookup (is_at (nat_cmp place)) es)) h
      by_head false h rest = ap (λ b. cond b (Some e.1) (lookup (is_at (nat_cmp place)) es)) h ∙ rest

  -- behind one more at the front
  behind : (x : ℕ × X) (es ys : List (ℕ × X)) → AllByRecursion (λ y. nat_cmp x.0 y ≡ Less) (keys_of ys) → AllByRecursion (λ e. lookup (is_at (nat_cmp e.0)) es ≡ Some e.1) ys
      → AllByRecursion (λ e. lookup (is_at (nat_cmp e.0)) (x ∷ es) ≡ Some e.1) ys
  behind x es [] h k = tt
  behind x es (y ∷ ys) h k = (ap (λ b. cond b (Some x.1) (lookup (is_at (nat_cmp y.0)) es)) (apart x.0 y.0 h.0) ∙ k.0, behind x es ys h.1 k.1)

  -- each entry is found at its place
  pub each_found : (es : List (ℕ × X)) → IsStrictlySortedBy nat_cmp (keys_of es) → AllByRecursion (λ e. lookup (is_at (nat_cmp e.0)) es ≡ Some e.1) es
  unfolding IsStrictlySortedBy
  each_found [] s = tt
  each_found (x ∷ es) s = (ap (λ o. cond (is_eq o) (Some x.1) (lookup (is_at (nat_cmp x.0)) es)) (equal x.0), behind x es es s.0 (each_found es s.1))
