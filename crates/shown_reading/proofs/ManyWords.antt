-- Words that stand for a list, one value each.
use Rattle.std.proofs.Common.{◌≡◌, ℕ, Bool, true, List, [], ◌∷◌, ◌++◌, Err, map, refl, sym, ap, subst, ◌∙◌, append_assoc, append-nil}
use Rattle.std.specs.Prelude.{IsTrue}
use Rattle.std.specs.List.{list_all}
use Rattle.std.proofs.lemmas.Bool.{and_from, and_parts}
use Rattle.wire_laws.proofs.Parts.{all_join}
use Rattle.shown_reading.specs.Reads.{IsOnly}
use Rattle.shown_reading.specs.declared.fault.ShownFault.{ShownFault}
use Rattle.shown_reading.proofs.OneWord.{Only, failed}

module _ {A : Type 0} (spell : A → List ℕ) (fits : A → Bool) where
  -- these are the values of the words before the ones that are left
  pub record IsUpTo (words : List (List ℕ)) (out : List A) (left : List (List ℕ)) : Type 0 where
    pub fit : list_all fits out ≡ true
    pub rest : (ys : List A) → list_all fits ys ≡ true → words ≡ map spell ys → (more : List A) × (ys ≡ out ++ more) × (list_all fits more ≡ true) × (left ≡ map spell more)

  pub none_yet : (words left : List (List ℕ)) (out : List A) → out ≡ [] → left ≡ words → IsUpTo words out left
  none_yet words left out none is = subst (λ (xs : List A). IsUpTo words xs left) (sym none) (record { fit = refl; rest = λ ys h e. (ys, refl, h, is ∙ e) })

  one_more : (x : A) (ys out : List A) (word : List ℕ) (next : List (List ℕ)) → Only fits (λ y. word ≡ spell y) x → (more : List A) → ys ≡ out ++ more → list_all fits more ≡ true → word ∷ next ≡ map spell more
      → (more : List A) × (ys ≡ (out ++ x ∷ []) ++ more) × (list_all fits more ≡ true) × (next ≡ map spell more)
  one_more x ys out word next only [] is h e = absurd (cc)
  one_more x ys out word next only (y ∷ more) is h e =
      let tests = and_parts (fits y) (list_all fits more) h in
      let first : word ≡ spell y = cc in
      let others : next ≡ map spell more = cc in
      let same = only.1 y tests.0 first in
      (more, is ∙ (ap (λ z. out ++ z ∷ more) same ∙ sym (append_assoc out (x ∷ []) more)), tests.1, others)

  pub next_one : (words left next : List (List ℕ)) (out pushed : List A) (word : List ℕ) (x : A) → IsUpTo words out left → left ≡ word ∷ next → Only fits (λ y. word ≡ spell y) x → pushed ≡ out ++ x ∷ [] → IsUpTo words pushed next
  next_one words left next out pushed word x up is only put = subst (λ (xs : List A). IsUpTo words xs next) (sym put) (record {
    fit = all_join fits out (x ∷ []) up.fit (and_from (fits x) true only.0 refl);
    rest = λ ys h e. let r = up.rest ys h e in one_more x ys out word next only r.0 r.1 r.2 (sym is ∙ r.3);
  })

  first_by : (ys out : List A) (word : List ℕ) (next : List (List ℕ)) (more : List A) → list_all fits more ≡ true → word ∷ next ≡ map spell more → (x : A) × IsTrue (fits x) × (word ≡ spell x)
  first_by ys out word next [] h e = absurd (cc)
  first_by ys out word next (y ∷ more) h e = (y, (and_parts (fits y) (list_all fits more) h).0, cc)

  pub next_failed : (words left next : List (List ℕ)) (out : List A) (word : List ℕ) (e : ShownFault) → IsUpTo words out left → left ≡ word ∷ next → IsOnly fits (λ y. word ≡ spell y) (Err e)
      → IsOnly (list_all fits) (λ ys. words ≡ map spell ys) (Err e)
  next_failed words left next out word e up is none =
      failed fits (λ y. word ≡ spell y) (list_all fits) (λ ys. words ≡ map spell ys) e
      (λ ys h same. let r = up.rest ys h same in first_by ys out word next r.0 r.2 (sym is ∙ r.3)) none

  none_left : (ys out more : List A) → ys ≡ out ++ more → [] ≡ map spell more → ys ≡ out
  none_left ys out [] is e = is ∙ append-nil out
  none_left ys out (y ∷ more) is e = absurd (cc)

  pub all_read : (words left : List (List ℕ)) (out made : List A) → IsUpTo words out left → left ≡ [] → made ≡ out → Only (list_all fits) (λ ys. words ≡ map spell ys) made
  all_read words left out made up none is = subst (Only (list_all fits) (λ ys. words ≡ map spell ys)) (sym is) (
    up.fit,
    λ ys h e. let r = up.rest ys h e in none_left ys out r.0 r.1 (sym none ∙ r.3),
  )
