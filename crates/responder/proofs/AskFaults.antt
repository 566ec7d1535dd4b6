-- The test of asks from the left, against a set of those before.
use Rattle.std.proofs.Common.{◌≡◌, ◌+◌, ◌==◌, ◌<◌, ◌≤◌, ◌||◌, ℕ, Bool, true, false, cond, List, [], ◌∷◌, Some, None, length, get_or, drop, add-one, refl, sym, ap, ◌∙◌}
use Rattle.std.specs.List.{list_any}
use Rattle.std.specs.Ordering.{nat_cmp, is_eq}
use Rattle.std.specs.BTreeMap.{is_at}
use Rattle.std.specs.Cmp.{unsigned_tied}
use Rattle.std.proofs.Math.Seq.{drop-cons}
use Rattle.std.proofs.lemmas.List.{drop_all}
use Rattle.node_rules.specs.Outcomes.{is_in}
use Rattle.node_rules.specs.Accepter.{ask_fault}
use Rattle.node_rules.specs.declared.end.End.TheVariants.{UnknownShortId, AskRepeated}

-- i asks passed, the kept ones are those of them
pub record AreChecked (shorts asks kept : List ℕ) (i : ℕ) : Type 0 where
  pub before : List ℕ
  pub same : (n : ℕ) → list_any (is_at (nat_cmp n)) kept ≡ is_in before n
  pub rest : ask_fault shorts before (drop i asks) ≡ ask_fault shorts [] asks

pub are_checked-none : (shorts asks kept : List ℕ) → kept ≡ [] → AreChecked shorts asks kept 0
are_checked-none shorts asks kept none = record { before = []; same = λ n. ap (list_any (is_at (nat_cmp n))) none; rest = refl }

either : (b c : Bool) → cond b true c ≡ (b || c)
either true c = refl
either false c = refl

module _ (shorts asks kept : List ℕ) (i : ℕ) (checked : AreChecked shorts asks kept i) (lt : i < length asks) (n : ℕ) (is : n ≡ get_or asks i 0) where
  next : ask_fault shorts checked.before (n ∷ drop (i + 1) asks) ≡ ask_fault shorts [] asks
  next =
      let front : drop i asks ≡ get_or asks i 0 ∷ drop (i + 1) asks = rw (add-one, drop-cons asks i 0) refl in
      sym (ap (ask_fault shorts checked.before) (front ∙ ap (λ m. m ∷ drop (i + 1) asks) (sym is))) ∙ checked.rest

  pub unknown : is_in shorts n ≡ false → ask_fault shorts [] asks ≡ Some (UnknownShortId n)
  unfolding ask_fault
  unknown out = sym next ∙ ap (λ b. cond b (cond (is_in checked.before n) (Some (AskRepeated n)) (ask_fault shorts (n ∷ checked.before) (drop (i + 1) asks))) (Some (UnknownShortId n))) out

  pub repeated : is_in shorts n ≡ true → list_any (is_at (nat_cmp n)) kept ≡ true → ask_fault shorts [] asks ≡ Some (AskRepeated n)
  unfolding ask_fault
  repeated within twice =
      sym next
      ∙ ap (λ b. cond b (cond (is_in checked.before n) (Some (AskRepeated n)) (ask_fault shorts (n ∷ checked.before) (drop (i + 1) asks))) (Some (UnknownShortId n))) within
      ∙ ap (λ b. cond b (Some (AskRepeated n)) (ask_fault shorts (n ∷ checked.before) (drop (i + 1) asks))) (sym (checked.same n) ∙ twice)

  pub passed : (more : List ℕ) → is_in shorts n ≡ true → list_any (is_at (nat_cmp n)) kept ≡ false
      → ((k : ℕ) → list_any (is_at (nat_cmp k)) more ≡ cond (is_eq (nat_cmp n k)) true (list_any (is_at (nat_cmp k)) kept))
      → AreChecked shorts asks more (i + 1)
  unfolding ask_fault
  passed more within new updates = record {
    before = n ∷ checked.before;
    same = λ k. updates k ∙ ap (λ b. cond b true (list_any (is_at (nat_cmp k)) kept)) (unsigned_tied n k) ∙ ap (λ b. cond (n == k) true b) (checked.same k) ∙ either (n == k) (is_in checked.before k);
    rest =
        sym
        (sym next
        ∙ ap (λ b. cond b (cond (is_in checked.before n) (Some (AskRepeated n)) (ask_fault shorts (n ∷ checked.before) (drop (i + 1) asks))) (Some (UnknownShortId n))) within
        ∙ ap (λ b. cond b (Some (AskRepeated n)) (ask_fault shorts (n ∷ checked.before) (drop (i + 1) asks))) (sym (checked.same n) ∙ new));
  }

-- no ask is left
pub all_passed : (shorts asks kept : List ℕ) (i : ℕ) → AreChecked shorts asks kept i → length asks ≤ i → ask_fault shorts [] asks ≡ None
unfolding ask_fault
all_passed shorts asks kept i checked le = sym checked.rest ∙ ap (ask_fault shorts checked.before) (drop_all i asks le)
