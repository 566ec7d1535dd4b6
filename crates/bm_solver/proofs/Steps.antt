-- The steps of the search, by the numbers that the code has.
use Rattle.std.proofs.Common.{◌≡◌, ℕ, ◌+◌, ◌-◌, ◌<◌, ◌≤◌, List, [], ◌∷◌, ◌++◌, length, get_or, drop, replicate, refl, sym, ap, subst, ◌∙◌, arith}
use Rattle.std.proofs.lemmas.List.{get_or_read_under}
use Rattle.field_rules.specs.Ops.{Ops, IsRing}
use Rattle.field_rules.specs.Fields.{dot_of}
use Rattle.poly_rules.specs.Polynomials.{coefficient, degree, sum_of, scalar_multiple}
use Rattle.recurrence_laws.specs.Solving.{IsSolving, IsCarried}
use Rattle.recurrence_laws.proofs.Steps.{solving_none, solving_kept, solving_mended, solving_grown}
use Rattle.recurrence_laws.proofs.Carried.{carried_none, carried_kept, carried_mended, carried_grown}
use Rattle.recurrence_laws.proofs.Steps as step
use Rattle.bm_solver.specs.Searches.{IsSearching}

module _ {A : Type 0} (ops : Ops A) (ring : IsRing ops) where
  -- before the first item
  pub started : {s current saved r q room : List A} {inverse : A} → current ≡ ops.one ∷ [] → saved ≡ ops.one ∷ [] → inverse ≡ ops.one → r ≡ s → q ≡ s → room ≡ s
      → IsSearching ops s 0 current saved inverse r q room
  started {s} {current} {saved} {r} {q} {room} {inverse} is_current is_saved is_inverse is_r is_q is_room =
      rw (is_current, is_saved, is_inverse, is_r, is_q, is_room) record {
        within = omega arith;
        solving = solving_none ops ring s;
        carried = carried_none ops ring s;
        current_size = refl;
        saved_size = refl;
        room_size = refl;
      }

module _ {A : Type 0} (ops : Ops A) (ring : IsRing ops) {s current saved r q room : List A} {n : ℕ} {inverse : A} (so_far : IsSearching ops s n current saved inverse r q room) (inside : n < length s) where
  -- the item at n, whose discrepancy is d
  module _ {d : A} (is : d ≡ get_or r n d) where
    pub discrepancy_is : d ≡ dot_of ops current (drop (n - degree current) s)
    discrepancy_is = get_or_read_under r n (length r) d ops.zero is (omega (arith, so_far.current_size)) refl ∙ so_far.carried.coming.each n (omega arith) inside

    pub kept : d ≡ ops.zero → IsSearching ops s (n + 1) current saved inverse r q room
    kept none = record {
      within = omega arith;
      solving = solving_kept ops ring s current saved n inverse so_far.solving (sym discrepancy_is ∙ none);
      carried = carried_kept ops ring s current saved r q n so_far.carried;
      current_size = so_far.current_size;
      saved_size = so_far.saved_size;
      room_size = so_far.room_size;
    }

    -- where size and saved_size are how many coefficients there are, and k is by how much the saved one is multiplied
    module _ (size saved_size : ℕ) (k : A) (next : List A) (size_is : size ≡ length current) (saved_size_is : saved_size ≡ length saved) (k_is : k ≡ ops.times d inverse)
        (next_size : length next ≡ length r)
        (each : (j : ℕ) → n + 1 ≤ j → j < length r → coefficient ops next j ≡ ops.plus (coefficient ops r j) (ops.times k (coefficient ops q (size - 1 + (saved_size - 1) + (j - (n + 1)))))) where
      each_by_degrees : (j : ℕ) → n + 1 ≤ j → j < length s
          → coefficient ops next j ≡ ops.plus (coefficient ops r j) (ops.times (ops.times d inverse) (coefficient ops q (degree current + degree saved + (j - (n + 1)))))
      each_by_degrees j from lt =
          each j from (omega (arith, so_far.current_size))
          ∙ ap (λ z. ops.plus (coefficient ops r j) (ops.times z (coefficient ops q (size - 1 + (saved_size - 1) + (j - (n + 1)))))) k_is
          ∙ (let here : size - 1 + (saved_size - 1) + (j - (n + 1)) ≡ degree current + degree saved + (j - (n + 1)) = omega arith in
          ap (λ z. ops.plus (coefficient ops r j) (ops.times (ops.times d inverse) (coefficient ops q z))) here)

      pub mended : {new : List A} → n - (size - 1) < size - 1
          → new ≡ sum_of ops current (replicate (size - 1 - (n - (size - 1)) - 1) ops.zero ++ scalar_multiple ops k saved)
          → IsSearching ops s (n + 1) new saved inverse next q room
      mended {new} long new_is = record {
        within = omega arith;
        solving = subst (λ z. IsSolving ops s (n + 1) z saved inverse) (sym new_form) (solving_mended ops ring s current saved n d inverse so_far.solving discrepancy_is (omega arith));
        carried = subst (λ z. IsCarried ops s (n + 1) z saved next q) (sym new_form)
            (carried_mended ops ring s current saved r q next n (ops.times d inverse) inverse so_far.solving so_far.carried each_by_degrees (omega arith));
        current_size = next_size ∙ so_far.current_size;
        saved_size = so_far.saved_size;
        room_size = so_far.room_size;
      }
        where
          new_form : new ≡ step.mended ops current saved n (ops.times d inverse)
          new_form =
              new_is
              ∙ ap (λ z. sum_of ops current (replicate (size - 1 - (n - (size - 1)) - 1) ops.zero ++ scalar_multiple ops z saved)) k_is
              ∙ ap (λ z. sum_of ops current (replicate (z - 1 - (n - (z - 1)) - 1) ops.zero ++ scalar_multiple ops (ops.times d inverse) saved)) size_is

      pub grown : {new later : List A} {following : A} → size - 1 ≤ n - (size - 1)
          → new ≡ sum_of ops (replicate (n - (size - 1) - (size - 1) + 1) ops.zero ++ current) (scalar_multiple ops k saved)
          → ops.times d following ≡ ops.one → length later ≡ length r
          → IsSearching ops s (n + 1) new current following next r later
      grown {new} {later} {following} short new_is following_is size_of_room = record {
        within = omega arith;
        solving = subst (λ z. IsSolving ops s (n + 1) z current following) (sym new_form) (solving_grown ops ring s current saved n d inverse following so_far.solving discrepancy_is (omega arith) following_is);
        carried = subst (λ z. IsCarried ops s (n + 1) z current next r) (sym new_form)
            (carried_grown ops ring s current saved r q next n (ops.times d inverse) inverse so_far.solving so_far.carried each_by_degrees (omega arith));
        current_size = next_size ∙ so_far.current_size;
        saved_size = so_far.current_size;
        room_size = size_of_room ∙ so_far.current_size;
      }
        where
          new_form : new ≡ step.grown ops current saved n (ops.times d inverse)
          new_form =
              new_is
              ∙ ap (λ z. sum_of ops (replicate (n - (size - 1) - (size - 1) + 1) ops.zero ++ current) (scalar_multiple ops z saved)) k_is
              ∙ ap (λ z. sum_of ops (replicate (n - (z - 1) - (z - 1) + 1) ops.zero ++ current) (scalar_multiple ops (ops.times d inverse) saved)) size_is
