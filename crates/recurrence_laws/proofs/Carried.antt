-- The search with the discrepancies of the coming items carried along: one multiple of a list for each item, and no sum
-- of products.
use Rattle.std.proofs.Common.{◌≡◌, ℕ, ◌+◌, ◌-◌, ◌<◌, ◌≤◌, List, [], ◌∷◌, length, drop, sym, ap, ◌∙◌, arith}
use Rattle.field_rules.specs.Ops.{Ops, IsRing}
use Rattle.field_rules.specs.Fields.{dot_of}
use Rattle.poly_rules.specs.Polynomials.{coefficient, degree}
use Rattle.recurrence_laws.specs.Solving.{IsSolving, AreDiscrepancies, IsCarried}
use Rattle.recurrence_laws.proofs.Monic.{dot_of-one}
use Rattle.recurrence_laws.proofs.Steps.{mended, grown, degree-mended, degree-grown, dot_of-added, dot_of-raised}

module _ {A : Type 0} (ops : Ops A) (ring : IsRing ops) where
  -- before the first item both lists are the items
  pub carried_none : (s : List A) → IsCarried ops s 0 (ops.one ∷ []) (ops.one ∷ []) s s
  carried_none s = record { coming = all 0; behind = all (1 - 1 + (1 - 1)) }
    where
      all : (n : ℕ) → AreDiscrepancies ops s (ops.one ∷ []) n s
      all n = record { each = λ j le lt. (let here : j ≡ j - (1 - 1) = omega arith in ap (coefficient ops s) here ∙ sym (dot_of-one ops ring (j - (1 - 1)) s)) }

  later : (s f r : List A) (n m : ℕ) → n ≤ m → AreDiscrepancies ops s f n r → AreDiscrepancies ops s f m r
  later s f r n m le h = record { each = λ j from lt. h.each j (omega arith) lt }

  -- where the next one is zero
  pub carried_kept : (s current saved r q : List A) (n : ℕ) → IsCarried ops s n current saved r q → IsCarried ops s (n + 1) current saved r q
  carried_kept s current saved r q n so_far = record {
    coming = later s current r n (n + 1) (omega arith) so_far.coming;
    behind = so_far.behind;
  }

  module _ (s current saved r q next : List A) (n : ℕ) (k inverse : A) (solving : IsSolving ops s n current saved inverse) (so_far : IsCarried ops s n current saved r q)
      (each : (j : ℕ) → n + 1 ≤ j → j < length s → coefficient ops next j ≡ ops.plus (coefficient ops r j) (ops.times k (coefficient ops q (degree current + degree saved + (j - (n + 1)))))) where
    -- what the lists add up to
    sums : (j : ℕ) → n + 1 ≤ j → j < length s
        → coefficient ops next j ≡ ops.plus (dot_of ops current (drop (j - degree current) s)) (ops.times k (dot_of ops saved (drop (degree current + (j - (n + 1))) s)))
    sums j from lt =
        each j from lt
        ∙ ap (λ z. ops.plus z (ops.times k (coefficient ops q (degree current + degree saved + (j - (n + 1)))))) (so_far.coming.each j (omega arith) lt)
        ∙ ap (λ z. ops.plus (dot_of ops current (drop (j - degree current) s)) (ops.times k z))
        (so_far.behind.each (degree current + degree saved + (j - (n + 1))) (omega arith) (omega (arith, solving.room))
        ∙ (let place : degree current + degree saved + (j - (n + 1)) - degree saved ≡ degree current + (j - (n + 1)) = omega arith in
        ap (λ z. dot_of ops saved (drop z s)) place))

    -- where the saved one mends the current one
    pub carried_mended : n - degree current < degree current → IsCarried ops s (n + 1) (mended ops current saved n k) saved next q
    carried_mended long = record {
      coming = record { each = at };
      behind = later s saved q (degree current + degree saved) (degree (mended ops current saved n k) + degree saved) (omega (arith, same_degree)) so_far.behind;
    }
      where
        same_degree : degree (mended ops current saved n k) ≡ degree current
        same_degree = degree-mended ops ring s current saved n k inverse solving long

        at : (j : ℕ) → n + 1 ≤ j → j < length s → coefficient ops next j ≡ dot_of ops (mended ops current saved n k) (drop (j - degree (mended ops current saved n k)) s)
        at j from lt =
            sums j from lt
            ∙ (let place : degree current + (j - (n + 1)) ≡ j - degree current + (degree current - (n - degree current) - 1) = omega (arith, solving.room) in
            ap (λ z. ops.plus (dot_of ops current (drop (j - degree current) s)) (ops.times k (dot_of ops saved (drop z s)))) place)
            ∙ sym (dot_of-added ops ring k (degree current - (n - degree current) - 1) (j - degree current) current saved s)
            ∙ ap (λ z. dot_of ops (mended ops current saved n k) (drop (j - z) s)) (sym same_degree)

    -- where it grows, and what was the current one's is the saved one's
    pub carried_grown : degree current ≤ n - degree current → IsCarried ops s (n + 1) (grown ops current saved n k) current next r
    carried_grown short = record {
      coming = record { each = at };
      behind = later s current r n (degree (grown ops current saved n k) + degree current) (omega (arith, new_degree)) so_far.coming;
    }
      where
        new_degree : degree (grown ops current saved n k) + degree current ≡ n + 1
        new_degree = degree-grown ops ring s current saved n k inverse solving short

        at : (j : ℕ) → n + 1 ≤ j → j < length s → coefficient ops next j ≡ dot_of ops (grown ops current saved n k) (drop (j - degree (grown ops current saved n k)) s)
        at j from lt =
            sums j from lt
            ∙ (let low : degree current + (j - (n + 1)) ≡ j - degree (grown ops current saved n k) = omega (arith, new_degree, solving.room) in
            ap (λ z. ops.plus (dot_of ops current (drop (j - degree current) s)) (ops.times k (dot_of ops saved (drop z s)))) low)
            ∙ (let high : j - degree current ≡ j - degree (grown ops current saved n k) + (n - degree current - degree current + 1) = omega (arith, new_degree, solving.room) in
            ap (λ z. ops.plus (dot_of ops current (drop z s)) (ops.times k (dot_of ops saved (drop (j - degree (grown ops current saved n k)) s)))) high)
            ∙ sym (dot_of-raised ops ring k (n - degree current - degree current + 1) (j - degree (grown ops current saved n k)) current saved s)
