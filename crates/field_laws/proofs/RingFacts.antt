-- What follows from the laws of a ring in which each element is its own negative.
use Rattle.std.proofs.Common.{◌≡◌, sym, ap, ◌∙◌}
use Rattle.field_rules.specs.Ops.{Ops, IsRing}

module _ {A : Type 0} (ops : Ops A) (ring : IsRing ops) where
  -- 0 on the left
  pub zero_plus : (a : A) → ops.plus ops.zero a ≡ a
  zero_plus a = ring.plus_comm ops.zero a ∙ ring.plus_zero a

  -- 1 on the left
  pub one_times : (a : A) → ops.times ops.one a ≡ a
  one_times a = ring.times_comm ops.one a ∙ ring.times_one a

  -- a product by 0
  pub times_zero : (a : A) → ops.times a ops.zero ≡ ops.zero
  times_zero a =
      ap (ops.times a) (sym (ring.plus_self ops.zero)) ∙ ring.distributes a ops.zero ops.zero ∙ ring.plus_self (ops.times a ops.zero)

  -- and by 0 on the left
  pub zero_times : (a : A) → ops.times ops.zero a ≡ ops.zero
  zero_times a = ring.times_comm ops.zero a ∙ times_zero a

  -- the product by a sum on the left
  pub distributes_left : (a b c : A) → ops.times (ops.plus a b) c ≡ ops.plus (ops.times a c) (ops.times b c)
  distributes_left a b c =
      ring.times_comm (ops.plus a b) c
      ∙ ring.distributes c a b
      ∙ ap (λ z. ops.plus z (ops.times c b)) (ring.times_comm c a)
      ∙ ap (ops.plus (ops.times a c)) (ring.times_comm c b)

  -- what is added twice is gone
  pub plus_again : (a b : A) → ops.plus a (ops.plus a b) ≡ b
  plus_again a b = sym (ring.plus_assoc a a b) ∙ ap (λ z. ops.plus z b) (ring.plus_self a) ∙ zero_plus b

  -- equal sums with a are sums of equal elements
  pub plus_cancels : (a b c : A) → ops.plus a b ≡ ops.plus a c → b ≡ c
  plus_cancels a b c e = sym (plus_again a b) ∙ ap (ops.plus a) e ∙ plus_again a c

  -- two elements whose sum is 0 are equal
  pub same_of_sum : (a b : A) → ops.plus a b ≡ ops.zero → a ≡ b
  same_of_sum a b e = plus_cancels b a b (ring.plus_comm b a ∙ e ∙ sym (ring.plus_self b))

  -- the two in the middle are exchanged
  pub plus_swap : (a b c d : A) → ops.plus (ops.plus a b) (ops.plus c d) ≡ ops.plus (ops.plus a c) (ops.plus b d)
  plus_swap a b c d = ring.plus_assoc a b (ops.plus c d) ∙ ap (ops.plus a) middle ∙ sym (ring.plus_assoc a c (ops.plus b d))
    where
      middle : ops.plus b (ops.plus c d) ≡ ops.plus c (ops.plus b d)
      middle = sym (ring.plus_assoc b c d) ∙ ap (λ z. ops.plus z d) (ring.plus_comm b c) ∙ ring.plus_assoc c b d

  -- and so do two factors
  pub times_swap : (a b c d : A) → ops.times (ops.times a b) (ops.times c d) ≡ ops.times (ops.times a c) (ops.times b d)
  times_swap a b c d = ring.times_assoc a b (ops.times c d) ∙ ap (ops.times a) middle ∙ sym (ring.times_assoc a c (ops.times b d))
    where
      middle : ops.times b (ops.times c d) ≡ ops.times c (ops.times b d)
      middle = sym (ring.times_assoc b c d) ∙ ap (λ z. ops.times z d) (ring.times_comm b c) ∙ ring.times_assoc c b d

  -- the square of a sum is the sum of the squares
  pub square_plus : (a b : A) → ops.times (ops.plus a b) (ops.plus a b) ≡ ops.plus (ops.times a a) (ops.times b b)
  square_plus a b =
      ring.distributes (ops.plus a b) a b
      ∙ ap (λ z. ops.plus z (ops.times (ops.plus a b) b)) (distributes_left a b a)
      ∙ ap (ops.plus (ops.plus (ops.times a a) (ops.times b a))) (distributes_left a b b ∙ ring.plus_comm (ops.times a b) (ops.times b b))
      ∙ plus_swap (ops.times a a) (ops.times b a) (ops.times b b) (ops.times a b)
      ∙ ap (ops.plus (ops.plus (ops.times a a) (ops.times b b))) (ap (λ z. ops.plus z (ops.times a b)) (ring.times_comm b a) ∙ ring.plus_self (ops.times a b))
      ∙ ring.plus_zero (ops.plus (ops.times a a) (ops.times b b))
