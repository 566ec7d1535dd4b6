-- A half of a set, and what is left.
use Rattle.std.proofs.Common.{◌≡◌, ℕ, ◌+◌, ◌-◌, ◌≤◌, List, [], length, sym, ap, subst, ◌∙◌, arith, refl}
use Rattle.std.specs.Prelude.{filter, not}
use Rattle.std.proofs.lemmas.List.{get_or_default}
use Rattle.field_rules.specs.Ops.{Ops, IsRing}
use Rattle.field_rules.specs.Fields.{IsField}
use Rattle.field_rules.specs.Numbered.{IsNumbered}
use Rattle.poly_rules.specs.Polynomials.{degree, product_of, IsMonic, IsSamePolynomial}
use Rattle.poly_rules.specs.Roots.{with_roots}
use Rattle.poly_laws.proofs.Products.{product_comm}
use Rattle.poly_laws.proofs.Roots.{with_roots-monic}
use Rattle.poly_laws.proofs.Sums.{same_along, same_back}
use Rattle.splitting_laws.proofs.Factors.{with_roots-parts}
use Rattle.splitting_laws.proofs.Parts.{parts-length, parts-together}
use Rattle.sequence_laws.specs.Parts.{IsPart, IsHalf, AreCorrelations}
use Rattle.sequence_laws.proofs.Steps.{half_part, other_part}
use Rattle.trace_roots.specs.Parts.{HasFittingSizes, IsSplit}

module _ {A : Type 0} (ops : Ops A) (ring : IsRing ops) where
  pub degree_of_set : (f es : List A) → f ≡ with_roots ops es → degree f ≡ length es
  degree_of_set f es is = let monic : IsMonic ops (length es) (with_roots ops es) = with_roots-monic ops ring es in omega (arith, ap length is, monic.size)

  -- correlations are as many items as are asked for
  pub correlations_fit : (f h : List A) (n : ℕ) (sequences correlations : List (List A)) → AreCorrelations ops h n sequences correlations → n ≡ degree f → 1 ≤ n → HasFittingSizes f correlations
  correlations_fit f h n sequences correlations made is some = record {
    some = omega arith;
    sizes = λ i d lt. ap length (get_or_default correlations i d [] lt) ∙ (made.each i (omega (arith, made.size))).size ∙ is;
  }

  module _ (bits_of : A → ℕ) (width first : ℕ) (u : A → A) (es f g : List A) (traces : List (List A)) (part : IsPart ops bits_of width first u es f traces) (half : IsHalf ops bits_of width first es g) where
    -- the polynomial of the other members
    abbrev pub others : List A
    others = with_roots ops (filter (λ e. not (half.test e)) es)

    pub others_monic : IsMonic ops (degree others) others
    others_monic =
        let monic : IsMonic ops (length (filter (λ e. not (half.test e)) es)) others = with_roots-monic ops ring (filter (λ e. not (half.test e)) es) in
        let same : length (filter (λ e. not (half.test e)) es) ≡ degree others = omega (arith, monic.size) in
        subst (λ n. IsMonic ops n others) same monic

    -- times the half's it is the whole's
    pub others_times : IsSamePolynomial ops f (product_of ops others g)
    others_times =
        subst (λ z. IsSamePolynomial ops z (product_of ops others g)) (sym part.locator_is)
        (subst (λ z. IsSamePolynomial ops (with_roots ops es) (product_of ops others z)) (sym half.polynomial)
        (same_back ops (same_along ops (product_comm ops ring others (with_roots ops (filter half.test es))) (with_roots-parts ops ring half.test es))))

    -- neither is empty, and together they are the whole
    pub half_sizes : (degree f ≡ degree g + degree others) × (1 ≤ degree g) × (1 ≤ degree others)
    half_sizes =
        let whole : degree f ≡ length es = degree_of_set f es part.locator_is in
        let one : degree g ≡ length (filter half.test es) = degree_of_set g (filter half.test es) half.polynomial in
        let rest : degree others ≡ length (filter (λ e. not (half.test e)) es) = degree_of_set others (filter (λ e. not (half.test e)) es) refl in
        (omega (arith, whole, one, rest, parts-length half.test es), omega (arith, one, half.some), omega (arith, rest, half.rest))

    -- each takes the correlations with the other's polynomial, where g', h' and the lists s and t are what the calls were given
    module _ (field : IsField ops width) (numbered : IsNumbered ops bits_of width) where
      pub split_of_half : (g' h h' : List A) (s t ts vs : List (List A)) (m n : ℕ) → h ≡ others → g' ≡ g → h' ≡ h → s ≡ traces → t ≡ traces → m ≡ degree g → n ≡ degree f - degree g
          → AreCorrelations ops h' m s ts → AreCorrelations ops g' n t vs → IsSplit ops bits_of width first es g ts h vs
      split_of_half g' h h' s t ts vs m n h_is g_same h_same s_is t_is m_is n_is made also = record {
        left = filter half.test es;
        right = filter (λ e. not (half.test e)) es;
        left_unit = _;
        right_unit = _;
        together = parts-together half.test es;
        left_part =
            half_part ops ring bits_of width field numbered first u es f g h traces ts half.test part half.polynomial h_is
            (subst (λ z. AreCorrelations ops z (length (filter half.test es)) traces ts) h_same
            (subst (λ z. AreCorrelations ops h' (length (filter half.test es)) z ts) s_is
            (subst (λ z. AreCorrelations ops h' z s ts) (m_is ∙ degree_of_set g (filter half.test es) half.polynomial) made)));
        right_part =
            other_part ops ring bits_of width field numbered first u es f g h traces vs half.test part half.polynomial h_is
            (subst (λ z. AreCorrelations ops z (length (filter (λ e. not (half.test e)) es)) traces vs) g_same
            (subst (λ z. AreCorrelations ops g' (length (filter (λ e. not (half.test e)) es)) z vs) t_is
            (subst (λ z. AreCorrelations ops g' z t vs) (n_is ∙ rest_size) also)));
        left_alike = half.alike;
        right_alike = half.rest_alike;
      }
        where
          rest_size : degree f - degree g ≡ length (filter (λ e. not (half.test e)) es)
          rest_size =
              let rest : degree others ≡ length (filter (λ e. not (half.test e)) es) = degree_of_set others (filter (λ e. not (half.test e)) es) refl in
              omega (arith, rest, half_sizes.0)
