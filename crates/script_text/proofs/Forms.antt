-- The events of a line, by its form.
use Rattle.std.proofs.Common.{◌≡◌, ℕ, List, [], ◌∷◌, Bool, true, false, length, take, drop, codes, bytes_eq, Ok, Err, refl, sym, ap, ◌∙◌}
use Rattle.std.specs.Bool.{Decides}
use Rattle.std.proofs.lemmas.Slice.Eq.{bytes_eq-Decides}
use Rattle.base_types.specs.declared.text.Kind.TheVariants as kind
use Rattle.line_rules.specs.Lines.{begins_with}
use Rattle.pair_rules.specs.World.{deliveries}
use Rattle.pair_rules.specs.declared.event.Event.TheVariants as event
use Rattle.protocol_text_rules.specs.Scripts.{addition, delivered_bytes, delivery, line_events}

-- what was asked of a line
pub line_test : (line read written : List ℕ) {test b : Bool} → test ≡ bytes_eq line read → read ≡ written → test ≡ b → bytes_eq line written ≡ b
line_test line read written asked same is = sym (asked ∙ ap (bytes_eq line) same) ∙ is

same_tests : {P Q : Type 0} (b c : Bool) → Decides b P → Decides c Q → (P → Q) → (Q → P) → b ≡ c
same_tests true c p q to from = sym (q.1 (to (p.0 refl)))
same_tests false true p q to from = p.1 (from (q.0 refl))
same_tests false false p q to from = refl

-- whether a line begins so, as a reader tests it
abbrev pub has_front : List ℕ → List ℕ → Bool
has_front line first = bytes_eq (take (length first) line) first

begins_with-prefix : (line first : List ℕ) (b : Bool) → has_front line first ≡ b → begins_with line first ≡ b
begins_with-prefix line first b is =
    let front = take (length first) line in
    same_tests (bytes_eq first front) (bytes_eq front first) (bytes_eq-Decides first front) (bytes_eq-Decides front first) (λ e. sym e) (λ e. sym e) ∙ is

module _ (line : List ℕ) where
  pub line_events-round : bytes_eq line (codes "round") ≡ true → line_events line ≡ Ok (event.Round ∷ [])
  unfolding line_events
  line_events-round is = rw is refl

  pub line_events-drain : bytes_eq line (codes "drain") ≡ true → line_events line ≡ Ok (deliveries 16)
  unfolding line_events
  line_events-drain is = ap line_events ((bytes_eq-Decides line (codes "drain")).0 is) ∙ refl

  module _ (round : bytes_eq line (codes "round") ≡ false) (drain : bytes_eq line (codes "drain") ≡ false) where
    pub line_events-ab : has_front line (codes "ab ") ≡ true → line_events line ≡ delivery event.DeliverAb (delivered_bytes (drop 3 line))
    unfolding line_events
    line_events-ab is = rw (round, drain, begins_with-prefix line (codes "ab ") true is) refl

    module _ (ab : has_front line (codes "ab ") ≡ false) where
      no_ab : begins_with line (codes "ab ") ≡ false
      no_ab = begins_with-prefix line (codes "ab ") false ab

      pub line_events-ba : has_front line (codes "ba ") ≡ true → line_events line ≡ delivery event.DeliverBa (delivered_bytes (drop 3 line))
      unfolding line_events
      line_events-ba is = rw (round, drain, no_ab, begins_with-prefix line (codes "ba ") true is) refl

      module _ (ba : has_front line (codes "ba ") ≡ false) where
        no_ba : begins_with line (codes "ba ") ≡ false
        no_ba = begins_with-prefix line (codes "ba ") false ba

        pub line_events-a : has_front line (codes "a ") ≡ true → line_events line ≡ addition event.AddA (drop 2 line)
        unfolding line_events
        line_events-a is = rw (round, drain, no_ab, no_ba, begins_with-prefix line (codes "a ") true is) refl

        module _ (a : has_front line (codes "a ") ≡ false) where
          no_a : begins_with line (codes "a ") ≡ false
          no_a = begins_with-prefix line (codes "a ") false a

          pub line_events-b : has_front line (codes "b ") ≡ true → line_events line ≡ addition event.AddB (drop 2 line)
          unfolding line_events
          line_events-b is = rw (round, drain, no_ab, no_ba, no_a, begins_with-prefix line (codes "b ") true is) refl

          pub line_events-none : has_front line (codes "b ") ≡ false → line_events line ≡ Err kind.Form
          unfolding line_events
          line_events-none b = rw (round, drain, no_ab, no_ba, no_a, begins_with-prefix line (codes "b ") false b) refl
