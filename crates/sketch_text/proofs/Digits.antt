-- Digits by a table, and the lines of 8 of them.
use Rattle.std.proofs.Common.{◌≡◌, ◌≢◌, ℕ, zero, suc, ◌+◌, ◌<◌, ◌≤◌, ◌==◌, ◌&&◌, Bool, true, false, List, [], ◌∷◌, length, take, drop, get_or, Ok, Err, unwrap_or, refl, sym, ap, ◌∙◌, arith, inl, inr, cond}
use Rattle.std.specs.Int.{from_be_bytes, w32}
use Rattle.std.proofs.lemmas.Bool.{and_parts, cases_eq, eqb-true, ne_eqb}
use Rattle.std.proofs.Math.ListN.{get_or-append}
use Rattle.std.proofs.lemmas.List.{length-take-le}
use Rattle.hex.specs.Hex.{decode_of, decode_pairs, hex_digit_value, is_hex_digit, pair_value}
use Rattle.hex.proofs.Pairs.{cons_byte, decode_pairs-ok_pair}
use Rattle.hex.proofs.HexLemmas.{decode_of-ok}
use Rattle.base_types.specs.declared.text.Kind.TheVariants as kind
use Rattle.line_rules.specs.Lines.{lines, numbered_lines}
use Rattle.line_text.proofs.Cutting.{lines_cut, without_carriage_return-same}
use Rattle.line_text.proofs.Numbering.{numbered_lines-full}
use Rattle.sketch_text_rules.specs.Elements.{element_of_bytes}
use Rattle.sketch_text.specs.Readings.{IsPlain, elements_before, first_fault}
use Rattle.sketch_text.proofs.Spelled.{elements_before-more, first_fault-more}

-- the test of one place of a table of digits, which computes
abbrev agrees : List ℕ → ℕ → Bool
agrees table c = get_or table c 0 == unwrap_or (hex_digit_value c) 4096

-- the test of the first n places
unfoldable pub agree_below : List ℕ → ℕ → Bool
agree_below table zero = true
agree_below table (suc n) = agrees table n && agree_below table n

agree_at : (table : List ℕ) (n c : ℕ) → agree_below table n ≡ true → c < n → agrees table c ≡ true
unfolding agree_below
agree_at table zero c h lt = absurd (omega arith)
agree_at table (suc n) c h lt =
    let parts = and_parts (agrees table n) (agree_below table n) h in
    elim (cases_eq c n) [ inl same ↦ rw same parts.0 | inr other ↦ agree_at table n c parts.1 (omega arith) ]

-- what a table that passes the test has for a byte
pub table_at : (table : List ℕ) (c : ℕ) → c < 256 → agree_below table 256 ≡ true → get_or table c 0 ≡ unwrap_or (hex_digit_value c) 4096
table_at table c byte h = eqb-true (get_or table c 0) (unwrap_or (hex_digit_value c) 4096) (agree_at table 256 c h byte)

-- a line of four pairs of digits
eight_decoded : (a b c d e f g h w x y z : ℕ) → pair_value a b 0 ≡ Ok w → pair_value c d 2 ≡ Ok x → pair_value e f 4 ≡ Ok y → pair_value g h 6 ≡ Ok z
    → decode_of (a ∷ b ∷ c ∷ d ∷ e ∷ f ∷ g ∷ h ∷ []) ≡ Ok (w ∷ x ∷ y ∷ z ∷ [])
unfolding decode_pairs
eight_decoded a b c d e f g h w x y z is_w is_x is_y is_z =
    decode_pairs-ok_pair 0 a b w (c ∷ d ∷ e ∷ f ∷ g ∷ h ∷ []) is_w ∙ ap (cons_byte w)
    (decode_pairs-ok_pair 2 c d x (e ∷ f ∷ g ∷ h ∷ []) is_x ∙ ap (cons_byte x)
    (decode_pairs-ok_pair 4 e f y (g ∷ h ∷ []) is_y ∙ ap (cons_byte y) (decode_pairs-ok_pair 6 g h z [] is_z)))

-- a digit is no end of a line, and no CR
digit_other : (c end : ℕ) → is_hex_digit end ≡ false → is_hex_digit c ≡ true → c ≢ end
digit_other c end none digit same = (let both : true ≡ false = sym digit ∙ ap is_hex_digit same ∙ none in cc both)

-- four pairs of digits and LF
pub plain_line : (text : List ℕ) (w x y z : ℕ) → 9 ≤ length text
    → pair_value (get_or text 0 0) (get_or text 1 0) 0 ≡ Ok w → pair_value (get_or text 2 0) (get_or text 3 0) 2 ≡ Ok x
    → pair_value (get_or text 4 0) (get_or text 5 0) 4 ≡ Ok y → pair_value (get_or text 6 0) (get_or text 7 0) 6 ≡ Ok z
    → get_or text 8 0 ≡ 10 → from_be_bytes w32 (w ∷ x ∷ y ∷ z ∷ []) ≢ 0 → IsPlain text (from_be_bytes w32 (w ∷ x ∷ y ∷ z ∷ []))
plain_line (a ∷ b ∷ c ∷ d ∷ e ∷ f ∷ g ∷ h ∷ l ∷ rest) w x y z within is_w is_x is_y is_z end some =
    let front : List ℕ = a ∷ b ∷ c ∷ d ∷ e ∷ f ∷ g ∷ h ∷ [] in
    let decoded : decode_of front ≡ Ok (w ∷ x ∷ y ∷ z ∷ []) = eight_decoded a b c d e f g h w x y z is_w is_x is_y is_z in
    let digits = (decode_of-ok front (w ∷ x ∷ y ∷ z ∷ []) decoded).1 in
    let number = from_be_bytes w32 (w ∷ x ∷ y ∷ z ∷ []) in
    record {
      within = within;
      first =
          lines_cut (a ∷ b ∷ c ∷ d ∷ e ∷ f ∷ g ∷ h ∷ l ∷ rest) 8 within (λ j before. digit_other _ 10 refl (ap is_hex_digit (get_or-append front (l ∷ rest) 0 j before) ∙ digits j 0 before)) end
          ∙ ap (λ first. first ∷ lines rest) (without_carriage_return-same (a ∷ b ∷ c ∷ d ∷ e ∷ f ∷ g ∷ []) h (digit_other h 13 refl (digits 7 0 (omega arith))));
      element = ap element_of_bytes decoded ∙ ap (λ v. cond v (Err kind.Zero) (Ok number)) (ne_eqb number 0 some);
    }
plain_line _ w x y z within is_w is_x is_y is_z end some = absurd (omega arith)

-- the numbered lines of a text that begins with a plain one
module _ (n : ℕ) (text : List ℕ) (e : ℕ) (plain : IsPlain text e) where
  plain_first : numbered_lines n (lines text) ≡ record { number = n; bytes = take 8 text } ∷ numbered_lines (n + 1) (lines (drop 9 text))
  plain_first =
      let within = plain.within in
      ap (numbered_lines n) plain.first ∙ numbered_lines-full n (take 8 text) (lines (drop 9 text)) (omega (arith, length-take-le 8 text (omega arith)))

  pub elements_before-plain : elements_before (numbered_lines n (lines text)) ≡ e ∷ elements_before (numbered_lines (n + 1) (lines (drop 9 text)))
  elements_before-plain = ap elements_before plain_first ∙ elements_before-more (record { number = n; bytes = take 8 text }) (numbered_lines (n + 1) (lines (drop 9 text))) e plain.element

  pub first_fault-plain : first_fault (numbered_lines n (lines text)) ≡ first_fault (numbered_lines (n + 1) (lines (drop 9 text)))
  first_fault-plain = ap first_fault plain_first ∙ first_fault-more (record { number = n; bytes = take 8 text }) (numbered_lines (n + 1) (lines (drop 9 text))) e plain.element
