-- Elements that lines spell.
use Rattle.std.proofs.Common.{◌≡◌, ◌≢◌, ℕ, zero, suc, ◌<◌, List, [], ◌∷◌, length, Some, None, Result, Ok, Err, refl, sym, ap, ◌∙◌, arith, ⊎_elim, cond}
use Rattle.std.specs.Prelude.{slice_get}
use Rattle.std.specs.List.{All}
use Rattle.std.proofs.lemmas.Bool.{cases_eq, eq-eqb, ne_eqb}
use Rattle.std.proofs.lemmas.List.Elements.{All-nil, All-cons}
use Rattle.hex.specs.Hex.{decode_of}
use Rattle.hex.specs.declared.error.FromHexError.{FromHexError}
use Rattle.base_types.specs.declared.text.Kind.{Kind}
use Rattle.base_types.specs.declared.text.Kind.TheVariants as kind
use Rattle.line_rules.specs.Lines.{NumberedLine}
use Rattle.sketch_text_rules.specs.Elements.{element_of, element_of_bytes, nonzero_element}
use Rattle.sketch_text.specs.Readings.{with_leading_element, fault_at, elements_before, first_fault}

-- a line that spells an element
pub elements_before-more : (l : NumberedLine) (ls : List NumberedLine) (e : ℕ) → element_of l.bytes ≡ Ok e → elements_before (l ∷ ls) ≡ e ∷ elements_before ls
unfolding elements_before
elements_before-more l ls e is = ap (λ r. with_leading_element r (elements_before ls)) is

pub first_fault-more : (l : NumberedLine) (ls : List NumberedLine) (e : ℕ) → element_of l.bytes ≡ Ok e → first_fault (l ∷ ls) ≡ first_fault ls
unfolding first_fault
first_fault-more l ls e is = ap (λ r. fault_at l r (first_fault ls)) is

-- a line that spells none
pub elements_before-end : (l : NumberedLine) (ls : List NumberedLine) (k : Kind) → element_of l.bytes ≡ Err k → elements_before (l ∷ ls) ≡ []
unfolding elements_before
elements_before-end l ls k is = ap (λ r. with_leading_element r (elements_before ls)) is

pub first_fault-end : (l : NumberedLine) (ls : List NumberedLine) (k : Kind) → element_of l.bytes ≡ Err k → first_fault (l ∷ ls) ≡ Some (record { place = l.number; kind = k })
unfolding first_fault
first_fault-end l ls k is = ap (λ r. fault_at l r (first_fault ls)) is

-- no line
pub elements_before-none : elements_before [] ≡ []
unfolding elements_before
elements_before-none = refl

pub first_fault-none : first_fault [] ≡ None
unfolding first_fault
first_fault-none = refl

-- an element is above 0
nonzero_element-above : (n e : ℕ) → nonzero_element n ≡ Ok e → 0 < e
nonzero_element-above n e is = ⊎_elim
    (λ (none : n ≡ 0). (let bad : Err kind.Zero ≡ Ok e = sym (ap (λ b. cond b (Err kind.Zero) (Ok n)) (eq-eqb n 0 none)) ∙ is in cc bad))
    (λ (some : n ≢ 0). (let same : Ok n ≡ Ok e = sym (ap (λ b. cond b (Err kind.Zero) (Ok n)) (ne_eqb n 0 some)) ∙ is in let e_is : n ≡ e = cc same in omega arith))
    (cases_eq n 0)

element_of_bytes-above : (r : Result (List ℕ) FromHexError) (e : ℕ) → element_of_bytes r ≡ Ok e → 0 < e
element_of_bytes-above (Ok bytes) e is = nonzero_element-above _ e is
element_of_bytes-above (Err fault) e is = cc is

pub element-above : (line : List ℕ) (e : ℕ) → element_of line ≡ Ok e → 0 < e
element-above line e is = ⊎_elim
    (λ (eight : length line ≡ 8). element_of_bytes-above (decode_of line) e (sym (ap (λ b. cond b (element_of_bytes (decode_of line)) (Err kind.DigitCount)) (eq-eqb (length line) 8 eight)) ∙ is))
    (λ (other : length line ≢ 8). (let bad : Err kind.DigitCount ≡ Ok e = sym (ap (λ b. cond b (element_of_bytes (decode_of line)) (Err kind.DigitCount)) (ne_eqb (length line) 8 other)) ∙ is in cc bad))
    (cases_eq (length line) 8)

-- what a line spells, in two cases
pub by_element : (r : Result ℕ Kind) (P : Type 0) → ((e : ℕ) → r ≡ Ok e → P) → ((k : Kind) → r ≡ Err k → P) → P
by_element (Ok e) P sound faulty = sound e refl
by_element (Err k) P sound faulty = faulty k refl

pub elements-above : (ls : List NumberedLine) → All (λ e. 0 < e) (elements_before ls)
elements-above [] = rw elements_before-none (All-nil (λ e. 0 < e))
elements-above (l ∷ ls) = by_element (element_of l.bytes) (All (λ e. 0 < e) (elements_before (l ∷ ls)))
    (λ e is. rw (elements_before-more l ls e is) (All-cons (λ e. 0 < e) e (elements_before ls) (element-above l.bytes e is) (elements-above ls)))
    (λ k is. rw (elements_before-end l ls k is) (All-nil (λ e. 0 < e)))

-- each element has a line
pub line_there : (ls : List NumberedLine) (i : ℕ) → i < length (elements_before ls) → (l : NumberedLine) × (slice_get ls i ≡ Some l)
line_there [] i within = absurd (omega (arith, ap length elements_before-none))
line_there (l ∷ ls) zero within = (l, refl)
line_there (l ∷ ls) (suc i) within = by_element (element_of l.bytes) ((later : NumberedLine) × (slice_get ls i ≡ Some later))
    (λ e is. line_there ls i (omega (arith, ap length (elements_before-more l ls e is))))
    (λ k is. absurd (omega (arith, ap length (elements_before-end l ls k is))))
