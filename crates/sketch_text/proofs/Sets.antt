-- The set that lines list, by the elements that they spell.
use Rattle.std.proofs.Common.{◌≡◌, ℕ, zero, suc, ◌<◌, List, [], ◌∷◌, ◌++◌, length, take, get_or, Option, Some, None, Result, Ok, Err, sym, ap, ◌∙◌, arith, subst, append_assoc, append-nil, cond, length-append}
use Rattle.std.specs.Prelude.{slice_get, ◌==◌}
use Rattle.std.specs.List.{Contains}
use Rattle.std.proofs.Math.ListN.{get_or-append}
use Rattle.std.proofs.Math.Seq.{get_or-append_seam}
use Rattle.std.proofs.lemmas.Bool.{eq-eqb, ne_eqb}
use Rattle.std.proofs.lemmas.List.Folds.{list_any_at, list_any_none}
use Rattle.base_types.specs.declared.text.Kind.{Kind}
use Rattle.base_types.specs.declared.text.Kind.TheVariants as kind
use Rattle.base_types.specs.declared.text.TextFault.{TextFault}
use Rattle.field_rules.specs.Lists.{AreDistinct}
use Rattle.line_rules.specs.Lines.{NumberedLine, lines_of}
use Rattle.line_rules.specs.Reading.{line_fold}
use Rattle.sketch_text_rules.specs.Elements.{element_of, with_element, set_in}
use Rattle.line_text.proofs.Steps.{line_fold-none, line_fold-step, line_fold-fault}
use Rattle.sketch_text.specs.Readings.{elements_before, first_fault}
use Rattle.sketch_text.specs.Repeats.{IsFirstRepeat}
use Rattle.sketch_text.proofs.Spelled.{by_element, elements_before-more, elements_before-end, elements_before-none, first_fault-more, first_fault-end, first_fault-none}

-- what a line makes of the set so far
abbrev pub take_line : List ℕ → List ℕ → Result (List ℕ) Kind
take_line es bytes = with_element es (element_of bytes)

-- the set, or the fault that ended it
abbrev pub ended : List ℕ → Option TextFault → Result (List ℕ) TextFault
ended es None = Ok es
ended es (Some f) = Err f

-- an element that the set has
put_again : (es : List ℕ) (e : ℕ) → Contains es e → with_element es (Ok e) ≡ Err kind.Repeated
put_again es e (k, k_in, is) = ap (λ b. cond b (Err kind.Repeated) (Ok (es ++ e ∷ []))) (list_any_at (λ d. d == e) es k e k_in (eq-eqb _ e is))

-- an element that it hasn't
put_new : (es rest : List ℕ) (e : ℕ) → AreDistinct (es ++ e ∷ rest) → with_element es (Ok e) ≡ Ok (es ++ e ∷ [])
put_new es rest e distinct = ap (λ b. cond b (Err kind.Repeated) (Ok (es ++ e ∷ []))) (list_any_none (λ d. d == e) es (λ k d k_in. ne_eqb _ e (λ same.
    distinct k (length es) d k_in (simp length-append (omega arith)) (get_or-append es (e ∷ rest) d k k_in ∙ same ∙ sym (get_or-append_seam es e rest d)))))

next_to : (es : List ℕ) (e : ℕ) (rest : List ℕ) → (es ++ e ∷ []) ++ rest ≡ es ++ e ∷ rest
next_to es e rest = append_assoc es (e ∷ []) rest

-- one more line, which spells an element that is new
step_new : (l : NumberedLine) (ls : List NumberedLine) (es rest : List ℕ) (e : ℕ) → element_of l.bytes ≡ Ok e → AreDistinct (es ++ e ∷ rest) → line_fold take_line es (l ∷ ls) ≡ line_fold take_line (es ++ e ∷ []) ls
step_new l ls es rest e is distinct = line_fold-step take_line es l ls (es ++ e ∷ []) (ap (with_element es) is ∙ put_new es rest e distinct)

-- where no element repeats an earlier one
pub read_distinct : (ls : List NumberedLine) (es : List ℕ) → AreDistinct (es ++ elements_before ls) → line_fold take_line es ls ≡ ended (es ++ elements_before ls) (first_fault ls)
read_distinct [] es distinct = line_fold-none take_line es ∙ rw (elements_before-none, first_fault-none) (ap Ok (sym (append-nil es)))
read_distinct (l ∷ ls) es distinct = by_element (element_of l.bytes) (line_fold take_line es (l ∷ ls) ≡ ended (es ++ elements_before (l ∷ ls)) (first_fault (l ∷ ls)))
    (λ e is.
    let whole : es ++ elements_before (l ∷ ls) ≡ es ++ e ∷ elements_before ls = ap (λ xs. es ++ xs) (elements_before-more l ls e is) in
    let all : AreDistinct (es ++ e ∷ elements_before ls) = subst (λ (xs : List ℕ). AreDistinct xs) whole distinct in
    let later = read_distinct ls (es ++ e ∷ []) (subst (λ (xs : List ℕ). AreDistinct xs) (sym (next_to es e (elements_before ls))) all) in
    step_new l ls es (elements_before ls) e is all ∙ later ∙ ap (λ xs. ended xs (first_fault ls)) (next_to es e (elements_before ls) ∙ sym whole) ∙ ap (ended (es ++ elements_before (l ∷ ls))) (sym (first_fault-more l ls e is)))
    (λ k is. line_fold-fault take_line es l ls k (ap (with_element es) is) ∙ ap (ended (es ++ elements_before (l ∷ ls))) (sym (first_fault-end l ls k is)))

-- where the element at i is the first that repeats an earlier one
pub read_repeat : (ls : List NumberedLine) (es : List ℕ) (i : ℕ) (l : NumberedLine) → i < length (elements_before ls) → AreDistinct (es ++ take i (elements_before ls))
    → Contains (es ++ take i (elements_before ls)) (get_or (elements_before ls) i 0) → slice_get ls i ≡ Some l
    → line_fold take_line es ls ≡ Err (record { place = l.number; kind = kind.Repeated })
read_repeat [] es i l within fresh again there = absurd (omega (arith, ap length elements_before-none))
read_repeat (first ∷ ls) es zero l within fresh again there = by_element (element_of first.bytes) (line_fold take_line es (first ∷ ls) ≡ Err (record { place = l.number; kind = kind.Repeated }))
    (λ e is.
    let in_set : Contains (es ++ []) e = subst (λ (xs : List ℕ). Contains (es ++ []) (get_or xs 0 0)) (elements_before-more first ls e is) again in
    let here : first ≡ l = cc there in
    line_fold-fault take_line es first ls kind.Repeated (ap (with_element es) is ∙ put_again es e (subst (λ (xs : List ℕ). Contains xs e) (append-nil es) in_set)) ∙ ap (λ (x : NumberedLine). Err (record { place = x.number; kind = kind.Repeated })) here)
    (λ k is. absurd (omega (arith, ap length (elements_before-end first ls k is))))
read_repeat (first ∷ ls) es (suc i) l within fresh again there = by_element (element_of first.bytes) (line_fold take_line es (first ∷ ls) ≡ Err (record { place = l.number; kind = kind.Repeated }))
    (λ e is.
    let more = elements_before-more first ls e is in
    let all : AreDistinct (es ++ e ∷ take i (elements_before ls)) = subst (λ (xs : List ℕ). AreDistinct (es ++ take (suc i) xs)) more fresh in
    let seen : Contains (es ++ e ∷ take i (elements_before ls)) (get_or (elements_before ls) i 0) = subst (λ (xs : List ℕ). Contains (es ++ take (suc i) xs) (get_or xs (suc i) 0)) more again in
    let regrouped = sym (next_to es e (take i (elements_before ls))) in
    step_new first ls es (take i (elements_before ls)) e is all ∙ read_repeat ls (es ++ e ∷ []) i l (omega (arith, ap length more))
    (subst (λ (xs : List ℕ). AreDistinct xs) regrouped all) (subst (λ (xs : List ℕ). Contains xs (get_or (elements_before ls) i 0)) regrouped seen) there)
    (λ k is. absurd (omega (arith, ap length (elements_before-end first ls k is))))

-- the same of a whole text
pub set_distinct : (text : List ℕ) → AreDistinct (elements_before (lines_of text)) → set_in text ≡ ended (elements_before (lines_of text)) (first_fault (lines_of text))
set_distinct text distinct = read_distinct (lines_of text) [] distinct

pub set_repeat : (text : List ℕ) (i : ℕ) (l : NumberedLine) → IsFirstRepeat (elements_before (lines_of text)) i → slice_get (lines_of text) i ≡ Some l
    → set_in text ≡ Err (record { place = l.number; kind = kind.Repeated })
set_repeat text i l first there = read_repeat (lines_of text) [] i l first.within first.fresh first.again there
