use Rattle.std.proofs.Common.{◌≡◌, ◌<◌, ℕ, List, map, ap, sym, ◌∙◌, subst, Ok, Err, None}
use Rattle.std.specs.Bool.{⊤}
use Rattle.std.specs.List.{All}
use Rattle.std.proofs.lemmas.Option.{MatchOption-at_none, MatchOption-at_some}
use Rattle.base_types.specs.declared.text.Kind.TheVariants as kind
use Rattle.field_rules.specs.Lists.{AreDistinct}
use Rattle.clmul_lanes.specs.Lane32.{bits_of}
use Rattle.line_rules.specs.Lines.{NumberedLine, lines_of}
use Rattle.sketch_text.specs.Readings.{elements_before}
use Rattle.sketch_text.specs.Repeats.{IsFirstRepeat}
use Rattle.sketch_text.proofs.Sets.{ended, set_distinct, set_repeat}
use Rattle.sketch_text.proofs.Spelled.{elements-above, line_there}
use Rattle.sketch_text.proofs.Numbers.{below}
use Rattle.sketch_text.proofs.set.set_of.Goals as goal

pub returns-in-Some-clause-gives : goal.returns-in-Some-clause-gives
returns-in-Some-clause-gives c =
    let text = c.args.text.now in
    let index = c.in-Some.index in
    let all = c.as_slice.ensures.value ∙ c.in_ok-reading.ensures.numbers in
    let first : IsFirstRepeat (elements_before (lines_of text)) index =
    subst (λ (xs : List ℕ). IsFirstRepeat xs index) all (MatchOption-at_some (AreDistinct c.as_slice.result.now) (IsFirstRepeat c.as_slice.result.now) index c.in-Some.is c.in_ok-index.ensures)
    in
    let line = line_there (lines_of text) index first.within in
    let number : c.line_number.result ≡ line.0.number = MatchOption-at_some ⊤ (λ (l : NumberedLine). c.line_number.result ≡ l.number) line.0 line.1 c.line_number.ensures in
    set_repeat text index line.0 first line.1 ∙ ap (λ n. Err (record { place = n; kind = kind.Repeated })) (sym number)

pub returns-in-Some-fault-clause-gives : goal.returns-in-Some-fault-clause-gives
returns-in-Some-fault-clause-gives c =
    let text = c.args.text.now in
    let all = c.as_slice.ensures.value ∙ c.in_ok-reading.ensures.numbers in
    let distinct = MatchOption-at_none (AreDistinct c.as_slice.result.now) (IsFirstRepeat c.as_slice.result.now) c.in_default.is c.in_ok-index.ensures in
    set_distinct text (subst (λ (xs : List ℕ). AreDistinct xs) all distinct) ∙ ap (ended (elements_before (lines_of text))) (sym c.in_ok-reading.ensures.fault ∙ c.in-Some-fault.is)

pub returns-clause-gives : goal.returns-clause-gives
returns-clause-gives c =
    let text = c.args.text.now in
    let all = c.as_slice.ensures.value ∙ c.in_ok-reading.ensures.numbers in
    let distinct = MatchOption-at_none (AreDistinct c.as_slice.result.now) (IsFirstRepeat c.as_slice.result.now) c.in_default.is c.in_ok-index.ensures in
    let none : c.in_ok-reading.reading.fault ≡ None = c.in_default-fault.is in
    let made : map bits_of c.in_ok-field_elements.field-0.items ≡ elements_before (lines_of text) = c.in_ok-field_elements.ensures ∙ c.as_slice-2.ensures.value ∙ c.in_ok-reading.ensures.numbers in
    set_distinct text (subst (λ (xs : List ℕ). AreDistinct xs) all distinct) ∙ ap (ended (elements_before (lines_of text))) (sym c.in_ok-reading.ensures.fault ∙ none) ∙ ap Ok (sym made)

pub returns-clause-elements : goal.returns-clause-elements
returns-clause-elements c k d within =
    let text = c.args.text.now in
    let made : map bits_of c.in_ok-field_elements.field-0.items ≡ elements_before (lines_of text) = c.in_ok-field_elements.ensures ∙ c.as_slice-2.ensures.value ∙ c.in_ok-reading.ensures.numbers in (
      subst (λ (xs : List ℕ). All (λ e. 0 < e) xs) (sym made) (elements-above (lines_of text)) k d within,
      below c.in_ok-field_elements.field-0.items k d within,
    )
