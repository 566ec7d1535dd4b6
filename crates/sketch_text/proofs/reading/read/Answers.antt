use Rattle.std.proofs.Common.{◌≡◌, ℕ, List, [], ◌∷◌, ◌++◌, Ok, Err, ap, sym, ◌∙◌, append_assoc, append-nil}
use Rattle.sketch_text_rules.specs.Elements.{element_of}
use Rattle.line_text.specs.Views.{line_of}
use Rattle.sketch_text.specs.Readings.{elements_before, first_fault}
use Rattle.sketch_text.proofs.Spelled.{elements_before-more, elements_before-end, elements_before-none, first_fault-more, first_fault-end, first_fault-none}
use Rattle.sketch_text.proofs.reading.read.Goals as goal

pub loop-line-preserved : goal.loop-line-preserved
loop-line-preserved c =
    let numbers = c.loop-line.numbers.items in
    let number = c.in-Ok.number in
    let line = line_of c.in-Some.line in
    let rest = c.next.new.self in
    let left = c.in-Some.ensures.steps in
    let is : element_of c.in-Some.line.bytes.now ≡ Ok number = sym c.element_of.ensures ∙ c.in-Ok.is in
    record {
      numbers =
          c.loop-line.invariant.numbers ∙ ap (λ ls. numbers ++ elements_before ls) left ∙ ap (λ (xs : List ℕ). numbers ++ xs) (elements_before-more line rest number is)
          ∙ sym (append_assoc numbers (number ∷ []) (elements_before rest)) ∙ ap (λ (xs : List ℕ). xs ++ elements_before rest) (sym c.in_ok-push-in-Ok.ensures.items);
      fault = c.loop-line.invariant.fault ∙ ap first_fault left ∙ first_fault-more line rest number is;
    }

pub returns-in-Err-clause-numbers : goal.returns-in-Err-clause-numbers
returns-in-Err-clause-numbers c =
    let numbers = c.loop-line.numbers.items in
    let is : element_of c.in-Some.line.bytes.now ≡ Err c.in-Err.kind = sym c.element_of.ensures ∙ c.in-Err.is in
    sym (c.loop-line.invariant.numbers ∙ ap (λ ls. numbers ++ elements_before ls) c.in-Some.ensures.steps ∙ ap (λ (xs : List ℕ). numbers ++ xs) (elements_before-end (line_of c.in-Some.line) c.next.new.self c.in-Err.kind is) ∙ append-nil numbers)

pub returns-in-Err-clause-fault : goal.returns-in-Err-clause-fault
returns-in-Err-clause-fault c =
    let is : element_of c.in-Some.line.bytes.now ≡ Err c.in-Err.kind = sym c.element_of.ensures ∙ c.in-Err.is in
    sym (c.loop-line.invariant.fault ∙ ap first_fault c.in-Some.ensures.steps ∙ first_fault-end (line_of c.in-Some.line) c.next.new.self c.in-Err.kind is)

pub returns-clause-numbers : goal.returns-clause-numbers
returns-clause-numbers c =
    let numbers = c.loop-line.numbers.items in
    sym (c.loop-line.invariant.numbers ∙ ap (λ ls. numbers ++ elements_before ls) c.in-None.ensures.steps.0 ∙ ap (λ (xs : List ℕ). numbers ++ xs) elements_before-none ∙ append-nil numbers)

pub returns-clause-fault : goal.returns-clause-fault
returns-clause-fault c = sym (c.loop-line.invariant.fault ∙ ap first_fault c.in-None.ensures.steps.0 ∙ first_fault-none)
