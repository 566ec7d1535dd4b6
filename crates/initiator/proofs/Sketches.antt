-- What is asked of a sketch, and what is answered.
use Rattle.std.proofs.Common.{◌≡◌, ℕ, ◌==◌, Bool, true, false, List, map, length, Option, Some, None, Result, Ok, Err, IsSome, IsOkAnd, option_and_then, ◌≤◌, arith, refl, sym, ap, ◌∙◌, subst, if◌then◌else◌}
use Rattle.sketch_rules.specs.Answers.{Answer, answer_of, answer_at-some}
use Rattle.pool_rules.specs.Snapshots.{Member, snapshot_sketch}
use Rattle.node_rules.specs.Opener.{question, question_by, value_or_fault, initiator_question, difference_sketch, round_after_sketch}
use Rattle.node_rules.specs.Stages.{requested_extensions}
use Rattle.node_rules.specs.State.{Machine, Round}
use Rattle.node_rules.specs.declared.end.End.{End}
use Rattle.invariant_laws.proofs.Sendable.{merged_few}
use Rattle.initiator.specs.Questions.{end_of, fault_by, round_by, sketch_fault, round_with, IsQuestion}
use Rattle.initiator.specs.declared.fault.InitiatorFault.{InitiatorFault}
use Rattle.initiator.specs.declared.fault.InitiatorFault.TheVariants as fault

refused_by : (o : Option ℕ) (m : Machine) (set : List Member) (bytes : List ℕ) (e : End) → fault_by o m (length bytes) ≡ Some e → question_by o m set bytes ≡ Err e
unfolding question_by
refused_by None m set bytes e h = ap Err (cc)
refused_by (Some n) m set bytes e h = ap (λ f. value_or_fault f (question (round_after_sketch m set n bytes))) h

taken_by : (o : Option ℕ) (m : Machine) (set : List Member) (bytes : List ℕ) → fault_by o m (length bytes) ≡ None → question_by o m set bytes ≡ Ok (question (round_by o m set bytes))
unfolding question_by
taken_by None m set bytes h = absurd (cc)
taken_by (Some n) m set bytes h = ap (λ f. value_or_fault f (question (round_after_sketch m set n bytes))) h

module _ {F : Type 0} (bits_of : F → ℕ) (m : Machine) (set : List Member) (bytes : List ℕ) where
  refused_as : (told : InitiatorFault) (e : End) → end_of told ≡ Some e → sketch_fault m (length bytes) ≡ Some e → IsQuestion bits_of (initiator_question m set bytes) (Err told)
  refused_as told e t h = subst (λ q. IsQuestion bits_of q (Err told)) (sym (refused_by (requested_extensions m.phase) m set bytes e h)) t

  -- a sketch is refused
  pub refused_question : (told : InitiatorFault) → (sketch_fault m (length bytes) ≡ end_of told) × IsSome (end_of told) → IsQuestion bits_of (initiator_question m set bytes) (Err told)
  refused_question (fault.Misplaced command at) h = refused_as (fault.Misplaced command at) _ refl h.0
  refused_question (fault.SketchLength len wanted) h = refused_as (fault.SketchLength len wanted) _ refl h.0
  refused_question fault.OutOfMemory h = absurd (let apart : false ≡ true = h.1 in cc)

  module _ (none : sketch_fault m (length bytes) ≡ None) where
    pub taken_question : initiator_question m set bytes ≡ Ok (question (round_with m set bytes))
    taken_question = taken_by (requested_extensions m.phase) m set bytes none

    -- it has no sums
    pub none_question : ((round_with m set bytes).capacity == 0) ≡ true → IsQuestion bits_of (initiator_question m set bytes) (Ok None)
    none_question e = subst (λ q. IsQuestion bits_of q (Ok None)) (sym taken_question) (ap (λ (t : Bool). if t then None else Some (difference_sketch (round_with m set bytes))) e)

    -- it has some
    pub some_question : (s : List F) → ((round_with m set bytes).capacity == 0) ≡ false → map bits_of s ≡ difference_sketch (round_with m set bytes) → IsQuestion bits_of (initiator_question m set bytes) (Ok (Some s))
    some_question s e h =
        subst (λ q. IsQuestion bits_of q (Ok (Some s))) (sym taken_question)
        (ap (λ (t : Bool). if t then None else Some (difference_sketch (round_with m set bytes))) e ∙ ap Some (sym h))

    -- memory ran out
    pub want_question : IsQuestion bits_of (initiator_question m set bytes) (Err fault.OutOfMemory)
    want_question = subst (λ q. IsQuestion bits_of q (Err fault.OutOfMemory)) (sym taken_question) refl

taken_none_by : (o : Option ℕ) (m : Machine) (set : List Member) (bytes : List ℕ) (q : Option (List ℕ)) (f : Option End) → fault_by o m (length bytes) ≡ f → question_by o m set bytes ≡ Ok q → f ≡ None
taken_none_by o m set bytes q None e ok = refl
taken_none_by o m set bytes q (Some x) e ok = absurd (let apart : Err x ≡ Ok q = sym (refused_by o m set bytes x e) ∙ ok in cc)

-- a sketch whose question stands isn't refused
pub taken_none : (m : Machine) (set : List Member) (bytes : List ℕ) (q : Option (List ℕ)) → initiator_question m set bytes ≡ Ok q → sketch_fault m (length bytes) ≡ None
taken_none m set bytes q ok = taken_none_by (requested_extensions m.phase) m set bytes q (sketch_fault m (length bytes)) refl ok

-- what is asked, where something is
pub question_of : {X E : Type 0} (r : Result X E) (P : X → Type 0) → IsOkAnd r P → (x : X) × ((r ≡ Ok x) × P x)
question_of (Ok x) P h = (x, (refl, h))
question_of (Err e) P h = absurd h

found_by : (t : Bool) (d es : List ℕ) → option_and_then answer_of (if t then None else Some d) ≡ Some es → Answer 32 d es
found_by true d es e = absurd (let apart : None ≡ Some es = e in cc)
found_by false d es e = answer_at-some 32 d es e

-- the answer is one to the difference, of no more elements than that has sums
pub found_answer : (m : Machine) (set : List Member) (bytes : List ℕ) (q : Option (List ℕ)) (es : List ℕ) → initiator_question m set bytes ≡ Ok q → option_and_then answer_of q ≡ Some es → Answer 32 (difference_sketch (round_with m set bytes)) es
found_answer m set bytes q es h e =
    let r : Round = round_with m set bytes in
    let same : q ≡ question r = let both : Ok q ≡ Ok (question r) = sym h ∙ taken_question (λ (n : ℕ). n) m set bytes (taken_none m set bytes q h) in cc in
    found_by (r.capacity == 0) (difference_sketch r) es (ap (option_and_then answer_of) (sym same) ∙ e)

pub found_few : (r : Round) (es : List ℕ) → Answer 32 (difference_sketch r) es → length es ≤ length r.sums
found_few r es a =
    let few = a.few in
    let both = merged_few r.sums (snapshot_sketch r.snapshot (length r.sums)) in
    omega (arith, few, both)
