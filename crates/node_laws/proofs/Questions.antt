-- A sketch message leads to a question, and then to what its answer makes of it.
use Rattle.std.proofs.Common.{◌≡◌, ℕ, ◌==◌, Bool, true, false, if◌then◌else◌, List, length, Option, Some, None, Result, Ok, Err, option_and_then, refl, sym, ap, ◌∙◌}
use Rattle.sketch_rules.specs.Answers.{answer_of}
use Rattle.pool_rules.specs.Snapshots.{Member}
use Rattle.node_rules.specs.Opener.{question, answer_to, difference_sketch, round_after_sketch, length_fault, value_or_fault, question_by, initiator_question, sketch_by, after_sketch, opener_sketch, answer_to_sketch}
use Rattle.node_rules.specs.Stages.{requested_extensions}
use Rattle.node_rules.specs.State.{Initiator, Round}
use Rattle.node_rules.specs.Turns.{Move}
use Rattle.node_rules.specs.declared.end.End.{End}

refused_by : {A B : Type 0} (f : Option End) (x : A) (y : B) (e : End) → value_or_fault f x ≡ Err e → value_or_fault f y ≡ Err e
refused_by None x y e h = absurd (cc)
refused_by (Some f) x y e h = let same : f ≡ e = cc in ap Err same

asked_by : {A B : Type 0} (f : Option End) (x q : A) (y : B) → value_or_fault f x ≡ Ok q → (value_or_fault f y ≡ Ok y) × (x ≡ q)
asked_by None x q y h = (refl, cc)
asked_by (Some f) x q y h = absurd (cc)

-- the answer to a round is the answer to its question
answer_of_question : (r : Round) → answer_to r ≡ option_and_then answer_of (question r)
answer_of_question r = by_capacity (r.capacity == 0)
  where
    by_capacity : (empty : Bool) → (if empty then None else answer_of (difference_sketch r)) ≡ option_and_then answer_of (if empty then None else Some (difference_sketch r))
    by_capacity true = refl
    by_capacity false = refl

refused_sketch : (o : Option ℕ) (answer : Option (List ℕ)) (i : Initiator) (set : List Member) (bytes : List ℕ) (e : End) → question_by o i.machine set bytes ≡ Err e → sketch_by answer o i set bytes ≡ Err e
unfolding question_by sketch_by
refused_sketch None answer i set bytes e h = cc
refused_sketch (Some n) answer i set bytes e h = refused_by (length_fault i.machine n (length bytes)) (question (round_after_sketch i.machine set n bytes)) (after_sketch answer i set n bytes) e h

answered_sketch : (n : ℕ) (answer : Option (List ℕ)) (i : Initiator) (set : List Member) (bytes : List ℕ) (q : Option (List ℕ)) → question_by (Some n) i.machine set bytes ≡ Ok q
    → (sketch_by answer (Some n) i set bytes ≡ Ok (after_sketch answer i set n bytes)) × (question (round_after_sketch i.machine set n bytes) ≡ q)
unfolding question_by sketch_by
answered_sketch n answer i set bytes q h = asked_by (length_fault i.machine n (length bytes)) (question (round_after_sketch i.machine set n bytes)) q (after_sketch answer i set n bytes) h

pub opener_sketch-refused : (i : Initiator) (set : List Member) (bytes : List ℕ) (e : End) → initiator_question i.machine set bytes ≡ Err e → opener_sketch i set bytes ≡ Err e
opener_sketch-refused i set bytes e h =
    refused_sketch (requested_extensions i.machine.phase) (answer_to_sketch (requested_extensions i.machine.phase) i.machine set bytes) i set bytes e h

pub opener_sketch-answered : (i : Initiator) (set : List Member) (bytes : List ℕ) (n : ℕ) (q : Option (List ℕ)) → requested_extensions i.machine.phase ≡ Some n → initiator_question i.machine set bytes ≡ Ok q
    → opener_sketch i set bytes ≡ Ok (after_sketch (option_and_then answer_of q) i set n bytes)
opener_sketch-answered i set bytes n q waits h =
    let both = answered_sketch n (answer_to (round_after_sketch i.machine set n bytes)) i set bytes q (sym (ap (λ o. question_by o i.machine set bytes) waits) ∙ h) in
    ap (λ o. sketch_by (answer_to_sketch o i.machine set bytes) o i set bytes) waits
    ∙ (both.0
    ∙ ap (λ answer. Ok (after_sketch answer i set n bytes)) (answer_of_question (round_after_sketch i.machine set n bytes) ∙ ap (option_and_then answer_of) both.1))
