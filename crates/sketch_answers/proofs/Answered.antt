-- What is asked of a sketch, and what the opener makes of it.
use Rattle.std.proofs.Common.{◌≡◌, ℕ, List, length, Option, Some, Result, Ok, Err, IfErr, IfSome, refl, sym, subst}
use Rattle.pool_rules.specs.Snapshots.{Member}
use Rattle.node_rules.specs.Opener.{initiator_question, opener_sketch}
use Rattle.node_rules.specs.State.{Initiator}
use Rattle.node_rules.specs.Turns.{Move}
use Rattle.node_rules.specs.declared.end.End.{End}
use Rattle.node_laws.proofs.Questions.{opener_sketch-answered, opener_sketch-refused}
use Rattle.initiator.specs.Questions.{IsQuestion, end_of}
use Rattle.initiator.specs.declared.fault.InitiatorFault.{InitiatorFault}
use Rattle.initiator.proofs.Moves.{awaited}
use Rattle.initiator.proofs.Sketches.{taken_none}

-- a sketch that is taken moves the opener
pub move_of : {F : Type 0} (bits_of : F → ℕ) (i : Initiator) (set : List Member) (bytes : List ℕ) (sketch : Option (List F)) → IsQuestion bits_of (initiator_question i.machine set bytes) (Ok sketch) → (v : Move) × (opener_sketch i set bytes ≡ Ok v)
move_of bits_of i set bytes sketch h = by_question (initiator_question i.machine set bytes) refl h
  where
    by_question : (question : Result (Option (List ℕ)) End) → initiator_question i.machine set bytes ≡ question → IsQuestion bits_of question (Ok sketch) → (v : Move) × (opener_sketch i set bytes ≡ Ok v)
    by_question (Ok q) e k =
        let n = awaited i.machine (length bytes) (taken_none i.machine set bytes q e) in
        (_, opener_sketch-answered i set bytes n.0 q n.1 e)
    by_question (Err end) e k = absurd k

-- what is said of a refusal holds of a move
pub if_moved : {X E : Type 0} (r : Result X E) (P : E → Type 0) (v : X) → r ≡ Ok v → IfErr r P
if_moved r P v e = subst (λ x. IfErr x P) (sym e) tt

module _ {F : Type 0} (bits_of : F → ℕ) (i : Initiator) (set : List Member) (bytes : List ℕ) (told : InitiatorFault) where
  -- a sketch that is refused is refused as it is told
  told_by : (question : Result (Option (List ℕ)) End) → initiator_question i.machine set bytes ≡ question → IsQuestion bits_of question (Err told) → IfSome (end_of told) (λ end. opener_sketch i set bytes ≡ Err end)
  told_by (Ok asked) e h = subst (λ t. IfSome (end_of t) (λ end. opener_sketch i set bytes ≡ Err end)) (sym h) tt
  told_by (Err end) e h = subst (λ o. IfSome o (λ end. opener_sketch i set bytes ≡ Err end)) (sym h) (opener_sketch-refused i set bytes end e)

  pub told_as : IsQuestion bits_of (initiator_question i.machine set bytes) (Err told) → IfSome (end_of told) (λ end. opener_sketch i set bytes ≡ Err end)
  told_as h = told_by (initiator_question i.machine set bytes) refl h

  refused_by : (question : Result (Option (List ℕ)) End) → initiator_question i.machine set bytes ≡ question → IsQuestion bits_of question (Err told) → IfErr (opener_sketch i set bytes) (λ end. end_of told ≡ Some end)
  refused_by (Ok q) e h =
      let n = awaited i.machine (length bytes) (taken_none i.machine set bytes q e) in
      if_moved (opener_sketch i set bytes) (λ end. end_of told ≡ Some end) _ (opener_sketch-answered i set bytes n.0 q n.1 e)
  refused_by (Err end) e h = subst (λ r. IfErr r (λ end. end_of told ≡ Some end)) (sym (opener_sketch-refused i set bytes end e)) h

  pub refused_as : IsQuestion bits_of (initiator_question i.machine set bytes) (Err told) → IfErr (opener_sketch i set bytes) (λ end. end_of told ≡ Some end)
  refused_as h = refused_by (initiator_question i.machine set bytes) refl h
