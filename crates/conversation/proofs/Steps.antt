-- Steps that are refused, that change nothing, and those of the machines of rounds.
use Rattle.std.proofs.Common.{◌≡◌, Bool, true, false, List, Option, Some, None, Result, Ok, Err, append-nil, refl, sym, ap, subst, ◌∙◌}
use Rattle.wire_rules.specs.declared.name.Name.{Name}
use Rattle.pool_rules.specs.Snapshots.{Member}
use Rattle.node_rules.specs.State.{NodeState, NodeView}
use Rattle.node_rules.specs.Steps.{opener_row, accepter_row}
use Rattle.node_rules.specs.Turns.{Move, Response, Turn, unchanged, refusal, phase_refusal, after_turn, after_move, after_response}
use Rattle.node_rules.specs.declared.config.Role.{Role}
use Rattle.node_rules.specs.declared.config.Role.TheVariants as role
use Rattle.node_rules.specs.declared.end.End.{End}
use Rattle.conversation.specs.Handled.{IsStep, stop_for}
use Rattle.conversation.specs.declared.stop.Stop.{Stop}
use Rattle.conversation.specs.declared.stop.Stop.TheVariants as stop

-- ---- refusals

ended : (v : NodeView) (t : Turn) (e : End) → t ≡ refusal v.state e → IsStep t v v (Err (stop.Ended e))
unfolding IsStep
ended v t e is = (refl, is)

pub want : (v : NodeView) (t : Turn) → IsStep t v v (Err stop.OutOfMemory)
unfolding IsStep
want v t = record { config = refl; pool = refl; outbox = refl }

pub refused : (v : NodeView) (t : Turn) (told : Stop) (e : End) → told ≡ stop.Ended e → t ≡ refusal v.state e → IsStep t v v (Err told)
refused v t told e said is = subst (λ x. IsStep t v v (Err x)) (sym said) (ended v t e is)

-- by the end that a call names, where it names one; else memory was refused
stopped_by : (v : NodeView) (t : Turn) (o : Option End) → ((e : End) → o ≡ Some e → t ≡ refusal v.state e) → IsStep t v v (Err (stop_for o))
stopped_by v t (Some e) is = ended v t e (is e refl)
stopped_by v t None is = want v t

pub stopped : (v : NodeView) (t : Turn) (told : Stop) (o : Option End) → told ≡ stop_for o → ((e : End) → o ≡ Some e → t ≡ refusal v.state e) → IsStep t v v (Err told)
stopped v t told o said is = subst (λ x. IsStep t v v (Err x)) (sym said) (stopped_by v t o is)

-- ---- nothing changes

pub stays : (v : NodeView) (t : Turn) → v.state.ended ≡ None → t ≡ unchanged v.state → IsStep t v v (Ok tt)
unfolding IsStep
stays v t e is = (sym (ap (after_turn v) is ∙ ap (λ bytes. record v { outbox = bytes }) (append-nil v.outbox)), ap (λ (t : Turn). t.state.ended) is ∙ e)

-- ---- the rows of a machine

pub accepter-plain : (r : Role) (plain : Bool) (n : Name) (s : NodeState) (set : List Member) (row : Result Response End) → plain ≡ true → accepter_row r plain n s set row ≡ phase_refusal s n
unfolding accepter_row
accepter-plain role.Accepter true n s set row e = refl
accepter-plain role.Accepter false n s set row e = absurd (cc)
accepter-plain role.Opener plain n s set row e = refl

pub accepter-other : (r : Role) (plain : Bool) (n : Name) (s : NodeState) (set : List Member) (row : Result Response End) → r ≡ role.Opener → accepter_row r plain n s set row ≡ phase_refusal s n
unfolding accepter_row
accepter-other role.Opener plain n s set row e = refl
accepter-other role.Accepter plain n s set row e = absurd (cc)

pub accepter-responds : (r : Role) (plain : Bool) (n : Name) (s : NodeState) (set : List Member) (row : Result Response End) → r ≡ role.Accepter → plain ≡ false → accepter_row r plain n s set row ≡ after_response s set row
unfolding accepter_row
accepter-responds role.Accepter false n s set row e f = refl
accepter-responds role.Accepter true n s set row e f = absurd (cc)
accepter-responds role.Opener plain n s set row e f = absurd (cc)

pub opener-plain : (r : Role) (plain : Bool) (n : Name) (s : NodeState) (row : Result Move End) → plain ≡ true → opener_row r plain n s row ≡ phase_refusal s n
unfolding opener_row
opener-plain role.Opener true n s row e = refl
opener-plain role.Opener false n s row e = absurd (cc)
opener-plain role.Accepter plain n s row e = refl

pub opener-other : (r : Role) (plain : Bool) (n : Name) (s : NodeState) (row : Result Move End) → r ≡ role.Accepter → opener_row r plain n s row ≡ phase_refusal s n
unfolding opener_row
opener-other role.Accepter plain n s row e = refl
opener-other role.Opener plain n s row e = absurd (cc)

pub opener-moves : (r : Role) (plain : Bool) (n : Name) (s : NodeState) (row : Result Move End) → r ≡ role.Opener → plain ≡ false → opener_row r plain n s row ≡ after_move s row
unfolding opener_row
opener-moves role.Opener false n s row e f = refl
opener-moves role.Opener true n s row e f = absurd (cc)
opener-moves role.Accepter plain n s row e f = absurd (cc)

-- a step that is taken whole, at a view that is told by its parts
pub taken : (v w : NodeView) (t : Turn) → t.state.ended ≡ None → w ≡ after_turn v t → IsStep t v w (Ok tt)
unfolding IsStep
taken v w t e is = (is, e)
