use Rattle.std.proofs.Common.{option_and_then, ◌≡◌, ◌==◌, ◌&&◌, not, nat_lt, ap₂, ℕ, List, map, length, Some, Ok, IsSome, refl, sym, ap, subst, ◌∙◌, arith, true, false}
use Rattle.std.proofs.lemmas.Result.{IfOk-weaker}
use Rattle.wire_rules.specs.declared.message.Message.{Message}
use Rattle.pool_rules.specs.Snapshots.{Member}
use Rattle.sketch_core.specs.Answered.{decoded_numbers}
use Rattle.node_rules.specs.Opener.{initiator_question, opener_sketch, remaining_set, extension_request, has_extension_left}
use Rattle.node_rules.specs.Stages.{requested_extensions}
use Rattle.node_rules.specs.State.{Initiator, Round}
use Rattle.sketch_rules.specs.Answers.{IsAscending, answer_of}
use Rattle.initiator.specs.Questions.{round_with}
use Rattle.initiator.proofs.Moves.{awaited, answered_move, extended_move, fallen_move, ended, closed_by_answer, closed_by_fallback, if_ok_all, most_sums}
use Rattle.initiator.proofs.Sketches.{taken_none, question_of, found_answer, found_few}
use Rattle.initiator.proofs.Stages.{at_view}
use Rattle.initiator.proofs.machine.Initiator.on_answer.Goals as goal

pub first_capacity-capacity-requires : goal.first_capacity-capacity-requires
first_capacity-capacity-requires g c =
    let q = question_of (initiator_question c.args.self.now.machine c.args.set.now c.args.skdata.now) (λ asked. decoded_numbers g.F.Field.bits_of c.args.answer ≡ option_and_then answer_of asked) c.requires in
    taken_none c.args.self.now.machine c.args.set.now c.args.skdata.now q.0 q.1.0

pub answered-requires-clause-rises : goal.answered-requires-clause-rises
answered-requires-clause-rises g c =
    let q = question_of (initiator_question c.args.self.now.machine c.args.set.now c.args.skdata.now) (λ asked. decoded_numbers g.F.Field.bits_of c.args.answer ≡ option_and_then answer_of asked) c.requires in
    let es = map g.F.Field.bits_of c.in-Found.found in
    let answer = found_answer c.args.self.now.machine c.args.set.now c.args.skdata.now q.0 es q.1.0 (sym q.1.1 ∙ ap (decoded_numbers g.F.Field.bits_of) c.in-Found.is) in
    subst (IsAscending 1 4294967296) (sym (c.in_ok-shorts-in-Found.ensures ∙ ap (map g.F.Field.bits_of) c.as_slice.ensures)) answer.rises

pub answered-requires-clause-few : goal.answered-requires-clause-few
answered-requires-clause-few g c =
    let q = question_of (initiator_question c.args.self.now.machine c.args.set.now c.args.skdata.now) (λ asked. decoded_numbers g.F.Field.bits_of c.args.answer ≡ option_and_then answer_of asked) c.requires in
    let m = c.args.self.now.machine in
    let es : List ℕ = map g.F.Field.bits_of c.in-Found.found in
    let r : Round = round_with m c.args.set.now c.args.skdata.now in
    let answer = found_answer m c.args.set.now c.args.skdata.now q.0 es q.1.0 (sym q.1.1 ∙ ap (decoded_numbers g.F.Field.bits_of) c.in-Found.is) in
    let size = ap length (c.in_ok-shorts-in-Found.ensures ∙ ap (map g.F.Field.bits_of) c.as_slice.ensures) in
    let few = found_few r es answer in
    let most = most_sums g.F.Field.bits_of m c.self.inside.stage (at_view g.F.Field.bits_of c.self.inside.stage _ c.args.self.now c.self.view_is refl refl) c.self.invariant.2 c.args.set.now c.args.skdata.now (taken_none c.args.self.now.machine c.args.set.now c.args.skdata.now q.0 q.1.0) in
    omega (arith, size, few, most)

pub finish-requires : goal.finish-requires
finish-requires g c =
    let q = question_of (initiator_question c.args.self.now.machine c.args.set.now c.args.skdata.now) (λ asked. decoded_numbers g.F.Field.bits_of c.args.answer ≡ option_and_then answer_of asked) c.requires in
    let n = awaited c.args.self.now.machine (length c.args.skdata.now) (taken_none c.args.self.now.machine c.args.set.now c.args.skdata.now q.0 q.1.0) in
    subst IsSome (sym n.1) refl

pub finish-requires-in-NoSet : goal.finish-requires-in-NoSet
finish-requires-in-NoSet g c =
    let q = question_of (initiator_question c.args.self.now.machine c.args.set.now c.args.skdata.now) (λ asked. decoded_numbers g.F.Field.bits_of c.args.answer ≡ option_and_then answer_of asked) c.requires in
    let n = awaited c.args.self.now.machine (length c.args.skdata.now) (taken_none c.args.self.now.machine c.args.set.now c.args.skdata.now q.0 q.1.0) in
    subst IsSome (sym n.1) refl

pub extend-requires-clause-awaited : goal.extend-requires-clause-awaited
extend-requires-clause-awaited g c =
    let q = question_of (initiator_question c.args.self.now.machine c.args.set.now c.args.skdata.now) (λ asked. decoded_numbers g.F.Field.bits_of c.args.answer ≡ option_and_then answer_of asked) c.requires in
    taken_none c.args.self.now.machine c.args.set.now c.args.skdata.now q.0 q.1.0

-- an opener with what is sent moves so
abbrev Moves : Initiator → List Member → List ℕ → Initiator → List Member → List Message → Type 0
Moves i set bytes new left outs = opener_sketch i set bytes ≡ Ok (record { initiator = new; set = left; out = outs })

pub returns-in_ok-outcome-in-Found-clause-ok : goal.returns-in_ok-outcome-in-Found-clause-ok
returns-in_ok-outcome-in-Found-clause-ok g c =
    let q = question_of (initiator_question c.args.self.now.machine c.args.set.now c.args.skdata.now) (λ asked. decoded_numbers g.F.Field.bits_of c.args.answer ≡ option_and_then answer_of asked) c.requires in
    let i : Initiator = c.args.self.now in
    let set = c.args.set.now in
    let bytes = c.args.skdata.now in
    let none = taken_none c.args.self.now.machine c.args.set.now c.args.skdata.now q.0 q.1.0 in
    let n = awaited i.machine (length bytes) none in
    let es : List ℕ = map g.F.Field.bits_of c.in-Found.found in
    let r : Round = round_with i.machine set bytes in
    let o = c.in_ok-outcome-in-Found.outcome in
    if_ok_all c.finish.result (λ outs. outs ≡ o.messages) (λ _. c.finish.new.self ≡ ended i o)
    (λ _. (k : ℕ) → requested_extensions i.machine.phase ≡ Some k → c.finish.new.set ≡ remaining_set k set)
    (λ outs. Moves i set bytes c.finish.new.self c.finish.new.set outs)
    c.finish.ensures.outs c.finish.ensures.machine c.finish.ensures.set
    (λ outs a b d.
    answered_move i set bytes q.0 q.1.0 n.0 n.1 es (sym q.1.1 ∙ ap (decoded_numbers g.F.Field.bits_of) c.in-Found.is)
    ∙ ap Ok
    (closed_by_answer i c.finish.new.self r n.0 es o (remaining_set n.0 set) c.finish.new.set outs c.snapshot-snapshot.result.now.members c.first_capacity-capacity.result c.extensions-extensions.result c.ending_after-ending.result
    c.in_ok-shorts-in-Found.shorts c.self.inside.begun c.in_ok-outcome-in-Found.ensures (c.snapshot-snapshot.ensures bytes none) (c.first_capacity-capacity.ensures.value set) c.ending_after-ending.ensures
    (c.extensions-extensions.ensures n.0 n.1) (c.in_ok-shorts-in-Found.ensures ∙ ap (map g.F.Field.bits_of) c.as_slice.ensures) (ap (λ (x : Initiator). x.requests.begun) c.self.view_is) a b (d n.0 n.1)))

pub returns-then-has_extension_left-clause-ok : goal.returns-then-has_extension_left-clause-ok
returns-then-has_extension_left-clause-ok g c =
    let q = question_of (initiator_question c.args.self.now.machine c.args.set.now c.args.skdata.now) (λ asked. decoded_numbers g.F.Field.bits_of c.args.answer ≡ option_and_then answer_of asked) c.requires in
    let i : Initiator = c.args.self.now in
    let set = c.args.set.now in
    let bytes = c.args.skdata.now in
    let none = taken_none c.args.self.now.machine c.args.set.now c.args.skdata.now q.0 q.1.0 in
    let n = awaited i.machine (length bytes) none in
    let r : Round = round_with i.machine set bytes in
    let left : has_extension_left i.machine r n.0 ≡ true =
    ap₂ (λ a b. not (a == 0) && nat_lt b i.machine.level) (sym (c.first_capacity-capacity.ensures.value set)) (sym (c.extensions-extensions.ensures n.0 n.1))
    ∙ sym c.has_extension_left.ensures
    ∙ c.if-has_extension_left.true in
    IfOk-weaker c.extend.result
    (λ outs. (k : ℕ) → requested_extensions i.machine.phase ≡ Some k → extension_request i r k (remaining_set k set) ≡ record { initiator = c.extend.new.self; set = c.extend.new.set; out = outs })
    (λ outs. Moves i set bytes c.extend.new.self c.extend.new.set outs)
    (λ outs h. extended_move i set bytes q.0 q.1.0 n.0 n.1 (sym q.1.1 ∙ ap (decoded_numbers g.F.Field.bits_of) c.in-NoSet.is) left ∙ ap Ok (h n.0 n.1))
    c.extend.ensures.ok

pub returns-in_ok-outcome-in-NoSet-clause-ok : goal.returns-in_ok-outcome-in-NoSet-clause-ok
returns-in_ok-outcome-in-NoSet-clause-ok g c =
    let q = question_of (initiator_question c.args.self.now.machine c.args.set.now c.args.skdata.now) (λ asked. decoded_numbers g.F.Field.bits_of c.args.answer ≡ option_and_then answer_of asked) c.requires in
    let i : Initiator = c.args.self.now in
    let set = c.args.set.now in
    let bytes = c.args.skdata.now in
    let none = taken_none c.args.self.now.machine c.args.set.now c.args.skdata.now q.0 q.1.0 in
    let n = awaited i.machine (length bytes) none in
    let r : Round = round_with i.machine set bytes in
    let o = c.in_ok-outcome-in-NoSet.outcome in
    let left : has_extension_left i.machine r n.0 ≡ false =
    ap₂ (λ a b. not (a == 0) && nat_lt b i.machine.level) (sym (c.first_capacity-capacity.ensures.value set)) (sym (c.extensions-extensions.ensures n.0 n.1))
    ∙ sym c.has_extension_left.ensures
    ∙ c.if-has_extension_left.false in
    if_ok_all c.finish-in-NoSet.result (λ outs. outs ≡ o.messages) (λ _. c.finish-in-NoSet.new.self ≡ ended i o)
    (λ _. (k : ℕ) → requested_extensions i.machine.phase ≡ Some k → c.finish-in-NoSet.new.set ≡ remaining_set k set)
    (λ outs. Moves i set bytes c.finish-in-NoSet.new.self c.finish-in-NoSet.new.set outs)
    c.finish-in-NoSet.ensures.outs c.finish-in-NoSet.ensures.machine c.finish-in-NoSet.ensures.set
    (λ outs a b d.
    fallen_move i set bytes q.0 q.1.0 n.0 n.1 (sym q.1.1 ∙ ap (decoded_numbers g.F.Field.bits_of) c.in-NoSet.is) left
    ∙ ap Ok
    (closed_by_fallback i c.finish-in-NoSet.new.self r o (remaining_set n.0 set) c.finish-in-NoSet.new.set outs c.snapshot-snapshot-in-NoSet.result.now.members c.first_capacity-capacity.result c.self.inside.coefficient c.self.inside.begun
    c.in_ok-outcome-in-NoSet.ensures (c.snapshot-snapshot-in-NoSet.ensures bytes none) (c.first_capacity-capacity.ensures.value set)
    (ap (λ (x : Initiator). x.requests.coefficient) c.self.view_is) (ap (λ (x : Initiator). x.requests.begun) c.self.view_is) a b (d n.0 n.1)))
