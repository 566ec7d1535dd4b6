use Rattle.std.proofs.Common.{◌≡◌, ℕ, ◌<◌, ◌+◌, ◌++◌, ◌∷◌, [], map, length, Some, refl, sym, ap, subst, ◌∙◌, arith}
use Rattle.std.proofs.lemmas.List.{length-map}
use Rattle.wire_rules.specs.declared.message.Message.TheVariants as message
use Rattle.node_rules.specs.Stages.{requested_extensions}
use Rattle.node_rules.specs.State.{Initiator, Round}
use Rattle.recon_set.specs.Sums.{Contents}
use Rattle.node_rules.specs.Opener.{remaining_set}
use Rattle.initiator.specs.Questions.{round_with}
use Rattle.initiator.specs.declared.stage.Pending.{Pending}
use Rattle.initiator.specs.declared.stage.Stage.TheVariants as stage
use Rattle.initiator.specs.Stages.{IsPending}
use Rattle.initiator.proofs.Moves.{awaited, extensions-pending, extensions-fresh, remaining-pending, remaining-fresh, some_bytes, next_pending, extended, with_all}
use Rattle.initiator.proofs.Stages.{at_view, requested_at, fresh_round, extending_round}
use Rattle.initiator.proofs.machine.Initiator.extend.Given.{Over}
use Rattle.initiator.proofs.machine.Initiator.extend.Goals as goal
use Rattle.initiator.proofs.machine.Initiator.extend.Goals.{in-Extending, in_default}

-- one more extension is asked for
next_is : (g : Over) (c : goal.After-from_vec g) (n : ℕ) → requested_extensions c.args.self.now.machine.phase ≡ Some n → c.match-replace.snapshot.1 ≡ n + 1
next_is g c n e =
    let asked = sym (requested_at g.F.Field.bits_of c.args.self.now.machine c.self.inside.stage (at_view g.F.Field.bits_of c.self.inside.stage _ c.args.self.now c.self.view_is refl refl) c.self.invariant.2) ∙ e in
    elim c.match-replace.branch [
      | in-Extending w ↦ ap (λ (s : Contents × ℕ). s.1) w.snapshot-is ∙ ap (λ k. k + 1) (extensions-pending c.self.inside.stage w.in-Extending.round n (sym c.replace.ensures.value ∙ w.in-Extending.is) asked)
      | in_default w ↦ ap (λ (s : Contents × ℕ). s.1) w.snapshot-is ∙ ap (λ k. k + 1) (extensions-fresh c.self.inside.stage n (λ p h. w.in_default.not-Extending p (c.replace.ensures.value ∙ h)) asked)
    ]

pub peer_sketch-requires-clause-some : goal.peer_sketch-requires-clause-some
peer_sketch-requires-clause-some g c =
    some_bytes g.F.Field.bits_of c.args.self.now.machine c.self.inside.stage (at_view g.F.Field.bits_of c.self.inside.stage _ c.args.self.now c.self.view_is refl refl) c.self.invariant.2 c.args.set.now c.args.skdata.now c.requires.awaited
    (subst (λ k. 0 < k) c.requires.capacity c.requires.some)

pub invariant_of-self : goal.invariant_of-self
invariant_of-self g c =
    let m = c.args.self.now.machine in
    let r : Round = round_with m c.args.set.now c.args.skdata.now in
    let n = awaited m (length c.args.skdata.now) c.requires.awaited in
    let level = ap (λ (i : Initiator). i.machine.level) c.self.view_is in
    let most = c.self.invariant.1 in
    let left = c.requires.left n.0 n.1 in
    let some = subst (λ k. 0 < k) c.requires.capacity c.requires.some in
    let pending = next_pending g.F.Field.bits_of m c.self.inside.stage (at_view g.F.Field.bits_of c.self.inside.stage _ c.args.self.now c.self.view_is refl refl) c.self.invariant.2 c.args.set.now c.args.skdata.now c.requires.awaited n.0 n.1 (omega (arith, level, most, left)) some in
    let size : length r.sums ≡ length c.in_ok-sketch.sketch = sym (ap length (c.in_ok-sketch.ensures c.args.set.now)) ∙ length-map c.in_ok-sketch.sketch g.F.Field.bits_of in (
      c.self.invariant.0,
      c.self.invariant.1,
      subst (λ k. IsPending k c.match-replace.snapshot.1 (length c.in_ok-sketch.sketch)) (sym c.requires.capacity)
          (subst (λ k. IsPending r.capacity k (length c.in_ok-sketch.sketch)) (sym (next_is g c n.0 n.1)) (subst (λ k. IsPending r.capacity (n.0 + 1) k) size pending)),
    )

pub returns-clause-ok : goal.returns-clause-ok
returns-clause-ok g c =
    λ n e.
    let m = c.args.self.now.machine in
    let st = c.self.inside.stage in
    let at = at_view g.F.Field.bits_of c.self.inside.stage _ c.args.self.now c.self.view_is refl refl in
    let len = length c.args.skdata.now in
    let asked = sym (requested_at g.F.Field.bits_of m st at c.self.invariant.2) ∙ e in
    let rest : (c.match-replace.snapshot.0.members ≡ (round_with m c.args.set.now c.args.skdata.now).snapshot) × (c.match-replace.set ≡ remaining_set n c.args.set.now) =
    elim c.match-replace.branch [
      | in-Extending w ↦
          let is = sym c.replace.ensures.value ∙ w.in-Extending.is in
          (ap (λ (s : Contents × ℕ). s.0.members) w.snapshot-is ∙ sym (ap (λ (r : Round). r.snapshot) (extending_round g.F.Field.bits_of m st at c.self.invariant.2 len c.requires.awaited w.in-Extending.round is c.args.set.now c.args.skdata.now)), w.set-is ∙ sym (remaining-pending st w.in-Extending.round n c.args.set.now c.self.invariant.2 is asked))
      | in_default w ↦
          let fresh = λ (p : Pending g.row.F.Denot) (h : st ≡ stage.Extending p). w.in_default.not-Extending p (c.replace.ensures.value ∙ h) in
          (ap (λ (s : Contents × ℕ). s.0.members) w.snapshot-is ∙ w.take_snapshot.ensures.taken ∙ sym (ap (λ (r : Round). r.snapshot) (fresh_round g.F.Field.bits_of m st at c.self.invariant.2 len c.requires.awaited fresh c.args.set.now c.args.skdata.now)), w.set-is ∙ w.take_snapshot.ensures.empty ∙ sym (remaining-fresh st n c.args.set.now fresh asked))
    ] in
    extended c.args.self.now (round_with m c.args.set.now c.args.skdata.now) n c.match-replace.snapshot.1 (remaining_set n c.args.set.now) c.match-replace.set c.from_vec.result c.match-replace.snapshot.0.members c.args.capacity (map g.F.Field.bits_of c.in_ok-sketch.sketch)
    (next_is g c n e) rest.0 c.requires.capacity (c.in_ok-sketch.ensures c.args.set.now) rest.1
    (c.from_vec.ensures ∙ c.in_ok-push.ensures.items ∙ ap (λ xs. xs ++ message.ReqSketchExt ∷ []) c.new-messages.ensures.items)
    ∙ ap (λ (x : Initiator). with_all x c.match-replace.snapshot.1 c.match-replace.snapshot.0.members c.args.capacity (map g.F.Field.bits_of c.in_ok-sketch.sketch) c.match-replace.set c.from_vec.result) (sym c.self.view_is)
