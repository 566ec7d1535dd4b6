-- A sketch at an opener's conversation.
use Rattle.std.proofs.Common.{◌≡◌, ℕ, true, false, List, ◌++◌, Option, Some, None, Result, Ok, Err, IfSome, refl, sym, ap, subst, ◌∙◌}
use Rattle.std.specs.List.{AllByRecursion}
use Rattle.wire_rules.specs.Layout.{wire_bytes}
use Rattle.wire_rules.specs.Limits.{IsMessage}
use Rattle.wire_rules.specs.declared.message.Message.TheVariants as message
use Rattle.wire_rules.specs.declared.name.Name.TheVariants as name
use Rattle.pool_rules.specs.Snapshots.{Member}
use Rattle.node_rules.specs.Invariant.{IsNode}
use Rattle.node_rules.specs.Opener.{opener_sketch}
use Rattle.node_rules.specs.Stages.{is_after_handshake}
use Rattle.node_rules.specs.State.{Initiator, NodeState, NodeView, initiator_of}
use Rattle.node_rules.specs.Steps.{opener_row, in_relay}
use Rattle.node_rules.specs.Turns.{Move, Turn, after_turn, after_move}
use Rattle.node_rules.specs.declared.config.Role.TheVariants as role
use Rattle.node_rules.specs.declared.end.End.{End}
use Rattle.node_rules.specs.declared.end.End.TheVariants as end
use Rattle.outbox.specs.Waiting.{Waiting, with_messages}
use Rattle.conversation.specs.Handled.{IsStep, stop_for}
use Rattle.conversation.specs.Views.{IsStageOf, machine_at, requests_at, peer_of, state_of, view_of}
use Rattle.conversation.specs.declared.stage.Stage.{Stage}
use Rattle.conversation.specs.declared.stage.Stage.TheVariants as stage
use Rattle.conversation.specs.declared.stop.Stop.{Stop}
use Rattle.conversation.specs.declared.stop.Stop.TheVariants as stop
use Rattle.conversation.proofs.Behind.{relayed-behind}
use Rattle.conversation.proofs.Held.{relay_sendable}
use Rattle.conversation.proofs.Stages.{opener_of, no_opener}
use Rattle.conversation.proofs.Steps.{opener-plain, opener-other, opener-moves, refused, stopped, taken}
use Rattle.conversation.proofs.Views.{Parts, state_at, view_at}

sketch_is : (s : NodeState) (bytes : List ℕ) → in_relay s (message.Sketch bytes) ≡ opener_row s.config.role s.plain name.Sketch s (opener_sketch (initiator_of s) s.set bytes)
unfolding in_relay
sketch_is s bytes = refl

pub behind_opener : (i : Initiator) → is_after_handshake i.machine.phase ≡ true → IsStageOf role.Opener (stage.Opener i)
unfolding IsStageOf
behind_opener i e = e

module _ (bytes : List ℕ) where
  pub sketch-plain : (v : NodeView) (told : Stop) → v.state.plain ≡ true → told ≡ stop.Ended (end.Misplaced name.Sketch v.state.machine.phase) → IsStep (in_relay v.state (message.Sketch bytes)) v v (Err told)
  sketch-plain v told plain said =
      refused v (in_relay v.state (message.Sketch bytes)) told (end.Misplaced name.Sketch v.state.machine.phase) said
      (sketch_is v.state bytes ∙ opener-plain v.state.config.role v.state.plain name.Sketch v.state (opener_sketch (initiator_of v.state) v.state.set bytes) plain)

  module _ (x : Parts) (v : NodeView) (view : view_at x ≡ v) (is : IsStageOf x.config.role x.stage) where
    pub sketch-other : (told : Stop) → is_after_handshake v.state.machine.phase ≡ true → ((i : Initiator) → x.stage ≡ stage.Opener i → ⊥) → told ≡ stop.Ended (end.Misplaced name.Sketch v.state.machine.phase)
        → IsStep (in_relay v.state (message.Sketch bytes)) v (view_at x) (Err told)
    sketch-other told past never said =
        let accepter : v.state.config.role ≡ role.Accepter =
        ap (λ (v : NodeView). v.state.config.role) (sym view) ∙ no_opener x.config.role x.stage is (ap (λ (v : NodeView). is_after_handshake v.state.machine.phase) view ∙ past) never in
        subst (λ y. IsStep (in_relay v.state (message.Sketch bytes)) v y (Err told)) (sym view)
        (refused v (in_relay v.state (message.Sketch bytes)) told (end.Misplaced name.Sketch v.state.machine.phase) said
        (sketch_is v.state bytes ∙ opener-other v.state.config.role v.state.plain name.Sketch v.state (opener_sketch (initiator_of v.state) v.state.set bytes) accepter))

    module _ (old : Initiator) (at : x.stage ≡ stage.Opener old) (whole : v.state.plain ≡ false) where
      row_is : opener_sketch (initiator_of v.state) v.state.set bytes ≡ opener_sketch old x.set bytes
      row_is =
          let row : Stage → Result Move End = λ s. opener_sketch (record { machine = machine_at s; requests = requests_at s }) x.set bytes in
          sym (ap (λ (v : NodeView). opener_sketch (initiator_of v.state) v.state.set bytes) view) ∙ ap row at

      moves : in_relay v.state (message.Sketch bytes) ≡ after_move v.state (opener_sketch old x.set bytes)
      moves =
          let opener : v.state.config.role ≡ role.Opener = ap (λ (v : NodeView). v.state.config.role) (sym view) ∙ opener_of x.config.role x.stage old is at in
          sketch_is v.state bytes ∙ opener-moves v.state.config.role v.state.plain name.Sketch v.state (opener_sketch (initiator_of v.state) v.state.set bytes) opener whole ∙ ap (after_move v.state) row_is

      -- it is refused, or memory was
      pub sketch-stopped : (told : Stop) (o : Option End) (machine : Initiator) (set : List Member) → told ≡ stop_for o → IfSome o (λ e. opener_sketch old x.set bytes ≡ Err e) → machine ≡ old → set ≡ x.set
          → IsStep (in_relay v.state (message.Sketch bytes)) v (view_at (record x { stage = stage.Opener machine; set = set })) (Err told)
      sketch-stopped told o machine set said refuses same kept =
          subst (λ (y : NodeView). IsStep (in_relay v.state (message.Sketch bytes)) v y (Err told))
          (sym view ∙ ap (λ s. view_at (record x { stage = s })) (at ∙ ap (λ m. stage.Opener m) (sym same)) ∙ ap (λ set. view_at (record x { stage = stage.Opener machine; set = set })) (sym kept))
          (stopped v (in_relay v.state (message.Sketch bytes)) told o said (λ e some. moves ∙ ap (after_move v.state) (at_end o refuses e some)))
        where
          at_end : (o : Option End) → IfSome o (λ e. opener_sketch old x.set bytes ≡ Err e) → (e : End) → o ≡ Some e → opener_sketch old x.set bytes ≡ Err e
          at_end (Some f) h e some = let same : f ≡ e = cc in h ∙ ap Err same
          at_end None h e some = absurd (cc)

      module _ (m : Move) (moved : opener_sketch old x.set bytes ≡ Ok m) where
        step : in_relay v.state (message.Sketch bytes) ≡ after_move v.state (Ok m)
        step = moves ∙ ap (after_move v.state) moved

        pub sketch-sendable : IsNode v.state → IsMessage (message.Sketch bytes) → is_after_handshake v.state.machine.phase ≡ true → AllByRecursion IsMessage m.out
        sketch-sendable node sound past = subst (λ (t : Turn). AllByRecursion IsMessage t.out) step (relay_sendable v.state (message.Sketch bytes) node sound past)

        pub sketch-behind : IsMessage (message.Sketch bytes) → is_after_handshake v.state.machine.phase ≡ true → IsStageOf x.config.role (stage.Opener m.initiator)
        sketch-behind sound past =
            subst (λ k. IsStageOf k (stage.Opener m.initiator)) (sym (opener_of x.config.role x.stage old is at))
            (behind_opener m.initiator (subst (λ (t : Turn). is_after_handshake t.state.machine.phase ≡ true) step (relayed-behind v.state (message.Sketch bytes) sound past)))

        pub sketch-taken : (out : Waiting) → x.outbox.magic ≡ x.config.magic → out ≡ with_messages x.outbox m.out
            → IsStep (in_relay v.state (message.Sketch bytes)) v (view_at (record x { stage = stage.Opener m.initiator; set = m.set; outbox = out })) (Ok tt)
        sketch-taken out magic sent =
            subst (λ (v : NodeView). in_relay v.state (message.Sketch bytes) ≡ after_move v.state (Ok m) → IsStep (in_relay v.state (message.Sketch bytes)) v (view_at (record x { stage = stage.Opener m.initiator; set = m.set; outbox = out })) (Ok tt)) view
            (λ step.
            taken (view_at x) (view_at (record x { stage = stage.Opener m.initiator; set = m.set; outbox = out })) (in_relay (state_at x) (message.Sketch bytes))
            (ap (λ (t : Turn). t.state.ended) step)
            (ap (λ (o : Waiting). view_at (record x { stage = stage.Opener m.initiator; set = m.set; outbox = o })) (sent ∙ ap (λ k. record x.outbox { bytes = x.outbox.bytes ++ wire_bytes k m.out }) magic)
            ∙ after_is ∙ sym (ap (after_turn (view_at x)) step)))
            step
          where
            after_is : view_at (record x { stage = stage.Opener m.initiator; outbox = record x.outbox { bytes = x.outbox.bytes ++ wire_bytes x.config.magic m.out }; set = m.set }) ≡ after_turn (view_at x) (after_move (state_at x) (Ok m))
            after_is =
                let moving : Stage → NodeView =
                λ s. after_turn (view_of (state_of x.config s x.set x.store (peer_of x.peer)) x.outbox.bytes) (after_move (state_of x.config s x.set x.store (peer_of x.peer)) (Ok m)) in
                sym (ap moving at)
