-- The rows of an accepter's machine at a conversation.
use Rattle.std.proofs.Common.{◌≡◌, ℕ, Bool, true, false, List, [], ◌++◌, Option, Some, None, Result, Ok, Err, IfSome, refl, sym, ap, subst, ◌∙◌}
use Rattle.std.specs.List.{AllByRecursion}
use Rattle.wire_rules.specs.Layout.{wire_bytes}
use Rattle.wire_rules.specs.Limits.{IsMessage}
use Rattle.wire_rules.specs.declared.message.Message.{Message}
use Rattle.wire_rules.specs.declared.message.Message.TheVariants as message
use Rattle.wire_rules.specs.declared.name.Name.{Name}
use Rattle.wire_rules.specs.declared.name.Name.TheVariants as name
use Rattle.pool_rules.specs.Snapshots.{Member}
use Rattle.node_rules.specs.Accepter.{accepter_reqrecon, accepter_extension, accepter_diff}
use Rattle.node_rules.specs.Invariant.{IsNode}
use Rattle.node_rules.specs.Stages.{is_after_handshake}
use Rattle.node_rules.specs.State.{Machine, NodeState, NodeView}
use Rattle.node_rules.specs.Steps.{accepter_row, in_relay}
use Rattle.node_rules.specs.Turns.{Response, Turn, after_turn, after_response}
use Rattle.node_rules.specs.declared.config.Role.TheVariants as role
use Rattle.node_rules.specs.declared.end.End.{End}
use Rattle.node_rules.specs.declared.end.End.TheVariants as end
use Rattle.outbox.specs.Waiting.{Waiting, with_messages}
use Rattle.conversation.specs.Handled.{IsStep, stop_for}
use Rattle.conversation.specs.Views.{IsStageOf, machine_at, peer_of, state_of, view_of}
use Rattle.conversation.specs.declared.stage.Stage.{Stage}
use Rattle.conversation.specs.declared.stage.Stage.TheVariants as stage
use Rattle.conversation.specs.declared.stop.Stop.{Stop}
use Rattle.conversation.specs.declared.stop.Stop.TheVariants as stop
use Rattle.conversation.proofs.Behind.{relayed-behind}
use Rattle.conversation.proofs.Held.{relay_sendable}
use Rattle.conversation.proofs.Stages.{accepter_of, no_accepter}
use Rattle.conversation.proofs.Steps.{accepter-plain, accepter-other, accepter-responds, refused, stopped, taken}
use Rattle.conversation.proofs.Views.{Parts, state_at, view_at}

-- a message that is answered by a row of the accepter's machine
pub record AccepterRow : Type 0 where
  pub message : Message
  pub command : Name
  pub rest : List Member → List Member
  pub row : Machine → List Member → Result Response End
  pub is_row : (s : NodeState) → in_relay s message ≡ accepter_row s.config.role s.plain command s (rest s.set) (row s.machine s.set)

pub reqrecon_is : (size q : ℕ) (s : NodeState) → in_relay s (message.ReqRecon size q) ≡ accepter_row s.config.role s.plain name.ReqRecon s [] (accepter_reqrecon s.machine s.set size q)
unfolding in_relay
reqrecon_is size q s = refl

pub extension_is : (s : NodeState) → in_relay s message.ReqSketchExt ≡ accepter_row s.config.role s.plain name.ReqSketchExt s s.set (accepter_extension s.machine)
unfolding in_relay
extension_is s = refl

pub diff_is : (success : Bool) (asks : List ℕ) (s : NodeState) → in_relay s (message.ReconcilDiff success asks) ≡ accepter_row s.config.role s.plain name.ReconcilDiff s s.set (accepter_diff s.machine success asks)
unfolding in_relay
diff_is success asks s = refl

abbrev pub reqrecon_row : ℕ → ℕ → AccepterRow
reqrecon_row size q = record { message = message.ReqRecon size q; command = name.ReqRecon; rest = λ set. []; row = λ m set. accepter_reqrecon m set size q; is_row = reqrecon_is size q }

abbrev pub extension_row : AccepterRow
extension_row = record { message = message.ReqSketchExt; command = name.ReqSketchExt; rest = λ set. set; row = λ m set. accepter_extension m; is_row = extension_is }

abbrev pub diff_row : Bool → List ℕ → AccepterRow
diff_row success asks = record { message = message.ReconcilDiff success asks; command = name.ReconcilDiff; rest = λ set. set; row = λ m set. accepter_diff m success asks; is_row = diff_is success asks }

behind_accepter : (m : Machine) → is_after_handshake m.phase ≡ true → IsStageOf role.Accepter (stage.Accepter m)
unfolding IsStageOf
behind_accepter m e = e

-- ---- it doesn't belong here

pub plain_refused : (w : AccepterRow) (v : NodeView) (told : Stop) → v.state.plain ≡ true → told ≡ stop.Ended (end.Misplaced w.command v.state.machine.phase) → IsStep (in_relay v.state w.message) v v (Err told)
plain_refused w v told plain said =
    refused v (in_relay v.state w.message) told (end.Misplaced w.command v.state.machine.phase) said
    (w.is_row v.state ∙ accepter-plain v.state.config.role v.state.plain w.command v.state (w.rest v.state.set) (w.row v.state.machine v.state.set) plain)

module _ (w : AccepterRow) (x : Parts) (v : NodeView) (view : view_at x ≡ v) (is : IsStageOf x.config.role x.stage) where
  pub other_refused : (told : Stop) → is_after_handshake v.state.machine.phase ≡ true → ((m : Machine) → x.stage ≡ stage.Accepter m → ⊥) → told ≡ stop.Ended (end.Misplaced w.command v.state.machine.phase)
      → IsStep (in_relay v.state w.message) v (view_at x) (Err told)
  other_refused told past never said =
      let opener : v.state.config.role ≡ role.Opener =
      ap (λ (v : NodeView). v.state.config.role) (sym view) ∙ no_accepter x.config.role x.stage is (ap (λ (v : NodeView). is_after_handshake v.state.machine.phase) view ∙ past) never in
      subst (λ y. IsStep (in_relay v.state w.message) v y (Err told)) (sym view)
      (refused v (in_relay v.state w.message) told (end.Misplaced w.command v.state.machine.phase) said
      (w.is_row v.state ∙ accepter-other v.state.config.role v.state.plain w.command v.state (w.rest v.state.set) (w.row v.state.machine v.state.set) opener))

  -- ---- at an accepter's machine

  module _ (old : Machine) (at : x.stage ≡ stage.Accepter old) (whole : v.state.plain ≡ false) where
    row_is : w.row v.state.machine v.state.set ≡ w.row old x.set
    row_is = sym (ap (λ (v : NodeView). w.row v.state.machine v.state.set) view) ∙ ap (λ s. w.row (machine_at s) x.set) at

    responds : in_relay v.state w.message ≡ after_response v.state (w.rest v.state.set) (w.row old x.set)
    responds =
        let accepter : v.state.config.role ≡ role.Accepter = ap (λ (v : NodeView). v.state.config.role) (sym view) ∙ accepter_of x.config.role x.stage old is at in
        w.is_row v.state ∙ accepter-responds v.state.config.role v.state.plain w.command v.state (w.rest v.state.set) (w.row v.state.machine v.state.set) accepter whole
        ∙ ap (after_response v.state (w.rest v.state.set)) row_is

    -- it is refused, or memory was
    pub fault_stopped : (told : Stop) (o : Option End) (machine : Machine) (set : List Member) → told ≡ stop_for o → IfSome o (λ e. w.row old x.set ≡ Err e) → machine ≡ old → set ≡ x.set
        → IsStep (in_relay v.state w.message) v (view_at (record x { stage = stage.Accepter machine; set = set })) (Err told)
    fault_stopped told o machine set said refuses same kept =
        subst (λ (y : NodeView). IsStep (in_relay v.state w.message) v y (Err told))
        (sym view ∙ ap (λ s. view_at (record x { stage = s })) (at ∙ ap (λ m. stage.Accepter m) (sym same)) ∙ ap (λ set. view_at (record x { stage = stage.Accepter machine; set = set })) (sym kept))
        (stopped v (in_relay v.state w.message) told o said (λ e some. responds ∙ ap (after_response v.state (w.rest v.state.set)) (at_end o refuses e some)))
      where
        at_end : (o : Option End) → IfSome o (λ e. w.row old x.set ≡ Err e) → (e : End) → o ≡ Some e → w.row old x.set ≡ Err e
        at_end (Some f) h e some = let same : f ≡ e = cc in h ∙ ap Err same
        at_end None h e some = absurd (cc)

    module _ (r : Response) (answers : w.row old x.set ≡ Ok r) where
      answered : in_relay v.state w.message ≡ after_response v.state (w.rest v.state.set) (Ok r)
      answered = responds ∙ ap (after_response v.state (w.rest v.state.set)) answers

      pub response_sendable : IsNode v.state → IsMessage w.message → is_after_handshake v.state.machine.phase ≡ true → AllByRecursion IsMessage r.out
      response_sendable node sound past = subst (λ (t : Turn). AllByRecursion IsMessage t.out) answered (relay_sendable v.state w.message node sound past)

      pub response_behind : IsMessage w.message → is_after_handshake v.state.machine.phase ≡ true → IsStageOf x.config.role (stage.Accepter r.machine)
      response_behind sound past =
          subst (λ k. IsStageOf k (stage.Accepter r.machine)) (sym (accepter_of x.config.role x.stage old is at))
          (behind_accepter r.machine (subst (λ (t : Turn). is_after_handshake t.state.machine.phase ≡ true) answered (relayed-behind v.state w.message sound past)))

      pub response_taken : (set : List Member) (out : Waiting) → x.outbox.magic ≡ x.config.magic → set ≡ w.rest x.set → out ≡ with_messages x.outbox r.out
          → IsStep (in_relay v.state w.message) v (view_at (record x { stage = stage.Accepter r.machine; set = set; outbox = out })) (Ok tt)
      response_taken set out magic kept sent =
          subst (λ (v : NodeView). in_relay v.state w.message ≡ after_response v.state (w.rest v.state.set) (Ok r) → IsStep (in_relay v.state w.message) v (view_at (record x { stage = stage.Accepter r.machine; set = set; outbox = out })) (Ok tt)) view
          (λ step.
          taken (view_at x) (view_at (record x { stage = stage.Accepter r.machine; set = set; outbox = out })) (in_relay (state_at x) w.message)
          (ap (λ (t : Turn). t.state.ended) step)
          (ap (λ s. view_at (record x { stage = stage.Accepter r.machine; set = s; outbox = out })) kept
          ∙ ap (λ (o : Waiting). view_at (record x { stage = stage.Accepter r.machine; set = w.rest x.set; outbox = o })) (sent ∙ ap (λ m. record x.outbox { bytes = x.outbox.bytes ++ wire_bytes m r.out }) magic)
          ∙ after_is ∙ sym (ap (after_turn (view_at x)) step)))
          answered
        where
          after_is : view_at (record x { stage = stage.Accepter r.machine; set = w.rest x.set; outbox = record x.outbox { bytes = x.outbox.bytes ++ wire_bytes x.config.magic r.out } })
              ≡ after_turn (view_at x) (after_response (state_at x) (w.rest x.set) (Ok r))
          after_is =
              let answering : Stage → NodeView =
              λ s.
              after_turn (view_of (state_of x.config s x.set x.store (peer_of x.peer)) x.outbox.bytes)
              (after_response (state_of x.config s x.set x.store (peer_of x.peer)) (w.rest x.set) (Ok r)) in
              sym (ap answering at)
