-- The start of a round at a conversation.
use Rattle.std.proofs.Common.{◌≡◌, ℕ, Bool, true, false, [], ◌∷◌, ◌++◌, length, Option, Some, None, append-nil, refl, sym, ap, subst, ◌∙◌}
use Rattle.wire_rules.specs.Layout.{wire_bytes}
use Rattle.wire_rules.specs.declared.phase.Phase.{Phase}
use Rattle.wire_rules.specs.declared.phase.Phase.TheVariants as phase
use Rattle.node_rules.specs.Opener.{Start, plain_start, round_start}
use Rattle.node_rules.specs.Stages.{is_after_handshake, is_idle}
use Rattle.node_rules.specs.State.{Initiator, NodeState, NodeView, initiator_of}
use Rattle.node_rules.specs.Steps.{StartTurn, after_start, round_by, on_start_by, on_start}
use Rattle.node_rules.specs.Turns.{unchanged, after_turn}
use Rattle.node_rules.specs.declared.config.Role.{Role}
use Rattle.node_rules.specs.declared.config.Role.TheVariants as role
use Rattle.node_rules.specs.declared.end.End.{End}
use Rattle.outbox.specs.Waiting.{Waiting, with_messages}
use Rattle.conversation.specs.Views.{IsStageOf, machine_at, requests_at, peer_of, state_of, view_of}
use Rattle.conversation.specs.declared.stage.Stage.{Stage}
use Rattle.conversation.specs.declared.stage.Stage.TheVariants as stage
use Rattle.conversation.proofs.Behind.{waiting-behind, barrier-behind}
use Rattle.conversation.proofs.Opening.{behind_opener}
use Rattle.conversation.proofs.Stages.{opener_of}
use Rattle.conversation.proofs.Views.{Parts, state_at, view_at}

abbrev not_begun : NodeState → StartTurn
not_begun s = record { begun = false; turn = unchanged s }

no_machine : (e : Option End) (r : Role) (at : Stage) (s : NodeState) → IsStageOf r at → ((i : Initiator) → at ≡ stage.Opener i → ⊥) → on_start_by e r (is_idle (machine_at at).phase) s ≡ not_begun s
unfolding on_start_by IsStageOf is_idle
no_machine (Some e) r at s is never = refl
no_machine None role.Accepter at s is never = refl
no_machine None role.Opener stage.Greeting s is never = refl
no_machine None role.Opener stage.Greeted s is never = refl
no_machine None role.Opener (stage.Opener i) s is never = absurd (never i refl)
no_machine None role.Opener (stage.Accepter m) s is never = absurd is

busy : (e : Option End) (r : Role) (idle : Bool) (s : NodeState) → idle ≡ false → on_start_by e r idle s ≡ not_begun s
unfolding on_start_by
busy (Some e) r idle s f = refl
busy None role.Accepter idle s f = refl
busy None role.Opener false s f = refl
busy None role.Opener true s f = absurd (cc)

begins : (e : Option End) (r : Role) (idle : Bool) (s : NodeState) → e ≡ None → r ≡ role.Opener → idle ≡ true → on_start_by e r idle s ≡ record { begun = true; turn = round_by s.plain s }
unfolding on_start_by
begins None role.Opener true s e f g = refl
begins None role.Opener false s e f g = absurd (cc)
begins None role.Accepter idle s e f g = absurd (cc)
begins (Some x) r idle s e f g = absurd (cc)

plain_round : (plain : Bool) (s : NodeState) → plain ≡ true → round_by plain s ≡ after_start s (plain_start (initiator_of s))
unfolding round_by
plain_round true s e = refl
plain_round false s e = absurd (cc)

whole_round : (plain : Bool) (s : NodeState) → plain ≡ false → round_by plain s ≡ after_start s (round_start (initiator_of s) (length s.set))
unfolding round_by
whole_round false s e = refl
whole_round true s e = absurd (cc)

pub idle_is : (p : Phase) → p ≡ phase.Idle → is_idle p ≡ true
unfolding is_idle
idle_is phase.Idle e = refl
idle_is other e = subst (λ p. is_idle p ≡ true) (sym e) refl

pub not_idle : (p : Phase) → (p ≡ phase.Idle → ⊥) → is_idle p ≡ false
unfolding is_idle
not_idle phase.Idle never = absurd (never refl)
not_idle other never = refl

kept : (v : NodeView) (t : StartTurn) → t ≡ not_begun v.state → (false ≡ t.begun) × (v ≡ after_turn v t.turn)
kept v t e = (sym (ap (λ (t : StartTurn). t.begun) e), sym (ap (λ (t : StartTurn). after_turn v t.turn) e ∙ ap (λ bytes. record v { outbox = bytes }) (append-nil v.outbox)))

module _ (x : Parts) (v : NodeView) (view : view_at x ≡ v) (is : IsStageOf x.config.role x.stage) where
  pub start-other : ((i : Initiator) → x.stage ≡ stage.Opener i → ⊥) → (false ≡ (on_start v.state).begun) × (view_at x ≡ after_turn v (on_start v.state).turn)
  start-other never =
      let none : on_start v.state ≡ not_begun v.state = subst (λ (v : NodeView). on_start v.state ≡ not_begun v.state) view (no_machine None x.config.role x.stage (state_at x) is never) in
      let k = kept v (on_start v.state) none in
      (k.0, view ∙ k.1)

  module _ (old : Initiator) (at : x.stage ≡ stage.Opener old) where
    idle_same : is_idle v.state.machine.phase ≡ is_idle old.machine.phase
    idle_same = sym (ap (λ (v : NodeView). is_idle v.state.machine.phase) view) ∙ ap (λ s. is_idle (machine_at s).phase) at

    pub start-busy : is_idle old.machine.phase ≡ false → (false ≡ (on_start v.state).begun) × (view_at (record x { stage = stage.Opener old }) ≡ after_turn v (on_start v.state).turn)
    start-busy e =
        let k = kept v (on_start v.state) (busy v.state.ended v.state.config.role (is_idle v.state.machine.phase) v.state (idle_same ∙ e)) in
        (k.0, sym (ap (λ s. view_at (record x { stage = s })) at) ∙ view ∙ k.1)

    begun_is : is_idle old.machine.phase ≡ true → on_start v.state ≡ record { begun = true; turn = round_by v.state.plain v.state }
    begun_is e =
        begins v.state.ended v.state.config.role (is_idle v.state.machine.phase) v.state (ap (λ (v : NodeView). v.state.ended) (sym view)) (ap (λ (v : NodeView). v.state.config.role) (sym view) ∙ opener_of x.config.role x.stage old is at) (idle_same ∙ e)

    pub start-told : is_idle old.machine.phase ≡ true → true ≡ (on_start v.state).begun
    start-told e = sym (ap (λ (t : StartTurn). t.begun) (begun_is e))

    begun-taken : (f : Initiator → ℕ → Start) (new : Initiator) (out : Waiting) → (on_start v.state).turn ≡ after_start v.state (f (initiator_of v.state) (length v.state.set)) → x.outbox.magic ≡ x.config.magic
        → new ≡ (f old (length x.set)).initiator → out ≡ with_messages x.outbox ((f old (length x.set)).message ∷ []) → view_at (record x { stage = stage.Opener new; outbox = out }) ≡ after_turn v (on_start v.state).turn
    begun-taken f new out turn magic moved sent =
        let now = f old (length x.set) in
        let starting : Stage → NodeView = λ s. after_turn (view_of (state_of x.config s x.set x.store (peer_of x.peer)) x.outbox.bytes) (after_start (state_of x.config s x.set x.store (peer_of x.peer)) (f (record { machine = machine_at s; requests = requests_at s }) (length x.set))) in
        ap (λ i. view_at (record x { stage = stage.Opener i; outbox = out })) moved
        ∙ ap (λ (o : Waiting). view_at (record x { stage = stage.Opener now.initiator; outbox = o })) (sent ∙ ap (λ k. record x.outbox { bytes = x.outbox.bytes ++ wire_bytes k (now.message ∷ []) }) magic)
        ∙ sym (ap starting at) ∙ ap (λ (v : NodeView). after_turn v (after_start v.state (f (initiator_of v.state) (length v.state.set)))) view ∙ sym (ap (after_turn v) turn)

    pub start-plain : is_idle old.machine.phase ≡ true → v.state.plain ≡ true → (new : Initiator) (out : Waiting) → x.outbox.magic ≡ x.config.magic
        → new ≡ (plain_start old).initiator → out ≡ with_messages x.outbox ((plain_start old).message ∷ []) → view_at (record x { stage = stage.Opener new; outbox = out }) ≡ after_turn v (on_start v.state).turn
    start-plain e plain new out magic moved sent = begun-taken (λ i n. plain_start i) new out (ap (λ (t : StartTurn). t.turn) (begun_is e) ∙ plain_round v.state.plain v.state plain) magic moved sent

    pub start-whole : is_idle old.machine.phase ≡ true → v.state.plain ≡ false → (new : Initiator) (out : Waiting) → x.outbox.magic ≡ x.config.magic
        → new ≡ (round_start old (length x.set)).initiator → out ≡ with_messages x.outbox ((round_start old (length x.set)).message ∷ []) → view_at (record x { stage = stage.Opener new; outbox = out }) ≡ after_turn v (on_start v.state).turn
    start-whole e whole new out magic moved sent = begun-taken round_start new out (ap (λ (t : StartTurn). t.turn) (begun_is e) ∙ whole_round v.state.plain v.state whole) magic moved sent

    pub start-behind : (new : Initiator) → is_after_handshake new.machine.phase ≡ true → IsStageOf x.config.role (stage.Opener new)
    start-behind new e = subst (λ k. IsStageOf k (stage.Opener new)) (sym (opener_of x.config.role x.stage old is at)) (behind_opener new e)

pub whole-behind : (i new : Initiator) (n : ℕ) → new ≡ (round_start i n).initiator → is_after_handshake new.machine.phase ≡ true
whole-behind i new n e = ap (λ (i : Initiator). is_after_handshake i.machine.phase) e ∙ waiting-behind 0

pub plain-behind : (i new : Initiator) → new ≡ (plain_start i).initiator → is_after_handshake new.machine.phase ≡ true
plain-behind i new e = ap (λ (i : Initiator). is_after_handshake i.machine.phase) e ∙ barrier-behind
