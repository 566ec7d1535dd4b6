-- A pong at a conversation.
use Rattle.std.proofs.Common.{◌≡◌, ℕ, nat_lt, ◌==◌, Bool, true, false, List, [], ◌∷◌, ◌++◌, length, Ok, arith, le-leb, refl, sym, ap, subst, ◌∙◌}
use Rattle.std.specs.List.{AllByRecursion}
use Rattle.std.proofs.lemmas.Bool.{and_parts}
use Rattle.base_types.specs.declared.lists.Hash32.{Hash32}
use Rattle.wire_rules.specs.Layout.{wire_bytes}
use Rattle.wire_rules.specs.Limits.{IsMessage}
use Rattle.wire_rules.specs.declared.message.Message.{Message}
use Rattle.wire_rules.specs.declared.message.Message.TheVariants as message
use Rattle.wire_rules.specs.declared.phase.Phase.{Phase}
use Rattle.wire_rules.specs.declared.phase.Phase.TheVariants as phase
use Rattle.node_rules.specs.Barrier.{is_barrier, is_barrier_end, after_barrier, pong_response, initiator_pong, with_wants_requested, pong_by, on_pong}
use Rattle.node_rules.specs.Invariant.{IsNode, IsOfRole, is_fetching}
use Rattle.node_rules.specs.Stages.{is_after_handshake}
use Rattle.node_rules.specs.State.{Initiator, Machine, Requests, NodeState, NodeView, initiator_of}
use Rattle.node_rules.specs.Steps.{in_relay}
use Rattle.node_rules.specs.Turns.{Response, Turn, unchanged, turn_with, after_turn, getdata_of}
use Rattle.node_rules.specs.declared.config.Role.{Role}
use Rattle.node_rules.specs.declared.config.Role.TheVariants as role
use Rattle.outbox.specs.Waiting.{Waiting, with_messages}
use Rattle.relay_store.specs.Holdings.{Holdings}
use Rattle.conversation.specs.Handled.{IsStep}
use Rattle.conversation.specs.Views.{IsStageOf, machine_at, requests_at, peer_of, state_of, view_of}
use Rattle.conversation.specs.declared.stage.Stage.{Stage}
use Rattle.conversation.specs.declared.stage.Stage.TheVariants as stage
use Rattle.conversation.proofs.Behind.{relayed-behind}
use Rattle.conversation.proofs.Held.{relay_sendable}
use Rattle.conversation.proofs.Opening.{behind_opener}
use Rattle.conversation.proofs.Shaking.{back}
use Rattle.conversation.proofs.Stages.{opener_of, no_opener}
use Rattle.conversation.proofs.Steps.{stays, taken}
use Rattle.conversation.proofs.Views.{Parts, state_at, view_at}

pong_is : (s : NodeState) (n : ℕ) → in_relay s (message.Pong n) ≡ on_pong s n
unfolding in_relay
pong_is s n = refl

accepter_pong : (r : Role) (ends : Bool) (s : NodeState) → r ≡ role.Accepter → pong_by r ends s ≡ unchanged s
unfolding pong_by
accepter_pong role.Accepter ends s e = refl
accepter_pong role.Opener ends s e = absurd (cc)

other_pong : (r : Role) (ends : Bool) (s : NodeState) → ends ≡ false → pong_by r ends s ≡ unchanged s
unfolding pong_by
other_pong role.Accepter ends s e = refl
other_pong role.Opener false s e = refl
other_pong role.Opener true s e = absurd (cc)

last_pong : (r : Role) (ends : Bool) (s : NodeState) → r ≡ role.Opener → ends ≡ true → pong_by r ends s ≡ turn_with (with_wants_requested s) (getdata_of s.wants.wanted)
unfolding pong_by
last_pong role.Opener true s e f = refl
last_pong role.Opener false s e f = absurd (cc)
last_pong role.Accepter ends s e f = absurd (cc)

asks : (ends : Bool) (m : Machine) (ids : List Hash32) → ends ≡ true → pong_response ends m ids ≡ record { machine = after_barrier m ids; out = getdata_of ids }
unfolding pong_response
asks true m ids e = refl
asks false m ids e = absurd (cc)

barrier_unfetching : (p : Phase) → is_barrier p ≡ true → is_fetching p ≡ false
unfolding is_barrier is_fetching
barrier_unfetching phase.Fetching e = absurd (let apart : false ≡ true = e in cc)
barrier_unfetching other e = refl

none_asked : (ids : List Hash32) → nat_lt 0 (length ids) ≡ false → ids ≡ []
none_asked [] e = refl
none_asked (id ∷ ids) e = let some : nat_lt 0 (length (id ∷ ids)) ≡ true = le-leb 1 (length (id ∷ ids)) (omega arith) in absurd (let apart : true ≡ false = sym some ∙ e in cc)

opener_fetches : (r : Role) (s : NodeState) → r ≡ role.Opener → IsOfRole r s → is_fetching s.machine.phase ≡ nat_lt 0 (length s.wants.asked)
unfolding IsOfRole
opener_fetches role.Opener s e k = k
opener_fetches role.Accepter s e k = absurd (cc)

module _ (n : ℕ) (x : Parts) (v : NodeView) (view : view_at x ≡ v) (is : IsStageOf x.config.role x.stage) where
  pub pong-other : is_after_handshake v.state.machine.phase ≡ true → ((i : Initiator) → x.stage ≡ stage.Opener i → ⊥) → IsStep (on_pong v.state n) v (view_at x) (Ok tt)
  pong-other past never =
      let accepter : v.state.config.role ≡ role.Accepter =
      ap (λ (v : NodeView). v.state.config.role) (sym view) ∙ no_opener x.config.role x.stage is (ap (λ (v : NodeView). is_after_handshake v.state.machine.phase) view ∙ past) never in
      back x v (on_pong v.state n) (Ok tt) view
      (stays v (on_pong v.state n) (ap (λ (v : NodeView). v.state.ended) (sym view)) (accepter_pong v.state.config.role (is_barrier_end (initiator_of v.state) n) v.state accepter))

  module _ (old : Initiator) (at : x.stage ≡ stage.Opener old) where
    opener : v.state.config.role ≡ role.Opener
    opener = ap (λ (v : NodeView). v.state.config.role) (sym view) ∙ opener_of x.config.role x.stage old is at

    ends_is : is_barrier_end (initiator_of v.state) n ≡ is_barrier_end old n
    ends_is =
        let ends : Stage → Bool = λ s. is_barrier_end (record { machine = machine_at s; requests = requests_at s }) n in
        sym (ap (λ (v : NodeView). is_barrier_end (initiator_of v.state) n) view) ∙ ap ends at

    pub pong-kept : is_barrier_end old n ≡ false → IsStep (on_pong v.state n) v (view_at (record x { stage = stage.Opener old })) (Ok tt)
    pong-kept e =
        subst (λ s. IsStep (on_pong v.state n) v (view_at (record x { stage = s })) (Ok tt)) at
        (back x v (on_pong v.state n) (Ok tt) view
        (stays v (on_pong v.state n) (ap (λ (v : NodeView). v.state.ended) (sym view)) (other_pong v.state.config.role (is_barrier_end (initiator_of v.state) n) v.state (ends_is ∙ e))))

    module _ (ends : is_barrier_end old n ≡ true) where
      step : on_pong v.state n ≡ turn_with (with_wants_requested v.state) (getdata_of v.state.wants.wanted)
      step = last_pong v.state.config.role (is_barrier_end (initiator_of v.state) n) v.state opener (ends_is ∙ ends)

      pub pong-unasked : IsNode v.state → x.store.wants.asked ≡ []
      pong-unasked node =
          let barrier = (and_parts (is_barrier v.state.machine.phase) (n == v.state.requests.begun) (ends_is ∙ ends)).0 in
          ap (λ (v : NodeView). v.state.wants.asked) view
          ∙ none_asked v.state.wants.asked (sym (opener_fetches v.state.config.role v.state opener node.conversing.role) ∙ barrier_unfetching v.state.machine.phase barrier)

      pub pong-answer : (new : Machine) (wanted : List Hash32) (out : List Message) → initiator_pong old n wanted ≡ record { machine = new; out = out } → (new ≡ after_barrier old.machine wanted) × (out ≡ getdata_of wanted)
      pong-answer new wanted out e =
          let told : Response = record { machine = new; out = out } in
          let both : told ≡ record { machine = after_barrier old.machine wanted; out = getdata_of wanted } = sym e ∙ asks (is_barrier_end old n) old.machine wanted ends in
          (ap (λ (r : Response). r.machine) both, ap (λ (r : Response). r.out) both)

      pub pong-sendable : IsNode v.state → IsMessage (message.Pong n) → is_after_handshake v.state.machine.phase ≡ true → AllByRecursion IsMessage (getdata_of x.store.wants.wanted)
      pong-sendable node sound past =
          subst (λ ids. AllByRecursion IsMessage (getdata_of ids)) (ap (λ (v : NodeView). v.state.wants.wanted) (sym view))
          (subst (λ (t : Turn). AllByRecursion IsMessage t.out) (pong_is v.state n ∙ step) (relay_sendable v.state (message.Pong n) node sound past))

      pub pong-behind : (new : Initiator) → new.machine ≡ after_barrier old.machine x.store.wants.wanted → IsMessage (message.Pong n) → is_after_handshake v.state.machine.phase ≡ true → IsStageOf x.config.role (stage.Opener new)
      pong-behind new moved sound past =
          let after : Stage → List Hash32 → Phase = λ s ids. (after_barrier (machine_at s) ids).phase in
          let same : (with_wants_requested v.state).machine.phase ≡ new.machine.phase =
          ap (λ (v : NodeView). (with_wants_requested v.state).machine.phase) (sym view) ∙ ap (λ s. after s x.store.wants.wanted) at ∙ ap (λ (m : Machine). m.phase) (sym moved) in
          subst (λ k. IsStageOf k (stage.Opener new)) (sym (opener_of x.config.role x.stage old is at))
          (behind_opener new (ap is_after_handshake (sym same) ∙ subst (λ (t : Turn). is_after_handshake t.state.machine.phase ≡ true) (pong_is v.state n ∙ step) (relayed-behind v.state (message.Pong n) sound past)))

      pub pong-taken : (new : Initiator) (store : Holdings) (out : Waiting) → x.outbox.magic ≡ x.config.magic → x.store.wants.asked ≡ [] → new.machine ≡ after_barrier old.machine x.store.wants.wanted → new.requests ≡ old.requests
          → store ≡ record x.store { wants = record x.store.wants { wanted = []; asked = x.store.wants.wanted } } → out ≡ with_messages x.outbox (getdata_of x.store.wants.wanted)
          → IsStep (on_pong v.state n) v (view_at (record x { stage = stage.Opener new; store = store; outbox = out })) (Ok tt)
      pong-taken new store out magic none moved requests asked sent =
          let ids = x.store.wants.wanted in
          let holds : List Hash32 → Holdings = λ before. record x.store { wants = record x.store.wants { wanted = []; asked = before ++ ids } } in
          let u : Machine → Requests → Holdings → NodeState = λ m k h. state_of x.config (stage.Opener (record { machine = m; requests = k })) x.set h (peer_of x.peer) in
          let over : Stage → NodeState = λ s. with_wants_requested (state_of x.config s x.set x.store (peer_of x.peer)) in
          let state : state_of x.config (stage.Opener new) x.set store (peer_of x.peer) ≡ with_wants_requested (state_at x) =
          ap (λ m. u m new.requests store) moved ∙ ap (λ k. u (after_barrier old.machine ids) k store) requests ∙ ap (λ h. u (after_barrier old.machine ids) old.requests h) asked
          ∙ sym (ap (λ before. u (after_barrier old.machine ids) old.requests (holds before)) none) ∙ sym (ap over at) in
          subst (λ (v : NodeView). on_pong v.state n ≡ turn_with (with_wants_requested v.state) (getdata_of v.state.wants.wanted) → IsStep (on_pong v.state n) v (view_at (record x { stage = stage.Opener new; store = store; outbox = out })) (Ok tt)) view
          (λ step.
          taken (view_at x) (view_at (record x { stage = stage.Opener new; store = store; outbox = out })) (on_pong (state_at x) n) (ap (λ (t : Turn). t.state.ended) step)
          (ap (λ (o : Waiting). view_at (record x { stage = stage.Opener new; store = store; outbox = o })) (sent ∙ ap (λ k. record x.outbox { bytes = x.outbox.bytes ++ wire_bytes k (getdata_of ids) }) magic)
          ∙ ap (λ s. view_of s (x.outbox.bytes ++ wire_bytes x.config.magic (getdata_of ids))) state ∙ sym (ap (after_turn (view_at x)) step)))
          step

-- ---- a ping

pub ping-taken : (x : Parts) (v : NodeView) (ms : List Message) (out : Waiting) → view_at x ≡ v → x.outbox.magic ≡ x.config.magic → out ≡ with_messages x.outbox ms → IsStep (turn_with v.state ms) v (view_at (record x { outbox = out })) (Ok tt)
ping-taken x v ms out view magic sent =
    subst (λ (v : NodeView). IsStep (turn_with v.state ms) v (view_at (record x { outbox = out })) (Ok tt)) view
    (taken (view_at x) (view_at (record x { outbox = out })) (turn_with (state_at x) ms) refl
    (ap (λ (o : Waiting). view_at (record x { outbox = o })) (sent ∙ ap (λ k. record x.outbox { bytes = x.outbox.bytes ++ wire_bytes k ms }) magic)))
