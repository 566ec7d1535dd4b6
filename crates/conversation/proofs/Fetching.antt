-- Where nothing is asked for any more, an opener fetches no more.
use Rattle.std.proofs.Common.{◌≡◌, ℕ, true, false, List, [], ◌∷◌, IsTrue, refl, sym, ap, ◌∙◌, subst}
use Rattle.base_types.specs.declared.lists.Hash32.{Hash32}
use Rattle.wire_rules.specs.declared.phase.Phase.{Phase}
use Rattle.wire_rules.specs.declared.phase.Phase.TheVariants as phase
use Rattle.pool_rules.specs.Snapshots.{Member}
use Rattle.node_rules.specs.Barrier.{phase_after_fetch, without_fetching}
use Rattle.node_rules.specs.Invariant.{is_phase_of}
use Rattle.node_rules.specs.Inventory.{with_requests}
use Rattle.node_rules.specs.Stages.{is_after_handshake}
use Rattle.node_rules.specs.State.{Initiator, NodeView}
use Rattle.node_rules.specs.declared.config.Config.{Config}
use Rattle.node_rules.specs.declared.config.Role.{Role}
use Rattle.node_rules.specs.declared.config.Role.TheVariants as role
use Rattle.relay_store.specs.Holdings.{Holdings}
use Rattle.conversation.specs.Views.{IsStageOf, machine_at, peer_of, state_of, view_of}
use Rattle.conversation.specs.declared.peer as declared
use Rattle.conversation.specs.declared.stage.Stage.{Stage}
use Rattle.conversation.specs.declared.stage.Stage.TheVariants as stage

-- the view once these ids are asked for
abbrev pub after_asking : NodeView → NodeView
after_asking v = record v { state = with_requests v.state v.state.wants.asked }

-- a view in another phase
abbrev in_phase_of : NodeView → Phase → NodeView
in_phase_of v p = record v { state = record v.state { machine = record v.state.machine { phase = p } } }

asked-phase : (ids : List Hash32) (p : Phase) → (ids ≡ [] → ⊥) → phase_after_fetch ids p ≡ p
unfolding phase_after_fetch
asked-phase [] p some = absurd (some refl)
asked-phase (id ∷ ids) p some = refl

pub still_asking : (v : NodeView) → (v.state.wants.asked ≡ [] → ⊥) → v ≡ after_asking v
still_asking v some = ap (in_phase_of v) (sym (asked-phase v.state.wants.asked v.state.machine.phase some))

-- ---- at an opener

past-phase : (p : Phase) → is_after_handshake p ≡ true → is_after_handshake (phase_after_fetch [] p) ≡ true
unfolding phase_after_fetch is_after_handshake
past-phase phase.Fetching e = refl
past-phase other e = e

opener_stage : (r : Role) (i j : Initiator) → j ≡ record i { machine = without_fetching i.machine } → IsStageOf r (stage.Opener i) → IsStageOf r (stage.Opener j)
unfolding IsStageOf
opener_stage role.Opener i j e h = subst (λ (k : Initiator). is_after_handshake k.machine.phase ≡ true) (sym e) (past-phase i.machine.phase h)
opener_stage role.Accepter i j e h = h

pub fetched_stage : (r : Role) (at : Stage) (i j : Initiator) → at ≡ stage.Opener i → j ≡ record i { machine = without_fetching i.machine } → IsStageOf r at → IsStageOf r (stage.Opener j)
fetched_stage r at i j is e h = opener_stage r i j e (subst (IsStageOf r) is h)

module _ (c : Config) (set : List Member) (held : Holdings) (peer : declared.Peer.Peer) (outbox : List ℕ) where
  abbrev view_in : Stage → NodeView
  view_in at = view_of (state_of c at set held (peer_of peer)) outbox

  opener_view : (i j : Initiator) → j ≡ record i { machine = without_fetching i.machine } → held.wants.asked ≡ [] → view_in (stage.Opener j) ≡ after_asking (view_in (stage.Opener i))
  opener_view i j e none =
      ap (λ (k : Initiator). view_in (stage.Opener k)) e
      ∙ ap (λ ids. in_phase_of (view_in (stage.Opener i)) (phase_after_fetch ids i.machine.phase)) (sym none)

  pub fetched_view : (at : Stage) (i j : Initiator) → at ≡ stage.Opener i → j ≡ record i { machine = without_fetching i.machine } → held.wants.asked ≡ [] → view_in (stage.Opener j) ≡ after_asking (view_in at)
  fetched_view at i j is e none = opener_view i j e none ∙ ap (λ at. after_asking (view_in at)) (sym is)

  -- ---- elsewhere

  accepter_phase : (p : Phase) → IsTrue (is_phase_of role.Accepter p) → phase_after_fetch [] p ≡ p
  unfolding phase_after_fetch is_phase_of
  accepter_phase phase.Fetching h = absurd (let apart : false ≡ true = h in cc)
  accepter_phase other h = refl

  other_phase : (r : Role) (at : Stage) → ((i : Initiator) → at ≡ stage.Opener i → ⊥) → IsStageOf r at → IsTrue (is_phase_of r (machine_at at).phase) → phase_after_fetch [] (machine_at at).phase ≡ (machine_at at).phase
  unfolding IsStageOf phase_after_fetch
  other_phase r stage.Greeting unlike h p = refl
  other_phase r stage.Greeted unlike h p = refl
  other_phase r (stage.Opener i) unlike h p = absurd (unlike i refl)
  other_phase role.Opener (stage.Accepter m) unlike h p = absurd h
  other_phase role.Accepter (stage.Accepter m) unlike h p = accepter_phase m.phase p

  pub other_view : (at : Stage) → ((i : Initiator) → at ≡ stage.Opener i → ⊥) → IsStageOf c.role at → IsTrue (is_phase_of c.role (machine_at at).phase) → held.wants.asked ≡ [] → view_in at ≡ after_asking (view_in at)
  other_view at unlike h p none =
      ap (in_phase_of (view_in at)) (sym (other_phase c.role at unlike h p))
      ∙ ap (λ ids. in_phase_of (view_in at) (phase_after_fetch ids (machine_at at).phase)) (sym none)
