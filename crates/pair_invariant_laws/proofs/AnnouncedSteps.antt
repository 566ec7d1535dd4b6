-- Announcements to the opener come before its pong: each step of a pair.
use Rattle.std.proofs.Common.{◌≡◌, ℕ, ◌≤◌, arith, ◌==◌, nat_lt, int_lt, pos, is_some, Bool, true, false, List, [], ◌∷◌, ◌++◌, Option, Some, None, Result, Ok, Err, refl, sym, ap, ap₂, ◌∙◌}
use Rattle.wire_rules.specs.Commands.{name_of}
use Rattle.wire_rules.specs.declared.message.Message.{Message}
use Rattle.wire_rules.specs.declared.message.Message.TheVariants as message
use Rattle.wire_rules.specs.declared.message.VersionMsg.{VersionMsg}
use Rattle.wire_rules.specs.declared.name.Name.{Name}
use Rattle.wire_rules.specs.declared.name.Name.TheVariants as name
use Rattle.wire_rules.specs.declared.phase.Phase.{Phase}
use Rattle.wire_rules.specs.declared.phase.Phase.TheVariants as phase
use Rattle.pool_rules.specs.Snapshots.{Member}
use Rattle.node_rules.specs.Accepter.{accepter_reqrecon, accepter_extension, reqrecon_by, extension_by, extension_after, diff_by, diff_fault, accepter_announcement}
use Rattle.node_rules.specs.Handshake.{reply, version_by, on_unexpected, in_greeting, offer_by, verack_by, in_greeted, has_no_relay}
use Rattle.node_rules.specs.Stages.{sent_extensions, is_idle}
use Rattle.node_rules.specs.Barrier.{is_barrier}
use Rattle.node_rules.specs.State.{NodeState, Machine, Offer, extensions_allowed}
use Rattle.node_rules.specs.Steps.{accepter_row, on_message, in_relay, in_phase}
use Rattle.node_rules.specs.Turns.{Response, Turn, after_response}
use Rattle.node_rules.specs.declared.config.Config.{Config}
use Rattle.node_rules.specs.declared.config.Role.{Role}
use Rattle.node_rules.specs.declared.config.Role.TheVariants as role
use Rattle.node_rules.specs.declared.end.End.{End}
use Rattle.pair_invariant_rules.specs.Pairs.{Pair}
use Rattle.pair_invariant_rules.specs.Rounds.{RoundCase, Resting, Requested, Sketched, Extending, Resolved, Pinged, Ponged, HasRound, IsInCase, IsOpenerIn, IsAccepterIn, IsWithinLevel, round_messages_to_a, round_messages_to_b}
use Rattle.pair_invariant_rules.specs.Topics.{messages_of_rounds, topic_of, is_round}
use Rattle.pair_invariant_rules.specs.Wants.{announced_ids_of, announced_ids}
use Rattle.pair_invariant_laws.proofs.Idling.{about_append, about_inv}
use Rattle.pair_invariant_laws.proofs.Known.{Known}
use Rattle.pair_invariant_laws.proofs.Roundings.{front_round}
use Rattle.pair_invariant_laws.proofs.RoundRows.{diff_row}
use Rattle.invariant_laws.proofs.Stages.{sent_extensions-sent_phase}
use Rattle.pair_invariant_rules.specs.Wants.{is_about_wants}

-- ---- what announces nothing

-- messages at which something may be announced
unfoldable pub is_telling : Message → Bool
is_telling (message.Sketch bytes) = true
is_telling (message.ReconcilDiff success asks) = true
is_telling _ = false

module _ (s : NodeState) where
  abbrev Silent : Turn → Type 0
  Silent t = announced_ids t.out ≡ []

  reply-silent : (r : Role) (c : Config) → announced_ids (reply r c) ≡ []
  unfolding reply announced_ids_of
  reply-silent role.Opener c = refl
  reply-silent role.Accepter c = refl

  out_of_place-silent : (n : Option Name) → Silent (on_unexpected s n)
  out_of_place-silent (Some n) = refl
  out_of_place-silent None = refl

  version_by-silent : (old silent : Bool) (v : VersionMsg) → Silent (version_by old silent s v)
  unfolding version_by
  version_by-silent true silent v = refl
  version_by-silent false true v = refl
  version_by-silent false false v = reply-silent s.config.role s.config

  in_greeting-silent : (m : Message) → Silent (in_greeting s m)
  unfolding in_greeting
  in_greeting-silent (message.Version v) = version_by-silent (int_lt v.version (pos 70016)) (has_no_relay v.relay) v
  in_greeting-silent (message.Ping n) = refl
  in_greeting-silent (message.Pong n) = refl
  in_greeting-silent other = out_of_place-silent (name_of other)

  offer_by-silent : (zero again : Bool) (offer : Offer) → Silent (offer_by zero again s offer)
  unfolding offer_by
  offer_by-silent true again offer = refl
  offer_by-silent false true offer = refl
  offer_by-silent false false offer = refl

  verack_by-silent : (noted : Bool) (offer : Option Offer) → (verack_by noted offer s).state.plain ≡ false → Silent (verack_by noted offer s)
  unfolding verack_by
  verack_by-silent false offer h = refl
  verack_by-silent true None h = absurd (let apart : true ≡ false = h in cc)
  verack_by-silent true (Some offer) h = refl

  in_greeted-silent : (m : Message) → (in_greeted s m).state.plain ≡ false → Silent (in_greeted s m)
  unfolding in_greeted
  in_greeted-silent message.WtxidRelay h = refl
  in_greeted-silent (message.SendTxRcncl version salt) h = offer_by-silent (version == 0) (is_some s.peer.offer) (record { version = version; salt = salt })
  in_greeted-silent message.Verack h = verack_by-silent s.peer.relays_by_id s.peer.offer h
  in_greeted-silent (message.Ping n) h = refl
  in_greeted-silent (message.Pong n) h = refl
  in_greeted-silent other h = out_of_place-silent (name_of other)

  abbrev SilentRow : Result Response End → Type 0
  SilentRow (Ok r) = announced_ids r.out ≡ []
  SilentRow (Err e) = Unit {0}

  response-silent : (set : List Member) (row : Result Response End) → SilentRow row → Silent (after_response s set row)
  response-silent set (Ok r) h = h
  response-silent set (Err e) h = refl

  accepter_row-silent : (r : Role) (plain : Bool) (n : Name) (set : List Member) (row : Result Response End) → SilentRow row → Silent (accepter_row r plain n s set row)
  unfolding accepter_row
  accepter_row-silent role.Accepter false n set row h = response-silent set row h
  accepter_row-silent role.Accepter true n set row h = refl
  accepter_row-silent role.Opener plain n set row h = refl

  reqrecon_by-silent : (idle : Bool) (m : Machine) (set : List Member) (size q : ℕ) → SilentRow (reqrecon_by idle m set size q)
  unfolding reqrecon_by announced_ids_of
  reqrecon_by-silent true m set size q = refl
  reqrecon_by-silent false m set size q = tt

  extended_by-silent : (may : Bool) (m : Machine) (n : ℕ) → SilentRow (extension_by may m n)
  unfolding extension_by announced_ids_of
  extended_by-silent true m n = refl
  extended_by-silent false m n = tt

  extension_after-silent : (n : Option ℕ) (m : Machine) → SilentRow (extension_after n m)
  unfolding extension_after
  extension_after-silent None m = tt
  extension_after-silent (Some n) m = extended_by-silent (nat_lt n (extensions_allowed m)) m n

  relays-silent : (m : Message) → is_about_wants m ≡ false → is_telling m ≡ false → Silent (in_relay s m)
  unfolding in_relay is_about_wants is_telling announced_ids_of
  relays-silent (message.ReqRecon size q) off quiet = accepter_row-silent s.config.role s.plain name.ReqRecon [] (accepter_reqrecon s.machine s.set size q) (reqrecon_by-silent (is_idle s.machine.phase) s.machine s.set size q)
  relays-silent message.ReqSketchExt off quiet = accepter_row-silent s.config.role s.plain name.ReqSketchExt s.set (accepter_extension s.machine) (extension_after-silent (sent_extensions s.machine.phase) s.machine)
  relays-silent (message.Sketch bytes) off quiet = absurd (cc)
  relays-silent (message.ReconcilDiff success asks) off quiet = absurd (cc)
  relays-silent (message.Version v) off quiet = refl
  relays-silent message.Verack off quiet = refl
  relays-silent message.WtxidRelay off quiet = refl
  relays-silent (message.SendTxRcncl version salt) off quiet = refl
  relays-silent (message.Ping n) off quiet = refl
  relays-silent (message.Other command payload) off quiet = refl
  relays-silent (message.Inv es) off quiet = absurd (cc)
  relays-silent (message.GetData es) off quiet = absurd (cc)
  relays-silent (message.NotFound es) off quiet = absurd (cc)
  relays-silent (message.Tx tx) off quiet = absurd (cc)
  relays-silent (message.Pong n) off quiet = absurd (cc)

  in_its_phase-silent : (p : Phase) (m : Message) → is_about_wants m ≡ false → is_telling m ≡ false → (in_phase p s m).state.plain ≡ false → Silent (in_phase p s m)
  unfolding in_phase
  in_its_phase-silent phase.Greeting m off quiet h = in_greeting-silent m
  in_its_phase-silent phase.Greeted m off quiet h = in_greeted-silent m h
  in_its_phase-silent other m off quiet h = relays-silent m off quiet

  pub takes-silent : (m : Message) → is_about_wants m ≡ false → is_telling m ≡ false → (on_message s m).state.plain ≡ false → announced_ids (on_message s m).out ≡ []
  takes-silent m off quiet h = in_its_phase-silent s.machine.phase m off quiet h

-- ---- the accepter tells of its snapshot once the difference has come

diff_by-about : (e : Option End) (m : Machine) (set : List Member) (n : ℕ) (success : Bool) (asks : List ℕ) (s : NodeState) → messages_of_rounds (after_response s set (diff_by e m n success asks)).out ≡ []
unfolding diff_by
diff_by-about (Some e) m set n success asks s = refl
diff_by-about None m set n success asks s = about_inv (accepter_announcement success m.round asks)

resolved_tells : (c : RoundCase) (p : Pair) (success : Bool) (asks : List ℕ) (ms : List Message) → extensions_allowed p.a.machine ≤ 2 → IsInCase c p → Known p.b p.a → p.b.config.role ≡ role.Accepter
    → message.ReconcilDiff success asks ∷ ms ≡ round_messages_to_b c p.a.requests.begun → (is_barrier p.a.machine.phase ≡ true) × (messages_of_rounds (p.to_a ++ (on_message p.b (message.ReconcilDiff success asks)).out) ≡ [])
unfolding round_messages_to_b round_messages_to_a IsOpenerIn IsAccepterIn IsWithinLevel is_barrier
resolved_tells (Resolved n success' asks') p success asks ms most s known accepter e =
    let row = diff_row p.b known.stage known.whole accepter n success asks (ap sent_extensions s.accepter ∙ sent_extensions-sent_phase n (omega (arith, most, s.within))) in (
      ap is_barrier s.opener,
      about_append p.to_a (on_message p.b (message.ReconcilDiff success asks)).out ∙ ap₂ (λ u v. u ++ v) s.to_a (ap (λ t. messages_of_rounds t.out) row ∙ diff_by-about (diff_fault success p.b.machine.round asks) p.b.machine p.b.set n success asks p.b),
    )
resolved_tells Resting p success asks ms most s known accepter e = absurd (cc)
resolved_tells (Requested size q) p success asks ms most s known accepter e = absurd (cc)
resolved_tells (Sketched n) p success asks ms most s known accepter e = absurd (cc)
resolved_tells (Extending n) p success asks ms most s known accepter e = absurd (cc)
resolved_tells Pinged p success asks ms most s known accepter e = absurd (cc)
resolved_tells Ponged p success asks ms most s known accepter e = absurd (cc)

pub diff_tells : (p : Pair) (success : Bool) (asks : List ℕ) (ms : List Message) → extensions_allowed p.a.machine ≤ 2 → HasRound p → Known p.b p.a → p.b.config.role ≡ role.Accepter → p.to_b ≡ message.ReconcilDiff success asks ∷ ms
    → (is_barrier p.a.machine.phase ≡ true) × (messages_of_rounds (p.to_a ++ (on_message p.b (message.ReconcilDiff success asks)).out) ≡ [])
unfolding topic_of is_round
diff_tells p success asks ms most r known accepter e =
    resolved_tells r.case p success asks (messages_of_rounds ms) most r.position known accepter (sym (front_round (message.ReconcilDiff success asks) ms refl) ∙ (ap messages_of_rounds (sym e) ∙ r.position.to_b))

-- no sketch is on the way to the accepter
sketch_case : (c : RoundCase) (number : ℕ) (bytes : List ℕ) (ms : List Message) → message.Sketch bytes ∷ ms ≡ round_messages_to_b c number → ⊥
unfolding round_messages_to_b
sketch_case Resting number bytes ms e = cc
sketch_case (Requested size q) number bytes ms e = cc
sketch_case (Sketched n) number bytes ms e = cc
sketch_case (Extending n) number bytes ms e = cc
sketch_case (Resolved n success asks) number bytes ms e = cc
sketch_case Pinged number bytes ms e = cc
sketch_case Ponged number bytes ms e = cc

pub no_sketch_to_b : (p : Pair) (bytes : List ℕ) (ms : List Message) → HasRound p → p.to_b ≡ message.Sketch bytes ∷ ms → ⊥
unfolding topic_of is_round
no_sketch_to_b p bytes ms r e = sketch_case r.case p.a.requests.begun bytes (messages_of_rounds ms) (sym (front_round (message.Sketch bytes) ms refl) ∙ (ap messages_of_rounds (sym e) ∙ r.position.to_b))
