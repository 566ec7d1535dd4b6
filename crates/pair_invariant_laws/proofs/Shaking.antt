-- The handshake is kept by every step of a pair.
use Rattle.std.proofs.Common.{◌≡◌, ℕ, ◌≤◌, ◌==◌, arith, is_some, Bool, true, false, List, [], ◌∷◌, ◌++◌, Option, Some, None, refl, sym, ap, ◌∙◌, subst, append-nil, append_assoc}
use Rattle.std.specs.List.{AllByRecursion}
use Rattle.std.proofs.lemmas.Bool.{eqb-true, false_from_ne_true}
use Rattle.base_types.specs.declared.lists.Hash32.{Hash32}
use Rattle.wire_rules.specs.Limits.{IsMessage}
use Rattle.wire_rules.specs.declared.message.Message.{Message}
use Rattle.wire_rules.specs.declared.message.Message.TheVariants as message
use Rattle.wire_rules.specs.declared.phase.Phase.{Phase}
use Rattle.wire_rules.specs.declared.phase.Phase.TheVariants as phase
use Rattle.pool_rules.specs.Pools.{Transaction, transaction_of, is_listed, is_in_pool}
use Rattle.node_rules.specs.Additions.{after_addition_by, with_pooled, on_addition_by, on_addition, is_full}
use Rattle.node_rules.specs.Handshake.{own_version, own_offer, offer_message, introduction, reply, version_by, in_greeting, greeted_state, offer_by, verack_by, in_greeted}
use Rattle.node_rules.specs.Invariant.{IsConfig}
use Rattle.node_rules.specs.Stages.{is_idle, is_after_handshake}
use Rattle.node_rules.specs.State.{NodeState, Peer, open_wants}
use Rattle.node_rules.specs.Steps.{in_phase, on_message, on_start_by, on_start}
use Rattle.node_rules.specs.Turns.{Turn, unchanged, turn_with}
use Rattle.node_rules.specs.declared.config.Config.{Config}
use Rattle.node_rules.specs.declared.config.Role.{Role}
use Rattle.node_rules.specs.declared.config.Role.TheVariants as role
use Rattle.node_rules.specs.declared.end.End.{End}
use Rattle.pair_invariant_rules.specs.Pairs.{Pair, after_a, after_b, after_message_a, after_message_b, after_addition_a, after_addition_b, after_start_a}
use Rattle.pair_invariant_rules.specs.Topics.{IsRelayMessage}
use Rattle.pair_invariant_rules.specs.Handshake.{Rest, WholeRest, FromOffer, VerackAlone, NoRest, rest_messages, noted_peer, Met, Past, stage_of, stage_by_rest, IsBehindIntroduction, IsHalfHandshake, IsNew, IsCalling, IsReplying, HasHandshake, Calling, Replying, Introducing}
use Rattle.id_rules.proofs.Lists.{all_append}
use Rattle.pair_invariant_laws.proofs.PlainTalk.{Stays, on_message-stays, on_start-stays, not_new}

-- ---- one direction

-- what a reader's step leaves of its direction
pub record Taken (left own : Rest) (sender reader : NodeState) (ms : List Message) (t : Turn) : Type 0 where
  pub next : Rest
  pub half : IsHalfHandshake next own sender t.state ms
  pub config : t.state.config ≡ reader.config
  pub says : (xs : List Message) → IsBehindIntroduction left xs → IsBehindIntroduction next (xs ++ t.out)

pub met_phase : (p : Phase) → stage_of p ≡ Met → p ≡ phase.Greeted
unfolding stage_of
met_phase phase.Greeted h = refl
met_phase _ h = absurd (cc)

quiet_later : (xs : List Message) → xs ≡ [] → xs ++ [] ≡ []
quiet_later xs e = ap (λ ys. ys ++ []) e

-- nothing of the handshake was said where nothing was
none_later : (own : Rest) (xs : List Message) → xs ≡ [] → IsBehindIntroduction own xs
unfolding IsBehindIntroduction
none_later WholeRest xs e = e
none_later FromOffer xs e = e
none_later VerackAlone xs e = e
none_later NoRest xs e = subst (AllByRecursion IsRelayMessage) (sym e) tt

pub some_version : (n : ℕ) → 1 ≤ n → (n == 0) ≡ false
some_version n h = false_from_ne_true (n == 0) (λ e. let none : n ≡ 0 = eqb-true n 0 e in absurd (omega arith))

module _ (own : Rest) (sender reader : NodeState) (later : List Message) (after : IsBehindIntroduction own later) (plain : reader.plain ≡ false) where
  -- the three messages of an introduction
  takes_relay : reader.machine.phase ≡ phase.Greeted → reader.peer ≡ noted_peer WholeRest sender.config
      → Taken WholeRest own sender reader (offer_message (own_offer sender.config) ∷ message.Verack ∷ later) (on_message reader message.WtxidRelay)
  unfolding in_phase in_greeted rest_messages noted_peer stage_of stage_by_rest IsBehindIntroduction
  takes_relay met peer =
      subst (Taken WholeRest own sender reader (offer_message (own_offer sender.config) ∷ message.Verack ∷ later)) (sym (ap (λ p. in_phase p reader message.WtxidRelay) met)) (record {
        next = FromOffer;
        half = record {
          stage = ap stage_of met;
          peer = ap (λ (p : Peer). record p { relays_by_id = true }) peer;
          whole = plain;
          later = later;
          carries = refl;
          after = after;
        };
        config = refl;
        says = λ xs e. quiet_later xs e;
      })

  takes_offer : IsConfig sender.config → reader.machine.phase ≡ phase.Greeted → reader.peer ≡ noted_peer FromOffer sender.config
      → Taken FromOffer own sender reader (message.Verack ∷ later) (on_message reader (offer_message (own_offer sender.config)))
  unfolding in_phase in_greeted rest_messages noted_peer stage_of stage_by_rest IsBehindIntroduction offer_by
  takes_offer config met peer =
      subst (Taken FromOffer own sender reader (message.Verack ∷ later))
      (sym (ap (λ p. in_phase p reader (offer_message (own_offer sender.config))) met
      ∙ (ap (λ b. offer_by b (is_some reader.peer.offer) reader (own_offer sender.config)) (some_version sender.config.top config.least)
      ∙ ap (λ (p : Peer). offer_by false (is_some p.offer) reader (own_offer sender.config)) peer))) (record {
        next = VerackAlone;
        half = record {
          stage = ap stage_of met;
          peer = ap (λ (p : Peer). record p { offer = Some (own_offer sender.config) }) peer;
          whole = plain;
          later = later;
          carries = refl;
          after = after;
        };
        config = refl;
        says = λ xs e. quiet_later xs e;
      })

  takes_verack : reader.machine.phase ≡ phase.Greeted → reader.peer ≡ noted_peer VerackAlone sender.config → Taken VerackAlone own sender reader later (on_message reader message.Verack)
  unfolding in_phase in_greeted rest_messages noted_peer stage_of stage_by_rest IsBehindIntroduction verack_by
  takes_verack met peer =
      subst (Taken VerackAlone own sender reader later)
      (sym (ap (λ p. in_phase p reader message.Verack) met ∙ ap (λ (p : Peer). verack_by p.relays_by_id p.offer reader) peer)) (record {
        next = NoRest;
        half = record {
          stage = refl;
          peer = peer;
          whole = refl;
          later = later;
          carries = refl;
          after = after;
        };
        config = refl;
        says = λ xs e. subst (AllByRecursion IsRelayMessage) (sym (quiet_later xs e)) tt;
      })

-- the same where it stands in front
abbrev TakenFront : Rest → Rest → NodeState → NodeState → List Message → Type 0
TakenFront left own sender reader [] = Unit {0}
TakenFront left own sender reader (m ∷ ms) = Taken left own sender reader ms (on_message reader m)

later_tail : (own : Rest) (m : Message) (ms : List Message) → IsBehindIntroduction own (m ∷ ms) → IsBehindIntroduction own ms
unfolding IsBehindIntroduction
later_tail WholeRest m ms h = absurd (cc)
later_tail FromOffer m ms h = absurd (cc)
later_tail VerackAlone m ms h = absurd (cc)
later_tail NoRest m ms h = h.1

pub half_takes : (left own : Rest) (sender reader : NodeState) (m : Message) (ms : List Message) → IsConfig sender.config → IsMessage m → IsHalfHandshake left own sender reader (m ∷ ms) → Taken left own sender reader ms (on_message reader m)
unfolding rest_messages stage_by_rest IsBehindIntroduction
half_takes WholeRest own sender reader m ms config sound h =
    subst (TakenFront WholeRest own sender reader) (sym h.carries) (takes_relay own sender reader h.later h.after h.whole (met_phase reader.machine.phase h.stage) h.peer)
half_takes FromOffer own sender reader m ms config sound h =
    subst (TakenFront FromOffer own sender reader) (sym h.carries) (takes_offer own sender reader h.later h.after h.whole config (met_phase reader.machine.phase h.stage) h.peer)
half_takes VerackAlone own sender reader m ms config sound h =
    subst (TakenFront VerackAlone own sender reader) (sym h.carries) (takes_verack own sender reader h.later h.after h.whole (met_phase reader.machine.phase h.stage) h.peer)
half_takes NoRest own sender reader m ms config sound h =
    let s : Stays reader (on_message reader m) = on_message-stays reader h.stage m sound in
    record {
      next = NoRest;
      half = record {
        stage = s.stage;
        peer = s.peer ∙ h.peer;
        whole = s.plain ∙ h.whole;
        later = ms;
        carries = refl;
        after = later_tail own m ms (subst (IsBehindIntroduction own) (sym h.carries) h.after);
      };
      config = s.config;
      says = λ xs k. all_append IsRelayMessage xs (on_message reader m).out k s.out;
    }

-- the other direction, as its sender takes a step
pub half_says : (left own next : Rest) (sender reader : NodeState) (way : List Message) (t : Turn) → IsHalfHandshake left own sender reader way → t.state.config ≡ sender.config
    → ((xs : List Message) → IsBehindIntroduction own xs → IsBehindIntroduction next (xs ++ t.out)) → IsHalfHandshake left next t.state reader (way ++ t.out)
half_says left own next sender reader way t h config says = record {
  stage = h.stage;
  peer = h.peer ∙ ap (noted_peer left) (sym config);
  whole = h.whole;
  later = h.later ++ t.out;
  carries = ap (λ xs. xs ++ t.out) h.carries ∙ append_assoc (rest_messages left sender.config) h.later t.out ∙ ap (λ c. rest_messages left c ++ (h.later ++ t.out)) (sym config);
  after = says h.later h.after;
}

-- ---- messages

pub version_row : (s : NodeState) (c : Config) → s.machine.phase ≡ phase.Greeting → on_message s (message.Version (own_version c)) ≡ turn_with (greeted_state s) (reply s.config.role s.config)
unfolding in_phase in_greeting version_by
version_row s c new = ap (λ p. in_phase p s (message.Version (own_version c))) new

abbrev FrontB : Pair → List Message → Type 0
FrontB p [] = Unit {0}
FrontB p (m ∷ ms) = HasHandshake (after_message_b p m ms)

abbrev FrontA : Pair → List Message → Type 0
FrontA p [] = Unit {0}
FrontA p (m ∷ ms) = HasHandshake (after_message_a p m ms)

calls_b : (p : Pair) → p.b.config.role ≡ role.Accepter → IsCalling p → FrontB p (message.Version (own_version p.a.config) ∷ [])
unfolding reply
calls_b p accepter c =
    subst (λ t. HasHandshake (after_b p t [])) (sym (version_row p.b p.a.config c.b.phase ∙ ap (λ r. turn_with (greeted_state p.b) (reply r p.b.config)) accepter)) (Replying (record {
      a = c.a;
      b_phase = refl;
      b_peer = c.b.peer;
      b_whole = c.b.whole;
      to_b = refl;
      to_a = ap (λ xs. xs ++ (message.Version (own_version p.b.config) ∷ introduction p.b.config)) c.to_a;
    }))

replies_a : (p : Pair) → p.a.config.role ≡ role.Opener → IsReplying p → FrontA p (message.Version (own_version p.b.config) ∷ introduction p.b.config)
unfolding reply stage_of stage_by_rest rest_messages noted_peer IsBehindIntroduction
replies_a p opener c =
    subst (λ t. HasHandshake (after_a p t (introduction p.b.config))) (sym (version_row p.a p.b.config c.a.phase ∙ ap (λ r. turn_with (greeted_state p.a) (reply r p.a.config)) opener)) (Introducing WholeRest WholeRest
    (record { stage = ap stage_of c.b_phase; peer = c.b_peer; whole = c.b_whole; later = []; carries = ap (λ xs. xs ++ introduction p.a.config) c.to_b; after = refl })
    (record { stage = refl; peer = c.a.peer; whole = c.a.whole; later = []; carries = refl; after = refl }))

pub shakes-by_b : (p : Pair) (m : Message) (ms : List Message) → IsConfig p.a.config → IsMessage m → p.b.config.role ≡ role.Accepter → p.to_b ≡ m ∷ ms → HasHandshake p → HasHandshake (after_message_b p m ms)
shakes-by_b p m ms config sound accepter e (Calling c) = subst (FrontB p) (sym c.to_b ∙ e) (calls_b p accepter c)
shakes-by_b p m ms config sound accepter e (Replying c) = absurd (let apart : [] ≡ m ∷ ms = sym c.to_b ∙ e in cc)
shakes-by_b p m ms config sound accepter e (Introducing l k h g) =
    let t = half_takes l k p.a p.b m ms config sound (subst (IsHalfHandshake l k p.a p.b) e h) in
    Introducing t.next k t.half (half_says k l t.next p.b p.a p.to_a (on_message p.b m) g t.config t.says)

pub shakes-by_a : (p : Pair) (m : Message) (ms : List Message) → IsConfig p.b.config → IsMessage m → p.a.config.role ≡ role.Opener → p.to_a ≡ m ∷ ms → HasHandshake p → HasHandshake (after_message_a p m ms)
shakes-by_a p m ms config sound opener e (Calling c) = absurd (let apart : [] ≡ m ∷ ms = sym c.to_a ∙ e in cc)
shakes-by_a p m ms config sound opener e (Replying c) = subst (FrontA p) (sym c.to_a ∙ e) (replies_a p opener c)
shakes-by_a p m ms config sound opener e (Introducing l k h g) =
    let t = half_takes k l p.b p.a m ms config sound (subst (IsHalfHandshake k l p.b p.a) e g) in
    Introducing l t.next (half_says l k t.next p.a p.b p.to_b (on_message p.a m) h t.config t.says) t.half

-- ---- additions, and the start of a round

-- a step that changes nothing of the handshake, and says nothing
pub record Quiet (s : NodeState) (t : Turn) : Type 0 where
  pub config : t.state.config ≡ s.config
  pub peer : t.state.peer ≡ s.peer
  pub plain : t.state.plain ≡ s.plain
  pub phase : t.state.machine.phase ≡ s.machine.phase
  pub out : t.out ≡ []

after_addition_by-quiet : (open_want past plain : Bool) (s : NodeState) (id : Hash32) → plain ≡ false → Quiet s (after_addition_by open_want past plain s id)
unfolding after_addition_by
after_addition_by-quiet true past plain s id h = record { config = refl; peer = refl; plain = refl; phase = refl; out = refl }
after_addition_by-quiet false false plain s id h = record { config = refl; peer = refl; plain = refl; phase = refl; out = refl }
after_addition_by-quiet false true true s id h = absurd (cc)
after_addition_by-quiet false true false s id h = record { config = refl; peer = refl; plain = refl; phase = refl; out = refl }

on_addition_by-quiet : (ended present full : Bool) (s : NodeState) (t : Transaction) → s.plain ≡ false → Quiet s (on_addition_by ended present full s t).turn
unfolding on_addition_by
on_addition_by-quiet true present full s t h = record { config = refl; peer = refl; plain = refl; phase = refl; out = refl }
on_addition_by-quiet false true full s t h = record { config = refl; peer = refl; plain = refl; phase = refl; out = refl }
on_addition_by-quiet false false true s t h = record { config = refl; peer = refl; plain = refl; phase = refl; out = refl }
on_addition_by-quiet false false false s t h =
    let told = after_addition_by-quiet (is_listed (open_wants s) t.id) (is_after_handshake s.machine.phase) s.plain (with_pooled s t) t.id h in
    record { config = told.config; peer = told.peer; plain = told.plain; phase = told.phase; out = told.out }

pub adds-quiet : (s : NodeState) (tx : List ℕ) → s.plain ≡ false → Quiet s (on_addition s tx).turn
adds-quiet s tx h = on_addition_by-quiet (is_some s.ended) (is_in_pool s.pool (transaction_of tx).id) (is_full s (transaction_of tx)) s (transaction_of tx) h

-- a side that says nothing more leaves the handshake as it is
later_more : (own : Rest) (xs ys : List Message) → ys ≡ [] → IsBehindIntroduction own xs → IsBehindIntroduction own (xs ++ ys)
later_more own xs ys e h = subst (IsBehindIntroduction own) (sym (ap (λ zs. xs ++ zs) e ∙ append-nil xs)) h

new_stays : (s : NodeState) (t : Turn) → Quiet s t → IsNew s → IsNew t.state
new_stays s t q n = record { phase = q.phase ∙ n.phase; peer = q.peer ∙ n.peer; whole = q.plain ∙ n.whole }

-- a reader that takes a step of its own
half_reads : (left own : Rest) (sender reader : NodeState) (way : List Message) (t : Turn) → IsHalfHandshake left own sender reader way → t.state.peer ≡ reader.peer → t.state.plain ≡ reader.plain
    → stage_of t.state.machine.phase ≡ stage_by_rest left → IsHalfHandshake left own sender t.state way
half_reads left own sender reader way t h peer plain stage = record { stage = stage; peer = peer ∙ h.peer; whole = plain ∙ h.whole; later = h.later; carries = h.carries; after = h.after }

pub shakes-quiet_a : (p : Pair) (t : Turn) → Quiet p.a t → HasHandshake p → HasHandshake (after_a p t p.to_a)
shakes-quiet_a p t q (Calling c) = Calling (record {
  a = new_stays p.a t q c.a;
  b = c.b;
  to_b = ap (λ xs. p.to_b ++ xs) q.out ∙ append-nil p.to_b ∙ c.to_b ∙ ap (λ x. message.Version (own_version x) ∷ []) (sym q.config);
  to_a = c.to_a;
})
shakes-quiet_a p t q (Replying c) = Replying (record {
  a = new_stays p.a t q c.a;
  b_phase = c.b_phase;
  b_peer = c.b_peer;
  b_whole = c.b_whole;
  to_b = ap (λ xs. p.to_b ++ xs) q.out ∙ append-nil p.to_b ∙ c.to_b;
  to_a = c.to_a;
})
shakes-quiet_a p t q (Introducing l k h g) =
    Introducing l k (half_says l k k p.a p.b p.to_b t h q.config (λ xs. later_more k xs t.out q.out)) (half_reads k l p.b p.a p.to_a t g q.peer q.plain (ap stage_of q.phase ∙ g.stage))

pub shakes-quiet_b : (p : Pair) (t : Turn) → Quiet p.b t → HasHandshake p → HasHandshake (after_b p t p.to_b)
shakes-quiet_b p t q (Calling c) = Calling (record {
  a = c.a;
  b = new_stays p.b t q c.b;
  to_b = c.to_b;
  to_a = ap (λ xs. p.to_a ++ xs) q.out ∙ append-nil p.to_a ∙ c.to_a;
})
shakes-quiet_b p t q (Replying c) = Replying (record {
  a = c.a;
  b_phase = q.phase ∙ c.b_phase;
  b_peer = q.peer ∙ c.b_peer;
  b_whole = q.plain ∙ c.b_whole;
  to_b = c.to_b;
  to_a = ap (λ xs. p.to_a ++ xs) q.out ∙ append-nil p.to_a ∙ c.to_a ∙ ap (λ x. message.Version (own_version x) ∷ introduction x) (sym q.config);
})
shakes-quiet_b p t q (Introducing l k h g) =
    Introducing l k (half_reads l k p.a p.b p.to_b t h q.peer q.plain (ap stage_of q.phase ∙ h.stage)) (half_says k l l p.b p.a p.to_a t g q.config (λ xs. later_more l xs t.out q.out))

pub whole_a : (p : Pair) → HasHandshake p → p.a.plain ≡ false
whole_a p (Calling c) = c.a.whole
whole_a p (Replying c) = c.a.whole
whole_a p (Introducing l k h g) = g.whole

pub whole_b : (p : Pair) → HasHandshake p → p.b.plain ≡ false
whole_b p (Calling c) = c.b.whole
whole_b p (Replying c) = c.b_whole
whole_b p (Introducing l k h g) = h.whole

pub shakes-adds_a : (p : Pair) (tx : List ℕ) → HasHandshake p → HasHandshake (after_addition_a p tx)
shakes-adds_a p tx s = shakes-quiet_a p (on_addition p.a tx).turn (adds-quiet p.a tx (whole_a p s)) s

pub shakes-adds_b : (p : Pair) (tx : List ℕ) → HasHandshake p → HasHandshake (after_addition_b p tx)
shakes-adds_b p tx s = shakes-quiet_b p (on_addition p.b tx).turn (adds-quiet p.b tx (whole_b p s)) s

-- ---- a round

idle_past : (p : Phase) → is_idle p ≡ true → stage_of p ≡ Past
unfolding is_idle stage_of
idle_past phase.Idle h = refl
idle_past _ h = absurd (cc)

on_start_by-none : (e : Option End) (r : Role) (s : NodeState) → (on_start_by e r false s).turn ≡ unchanged s
unfolding on_start_by
on_start_by-none None role.Opener s = refl
on_start_by-none None role.Accepter s = refl
on_start_by-none (Some e) r s = refl

unchanged-quiet : (s : NodeState) (t : Turn) → t ≡ unchanged s → Quiet s t
unchanged-quiet s t e = subst (Quiet s) (sym e) (record { config = refl; peer = refl; plain = refl; phase = refl; out = refl })

is_over : (own : Rest) → stage_by_rest own ≡ Past → own ≡ NoRest
unfolding stage_by_rest
is_over NoRest h = refl
is_over _ h = absurd (cc)

over_more : (ys : List Message) → AllByRecursion IsRelayMessage ys → (xs : List Message) → IsBehindIntroduction NoRest xs → IsBehindIntroduction NoRest (xs ++ ys)
unfolding IsBehindIntroduction
over_more ys k xs h = all_append IsRelayMessage xs ys h k

begun_by : (idle : Bool) (p : Pair) → is_idle p.a.machine.phase ≡ idle → HasHandshake p → HasHandshake (after_start_a p)
begun_by false p e s =
    shakes-quiet_a p (on_start p.a).turn (unchanged-quiet p.a (on_start p.a).turn (ap (λ b. (on_start_by p.a.ended p.a.config.role b p.a).turn) e ∙ on_start_by-none p.a.ended p.a.config.role p.a)) s
begun_by true p e (Calling c) = absurd (not_new p.a.machine.phase c.a.phase (idle_past p.a.machine.phase e))
begun_by true p e (Replying c) = absurd (not_new p.a.machine.phase c.a.phase (idle_past p.a.machine.phase e))
begun_by true p e (Introducing l k h g) =
    let past : stage_of p.a.machine.phase ≡ Past = idle_past p.a.machine.phase e in
    let over : k ≡ NoRest = is_over k (sym g.stage ∙ past) in
    let t : Turn = (on_start p.a).turn in
    let b : Stays p.a t = on_start-stays p.a past in
    Introducing l k (half_says l k k p.a p.b p.to_b t h b.config (subst (λ o. (xs : List Message) → IsBehindIntroduction o xs → IsBehindIntroduction o (xs ++ t.out)) (sym over) (over_more t.out b.out)))
    (half_reads k l p.b p.a p.to_a t g b.peer b.plain (b.stage ∙ (sym past ∙ g.stage)))

pub shakes-begins : (p : Pair) → HasHandshake p → HasHandshake (after_start_a p)
shakes-begins p s = begun_by (is_idle p.a.machine.phase) p refl s
