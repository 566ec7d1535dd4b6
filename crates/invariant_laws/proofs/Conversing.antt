-- What was noted of the peer, the level, the phase, and what each role keeps: by each of a node's steps.
use Rattle.std.proofs.Common.{◌≡◌, ℕ, zero, suc, nat_lt, is_none, not, Bool, true, false, List, [], ◌∷◌, ◌++◌, length, filter, Option, Some, None, IsTrue, refl, sym, ap, ◌∙◌, subst, arith, le-leb}
use Rattle.base_types.specs.declared.lists.Hash32.{Hash32}
use Rattle.wire_rules.specs.Limits.{IsMessage}
use Rattle.wire_rules.specs.declared.message.Message.{Message}
use Rattle.wire_rules.specs.declared.phase.Phase.{Phase}
use Rattle.wire_rules.specs.declared.phase.Phase.TheVariants as phase
use Rattle.pool_rules.specs.Pools.{Transaction, IsTransaction, transaction_of, is_same_id, is_listed, without_id}
use Rattle.pool_rules.specs.Snapshots.{Member}
use Rattle.node_rules.specs.Additions.{on_addition, with_pooled}
use Rattle.node_rules.specs.Barrier.{is_barrier, phase_after_barrier, phase_after_fetch, with_wants_requested}
use Rattle.node_rules.specs.Handshake.{level_of, greeted_state, with_peer, after_handshake}
use Rattle.node_rules.specs.Invariant.{IsConversing, IsEarly, IsIntroduced, IsOffer, IsPlain, IsConversingIn, IsOfRole, is_phase_of, is_fetching, is_apart_from_sketches}
use Rattle.node_rules.specs.Inventory.{wtxids_of, without_announced, unknown_ids, with_requests}
use Rattle.pool_rules.specs.declared.report.Report.{Report}
use Rattle.node_rules.specs.declared.end.End.{End}
use Rattle.node_rules.specs.Stages.{waiting_phase, sent_phase, requested_extensions, sent_extensions, is_idle, is_after_handshake}
use Rattle.node_rules.specs.State.{NodeState, Inbox, Offer, Peer, Requests, Round, Wants, first_requests, no_wants, opening_state}
use Rattle.node_rules.specs.Steps.{on_message, on_start}
use Rattle.node_rules.specs.declared.config.Config.{Config}
use Rattle.node_rules.specs.declared.config.Role.{Role}
use Rattle.node_rules.specs.declared.config.Role.TheVariants as role
use Rattle.invariant_laws.proofs.Early.{greeting-early, greeted-early}
use Rattle.invariant_laws.proofs.Rows.{EachRow, IsReconciling, on_message-rows, on_addition-rows, on_start-rows}
use Rattle.invariant_laws.proofs.Stages.{HasNoSketch, idle-rests, barrier-rests, behind-rests, phase_after_fetch-asked, phase_after_fetch-sent_extensions}

-- ---- phases behind the handshake

asked-past : (p : Phase) (n : ℕ) → requested_extensions p ≡ Some n → is_after_handshake p ≡ true
unfolding requested_extensions is_after_handshake
asked-past phase.Waiting n e = refl
asked-past phase.WaitingExt n e = refl
asked-past phase.WaitingExt2 n e = refl
asked-past other n e = absurd (let apart : None ≡ Some n = e in cc)

sent_extensions-past : (p : Phase) (n : ℕ) → sent_extensions p ≡ Some n → is_after_handshake p ≡ true
unfolding sent_extensions is_after_handshake
sent_extensions-past phase.Sent n e = refl
sent_extensions-past phase.SentExt n e = refl
sent_extensions-past phase.SentExt2 n e = refl
sent_extensions-past other n e = absurd (let apart : None ≡ Some n = e in cc)

idle-past : (p : Phase) → is_idle p ≡ true → is_after_handshake p ≡ true
unfolding is_idle is_after_handshake
idle-past phase.Idle e = refl
idle-past other e = absurd (let apart : false ≡ true = e in cc)

barrier-past : (p : Phase) → is_barrier p ≡ true → is_after_handshake p ≡ true
unfolding is_barrier is_after_handshake
barrier-past phase.Barrier e = refl
barrier-past other e = absurd (let apart : false ≡ true = e in cc)

waiting_phase-past : (n : ℕ) → is_after_handshake (waiting_phase n) ≡ true
unfolding waiting_phase is_after_handshake
waiting_phase-past zero = refl
waiting_phase-past (suc zero) = refl
waiting_phase-past (suc (suc n)) = refl

sent_phase-past : (n : ℕ) → is_after_handshake (sent_phase n) ≡ true
unfolding sent_phase is_after_handshake
sent_phase-past zero = refl
sent_phase-past (suc zero) = refl
sent_phase-past (suc (suc n)) = refl

behind-past : (ids : List Hash32) → is_after_handshake (phase_after_barrier ids) ≡ true
unfolding phase_after_barrier is_after_handshake
behind-past [] = refl
behind-past (id ∷ ids) = refl

idle_past : is_after_handshake phase.Idle ≡ true
unfolding is_after_handshake
idle_past = refl

barrier_past : is_after_handshake phase.Barrier ≡ true
unfolding is_after_handshake
barrier_past = refl

phase_after_fetch-past : (ids : List Hash32) (p : Phase) → is_after_handshake p ≡ true → is_after_handshake (phase_after_fetch ids p) ≡ true
unfolding phase_after_fetch is_after_handshake
phase_after_fetch-past [] phase.Fetching e = refl
phase_after_fetch-past ids other e = e

-- ---- phases of a role

waiting_phase-opener : (n : ℕ) → is_phase_of role.Opener (waiting_phase n) ≡ true
unfolding waiting_phase is_phase_of
waiting_phase-opener zero = refl
waiting_phase-opener (suc zero) = refl
waiting_phase-opener (suc (suc n)) = refl

sent_phase-accepter : (n : ℕ) → is_phase_of role.Accepter (sent_phase n) ≡ true
unfolding sent_phase is_phase_of
sent_phase-accepter zero = refl
sent_phase-accepter (suc zero) = refl
sent_phase-accepter (suc (suc n)) = refl

behind-opener : (ids : List Hash32) → is_phase_of role.Opener (phase_after_barrier ids) ≡ true
unfolding phase_after_barrier is_phase_of
behind-opener [] = refl
behind-opener (id ∷ ids) = refl

barrier-opener : is_phase_of role.Opener phase.Barrier ≡ true
unfolding is_phase_of
barrier-opener = refl

idle-either : (r : Role) → is_phase_of r phase.Idle ≡ true
unfolding is_phase_of
idle-either role.Opener = refl
idle-either role.Accepter = refl

phase_after_fetch-role : (r : Role) (ids : List Hash32) (p : Phase) → is_phase_of r p ≡ true → is_phase_of r (phase_after_fetch ids p) ≡ true
unfolding phase_after_fetch
phase_after_fetch-role r [] phase.Fetching e = idle-either r
phase_after_fetch-role r ids other e = e

-- ---- phases in which something is fetched

asked-unfetching : (p : Phase) (n : ℕ) → requested_extensions p ≡ Some n → is_fetching p ≡ false
unfolding requested_extensions is_fetching
asked-unfetching phase.Fetching n e = absurd (let apart : None ≡ Some n = e in cc)
asked-unfetching other n e = refl

idle-unfetching : (p : Phase) → is_idle p ≡ true → is_fetching p ≡ false
unfolding is_idle is_fetching
idle-unfetching phase.Fetching e = absurd (let apart : false ≡ true = e in cc)
idle-unfetching other e = refl

barrier-unfetching : (p : Phase) → is_barrier p ≡ true → is_fetching p ≡ false
unfolding is_barrier is_fetching
barrier-unfetching phase.Fetching e = absurd (let apart : false ≡ true = e in cc)
barrier-unfetching other e = refl

waiting_phase-unfetching : (n : ℕ) → is_fetching (waiting_phase n) ≡ false
unfolding waiting_phase is_fetching
waiting_phase-unfetching zero = refl
waiting_phase-unfetching (suc zero) = refl
waiting_phase-unfetching (suc (suc n)) = refl

greeting-unfetching : is_fetching phase.Greeting ≡ false
unfolding is_fetching
greeting-unfetching = refl

greeted_state-unfetching : is_fetching phase.Greeted ≡ false
unfolding is_fetching
greeted_state-unfetching = refl

idle_unfetching : is_fetching phase.Idle ≡ false
unfolding is_fetching
idle_unfetching = refl

barrier_unfetching : is_fetching phase.Barrier ≡ false
unfolding is_fetching
barrier_unfetching = refl

some_count : (id : Hash32) (ids : List Hash32) → nat_lt 0 (length (id ∷ ids)) ≡ true
some_count id ids = le-leb 1 (length (id ∷ ids)) (omega arith)

-- behind a barrier nothing was asked for before
behind-fetching : (asked ids : List Hash32) → false ≡ nat_lt 0 (length asked) → is_fetching (phase_after_barrier ids) ≡ nat_lt 0 (length (asked ++ ids))
unfolding is_fetching phase_after_barrier
behind-fetching [] [] e = refl
behind-fetching [] (id ∷ ids) e = sym (some_count id ids)
behind-fetching (a ∷ asked) ids e = absurd (let apart : false ≡ true = e ∙ some_count a asked in cc)

none-fewer : (t : Hash32 → Bool) (asked : List Hash32) → false ≡ nat_lt 0 (length asked) → false ≡ nat_lt 0 (length (filter t asked))
none-fewer t [] e = refl
none-fewer t (a ∷ asked) e = absurd (let apart : false ≡ true = e ∙ some_count a asked in cc)

still-fetching : (ids : List Hash32) (p : Phase) → (is_fetching p ≡ false → false ≡ nat_lt 0 (length ids)) → is_fetching (phase_after_fetch ids p) ≡ nat_lt 0 (length ids)
unfolding is_fetching phase_after_fetch
still-fetching [] phase.Fetching f = refl
still-fetching (id ∷ ids) phase.Fetching f = sym (some_count id ids)
still-fetching ids other f = f refl

phase_after_fetch-fetching : (t : Hash32 → Bool) (asked : List Hash32) (p : Phase) → is_fetching p ≡ nat_lt 0 (length asked) → is_fetching (phase_after_fetch (filter t asked) p) ≡ nat_lt 0 (length (filter t asked))
phase_after_fetch-fetching t asked p e = still-fetching (filter t asked) p (λ k. none-fewer t asked (sym k ∙ e))

-- ---- conversations

introduced_in : (p : Phase) (s : NodeState) → IsConversingIn p s → is_after_handshake p ≡ true → IsIntroduced s
unfolding IsConversingIn is_after_handshake
introduced_in phase.Greeting s c e = absurd (let apart : false ≡ true = e in cc)
introduced_in phase.Greeted s c e = absurd (let apart : false ≡ true = e in cc)
introduced_in other s c e = c

pub introduced : (s : NodeState) → IsConversing s → is_after_handshake s.machine.phase ≡ true → IsIntroduced s
introduced s h e = introduced_in s.machine.phase s h.conversation e

converses_in : (p : Phase) (s : NodeState) → is_after_handshake p ≡ true → IsIntroduced s → IsConversingIn p s
unfolding IsConversingIn is_after_handshake
converses_in phase.Greeting s e i = absurd (let apart : false ≡ true = e in cc)
converses_in phase.Greeted s e i = absurd (let apart : false ≡ true = e in cc)
converses_in other s e i = i

early_greeted : (s : NodeState) → IsEarly s → IsConversingIn phase.Greeted s
unfolding IsConversingIn
early_greeted s e = e

-- in the same phase
still_converses : (p : Phase) (s u : NodeState) → u.peer ≡ s.peer → (IsEarly s → IsEarly u) → (IsIntroduced s → IsIntroduced u) → IsConversingIn p s → IsConversingIn p u
unfolding IsConversingIn
still_converses phase.Greeting s u same early later c = (early c.0, same ∙ c.1)
still_converses phase.Greeted s u same early later c = early c
still_converses other s u same early later c = later c

-- ---- roles

opener_is : (s : NodeState) → s.config.role ≡ role.Opener → IsOfRole s.config.role s → is_fetching s.machine.phase ≡ nat_lt 0 (length s.wants.asked)
unfolding IsOfRole
opener_is s r k = subst (λ x. IsOfRole x s) r k

is_opener : (r : Role) (u : NodeState) → r ≡ role.Opener → is_fetching u.machine.phase ≡ nat_lt 0 (length u.wants.asked) → IsOfRole r u
unfolding IsOfRole
is_opener r u e k = subst (λ x. IsOfRole x u) (sym e) k

accepter_is : (s : NodeState) → s.config.role ≡ role.Accepter → IsOfRole s.config.role s → (s.wants.wanted ≡ []) × (s.requests ≡ first_requests)
unfolding IsOfRole
accepter_is s r k = subst (λ x. IsOfRole x s) r k

is_accepter : (r : Role) (u : NodeState) → r ≡ role.Accepter → u.wants.wanted ≡ [] → u.requests ≡ first_requests → IsOfRole r u
unfolding IsOfRole
is_accepter r u e wanted requests = subst (λ x. IsOfRole x u) (sym e) (wanted, requests)

-- nothing of this changes
fetching_role : (r : Role) (s u : NodeState) → is_fetching u.machine.phase ≡ is_fetching s.machine.phase → u.wants.asked ≡ s.wants.asked → u.wants.wanted ≡ s.wants.wanted → u.requests ≡ s.requests → IsOfRole r s → IsOfRole r u
unfolding IsOfRole
fetching_role role.Opener s u phase asked wanted requests k = phase ∙ (k ∙ ap (λ ids. nat_lt 0 (length ids)) (sym asked))
fetching_role role.Accepter s u phase asked wanted requests k = (wanted ∙ k.0, requests ∙ k.1)

-- fewer are asked for
settled_role : (t : Hash32 → Bool) (r : Role) (s : NodeState) (pool : List Transaction) → IsOfRole r s → IsOfRole r (with_requests (record s { pool = pool }) (filter t s.wants.asked))
unfolding IsOfRole
settled_role t role.Opener s pool k = phase_after_fetch-fetching t s.wants.asked s.machine.phase k
settled_role t role.Accepter s pool k = (k.0, k.1)

-- ---- plain nodes

never_plain : (s u : NodeState) → s.plain ≡ false → s.plain ≡ true → IsPlain u
never_plain s u whole plain = absurd (let apart : false ≡ true = sym whole ∙ plain in cc)

rests-apart : (p : Phase) → HasNoSketch p → is_apart_from_sketches (requested_extensions p) (sent_extensions p) ≡ true
unfolding is_apart_from_sketches
rests-apart p r = subst (λ o. is_apart_from_sketches o (sent_extensions p) ≡ true) (sym r.asked) (subst (λ o. is_apart_from_sketches None o ≡ true) (sym r.sent) refl)

-- with another machine, other requests and another set
abbrev with_machine : NodeState → Phase → Round → List Report → Requests → List Member → NodeState
with_machine s next round reports requests set = record s { machine = record s.machine { phase = next; round = round; reports = reports }; requests = requests; set = set }

module _ (s : NodeState) (h : IsConversing s) where
  -- ---- the same machine

  module _ (set : List Member) (pool : List Transaction) (wants : Wants) (inbox : Inbox) (ended : Option End) where
    abbrev other_node : NodeState
    other_node = record s { set = set; pool = pool; wants = wants; inbox = inbox; ended = ended }

    other_introduced : IsIntroduced s → IsIntroduced other_node
    other_introduced i = record { relays_by_id = i.relays_by_id; plain = i.plain; level = i.level; phase = i.phase }

    other_past : is_after_handshake s.machine.phase ≡ true → IsConversingIn s.machine.phase other_node
    other_past past = converses_in s.machine.phase other_node past (other_introduced (introduced s h past))

    other_either : (s.set ≡ [] → set ≡ []) → (s.wants ≡ no_wants → wants ≡ no_wants) → IsConversingIn s.machine.phase other_node
    other_either f g =
        still_converses s.machine.phase s other_node refl (λ e. record { set = f e.set; round = e.round; level = e.level; reports = e.reports; requests = e.requests; wants = g e.wants; plain = e.plain }) other_introduced h.conversation

    other_role : (r : Role) → wants.asked ≡ s.wants.asked → (s.wants.wanted ≡ [] → wants.wanted ≡ []) → IsOfRole r s → IsOfRole r other_node
    unfolding IsOfRole
    other_role role.Opener asked wanted k = k ∙ ap (λ ids. nat_lt 0 (length ids)) (sym asked)
    other_role role.Accepter asked wanted k = (wanted k.0, k.1)

    other_conversing : IsConversingIn s.machine.phase other_node → (s.plain ≡ true → s.set ≡ [] → set ≡ []) → IsOfRole s.config.role other_node → IsConversing other_node
    other_conversing c f r = record { conversation = c; offer = h.offer; plain = λ e. let p = h.plain e in record { set = f e p.set; round = p.round; reports = p.reports; phase = p.phase }; role = r }

  -- ---- fewer that are asked for

  settled_conversing : (t : Hash32 → Bool) (pool : List Transaction) → is_after_handshake s.machine.phase ≡ true → IsConversing (with_requests (record s { pool = pool }) (filter t s.wants.asked))
  settled_conversing t pool past =
      let u : NodeState = with_requests (record s { pool = pool }) (filter t s.wants.asked) in
      let i = introduced s h past in
      record {
        conversation =
            converses_in u.machine.phase u (phase_after_fetch-past (filter t s.wants.asked) s.machine.phase past)
            (record { relays_by_id = i.relays_by_id; plain = i.plain; level = i.level; phase = phase_after_fetch-role s.config.role (filter t s.wants.asked) s.machine.phase i.phase });
        offer = h.offer;
        plain = λ e. let p = h.plain e in record {
          set = p.set;
          round = p.round;
          reports = p.reports;
          phase =
              subst (λ o. IsTrue (is_apart_from_sketches o (sent_extensions u.machine.phase))) (sym (phase_after_fetch-asked (filter t s.wants.asked) s.machine.phase))
              (subst (λ o. IsTrue (is_apart_from_sketches (requested_extensions s.machine.phase) o)) (sym (phase_after_fetch-sent_extensions (filter t s.wants.asked) s.machine.phase)) p.phase);
        };
        role = settled_role t s.config.role s pool h.role;
      }

  -- ---- another machine, behind the handshake

  module _ (next : Phase) (round : Round) (reports : List Report) (requests : Requests) (set : List Member) where
    abbrev next_node : NodeState
    next_node = with_machine s next round reports requests set

    machine_conversing : is_after_handshake s.machine.phase ≡ true → is_after_handshake next ≡ true → is_phase_of s.config.role next ≡ true → (s.plain ≡ true → IsPlain next_node) → IsOfRole s.config.role next_node → IsConversing next_node
    machine_conversing past later phase plain r =
        let i = introduced s h past in
        record { conversation = converses_in next next_node later (record { relays_by_id = i.relays_by_id; plain = i.plain; level = i.level; phase = phase }); offer = h.offer; plain = plain; role = r }

    -- an opener that neither fetches before nor behind
    opener_conversing : s.config.role ≡ role.Opener → is_after_handshake s.machine.phase ≡ true → is_fetching s.machine.phase ≡ false → is_after_handshake next ≡ true → is_phase_of role.Opener next ≡ true → is_fetching next ≡ false → (s.plain ≡ true → IsPlain next_node) → IsConversing next_node
    opener_conversing r past before later phase behind plain =
        machine_conversing past later (subst (λ x. is_phase_of x next ≡ true) (sym r) phase) plain (is_opener s.config.role next_node r (behind ∙ (sym before ∙ opener_is s r h.role)))

  accepter_conversing : (next : Phase) (round : Round) (reports : List Report) (set : List Member) → IsReconciling role.Accepter s → is_after_handshake s.machine.phase ≡ true → is_after_handshake next ≡ true → is_phase_of role.Accepter next ≡ true → IsConversing (with_machine s next round reports s.requests set)
  accepter_conversing next round reports set a past later phase =
      let u : NodeState = with_machine s next round reports s.requests set in
      let k = accepter_is s a.role h.role in
      machine_conversing next round reports s.requests set past later (subst (λ x. is_phase_of x next ≡ true) (sym a.role) phase) (never_plain s u a.whole) (is_accepter s.config.role u a.role k.0 k.1)

  -- an opener that reconciles goes on
  waiting_conversing : (n : ℕ) (next : Phase) (round : Round) (reports : List Report) (requests : Requests) (set : List Member) → IsReconciling role.Opener s → requested_extensions s.machine.phase ≡ Some n → is_after_handshake next ≡ true → is_phase_of role.Opener next ≡ true → is_fetching next ≡ false
      → IsConversing (with_machine s next round reports requests set)
  waiting_conversing n next round reports requests set o e later phase behind =
      opener_conversing next round reports requests set o.role (asked-past s.machine.phase n e) (asked-unfetching s.machine.phase n e) later phase behind (never_plain s (with_machine s next round reports requests set) o.whole)

  -- ---- the handshake

  greeted_conversing : s.machine.phase ≡ phase.Greeting → IsConversing (greeted_state s)
  greeted_conversing e = record {
    conversation = early_greeted (greeted_state s) (let k = greeting-early s h e in record { set = k.set; round = k.round; level = k.level; reports = k.reports; requests = k.requests; wants = k.wants; plain = k.plain });
    offer = h.offer;
    plain = never_plain s (greeted_state s) (greeting-early s h e).plain;
    role = greeted_role s.config.role (subst (λ p. is_fetching p ≡ false) (sym e) greeting-unfetching) h.role;
  }
    where
      greeted_role : (r : Role) → is_fetching s.machine.phase ≡ false → IsOfRole r s → IsOfRole r (greeted_state s)
      greeted_role r f k = fetching_role r s (greeted_state s) (greeted_state-unfetching ∙ sym f) refl refl refl k

  -- another peer, before the handshake is over
  peer_conversing : (peer : Peer) → s.machine.phase ≡ phase.Greeted → ((o : Offer) → peer.offer ≡ Some o → IsOffer o) → IsConversing (with_peer s peer)
  peer_conversing peer e offer =
      let u : NodeState = with_peer s peer in
      let k = greeted-early s h e in
      record {
        conversation = subst (λ p. IsConversingIn p u) (sym e) (early_greeted u (record { set = k.set; round = k.round; level = k.level; reports = k.reports; requests = k.requests; wants = k.wants; plain = k.plain }));
        offer = offer;
        plain = never_plain s u k.plain;
        role = fetching_role s.config.role s u refl refl refl refl h.role;
      }

  through_conversing : (o : Option Offer) (set : List Member) → s.machine.phase ≡ phase.Greeted → s.peer.relays_by_id ≡ true → s.peer.offer ≡ o → (is_none o ≡ true → set ≡ []) → IsConversing (after_handshake s (level_of s.config.top o) (is_none o) set)
  through_conversing o set e by_id offer none =
      let u : NodeState = after_handshake s (level_of s.config.top o) (is_none o) set in
      let k = greeted-early s h e in
      record {
        conversation = converses_in phase.Idle u idle_past (record { relays_by_id = by_id; plain = ap is_none (sym offer); level = ap (level_of s.config.top) (sym offer); phase = idle-either s.config.role });
        offer = h.offer;
        plain = λ p. record { set = none p; round = k.round; reports = k.reports; phase = rests-apart phase.Idle idle-rests };
        role = fetching_role s.config.role s u (idle_unfetching ∙ subst (λ p. false ≡ is_fetching p) (sym e) (sym greeted_state-unfetching)) refl refl refl h.role;
      }

-- ---- the rows

whole_row : (s : NodeState) (h : IsConversing s) (o : Offer) (set : List Member) → s.machine.phase ≡ phase.Greeted → s.peer.relays_by_id ≡ true → s.peer.offer ≡ Some o → IsConversing (after_handshake s (level_of s.config.top (Some o)) false set)
whole_row s h o set e by_id some = through_conversing s h (Some o) set e by_id some (λ k. absurd (let apart : false ≡ true = k in cc))

pong_row : (s : NodeState) → IsConversing s → s.config.role ≡ role.Opener → is_barrier s.machine.phase ≡ true → IsConversing (with_wants_requested s)
pong_row s h r e =
    let u : NodeState = with_wants_requested s in
    let past = barrier-past s.machine.phase e in
    let i = introduced s h past in
    let rests = behind-rests s.wants.wanted in
    record {
      conversation =
          converses_in u.machine.phase u (behind-past s.wants.wanted)
          (record { relays_by_id = i.relays_by_id; plain = i.plain; level = i.level; phase = subst (λ x. IsTrue (is_phase_of x u.machine.phase)) (sym r) (behind-opener s.wants.wanted) });
      offer = h.offer;
      plain = λ k. let p = h.plain k in record { set = p.set; round = p.round; reports = p.reports; phase = rests-apart u.machine.phase rests };
      role = is_opener s.config.role u r (behind-fetching s.wants.asked s.wants.wanted (sym (barrier-unfetching s.machine.phase e) ∙ opener_is s r h.role));
    }

plain_round_row : (s : NodeState) → IsConversing s → (requests : Requests) → s.config.role ≡ role.Opener → is_idle s.machine.phase ≡ true → IsConversing (with_machine s phase.Barrier s.machine.round s.machine.reports requests s.set)
plain_round_row s h requests r idle =
    opener_conversing s h phase.Barrier s.machine.round s.machine.reports requests s.set r (idle-past s.machine.phase idle) (idle-unfetching s.machine.phase idle) barrier_past barrier-opener barrier_unfetching
    (λ k. let p = h.plain k in record { set = p.set; round = p.round; reports = p.reports; phase = rests-apart phase.Barrier barrier-rests })

round_row : (s : NodeState) → IsConversing s → (requests : Requests) → IsReconciling role.Opener s → is_idle s.machine.phase ≡ true → IsConversing (with_machine s (waiting_phase 0) s.machine.round s.machine.reports requests s.set)
round_row s h requests o idle =
    opener_conversing s h (waiting_phase 0) s.machine.round s.machine.reports requests s.set o.role (idle-past s.machine.phase idle) (idle-unfetching s.machine.phase idle) (waiting_phase-past 0) (waiting_phase-opener 0) (waiting_phase-unfetching 0)
    (never_plain s (with_machine s (waiting_phase 0) s.machine.round s.machine.reports requests s.set) o.whole)

-- with another inbox, and ended or not
pub beside-conversing : (s : NodeState) → IsConversing s → (i : Inbox) (ended : Option End) → IsConversing (record s { inbox = i; ended = ended })
beside-conversing s h i ended =
    other_conversing s h s.set s.pool s.wants i ended (other_either s h s.set s.pool s.wants i ended (λ e. e) (λ e. e)) (λ k e. e) (other_role s h s.set s.pool s.wants i ended s.config.role refl (λ e. e) h.role)

some_offer : (o x : Offer) → Some o ≡ Some x → o ≡ x
some_offer o x e = cc

-- a set with a member more is one of a node that isn't plain, behind the handshake
member_row : (s : NodeState) → IsConversing s → (set : List Member) (t : Transaction) → is_after_handshake s.machine.phase ≡ true → s.plain ≡ false → IsConversing (record (with_pooled s t) { set = set })
member_row s h set t past whole =
    let wants : Wants = (with_pooled s t).wants in
    other_conversing s h set (s.pool ++ t ∷ []) wants s.inbox s.ended
    (other_past s h set (s.pool ++ t ∷ []) wants s.inbox s.ended past) (λ k e. absurd (let apart : false ≡ true = sym whole ∙ k in cc))
    (other_role s h set (s.pool ++ t ∷ []) wants s.inbox s.ended s.config.role refl (λ e. ap (λ ids. without_id ids t.id) e) h.role)

addition_row : (s : NodeState) → IsConversing s → (set : List Member) (t : Transaction) → (s.set ≡ [] → set ≡ []) → IsConversing (record (with_pooled s t) { set = set })
addition_row s h set t f =
    let wants : Wants = (with_pooled s t).wants in
    other_conversing s h set (s.pool ++ t ∷ []) wants s.inbox s.ended
    (other_either s h set (s.pool ++ t ∷ []) wants s.inbox s.ended f (λ e. ap (λ (w : Wants). record w { wanted = without_id w.wanted t.id }) e)) (λ k e. f e)
    (other_role s h set (s.pool ++ t ∷ []) wants s.inbox s.ended s.config.role refl (λ e. ap (λ ids. without_id ids t.id) e) h.role)

conversing_rows : (s : NodeState) → IsConversing s → EachRow s (λ t. IsConversing t.state)
conversing_rows s h = record {
  stays = h;
  ends = λ e. beside-conversing s h s.inbox (Some e);
  version = λ e. greeted_conversing s h e;
  wtxidrelay = λ e. peer_conversing s h _ e h.offer;
  offer = λ o e is none. peer_conversing s h _ e (λ x k. subst IsOffer (some_offer o x k) is);
  plain = λ e by_id none. through_conversing s h None [] e by_id none (λ k. refl);
  whole = λ o e by_id some. whole_row s h o _ e by_id some;
  answer = λ n bytes es a e. waiting_conversing s h n phase.Barrier _ _ _ _ a.opener a.waits barrier_past barrier-opener barrier_unfetching;
  more = λ n bytes a e. waiting_conversing s h n (waiting_phase (suc n)) _ _ _ _ a.opener a.waits (waiting_phase-past (suc n)) (waiting_phase-opener (suc n)) (waiting_phase-unfetching (suc n));
  fallback = λ n bytes a. waiting_conversing s h n phase.Barrier _ _ _ _ a.opener a.waits barrier_past barrier-opener barrier_unfetching;
  first = λ size q a e. accepter_conversing s h (sent_phase 0) _ _ [] a (idle-past s.machine.phase e) (sent_phase-past 0) (sent_phase-accepter 0);
  extension = λ n a g e. accepter_conversing s h (sent_phase (suc n)) _ _ s.set a (sent_extensions-past s.machine.phase n g) (sent_phase-past (suc n)) (sent_phase-accepter (suc n));
  difference = λ n success asks a g e m. accepter_conversing s h phase.Idle _ _ s.set a (sent_extensions-past s.machine.phase n g) idle_past (idle-either role.Accepter);
  wants = λ es n.
      let set : List Member = without_announced s.set es in
      let wants : Wants = record s.wants { wanted = s.wants.wanted ++ unknown_ids s es } in
      other_conversing s h set s.pool wants s.inbox s.ended (other_past s h set s.pool wants s.inbox s.ended n.past) (λ k e. ap (λ ms. without_announced ms es) e) (is_opener s.config.role _ n.role (opener_is s n.role h.role));
  request = λ es n.
      let set : List Member = without_announced s.set es in
      let wants : Wants = record s.wants { asked = s.wants.asked ++ unknown_ids s es } in
      let k = accepter_is s n.role h.role in
      other_conversing s h set s.pool wants s.inbox s.ended (other_past s h set s.pool wants s.inbox s.ended n.past) (λ k e. ap (λ ms. without_announced ms es) e) (is_accepter s.config.role _ n.role k.0 k.1);
  getdata = λ es past m. other_conversing s h s.set s.pool _ s.inbox s.ended (other_past s h s.set s.pool _ s.inbox s.ended past) (λ k e. e) (other_role s h s.set s.pool _ s.inbox s.ended s.config.role refl (λ k. k) h.role);
  notfound = λ es past m. settled_conversing s h (λ id. not (is_listed (wtxids_of es) id)) s.pool past;
  known = λ t past a p. settled_conversing s h (λ other. not (is_same_id other t.id)) s.pool past;
  gained = λ t past a p f. settled_conversing s h (λ other. not (is_same_id other t.id)) (s.pool ++ t ∷ []) past;
  ping = λ n past m. h;
  pong = λ r e. pong_row s h r e;
  addition = λ t a. addition_row s h s.set t (λ e. e);
  announcement = λ t a k past plain. addition_row s h s.set t (λ e. e);
  member = λ t a k past whole. member_row s h _ t past whole;
  round = λ r idle. round_row s h _ r idle;
  plain_round = λ r idle plain. plain_round_row s h _ r idle;
}

pub on_message-conversing : (s : NodeState) (m : Message) → IsConversing s → IsMessage m → IsConversing (on_message s m).state
on_message-conversing s m h sound = on_message-rows s (λ t. IsConversing t.state) (conversing_rows s h) m sound

pub on_addition-conversing : (s : NodeState) (tx : List ℕ) → IsConversing s → IsTransaction (transaction_of tx) → IsConversing (on_addition s tx).turn.state
on_addition-conversing s tx h sound = on_addition-rows s (λ t. IsConversing t.state) (conversing_rows s h) tx sound

pub on_start-conversing : (s : NodeState) → IsConversing s → IsConversing (on_start s).turn.state
on_start-conversing s h = on_start-rows s (λ t. IsConversing t.state) (conversing_rows s h)

pub opening-conversing : (c : Config) (pool : List Transaction) → IsConversing (opening_state c pool)
unfolding IsConversingIn IsOfRole is_fetching
opening-conversing c pool = record {
  conversation = (record { set = refl; round = refl; level = refl; reports = refl; requests = refl; wants = refl; plain = refl }, refl);
  offer = λ o e. absurd (let apart : None ≡ Some o = e in cc);
  plain = never_plain (opening_state c pool) (opening_state c pool) refl;
  role = by_role c.role;
}
  where
    by_role : (r : Role) → IsOfRole r (opening_state c pool)
    by_role role.Opener = refl
    by_role role.Accepter = (refl, refl)
