-- Messages about rounds, at the accepter, and the simple ones at the opener.
use Rattle.std.proofs.Common.{◌≡◌, ℕ, zero, suc, ◌+◌, ◌%◌, ◌^◌, ◌<◌, ◌≤◌, ◌&&◌, nat_lt, Bool, true, false, List, [], ◌∷◌, ◌++◌, length, Option, Some, None, Result, Ok, refl, sym, ap, ap₂, ◌∙◌, subst, append-nil, arith, lt-ltb, eq-eqb}
use Rattle.std.proofs.Math.Nat.{mod-add-mod}
use Rattle.base_types.specs.declared.lists.Hash32.{Hash32}
use Rattle.wire_rules.specs.declared.message.Message.{Message}
use Rattle.wire_rules.specs.declared.message.Message.TheVariants as message
use Rattle.wire_rules.specs.declared.name.Name.{Name}
use Rattle.wire_rules.specs.declared.name.Name.TheVariants as name
use Rattle.wire_rules.specs.declared.phase.Phase.{Phase}
use Rattle.wire_rules.specs.declared.phase.Phase.TheVariants as phase
use Rattle.pool_rules.specs.Snapshots.{Member}
use Rattle.node_rules.specs.Accepter.{accepter_reqrecon, accepter_extension, accepter_diff, reqrecon_by, extension_by, extension_after, diff_by, diff_after, diff_fault, first_sketch, round_of_request, extension_sketch, accepter_announcement, ending_of, first_portion, next_portion}
use Rattle.node_rules.specs.Opener.{opener_sketch, round_start}
use Rattle.node_rules.specs.Outcomes.{report_of}
use Rattle.node_rules.specs.Stages.{waiting_phase, sent_extensions, is_idle}
use Rattle.node_rules.specs.Barrier.{is_barrier, phase_after_barrier}
use Rattle.node_rules.specs.State.{NodeState, initiator_of, extensions_allowed}
use Rattle.node_rules.specs.Steps.{opener_row, accepter_row, in_relay, on_message, after_start, round_by, on_start_by}
use Rattle.node_rules.specs.Barrier.{pong_by, with_wants_requested}
use Rattle.node_rules.specs.Turns.{Response, unchanged, turn_with, after_move, after_response, inv_of, getdata_of}
use Rattle.node_rules.specs.declared.config.Role.{Role}
use Rattle.node_rules.specs.declared.config.Role.TheVariants as role
use Rattle.node_rules.specs.declared.end.End.{End}
use Rattle.pair_rules.specs.Rounds.{EachRound}
use Rattle.pair_invariant_rules.specs.Pairs.{Pair, after_a, after_b, after_message_a, after_message_b, after_start_a}
use Rattle.pair_invariant_rules.specs.Topics.{messages_of_rounds, topic_of, is_round}
use Rattle.pair_invariant_rules.specs.Handshake.{Past, stage_of}
use Rattle.pair_invariant_rules.specs.Rounds.{RoundCase, Resting, Requested, Sketched, Extending, Resolved, Pinged, Ponged, is_at_rest, IsOpenerIn, IsAccepterIn, IsWithinLevel, round_messages_to_b, round_messages_to_a, portion, HasSumsOf, HasSumsIn, IsInCase, AreAgreed, coming_reports, unreported_rounds, HasReports, HasRound, keys_of_pair}
use Rattle.invariant_laws.proofs.Stages.{sent_extensions-sent_phase}
use Rattle.pair_invariant_laws.proofs.Idling.{Same, about_append, about_inv, about_getdata}
use Rattle.pair_invariant_laws.proofs.Known.{Known}
use Rattle.pair_invariant_laws.proofs.PlainTalk.{relays_past}
use Rattle.pair_invariant_laws.proofs.RoundSteps.{idles_a}

-- ---- rows of nodes

-- the accepter's rows
module _ (s : NodeState) (past : stage_of s.machine.phase ≡ Past) (plain : s.plain ≡ false) (accepter : s.config.role ≡ role.Accepter) where
  at_accepter : (n : Name) (set : List Member) (row : Result Response End) → accepter_row s.config.role s.plain n s set row ≡ after_response s set row
  unfolding accepter_row
  at_accepter n set row = ap₂ (λ r b. accepter_row r b n s set row) accepter plain

  pub reqrecon_row : (size q : ℕ) → is_idle s.machine.phase ≡ true → on_message s (message.ReqRecon size q) ≡ after_response s [] (Ok (first_sketch s.machine (round_of_request s.set size q)))
  unfolding in_relay reqrecon_by
  reqrecon_row size q idle =
      relays_past s.machine.phase s (message.ReqRecon size q) past
      ∙ (at_accepter name.ReqRecon [] (accepter_reqrecon s.machine s.set size q)
      ∙ ap (λ b. after_response s [] (reqrecon_by b s.machine s.set size q)) idle)

  pub extension_row : (n : ℕ) → sent_extensions s.machine.phase ≡ Some n → nat_lt n (extensions_allowed s.machine) ≡ true → on_message s message.ReqSketchExt ≡ after_response s s.set (Ok (extension_sketch s.machine n))
  unfolding in_relay extension_after extension_by
  extension_row n sent_n may =
      relays_past s.machine.phase s message.ReqSketchExt past
      ∙ (at_accepter name.ReqSketchExt s.set (accepter_extension s.machine)
      ∙ (ap (λ o. after_response s s.set (extension_after o s.machine)) sent_n
      ∙ ap (λ b. after_response s s.set (extension_by b s.machine n)) may))

  pub diff_row : (n : ℕ) (success : Bool) (asks : List ℕ) → sent_extensions s.machine.phase ≡ Some n
      → on_message s (message.ReconcilDiff success asks) ≡ after_response s s.set (diff_by (diff_fault success s.machine.round asks) s.machine n success asks)
  unfolding in_relay diff_after
  diff_row n success asks sent_n =
      relays_past s.machine.phase s (message.ReconcilDiff success asks) past
      ∙ (at_accepter name.ReconcilDiff s.set (accepter_diff s.machine success asks)
      ∙ ap (λ o. after_response s s.set (diff_after o s.machine success asks)) sent_n)

pub ping_row : (s : NodeState) (n : ℕ) → stage_of s.machine.phase ≡ Past → on_message s (message.Ping n) ≡ turn_with s (message.Pong n ∷ [])
unfolding in_relay
ping_row s n past = relays_past s.machine.phase s (message.Ping n) past

-- the opener's
pub pong_row : (s : NodeState) → stage_of s.machine.phase ≡ Past → s.config.role ≡ role.Opener → s.machine.phase ≡ phase.Barrier
    → on_message s (message.Pong s.requests.begun) ≡ turn_with (with_wants_requested s) (getdata_of s.wants.wanted)
unfolding in_relay pong_by is_barrier
pong_row s past opener barrier =
    relays_past s.machine.phase s (message.Pong s.requests.begun) past
    ∙ ap₂ (λ r b. pong_by r b s) opener (ap₂ (λ x y. x && y) (ap is_barrier barrier) (eq-eqb s.requests.begun s.requests.begun refl))

pub sketch_row : (s : NodeState) (bytes : List ℕ) → stage_of s.machine.phase ≡ Past → s.config.role ≡ role.Opener → s.plain ≡ false
    → on_message s (message.Sketch bytes) ≡ after_move s (opener_sketch (initiator_of s) s.set bytes)
unfolding in_relay opener_row
sketch_row s bytes past opener plain =
    relays_past s.machine.phase s (message.Sketch bytes) past
    ∙ ap₂ (λ r b. opener_row r b name.Sketch s (opener_sketch (initiator_of s) s.set bytes)) opener plain

-- ---- stages

pub rests_idle : (p : Phase) → is_at_rest role.Accepter p ≡ true → stage_of p ≡ Past → is_idle p ≡ true
unfolding is_at_rest stage_of is_idle
rests_idle phase.Idle r h = refl
rests_idle phase.Greeting r h = absurd (cc)
rests_idle phase.Greeted r h = absurd (cc)
rests_idle _ r h = absurd (cc)

rests_behind : (ids : List Hash32) → is_at_rest role.Opener (phase_after_barrier ids) ≡ true
unfolding is_at_rest phase_after_barrier
rests_behind [] = refl
rests_behind (id ∷ ids) = refl

-- ---- the accepter's steps

abbrev IfGoing : Pair → List Message → Message → Type 0
IfGoing p ms m = (on_message p.b m).state.ended ≡ None → HasRound (after_message_b p m ms)

-- what b's step says behind what is on the way to a
to_a_more : (p : Pair) (out : List Message) (xs ys : List Message) → messages_of_rounds p.to_a ≡ xs → messages_of_rounds out ≡ ys → messages_of_rounds (p.to_a ++ out) ≡ xs ++ ys
to_a_more p out xs ys e h = about_append p.to_a out ∙ ap₂ (λ u v. u ++ v) e h

pub requested_b : (p : Pair) (ms : List Message) (size q : ℕ) → IsInCase (Requested size q) p → HasReports (Requested size q) p → Known p.b p.a → p.b.config.role ≡ role.Accepter
    → messages_of_rounds ms ≡ [] → IfGoing p ms (message.ReqRecon size q)
unfolding IsOpenerIn IsAccepterIn IsWithinLevel round_messages_to_b round_messages_to_a portion HasSumsOf HasSumsIn coming_reports unreported_rounds topic_of is_round
requested_b p ms size q s r known accepter e going =
    let row = reqrecon_row p.b known.stage known.whole accepter size q (rests_idle p.b.machine.phase s.accepter known.stage) in
    subst (λ t. HasRound (after_b p t ms)) (sym row) (record {
      case = Sketched 0;
      position = record {
        within = omega arith;
        opener = s.opener;
        accepter = refl;
        to_b = e;
        to_a = to_a_more p (message.Sketch (first_portion (round_of_request p.b.set size q)) ∷ []) [] (message.Sketch (first_portion (round_of_request p.b.set size q)) ∷ []) s.to_a refl;
        keeps = tt;
      };
      reports_in = record { begun = r.begun; agree = r.agree };
    })

pub extending_b : (p : Pair) (ms : List Message) (n : ℕ) → IsInCase (Extending n) p → HasReports (Extending n) p → Known p.b p.a → p.b.config.role ≡ role.Accepter
    → extensions_allowed p.b.machine ≡ extensions_allowed p.a.machine → extensions_allowed p.a.machine ≤ 2
    → messages_of_rounds ms ≡ [] → IfGoing p ms message.ReqSketchExt
unfolding IsOpenerIn IsAccepterIn IsWithinLevel round_messages_to_b round_messages_to_a portion HasSumsOf HasSumsIn coming_reports unreported_rounds topic_of is_round
extending_b p ms n s r known accepter level most e going =
    let row = extension_row p.b known.stage known.whole accepter n (ap sent_extensions s.accepter ∙ sent_extensions-sent_phase n (omega (arith, most, s.within))) (lt-ltb n (extensions_allowed p.b.machine) (subst (λ x. n < x) (sym level) s.within)) in
    subst (λ t. HasRound (after_b p t ms)) (sym row) (record {
      case = Sketched (suc n);
      position = record {
        within = s.within;
        opener = s.opener;
        accepter = refl;
        to_b = e;
        to_a = to_a_more p (message.Sketch (next_portion p.b.machine.round n) ∷ []) [] (message.Sketch (next_portion p.b.machine.round n) ∷ []) s.to_a refl;
        keeps = s.keeps;
      };
      reports_in = record { begun = r.begun; agree = r.agree };
    })

-- a difference, by its fault
resolved_by : (f : Option End) (p : Pair) (ms : List Message) (n : ℕ) (success : Bool) (asks : List ℕ) → IsInCase (Resolved n success asks) p → HasReports (Resolved n success asks) p
    → messages_of_rounds ms ≡ message.Ping p.a.requests.begun ∷ [] → (after_response p.b p.b.set (diff_by f p.b.machine n success asks)).state.ended ≡ None
    → HasRound (after_b p (after_response p.b p.b.set (diff_by f p.b.machine n success asks)) ms)
unfolding IsOpenerIn IsAccepterIn IsWithinLevel round_messages_to_b round_messages_to_a portion HasSumsOf HasSumsIn coming_reports unreported_rounds topic_of is_round diff_by is_at_rest
resolved_by (Some x) p ms n success asks s r e going = absurd (let apart : Some x ≡ None = going in cc)
resolved_by None p ms n success asks s r e going = record {
  case = Pinged;
  position = record {
    within = tt;
    opener = s.opener;
    accepter = refl;
    to_b = e;
    to_a = to_a_more p (inv_of (accepter_announcement success p.b.machine.round asks)) [] [] s.to_a (about_inv (accepter_announcement success p.b.machine.round asks));
    keeps = tt;
  };
  reports_in = record {
    begun = r.begun;
    agree = subst (EachRound (AreAgreed (keys_of_pair p)) p.a.machine.reports) (sym (append-nil (p.b.machine.reports ++ report_of p.b.machine.round (ending_of success n) asks ∷ []))) r.agree;
  };
}

pub resolved_b : (p : Pair) (ms : List Message) (n : ℕ) (success : Bool) (asks : List ℕ) → extensions_allowed p.a.machine ≤ 2 → IsInCase (Resolved n success asks) p → HasReports (Resolved n success asks) p → Known p.b p.a
    → p.b.config.role ≡ role.Accepter → messages_of_rounds ms ≡ message.Ping p.a.requests.begun ∷ [] → IfGoing p ms (message.ReconcilDiff success asks)
unfolding IsAccepterIn IsWithinLevel
resolved_b p ms n success asks most s r known accepter e going =
    let row = diff_row p.b known.stage known.whole accepter n success asks (ap sent_extensions s.accepter ∙ sent_extensions-sent_phase n (omega (arith, most, s.within))) in
    subst (λ t. HasRound (after_b p t ms)) (sym row) (resolved_by (diff_fault success p.b.machine.round asks) p ms n success asks s r e (sym (ap (λ t. t.state.ended) row) ∙ going))

pub pinged_b : (p : Pair) (ms : List Message) → IsInCase Pinged p → HasReports Pinged p → Known p.b p.a → messages_of_rounds ms ≡ [] → IfGoing p ms (message.Ping p.a.requests.begun)
unfolding IsOpenerIn IsAccepterIn IsWithinLevel round_messages_to_b round_messages_to_a portion HasSumsOf HasSumsIn coming_reports unreported_rounds topic_of is_round
pinged_b p ms s r known e going =
    subst (λ t. HasRound (after_b p t ms)) (sym (ping_row p.b p.a.requests.begun known.stage)) (record {
      case = Ponged;
      position = record {
        within = tt;
        opener = s.opener;
        accepter = s.accepter;
        to_b = e;
        to_a = to_a_more p (message.Pong p.a.requests.begun ∷ []) [] (message.Pong p.a.requests.begun ∷ []) s.to_a refl;
        keeps = tt;
      };
      reports_in = record { begun = r.begun; agree = r.agree };
    })

-- ---- the opener's

pub ponged_a : (p : Pair) (ms : List Message) → IsInCase Ponged p → HasReports Ponged p → Known p.a p.b → p.a.config.role ≡ role.Opener → messages_of_rounds ms ≡ []
    → HasRound (after_message_a p (message.Pong p.a.requests.begun) ms)
unfolding IsOpenerIn IsAccepterIn IsWithinLevel round_messages_to_b round_messages_to_a portion HasSumsOf HasSumsIn coming_reports unreported_rounds topic_of is_round
ponged_a p ms s r known opener e =
    subst (λ t. HasRound (after_a p t ms)) (sym (pong_row p.a known.stage opener s.opener)) (record {
      case = Resting;
      position = record {
        within = tt;
        opener = rests_behind p.a.wants.wanted;
        accepter = s.accepter;
        to_b = about_append p.to_b (getdata_of p.a.wants.wanted) ∙ ap₂ (λ u v. u ++ v) s.to_b (about_getdata p.a.wants.wanted);
        to_a = e;
        keeps = tt;
      };
      reports_in = record { begun = r.begun; agree = r.agree };
    })

pub idle_is : (p : Phase) → is_idle p ≡ true → p ≡ phase.Idle
unfolding is_idle
idle_is phase.Idle h = refl
idle_is _ h = absurd (cc)

pub waiting_busy : (n : ℕ) → is_idle (waiting_phase n) ≡ false
unfolding is_idle waiting_phase
waiting_busy zero = refl
waiting_busy (suc zero) = refl
waiting_busy (suc (suc n)) = refl

busy : (p q : Phase) → p ≡ phase.Idle → is_idle q ≡ false → p ≡ q → ⊥
unfolding is_idle
busy p q e no_round h = let apart : true ≡ false = sym (ap is_idle e) ∙ (ap is_idle h ∙ no_round) in cc

-- an idle opener has no round under way
pub idle_case : (c : RoundCase) (q : Phase) → q ≡ phase.Idle → IsOpenerIn c q → c ≡ Resting
unfolding IsOpenerIn is_idle
idle_case Resting q e h = refl
idle_case (Requested size x) q e h = absurd (busy q (waiting_phase 0) e (waiting_busy 0) h)
idle_case (Sketched n) q e h = absurd (busy q (waiting_phase n) e (waiting_busy n) h)
idle_case (Extending n) q e h = absurd (busy q (waiting_phase (suc n)) e (waiting_busy (suc n)) h)
idle_case _ q e h = absurd (busy q phase.Barrier e refl h)

next_number : (b l m : ℕ) → b ≡ (l + 0) % m → (b + 1) % m ≡ (l + 1) % m
next_number b l m e =
    let same : l + 0 + 1 ≡ l + 1 = omega arith in
    ap (λ x. (x + 1) % m) e ∙ (mod-add-mod (l + 0) m 1 ∙ ap (λ x. x % m) same)

resting_begins : (p : Pair) → IsInCase Resting p → HasReports Resting p → HasRound (after_a p (after_start p.a (round_start (initiator_of p.a) (length p.a.set))) p.to_a)
unfolding IsOpenerIn IsAccepterIn IsWithinLevel round_messages_to_b round_messages_to_a portion HasSumsOf HasSumsIn coming_reports unreported_rounds topic_of is_round
resting_begins p s r = record {
  case = Requested (length p.a.set) p.a.requests.coefficient;
  position = record {
    within = tt;
    opener = refl;
    accepter = s.accepter;
    to_b = about_append p.to_b ((round_start (initiator_of p.a) (length p.a.set)).message ∷ []) ∙ ap (λ u. u ++ ((round_start (initiator_of p.a) (length p.a.set)).message ∷ [])) s.to_b;
    to_a = s.to_a;
    keeps = tt;
  };
  reports_in = record { begun = next_number p.a.requests.begun (length p.a.machine.reports) (2 ^ 64) r.begun; agree = r.agree };
}

nothing_a : (p : Pair) → HasRound p → HasRound (after_a p (unchanged p.a) p.to_a)
nothing_a p r = idles_a p (unchanged p.a) p.to_a (record { config = refl; round = refl; begun = refl; reports = refl; level = λ past. refl; phase = Same refl; out = refl }) refl r

-- an opener that begins a round
begun_by : (e : Option End) (r : Role) (idle : Bool) (p : Pair) → is_idle p.a.machine.phase ≡ idle → p.a.plain ≡ false → HasRound p → HasRound (after_a p (on_start_by e r idle p.a).turn p.to_a)
unfolding on_start_by round_by
begun_by None role.Opener true p i plain r =
    let here : r.case ≡ Resting = idle_case r.case p.a.machine.phase (idle_is p.a.machine.phase i) r.position.opener in
    subst (λ b. HasRound (after_a p (round_by b p.a) p.to_a)) (sym plain) (resting_begins p (subst (λ c. IsInCase c p) here r.position) (subst (λ c. HasReports c p) here r.reports_in))
begun_by None role.Opener false p i plain r = nothing_a p r
begun_by None role.Accepter idle p i plain r = nothing_a p r
begun_by (Some e) x idle p i plain r = nothing_a p r

pub rounding-begins : (p : Pair) → p.a.plain ≡ false → HasRound p → HasRound (after_start_a p)
rounding-begins p plain r = begun_by p.a.ended p.a.config.role (is_idle p.a.machine.phase) p refl plain r
