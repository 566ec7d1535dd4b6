-- How a session ends between two pieces: it is done, its input has ended, it has received all that it may, or a call failed.
use Rattle.std.proofs.Common.{◌≡◌, ◌≢◌, ℕ, zero, suc, ◌+◌, ◌<◌, ◌≤◌, Bool, true, false, ◌&&◌, List, [], ◌∷◌, ◌++◌, length, take, drop, Option, None, refl, sym, ap, ap₂, subst, ◌∙◌, append-nil, arith, is_none, length-take, length-append, not, if◌then◌else◌}
use Rattle.std.specs.Prelude.{nat_le}
use Rattle.std.specs.List.{concat}
use Rattle.std.proofs.lemmas.Bool.{le-leb, lt-leb, and_parts}
use Rattle.wire_rules.specs.declared.phase.Phase.{Phase}
use Rattle.link_rules.specs.Links.{Link, Piece, bytes_of_pieces, received_bytes}
use Rattle.node_rules.specs.Stages.{is_idle}
use Rattle.node_rules.specs.State.{NodeState, NodeView}
use Rattle.node_rules.specs.declared.config.Role.{Role}
use Rattle.node_rules.specs.declared.config.Role.TheVariants as role
use Rattle.node_rules.specs.declared.end.End.{End}
use Rattle.session_rules.specs.Session.{AreInTime, IsAnsweredFor, IsInTime, Session, after_pieces, is_done, is_done_by, is_resting, is_served}
use Rattle.session_rules.specs.declared.limits.TheConstants.{PIECE_LIMIT, SESSION_LIMIT}
use Rattle.session_rules.specs.declared.session_end.SessionEnd.{SessionEnd}
use Rattle.session_rules.specs.declared.session_end.SessionEnd.TheVariants as session_end
use Rattle.erlay_base.specs.Told.{AreTold}
use Rattle.erlay_base.specs.WireCalls.{IsReceivedPiece}
use Rattle.session.specs.Sessions.{end_in, is_input_over}
use Rattle.session.specs.Standing.{IsAt, IsBeforePiece, IsLeft, IsLinkSince, IsOver, IsStanding, IsUnfinished, end_of_input, is_opener, session_at}
use Rattle.session.proofs.Links.{next-end, next-piece, piece_behind, since-same, since-sent, with_sent}
use Rattle.session.proofs.Pieces.{AreInTime-append, received-append}
use Rattle.session.proofs.NodeSteps.{seen-sent}

-- ---- whether a node is done, from what its session keeps

resting : (idle : Bool) (e : Option End) → e ≡ None → (idle && is_none e) ≡ idle
resting true e h = ap is_none h
resting false e h = refl

left-none : (begun left rounds : ℕ) → begun + left ≡ rounds → left ≡ 0 → nat_le rounds begun ≡ true
left-none begun left rounds e none = le-leb rounds begun (omega arith)

left-some : (begun left rounds : ℕ) → begun + left ≡ rounds → 0 < left → nat_le rounds begun ≡ false
left-some begun left rounds e some = lt-leb rounds begun (omega arith)

done_by-opener : (r : Role) (over : Bool) (rounds : ℕ) (x : Session) → is_opener r ≡ true → is_done_by r over rounds x ≡ (is_resting x.state && nat_le rounds x.begun)
unfolding is_done_by is_opener
done_by-opener role.Opener over rounds x h = refl
done_by-opener role.Accepter over rounds x h = absurd (cc)

done_by-accepter : (r : Role) (over : Bool) (rounds : ℕ) (x : Session) → is_opener r ≡ false → is_done_by r over rounds x ≡ (over && is_resting x.state && is_served x.state)
unfolding is_done_by is_opener
done_by-accepter role.Opener over rounds x h = absurd (cc)
done_by-accepter role.Accepter over rounds x h = refl

both : (a b : Bool) → a ≡ true → b ≡ true → (a && b) ≡ true
both a b h k = ap₂ ◌&&◌ h k

first-fails : (a b : Bool) → a ≡ false → (a && b) ≡ false
first-fails a b h = ap (λ (c : Bool). c && b) h

second-fails : (a b : Bool) → b ≡ false → (a && b) ≡ false
second-fails true b h = h
second-fails false b h = refl

module _ (opens : Bool) (rounds left : ℕ) (x : Session) (sent : List ℕ) (v : NodeView) (h : IsAt opens rounds left x sent v) where
  role_at : opens ≡ is_opener x.state.config.role
  role_at = h.opener ∙ ap (λ (s : NodeState). is_opener s.config.role) h.state

  resting_at : is_resting x.state ≡ is_idle v.state.machine.phase
  resting_at = sym (ap is_resting h.state) ∙ resting (is_idle v.state.machine.phase) v.state.ended h.unended

  -- an opener with no round left
  pub opener-done : (over : Bool) → opens ≡ true → left ≡ 0 → is_idle v.state.machine.phase ≡ true → is_done over rounds x ≡ true
  opener-done over opens_is none idle =
      done_by-opener x.state.config.role over rounds x (sym role_at ∙ opens_is) ∙ both (is_resting x.state) (nat_le rounds x.begun) (resting_at ∙ idle) (left-none x.begun left rounds h.counted none)

  pub opener-undone : (over : Bool) → opens ≡ true → (left ≡ 0 → is_idle v.state.machine.phase ≡ false) → is_done over rounds x ≡ false
  opener-undone over opens_is busy = done_by-opener x.state.config.role over rounds x (sym role_at ∙ opens_is) ∙ by_left left refl
    where
      by_left : (k : ℕ) → left ≡ k → (is_resting x.state && nat_le rounds x.begun) ≡ false
      by_left zero e = first-fails (is_resting x.state) (nat_le rounds x.begun) (resting_at ∙ busy e)
      by_left (suc k) e = second-fails (is_resting x.state) (nat_le rounds x.begun) (left-some x.begun left rounds h.counted (omega arith))

  served_at : is_served x.state ≡ is_served v.state
  served_at = sym (ap is_served h.state)

  pub accepter-done : opens ≡ false → is_idle v.state.machine.phase ≡ true → is_served v.state ≡ true → is_done true rounds x ≡ true
  accepter-done opens_is idle served = done_by-accepter x.state.config.role true rounds x (sym role_at ∙ opens_is) ∙ both (is_resting x.state) (is_served x.state) (resting_at ∙ idle) (served_at ∙ served)

  pub accepter-undone : opens ≡ false → (is_idle v.state.machine.phase && is_served v.state) ≡ false → is_done true rounds x ≡ false
  accepter-undone opens_is busy = done_by-accepter x.state.config.role true rounds x (sym role_at ∙ opens_is) ∙ (ap₂ ◌&&◌ resting_at served_at ∙ busy)

  pub accepter-going : opens ≡ false → is_done false rounds x ≡ false
  accepter-going opens_is = done_by-accepter x.state.config.role false rounds x (sym role_at ∙ opens_is)

pub undone : (opens : Bool) (rounds left : ℕ) (x : Session) (sent : List ℕ) (v : NodeView) → IsAt opens rounds left x sent v → IsUnfinished opens left v → is_done false rounds x ≡ false
undone true rounds left x sent v h busy = opener-undone true rounds left x sent v h false refl (busy refl)
undone false rounds left x sent v h busy = accepter-going false rounds left x sent v h refl

opener-open : (r : Role) → is_opener r ≡ true → is_input_over r session_end.Done ≡ false
unfolding is_input_over is_opener
opener-open role.Opener h = refl
opener-open role.Accepter h = absurd (cc)

accepter-over : (r : Role) → is_opener r ≡ false → is_input_over r session_end.Done ≡ true
unfolding is_input_over is_opener
accepter-over role.Opener h = absurd (cc)
accepter-over role.Accepter h = refl

accepter-role : (r : Role) → is_opener r ≡ false → r ≢ role.Opener
unfolding is_opener
accepter-role role.Opener h e = cc
accepter-role role.Accepter h e = cc

-- ---- sent bytes

pub at-sent : (opens : Bool) (rounds left : ℕ) (x : Session) (sent : List ℕ) (v : NodeView) (n : ℕ) → IsAt opens rounds left x sent v → IsAt opens rounds left x (sent ++ take n v.outbox) (record v { outbox = drop n v.outbox })
at-sent opens rounds left x sent v n h =
    let s = seen-sent x sent v n (record { state = h.state; given = h.given }) in
    record { state = s.state; given = s.given; memory = h.memory; unended = h.unended; opener = h.opener; counted = h.counted; busy = h.busy }

-- ---- the end of the input

module _ (opens : Bool) (rounds : ℕ) (start : Session) (before after : Option Link) (over : Bool) (v : NodeView) (left : ℕ) (now : Link) (since : IsLinkSince before after now) (input : now.input_ended ≡ true) (over_is : over ≡ true)
    (at : IsAt opens rounds left (session_at rounds start now) now.sent v) (in_time : AreInTime rounds start now.pieces) (below : length (received_bytes now) < SESSION_LIMIT) (sent : v.outbox ≡ []) (busy : IsUnfinished opens left v) where
  ended-by : (answer : SessionEnd) → IsAnsweredFor answer rounds start now v → end_in answer ≡ None → is_input_over v.state.config.role answer ≡ true
      → ((p : Phase) → answer ≡ session_end.Truncated p → opens ≡ true → is_idle p ≡ false) → IsOver opens rounds start before after over v answer
  ended-by answer cause end by in_round = record {
    now = now;
    since = since;
    input = input ∙ sym over_is;
    in_time = in_time;
    most = omega arith;
    left = λ _. record { state = at.state; given = at.given; memory = at.memory; cause = cause };
    end = at.unended ∙ sym end;
    opener = at.opener;
    input_by = over_is ∙ sym by;
    busy = in_round;
  }

  input-now : {a : Bool} → is_done true rounds (session_at rounds start now) ≡ a → is_done now.input_ended rounds (session_at rounds start now) ≡ a
  input-now {a} h = subst (λ (b : Bool). is_done b rounds (session_at rounds start now) ≡ a) (sym input) h

  -- an accepter between rounds, with nothing unread and nothing wanted
  ended-done : opens ≡ false → (is_idle v.state.machine.phase && is_served v.state) ≡ true → IsOver opens rounds start before after over v session_end.Done
  unfolding IsAnsweredFor end_in
  ended-done accepts rests =
      let parts = and_parts (is_idle v.state.machine.phase) (is_served v.state) rests in
      let r = sym at.opener ∙ accepts in
      ended-by session_end.Done (record {
        done = input-now (accepter-done opens rounds left (session_at rounds start now) now.sent v at accepts parts.0 parts.1);
        begun = λ e. absurd (accepter-role (session_at rounds start now).state.config.role (ap (λ (s : NodeState). is_opener s.config.role) (sym at.state) ∙ r) e);
        sent = sent;
      }) refl (accepter-over v.state.config.role r) (λ p e. absurd (cc))

  -- too early
  ended-early : is_done true rounds (session_at rounds start now) ≡ false → (opens ≡ true → is_idle v.state.machine.phase ≡ false) → IsOver opens rounds start before after over v (session_end.Truncated v.state.machine.phase)
  unfolding IsAnsweredFor end_in is_input_over
  ended-early not_done in_round =
      ended-by (session_end.Truncated v.state.machine.phase) (record {
        undone = record { unended = at.unended; undone = input-now not_done; sent = sent };
        input = input;
        phase = refl;
        below = below;
      }) refl refl (λ p e opens_is. let same : v.state.machine.phase ≡ p = cc in ap is_idle (sym same) ∙ in_round opens_is)

  in-round : (b : Bool) → b ≡ is_idle v.state.machine.phase → opens ≡ true → b ≡ false
  in-round true e opens_is = e ∙ busy opens_is (at.busy opens_is (sym e))
  in-round false e opens_is = refl

  early-opener : opens ≡ true → IsOver opens rounds start before after over v (session_end.Truncated v.state.machine.phase)
  early-opener opens_is = ended-early (opener-undone opens rounds left (session_at rounds start now) now.sent v at true opens_is (busy opens_is)) (in-round (is_idle v.state.machine.phase) refl)

  by-rest : (b : Bool) → b ≡ (is_idle v.state.machine.phase && is_served v.state) → opens ≡ false → IsOver opens rounds start before after over v (if b then session_end.Done else session_end.Truncated v.state.machine.phase)
  by-rest true e accepts = ended-done accepts (sym e)
  by-rest false e accepts = ended-early (accepter-undone opens rounds left (session_at rounds start now) now.sent v at accepts (sym e)) (λ opens_is. absurd (cc))

  by-role : (o : Bool) → o ≡ opens → IsOver opens rounds start before after over v (if not o && (is_idle v.state.machine.phase && is_served v.state) then session_end.Done else session_end.Truncated v.state.machine.phase)
  by-role true e = early-opener (sym e)
  by-role false e = by-rest (is_idle v.state.machine.phase && is_served v.state) refl (sym e)

  pub over-ended : IsOver opens rounds start before after over v (end_of_input opens v.state)
  over-ended = by-role opens refl

-- ---- a session between two pieces

module _ (opens : Bool) (rounds : ℕ) (start : Session) (before told : Option Link) (ended : Bool) (v : NodeView) (left received : ℕ) (h : IsStanding opens rounds start before told ended v left received) where
  pub standing-sent : (after : Option Link) (n : ℕ) → AreTold told after (λ a b. b ≡ with_sent a (take n v.outbox)) → IsStanding opens rounds start before after ended (record v { outbox = drop n v.outbox }) left received
  standing-sent after n e = record {
    now = with_sent h.now (take n v.outbox);
    since = since-sent before told after h.now (take n v.outbox) h.since e;
    input = h.input;
    going = h.going;
    at = at-sent opens rounds left (session_at rounds start h.now) h.now.sent v n h.at;
    in_time = h.in_time;
    counted = h.counted;
  }

  pub standing-same : (after : Option Link) → AreTold told after (λ a b. b ≡ a) → IsStanding opens rounds start before after ended v left received
  standing-same after e = record { now = h.now; since = since-same before told after h.now h.since e; input = h.input; going = h.going; at = h.at; in_time = h.in_time; counted = h.counted }

  -- as a call of the wire that failed leaves it
  pub standing-still : (after : Option Link) (over : Bool) → AreTold told after (λ a b. b ≡ a) → over ≡ ended → IsStanding opens rounds start before after over v left received
  standing-still after over e same = subst (λ (b : Bool). IsStanding opens rounds start before after b v left received) (sym same) (standing-same after e)

  -- what is left at an answer that leaves the node as it is
  left-by : (answer : SessionEnd) → IsAnsweredFor answer rounds start h.now v → IsLeft rounds start h.now v answer
  left-by answer cause = record { state = h.at.state; given = h.at.given; memory = h.at.memory; cause = cause }

  -- a call of the wire has failed
  pub over-fault : received ≤ SESSION_LIMIT → IsOver opens rounds start before told ended v session_end.LinkFault
  unfolding IsAnsweredFor end_in is_input_over
  over-fault most = record {
    now = h.now;
    since = h.since;
    input = h.input ∙ sym h.going;
    in_time = h.in_time;
    most = omega (arith, h.counted);
    left = λ _. left-by session_end.LinkFault tt;
    end = h.at.unended;
    opener = h.at.opener;
    input_by = h.going;
    busy = λ p e. absurd (cc);
  }

  -- an opener has finished its rounds, and all was sent
  pub over-done : received ≤ SESSION_LIMIT → v.outbox ≡ [] → opens ≡ true → left ≡ 0 → is_idle v.state.machine.phase ≡ true → IsOver opens rounds start before told ended v session_end.Done
  unfolding IsAnsweredFor end_in
  over-done most sent opens_is none idle = record {
    now = h.now;
    since = h.since;
    input = h.input ∙ sym h.going;
    in_time = h.in_time;
    most = omega (arith, h.counted);
    left = λ _. left-by session_end.Done (record {
      done = opener-done opens rounds left (session_at rounds start h.now) h.now.sent v h.at h.now.input_ended opens_is none idle;
      begun = λ _. omega (arith, h.at.counted);
      sent = sent;
    });
    end = h.at.unended;
    opener = h.at.opener;
    input_by = h.going ∙ sym (opener-open v.state.config.role (sym h.at.opener ∙ opens_is));
    busy = λ p e. absurd (cc);
  }

  -- as much was received as may be
  pub over-limit : received ≡ SESSION_LIMIT → v.outbox ≡ [] → IsUnfinished opens left v → IsOver opens rounds start before told ended v session_end.SessionLimit
  unfolding IsAnsweredFor end_in is_input_over
  over-limit all sent busy = record {
    now = h.now;
    since = h.since;
    input = h.input ∙ sym h.going;
    in_time = h.in_time;
    most = omega (arith, h.counted);
    left = λ _. left-by session_end.SessionLimit (record {
      undone = record {
        unended = h.at.unended;
        undone = subst (λ (b : Bool). is_done b rounds (session_at rounds start h.now) ≡ false) (sym h.input) (undone opens rounds left (session_at rounds start h.now) h.now.sent v h.at busy);
        sent = sent;
      };
      input = h.input;
      received = h.counted ∙ all;
    });
    end = h.at.unended;
    opener = h.at.opener;
    input_by = h.going;
    busy = λ p e. absurd (cc);
  }

  -- ---- behind a receive

  module _ (after : Option Link) (sent : v.outbox ≡ []) (busy : IsUnfinished opens left v) where
    -- of a piece
    pub before-piece : (n : ℕ) (buf : List ℕ) → 0 < n → n ≤ length buf → length buf ≤ PIECE_LIMIT → received + n ≤ SESSION_LIMIT → AreTold told after (IsReceivedPiece n buf)
        → IsBeforePiece opens rounds start before after ended v left (received + n) (take n buf)
    before-piece n buf some within room most e =
        let p = piece_behind h.now (take n buf) in
        let next = next-piece before told after h.now n buf h.since some e in
        let x = session_at rounds start h.now in
        let size : length (take n buf) ≡ n = simp length-take (omega arith) in
        let given : h.now.sent ≡ x.given = sym (append-nil h.now.sent) ∙ (ap (λ o. h.now.sent ++ o) (sym sent) ∙ h.at.given) in
        let in_time : IsInTime rounds x p = record {
          sent = ap length given;
          unended = sym (ap (λ (s : NodeState). s.ended) h.at.state) ∙ h.at.unended;
          undone = undone opens rounds left x h.now.sent v h.at busy;
          least = omega (arith, size);
          most = omega (arith, size);
        } in
        record {
          front = h.now;
          now = next.next;
          since = next.since;
          input = next.input_is ∙ h.input;
          going = h.going;
          pieces = next.pieces_are ∙ ap (λ (s : List ℕ). h.now.pieces ++ record { bytes = take n buf; sent_before = length s } ∷ []) (sym next.sent);
          at = subst (λ (s : List ℕ). IsAt opens rounds left x s v) (sym next.sent) h.at;
          all_sent = sent;
          in_time = subst (AreInTime rounds start) (sym next.pieces_are) (AreInTime-append rounds start h.now.pieces p h.in_time in_time);
          counted = ap (λ (ps : List Piece). length (concat (bytes_of_pieces ps))) next.pieces_are ∙ (ap length (received-append h.now.pieces p) ∙ (length-append (received_bytes h.now) (take n buf) ∙ ap₂ ◌+◌ h.counted size));
          most = most;
        }

    -- of no byte: the input has ended
    pub over-end : (over : Bool) (n : ℕ) (buf : List ℕ) → n ≡ 0 → 0 < length buf → over ≡ true → received < SESSION_LIMIT → AreTold told after (IsReceivedPiece n buf)
        → IsOver opens rounds start before after over v (end_of_input opens v.state)
    over-end over n buf none room over_is below e =
        let next = next-end before told after h.now n buf h.since none room e in
        let pieces : next.next.pieces ≡ h.now.pieces = next.pieces_are ∙ append-nil h.now.pieces in
        let same : session_at rounds start next.next ≡ session_at rounds start h.now = ap (λ (ps : List Piece). after_pieces rounds start (bytes_of_pieces ps)) pieces in
        over-ended opens rounds start before after over v left next.next next.since next.input_is over_is
        (subst (λ (x : Session). IsAt opens rounds left x next.next.sent v) (sym same) (subst (λ (s : List ℕ). IsAt opens rounds left (session_at rounds start h.now) s v) (sym next.sent) h.at))
        (subst (AreInTime rounds start) (sym pieces) h.in_time)
        (omega (arith, ap (λ (ps : List Piece). length (concat (bytes_of_pieces ps))) pieces, h.counted)) sent busy
