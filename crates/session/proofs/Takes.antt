-- What a piece makes of a session, by what its node answers.
use Rattle.std.proofs.Common.{◌≡◌, ℕ, zero, suc, ◌+◌, ◌-◌, ◌<◌, Bool, true, false, List, ◌++◌, length, Option, Some, None, Ok, Err, refl, sym, ap, subst, ◌∙◌, append-nil, arith}
use Rattle.std.specs.Prelude.{nat_lt}
use Rattle.std.proofs.lemmas.Bool.{lt-ltb, le-ltb}
use Rattle.base_types.specs.declared.errors.OutOfMemory.{OutOfMemory}
use Rattle.link_rules.specs.Links.{Link, Piece, bytes_of_pieces}
use Rattle.node_rules.specs.Memory.{IsOutOfMemoryIn, view_behind_piece, view_behind_start}
use Rattle.node_rules.specs.Stages.{is_idle}
use Rattle.node_rules.specs.State.{NodeState, NodeView}
use Rattle.node_rules.specs.Steps.{count_of, on_piece, on_start}
use Rattle.node_rules.specs.Turns.{after_turn}
use Rattle.node_rules.specs.declared.config.Config.{Config}
use Rattle.node_rules.specs.declared.end.End.{End}
use Rattle.node_laws.proofs.LaterSteps.{on_piece-later, on_start-later}
use Rattle.relay_node.specs.Answers.{IsStarvedBy}
use Rattle.session_rules.specs.Session.{IsAnsweredFor, Session, after_pieces, session_after, session_with_round}
use Rattle.session_rules.specs.declared.session_end.SessionEnd.TheVariants as session_end
use Rattle.session.specs.Sessions.{end_in, is_input_over}
use Rattle.session.specs.Standing.{IsAt, IsBeforePiece, IsOver, IsRoundBegun, IsStanding, is_opener, session_at}
use Rattle.session.proofs.Pieces.{after_pieces-with}
use Rattle.session.proofs.NodeSteps.{IsSeen, begun-round_left, behind, round-none_left, seen-piece, seen-round_ended, seen-round_left, start-busy, start-ended}

same_memory : (v new : NodeView) (piece : List ℕ) → v.out_of_memory ≡ false → new ≡ view_behind_piece v piece → new ≡ after_turn v (on_piece v.state piece)
same_memory v new piece memory e = behind v new (on_piece v.state piece) memory e

-- ---- a round behind a piece

-- a node that goes on where a session is, before a round may begin
record IsTakenAt (opens : Bool) (rounds left : ℕ) (x : Session) (sent : List ℕ) (v : NodeView) : Type 0 where
  seen : IsSeen x sent v
  memory : v.out_of_memory ≡ false
  unended : v.state.ended ≡ None
  opener : opens ≡ is_opener v.state.config.role
  counted : x.begun + left ≡ rounds

round-at : (opens : Bool) (rounds left : ℕ) (x : Session) (sent : List ℕ) (v new : NodeView) (rest : ℕ) (done : Unit) → IsTakenAt opens rounds left x sent v → IsRoundBegun {E = OutOfMemory} v left new rest (Ok done) → IsAt opens rounds rest (session_with_round rounds x) sent new
unfolding IsRoundBegun
round-at opens rounds zero x sent v new rest done h r =
    let none : session_with_round rounds x ≡ x = round-none_left (nat_lt x.begun rounds) x (le-ltb x.begun rounds (omega (arith, h.counted))) in
    subst (λ (y : Session). IsAt opens rounds rest y sent new) (sym none)
    (subst (IsAt opens rounds rest x sent) (sym r.0) (record {
      state = h.seen.state;
      given = h.seen.given;
      memory = h.memory;
      unended = h.unended;
      opener = h.opener;
      counted = omega (arith, h.counted, r.1);
      busy = λ opens_is idle. r.1;
    }))
round-at opens rounds (suc k) x sent v new rest done h r =
    let left : nat_lt x.begun rounds ≡ true = lt-ltb x.begun rounds (omega (arith, h.counted)) in
    let seen = seen-round_left (nat_lt x.begun rounds) x sent v new left h.memory r.0 h.seen in
    let same = behind v new (on_start v.state).turn h.memory r.0 in
    let state : new.state ≡ (on_start v.state).turn.state = ap (λ (n : NodeView). n.state) same in
    let begun : (session_with_round rounds x).begun ≡ x.begun + count_of (on_start v.state).begun =
    begun-round_left (nat_lt x.begun rounds) x left ∙ ap (λ (s : NodeState). x.begun + count_of (on_start s).begun) (sym h.seen.state) in
    record {
      state = seen.state;
      given = seen.given;
      memory = ap (λ (n : NodeView). n.out_of_memory) same ∙ h.memory;
      unended = ap (λ (s : NodeState). s.ended) state ∙ (start-ended v.state ∙ h.unended);
      opener = h.opener ∙ ap (λ (c : Config). is_opener c.role) (sym (ap (λ (s : NodeState). s.config) state ∙ (on_start-later v.state).config));
      counted = omega (arith, begun, h.counted, r.1);
      busy = λ opens_is idle.
          let waiting : is_idle new.state.machine.phase ≡ false = ap (λ (s : NodeState). is_idle s.machine.phase) state ∙ start-busy v.state h.unended (sym h.opener ∙ opens_is) in
          absurd (cc);
    }

-- ---- whether a round began

pub begun-refused : (old new : NodeView) (left rest : ℕ) (e : OutOfMemory) → new ≡ old → IsRoundBegun old left new rest (Err e)
unfolding IsRoundBegun
begun-refused old new zero rest e same = same
begun-refused old new (suc k) rest e same = same

pub begun-none : (old new : NodeView) (left : ℕ) (done : Unit) → left ≡ 0 → new ≡ old → IsRoundBegun {E = OutOfMemory} old left new left (Ok done)
unfolding IsRoundBegun
begun-none old new zero done none same = (same, refl)
begun-none old new (suc k) done none same = absurd (omega arith)

pub begun-tried : (old new : NodeView) (left rest : ℕ) (done : Unit) (b : Bool) → 0 < left → new ≡ view_behind_start old → b ≡ (on_start old.state).begun → rest + count_of b ≡ left → IsRoundBegun {E = OutOfMemory} old left new rest (Ok done)
unfolding IsRoundBegun
begun-tried old new zero rest done b some e told count = absurd (omega arith)
begun-tried old new (suc k) rest done b some e told count = (e, ap (λ (c : Bool). rest + count_of c) (sym told) ∙ count)

pub begun-one : (old new : NodeView) (left : ℕ) (done : Unit) (b : Bool) → 0 < left → new ≡ view_behind_start old → b ≡ (on_start old.state).begun → b ≡ true → IsRoundBegun {E = OutOfMemory} old left new (left - 1) (Ok done)
unfolding count_of
begun-one old new left done b some e told is_one = begun-tried old new left (left - 1) done b some e told (let one : left - 1 + 1 ≡ left = omega arith in ap (λ (c : Bool). left - 1 + count_of c) is_one ∙ one)

pub begun-not : (old new : NodeView) (left : ℕ) (done : Unit) (b : Bool) → 0 < left → new ≡ view_behind_start old → b ≡ (on_start old.state).begun → b ≡ false → IsRoundBegun {E = OutOfMemory} old left new left (Ok done)
unfolding count_of
begun-not old new left done b some e told not_one = begun-tried old new left left done b some e told (let none : left + 0 ≡ left = omega arith in ap (λ (c : Bool). left + count_of c) not_one ∙ none)

pub round-refused : (old new : NodeView) (left rest : ℕ) (e : OutOfMemory) → IsRoundBegun old left new rest (Err e) → new ≡ old
unfolding IsRoundBegun
round-refused old new zero rest e r = r
round-refused old new (suc k) rest e r = r

-- ---- a piece

module _ (opens : Bool) (rounds : ℕ) (start : Session) (before told : Option Link) (ended : Bool) (v : NodeView) (left received : ℕ) (piece : List ℕ) (h : IsBeforePiece opens rounds start before told ended v left received piece) where
  abbrev at_front : Session
  at_front = session_at rounds start h.front

  abbrev behind_piece : Session
  behind_piece = session_after at_front (on_piece at_front.state piece)

  -- the session behind the piece
  now-is : session_at rounds start h.now ≡ session_with_round rounds behind_piece
  now-is = ap (λ (ps : List Piece). after_pieces rounds start (bytes_of_pieces ps)) h.pieces ∙ after_pieces-with rounds start h.front.pieces (record { bytes = piece; sent_before = length h.now.sent })

  seen-behind : (new : NodeView) → new ≡ view_behind_piece v piece → IsSeen behind_piece h.now.sent new
  seen-behind new e = seen-piece at_front h.now.sent v new piece h.at.memory e (record { state = h.at.state; given = h.at.given })

  config-behind : (new : NodeView) → new ≡ view_behind_piece v piece → new.state.config ≡ v.state.config
  config-behind new e = ap (λ (n : NodeView). n.state.config) (same_memory v new piece h.at.memory e) ∙ (on_piece-later v.state piece).config

  memory-behind : (new : NodeView) → new ≡ view_behind_piece v piece → new.out_of_memory ≡ false
  memory-behind new e = ap (λ (n : NodeView). n.out_of_memory) (same_memory v new piece h.at.memory e) ∙ h.at.memory

  opener-behind : (c : Config) → c ≡ v.state.config → opens ≡ is_opener c.role
  opener-behind c e = h.at.opener ∙ ap (λ (d : Config). is_opener d.role) (sym e)

  -- the node goes on, and a round began, where one may
  pub turn-taken : (new last : NodeView) (rest : ℕ) (done : Unit) → new ≡ view_behind_piece v piece → new.state.ended ≡ None → IsRoundBegun {E = OutOfMemory} new left last rest (Ok done) → IsStanding opens rounds start before told ended last rest received
  turn-taken new last rest done e unended r = record {
    now = h.now;
    since = h.since;
    input = h.input;
    going = h.going;
    at = subst (λ (y : Session). IsAt opens rounds rest y h.now.sent last) (sym now-is) (round-at opens rounds left behind_piece h.now.sent new last rest done (record {
      seen = seen-behind new e;
      memory = memory-behind new e;
      unended = unended;
      opener = opener-behind new.state.config (config-behind new e);
      counted = h.at.counted;
    }) r);
    in_time = h.in_time;
    counted = h.counted;
  }

  -- it has ended
  pub turn-refused : (new : NodeView) (e : End) → new ≡ view_behind_piece v piece → new.state.ended ≡ Some e → IsOver opens rounds start before told ended new (session_end.Refused e)
  unfolding IsAnsweredFor end_in is_input_over
  turn-refused new end e is_end =
      let seen = seen-behind new e in
      let last = seen-round_ended (nat_lt behind_piece.begun rounds) behind_piece h.now.sent new end (sym (ap (λ (s : NodeState). s.ended) seen.state) ∙ is_end) seen in
      let there = subst (λ (y : Session). IsSeen y h.now.sent new) (sym now-is) last in
      record {
        now = h.now;
        since = h.since;
        input = h.input ∙ sym h.going;
        in_time = h.in_time;
        most = omega (arith, h.counted, h.most);
        left = λ _. record {
          state = there.state;
          given = there.given;
          memory = memory-behind new e;
          cause = record {
            ended = is_end;
            front = h.front.pieces;
            refused = record { bytes = piece; sent_before = length h.now.sent };
            pieces = h.pieces;
            sent = sym (append-nil h.now.sent) ∙ (ap (λ o. h.now.sent ++ o) (sym h.all_sent) ∙ h.at.given);
          };
        };
        end = is_end;
        opener = opener-behind new.state.config (config-behind new e);
        input_by = h.going;
        busy = λ p same. absurd (cc);
      }

  -- memory was refused, in the piece or at the start of a round
  turn-starved : (new : NodeView) → new.state.ended ≡ None → new.state.config ≡ v.state.config → IsOver opens rounds start before told ended new session_end.OutOfMemory
  unfolding end_in is_input_over
  turn-starved new unended config = record {
    now = h.now;
    since = h.since;
    input = h.input ∙ sym h.going;
    in_time = h.in_time;
    most = omega (arith, h.counted, h.most);
    left = λ other. absurd (other refl);
    end = unended;
    opener = opener-behind new.state.config config;
    input_by = h.going;
    busy = λ p same. absurd (cc);
  }

  pub turn-starved_in_round : (new last : NodeView) → new ≡ view_behind_piece v piece → new.state.ended ≡ None → last ≡ new → IsOver opens rounds start before told ended last session_end.OutOfMemory
  turn-starved_in_round new last e unended same =
      subst (λ (n : NodeView). IsOver opens rounds start before told ended n session_end.OutOfMemory) (sym same) (turn-starved new unended (config-behind new e))

  starved_by : (b : Bool) (new : NodeView) → b ≡ false → IsStarvedBy b v piece new → IsOutOfMemoryIn v piece new
  unfolding IsStarvedBy
  starved_by true new e s = absurd (cc)
  starved_by false new e s = s

  pub turn-starved_in_piece : (new : NodeView) → IsStarvedBy v.out_of_memory v piece new → IsOver opens rounds start before told ended new session_end.OutOfMemory
  turn-starved_in_piece new s = let t = starved_by v.out_of_memory new h.at.memory s in turn-starved new t.unended t.config
