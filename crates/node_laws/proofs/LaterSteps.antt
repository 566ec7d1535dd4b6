-- Pool and reports only grow, and the configuration stays: pieces of bytes, additions and the start of a round.
use Rattle.std.proofs.Common.{ℕ, zero, suc, Bool, true, false, List, [], ◌∷◌, Option, Some, None, Result, Ok, Err, refl, sym, append-nil, is_some, length}
use Rattle.base_types.specs.declared.lists.Hash32.{Hash32}
use Rattle.wire_rules.specs.Reading.{message_of}
use Rattle.wire_rules.specs.Stream.{Front, PartialFrame, WholeFrame, FaultyFrame, front_of}
use Rattle.wire_rules.specs.declared.faults.PayloadFault.{PayloadFault}
use Rattle.wire_rules.specs.declared.message.Message.{Message}
use Rattle.pool_rules.specs.Pools.{Transaction, transaction_of, is_listed, is_in_pool}
use Rattle.node_rules.specs.Additions.{after_addition_by, after_addition, with_pooled, on_addition_by, on_addition, is_full}
use Rattle.node_rules.specs.Stages.{is_idle, is_after_handshake}
use Rattle.node_rules.specs.State.{NodeState, open_wants}
use Rattle.node_rules.specs.Steps.{on_message, on_messages, next_unless_ended, at_message, at_front, on_frames, on_unread, without_unread_by, with_piece, on_piece_by, on_piece, after_frame, round_by, on_start_by, on_start}
use Rattle.node_rules.specs.Turns.{Turn, refusal}
use Rattle.node_rules.specs.declared.config.Role.{Role}
use Rattle.node_rules.specs.declared.config.Role.TheVariants as role
use Rattle.node_rules.specs.declared.end.End.{End}
use Rattle.node_rules.specs.declared.end.End.TheVariants as end
use Rattle.node_laws.specs.Later.{IsLater}
use Rattle.node_laws.proofs.Rows.{later_same, later_both, on_message-step}

same_state : (s : NodeState) → IsLater s s
same_state s = later_same s s refl refl refl

pub on_message-later : (s : NodeState) (m : Message) → IsLater s (on_message s m).state
on_message-later s m = (on_message-step s s.inbox m).later

-- ---- a piece of bytes

next_unless_ended-later : (e : Option End) (s : NodeState) (t : Turn) (next : NodeState → Turn) → IsLater s t.state → ((u : NodeState) → IsLater u (next u).state) → IsLater s (next_unless_ended e t next).state
unfolding next_unless_ended
next_unless_ended-later (Some e) s t next first later = first
next_unless_ended-later None s t next first later = later_both s t.state (next t.state).state first (later t.state)

pub on_messages-later : (s : NodeState) (ms : List Message) → IsLater s (on_messages s ms).state
unfolding on_messages
on_messages-later s [] = same_state s
on_messages-later s (m ∷ ms) = next_unless_ended-later (on_message s m).state.ended s (on_message s m) (λ u. on_messages u ms) (on_message-later s m) (λ u. on_messages-later u ms)

at_message-later : (r : Result Message PayloadFault) (s : NodeState) (next : NodeState → Turn) → ((u : NodeState) → IsLater u (next u).state) → IsLater s (at_message r s next).state
unfolding at_message
at_message-later (Ok m) s next later = next_unless_ended-later (on_message s m).state.ended s (on_message s m) next (on_message-later s m) later
at_message-later (Err f) s next later = later_same s (refusal s (end.Payload f)).state refl refl refl

-- what has been received has no part in it
from_unread : (s : NodeState) (size : ℕ) (u : NodeState) → IsLater (after_frame s size) u → IsLater s u
from_unread s size u l = record { config = l.config; new_held = l.new_held; pool = l.pool; new_reports = l.new_reports; reports = l.reports }

at_front-later : (front : Front) (s : NodeState) (next : NodeState → Turn) → ((u : NodeState) → IsLater u (next u).state) → IsLater s (at_front front s next).state
unfolding at_front
at_front-later PartialFrame s next later = same_state s
at_front-later (FaultyFrame f) s next later = later_same s (refusal s (end.Frame f)).state refl refl refl
at_front-later (WholeFrame frame size) s next later =
    from_unread s size (at_message (message_of frame) (after_frame s size) next).state (at_message-later (message_of frame) (after_frame s size) next later)

pub on_frames-later : (n : ℕ) (s : NodeState) → IsLater s (on_frames n s).state
unfolding on_frames
on_frames-later zero s = same_state s
on_frames-later (suc n) s = at_front-later (front_of s.config.magic s.inbox.offset s.inbox.unread) s (on_frames n) (on_frames-later n)

without_unread_by-later : (e : Option End) (s : NodeState) (t : Turn) → IsLater s t.state → IsLater s (without_unread_by e t).state
unfolding without_unread_by
without_unread_by-later (Some e) s t l = record { config = l.config; new_held = l.new_held; pool = l.pool; new_reports = l.new_reports; reports = l.reports }
without_unread_by-later None s t l = l

on_piece_by-later : (e : Option End) (s : NodeState) (piece : List ℕ) → IsLater s (on_piece_by e s piece).state
unfolding on_piece_by
on_piece_by-later (Some e) s piece = same_state s
on_piece_by-later None s piece =
    let t = on_unread (with_piece s piece) in
    let l = without_unread_by-later t.state.ended (with_piece s piece) t (on_frames-later (length (with_piece s piece).inbox.unread) (with_piece s piece)) in
    record { config = l.config; new_held = l.new_held; pool = l.pool; new_reports = l.new_reports; reports = l.reports }

pub on_piece-later : (s : NodeState) (piece : List ℕ) → IsLater s (on_piece s piece).state
on_piece-later s piece = on_piece_by-later s.ended s piece

-- ---- an addition

after_addition_by-later : (open_want past plain : Bool) (s : NodeState) (id : Hash32) → IsLater s (after_addition_by open_want past plain s id).state
unfolding after_addition_by
after_addition_by-later true past plain s id = same_state s
after_addition_by-later false false plain s id = same_state s
after_addition_by-later false true true s id = same_state s
after_addition_by-later false true false s id = later_same s (after_addition_by false true false s id).state refl refl refl

after_addition-later : (s : NodeState) (t : Transaction) → IsLater s (after_addition s t).state
after_addition-later s t = later_both s (with_pooled s t) (after_addition s t).state
    (record { config = refl; new_held = t ∷ []; pool = refl; new_reports = []; reports = sym (append-nil s.machine.reports) })
    (after_addition_by-later (is_listed (open_wants s) t.id) (is_after_handshake s.machine.phase) s.plain (with_pooled s t) t.id)

on_addition_by-later : (ended present full : Bool) (s : NodeState) (t : Transaction) → IsLater s (on_addition_by ended present full s t).turn.state
unfolding on_addition_by
on_addition_by-later true present full s t = same_state s
on_addition_by-later false true full s t = same_state s
on_addition_by-later false false true s t = same_state s
on_addition_by-later false false false s t = after_addition-later s t

pub on_addition-later : (s : NodeState) (tx : List ℕ) → IsLater s (on_addition s tx).turn.state
on_addition-later s tx = on_addition_by-later (is_some s.ended) (is_in_pool s.pool (transaction_of tx).id) (is_full s (transaction_of tx)) s (transaction_of tx)

-- ---- the start of a round

round_by-later : (plain : Bool) (s : NodeState) → IsLater s (round_by plain s).state
unfolding round_by
round_by-later false s = later_same s (round_by false s).state refl refl refl
round_by-later true s = later_same s (round_by true s).state refl refl refl

on_start_by-later : (e : Option End) (r : Role) (idle : Bool) (s : NodeState) → IsLater s (on_start_by e r idle s).turn.state
unfolding on_start_by
on_start_by-later None role.Opener true s = round_by-later s.plain s
on_start_by-later None role.Opener false s = same_state s
on_start_by-later None role.Accepter idle s = same_state s
on_start_by-later (Some e) r idle s = same_state s

pub on_start-later : (s : NodeState) → IsLater s (on_start s).turn.state
on_start-later s = on_start_by-later s.ended s.config.role (is_idle s.machine.phase) s
