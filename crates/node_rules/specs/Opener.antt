-- The opener's machine of rounds (BIP 330, with this project's rules where that leaves them open).
use Rattle.std.specs.Prelude.{ℕ, zero, suc, ◌+◌, ◌*◌, ◌/◌, ◌%◌, ◌^◌, ◌==◌, ◌&&◌, nat_lt, nat_le, not, Bool, true, false, if◌then◌else◌, List, [], ◌∷◌, ◌++◌, length, Some, None, Ok, Err}
use Rattle.std.specs.declared.option.Option.{Option}
use Rattle.std.specs.declared.result.Result.{Result}
use Rattle.sketch_rules.specs.Answers.{answer_of}
use Rattle.sketch_rules.specs.Sketches.{sketch_sum, sums_in}
use Rattle.wire_rules.specs.declared.message.Message.{Message}
use Rattle.wire_rules.specs.declared.message.Message.TheVariants as message
use Rattle.wire_rules.specs.declared.name.Name.TheVariants as name
use Rattle.wire_rules.specs.declared.phase.Phase.{Phase}
use Rattle.wire_rules.specs.declared.phase.Phase.TheVariants as phase
use Rattle.pool_rules.specs.Capacity.{next_q, next_q_failed}
use Rattle.pool_rules.specs.Snapshots.{Member, ids_of, sketched_shorts, snapshot_sketch}
use Rattle.pool_rules.specs.declared.limits.TheConstants.{FIRST_LIMIT}
use Rattle.pool_rules.specs.declared.report.Ending.TheVariants as ending
use Rattle.node_rules.specs.Outcomes.{own_short_ids, missing_short_ids, announcement, report_of, after_round}
use Rattle.node_rules.specs.Stages.{waiting_phase, requested_extensions, answered_ending, capacity_after, is_idle}
use Rattle.node_rules.specs.State.{Round, Machine, Requests, Initiator, extensions_allowed}
use Rattle.node_rules.specs.Turns.{Move, inv_of}
use Rattle.node_rules.specs.declared.end.End.{End}
use Rattle.node_rules.specs.declared.end.End.TheVariants as end

-- ---- the start of a round

-- the machine behind the start of a round, and the message that starts it
pub record Start : Type 0 where
  pub initiator : Initiator
  pub message : Message

-- one more round is begun, modulo 2 ^ 64
abbrev pub one_more : Requests → Requests
one_more k = record k { begun = (k.begun + 1) % 2 ^ 64 }

abbrev pub with_round : Initiator → Phase → Initiator
with_round i next = record { machine = record i.machine { phase = next }; requests = one_more i.requests }

-- a request for the sketch of a set, where the own one has this size
abbrev pub round_start : Initiator → ℕ → Start
round_start i size = record { initiator = with_round i (waiting_phase 0); message = message.ReqRecon size i.requests.coefficient }

-- with a plain peer, the round's ping alone
abbrev pub plain_start : Initiator → Start
plain_start i = record { initiator = with_round i phase.Barrier; message = message.Ping (one_more i.requests).begun }

-- a round starts between rounds alone
unfoldable pub start_if : Bool → Start → Option Start
start_if true x = Some x
start_if false x = None

abbrev pub initiator_start : Initiator → ℕ → Option Start
initiator_start i size = start_if (is_idle i.machine.phase) (round_start i size)

abbrev pub initiator_plain_start : Initiator → Option Start
initiator_plain_start i = start_if (is_idle i.machine.phase) (plain_start i)

-- ---- the answer to a sketch

-- the peer's sums so far, with the snapshot that they are compared with: a first sketch takes the set, an extension goes on
unfoldable pub round_after_sketch : Machine → List Member → ℕ → List ℕ → Round
round_after_sketch m set zero bytes = record { snapshot = set; capacity = length bytes / 4; sums = sums_in bytes }
round_after_sketch m set (suc n) bytes = record m.round { sums = m.round.sums ++ sums_in bytes }

-- what is left of the set
unfoldable pub remaining_set : ℕ → List Member → List Member
remaining_set zero set = []
remaining_set (suc n) set = set

-- the sketch of the difference of both snapshots
abbrev pub difference_sketch : Round → List ℕ
difference_sketch r = sketch_sum r.sums (snapshot_sketch r.snapshot (length r.sums))

-- the sketch that is to be answered: none where the peer's is empty
abbrev pub question : Round → Option (List ℕ)
question r = if r.capacity == 0 then None else Some (difference_sketch r)

-- the set whose sketch that is, where some set has it
abbrev pub answer_to : Round → Option (List ℕ)
answer_to r = if r.capacity == 0 then None else answer_of (difference_sketch r)

-- the next coefficient behind an answer
abbrev pub coefficient_after : List Member → List ℕ → ℕ
coefficient_after snapshot es = next_q (length (own_short_ids snapshot es)) (length (missing_short_ids snapshot es)) (length (sketched_shorts snapshot))

-- the round is answered by a set, with n extensions: what is missing is asked for, what the peer lacks is announced
abbrev pub on_answer : Initiator → Round → ℕ → List ℕ → List Member → Move
on_answer i r n es set = record {
  initiator = record {
    machine = after_round i.machine phase.Barrier (report_of r (answered_ending n) es);
    requests = record i.requests { coefficient = coefficient_after r.snapshot es };
  };
  set = set;
  out = message.ReconcilDiff true (missing_short_ids r.snapshot es) ∷ (inv_of (announcement r.snapshot es) ++ message.Ping i.requests.begun ∷ []);
}

-- the round falls back: all is announced
abbrev pub on_fallback : Initiator → Round → List Member → Move
on_fallback i r set = record {
  initiator = record {
    machine = after_round i.machine phase.Barrier (report_of r ending.Fallback []);
    requests = record i.requests { coefficient = next_q_failed i.requests.coefficient };
  };
  set = set;
  out = message.ReconcilDiff false [] ∷ (inv_of (ids_of r.snapshot) ++ message.Ping i.requests.begun ∷ []);
}

-- one more extension is asked for
abbrev pub extension_request : Initiator → Round → ℕ → List Member → Move
extension_request i r n set = record {
  initiator = record i { machine = record i.machine { phase = waiting_phase (suc n); round = r } };
  set = set;
  out = message.ReqSketchExt ∷ [];
}

-- whether a sketch with n extensions may be extended
abbrev pub has_extension_left : Machine → Round → ℕ → Bool
has_extension_left m r n = not (r.capacity == 0) && nat_lt n (extensions_allowed m)

-- no set has the sketch: by whether it may be extended
unfoldable pub on_no_answer : Bool → Initiator → Round → ℕ → List Member → Move
on_no_answer true i r n set = extension_request i r n set
on_no_answer false i r n set = on_fallback i r set

-- by the set that has the sketch, where there is one
unfoldable pub on_decoding : Option (List ℕ) → Initiator → Round → ℕ → List Member → Move
on_decoding (Some es) i r n set = on_answer i r n es set
on_decoding None i r n set = on_no_answer (has_extension_left i.machine r n) i r n set

-- the same for the bytes of a sketch message
abbrev pub after_sketch : Option (List ℕ) → Initiator → List Member → ℕ → List ℕ → Move
after_sketch answer i set n bytes = on_decoding answer i (round_after_sketch i.machine set n bytes) n (remaining_set n set)

-- ---- the length of a sketch

-- how many bytes a first sketch may have
abbrev pub is_first_length : ℕ → Bool
is_first_length len = (len % 4 == 0) && nat_le len (4 * FIRST_LIMIT)

-- how many bytes extension n + 1 has
abbrev pub extension_length : ℕ → ℕ → ℕ
extension_length c n = 4 * capacity_after c n

unfoldable pub length_fault : Machine → ℕ → ℕ → Option End
length_fault m zero len = if is_first_length len then None else Some (end.SketchLength len 0)
length_fault m (suc n) len =
    if len == extension_length m.round.capacity n then None else Some (end.SketchLength len (extension_length m.round.capacity n))

abbrev pub value_or_fault : {A : Type 0} → Option End → A → Result A End
value_or_fault None x = Ok x
value_or_fault (Some e) x = Err e

-- ---- a sketch message

-- the question that a sketch message leads to, by the number of extensions that were asked for
unfoldable pub question_by : Option ℕ → Machine → List Member → List ℕ → Result (Option (List ℕ)) End
question_by None m set bytes = Err (end.Misplaced name.Sketch m.phase)
question_by (Some n) m set bytes = value_or_fault (length_fault m n (length bytes)) (question (round_after_sketch m set n bytes))

abbrev pub initiator_question : Machine → List Member → List ℕ → Result (Option (List ℕ)) End
initiator_question m set bytes = question_by (requested_extensions m.phase) m set bytes

-- what a sketch message does, by the answer to that question too
unfoldable pub sketch_by : Option (List ℕ) → Option ℕ → Initiator → List Member → List ℕ → Result Move End
sketch_by answer None i set bytes = Err (end.Misplaced name.Sketch i.machine.phase)
sketch_by answer (Some n) i set bytes = value_or_fault (length_fault i.machine n (length bytes)) (after_sketch answer i set n bytes)

abbrev pub answer_to_sketch : Option ℕ → Machine → List Member → List ℕ → Option (List ℕ)
answer_to_sketch None m set bytes = None
answer_to_sketch (Some n) m set bytes = answer_to (round_after_sketch m set n bytes)

-- a sketch
abbrev pub opener_sketch : Initiator → List Member → List ℕ → Result Move End
opener_sketch i set bytes = sketch_by (answer_to_sketch (requested_extensions i.machine.phase) i.machine set bytes) (requested_extensions i.machine.phase) i set bytes
