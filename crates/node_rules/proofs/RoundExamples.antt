-- Worked examples of rounds, one side at a time. Nothing computes the set that a sketch is of, so where a machine asks for
-- it the answer is handed in, and that it is an answer is computed beside it.
use Rattle.std.proofs.Common.{◌≡◌, ℕ, List, [], ◌∷◌, ◌++◌, refl, true, false, Some, None, Ok, Err, replicate, map, length, lit<, lit≤}
use Rattle.base_types.specs.declared.lists.Hash32.{Hash32}
use Rattle.sketch_rules.specs.Answers.{Answer, IsAscending}
use Rattle.wire_rules.specs.Layout.{payload_of}
use Rattle.wire_rules.specs.declared.message.Message.{Message}
use Rattle.wire_rules.specs.declared.message.Message.TheVariants as message
use Rattle.wire_rules.specs.declared.name.Name.TheVariants as name
use Rattle.wire_rules.specs.declared.phase.Phase.{Phase}
use Rattle.wire_rules.specs.declared.phase.Phase.TheVariants as phase
use Rattle.wire_rules.proofs.Samples.{streaming, hello_id, abc_id}
use Rattle.pool_rules.specs.Snapshots.{Member}
use Rattle.pool_rules.specs.declared.report.Ending.TheVariants as ending
use Rattle.pool_rules.specs.declared.report.Report.{Report}
use Rattle.node_rules.specs.State.{Machine, Initiator, Round, NodeState, no_round, first_requests}
use Rattle.node_rules.specs.Turns.{Move, Turn, entry}
use Rattle.node_rules.specs.Opener.{with_round, difference_sketch, round_after_sketch, sketch_by, opener_sketch}
use Rattle.node_rules.specs.Accepter.{accepter_diff, accepter_extension}
use Rattle.node_rules.specs.Steps.{on_start, on_message, on_messages}
use Rattle.node_rules.specs.declared.end.End.TheVariants as end
use Rattle.node_rules.proofs.Samples.{moving, stepping, new_opener, new_accepter, introduced, end_of}

-- a machine of the first level, and an opener's whole one that has begun a round
abbrev machine_in : Phase → Machine
machine_in p = record { phase = p; level = 1; round = no_round; reports = [] }

abbrev initiator_in : Machine → Initiator
initiator_in m = record { machine = m; requests = record { coefficient = 8192; begun = 1 } }

abbrev member : Hash32 → ℕ → Member
member id short = record { id = id; short = short }

abbrev other_id : Hash32
other_id = record { 0 = [] }

-- ---- the opener

-- an opener whose set has the short ids 1, 2 and 3
abbrev three : List Member
three = member hello_id 1 ∷ member abc_id 2 ∷ member other_id 3 ∷ []

abbrev after_start : Machine
after_start = machine_in phase.Waiting

begun : with_round (record { machine = machine_in phase.Idle; requests = first_requests }) phase.Waiting ≡ initiator_in after_start
begun = refl

-- its first sketch is 8 zero bytes. What both differ in has the sketch 0, 6, which is of no set of at most two elements
abbrev first : Round
first = record { snapshot = three; capacity = 2; sums = 0 ∷ 0 ∷ [] }

first_joined : round_after_sketch after_start three 0 (replicate 8 0) ≡ first
unfolding moving
first_joined = refl

first_combined : difference_sketch first ≡ 0 ∷ 6 ∷ []
unfolding moving
first_combined = refl

-- so an extension is asked for
abbrev extending : Machine
extending = record after_start { phase = phase.WaitingExt; round = first }

first_unanswered : sketch_by None (Some 0) (initiator_in after_start) three (replicate 8 0) ≡ Ok (record { initiator = initiator_in extending; set = []; out = message.ReqSketchExt ∷ [] })
unfolding moving
first_unanswered = refl

-- the extension is 8 zero bytes too. The whole sketch is answered by all three: nothing is asked for, all are announced
both_combined : difference_sketch (round_after_sketch extending [] 1 (replicate 8 0)) ≡ 0 ∷ 6 ∷ 0x12 ∷ 0x7e ∷ []
unfolding moving
both_combined = refl

three_answer : Answer 32 (0 ∷ 6 ∷ 0x12 ∷ 0x7e ∷ []) (1 ∷ 2 ∷ 3 ∷ [])
unfolding moving IsAscending
three_answer = record { rises = (lit≤ tt, lit< tt, (lit≤ tt, lit< tt, (lit≤ tt, lit< tt, tt))); few = lit≤ tt; sketched = refl }

abbrev three_report : Report
three_report = record { snapshot = hello_id ∷ abc_id ∷ other_id ∷ []; capacity = 2; ending = ending.Extension; answered = 1 ∷ 2 ∷ 3 ∷ [] }

extension_answered : sketch_by (Some (1 ∷ 2 ∷ 3 ∷ [])) (Some 1) (initiator_in extending) [] (replicate 8 0) ≡ Ok (record {
  initiator = record { machine = record (machine_in phase.Barrier) { reports = three_report ∷ [] }; requests = record { coefficient = 0; begun = 1 } };
  set = [];
  out = message.ReconcilDiff true [] ∷ message.Inv (entry hello_id ∷ entry abc_id ∷ entry other_id ∷ []) ∷ message.Ping 1 ∷ [];
})
unfolding moving
extension_answered = refl

-- an opener without members gets the sums 0, 1 and then 1, 1, which no set answers. At the first level the round falls back
abbrev empty_report : ℕ → Report
empty_report c = record { snapshot = []; capacity = c; ending = ending.Fallback; answered = [] }

abbrev empty_extending : Machine
empty_extending = record after_start { phase = phase.WaitingExt; round = record { snapshot = []; capacity = 2; sums = 0 ∷ 1 ∷ [] } }

empty_first : sketch_by None (Some 0) (initiator_in after_start) [] (0 ∷ 0 ∷ 0 ∷ 0 ∷ 1 ∷ 0 ∷ 0 ∷ 0 ∷ []) ≡ Ok (record { initiator = initiator_in empty_extending; set = []; out = message.ReqSketchExt ∷ [] })
unfolding moving
empty_first = refl

-- all is announced, which is nothing here, and the coefficient is raised
abbrev given_up : ℕ → ℕ → Move
given_up level c = record {
  initiator = record { machine = record (machine_in phase.Barrier) { level = level; reports = empty_report c ∷ [] }; requests = record { coefficient = 16385; begun = 1 } };
  set = [];
  out = message.ReconcilDiff false [] ∷ message.Ping 1 ∷ [];
}

on_fallback : sketch_by None (Some 1) (initiator_in empty_extending) [] (1 ∷ 0 ∷ 0 ∷ 0 ∷ 1 ∷ 0 ∷ 0 ∷ 0 ∷ []) ≡ Ok (given_up 1 2)
unfolding moving
on_fallback = refl

-- at the second level a second extension is asked for
abbrev second_level : Machine → Machine
second_level m = record m { level = 2 }

abbrev empty_second : Machine
empty_second = second_level (record after_start { phase = phase.WaitingExt2; round = record { snapshot = []; capacity = 2; sums = 0 ∷ 1 ∷ 1 ∷ 1 ∷ [] } })

second_asked : sketch_by None (Some 1) (initiator_in (second_level empty_extending)) [] (1 ∷ 0 ∷ 0 ∷ 0 ∷ 1 ∷ 0 ∷ 0 ∷ 0 ∷ []) ≡ Ok (record { initiator = initiator_in empty_second; set = []; out = message.ReqSketchExt ∷ [] })
unfolding moving
second_asked = refl

-- it has the sums 1, 1, 1, 0. All eight are those of six elements, the roots of (r^2 + r + 1)(r^4 + r^3 + 1)
abbrev six : List ℕ
six = 0x54fd1264 ∷ 0x54fd1265 ∷ 0x98110739 ∷ 0xbaa88a9e ∷ 0xccec155d ∷ 0xee5598fb ∷ []

six_combined : difference_sketch (round_after_sketch empty_second [] 2 (1 ∷ 0 ∷ 0 ∷ 0 ∷ 1 ∷ 0 ∷ 0 ∷ 0 ∷ 1 ∷ replicate 7 0)) ≡ 0 ∷ 1 ∷ 1 ∷ 1 ∷ 1 ∷ 1 ∷ 1 ∷ 0 ∷ []
unfolding moving
six_combined = refl

six_answer : Answer 32 (0 ∷ 1 ∷ 1 ∷ 1 ∷ 1 ∷ 1 ∷ 1 ∷ 0 ∷ []) six
unfolding moving IsAscending
six_answer = record { rises = (lit≤ tt, lit< tt, (lit≤ tt, lit< tt, (lit≤ tt, lit< tt, (lit≤ tt, lit< tt, (lit≤ tt, lit< tt, (lit≤ tt, lit< tt, tt)))))); few = lit≤ tt; sketched = refl }

second_answered : sketch_by (Some six) (Some 2) (initiator_in empty_second) [] (1 ∷ 0 ∷ 0 ∷ 0 ∷ 1 ∷ 0 ∷ 0 ∷ 0 ∷ 1 ∷ replicate 7 0) ≡ Ok (record {
  initiator = record {
    machine = second_level (record (machine_in phase.Barrier) { reports = record { snapshot = []; capacity = 2; ending = ending.Extension2; answered = six } ∷ [] });
    requests = record { coefficient = 0; begun = 1 };
  };
  set = [];
  out = message.ReconcilDiff true six ∷ message.Ping 1 ∷ [];
})
unfolding moving
second_answered = refl

-- a round that falls back behind it: the sums 0, 0, 1, 0 have no answer
second_unanswered : sketch_by None (Some 2) (initiator_in empty_second) [] (replicate 8 0 ++ 1 ∷ replicate 7 0) ≡ Ok (given_up 2 2)
unfolding moving
second_unanswered = refl

-- lengths: an extension of 4 bytes where 8 are due, a second one of 8 where 16 are, and first sketches of 5 and of 4,100
-- bytes, whatever the answer is
short_extension : opener_sketch (initiator_in empty_extending) [] (replicate 4 0) ≡ Err (end.SketchLength 4 8)
unfolding moving
short_extension = refl

short_second : opener_sketch (initiator_in empty_second) [] (replicate 8 0) ≡ Err (end.SketchLength 8 16)
unfolding moving
short_second = refl

ragged_first : opener_sketch (initiator_in after_start) [] (replicate 5 0) ≡ Err (end.SketchLength 5 0)
unfolding moving
ragged_first = refl

wide_first : opener_sketch (initiator_in after_start) [] (replicate 4100 0) ≡ Err (end.SketchLength 4100 0)
unfolding moving
wide_first = refl

-- an empty first sketch has no answer: all is announced at once, and the coefficient is raised
abbrev at_start : NodeState
at_start = (on_start (on_messages (new_opener []) (introduced 2)).state).turn.state

no_sketch : opener_sketch (initiator_in after_start) [] [] ≡ Ok (given_up 1 0)
unfolding moving
no_sketch = refl

-- the same in a node whose round has begun
request : (on_start (on_messages (new_opener []) (introduced 2)).state).turn.out ≡ message.ReqRecon 0 8192 ∷ []
unfolding stepping
request = refl

no_sketch_at_node : (on_message at_start (message.Sketch [])).out ≡ message.ReconcilDiff false [] ∷ message.Ping 1 ∷ []
unfolding stepping
no_sketch_at_node = refl

ragged_at_node : (on_message at_start (message.Sketch (replicate 5 0))).state.ended ≡ Some (end.SketchLength 5 0)
unfolding stepping
ragged_at_node = refl

-- messages for the accepter don't belong at an opener, and a sketch doesn't before a round
request_to_opener : (on_message at_start (message.ReqRecon 0 0)).state.ended ≡ Some (end.Misplaced name.ReqRecon phase.Waiting)
unfolding stepping
request_to_opener = refl

sketch_unasked : end_of (new_opener []) (introduced 2 ++ message.Sketch [] ∷ []) ≡ Some (end.Misplaced name.Sketch phase.Idle)
unfolding stepping
sketch_unasked = refl

-- the round's pong ends it; another number doesn't
behind_pong : (on_messages at_start (message.Sketch [] ∷ message.Pong 1 ∷ [])).state.machine.phase ≡ phase.Idle
unfolding stepping
behind_pong = refl

behind_other_pong : (on_messages at_start (message.Sketch [] ∷ message.Pong 2 ∷ [])).state.machine.phase ≡ phase.Barrier
unfolding stepping
behind_other_pong = refl

-- ---- the accepter

-- an accepter that has sent a sketch of a snapshot with the short ids 1 and 2
abbrev two : List Member
two = member hello_id 1 ∷ member abc_id 2 ∷ []

abbrev sketched : Machine
sketched = record (machine_in phase.Sent) { round = record { snapshot = two; capacity = 8; sums = [] } }

unknown : accepter_diff sketched true (9 ∷ []) ≡ Err (end.UnknownShortId 9)
unfolding moving
unknown = refl

repeated : accepter_diff sketched true (1 ∷ 1 ∷ 9 ∷ []) ≡ Err (end.AskRepeated 1)
unfolding moving
repeated = refl

unknown_between : accepter_diff sketched true (1 ∷ 9 ∷ 1 ∷ []) ≡ Err (end.UnknownShortId 9)
unfolding moving
unknown_between = refl

on_failure : accepter_diff sketched false (1 ∷ []) ≡ Err (end.AsksOnFailure 1)
unfolding moving
on_failure = refl

-- what is asked for is announced; and all, where the difference wasn't found
asked : accepter_diff sketched true (2 ∷ []) ≡ Ok (record {
  machine = record (machine_in phase.Idle) { reports = record { snapshot = hello_id ∷ abc_id ∷ []; capacity = 8; ending = ending.First; answered = 2 ∷ [] } ∷ [] };
  out = message.Inv (entry abc_id ∷ []) ∷ [];
})
unfolding moving
asked = refl

all : accepter_diff sketched false [] ≡ Ok (record {
  machine = record (machine_in phase.Idle) { reports = record { snapshot = hello_id ∷ abc_id ∷ []; capacity = 8; ending = ending.Fallback; answered = [] } ∷ [] };
  out = message.Inv (entry hello_id ∷ entry abc_id ∷ []) ∷ [];
})
unfolding moving
all = refl

-- an extension may be asked for behind a sketch: once at the first level, and twice at the second
extension_unasked : accepter_extension (machine_in phase.Idle) ≡ Err (end.Misplaced name.ReqSketchExt phase.Idle)
unfolding moving
extension_unasked = refl

extension_again : accepter_extension (machine_in phase.SentExt) ≡ Err (end.Misplaced name.ReqSketchExt phase.SentExt)
unfolding moving
extension_again = refl

-- an accepter whose snapshot has three members, at the second level: sketches of 32, 32 and 64 bytes, and then no more
abbrev three_asked : List Message → Turn
three_asked ms = on_messages (record (on_messages (new_accepter []) (introduced 1)).state { set = three }) (message.ReqRecon 3 0 ∷ ms)

abbrev sketch_lengths : List Message → List ℕ
sketch_lengths ms = map (λ m. length (payload_of m)) ms

twice_extended : (three_asked (replicate 2 message.ReqSketchExt)).state.machine.phase ≡ phase.SentExt2
unfolding stepping
twice_extended = refl

-- with the byte that tells how many there are
three_lengths : sketch_lengths (three_asked (replicate 2 message.ReqSketchExt)).out ≡ 33 ∷ 33 ∷ 65 ∷ []
unfolding stepping streaming
three_lengths = refl

thrice_extended : (three_asked (replicate 3 message.ReqSketchExt)).state.ended ≡ Some (end.Misplaced name.ReqSketchExt phase.SentExt2)
unfolding stepping
thrice_extended = refl

-- a request takes the set: the sketch of no members, of capacity 8, is 32 zero bytes
abbrev asked_once : NodeState
asked_once = (on_messages (new_accepter []) (introduced 1 ++ message.ReqRecon 0 0 ∷ [])).state

first_sketch : (on_message (on_messages (new_accepter []) (introduced 1)).state (message.ReqRecon 0 0)).out ≡ message.Sketch (replicate 32 0) ∷ []
unfolding stepping
first_sketch = refl

request_again : (on_message asked_once (message.ReqRecon 0 0)).state.ended ≡ Some (end.Misplaced name.ReqRecon phase.Sent)
unfolding stepping
request_again = refl

unknown_at_node : (on_message asked_once (message.ReconcilDiff true (9 ∷ []))).state.ended ≡ Some (end.UnknownShortId 9)
unfolding stepping
unknown_at_node = refl

failure_at_node : (on_message asked_once (message.ReconcilDiff false (1 ∷ []))).state.ended ≡ Some (end.AsksOnFailure 1)
unfolding stepping
failure_at_node = refl
