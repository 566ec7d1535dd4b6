-- Two rounds of two nodes, with deliveries that cut a frame and additions while a round is under way: what is added before
-- the sketch arrives belongs to the first round, what is added behind the snapshot to the second.
use Rattle.std.proofs.Common.{◌≡◌, ℕ, List, [], ◌∷◌, ◌++◌, refl, sym, ap, subst, ◌∙◌, true, false, Option, Some, lit<, lit≤}
use Rattle.field_laws.proofs.Certified32.{certificate_32}
use Rattle.sketch_rules.specs.Answers.{Answer, IsAscending, answer_of}
use Rattle.sketch_laws.proofs.Unique.{answer_at-exactly}
use Rattle.wire_rules.specs.Layout.{wire_bytes}
use Rattle.wire_rules.specs.declared.message.Message.{Message}
use Rattle.wire_rules.specs.declared.message.Message.TheVariants as message
use Rattle.wire_rules.specs.declared.phase.Phase.TheVariants as phase
use Rattle.wire_rules.proofs.Samples.{magic}
use Rattle.pool_rules.specs.declared.report.Ending.TheVariants as ending
use Rattle.pool_rules.specs.declared.report.Report.{Report}
use Rattle.node_rules.specs.Accepter.{first_portion}
use Rattle.node_rules.specs.State.{NodeState, no_round}
use Rattle.node_rules.specs.Turns.{entry}
use Rattle.node_rules.proofs.Samples.{new_opener, new_accepter}
use Rattle.pair_rules.specs.Rounds.{IsFinished}
use Rattle.pair_rules.specs.World.{World, Effect, run, run_from, unless_ended, effect_of, effect_sequence, deliveries}
use Rattle.pair_rules.specs.declared.event.Event.{Event}
use Rattle.pair_rules.specs.declared.event.Event.TheVariants as event
use Rattle.pair_rules.proofs.Runs.{run_from-append}
use Rattle.pair_rules.proofs.RoundExample.{hello, abc, hello_member, abc_member, introduced}
use Rattle.pair_rules.proofs.Samples.{happening, new_pair, drain, sketch_effect}

abbrev all : ℕ
all = 18446744073709551615

-- ---- up to the first sketch: the request comes in two pieces, and then the opener gets a transaction

abbrev to_first : List Event
to_first = drain ++ event.Round ∷ event.DeliverAb 24 ∷ event.DeliverAb 4 ∷ event.AddA hello.bytes ∷ []

abbrev first_a : NodeState
first_a = record (introduced (new_opener (hello ∷ [])) 2) {
  machine = record { phase = phase.Waiting; level = 2; round = no_round; reports = [] };
  requests = record { coefficient = 8192; begun = 1 };
  set = hello_member ∷ [];
  inbox = record { unread = []; offset = 203 };
}

abbrev first_b : NodeState
first_b = record (introduced (new_accepter []) 1) {
  machine = record { phase = phase.Sent; level = 2; round = record { snapshot = []; capacity = 8; sums = [] }; reports = [] };
  requests = record { coefficient = 8192; begun = 0 };
  inbox = record { unread = []; offset = 231 };
}

-- the sketch of no members
abbrev first_frame : List ℕ
first_frame =
    249 ∷ 190 ∷ 180 ∷ 217 ∷ 115 ∷ 107 ∷ 101 ∷ 116 ∷ 99 ∷ 104 ∷ 0 ∷ 0 ∷ 0 ∷ 0 ∷ 0 ∷ 0 ∷ 33 ∷ 0 ∷ 0 ∷ 0 ∷ 127 ∷ 38 ∷
    42 ∷ 67 ∷ 32 ∷ 0 ∷ 0 ∷ 0 ∷ 0 ∷ 0 ∷ 0 ∷ 0 ∷ 0 ∷ 0 ∷ 0 ∷ 0 ∷ 0 ∷ 0 ∷ 0 ∷ 0 ∷ 0 ∷ 0 ∷ 0 ∷ 0 ∷ 0 ∷ 0 ∷ 0 ∷ 0 ∷ 0 ∷
    0 ∷ 0 ∷ 0 ∷ 0 ∷ 0 ∷ 0 ∷ 0 ∷ 0 ∷ []

abbrev at_first : World
at_first = record { a = first_a; b = first_b; ab = []; ba = first_frame }

begins : (run new_pair to_first).world ≡ at_first
unfolding happening
begins = refl

-- ---- it is answered by the opener's transaction

abbrev hello_sums : List ℕ
hello_sums = 0xd977c38b ∷ 0x709b5f42 ∷ 0xaca6b509 ∷ 0xc00cd09d ∷ 0x2d1862ce ∷ 0xf3817eaf ∷ 0x888266fb ∷ 0xfdb46861 ∷ []

hello_answer : Answer 32 hello_sums (0xd977c38b ∷ [])
unfolding happening IsAscending
hello_answer = record { rises = (lit≤ tt, lit< tt, tt); few = lit≤ tt; sketched = refl }

abbrev first_read : NodeState
first_read = record first_a { inbox = record { unread = []; offset = 260 } }

abbrev first_by : Option (List ℕ) → Effect
first_by answer = sketch_effect first_read first_b (first_portion first_b.machine.round) answer

first_arrives : effect_of at_first (event.DeliverBa 1000) ≡ first_by (answer_of hello_sums)
unfolding happening
first_arrives = refl

abbrev first_said : List Message
first_said = message.ReconcilDiff true [] ∷ message.Inv (entry hello.id ∷ []) ∷ message.Ping 1 ∷ []

abbrev first_report_a : Report
first_report_a = record { snapshot = hello.id ∷ []; capacity = 8; ending = ending.First; answered = 0xd977c38b ∷ [] }

abbrev answered_a : NodeState
answered_a = record first_read {
  machine = record { phase = phase.Barrier; level = 2; round = no_round; reports = first_report_a ∷ [] };
  requests = record { coefficient = 0; begun = 1 };
  set = [];
}

abbrev first_answered : Effect
first_answered = record { world = record { a = answered_a; b = first_b; ab = wire_bytes magic first_said; ba = [] }; by_a = first_said; by_b = []; full = 0 }

first_answers : first_by (Some (0xd977c38b ∷ [])) ≡ first_answered
unfolding happening
first_answers = refl

-- ---- up to the second sketch: the accepter gets a transaction, the first round ends, and the second begins

abbrev to_second : List Event
to_second = event.AddB abc.bytes ∷ drain ++ event.Round ∷ event.DeliverAb all ∷ []

abbrev first_report_b : Report
first_report_b = record { snapshot = []; capacity = 8; ending = ending.First; answered = [] }

abbrev second_a : NodeState
second_a = record (introduced (new_opener (hello ∷ [])) 2) {
  machine = record { phase = phase.Waiting; level = 2; round = no_round; reports = first_report_a ∷ [] };
  requests = record { coefficient = 0; begun = 2 };
  wants = record { wanted = []; asked = []; served = hello.id ∷ [] };
  inbox = record { unread = []; offset = 353 };
}

abbrev second_b : NodeState
second_b = record (introduced (new_accepter (abc ∷ hello ∷ [])) 1) {
  machine = record { phase = phase.Sent; level = 2; round = record { snapshot = abc_member ∷ []; capacity = 8; sums = [] }; reports = first_report_b ∷ [] };
  requests = record { coefficient = 8192; begun = 0 };
  inbox = record { unread = []; offset = 407 };
}

-- the sketch of the accepter's transaction
abbrev second_frame : List ℕ
second_frame =
    249 ∷ 190 ∷ 180 ∷ 217 ∷ 115 ∷ 107 ∷ 101 ∷ 116 ∷ 99 ∷ 104 ∷ 0 ∷ 0 ∷ 0 ∷ 0 ∷ 0 ∷ 0 ∷ 33 ∷ 0 ∷ 0 ∷ 0 ∷ 206 ∷ 144 ∷
    52 ∷ 55 ∷ 32 ∷ 91 ∷ 135 ∷ 115 ∷ 125 ∷ 135 ∷ 147 ∷ 224 ∷ 243 ∷ 126 ∷ 189 ∷ 134 ∷ 12 ∷ 75 ∷ 41 ∷ 64 ∷ 49 ∷ 109 ∷
    233 ∷ 243 ∷ 182 ∷ 140 ∷ 17 ∷ 73 ∷ 52 ∷ 170 ∷ 162 ∷ 41 ∷ 114 ∷ 103 ∷ 206 ∷ 147 ∷ 153 ∷ []

abbrev at_second : World
at_second = record { a = second_a; b = second_b; ab = []; ba = second_frame }

goes_on : (run first_answered.world to_second).world ≡ at_second
unfolding happening
goes_on = refl

-- ---- it is answered by the accepter's transaction

abbrev abc_sums : List ℕ
abc_sums = 0x7d73875b ∷ 0xf3e09387 ∷ 0x0c86bd7e ∷ 0x3140294b ∷ 0xb6f3e96d ∷ 0x3449118c ∷ 0x7229a2aa ∷ 0x9993ce67 ∷ []

abc_answer : Answer 32 abc_sums (0x7d73875b ∷ [])
unfolding happening IsAscending
abc_answer = record { rises = (lit≤ tt, lit< tt, tt); few = lit≤ tt; sketched = refl }

abbrev second_read : NodeState
second_read = record second_a { inbox = record { unread = []; offset = 410 } }

abbrev second_by : Option (List ℕ) → Effect
second_by answer = sketch_effect second_read second_b (first_portion second_b.machine.round) answer

second_arrives : effect_of at_second (event.DeliverBa all) ≡ second_by (answer_of abc_sums)
unfolding happening
second_arrives = refl

abbrev second_said : List Message
second_said = message.ReconcilDiff true (0x7d73875b ∷ []) ∷ message.Ping 2 ∷ []

abbrev second_report_a : Report
second_report_a = record { snapshot = []; capacity = 8; ending = ending.First; answered = 0x7d73875b ∷ [] }

abbrev again_a : NodeState
again_a = record second_read {
  machine = record { phase = phase.Barrier; level = 2; round = no_round; reports = first_report_a ∷ second_report_a ∷ [] };
  requests = record { coefficient = 0; begun = 2 };
}

abbrev second_answered : Effect
second_answered = record { world = record { a = again_a; b = second_b; ab = wire_bytes magic second_said; ba = [] }; by_a = second_said; by_b = []; full = 0 }

second_answers : second_by (Some (0x7d73875b ∷ [])) ≡ second_answered
unfolding happening
second_answers = refl

-- ---- the end of both rounds

abbrev second_report_b : Report
second_report_b = record { snapshot = abc.id ∷ []; capacity = 8; ending = ending.First; answered = 0x7d73875b ∷ [] }

abbrev last_a : NodeState
last_a = record (introduced (new_opener (hello ∷ abc ∷ [])) 2) {
  machine = record { phase = phase.Idle; level = 2; round = no_round; reports = first_report_a ∷ second_report_a ∷ [] };
  requests = record { coefficient = 0; begun = 2 };
  wants = record { wanted = []; asked = []; served = hello.id ∷ [] };
  inbox = record { unread = []; offset = 530 };
}

abbrev last_b : NodeState
last_b = record (introduced (new_accepter (abc ∷ hello ∷ [])) 1) {
  machine = record { phase = phase.Idle; level = 2; round = no_round; reports = first_report_b ∷ second_report_b ∷ [] };
  requests = record { coefficient = 8192; begun = 0 };
  wants = record { wanted = []; asked = []; served = abc.id ∷ [] };
  inbox = record { unread = []; offset = 530 };
}

abbrev pub two_rounds : World
two_rounds = record { a = last_a; b = last_b; ab = []; ba = [] }

ends : (run second_answered.world (deliveries 15)).world ≡ two_rounds
unfolding happening
ends = refl

-- ---- the whole script

abbrev from_second : List Event
from_second = event.DeliverBa all ∷ deliveries 15

abbrev from_first : List Event
from_first = event.DeliverBa 1000 ∷ (to_second ++ from_second)

abbrev pub script : List Event
script = to_first ++ from_first

-- the first of two parts of a run is its first event
one_event : (e : Event) (es : List Event) (w : World) → unless_ended false w (effect_of w e) (run_from es) ≡ effect_sequence (effect_of w e) (run_from es (effect_of w e).world)
unfolding unless_ended
one_event e es w = refl

by_second : answer_of abc_sums ≡ Some (0x7d73875b ∷ []) → (run_from from_second at_second).world ≡ two_rounds
unfolding run_from
by_second h =
    ap (λ (x : Effect). x.world) (one_event (event.DeliverBa all) (deliveries 15) at_second)
    ∙ (ap (λ (x : Effect). (run_from (deliveries 15) x.world).world) (second_arrives ∙ ap second_by h ∙ second_answers) ∙ ends)

by_first : answer_of hello_sums ≡ Some (0xd977c38b ∷ []) → answer_of abc_sums ≡ Some (0x7d73875b ∷ []) → (run_from from_first at_first).world ≡ two_rounds
unfolding run_from
by_first g h =
    ap (λ (x : Effect). x.world) (one_event (event.DeliverBa 1000) (to_second ++ from_second) at_first)
    ∙ (ap (λ (x : Effect). (run_from (to_second ++ from_second) x.world).world) (first_arrives ∙ ap first_by g ∙ first_answers)
    ∙ (run_from-append to_second from_second first_answered.world
    ∙ (ap (λ w. (run_from from_second w).world) goes_on ∙ by_second h)))

-- a sketch has one answer
first_answer_found : answer_of hello_sums ≡ Some (0xd977c38b ∷ [])
first_answer_found = (answer_at-exactly 32 certificate_32 hello_sums (0xd977c38b ∷ [])).1 hello_answer

second_answer_found : answer_of abc_sums ≡ Some (0x7d73875b ∷ [])
second_answer_found = (answer_at-exactly 32 certificate_32 abc_sums (0x7d73875b ∷ [])).1 abc_answer

pub whole : (run new_pair script).world ≡ two_rounds
whole = run_from-append to_first from_first new_pair ∙ (ap (λ w. (run_from from_first w).world) begins ∙ by_first first_answer_found second_answer_found)

-- both rounds hold, whether or not they fit
finished : IsFinished two_rounds
unfolding happening
finished = record {
  quiet_a = record { idle = refl; nothing_unread = refl; nothing_wanted = refl };
  quiet_b = record { idle = refl; nothing_unread = refl; nothing_wanted = refl };
  rounds = ((λ fits. record { of_a = (record { a = refl; b = refl }, tt); of_b = tt }), ((λ fits. record { of_a = tt; of_b = (record { a = refl; b = refl }, tt) }), tt));
  begun = refl;
}

script_finishes : IsFinished (run new_pair script).world
script_finishes = subst IsFinished (sym whole) finished
