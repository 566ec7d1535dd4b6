-- A whole round of two nodes that have one transaction each, up to what the headline says of the world that is left.
-- Nothing computes the set that a sketch is of: that the difference is an answer to the sketch is computed, and a sketch
-- has one answer. The worlds are written out, so that each step computes from plain values.
use Rattle.std.proofs.Common.{◌≡◌, ℕ, List, [], ◌∷◌, ◌++◌, refl, sym, ap, subst, ◌∙◌, true, true≢false, ◌==◌, Option, Some, inr, lit<, lit≤}
use Rattle.field_laws.proofs.Certified32.{certificate_32}
use Rattle.sketch_rules.specs.Answers.{Answer, IsAscending, answer_of}
use Rattle.sketch_laws.proofs.Unique.{answer_at-exactly}
use Rattle.wire_rules.specs.Layout.{wire_bytes}
use Rattle.wire_rules.specs.declared.message.Message.{Message}
use Rattle.wire_rules.specs.declared.message.Message.TheVariants as message
use Rattle.wire_rules.specs.declared.phase.Phase.TheVariants as phase
use Rattle.wire_rules.proofs.Samples.{magic}
use Rattle.pool_rules.specs.Pools.{Transaction}
use Rattle.pool_rules.specs.Snapshots.{Member}
use Rattle.pool_rules.specs.declared.report.Ending.TheVariants as ending
use Rattle.pool_rules.specs.declared.report.Report.{Report}
use Rattle.node_rules.specs.Accepter.{first_portion}
use Rattle.node_rules.specs.State.{NodeState, no_round}
use Rattle.node_rules.specs.Turns.{entry}
use Rattle.node_rules.proofs.Samples.{new_opener, new_accepter}
use Rattle.pair_rules.specs.Rounds.{IsReconcilable, HasBothSnapshots, IsFinished, pair_keys}
use Rattle.pair_rules.specs.World.{World, Effect, IsDrained, run, run_from, unless_ended, effect_of, effect_sequence, deliveries}
use Rattle.pair_rules.specs.declared.event.Event.{Event}
use Rattle.pair_rules.specs.declared.event.Event.TheVariants as event
use Rattle.pair_rules.proofs.Runs.{run_from-append}
use Rattle.pair_rules.proofs.Samples.{happening, new_pair, drain, sketch_effect}

abbrev all : ℕ
all = 18446744073709551615

-- ---- the transactions of the bytes of 'hello' and 'abc', and their short ids under the salts 1 and 2

abbrev pub hello : Transaction
hello = record {
  bytes = 104 ∷ 101 ∷ 108 ∷ 108 ∷ 111 ∷ [];
  id = record {
    0 =
        149 ∷ 149 ∷ 201 ∷ 223 ∷ 144 ∷ 7 ∷ 81 ∷ 72 ∷ 235 ∷ 6 ∷ 134 ∷ 3 ∷ 101 ∷ 223 ∷ 51 ∷ 88 ∷ 75 ∷ 117 ∷ 191 ∷ 247 ∷
        130 ∷ 165 ∷ 16 ∷ 198 ∷ 205 ∷ 72 ∷ 131 ∷ 164 ∷ 25 ∷ 131 ∷ 61 ∷ 80 ∷ [];
  };
}

abbrev pub abc : Transaction
abc = record {
  bytes = 97 ∷ 98 ∷ 99 ∷ [];
  id = record {
    0 =
        79 ∷ 139 ∷ 66 ∷ 194 ∷ 45 ∷ 211 ∷ 114 ∷ 155 ∷ 81 ∷ 155 ∷ 166 ∷ 246 ∷ 141 ∷ 45 ∷ 167 ∷ 204 ∷ 91 ∷ 45 ∷ 96 ∷ 109 ∷
        5 ∷ 218 ∷ 237 ∷ 90 ∷ 213 ∷ 18 ∷ 140 ∷ 192 ∷ 62 ∷ 108 ∷ 99 ∷ 88 ∷ [];
  };
}

abbrev pub hello_member : Member
hello_member = record { id = hello.id; short = 0xd977c38b }

abbrev pub abc_member : Member
abc_member = record { id = abc.id; short = 0x7d73875b }

-- a node behind the handshake
abbrev pub introduced : NodeState → ℕ → NodeState
introduced s salt = record s { peer = record { relays_by_id = true; offer = Some (record { version = 2; salt = salt }) } }

-- ---- up to the sketch: both get their transaction, the handshake is over, a round is begun and its request delivered

abbrev to_the_sketch : List Event
to_the_sketch = event.AddA hello.bytes ∷ event.AddB abc.bytes ∷ drain ++ event.Round ∷ event.DeliverAb all ∷ []

abbrev waiting_a : NodeState
waiting_a = record (introduced (new_opener (hello ∷ [])) 2) {
  machine = record { phase = phase.Waiting; level = 2; round = no_round; reports = [] };
  requests = record { coefficient = 8192; begun = 1 };
  set = hello_member ∷ [];
  inbox = record { unread = []; offset = 203 };
}

abbrev sent_b : NodeState
sent_b = record (introduced (new_accepter (abc ∷ [])) 1) {
  machine = record { phase = phase.Sent; level = 2; round = record { snapshot = abc_member ∷ []; capacity = 8; sums = [] }; reports = [] };
  requests = record { coefficient = 8192; begun = 0 };
  inbox = record { unread = []; offset = 231 };
}

-- the accepter's sketch, of capacity 8, as its frame
abbrev sketch_frame : List ℕ
sketch_frame =
    249 ∷ 190 ∷ 180 ∷ 217 ∷ 115 ∷ 107 ∷ 101 ∷ 116 ∷ 99 ∷ 104 ∷ 0 ∷ 0 ∷ 0 ∷ 0 ∷ 0 ∷ 0 ∷ 33 ∷ 0 ∷ 0 ∷ 0 ∷ 206 ∷ 144 ∷
    52 ∷ 55 ∷ 32 ∷ 91 ∷ 135 ∷ 115 ∷ 125 ∷ 135 ∷ 147 ∷ 224 ∷ 243 ∷ 126 ∷ 189 ∷ 134 ∷ 12 ∷ 75 ∷ 41 ∷ 64 ∷ 49 ∷ 109 ∷
    233 ∷ 243 ∷ 182 ∷ 140 ∷ 17 ∷ 73 ∷ 52 ∷ 170 ∷ 162 ∷ 41 ∷ 114 ∷ 103 ∷ 206 ∷ 147 ∷ 153 ∷ []

abbrev at_sketch : World
at_sketch = record { a = waiting_a; b = sent_b; ab = []; ba = sketch_frame }

begins : (run new_pair to_the_sketch).world ≡ at_sketch
unfolding happening
begins = refl

-- ---- the answer: the short ids of both transactions, ascending. Their sums are those of the difference

abbrev difference_sums : List ℕ
difference_sums =
    0xa40444d0 ∷ 0x837bccc5 ∷ 0xa0200877 ∷ 0xf14cf9d6 ∷ 0x9beb8ba3 ∷ 0xc7c86f23 ∷ 0xfaabc451 ∷ 0x6427a606 ∷ []

abbrev pub both : List ℕ
both = 0x7d73875b ∷ 0xd977c38b ∷ []

both_answer : Answer 32 difference_sums both
unfolding happening IsAscending
both_answer = record { rises = (lit≤ tt, lit< tt, (lit≤ tt, lit< tt, tt)); few = lit≤ tt; sketched = refl }

-- ---- the sketch arrives: the opener asks for the accepter's transaction and announces its own

abbrev read_a : NodeState
read_a = record waiting_a { inbox = record { unread = []; offset = 260 } }

abbrev sketch_bytes : List ℕ
sketch_bytes = first_portion sent_b.machine.round

-- the opener's step, by what its sketch is answered by
abbrev effect_by : Option (List ℕ) → Effect
effect_by answer = sketch_effect read_a sent_b sketch_bytes answer

arrives : effect_of at_sketch (event.DeliverBa all) ≡ effect_by (answer_of difference_sums)
unfolding happening
arrives = refl

abbrev said : List Message
said = message.ReconcilDiff true (0x7d73875b ∷ []) ∷ message.Inv (entry hello.id ∷ []) ∷ message.Ping 1 ∷ []

abbrev pub opener_report : Report
opener_report = record { snapshot = hello.id ∷ []; capacity = 8; ending = ending.First; answered = both }

abbrev answered_a : NodeState
answered_a = record read_a {
  machine = record { phase = phase.Barrier; level = 2; round = no_round; reports = opener_report ∷ [] };
  requests = record { coefficient = 65534; begun = 1 };
  set = [];
}

abbrev answered : Effect
answered = record { world = record { a = answered_a; b = sent_b; ab = wire_bytes magic said; ba = [] }; by_a = said; by_b = []; full = 0 }

answers : effect_by (Some both) ≡ answered
unfolding happening
answers = refl

sketch_arrives : answer_of difference_sums ≡ Some both → effect_of at_sketch (event.DeliverBa all) ≡ answered
sketch_arrives h = arrives ∙ ap effect_by h ∙ answers

-- ---- the rest of the round: both are idle again, and each has what the other had

abbrev pub accepter_report : Report
accepter_report = record { snapshot = abc.id ∷ []; capacity = 8; ending = ending.First; answered = 0x7d73875b ∷ [] }

abbrev pub last_a : NodeState
last_a = record (introduced (new_opener (hello ∷ abc ∷ [])) 2) {
  machine = record { phase = phase.Idle; level = 2; round = no_round; reports = opener_report ∷ [] };
  requests = record { coefficient = 65534; begun = 1 };
  wants = record { wanted = []; asked = []; served = hello.id ∷ [] };
  inbox = record { unread = []; offset = 441 };
}

abbrev pub last_b : NodeState
last_b = record (introduced (new_accepter (abc ∷ hello ∷ [])) 1) {
  machine = record { phase = phase.Idle; level = 2; round = no_round; reports = accepter_report ∷ [] };
  requests = record { coefficient = 8192; begun = 0 };
  wants = record { wanted = []; asked = []; served = abc.id ∷ [] };
  inbox = record { unread = []; offset = 444 };
}

abbrev pub last : World
last = record { a = last_a; b = last_b; ab = []; ba = [] }

goes_on : (run answered.world (deliveries 15)).world ≡ last
unfolding happening
goes_on = refl

-- ---- the whole script: additions, all deliveries, a round, and all deliveries again

abbrev pub script : List Event
script = to_the_sketch ++ event.DeliverBa all ∷ deliveries 15

-- the events from the sketch on: the sketch, and all deliveries
sketch_first : (run_from (event.DeliverBa all ∷ deliveries 15) at_sketch).world ≡ (effect_sequence (effect_of at_sketch (event.DeliverBa all)) (run_from (deliveries 15) (effect_of at_sketch (event.DeliverBa all)).world)).world
unfolding run_from unless_ended
sketch_first = refl

from_sketch : answer_of difference_sums ≡ Some both → (run_from (event.DeliverBa all ∷ deliveries 15) at_sketch).world ≡ last
from_sketch h = sketch_first ∙ ap (λ (x : Effect). (effect_sequence x (run_from (deliveries 15) x.world)).world) (sketch_arrives h) ∙ goes_on

-- a sketch has one answer, and it is this one
answered_by_both : answer_of difference_sums ≡ Some both
answered_by_both = (answer_at-exactly 32 certificate_32 difference_sums both).1 both_answer

pub whole : (run new_pair script).world ≡ last
whole =
    run_from-append to_the_sketch (event.DeliverBa all ∷ deliveries 15) new_pair
    ∙ ap (λ w. (run_from (event.DeliverBa all ∷ deliveries 15) w).world) begins
    ∙ from_sketch answered_by_both

-- ---- the round fits, and has left both snapshots in both pools

apart : ◌≡◌ {A = ℕ} 0xd977c38b 0x7d73875b → hello.id ≡ abc.id
apart same = absurd (true≢false (ap (λ n. n == 0xd977c38b) same))

pub fits : IsReconcilable (pair_keys last) opener_report accepter_report
unfolding happening
fits = inr (record { apart = ((apart, tt), tt); small = lit≤ tt })

holds : HasBothSnapshots last opener_report accepter_report
unfolding happening
holds = record { of_a = (record { a = refl; b = refl }, tt); of_b = (record { a = refl; b = refl }, tt) }

drained : IsDrained last
drained = record { ab = refl; ba = refl }

finished : IsFinished last
unfolding happening
finished = record {
  quiet_a = record { idle = refl; nothing_unread = refl; nothing_wanted = refl };
  quiet_b = record { idle = refl; nothing_unread = refl; nothing_wanted = refl };
  rounds = ((λ fits. holds), tt);
  begun = refl;
}

-- so the script leaves a drained world that is finished, as the headline says of every one
pub script_drains : IsDrained (run new_pair script).world
script_drains = subst IsDrained (sym whole) drained

script_finishes : IsFinished (run new_pair script).world
script_finishes = subst IsFinished (sym whole) finished
