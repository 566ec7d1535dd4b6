-- The round of a pair in which no node has ended: where it stands, and what the reports of both sides have in common. The
-- number of extensions is a variable throughout.
use Rattle.std.specs.Prelude.{◌≡◌, ℕ, zero, suc, ◌+◌, ◌%◌, ◌^◌, ◌≤◌, Bool, true, false, List, [], ◌∷◌, ◌++◌, length, Some, None}
use Rattle.std.specs.declared.option.Option.{Option}
use Rattle.sketch_rules.specs.Answers.{Answer}
use Rattle.sketch_rules.specs.Sketches.{sketch_sum}
use Rattle.id_rules.specs.Ids.{KeyPair, keys_of}
use Rattle.wire_rules.specs.declared.message.Message.{Message}
use Rattle.wire_rules.specs.declared.message.Message.TheVariants as message
use Rattle.wire_rules.specs.declared.phase.Phase.{Phase}
use Rattle.wire_rules.specs.declared.phase.Phase.TheVariants as phase
use Rattle.pool_rules.specs.Snapshots.{members, snapshot_sketch, snapshot_sums}
use Rattle.pool_rules.specs.declared.report.Report.{Report}
use Rattle.node_rules.specs.Accepter.{first_portion, next_portion, ending_of}
use Rattle.node_rules.specs.Outcomes.{missing_short_ids, report_of}
use Rattle.node_rules.specs.Stages.{waiting_phase, sent_phase, extensions_in, capacity_after}
use Rattle.node_rules.specs.State.{Round, extensions_allowed}
use Rattle.node_rules.specs.declared.config.Role.{Role}
use Rattle.node_rules.specs.declared.config.Role.TheVariants as role
use Rattle.pair_rules.specs.Rounds.{EachRound, answering_capacity}
use Rattle.pair_invariant_rules.specs.Pairs.{Pair}
use Rattle.pair_invariant_rules.specs.Topics.{messages_of_rounds}

abbrev pub keys_of_pair : Pair → KeyPair
keys_of_pair p = keys_of p.a.config.salt p.b.config.salt

-- ---- where a round stands

pub data RoundCase : Type 0 where
  Resting : RoundCase
  -- the request is on the way
  Requested : (size q : ℕ) → RoundCase
  -- the sketch behind n extensions is
  Sketched : (n : ℕ) → RoundCase
  -- the request for one more extension is
  Extending : (n : ℕ) → RoundCase
  -- the difference and the ping of the round are
  Resolved : (n : ℕ) → (success : Bool) → (asks : List ℕ) → RoundCase
  Pinged : RoundCase
  Ponged : RoundCase

-- whether no round is under way, for a node of this role
unfoldable pub is_at_rest : Role → Phase → Bool
is_at_rest r phase.Greeting = true
is_at_rest r phase.Greeted = true
is_at_rest r phase.Idle = true
is_at_rest role.Opener phase.Fetching = true
is_at_rest _ _ = false

unfoldable pub IsOpenerIn : RoundCase → Phase → Type 0
IsOpenerIn Resting p = is_at_rest role.Opener p ≡ true
IsOpenerIn (Requested size q) p = p ≡ waiting_phase 0
IsOpenerIn (Sketched n) p = p ≡ waiting_phase n
IsOpenerIn (Extending n) p = p ≡ waiting_phase (suc n)
IsOpenerIn _ p = p ≡ phase.Barrier

unfoldable pub IsAccepterIn : RoundCase → Phase → Type 0
IsAccepterIn (Sketched n) p = p ≡ sent_phase n
IsAccepterIn (Extending n) p = p ≡ sent_phase n
IsAccepterIn (Resolved n success asks) p = p ≡ sent_phase n
IsAccepterIn _ p = is_at_rest role.Accepter p ≡ true

-- the messages about rounds on the way: to the accepter by the number of the round, to the opener by the accepter's too
unfoldable pub round_messages_to_b : RoundCase → ℕ → List Message
round_messages_to_b (Requested size q) number = message.ReqRecon size q ∷ []
round_messages_to_b (Extending n) number = message.ReqSketchExt ∷ []
round_messages_to_b (Resolved n success asks) number = message.ReconcilDiff success asks ∷ message.Ping number ∷ []
round_messages_to_b Pinged number = message.Ping number ∷ []
round_messages_to_b _ number = []

-- the sums that n extensions have brought
unfoldable pub portion : Round → ℕ → List ℕ
portion r zero = first_portion r
portion r (suc n) = next_portion r n

unfoldable pub round_messages_to_a : RoundCase → ℕ → Round → List Message
round_messages_to_a (Sketched n) number r = message.Sketch (portion r n) ∷ []
round_messages_to_a Ponged number r = message.Pong number ∷ []
round_messages_to_a _ number r = []

-- the sums that an opener has kept where it has asked for n extensions are the accepter's, with its capacity
unfoldable pub HasSumsOf : ℕ → Round → Round → Type 0
HasSumsOf zero mine other = Unit {0}
HasSumsOf (suc n) mine other = (mine.capacity ≡ other.capacity) × (mine.sums ≡ snapshot_sums other.snapshot 0 (capacity_after other.capacity n))

unfoldable pub HasSumsIn : RoundCase → Round → Round → Type 0
HasSumsIn (Sketched n) mine other = HasSumsOf n mine other
HasSumsIn (Extending n) mine other = HasSumsOf (suc n) mine other
HasSumsIn (Resolved n false asks) mine other = asks ≡ []
HasSumsIn _ mine other = Unit {0}

-- so many extensions at most may be asked for
unfoldable pub IsWithinLevel : RoundCase → ℕ → Type 0
IsWithinLevel (Sketched n) most = n ≤ most
IsWithinLevel (Extending n) most = suc n ≤ most
IsWithinLevel (Resolved n success asks) most = n ≤ most
IsWithinLevel _ most = Unit {0}

pub record IsInCase (c : RoundCase) (p : Pair) : Type 0 where
  pub within : IsWithinLevel c (extensions_allowed p.a.machine)
  pub opener : IsOpenerIn c p.a.machine.phase
  pub accepter : IsAccepterIn c p.b.machine.phase
  pub to_b : messages_of_rounds p.to_b ≡ round_messages_to_b c p.a.requests.begun
  pub to_a : messages_of_rounds p.to_a ≡ round_messages_to_a c p.a.requests.begun p.b.machine.round
  pub keeps : HasSumsIn c p.a.machine.round p.b.machine.round

-- ---- the reports

-- an answered round: the opener's short ids are the answer, and the accepter's those of them that were asked for
pub record IsAnswered (keys : KeyPair) (ra rb : Report) : Type 0 where
  pub answer : Answer 32 (sketch_sum (snapshot_sketch (members keys rb.snapshot) (answering_capacity ra)) (snapshot_sketch (members keys ra.snapshot) (answering_capacity ra))) ra.answered
  pub asked : rb.answered ≡ missing_short_ids (members keys ra.snapshot) ra.answered

unfoldable pub IsAnsweredBy : Option ℕ → KeyPair → Report → Report → Type 0
IsAnsweredBy (Some n) keys ra rb = IsAnswered keys ra rb
IsAnsweredBy None keys ra rb = Unit {0}

pub record AreAgreed (keys : KeyPair) (ra rb : Report) : Type 0 where
  pub ending : ra.ending ≡ rb.ending
  pub capacity : ra.capacity ≡ rb.capacity
  pub answered : IsAnsweredBy (extensions_in ra.ending) keys ra rb

-- the report that the accepter will make of the difference on the way
unfoldable pub coming_reports : RoundCase → Round → List Report
coming_reports (Resolved n success asks) r = report_of r (ending_of success n) asks ∷ []
coming_reports _ r = []

-- a round is begun that has no report yet
unfoldable pub unreported_rounds : RoundCase → ℕ
unreported_rounds (Requested size q) = 1
unreported_rounds (Sketched n) = 1
unreported_rounds (Extending n) = 1
unreported_rounds _ = 0

pub record HasReports (c : RoundCase) (p : Pair) : Type 0 where
  pub begun : p.a.requests.begun ≡ (length p.a.machine.reports + unreported_rounds c) % 2 ^ 64
  pub agree : EachRound (AreAgreed (keys_of_pair p)) p.a.machine.reports (p.b.machine.reports ++ coming_reports c p.b.machine.round)

pub record HasRound (p : Pair) : Type 0 where
  pub case : RoundCase
  pub position : IsInCase case p
  pub reports_in : HasReports case p
