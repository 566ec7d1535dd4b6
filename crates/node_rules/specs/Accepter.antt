-- The accepter's machine of rounds (BIP 330, with this project's rules where that leaves them open).
use Rattle.std.specs.Prelude.{ℕ, suc, nat_lt, Bool, true, false, if◌then◌else◌, List, [], ◌∷◌, length, Some, None, Ok, Err}
use Rattle.std.specs.declared.option.Option.{Option}
use Rattle.std.specs.declared.result.Result.{Result}
use Rattle.base_types.specs.declared.lists.Hash32.{Hash32}
use Rattle.sketch_rules.specs.Sketches.{bytes_of}
use Rattle.wire_rules.specs.declared.message.Message.TheVariants as message
use Rattle.wire_rules.specs.declared.name.Name.TheVariants as name
use Rattle.wire_rules.specs.declared.phase.Phase.TheVariants as phase
use Rattle.pool_rules.specs.Capacity.{capacity}
use Rattle.pool_rules.specs.Snapshots.{Member, ids_of, sketched_shorts, snapshot_sums}
use Rattle.pool_rules.specs.declared.report.Ending.{Ending}
use Rattle.pool_rules.specs.declared.report.Ending.TheVariants as ending
use Rattle.node_rules.specs.Stages.{sent_phase, sent_extensions, answered_ending, capacity_after, is_idle}
use Rattle.node_rules.specs.State.{Round, Machine, extensions_allowed}
use Rattle.node_rules.specs.Turns.{Response, inv_of}
use Rattle.node_rules.specs.Outcomes.{is_in, announcement, report_of, after_round}
use Rattle.node_rules.specs.declared.end.End.{End}
use Rattle.node_rules.specs.declared.end.End.TheVariants as end

-- ---- a request for a sketch

-- the set is taken whole, and a sketch of it is to be made
abbrev pub round_of_request : List Member → ℕ → ℕ → Round
round_of_request set size q = record { snapshot = set; capacity = capacity size (length set) q; sums = [] }

-- the sums 1 to c
abbrev pub first_portion : Round → List ℕ
first_portion r = bytes_of (snapshot_sums r.snapshot 0 r.capacity)

abbrev pub first_sketch : Machine → Round → Response
first_sketch m r = record {
  machine = record m { phase = sent_phase 0; round = r };
  out = message.Sketch (first_portion r) ∷ [];
}

-- by whether no round is under way
unfoldable pub reqrecon_by : Bool → Machine → List Member → ℕ → ℕ → Result Response End
reqrecon_by true m set size q = Ok (first_sketch m (round_of_request set size q))
reqrecon_by false m set size q = Err (end.Misplaced name.ReqRecon m.phase)

abbrev pub accepter_reqrecon : Machine → List Member → ℕ → ℕ → Result Response End
accepter_reqrecon m set size q = reqrecon_by (is_idle m.phase) m set size q

-- ---- a request for an extension

-- the sums behind those of n extensions, as many again
abbrev pub next_portion : Round → ℕ → List ℕ
next_portion r n = bytes_of (snapshot_sums r.snapshot (capacity_after r.capacity n) (capacity_after r.capacity n))

abbrev pub extension_sketch : Machine → ℕ → Response
extension_sketch m n = record {
  machine = record m { phase = sent_phase (suc n) };
  out = message.Sketch (next_portion m.round n) ∷ [];
}

-- by whether one more extension may be asked for
unfoldable pub extension_by : Bool → Machine → ℕ → Result Response End
extension_by true m n = Ok (extension_sketch m n)
extension_by false m n = Err (end.Misplaced name.ReqSketchExt m.phase)

unfoldable pub extension_after : Option ℕ → Machine → Result Response End
extension_after None m = Err (end.Misplaced name.ReqSketchExt m.phase)
extension_after (Some n) m = extension_by (nat_lt n (extensions_allowed m)) m n

abbrev pub accepter_extension : Machine → Result Response End
accepter_extension m = extension_after (sent_extensions m.phase) m

-- ---- the difference

-- the first fault of asks, from the left, behind those before: for each that it isn't sketched, and then that it came before
unfoldable pub ask_fault : List ℕ → List ℕ → List ℕ → Option End
ask_fault shorts before [] = None
ask_fault shorts before (n ∷ ns) =
    if is_in shorts n then (if is_in before n then Some (end.AskRepeated n) else ask_fault shorts (n ∷ before) ns)
    else Some (end.UnknownShortId n)

-- asks where the difference wasn't found
abbrev pub failure_fault : List ℕ → Option End
failure_fault [] = None
failure_fault (n ∷ ns) = Some (end.AsksOnFailure (length (n ∷ ns)))

abbrev pub diff_fault : Bool → Round → List ℕ → Option End
diff_fault true r asks = ask_fault (sketched_shorts r.snapshot) [] asks
diff_fault false r asks = failure_fault asks

-- what is announced: what was set aside and what was asked for; or all
abbrev pub accepter_announcement : Bool → Round → List ℕ → List Hash32
accepter_announcement true r asks = announcement r.snapshot asks
accepter_announcement false r asks = ids_of r.snapshot

abbrev pub ending_of : Bool → ℕ → Ending
ending_of true n = answered_ending n
ending_of false n = ending.Fallback

-- the round is over for the accepter
abbrev pub on_diff : Machine → ℕ → Bool → List ℕ → Response
on_diff m n success asks = record {
  machine = after_round m phase.Idle (report_of m.round (ending_of success n) asks);
  out = inv_of (accepter_announcement success m.round asks);
}

unfoldable pub diff_by : Option End → Machine → ℕ → Bool → List ℕ → Result Response End
diff_by (Some e) m n success asks = Err e
diff_by None m n success asks = Ok (on_diff m n success asks)

unfoldable pub diff_after : Option ℕ → Machine → Bool → List ℕ → Result Response End
diff_after None m success asks = Err (end.Misplaced name.ReconcilDiff m.phase)
diff_after (Some n) m success asks = diff_by (diff_fault success m.round asks) m n success asks

abbrev pub accepter_diff : Machine → Bool → List ℕ → Result Response End
accepter_diff m success asks = diff_after (sent_extensions m.phase) m success asks
