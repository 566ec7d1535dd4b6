-- What a step of a node adds to its reports, and announces of them.
use Rattle.std.proofs.Common.{◌≡◌, ℕ, zero, suc, nat_lt, length, Bool, true, false, List, [], ◌∷◌, ◌++◌, Option, Some, None, Result, Ok, Err, refl, sym, ap, ◌∙◌, subst, append-nil}
use Rattle.std.specs.List.{AllByRecursion}
use Rattle.base_types.specs.declared.lists.Hash32.{Hash32}
use Rattle.id_rules.specs.Ids.{KeyPair}
use Rattle.wire_rules.specs.declared.message.Message.{Message}
use Rattle.wire_rules.specs.declared.message.Message.TheVariants as message
use Rattle.wire_rules.specs.declared.name.Name.{Name}
use Rattle.wire_rules.specs.declared.name.Name.TheVariants as name
use Rattle.wire_rules.specs.declared.phase.Phase.{Phase}
use Rattle.wire_rules.specs.declared.phase.Phase.TheVariants as phase
use Rattle.pool_rules.specs.Pools.{Transaction}
use Rattle.pool_rules.specs.Snapshots.{Member, ids_of}
use Rattle.pool_rules.specs.declared.report.Ending.TheVariants as ending
use Rattle.pool_rules.specs.declared.report.Report.{Report}
use Rattle.node_rules.specs.Accepter.{accepter_reqrecon, accepter_extension, accepter_diff, reqrecon_by, extension_by, extension_after, diff_by, diff_after, diff_fault, accepter_announcement, ending_of}
use Rattle.node_rules.specs.Opener.{opener_sketch, sketch_by, length_fault, after_sketch, answer_to_sketch, on_decoding, on_no_answer, has_extension_left, round_after_sketch, remaining_set}
use Rattle.node_rules.specs.Barrier.{is_barrier_end}
use Rattle.node_rules.specs.Opener.{value_or_fault}
use Rattle.node_rules.specs.Outcomes.{announcement, report_of}
use Rattle.node_rules.specs.Stages.{requested_extensions, sent_extensions, answered_ending, extensions_in, is_idle}
use Rattle.node_rules.specs.State.{Initiator, initiator_of, NodeState, Machine, Round, node_keys, extensions_allowed}
use Rattle.node_rules.specs.Invariant.{IsMember}
use Rattle.node_rules.specs.Invariant.{IsSetUp}
use Rattle.node_rules.specs.Steps.{opener_row, accepter_row, in_relay, in_phase, on_message}
use Rattle.node_rules.specs.Barrier.{pong_by}
use Rattle.node_rules.specs.Turns.{Response, after_response, Move, Turn, after_move, inv_of}
use Rattle.node_rules.specs.declared.config.Role.{Role}
use Rattle.node_rules.specs.declared.config.Role.TheVariants as role
use Rattle.node_rules.specs.declared.end.End.{End}
use Rattle.pair_invariant_rules.specs.Handshake.{Past, stage_of}
use Rattle.pair_rules.specs.Rounds.{announced_by, announced_of}
use Rattle.pair_invariant_rules.specs.Topics.{topic_of, is_round}
use Rattle.pair_invariant_rules.specs.Wants.{announced_ids_of, announced_ids, IsPooled}
use Rattle.pair_invariant_laws.proofs.Idling.{in_greeting-idles, in_greeted-idles, relays-idles}
use Rattle.pair_invariant_laws.proofs.Saying.{announced_append, inv_announces, pooled_ids}
use Rattle.pair_invariant_laws.proofs.SketchSteps.{members_again}

pub data Tells (keys : KeyPair) (pool : List Transaction) (before after : List Report) (out : List Message) : Type 0 where
  NoMore : after ≡ before → Tells keys pool before after out
  OneMore : (r : Report) → after ≡ before ++ r ∷ [] → announced_ids out ≡ announced_of keys r → AllByRecursion (IsPooled pool) r.snapshot → Tells keys pool before after out

announced_diff : (pool : List Transaction) (success : Bool) (asks : List ℕ) (ids : List Hash32) (number : ℕ) → announced_ids (message.ReconcilDiff success asks ∷ (inv_of ids ++ message.Ping number ∷ [])) ≡ ids
unfolding announced_ids_of
announced_diff pool success asks ids number = announced_append (inv_of ids) (message.Ping number ∷ []) ∙ append-nil (announced_ids (inv_of ids)) ∙ inv_announces pool ids

-- the numbers of extensions that phases know
pub asked_stage : (p : Phase) (n : ℕ) → requested_extensions p ≡ Some n → extensions_in (answered_ending n) ≡ Some n
unfolding requested_extensions extensions_in answered_ending
asked_stage phase.Waiting n e = subst (λ k. extensions_in (answered_ending k) ≡ Some k) (let same : 0 ≡ n = cc in same) refl
asked_stage phase.WaitingExt n e = subst (λ k. extensions_in (answered_ending k) ≡ Some k) (let same : 1 ≡ n = cc in same) refl
asked_stage phase.WaitingExt2 n e = subst (λ k. extensions_in (answered_ending k) ≡ Some k) (let same : 2 ≡ n = cc in same) refl
asked_stage _ n e = absurd (cc)

pub given_stage : (p : Phase) (n : ℕ) → sent_extensions p ≡ Some n → extensions_in (answered_ending n) ≡ Some n
unfolding sent_extensions extensions_in answered_ending
given_stage phase.Sent n e = subst (λ k. extensions_in (answered_ending k) ≡ Some k) (let same : 0 ≡ n = cc in same) refl
given_stage phase.SentExt n e = subst (λ k. extensions_in (answered_ending k) ≡ Some k) (let same : 1 ≡ n = cc in same) refl
given_stage phase.SentExt2 n e = subst (λ k. extensions_in (answered_ending k) ≡ Some k) (let same : 2 ≡ n = cc in same) refl
given_stage _ n e = absurd (cc)

-- ---- the machines' rows

module _ (keys : KeyPair) (pool : List Transaction) where
  abbrev TellsMove : List Report → Result Move End → Type 0
  TellsMove before (Ok m) = Tells keys pool before m.initiator.machine.reports m.out
  TellsMove before (Err e) = Unit {0}

  abbrev TellsResponse : List Report → Result Response End → Type 0
  TellsResponse before (Ok r) = Tells keys pool before r.machine.reports r.out
  TellsResponse before (Err e) = Unit {0}

  answered_is : (n : ℕ) (ms : List Member) (c : ℕ) (es shorts : List ℕ) → extensions_in (answered_ending n) ≡ Some n → AllByRecursion (IsMember keys pool) ms
      → announcement ms shorts ≡ announced_of keys (record { snapshot = ids_of ms; capacity = c; ending = answered_ending n; answered = shorts })
  unfolding announced_by
  answered_is n ms c es shorts stage h =
      ap (λ q. announcement q shorts) (sym (members_again keys pool ms h))
      ∙ ap (λ o. announced_by o keys (record { snapshot = ids_of ms; capacity = c; ending = answered_ending n; answered = shorts })) (sym stage)

  fell_is : (ms : List Member) (c : ℕ) → ids_of ms ≡ announced_of keys (record { snapshot = ids_of ms; capacity = c; ending = ending.Fallback; answered = [] })
  unfolding announced_by extensions_in
  fell_is ms c = refl

  unanswered-tells : (may : Bool) (i : Initiator) (r : Round) (n : ℕ) (set : List Member) → AllByRecursion (IsMember keys pool) r.snapshot → Tells keys pool i.machine.reports (on_no_answer may i r n set).initiator.machine.reports (on_no_answer may i r n set).out
  unfolding on_no_answer
  unanswered-tells true i r n set h = NoMore refl
  unanswered-tells false i r n set h =
      OneMore (report_of r ending.Fallback []) refl (announced_diff pool false [] (ids_of r.snapshot) i.requests.begun ∙ fell_is r.snapshot r.capacity) (pooled_ids pool keys r.snapshot h)

  decided-tells : (answer : Option (List ℕ)) (i : Initiator) (r : Round) (n : ℕ) (set : List Member) → extensions_in (answered_ending n) ≡ Some n → AllByRecursion (IsMember keys pool) r.snapshot
      → Tells keys pool i.machine.reports (on_decoding answer i r n set).initiator.machine.reports (on_decoding answer i r n set).out
  unfolding on_decoding
  decided-tells (Some es) i r n set stage h =
      OneMore (report_of r (answered_ending n) es) refl (announced_diff pool true _ (announcement r.snapshot es) i.requests.begun ∙ answered_is n r.snapshot r.capacity es es stage h) (pooled_ids pool keys r.snapshot h)
  decided-tells None i r n set stage h = unanswered-tells (has_extension_left i.machine r n) i r n set h

  unless-tells : (e : Option End) (before : List Report) (m : Move) → Tells keys pool before m.initiator.machine.reports m.out → TellsMove before (value_or_fault e m)
  unless-tells None before m h = h
  unless-tells (Some e) before m h = tt

  joined-pooled : (n : ℕ) (m : Machine) (set : List Member) (bytes : List ℕ) → AllByRecursion (IsMember keys pool) set → AllByRecursion (IsMember keys pool) m.round.snapshot → AllByRecursion (IsMember keys pool) (round_after_sketch m set n bytes).snapshot
  unfolding round_after_sketch
  joined-pooled zero m set bytes h k = h
  joined-pooled (suc n) m set bytes h k = k

  sketch_by-tells : (answer : Option (List ℕ)) (o : Option ℕ) (i : Initiator) (set : List Member) (bytes : List ℕ) → ((n : ℕ) → o ≡ Some n → extensions_in (answered_ending n) ≡ Some n)
      → AllByRecursion (IsMember keys pool) set → AllByRecursion (IsMember keys pool) i.machine.round.snapshot → TellsMove i.machine.reports (sketch_by answer o i set bytes)
  unfolding sketch_by
  sketch_by-tells answer None i set bytes stage h k = tt
  sketch_by-tells answer (Some n) i set bytes stage h k =
      unless-tells (length_fault i.machine n (length bytes)) i.machine.reports (after_sketch answer i set n bytes) (decided-tells answer i (round_after_sketch i.machine set n bytes) n (remaining_set n set) (stage n refl) (joined-pooled n i.machine set bytes h k))

  reqrecon_by-tells : (idle : Bool) (m : Machine) (set : List Member) (size q : ℕ) → TellsResponse m.reports (reqrecon_by idle m set size q)
  unfolding reqrecon_by
  reqrecon_by-tells true m set size q = NoMore refl
  reqrecon_by-tells false m set size q = tt

  extended_by-tells : (may : Bool) (m : Machine) (n : ℕ) → TellsResponse m.reports (extension_by may m n)
  unfolding extension_by
  extended_by-tells true m n = NoMore refl
  extended_by-tells false m n = tt

  extension_after-tells : (o : Option ℕ) (m : Machine) → TellsResponse m.reports (extension_after o m)
  unfolding extension_after
  extension_after-tells None m = tt
  extension_after-tells (Some n) m = extended_by-tells (nat_lt n (extensions_allowed m)) m n

  resolved-tells : (success : Bool) (m : Machine) (n : ℕ) (asks : List ℕ) → (asks_none : success ≡ false → asks ≡ []) → extensions_in (answered_ending n) ≡ Some n → AllByRecursion (IsMember keys pool) m.round.snapshot
      → announced_ids (inv_of (accepter_announcement success m.round asks)) ≡ announced_of keys (report_of m.round (ending_of success n) asks)
  resolved-tells true m n asks none stage h = inv_announces pool (accepter_announcement true m.round asks) ∙ answered_is n m.round.snapshot m.round.capacity asks asks stage h
  resolved-tells false m n asks none stage h =
      inv_announces pool (accepter_announcement false m.round asks) ∙ (fell_is m.round.snapshot m.round.capacity ∙ ap (λ xs. announced_of keys (report_of m.round ending.Fallback xs)) (sym (none refl)))

  diff_by-tells : (success : Bool) (m : Machine) (n : ℕ) (asks : List ℕ) (e : Option End) → diff_fault success m.round asks ≡ e → extensions_in (answered_ending n) ≡ Some n → AllByRecursion (IsMember keys pool) m.round.snapshot
      → TellsResponse m.reports (diff_by e m n success asks)
  unfolding diff_by
  diff_by-tells success m n asks (Some e) fault stage h = tt
  diff_by-tells success m n asks None fault stage h =
      OneMore (report_of m.round (ending_of success n) asks) refl (resolved-tells success m n asks (no_asks success m.round asks fault) stage h) (pooled_ids pool keys m.round.snapshot h)
    where
      no_asks : (success : Bool) (r : Round) (asks : List ℕ) → diff_fault success r asks ≡ None → success ≡ false → asks ≡ []
      no_asks true r asks f e = absurd (let apart : true ≡ false = e in cc)
      no_asks false r [] f e = refl
      no_asks false r (x ∷ xs) f e = absurd (cc)

  diff_after-tells : (o : Option ℕ) (m : Machine) (success : Bool) (asks : List ℕ) → ((n : ℕ) → o ≡ Some n → extensions_in (answered_ending n) ≡ Some n) → AllByRecursion (IsMember keys pool) m.round.snapshot
      → TellsResponse m.reports (diff_after o m success asks)
  unfolding diff_after
  diff_after-tells None m success asks stage h = tt
  diff_after-tells (Some n) m success asks stage h = diff_by-tells success m n asks (diff_fault success m.round asks) refl (stage n refl) h

-- ---- the node's rows

module _ (s : NodeState) (mine : IsSetUp s) where
  abbrev TellsTurn : Turn → Type 0
  TellsTurn t = Tells (node_keys s) s.pool s.machine.reports t.state.machine.reports t.out

  moved-tells : (row : Result Move End) → TellsMove (node_keys s) s.pool s.machine.reports row → TellsTurn (after_move s row)
  moved-tells (Ok m) h = h
  moved-tells (Err e) h = NoMore refl

  opener_row-tells : (r : Role) (plain : Bool) (n : Name) (row : Result Move End) → TellsMove (node_keys s) s.pool s.machine.reports row → TellsTurn (opener_row r plain n s row)
  unfolding opener_row
  opener_row-tells role.Opener false n row h = moved-tells row h
  opener_row-tells role.Opener true n row h = NoMore refl
  opener_row-tells role.Accepter plain n row h = NoMore refl

  response-tells : (set : List Member) (row : Result Response End) → TellsResponse (node_keys s) s.pool s.machine.reports row → TellsTurn (after_response s set row)
  response-tells set (Ok r) h = h
  response-tells set (Err e) h = NoMore refl

  accepter_row-tells : (r : Role) (plain : Bool) (n : Name) (set : List Member) (row : Result Response End) → TellsResponse (node_keys s) s.pool s.machine.reports row → TellsTurn (accepter_row r plain n s set row)
  unfolding accepter_row
  accepter_row-tells role.Accepter false n set row h = response-tells set row h
  accepter_row-tells role.Accepter true n set row h = NoMore refl
  accepter_row-tells role.Opener plain n set row h = NoMore refl

  pong_by-tells : (r : Role) (ends : Bool) → TellsTurn (pong_by r ends s)
  unfolding pong_by
  pong_by-tells role.Opener true = NoMore refl
  pong_by-tells role.Opener false = NoMore refl
  pong_by-tells role.Accepter ends = NoMore refl

  relays-tells : (t : Bool) (m : Message) → is_round (topic_of m) ≡ t → TellsTurn (in_relay s m)
  unfolding in_relay topic_of is_round
  relays-tells t (message.ReqRecon size q) e = accepter_row-tells s.config.role s.plain name.ReqRecon [] (accepter_reqrecon s.machine s.set size q) (reqrecon_by-tells (node_keys s) s.pool (is_idle s.machine.phase) s.machine s.set size q)
  relays-tells t (message.Sketch bytes) e =
      opener_row-tells s.config.role s.plain name.Sketch (opener_sketch (initiator_of s) s.set bytes)
      (sketch_by-tells (node_keys s) s.pool (answer_to_sketch (requested_extensions s.machine.phase) s.machine s.set bytes) (requested_extensions s.machine.phase) (initiator_of s) s.set bytes (asked_stage s.machine.phase) mine.set.each mine.snapshot.each)
  relays-tells t message.ReqSketchExt e = accepter_row-tells s.config.role s.plain name.ReqSketchExt s.set (accepter_extension s.machine) (extension_after-tells (node_keys s) s.pool (sent_extensions s.machine.phase) s.machine)
  relays-tells t (message.ReconcilDiff success asks) e =
      accepter_row-tells s.config.role s.plain name.ReconcilDiff s.set (accepter_diff s.machine success asks)
      (diff_after-tells (node_keys s) s.pool (sent_extensions s.machine.phase) s.machine success asks (given_stage s.machine.phase) mine.snapshot.each)
  relays-tells t (message.Ping n) e = NoMore refl
  relays-tells t (message.Pong n) e = pong_by-tells s.config.role (is_barrier_end (initiator_of s) n)
  relays-tells false m e = NoMore (relays-idles s m e).reports
  relays-tells true m e = absurd (cc)

  module _ (keys : KeyPair) (same : stage_of s.machine.phase ≡ Past → node_keys s ≡ keys) where
    abbrev TellsUnder : Turn → Type 0
    TellsUnder t = Tells keys s.pool s.machine.reports t.state.machine.reports t.out

    in_its_phase-tells : (p : Phase) (m : Message) → s.machine.phase ≡ p → TellsUnder (in_phase p s m)
    unfolding in_phase stage_of
    in_its_phase-tells phase.Greeting m e = NoMore (in_greeting-idles s m e).reports
    in_its_phase-tells phase.Greeted m e = NoMore (in_greeted-idles s m e).reports
    in_its_phase-tells other m e = subst (λ k. Tells k s.pool s.machine.reports (in_relay s m).state.machine.reports (in_relay s m).out) (same (ap stage_of e)) (relays-tells (is_round (topic_of m)) m refl)

    pub takes-tells : (m : Message) → Tells keys s.pool s.machine.reports (on_message s m).state.machine.reports (on_message s m).out
    takes-tells m = in_its_phase-tells s.machine.phase m refl
