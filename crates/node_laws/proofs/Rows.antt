-- The rows of messages, one table at a time: what has been received of a message has no part in its step, the configuration
-- stays, pool and reports only grow, and a step in which the node ends changes nothing else.
use Rattle.std.proofs.Common.{◌≡◌, ℕ, ◌+◌, ◌==◌, nat_lt, int_lt, pos, is_some, length, Bool, true, false, List, [], ◌∷◌, ◌++◌, Option, Some, None, Result, Ok, Err, refl, sym, ap, ◌∙◌, append_assoc, append-nil}
use Rattle.base_types.specs.declared.lists.Hash32.{Hash32}
use Rattle.wire_rules.specs.Commands.{name_of}
use Rattle.wire_rules.specs.declared.message.Message.{Message}
use Rattle.wire_rules.specs.declared.message.Message.TheVariants as message
use Rattle.wire_rules.specs.declared.message.VersionMsg.{VersionMsg}
use Rattle.wire_rules.specs.declared.name.Name.{Name}
use Rattle.wire_rules.specs.declared.name.Name.TheVariants as name
use Rattle.wire_rules.specs.declared.phase.Phase.{Phase}
use Rattle.wire_rules.specs.declared.phase.Phase.TheVariants as phase
use Rattle.pool_rules.specs.Pools.{Transaction, transaction_of, is_listed, is_in_pool, has_byte_room}
use Rattle.pool_rules.specs.Snapshots.{Member}
use Rattle.pool_rules.specs.declared.limits.TheConstants.{POOL_LIMIT}
use Rattle.pool_rules.specs.declared.report.Report.{Report}
use Rattle.node_rules.specs.Accepter.{accepter_reqrecon, accepter_extension, accepter_diff, reqrecon_by, extension_by, extension_after, diff_by, diff_after, diff_fault}
use Rattle.node_rules.specs.Barrier.{is_barrier_end, pong_by}
use Rattle.node_rules.specs.Handshake.{version_by, on_unexpected, in_greeting, offer_by, verack_by, in_greeted, has_no_relay}
use Rattle.node_rules.specs.Inventory.{unknown_ids, without_announced, inv_by, transaction_by}
use Rattle.node_rules.specs.Opener.{opener_sketch, sketch_by, value_or_fault, length_fault, after_sketch, answer_to_sketch, on_decoding, on_no_answer, has_extension_left, round_after_sketch, remaining_set}
use Rattle.node_rules.specs.Stages.{requested_extensions, sent_extensions, is_idle}
use Rattle.node_rules.specs.State.{NodeState, Machine, Initiator, Round, Inbox, Offer, initiator_of, extensions_allowed, taken_room}
use Rattle.node_rules.specs.Steps.{opener_row, accepter_row, in_relay, in_phase, on_message, with_inbox}
use Rattle.node_rules.specs.Turns.{Move, Response, Turn, unchanged, refusal, after_move, after_response}
use Rattle.node_rules.specs.declared.config.Role.{Role}
use Rattle.node_rules.specs.declared.config.Role.TheVariants as role
use Rattle.node_rules.specs.declared.end.End.{End}
use Rattle.node_laws.specs.Inboxes.{turn_with_inbox}
use Rattle.node_laws.specs.Later.{IsLater}

-- ---- states

pub later_same : (s u : NodeState) → u.config ≡ s.config → u.pool ≡ s.pool → u.machine.reports ≡ s.machine.reports → IsLater s u
later_same s u c p r = record { config = c; new_held = []; pool = p ∙ sym (append-nil s.pool); new_reports = []; reports = r ∙ sym (append-nil s.machine.reports) }

pub later_both : (s t u : NodeState) → IsLater s t → IsLater t u → IsLater s u
later_both s t u first second = record {
  config = second.config ∙ first.config;
  new_held = first.new_held ++ second.new_held;
  pool = second.pool ∙ ap (λ pool. pool ++ second.new_held) first.pool ∙ append_assoc s.pool first.new_held second.new_held;
  new_reports = first.new_reports ++ second.new_reports;
  reports = second.reports ∙ ap (λ reports. reports ++ second.new_reports) first.reports ∙ append_assoc s.machine.reports first.new_reports second.new_reports;
}

-- ---- the machines

pub record HasGrown (old new : List Report) : Type 0 where
  pub more : List Report
  pub grown : new ≡ old ++ more

grown_same : (old : List Report) → HasGrown old old
grown_same old = record { more = []; grown = sym (append-nil old) }

abbrev MoveGrows : Machine → Result Move End → Type 0
MoveGrows m (Ok move) = HasGrown m.reports move.initiator.machine.reports
MoveGrows m (Err e) = Unit {0}

abbrev ResponseGrows : Machine → Result Response End → Type 0
ResponseGrows m (Ok r) = HasGrown m.reports r.machine.reports
ResponseGrows m (Err e) = Unit {0}

on_no_answer-grown : (may : Bool) (i : Initiator) (r : Round) (n : ℕ) (set : List Member) → HasGrown i.machine.reports (on_no_answer may i r n set).initiator.machine.reports
unfolding on_no_answer
on_no_answer-grown true i r n set = grown_same i.machine.reports
on_no_answer-grown false i r n set = record { more = _; grown = refl }

on_decoding-grown : (answer : Option (List ℕ)) (i : Initiator) (r : Round) (n : ℕ) (set : List Member) → HasGrown i.machine.reports (on_decoding answer i r n set).initiator.machine.reports
unfolding on_decoding
on_decoding-grown (Some es) i r n set = record { more = _; grown = refl }
on_decoding-grown None i r n set = on_no_answer-grown (has_extension_left i.machine r n) i r n set

value_or_fault-grown : (f : Option End) (m : Machine) (move : Move) → HasGrown m.reports move.initiator.machine.reports → MoveGrows m (value_or_fault f move)
value_or_fault-grown None m move h = h
value_or_fault-grown (Some e) m move h = tt

sketch_by-grown : (answer : Option (List ℕ)) (o : Option ℕ) (i : Initiator) (set : List Member) (bytes : List ℕ) → MoveGrows i.machine (sketch_by answer o i set bytes)
unfolding sketch_by
sketch_by-grown answer None i set bytes = tt
sketch_by-grown answer (Some n) i set bytes =
    value_or_fault-grown (length_fault i.machine n (length bytes)) i.machine (after_sketch answer i set n bytes) (on_decoding-grown answer i (round_after_sketch i.machine set n bytes) n (remaining_set n set))

reqrecon_by-grown : (idle : Bool) (m : Machine) (set : List Member) (size q : ℕ) → ResponseGrows m (reqrecon_by idle m set size q)
unfolding reqrecon_by
reqrecon_by-grown true m set size q = grown_same m.reports
reqrecon_by-grown false m set size q = tt

extension_by-grown : (may : Bool) (m : Machine) (n : ℕ) → ResponseGrows m (extension_by may m n)
unfolding extension_by
extension_by-grown true m n = grown_same m.reports
extension_by-grown false m n = tt

extension_after-grown : (o : Option ℕ) (m : Machine) → ResponseGrows m (extension_after o m)
unfolding extension_after
extension_after-grown None m = tt
extension_after-grown (Some n) m = extension_by-grown (nat_lt n (extensions_allowed m)) m n

diff_by-grown : (f : Option End) (m : Machine) (n : ℕ) (success : Bool) (asks : List ℕ) → ResponseGrows m (diff_by f m n success asks)
unfolding diff_by
diff_by-grown (Some e) m n success asks = tt
diff_by-grown None m n success asks = record { more = _; grown = refl }

diff_after-grown : (o : Option ℕ) (m : Machine) (success : Bool) (asks : List ℕ) → ResponseGrows m (diff_after o m success asks)
unfolding diff_after
diff_after-grown None m success asks = tt
diff_after-grown (Some n) m success asks = diff_by-grown (diff_fault success m.round asks) m n success asks

-- ---- the node

-- t is a step of s, and u the same step of s with another inbox
pub record IsStep (s : NodeState) (i : Inbox) (t u : Turn) : Type 0 where
  pub same : u ≡ turn_with_inbox t i
  pub later : IsLater s t.state
  pub refuses : s.ended ≡ None → (e : End) → t.state.ended ≡ Some e → t ≡ refusal s e

pub not_ended : (s : NodeState) (t : Turn) → t.state.ended ≡ s.ended → s.ended ≡ None → (e : End) → t.state.ended ≡ Some e → t ≡ refusal s e
not_ended s t same going e h = absurd (let apart : None ≡ Some e = sym going ∙ (sym same ∙ h) in cc)

module _ (s : NodeState) (i : Inbox) where
  abbrev v : NodeState
  v = with_inbox s i

  -- a row that leaves pool, reports and end as they are
  pub leaves : (t u : Turn) → u ≡ turn_with_inbox t i → t.state.config ≡ s.config → t.state.pool ≡ s.pool → t.state.machine.reports ≡ s.machine.reports → t.state.ended ≡ s.ended → IsStep s i t u
  leaves t u same c p r e = record { same = same; later = later_same s t.state c p r; refuses = not_ended s t e }

  pub stays : IsStep s i (unchanged s) (unchanged v)
  stays = leaves (unchanged s) (unchanged v) refl refl refl refl refl

  pub ends : (e : End) → IsStep s i (refusal s e) (refusal v e)
  ends x = record { same = refl; later = later_same s (refusal s x).state refl refl refl; refuses = λ going e h. let same : x ≡ e = cc in ap (refusal s) same }

  on_unexpected-step : (n : Option Name) → IsStep s i (on_unexpected s n) (on_unexpected v n)
  on_unexpected-step (Some n) = ends _
  on_unexpected-step None = stays

  version_by-step : (old silent : Bool) (m : VersionMsg) → IsStep s i (version_by old silent s m) (version_by old silent v m)
  unfolding version_by
  version_by-step true silent m = ends _
  version_by-step false true m = ends _
  version_by-step false false m = leaves (version_by false false s m) (version_by false false v m) refl refl refl refl refl

  in_greeting-step : (m : Message) → IsStep s i (in_greeting s m) (in_greeting v m)
  unfolding in_greeting
  in_greeting-step (message.Version m) = version_by-step (int_lt m.version (pos 70016)) (has_no_relay m.relay) m
  in_greeting-step (message.Ping n) = stays
  in_greeting-step (message.Pong n) = stays
  in_greeting-step other = on_unexpected-step (name_of other)

  offer_by-step : (zero again : Bool) (offer : Offer) → IsStep s i (offer_by zero again s offer) (offer_by zero again v offer)
  unfolding offer_by
  offer_by-step true again offer = ends _
  offer_by-step false true offer = ends _
  offer_by-step false false offer = leaves (offer_by false false s offer) (offer_by false false v offer) refl refl refl refl refl

  verack_by-step : (noted : Bool) (offer : Option Offer) → IsStep s i (verack_by noted offer s) (verack_by noted offer v)
  unfolding verack_by
  verack_by-step false offer = ends _
  verack_by-step true None = leaves (verack_by true None s) (verack_by true None v) refl refl refl refl refl
  verack_by-step true (Some offer) = leaves (verack_by true (Some offer) s) (verack_by true (Some offer) v) refl refl refl refl refl

  in_greeted-step : (m : Message) → IsStep s i (in_greeted s m) (in_greeted v m)
  unfolding in_greeted
  in_greeted-step message.WtxidRelay = leaves (in_greeted s message.WtxidRelay) (in_greeted v message.WtxidRelay) refl refl refl refl refl
  in_greeted-step (message.SendTxRcncl version salt) = offer_by-step (version == 0) (is_some s.peer.offer) (record { version = version; salt = salt })
  in_greeted-step message.Verack = verack_by-step s.peer.relays_by_id s.peer.offer
  in_greeted-step (message.Ping n) = stays
  in_greeted-step (message.Pong n) = stays
  in_greeted-step other = on_unexpected-step (name_of other)

  after_move-step : (row : Result Move End) → MoveGrows s.machine row → IsStep s i (after_move s row) (after_move v row)
  after_move-step (Ok m) h = record {
    same = refl;
    later = record { config = refl; new_held = []; pool = sym (append-nil s.pool); new_reports = h.more; reports = h.grown };
    refuses = not_ended s (after_move s (Ok m)) refl;
  }
  after_move-step (Err e) h = ends e

  opener_row-step : (r : Role) (plain : Bool) (n : Name) (row : Result Move End) → MoveGrows s.machine row → IsStep s i (opener_row r plain n s row) (opener_row r plain n v row)
  unfolding opener_row
  opener_row-step role.Opener false n row h = after_move-step row h
  opener_row-step role.Opener true n row h = ends _
  opener_row-step role.Accepter plain n row h = ends _

  response-step : (set : List Member) (row : Result Response End) → ResponseGrows s.machine row → IsStep s i (after_response s set row) (after_response v set row)
  response-step set (Ok r) h = record {
    same = refl;
    later = record { config = refl; new_held = []; pool = sym (append-nil s.pool); new_reports = h.more; reports = h.grown };
    refuses = not_ended s (after_response s set (Ok r)) refl;
  }
  response-step set (Err e) h = ends e

  accepter_row-step : (r : Role) (plain : Bool) (n : Name) (set : List Member) (row : Result Response End) → ResponseGrows s.machine row → IsStep s i (accepter_row r plain n s set row) (accepter_row r plain n v set row)
  unfolding accepter_row
  accepter_row-step role.Accepter false n set row h = response-step set row h
  accepter_row-step role.Accepter true n set row h = ends _
  accepter_row-step role.Opener plain n set row h = ends _

  pong_by-step : (r : Role) (ending : Bool) → IsStep s i (pong_by r ending s) (pong_by r ending v)
  unfolding pong_by
  pong_by-step role.Opener true = leaves (pong_by role.Opener true s) (pong_by role.Opener true v) refl refl refl refl refl
  pong_by-step role.Opener false = stays
  pong_by-step role.Accepter ending = stays

  inv_by-step : (full : Bool) (r : Role) (set : List Member) (ids : List Hash32) → IsStep s i (inv_by full r s set ids) (inv_by full r v set ids)
  unfolding inv_by
  inv_by-step true r set ids = ends _
  inv_by-step false role.Opener set ids = leaves (inv_by false role.Opener s set ids) (inv_by false role.Opener v set ids) refl refl refl refl refl
  inv_by-step false role.Accepter set ids = leaves (inv_by false role.Accepter s set ids) (inv_by false role.Accepter v set ids) refl refl refl refl refl

  transaction_by-step : (asked pooled fits : Bool) (t : Transaction) → IsStep s i (transaction_by asked pooled fits s t) (transaction_by asked pooled fits v t)
  unfolding transaction_by
  transaction_by-step false pooled fits t = stays
  transaction_by-step true true fits t = leaves (transaction_by true true fits s t) (transaction_by true true fits v t) refl refl refl refl refl
  transaction_by-step true false false t = ends _
  transaction_by-step true false true t = record {
    same = refl;
    later = record { config = refl; new_held = t ∷ []; pool = refl; new_reports = []; reports = sym (append-nil s.machine.reports) };
    refuses = not_ended s (transaction_by true false true s t) refl;
  }

  in_relay-step : (m : Message) → IsStep s i (in_relay s m) (in_relay v m)
  unfolding in_relay
  in_relay-step (message.Version m) = ends _
  in_relay-step message.Verack = ends _
  in_relay-step message.WtxidRelay = ends _
  in_relay-step (message.SendTxRcncl version salt) = ends _
  in_relay-step (message.ReqRecon size q) =
      accepter_row-step s.config.role s.plain name.ReqRecon [] (accepter_reqrecon s.machine s.set size q) (reqrecon_by-grown (is_idle s.machine.phase) s.machine s.set size q)
  in_relay-step (message.Sketch bytes) =
      opener_row-step s.config.role s.plain name.Sketch (opener_sketch (initiator_of s) s.set bytes)
      (sketch_by-grown (answer_to_sketch (requested_extensions s.machine.phase) s.machine s.set bytes) (requested_extensions s.machine.phase) (initiator_of s) s.set bytes)
  in_relay-step message.ReqSketchExt =
      accepter_row-step s.config.role s.plain name.ReqSketchExt s.set (accepter_extension s.machine) (extension_after-grown (sent_extensions s.machine.phase) s.machine)
  in_relay-step (message.ReconcilDiff success asks) =
      accepter_row-step s.config.role s.plain name.ReconcilDiff s.set (accepter_diff s.machine success asks) (diff_after-grown (sent_extensions s.machine.phase) s.machine success asks)
  in_relay-step (message.Inv es) = inv_by-step (nat_lt POOL_LIMIT (taken_room s + length (unknown_ids s es))) s.config.role (without_announced s.set es) (unknown_ids s es)
  in_relay-step (message.GetData es) = leaves (in_relay s (message.GetData es)) (in_relay v (message.GetData es)) refl refl refl refl refl
  in_relay-step (message.NotFound es) = leaves (in_relay s (message.NotFound es)) (in_relay v (message.NotFound es)) refl refl refl refl refl
  in_relay-step (message.Tx tx) = transaction_by-step (is_listed s.wants.asked (transaction_of tx).id) (is_in_pool s.pool (transaction_of tx).id) (has_byte_room s.pool (transaction_of tx).bytes) (transaction_of tx)
  in_relay-step (message.Ping n) = leaves (in_relay s (message.Ping n)) (in_relay v (message.Ping n)) refl refl refl refl refl
  in_relay-step (message.Pong n) = pong_by-step s.config.role (is_barrier_end (initiator_of s) n)
  in_relay-step (message.Other command payload) = stays

  in_phase-step : (p : Phase) (m : Message) → IsStep s i (in_phase p s m) (in_phase p v m)
  unfolding in_phase
  in_phase-step phase.Greeting m = in_greeting-step m
  in_phase-step phase.Greeted m = in_greeted-step m
  in_phase-step other m = in_relay-step m

  -- a message
  pub on_message-step : (m : Message) → IsStep s i (on_message s m) (on_message v m)
  on_message-step m = in_phase-step s.machine.phase m
