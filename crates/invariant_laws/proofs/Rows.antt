-- The steps of a node by the rows of its tables: what holds behind each of the rows, whose conditions are met, holds behind
-- every step.
use Rattle.std.proofs.Common.{◌≡◌, ℕ, ◌+◌, ◌==◌, nat_lt, int_lt, pos, is_some, ◌^◌, length, Bool, true, false, List, [], ◌∷◌, ◌++◌, Option, Some, None, Result, Ok, IsTrue, refl, ap, arith}
use Rattle.std.proofs.lemmas.Bool.{and_parts, ltb-true, eqb-false}
use Rattle.id_rules.specs.Bytes.{are_bytes}
use Rattle.id_rules.specs.Ids.{keys_of}
use Rattle.wire_rules.specs.Commands.{name_of}
use Rattle.wire_rules.specs.Limits.{IsMessage, is_within_limits, is_in_range}
use Rattle.wire_rules.specs.declared.message.InvEntry.{InvEntry}
use Rattle.wire_rules.specs.declared.message.Message.{Message}
use Rattle.wire_rules.specs.declared.message.Message.TheVariants as message
use Rattle.wire_rules.specs.declared.message.VersionMsg.{VersionMsg}
use Rattle.wire_rules.specs.declared.name.Name.{Name}
use Rattle.wire_rules.specs.declared.name.Name.TheVariants as name
use Rattle.wire_rules.specs.declared.phase.Phase.{Phase}
use Rattle.wire_rules.specs.declared.phase.Phase.TheVariants as phase
use Rattle.pool_rules.specs.Pools.{Transaction, IsTransaction, transaction_of, is_listed, without_id, is_in_pool, pool_ids, has_byte_room}
use Rattle.pool_rules.specs.Snapshots.{Member, members}
use Rattle.pool_rules.specs.declared.limits.TheConstants.{POOL_LIMIT}
use Rattle.node_rules.specs.Accepter.{accepter_reqrecon, accepter_extension, accepter_diff, round_of_request, first_sketch, reqrecon_by, extension_sketch, extension_by, extension_after, diff_fault, diff_by, diff_after, on_diff}
use Rattle.node_rules.specs.Additions.{with_pooled, with_member, after_addition_by, on_addition_by, on_addition, is_full}
use Rattle.node_rules.specs.Barrier.{is_barrier, is_barrier_end, with_wants_requested, pong_by}
use Rattle.node_rules.specs.Handshake.{version_by, on_unexpected, in_greeting, offer_by, on_wtxidrelay, verack_by, in_greeted, has_no_relay, greeted_state, with_peer, after_handshake, level_of, reply}
use Rattle.node_rules.specs.Invariant.{IsOffer}
use Rattle.node_rules.specs.Inventory.{unknown_ids, without_announced, inv_by, with_wanted, with_asked, with_requests, on_getdata, on_notfound, transaction_by}
use Rattle.node_rules.specs.Opener.{opener_sketch, round_after_sketch, remaining_set, answer_to_sketch, answer_to, on_answer, extension_request, on_fallback, has_extension_left, length_fault, on_no_answer, on_decoding, value_or_fault, after_sketch, sketch_by, round_start, plain_start}
use Rattle.node_rules.specs.Stages.{requested_extensions, sent_extensions, is_idle, is_after_handshake}
use Rattle.node_rules.specs.State.{NodeState, Offer, extensions_allowed, initiator_of, open_wants, taken_room}
use Rattle.node_rules.specs.Steps.{opener_row, accepter_row, in_relay, in_phase, on_message, after_start, round_by, on_start_by, on_start}
use Rattle.node_rules.specs.Turns.{Move, Response, Turn, unchanged, turn_with, refusal, after_move, after_response, inv_of, getdata_of}
use Rattle.node_rules.specs.declared.config.Role.{Role}
use Rattle.node_rules.specs.declared.config.Role.TheVariants as role
use Rattle.node_rules.specs.declared.end.End.{End}
use Rattle.node_rules.specs.declared.end.End.TheVariants as end

-- a node that reconciles, in this role
pub record IsReconciling (r : Role) (s : NodeState) : Type 0 where
  pub role : s.config.role ≡ r
  pub whole : s.plain ≡ false

-- an opener that waits for these bytes, with n extensions
pub record IsAwaitingSketch (s : NodeState) (n : ℕ) (bytes : List ℕ) : Type 0 where
  pub opener : IsReconciling role.Opener s
  pub waits : requested_extensions s.machine.phase ≡ Some n
  pub fits : length_fault s.machine n (length bytes) ≡ None
  pub ranged : IsTrue (are_bytes bytes)

-- a node with room for a transaction that its pool lacks
pub record IsAddable (s : NodeState) (t : Transaction) : Type 0 where
  pub sound : IsTransaction t
  pub absent : is_in_pool s.pool t.id ≡ false
  pub room : is_full s t ≡ false

-- a transaction that was asked for
pub record IsAsked (s : NodeState) (t : Transaction) : Type 0 where
  pub sound : IsTransaction t
  pub asked : is_listed s.wants.asked t.id ≡ true

-- an announcement whose new ids find room
pub record IsNews (r : Role) (s : NodeState) (es : List InvEntry) : Type 0 where
  pub role : s.config.role ≡ r
  pub past : is_after_handshake s.machine.phase ≡ true
  pub sound : IsMessage (message.Inv es)
  pub room : nat_lt POOL_LIMIT (taken_room s + length (unknown_ids s es)) ≡ false

-- P holds behind each row
pub record EachRow (s : NodeState) (P : Turn → Type 0) : Type 0 where
  pub stays : P (unchanged s)
  pub ends : (e : End) → P (refusal s e)
  -- the handshake
  pub version : s.machine.phase ≡ phase.Greeting → P (turn_with (greeted_state s) (reply s.config.role s.config))
  pub wtxidrelay : s.machine.phase ≡ phase.Greeted → P (on_wtxidrelay s)
  pub offer : (o : Offer) → s.machine.phase ≡ phase.Greeted → IsOffer o → s.peer.offer ≡ None → P (unchanged (with_peer s (record s.peer { offer = Some o })))
  pub plain : s.machine.phase ≡ phase.Greeted → s.peer.relays_by_id ≡ true → s.peer.offer ≡ None → P (turn_with (after_handshake s (level_of s.config.top None) true []) (inv_of (pool_ids s.pool)))
  pub whole : (o : Offer) → s.machine.phase ≡ phase.Greeted → s.peer.relays_by_id ≡ true → s.peer.offer ≡ Some o
      → P (unchanged (after_handshake s (level_of s.config.top (Some o)) false (members (keys_of s.config.salt o.salt) (pool_ids s.pool))))
  -- an opener's sketch
  pub answer : (n : ℕ) (bytes es : List ℕ) → IsAwaitingSketch s n bytes → answer_to (round_after_sketch s.machine s.set n bytes) ≡ Some es
      → P (after_move s (Ok (on_answer (initiator_of s) (round_after_sketch s.machine s.set n bytes) n es (remaining_set n s.set))))
  pub more : (n : ℕ) (bytes : List ℕ) → IsAwaitingSketch s n bytes → has_extension_left s.machine (round_after_sketch s.machine s.set n bytes) n ≡ true
      → P (after_move s (Ok (extension_request (initiator_of s) (round_after_sketch s.machine s.set n bytes) n (remaining_set n s.set))))
  pub fallback : (n : ℕ) (bytes : List ℕ) → IsAwaitingSketch s n bytes → P (after_move s (Ok (on_fallback (initiator_of s) (round_after_sketch s.machine s.set n bytes) (remaining_set n s.set))))
  -- an accepter's requests
  pub first : (size q : ℕ) → IsReconciling role.Accepter s → is_idle s.machine.phase ≡ true → P (after_response s [] (Ok (first_sketch s.machine (round_of_request s.set size q))))
  pub extension : (n : ℕ) → IsReconciling role.Accepter s → sent_extensions s.machine.phase ≡ Some n → nat_lt n (extensions_allowed s.machine) ≡ true → P (after_response s s.set (Ok (extension_sketch s.machine n)))
  pub difference : (n : ℕ) (success : Bool) (asks : List ℕ) → IsReconciling role.Accepter s → sent_extensions s.machine.phase ≡ Some n → diff_fault success s.machine.round asks ≡ None → IsMessage (message.ReconcilDiff success asks)
      → P (after_response s s.set (Ok (on_diff s.machine n success asks)))
  -- inventories and transactions
  pub wants : (es : List InvEntry) → IsNews role.Opener s es → P (unchanged (with_wanted s (without_announced s.set es) (s.wants.wanted ++ unknown_ids s es)))
  pub request : (es : List InvEntry) → IsNews role.Accepter s es → P (turn_with (with_asked s (without_announced s.set es) (s.wants.asked ++ unknown_ids s es)) (getdata_of (unknown_ids s es)))
  pub getdata : (es : List InvEntry) → is_after_handshake s.machine.phase ≡ true → IsMessage (message.GetData es) → P (on_getdata s es)
  pub notfound : (es : List InvEntry) → is_after_handshake s.machine.phase ≡ true → IsMessage (message.NotFound es) → P (on_notfound s es)
  pub known : (t : Transaction) → is_after_handshake s.machine.phase ≡ true → IsAsked s t → is_in_pool s.pool t.id ≡ true → P (unchanged (with_requests s (without_id s.wants.asked t.id)))
  pub gained : (t : Transaction) → is_after_handshake s.machine.phase ≡ true → IsAsked s t → is_in_pool s.pool t.id ≡ false → has_byte_room s.pool t.bytes ≡ true
      → P (unchanged (with_requests (record s { pool = s.pool ++ t ∷ [] }) (without_id s.wants.asked t.id)))
  -- pings and pongs
  pub ping : (n : ℕ) → is_after_handshake s.machine.phase ≡ true → IsMessage (message.Ping n) → P (turn_with s (message.Pong n ∷ []))
  pub pong : s.config.role ≡ role.Opener → is_barrier s.machine.phase ≡ true → P (turn_with (with_wants_requested s) (getdata_of s.wants.wanted))
  -- additions
  pub addition : (t : Transaction) → IsAddable s t → P (unchanged (with_pooled s t))
  pub announcement : (t : Transaction) → IsAddable s t → is_listed (open_wants s) t.id ≡ false → is_after_handshake s.machine.phase ≡ true → s.plain ≡ true → P (turn_with (with_pooled s t) (inv_of (t.id ∷ [])))
  pub member : (t : Transaction) → IsAddable s t → is_listed (open_wants s) t.id ≡ false → is_after_handshake s.machine.phase ≡ true → s.plain ≡ false → P (unchanged (with_member (with_pooled s t) t.id))
  -- the start of a round
  pub round : IsReconciling role.Opener s → is_idle s.machine.phase ≡ true → P (after_start s (round_start (initiator_of s) (length s.set)))
  pub plain_round : s.config.role ≡ role.Opener → is_idle s.machine.phase ≡ true → s.plain ≡ true → P (after_start s (plain_start (initiator_of s)))

module _ (s : NodeState) (P : Turn → Type 0) (rows : EachRow s P) where
  -- ---- the handshake

  on_unexpected-rows : (n : Option Name) → P (on_unexpected s n)
  on_unexpected-rows (Some n) = rows.ends (end.Handshake n)
  on_unexpected-rows None = rows.stays

  version_by-rows : (old silent : Bool) (v : VersionMsg) → s.machine.phase ≡ phase.Greeting → P (version_by old silent s v)
  unfolding version_by
  version_by-rows true silent v e = rows.ends (end.OldPeer v.version)
  version_by-rows false true v e = rows.ends end.PeerNoRelay
  version_by-rows false false v e = rows.version e

  in_greeting-rows : (m : Message) → s.machine.phase ≡ phase.Greeting → P (in_greeting s m)
  unfolding in_greeting
  in_greeting-rows (message.Version v) e = version_by-rows (int_lt v.version (pos 70016)) (has_no_relay v.relay) v e
  in_greeting-rows (message.Ping n) e = rows.stays
  in_greeting-rows (message.Pong n) e = rows.stays
  in_greeting-rows other e = on_unexpected-rows (name_of other)

  offer_is : (version salt : ℕ) → IsMessage (message.SendTxRcncl version salt) → (version == 0) ≡ false → IsOffer (record { version = version; salt = salt })
  unfolding is_in_range
  offer_is version salt m some =
      let parts = and_parts (nat_lt version (2 ^ 32)) (nat_lt salt (2 ^ 64)) m.ranged in
      record { least = let apart = eqb-false version 0 some in omega arith; version = ltb-true version (2 ^ 32) parts.0; salt = ltb-true salt (2 ^ 64) parts.1 }

  offer_by-rows : (none again : Bool) (o : Offer) → s.machine.phase ≡ phase.Greeted → (none ≡ false → IsOffer o) → is_some s.peer.offer ≡ again → P (offer_by none again s o)
  unfolding offer_by
  offer_by-rows true again o e sound one = rows.ends end.ZeroReconVersion
  offer_by-rows false true o e sound one = rows.ends (end.Handshake name.SendTxRcncl)
  offer_by-rows false false o e sound one = rows.offer o e (sound refl) (none_is s.peer.offer one)
    where
      none_is : (o : Option Offer) → is_some o ≡ false → o ≡ None
      none_is None h = refl
      none_is (Some o) h = absurd (let apart : true ≡ false = h in cc)

  verack_by-rows : (relays_by_id : Bool) (offer : Option Offer) → s.machine.phase ≡ phase.Greeted → s.peer.relays_by_id ≡ relays_by_id → s.peer.offer ≡ offer → P (verack_by relays_by_id offer s)
  unfolding verack_by
  verack_by-rows false offer e by_id o = rows.ends end.NoWtxidRelay
  verack_by-rows true None e by_id o = rows.plain e by_id o
  verack_by-rows true (Some offer) e by_id o = rows.whole offer e by_id o

  in_greeted-rows : (m : Message) → IsMessage m → s.machine.phase ≡ phase.Greeted → P (in_greeted s m)
  unfolding in_greeted
  in_greeted-rows message.WtxidRelay h e = rows.wtxidrelay e
  in_greeted-rows (message.SendTxRcncl version salt) h e = offer_by-rows (version == 0) (is_some s.peer.offer) (record { version = version; salt = salt }) e (offer_is version salt h) refl
  in_greeted-rows message.Verack h e = verack_by-rows s.peer.relays_by_id s.peer.offer e refl refl
  in_greeted-rows (message.Ping n) h e = rows.stays
  in_greeted-rows (message.Pong n) h e = rows.stays
  in_greeted-rows other h e = on_unexpected-rows (name_of other)

  -- ---- rounds, at an opener

  module _ (n : ℕ) (bytes : List ℕ) (awaits : IsAwaitingSketch s n bytes) where
    on_no_answer-rows : (may : Bool) → has_extension_left s.machine (round_after_sketch s.machine s.set n bytes) n ≡ may → P (after_move s (Ok (on_no_answer may (initiator_of s) (round_after_sketch s.machine s.set n bytes) n (remaining_set n s.set))))
    unfolding on_no_answer
    on_no_answer-rows true e = rows.more n bytes awaits e
    on_no_answer-rows false e = rows.fallback n bytes awaits

    on_decoding-rows : (answer : Option (List ℕ)) → answer_to (round_after_sketch s.machine s.set n bytes) ≡ answer → P (after_move s (Ok (on_decoding answer (initiator_of s) (round_after_sketch s.machine s.set n bytes) n (remaining_set n s.set))))
    unfolding on_decoding
    on_decoding-rows (Some es) e = rows.answer n bytes es awaits e
    on_decoding-rows None e = on_no_answer-rows (has_extension_left s.machine (round_after_sketch s.machine s.set n bytes) n) refl

  value_or_fault-rows : (fault : Option End) (m : Move) → (fault ≡ None → P (after_move s (Ok m))) → P (after_move s (value_or_fault fault m))
  value_or_fault-rows None m h = h refl
  value_or_fault-rows (Some e) m h = rows.ends e

  sketch_by-rows : (o : Option ℕ) (bytes : List ℕ) → requested_extensions s.machine.phase ≡ o → IsTrue (are_bytes bytes) → IsReconciling role.Opener s → P (after_move s (sketch_by (answer_to_sketch o s.machine s.set bytes) o (initiator_of s) s.set bytes))
  unfolding sketch_by
  sketch_by-rows None bytes e ranged opener = rows.ends (end.Misplaced name.Sketch s.machine.phase)
  sketch_by-rows (Some n) bytes e ranged opener =
      value_or_fault-rows (length_fault s.machine n (length bytes)) (after_sketch (answer_to (round_after_sketch s.machine s.set n bytes)) (initiator_of s) s.set n bytes)
      (λ fits. on_decoding-rows n bytes (record { opener = opener; waits = e; fits = fits; ranged = ranged }) (answer_to (round_after_sketch s.machine s.set n bytes)) refl)

  opener_row-rows : (r : Role) (plain : Bool) (n : Name) (row : Result Move End) → s.config.role ≡ r → s.plain ≡ plain → (IsReconciling role.Opener s → P (after_move s row)) → P (opener_row r plain n s row)
  unfolding opener_row
  opener_row-rows role.Opener false n row e f h = h (record { role = e; whole = f })
  opener_row-rows role.Opener true n row e f h = rows.ends (end.Misplaced n s.machine.phase)
  opener_row-rows role.Accepter plain n row e f h = rows.ends (end.Misplaced n s.machine.phase)

  sketch-rows : (bytes : List ℕ) → IsMessage (message.Sketch bytes) → P (opener_row s.config.role s.plain name.Sketch s (opener_sketch (initiator_of s) s.set bytes))
  unfolding is_in_range
  sketch-rows bytes m = opener_row-rows s.config.role s.plain name.Sketch (opener_sketch (initiator_of s) s.set bytes) refl refl (sketch_by-rows (requested_extensions s.machine.phase) bytes refl m.ranged)

  -- ---- rounds, at an accepter

  accepter_row-rows : (r : Role) (plain : Bool) (n : Name) (set : List Member) (row : Result Response End) → s.config.role ≡ r → s.plain ≡ plain → (IsReconciling role.Accepter s → P (after_response s set row)) → P (accepter_row r plain n s set row)
  unfolding accepter_row
  accepter_row-rows role.Accepter false n set row e f h = h (record { role = e; whole = f })
  accepter_row-rows role.Accepter true n set row e f h = rows.ends (end.Misplaced n s.machine.phase)
  accepter_row-rows role.Opener plain n set row e f h = rows.ends (end.Misplaced n s.machine.phase)

  reqrecon_by-rows : (idle : Bool) (size q : ℕ) → is_idle s.machine.phase ≡ idle → IsReconciling role.Accepter s → P (after_response s [] (reqrecon_by idle s.machine s.set size q))
  unfolding reqrecon_by
  reqrecon_by-rows true size q e accepter = rows.first size q accepter e
  reqrecon_by-rows false size q e accepter = rows.ends (end.Misplaced name.ReqRecon s.machine.phase)

  extension_by-rows : (may : Bool) (n : ℕ) → nat_lt n (extensions_allowed s.machine) ≡ may → sent_extensions s.machine.phase ≡ Some n → IsReconciling role.Accepter s → P (after_response s s.set (extension_by may s.machine n))
  unfolding extension_by
  extension_by-rows true n e g accepter = rows.extension n accepter g e
  extension_by-rows false n e g accepter = rows.ends (end.Misplaced name.ReqSketchExt s.machine.phase)

  extension_after-rows : (o : Option ℕ) → sent_extensions s.machine.phase ≡ o → IsReconciling role.Accepter s → P (after_response s s.set (extension_after o s.machine))
  unfolding extension_after
  extension_after-rows None e accepter = rows.ends (end.Misplaced name.ReqSketchExt s.machine.phase)
  extension_after-rows (Some n) e accepter = extension_by-rows (nat_lt n (extensions_allowed s.machine)) n refl e accepter

  diff_by-rows : (fault : Option End) (n : ℕ) (success : Bool) (asks : List ℕ) → diff_fault success s.machine.round asks ≡ fault → sent_extensions s.machine.phase ≡ Some n → IsMessage (message.ReconcilDiff success asks) → IsReconciling role.Accepter s
      → P (after_response s s.set (diff_by fault s.machine n success asks))
  unfolding diff_by
  diff_by-rows (Some e) n success asks f g m accepter = rows.ends e
  diff_by-rows None n success asks f g m accepter = rows.difference n success asks accepter g f m

  diff_after-rows : (o : Option ℕ) (success : Bool) (asks : List ℕ) → sent_extensions s.machine.phase ≡ o → IsMessage (message.ReconcilDiff success asks) → IsReconciling role.Accepter s → P (after_response s s.set (diff_after o s.machine success asks))
  unfolding diff_after
  diff_after-rows None success asks e m accepter = rows.ends (end.Misplaced name.ReconcilDiff s.machine.phase)
  diff_after-rows (Some n) success asks e m accepter = diff_by-rows (diff_fault success s.machine.round asks) n success asks refl e m accepter

  -- ---- inventories, transactions, and pongs

  inv_by-rows : (full : Bool) (r : Role) (es : List InvEntry) → s.config.role ≡ r → is_after_handshake s.machine.phase ≡ true → IsMessage (message.Inv es) → nat_lt POOL_LIMIT (taken_room s + length (unknown_ids s es)) ≡ full
      → P (inv_by full r s (without_announced s.set es) (unknown_ids s es))
  unfolding inv_by
  inv_by-rows true r es e past m room = rows.ends end.PoolFull
  inv_by-rows false role.Opener es e past m room = rows.wants es (record { role = e; past = past; sound = m; room = room })
  inv_by-rows false role.Accepter es e past m room = rows.request es (record { role = e; past = past; sound = m; room = room })

  transaction_by-rows : (asked pooled fits : Bool) (t : Transaction) → is_after_handshake s.machine.phase ≡ true → IsTransaction t → is_listed s.wants.asked t.id ≡ asked → is_in_pool s.pool t.id ≡ pooled → has_byte_room s.pool t.bytes ≡ fits → P (transaction_by asked pooled fits s t)
  unfolding transaction_by
  transaction_by-rows false pooled fits t past h a p f = rows.stays
  transaction_by-rows true true fits t past h a p f = rows.known t past (record { sound = h; asked = a }) p
  transaction_by-rows true false false t past h a p f = rows.ends end.PoolFull
  transaction_by-rows true false true t past h a p f = rows.gained t past (record { sound = h; asked = a }) p f

  tx_is : (tx : List ℕ) → IsMessage (message.Tx tx) → IsTransaction (transaction_of tx)
  unfolding is_within_limits is_in_range
  tx_is tx m = record { named = refl; sized = m.within; bytes = m.ranged }

  pong_by-rows : (r : Role) (ends : Bool) (n : ℕ) → s.config.role ≡ r → is_barrier_end (initiator_of s) n ≡ ends → P (pong_by r ends s)
  unfolding pong_by
  pong_by-rows role.Opener true n e f = rows.pong e (and_parts (is_barrier s.machine.phase) (n == s.requests.begun) f).0
  pong_by-rows role.Opener false n e f = rows.stays
  pong_by-rows role.Accepter ends n e f = rows.stays

  -- ---- messages

  in_relay-rows : (m : Message) → IsMessage m → is_after_handshake s.machine.phase ≡ true → P (in_relay s m)
  unfolding in_relay
  in_relay-rows (message.Version v) h past = rows.ends (end.Handshake name.Version)
  in_relay-rows message.Verack h past = rows.ends (end.Handshake name.Verack)
  in_relay-rows message.WtxidRelay h past = rows.ends (end.Handshake name.WtxidRelay)
  in_relay-rows (message.SendTxRcncl version salt) h past = rows.ends (end.Handshake name.SendTxRcncl)
  in_relay-rows (message.ReqRecon size q) h past =
      accepter_row-rows s.config.role s.plain name.ReqRecon [] (accepter_reqrecon s.machine s.set size q) refl refl (reqrecon_by-rows (is_idle s.machine.phase) size q refl)
  in_relay-rows (message.Sketch bytes) h past = sketch-rows bytes h
  in_relay-rows message.ReqSketchExt h past = accepter_row-rows s.config.role s.plain name.ReqSketchExt s.set (accepter_extension s.machine) refl refl (extension_after-rows (sent_extensions s.machine.phase) refl)
  in_relay-rows (message.ReconcilDiff success asks) h past =
      accepter_row-rows s.config.role s.plain name.ReconcilDiff s.set (accepter_diff s.machine success asks) refl refl (diff_after-rows (sent_extensions s.machine.phase) success asks refl h)
  in_relay-rows (message.Inv es) h past = inv_by-rows (nat_lt POOL_LIMIT (taken_room s + length (unknown_ids s es))) s.config.role es refl past h refl
  in_relay-rows (message.GetData es) h past = rows.getdata es past h
  in_relay-rows (message.NotFound es) h past = rows.notfound es past h
  in_relay-rows (message.Tx tx) h past = transaction_by-rows (is_listed s.wants.asked (transaction_of tx).id) (is_in_pool s.pool (transaction_of tx).id) (has_byte_room s.pool (transaction_of tx).bytes) (transaction_of tx) past (tx_is tx h) refl refl refl
  in_relay-rows (message.Ping n) h past = rows.ping n past h
  in_relay-rows (message.Pong n) h past = pong_by-rows s.config.role (is_barrier_end (initiator_of s) n) n refl refl
  in_relay-rows (message.Other command payload) h past = rows.stays

  in_phase-rows : (p : Phase) (m : Message) → IsMessage m → s.machine.phase ≡ p → P (in_phase p s m)
  unfolding in_phase is_after_handshake
  in_phase-rows phase.Greeting m h e = in_greeting-rows m e
  in_phase-rows phase.Greeted m h e = in_greeted-rows m h e
  in_phase-rows other m h e = in_relay-rows m h (ap is_after_handshake e)

  pub on_message-rows : (m : Message) → IsMessage m → P (on_message s m)
  on_message-rows m h = in_phase-rows s.machine.phase m h refl

  -- ---- additions, and the start of a round

  after_addition_by-rows : (known past plain : Bool) (t : Transaction) → IsAddable s t → is_listed (open_wants s) t.id ≡ known → is_after_handshake s.machine.phase ≡ past → s.plain ≡ plain → P (after_addition_by known past plain (with_pooled s t) t.id)
  unfolding after_addition_by
  after_addition_by-rows true past plain t h k e f = rows.addition t h
  after_addition_by-rows false false plain t h k e f = rows.addition t h
  after_addition_by-rows false true true t h k e f = rows.announcement t h k e f
  after_addition_by-rows false true false t h k e f = rows.member t h k e f

  on_addition_by-rows : (ended present full : Bool) (t : Transaction) → IsTransaction t → is_in_pool s.pool t.id ≡ present → is_full s t ≡ full → P (on_addition_by ended present full s t).turn
  unfolding on_addition_by
  on_addition_by-rows true present full t h e f = rows.stays
  on_addition_by-rows false true full t h e f = rows.stays
  on_addition_by-rows false false true t h e f = rows.stays
  on_addition_by-rows false false false t h e f = after_addition_by-rows (is_listed (open_wants s) t.id) (is_after_handshake s.machine.phase) s.plain t (record { sound = h; absent = e; room = f }) refl refl refl

  pub on_addition-rows : (tx : List ℕ) → IsTransaction (transaction_of tx) → P (on_addition s tx).turn
  on_addition-rows tx h = on_addition_by-rows (is_some s.ended) (is_in_pool s.pool (transaction_of tx).id) (is_full s (transaction_of tx)) (transaction_of tx) h refl refl

  round_by-rows : (plain : Bool) → s.plain ≡ plain → s.config.role ≡ role.Opener → is_idle s.machine.phase ≡ true → P (round_by plain s)
  unfolding round_by
  round_by-rows false e r idle = rows.round (record { role = r; whole = e }) idle
  round_by-rows true e r idle = rows.plain_round r idle e

  on_start_by-rows : (e : Option End) (r : Role) (idle : Bool) → s.config.role ≡ r → is_idle s.machine.phase ≡ idle → P (on_start_by e r idle s).turn
  unfolding on_start_by
  on_start_by-rows None role.Opener true e f = round_by-rows s.plain refl e f
  on_start_by-rows None role.Opener false e f = rows.stays
  on_start_by-rows None role.Accepter idle e f = rows.stays
  on_start_by-rows (Some x) r idle e f = rows.stays

  pub on_start-rows : P (on_start s).turn
  on_start-rows = on_start_by-rows s.ended s.config.role (is_idle s.machine.phase) refl refl
