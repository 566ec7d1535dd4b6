-- What a step brings into a node's pool: what the message carries, or what is added.
use Rattle.std.proofs.Common.{◌≡◌, ℕ, ◌+◌, ◌==◌, nat_lt, int_lt, pos, is_some, length, Bool, true, false, List, [], ◌∷◌, ◌++◌, Option, Some, None, Result, Ok, Err, refl, sym, ap, ◌∙◌, append-nil, append_assoc}
use Rattle.std.specs.List.{AllByRecursion}
use Rattle.base_types.specs.declared.lists.Hash32.{Hash32}
use Rattle.id_rules.proofs.Lists.{all_append, all_left, all_right}
use Rattle.wire_rules.specs.Commands.{name_of}
use Rattle.wire_rules.specs.declared.message.Message.{Message}
use Rattle.wire_rules.specs.declared.message.Message.TheVariants as message
use Rattle.wire_rules.specs.declared.message.VersionMsg.{VersionMsg}
use Rattle.wire_rules.specs.declared.name.Name.{Name}
use Rattle.wire_rules.specs.declared.name.Name.TheVariants as name
use Rattle.wire_rules.specs.declared.phase.Phase.{Phase}
use Rattle.wire_rules.specs.declared.phase.Phase.TheVariants as phase
use Rattle.pool_rules.specs.Pools.{Transaction, transaction_of, is_listed, is_in_pool, has_byte_room}
use Rattle.pool_rules.specs.Snapshots.{Member}
use Rattle.pool_rules.specs.declared.limits.TheConstants.{POOL_LIMIT}
use Rattle.node_rules.specs.Accepter.{accepter_reqrecon, accepter_extension, accepter_diff}
use Rattle.node_rules.specs.Additions.{after_addition_by, with_pooled, on_addition_by, on_addition, is_full}
use Rattle.node_rules.specs.Barrier.{is_barrier_end, pong_by}
use Rattle.node_rules.specs.Handshake.{version_by, on_unexpected, in_greeting, offer_by, verack_by, in_greeted, has_no_relay}
use Rattle.node_rules.specs.Inventory.{unknown_ids, without_announced, inv_by, transaction_by}
use Rattle.node_rules.specs.Opener.{opener_sketch}
use Rattle.node_rules.specs.Stages.{is_after_handshake}
use Rattle.node_rules.specs.State.{NodeState, Offer, initiator_of, open_wants, taken_room}
use Rattle.node_rules.specs.Steps.{opener_row, accepter_row, in_relay, in_phase, on_message, on_messages, next_unless_ended}
use Rattle.node_rules.specs.Turns.{Move, Response, Turn, unchanged, after_move, after_response}
use Rattle.node_rules.specs.declared.config.Role.{Role}
use Rattle.node_rules.specs.declared.config.Role.TheVariants as role
use Rattle.node_rules.specs.declared.end.End.{End}
use Rattle.pair_invariant_rules.specs.Wants.{carried_transactions_of, carried_transactions}

pub record Brings (P : Transaction → Type 0) (s : NodeState) (t : Turn) : Type 0 where
  pub more : List Transaction
  pub grown : t.state.pool ≡ s.pool ++ more
  pub each : AllByRecursion P more

module _ (P : Transaction → Type 0) (s : NodeState) where
  -- a row that leaves the pool as it is
  none : (t : Turn) → t.state.pool ≡ s.pool → Brings P s t
  none t e = record { more = []; grown = e ∙ sym (append-nil s.pool); each = tt }

  on_unexpected-brings : (n : Option Name) → Brings P s (on_unexpected s n)
  on_unexpected-brings (Some n) = none _ refl
  on_unexpected-brings None = none _ refl

  version_by-brings : (old silent : Bool) (v : VersionMsg) → Brings P s (version_by old silent s v)
  unfolding version_by
  version_by-brings true silent v = none _ refl
  version_by-brings false true v = none _ refl
  version_by-brings false false v = none _ refl

  in_greeting-brings : (m : Message) → Brings P s (in_greeting s m)
  unfolding in_greeting
  in_greeting-brings (message.Version v) = version_by-brings (int_lt v.version (pos 70016)) (has_no_relay v.relay) v
  in_greeting-brings (message.Ping n) = none _ refl
  in_greeting-brings (message.Pong n) = none _ refl
  in_greeting-brings other = on_unexpected-brings (name_of other)

  offer_by-brings : (zero again : Bool) (offer : Offer) → Brings P s (offer_by zero again s offer)
  unfolding offer_by
  offer_by-brings true again offer = none _ refl
  offer_by-brings false true offer = none _ refl
  offer_by-brings false false offer = none _ refl

  verack_by-brings : (noted : Bool) (offer : Option Offer) → Brings P s (verack_by noted offer s)
  unfolding verack_by
  verack_by-brings false offer = none _ refl
  verack_by-brings true None = none _ refl
  verack_by-brings true (Some offer) = none _ refl

  in_greeted-brings : (m : Message) → Brings P s (in_greeted s m)
  unfolding in_greeted
  in_greeted-brings message.WtxidRelay = none _ refl
  in_greeted-brings (message.SendTxRcncl version salt) = offer_by-brings (version == 0) (is_some s.peer.offer) (record { version = version; salt = salt })
  in_greeted-brings message.Verack = verack_by-brings s.peer.relays_by_id s.peer.offer
  in_greeted-brings (message.Ping n) = none _ refl
  in_greeted-brings (message.Pong n) = none _ refl
  in_greeted-brings other = on_unexpected-brings (name_of other)

  after_move-brings : (row : Result Move End) → Brings P s (after_move s row)
  after_move-brings (Ok m) = none _ refl
  after_move-brings (Err e) = none _ refl

  opener_row-brings : (r : Role) (plain : Bool) (n : Name) (row : Result Move End) → Brings P s (opener_row r plain n s row)
  unfolding opener_row
  opener_row-brings role.Opener false n row = after_move-brings row
  opener_row-brings role.Opener true n row = none _ refl
  opener_row-brings role.Accepter plain n row = none _ refl

  after_response-brings : (set : List Member) (row : Result Response End) → Brings P s (after_response s set row)
  after_response-brings set (Ok r) = none _ refl
  after_response-brings set (Err e) = none _ refl

  accepter_row-brings : (r : Role) (plain : Bool) (n : Name) (set : List Member) (row : Result Response End) → Brings P s (accepter_row r plain n s set row)
  unfolding accepter_row
  accepter_row-brings role.Accepter false n set row = after_response-brings set row
  accepter_row-brings role.Accepter true n set row = none _ refl
  accepter_row-brings role.Opener plain n set row = none _ refl

  pong_by-brings : (r : Role) (ends : Bool) → Brings P s (pong_by r ends s)
  unfolding pong_by
  pong_by-brings role.Opener true = none _ refl
  pong_by-brings role.Opener false = none _ refl
  pong_by-brings role.Accepter ends = none _ refl

  inv_by-brings : (full : Bool) (r : Role) (set : List Member) (ids : List Hash32) → Brings P s (inv_by full r s set ids)
  unfolding inv_by
  inv_by-brings true r set ids = none _ refl
  inv_by-brings false role.Opener set ids = none _ refl
  inv_by-brings false role.Accepter set ids = none _ refl

  transaction_by-brings : (asked pooled fits : Bool) (t : Transaction) → P t → Brings P s (transaction_by asked pooled fits s t)
  unfolding transaction_by
  transaction_by-brings false pooled fits t h = none _ refl
  transaction_by-brings true true fits t h = none _ refl
  transaction_by-brings true false false t h = none _ refl
  transaction_by-brings true false true t h = record { more = t ∷ []; grown = refl; each = (h, tt) }

  in_relay-brings : (m : Message) → AllByRecursion P (carried_transactions_of m) → Brings P s (in_relay s m)
  unfolding in_relay carried_transactions_of
  in_relay-brings (message.Version v) h = none _ refl
  in_relay-brings message.Verack h = none _ refl
  in_relay-brings message.WtxidRelay h = none _ refl
  in_relay-brings (message.SendTxRcncl version salt) h = none _ refl
  in_relay-brings (message.ReqRecon size q) h = accepter_row-brings s.config.role s.plain name.ReqRecon [] (accepter_reqrecon s.machine s.set size q)
  in_relay-brings (message.Sketch bytes) h = opener_row-brings s.config.role s.plain name.Sketch (opener_sketch (initiator_of s) s.set bytes)
  in_relay-brings message.ReqSketchExt h = accepter_row-brings s.config.role s.plain name.ReqSketchExt s.set (accepter_extension s.machine)
  in_relay-brings (message.ReconcilDiff success asks) h = accepter_row-brings s.config.role s.plain name.ReconcilDiff s.set (accepter_diff s.machine success asks)
  in_relay-brings (message.Inv es) h = inv_by-brings (nat_lt POOL_LIMIT (taken_room s + length (unknown_ids s es))) s.config.role (without_announced s.set es) (unknown_ids s es)
  in_relay-brings (message.GetData es) h = none _ refl
  in_relay-brings (message.NotFound es) h = none _ refl
  in_relay-brings (message.Tx tx) h = transaction_by-brings (is_listed s.wants.asked (transaction_of tx).id) (is_in_pool s.pool (transaction_of tx).id) (has_byte_room s.pool (transaction_of tx).bytes) (transaction_of tx) h.0
  in_relay-brings (message.Ping n) h = none _ refl
  in_relay-brings (message.Pong n) h = pong_by-brings s.config.role (is_barrier_end (initiator_of s) n)
  in_relay-brings (message.Other command payload) h = none _ refl

  in_phase-brings : (p : Phase) (m : Message) → AllByRecursion P (carried_transactions_of m) → Brings P s (in_phase p s m)
  unfolding in_phase
  in_phase-brings phase.Greeting m h = in_greeting-brings m
  in_phase-brings phase.Greeted m h = in_greeted-brings m
  in_phase-brings other m h = in_relay-brings m h

  -- ---- an addition

  after_addition_by-brings : (known past plain : Bool) (t : Transaction) → P t → Brings P s (after_addition_by known past plain (with_pooled s t) t.id)
  unfolding after_addition_by
  after_addition_by-brings true past plain t h = record { more = t ∷ []; grown = refl; each = (h, tt) }
  after_addition_by-brings false false plain t h = record { more = t ∷ []; grown = refl; each = (h, tt) }
  after_addition_by-brings false true true t h = record { more = t ∷ []; grown = refl; each = (h, tt) }
  after_addition_by-brings false true false t h = record { more = t ∷ []; grown = refl; each = (h, tt) }

  on_addition_by-brings : (ended present full : Bool) (t : Transaction) → P t → Brings P s (on_addition_by ended present full s t).turn
  unfolding on_addition_by
  on_addition_by-brings true present full t h = none _ refl
  on_addition_by-brings false true full t h = none _ refl
  on_addition_by-brings false false true t h = none _ refl
  on_addition_by-brings false false false t h = after_addition_by-brings (is_listed (open_wants s) t.id) (is_after_handshake s.machine.phase) s.plain t h

  pub on_addition-brings : (tx : List ℕ) → P (transaction_of tx) → Brings P s (on_addition s tx).turn
  on_addition-brings tx h = on_addition_by-brings (is_some s.ended) (is_in_pool s.pool (transaction_of tx).id) (is_full s (transaction_of tx)) (transaction_of tx) h

-- ---- several messages

module _ (P : Transaction → Type 0) where
  both_bring : (s : NodeState) (t u : Turn) (out : List Message) → Brings P s t → Brings P t.state u → Brings P s (record u { out = out })
  both_bring s t u out first second = record {
    more = first.more ++ second.more;
    grown = second.grown ∙ ap (λ pool. pool ++ second.more) first.grown ∙ append_assoc s.pool first.more second.more;
    each = all_append P first.more second.more first.each second.each;
  }

  next_unless_ended-brings : (o : Option End) (s : NodeState) (t : Turn) (next : NodeState → Turn) → Brings P s t → Brings P t.state (next t.state) → Brings P s (next_unless_ended o t next)
  unfolding next_unless_ended
  next_unless_ended-brings (Some e) s t next first later = first
  next_unless_ended-brings None s t next first later = both_bring s t (next t.state) (t.out ++ (next t.state).out) first later

  pub on_messages-brings : (ms : List Message) (s : NodeState) → AllByRecursion P (carried_transactions ms) → Brings P s (on_messages s ms)
  unfolding on_messages
  on_messages-brings [] s h = none P s (unchanged s) refl
  on_messages-brings (m ∷ ms) s h =
      next_unless_ended-brings (on_message s m).state.ended s (on_message s m) (λ next. on_messages next ms)
      (in_phase-brings P s s.machine.phase m (all_left P (carried_transactions_of m) (carried_transactions ms) h)) (on_messages-brings ms (on_message s m).state (all_right P (carried_transactions_of m) (carried_transactions ms) h))
