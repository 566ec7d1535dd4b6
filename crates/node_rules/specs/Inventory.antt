-- Announcements, requests and transactions, which both roles take alike once the handshake is over.
use Rattle.std.specs.Prelude.{ℕ, ◌+◌, ◌==◌, ◌&&◌, ◌||◌, nat_lt, not, Bool, true, false, if◌then◌else◌, List, [], ◌∷◌, ◌++◌, length, map, filter, Some, None}
use Rattle.std.specs.declared.option.Option.{Option}
use Rattle.base_types.specs.declared.lists.Hash32.{Hash32}
use Rattle.wire_rules.specs.declared.message.InvEntry.{InvEntry}
use Rattle.wire_rules.specs.declared.message.Message.{Message}
use Rattle.wire_rules.specs.declared.message.Message.TheVariants as message
use Rattle.pool_rules.specs.Pools.{Transaction, transaction_of, is_listed, without_id, is_in_pool, bytes_of_id, has_byte_room}
use Rattle.pool_rules.specs.Snapshots.{Member}
use Rattle.pool_rules.specs.declared.limits.TheConstants.{POOL_LIMIT}
use Rattle.node_rules.specs.Barrier.{phase_after_fetch}
use Rattle.node_rules.specs.State.{NodeState, open_wants, taken_room}
use Rattle.node_rules.specs.Turns.{Turn, unchanged, turn_with, refusal, getdata_of, notfound_of}
use Rattle.node_rules.specs.declared.config.Role.{Role}
use Rattle.node_rules.specs.declared.config.Role.TheVariants as role
use Rattle.node_rules.specs.declared.end.End.TheVariants as end

-- whether an entry names a transaction by its wtxid (BIP 339)
abbrev pub is_tx_entry : InvEntry → Bool
is_tx_entry e = e.kind == 5

-- the ids of such entries
abbrev pub wtxids_of : List InvEntry → List Hash32
wtxids_of es = map (λ e. e.id) (filter is_tx_entry es)

-- ---- an announcement

-- the ids that the test doesn't know, each once
unfoldable pub new_ids : (Hash32 → Bool) → List Hash32 → List Hash32
new_ids known [] = []
new_ids known (id ∷ ids) = if known id then new_ids known ids else id ∷ without_id (new_ids known ids) id

-- whether a node has an id, or has it among its open wants
abbrev pub is_known : NodeState → Hash32 → Bool
is_known s id = is_in_pool s.pool id || is_listed (open_wants s) id

abbrev pub unknown_ids : NodeState → List InvEntry → List Hash32
unknown_ids s es = new_ids (is_known s) (wtxids_of es)

-- the set without the ids that the peer announced
abbrev pub without_announced : List Member → List InvEntry → List Member
without_announced set es = filter (λ m. not (is_listed (wtxids_of es) m.id)) set

abbrev pub with_wanted : NodeState → List Member → List Hash32 → NodeState
with_wanted s set wanted = record s { set = set; wants = record s.wants { wanted = wanted } }

abbrev pub with_asked : NodeState → List Member → List Hash32 → NodeState
with_asked s set asked = record s { set = set; wants = record s.wants { asked = asked } }

-- by whether the new ids find no room, and by the role: an opener wants them until its next round is over, an accepter asks
-- for them at once
unfoldable pub inv_by : Bool → Role → NodeState → List Member → List Hash32 → Turn
inv_by true role s set ids = refusal s end.PoolFull
inv_by false role.Opener s set ids = unchanged (with_wanted s set (s.wants.wanted ++ ids))
inv_by false role.Accepter s set ids = turn_with (with_asked s set (s.wants.asked ++ ids)) (getdata_of ids)

abbrev pub on_inv : NodeState → List InvEntry → Turn
on_inv s es = inv_by (nat_lt POOL_LIMIT (taken_room s + length (unknown_ids s es))) s.config.role s (without_announced s.set es) (unknown_ids s es)

-- ---- a request

-- what a request has come to: the ids served, the transactions sent, and the entries that can't be served
pub record Serving : Type 0 where
  pub served : List Hash32
  pub sent : List Message
  pub missing : List InvEntry

-- by whether an entry may be served, and by the transaction of its id
unfoldable pub serving_by : Bool → Option (List ℕ) → InvEntry → Serving → Serving
serving_by true (Some tx) e v = record v { served = v.served ++ e.id ∷ []; sent = v.sent ++ message.Tx tx ∷ [] }
serving_by true None e v = record v { missing = v.missing ++ e ∷ [] }
serving_by false tx e v = record v { missing = v.missing ++ e ∷ [] }

-- one entry more. Each transaction is served once
abbrev pub serving_after_entry : List Transaction → Serving → InvEntry → Serving
serving_after_entry pool v e = serving_by (is_tx_entry e && not (is_listed v.served e.id)) (bytes_of_id pool e.id) e v

unfoldable pub serving_after : List Transaction → Serving → List InvEntry → Serving
serving_after pool v [] = v
serving_after pool v (e ∷ es) = serving_after pool (serving_after_entry pool v e) es

abbrev pub serving_of : NodeState → List InvEntry → Serving
serving_of s es = serving_after s.pool (record { served = s.wants.served; sent = []; missing = [] }) es

abbrev pub with_served : NodeState → List Hash32 → NodeState
with_served s served = record s { wants = record s.wants { served = served } }

abbrev pub on_getdata : NodeState → List InvEntry → Turn
on_getdata s es = turn_with (with_served s (serving_of s es).served) ((serving_of s es).sent ++ notfound_of (serving_of s es).missing)

-- ---- what was asked for

-- these ids are still asked for. Where there are none, an opener's round is over
abbrev pub with_requests : NodeState → List Hash32 → NodeState
with_requests s asked = record s {
  wants = record s.wants { asked = asked };
  machine = record s.machine { phase = phase_after_fetch asked s.machine.phase };
}

-- a transaction, by whether it was asked for, whether the pool has it, and whether its bytes fit
unfoldable pub transaction_by : Bool → Bool → Bool → NodeState → Transaction → Turn
transaction_by false pooled fits s t = unchanged s
transaction_by true true fits s t = unchanged (with_requests s (without_id s.wants.asked t.id))
transaction_by true false false s t = refusal s end.PoolFull
transaction_by true false true s t = unchanged (with_requests (record s { pool = s.pool ++ t ∷ [] }) (without_id s.wants.asked t.id))

abbrev pub on_transaction : NodeState → Transaction → Turn
on_transaction s t = transaction_by (is_listed s.wants.asked t.id) (is_in_pool s.pool t.id) (has_byte_room s.pool t.bytes) s t

abbrev pub on_tx : NodeState → List ℕ → Turn
on_tx s tx = on_transaction s (transaction_of tx)

-- what the peer doesn't have is asked for no more
abbrev pub on_notfound : NodeState → List InvEntry → Turn
on_notfound s es = unchanged (with_requests s (filter (λ id. not (is_listed (wtxids_of es) id)) s.wants.asked))
