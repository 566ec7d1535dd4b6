-- A node behind the handshake stays there, keeps what it noted, and says nothing of a handshake.
use Rattle.std.proofs.Common.{◌≡◌, ℕ, zero, suc, Bool, true, false, List, [], ◌∷◌, ◌++◌, not, ◌&&◌, Option, Some, None, refl, sym, ap, ◌∙◌}
use Rattle.std.specs.List.{AllByRecursion}
use Rattle.base_types.specs.declared.lists.Hash32.{Hash32}
use Rattle.id_rules.proofs.Lists.{all_append}
use Rattle.wire_rules.specs.Limits.{IsMessage}
use Rattle.wire_rules.specs.declared.message.InvEntry.{InvEntry}
use Rattle.wire_rules.specs.declared.message.Message.{Message}
use Rattle.wire_rules.specs.declared.message.Message.TheVariants as message
use Rattle.wire_rules.specs.declared.phase.Phase.{Phase}
use Rattle.wire_rules.specs.declared.phase.Phase.TheVariants as phase
use Rattle.pool_rules.specs.Pools.{Transaction, is_listed, bytes_of_id}
use Rattle.node_rules.specs.Barrier.{phase_after_fetch, phase_after_barrier}
use Rattle.node_rules.specs.Inventory.{Serving, serving_after, serving_after_entry, serving_by, serving_of, is_tx_entry}
use Rattle.node_rules.specs.Stages.{waiting_phase, sent_phase}
use Rattle.node_rules.specs.State.{NodeState}
use Rattle.node_rules.specs.Steps.{in_relay, in_phase, on_message, on_start}
use Rattle.node_rules.specs.Turns.{Turn, inv_of, getdata_of, notfound_of}
use Rattle.invariant_laws.proofs.Rows.{EachRow, on_message-rows, on_start-rows}
use Rattle.pair_invariant_rules.specs.Topics.{IsRelayMessage, topic_of, is_handshake}
use Rattle.pair_invariant_rules.specs.Handshake.{New, Met, Past, stage_of}

pub record Stays (s : NodeState) (t : Turn) : Type 0 where
  pub config : t.state.config ≡ s.config
  pub peer : t.state.peer ≡ s.peer
  pub plain : t.state.plain ≡ s.plain
  pub stage : stage_of t.state.machine.phase ≡ Past
  pub out : AllByRecursion IsRelayMessage t.out

-- ---- phases

pub not_new : (p : Phase) → p ≡ phase.Greeting → stage_of p ≡ Past → ⊥
unfolding stage_of
not_new p e h = let no_stage : New ≡ Past = ap stage_of (sym e) ∙ h in cc

pub not_met : (p : Phase) → p ≡ phase.Greeted → stage_of p ≡ Past → ⊥
unfolding stage_of
not_met p e h = let no_stage : Met ≡ Past = ap stage_of (sym e) ∙ h in cc

pub waiting_past : (n : ℕ) → stage_of (waiting_phase n) ≡ Past
unfolding stage_of waiting_phase
waiting_past zero = refl
waiting_past (suc zero) = refl
waiting_past (suc (suc n)) = refl

pub sent_past : (n : ℕ) → stage_of (sent_phase n) ≡ Past
unfolding stage_of sent_phase
sent_past zero = refl
sent_past (suc zero) = refl
sent_past (suc (suc n)) = refl

fetch_past : (ids : List Hash32) (p : Phase) → stage_of p ≡ Past → stage_of (phase_after_fetch ids p) ≡ Past
unfolding stage_of phase_after_fetch
fetch_past [] phase.Fetching h = refl
fetch_past ids other h = h

pub barrier_past : (ids : List Hash32) → stage_of (phase_after_barrier ids) ≡ Past
unfolding stage_of phase_after_barrier
barrier_past [] = refl
barrier_past (id ∷ ids) = refl

-- ---- what is sent

pub inv_of-plain : (ids : List Hash32) → AllByRecursion IsRelayMessage (inv_of ids)
unfolding topic_of is_handshake
inv_of-plain [] = tt
inv_of-plain (id ∷ ids) = (record { later = refl }, tt)

getdata_of-plain : (ids : List Hash32) → AllByRecursion IsRelayMessage (getdata_of ids)
unfolding topic_of is_handshake
getdata_of-plain [] = tt
getdata_of-plain (id ∷ ids) = (record { later = refl }, tt)

notfound_of-plain : (es : List InvEntry) → AllByRecursion IsRelayMessage (notfound_of es)
unfolding topic_of is_handshake
notfound_of-plain [] = tt
notfound_of-plain (e ∷ es) = (record { later = refl }, tt)

tx_plain : (tx : List ℕ) → IsRelayMessage (message.Tx tx)
unfolding topic_of is_handshake
tx_plain tx = record { later = refl }

-- the end of an opener's round
end_plain : (success : Bool) (asks : List ℕ) (ids : List Hash32) (n : ℕ) → AllByRecursion IsRelayMessage (message.ReconcilDiff success asks ∷ (inv_of ids ++ message.Ping n ∷ []))
unfolding topic_of is_handshake
end_plain success asks ids n = (record { later = refl }, all_append IsRelayMessage (inv_of ids) (message.Ping n ∷ []) (inv_of-plain ids) (record { later = refl }, tt))

serving_by-plain : (may : Bool) (tx : Option (List ℕ)) (e : InvEntry) (v : Serving) → AllByRecursion IsRelayMessage v.sent → AllByRecursion IsRelayMessage (serving_by may tx e v).sent
unfolding serving_by
serving_by-plain true (Some tx) e v h = all_append IsRelayMessage v.sent (message.Tx tx ∷ []) h (tx_plain tx, tt)
serving_by-plain true None e v h = h
serving_by-plain false tx e v h = h

serving_after-plain : (pool : List Transaction) (v : Serving) (es : List InvEntry) → AllByRecursion IsRelayMessage v.sent → AllByRecursion IsRelayMessage (serving_after pool v es).sent
unfolding serving_after
serving_after-plain pool v [] h = h
serving_after-plain pool v (e ∷ es) h =
    serving_after-plain pool (serving_after_entry pool v e) es (serving_by-plain (is_tx_entry e && not (is_listed v.served e.id)) (bytes_of_id pool e.id) e v h)

-- ---- the rows

module _ (s : NodeState) (past : stage_of s.machine.phase ≡ Past) where
  quiet : (t : Turn) → t.state.config ≡ s.config → t.state.peer ≡ s.peer → t.state.plain ≡ s.plain → stage_of t.state.machine.phase ≡ Past → AllByRecursion IsRelayMessage t.out → Stays s t
  quiet t c p w f o = record { config = c; peer = p; plain = w; stage = f; out = o }

  each_stays : EachRow s (Stays s)
  unfolding stage_of topic_of is_handshake
  each_stays = record {
    stays = quiet _ refl refl refl past tt;
    ends = λ e. quiet _ refl refl refl past tt;
    version = λ e. absurd (not_new s.machine.phase e past);
    wtxidrelay = λ e. absurd (not_met s.machine.phase e past);
    offer = λ o e is none. absurd (not_met s.machine.phase e past);
    plain = λ e by_id none. absurd (not_met s.machine.phase e past);
    whole = λ o e by_id some. absurd (not_met s.machine.phase e past);
    answer = λ n bytes es a e. quiet _ refl refl refl refl (end_plain true _ _ _);
    more = λ n bytes a e. quiet _ refl refl refl (waiting_past (suc n)) (record { later = refl }, tt);
    fallback = λ n bytes a. quiet _ refl refl refl refl (end_plain false [] _ _);
    first = λ size q a e. quiet _ refl refl refl (sent_past 0) (record { later = refl }, tt);
    extension = λ n a g e. quiet _ refl refl refl (sent_past (suc n)) (record { later = refl }, tt);
    difference = λ n success asks a g e m. quiet _ refl refl refl refl (inv_of-plain _);
    wants = λ es n. quiet _ refl refl refl past tt;
    request = λ es n. quiet _ refl refl refl past (getdata_of-plain _);
    getdata = λ es p m. quiet _ refl refl refl past
        (all_append IsRelayMessage (serving_of s es).sent (notfound_of (serving_of s es).missing) (serving_after-plain s.pool (record { served = s.wants.served; sent = []; missing = [] }) es tt) (notfound_of-plain (serving_of s es).missing));
    notfound = λ es p m. quiet _ refl refl refl (fetch_past _ s.machine.phase past) tt;
    known = λ t p a k. quiet _ refl refl refl (fetch_past _ s.machine.phase past) tt;
    gained = λ t p a k f. quiet _ refl refl refl (fetch_past _ s.machine.phase past) tt;
    ping = λ n p m. quiet _ refl refl refl past (record { later = refl }, tt);
    pong = λ r e. quiet _ refl refl refl (barrier_past s.wants.wanted) (getdata_of-plain s.wants.wanted);
    addition = λ t a. quiet _ refl refl refl past tt;
    announcement = λ t a k p plain. quiet _ refl refl refl past (inv_of-plain (t.id ∷ []));
    member = λ t a k p whole. quiet _ refl refl refl past tt;
    round = λ r idle. quiet _ refl refl refl (waiting_past 0) (record { later = refl }, tt);
    plain_round = λ r idle plain. quiet _ refl refl refl refl (record { later = refl }, tt);
  }

  pub on_message-stays : (m : Message) → IsMessage m → Stays s (on_message s m)
  on_message-stays m sound = on_message-rows s (Stays s) each_stays m sound

  pub on_start-stays : Stays s (on_start s).turn
  on_start-stays = on_start-rows s (Stays s) each_stays

-- behind the handshake a message is a row of `in_relay`
pub relays_past : (p : Phase) (s : NodeState) (m : Message) → stage_of p ≡ Past → in_phase p s m ≡ in_relay s m
unfolding in_phase stage_of
relays_past phase.Greeting s m h = absurd (cc)
relays_past phase.Greeted s m h = absurd (cc)
relays_past other s m h = refl
