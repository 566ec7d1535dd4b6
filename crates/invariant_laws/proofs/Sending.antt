-- What a node sends may be sent.
use Rattle.std.proofs.Common.{◌≡◌, ℕ, zero, suc, ◌+◌, ◌^◌, ◌<◌, ◌≤◌, ◌||◌, nat_lt, not, length, Bool, true, false, List, [], ◌∷◌, Some, refl, sym, subst, arith, lit<, lit≤, mod-lt}
use Rattle.std.specs.List.{AllByRecursion}
use Rattle.std.proofs.lemmas.Bool.{leb-true, ltb-true}
use Rattle.std.proofs.lemmas.List.{length-map}
use Rattle.field_rules.specs.Elements.{numbers}
use Rattle.sketch_laws.proofs.EverySums.{length-odd_power_sums}
use Rattle.wire_rules.specs.Limits.{IsMessage, is_within_limits, is_in_range}
use Rattle.wire_rules.specs.declared.limits.TheConstants.{LIST_LIMIT}
use Rattle.wire_rules.specs.declared.message.InvEntry.{InvEntry}
use Rattle.wire_rules.specs.declared.message.Message.{Message}
use Rattle.wire_rules.specs.declared.message.Message.TheVariants as message
use Rattle.pool_rules.specs.Pools.{Transaction, IsTransaction, transaction_of, pool_ids}
use Rattle.pool_rules.specs.Snapshots.{sketched_shorts, snapshot_sketch, snapshot_sums, is_single}
use Rattle.id_rules.proofs.Lists.{all_append, all_left}
use Rattle.pool_laws.proofs.Ids.{wtxid-bytes}
use Rattle.node_rules.specs.Accepter.{round_of_request, first_sketch, extension_sketch, accepter_announcement}
use Rattle.node_rules.specs.Additions.{on_addition}
use Rattle.node_rules.specs.Handshake.{opening_messages}
use Rattle.node_rules.specs.Invariant.{IsConfig, IsNode}
use Rattle.node_rules.specs.Inventory.{wtxids_of, is_known, unknown_ids, serving_of, on_getdata}
use Rattle.node_rules.specs.Opener.{round_after_sketch, answer_to, on_answer, on_fallback, remaining_set, one_more}
use Rattle.node_rules.specs.Outcomes.{is_in}
use Rattle.node_rules.specs.Stages.{sent_extensions, capacity_after}
use Rattle.node_rules.specs.State.{NodeState, Round, extensions_allowed, initiator_of, node_keys}
use Rattle.node_rules.specs.Steps.{on_message, on_start}
use Rattle.node_rules.specs.Turns.{inv_of, getdata_of, notfound_of}
use Rattle.node_rules.specs.declared.config.Config.{Config}
use Rattle.node_rules.specs.declared.config.Role.{Role}
use Rattle.invariant_laws.proofs.Bounds.{answer-is, round_after_sketch-is, sketched-round}
use Rattle.invariant_laws.proofs.Fitting.{IsAnnounceable, members_announce, part_announces, pool_fits}
use Rattle.invariant_laws.proofs.Rooms.{lack_all, lack_append}
use Rattle.invariant_laws.proofs.Rows.{EachRow, IsAwaitingSketch, IsNews, on_message-rows, on_addition-rows, on_start-rows}
use Rattle.invariant_laws.proofs.Sendable.{reply_sent, opening_sent, sent_inv, sent_getdata, sent_notfound, news_few, announced_few, sent_ping, sent_pong, sent_request, sent_extension, sent_sketch, sent_failure, merged_few, sent_asks, sent_ids, sent_end, serves_sent}
use Rattle.invariant_laws.proofs.Stores.{IsId, fresh_ids}

few_after : (c n : ℕ) → c ≤ 1024 → n ≤ 2 → capacity_after c n ≤ 4096
few_after c zero h k = omega arith
few_after c (suc zero) h k = omega arith
few_after c (suc (suc zero)) h k = omega arith
few_after c (suc (suc (suc n))) h k = absurd (omega arith)

module _ (s : NodeState) (h : IsNode s) where
  set_announces : IsAnnounceable s.set
  set_announces = members_announce (node_keys s) s.pool s.set h.store.pool h.setup.set

  snapshot_announces : IsAnnounceable s.machine.round.snapshot
  snapshot_announces = members_announce (node_keys s) s.pool s.machine.round.snapshot h.store.pool h.setup.snapshot

  joined_announces : (n : ℕ) (bytes : List ℕ) → IsAnnounceable (round_after_sketch s.machine s.set n bytes).snapshot
  unfolding round_after_sketch
  joined_announces zero bytes = set_announces
  joined_announces (suc n) bytes = snapshot_announces

  -- ---- an opener

  answer_out : (n : ℕ) (bytes es : List ℕ) → IsAwaitingSketch s n bytes → answer_to (round_after_sketch s.machine s.set n bytes) ≡ Some es
      → AllByRecursion IsMessage (on_answer (initiator_of s) (round_after_sketch s.machine s.set n bytes) n es (remaining_set n s.set)).out
  answer_out n bytes es a e =
      let r : Round = round_after_sketch s.machine s.set n bytes in
      let answer = answer-is r es e in
      let j = round_after_sketch-is n s.machine s.requests s.set bytes h.bounded a.waits a.fits a.ranged in
      let few = answer.few in
      let long = merged_few r.sums (snapshot_sketch r.snapshot (length r.sums)) in
      let sums = j.sums in
      let allowed = h.bounded.waited n a.waits in
      let most = h.bounded.most in
      let room = few_after r.capacity n j.most (omega (arith, allowed, most)) in
      sent_end true _ _ s.requests.begun (sent_asks (λ n. not (is_in (sketched_shorts r.snapshot) n)) es (omega (arith, few, long, sums, room)) answer.rises)
      (part_announces (λ m. not (is_single r.snapshot m.short) || is_in es m.short) r.snapshot (joined_announces n bytes)) h.bounded.begun

  fallback_out : (n : ℕ) (bytes : List ℕ) → AllByRecursion IsMessage (on_fallback (initiator_of s) (round_after_sketch s.machine s.set n bytes) (remaining_set n s.set)).out
  fallback_out n bytes = sent_end false [] _ s.requests.begun sent_failure (joined_announces n bytes) h.bounded.begun

  wanted_few : length s.wants.wanted ≤ LIST_LIMIT
  wanted_few =
      let all = lack_all s.pool s.wants.wanted h.store.wanting.unwanted in
      let sum = lack_append s.pool s.wants.wanted s.wants.asked in
      let le = h.store.wanting.room in
      omega (arith, all, sum, le)

  begun_small : (one_more s.requests).begun < 2 ^ 64
  begun_small = mod-lt (s.requests.begun + 1) (lit< tt)

  -- ---- an accepter

  first_out : (size q : ℕ) → AllByRecursion IsMessage (first_sketch s.machine (round_of_request s.set size q)).out
  first_out size q =
      let c : ℕ = (round_of_request s.set size q).capacity in
      let few : c ≤ 1024 = omega arith in
      let long = length-odd_power_sums (numbers 32) (sketched_shorts s.set) 0 c in
      (sent_sketch (snapshot_sums s.set 0 c) (omega (arith, long, few)), tt)

  extension_out : (n : ℕ) → sent_extensions s.machine.phase ≡ Some n → nat_lt n (extensions_allowed s.machine) ≡ true → AllByRecursion IsMessage (extension_sketch s.machine n).out
  extension_out n g may =
      let lt = ltb-true n (extensions_allowed s.machine) may in
      let most = h.bounded.most in
      let r = sketched-round s.machine s.requests n h.bounded g in
      let c : ℕ = capacity_after s.machine.round.capacity n in
      let few = few_after s.machine.round.capacity n r.most (omega (arith, lt, most)) in
      let long = length-odd_power_sums (numbers 32) (sketched_shorts s.machine.round.snapshot) c c in
      (sent_sketch (snapshot_sums s.machine.round.snapshot c c) (omega (arith, long, few)), tt)

  offered_out : (success : Bool) (shorts : List ℕ) → AllByRecursion IsMessage (inv_of (accepter_announcement success s.machine.round shorts))
  offered_out true shorts = sent_ids _ (part_announces (λ m. not (is_single s.machine.round.snapshot m.short) || is_in shorts m.short) s.machine.round.snapshot snapshot_announces)
  offered_out false shorts = sent_ids s.machine.round.snapshot snapshot_announces

  -- ---- inventories

  request_out : (r : Role) (es : List InvEntry) → IsNews r s es → AllByRecursion IsMessage (getdata_of (unknown_ids s es))
  unfolding is_within_limits
  request_out r es n =
      sent_getdata (unknown_ids s es) (let a = news_few (is_known s) (wtxids_of es) in let c = announced_few es in let le = leb-true (length es) LIST_LIMIT n.sound.within in omega (arith, a, c, le)) (fresh_ids s h.store es n.sound)

  getdata_out : (es : List InvEntry) → IsMessage (message.GetData es) → AllByRecursion IsMessage (on_getdata s es).out
  unfolding is_within_limits is_in_range
  getdata_out es m =
      let f = serves_sent s.pool (record { served = s.wants.served; sent = []; missing = [] }) es 0 h.store.pool.each m.ranged (record { sent = tt; missing = refl; few = omega arith }) in
      all_append IsMessage (serving_of s es).sent (notfound_of (serving_of s es).missing) f.sent (sent_notfound (serving_of s es).missing (let few = f.few in let le = leb-true (length es) LIST_LIMIT m.within in omega (arith, few, le)) f.missing)

  plain_out : AllByRecursion IsMessage (inv_of (pool_ids s.pool))
  plain_out = sent_inv (pool_ids s.pool) (let long = length-map s.pool (λ t. t.id) in let le = h.store.pool.count in omega (arith, long, le)) (pool_fits s.pool h.store.pool.each)

  addition_out : (t : Transaction) → IsTransaction t → AllByRecursion IsMessage (inv_of (t.id ∷ []))
  addition_out t sound = sent_inv (t.id ∷ []) (lit≤ tt) (subst IsId (sym sound.named) (wtxid-bytes t.bytes), tt)

  -- ---- the steps

  sending_rows : EachRow s (λ t. AllByRecursion IsMessage t.out)
  sending_rows = record {
    stays = tt;
    ends = λ e. tt;
    version = λ e. reply_sent s.config.role s.config h.config;
    wtxidrelay = λ e. tt;
    offer = λ o e is none. tt;
    plain = λ e by_id none. plain_out;
    whole = λ o e by_id some. tt;
    answer = answer_out;
    more = λ n bytes a e. (sent_extension, tt);
    fallback = λ n bytes a. fallback_out n bytes;
    first = λ size q a e. first_out size q;
    extension = λ n a g e. extension_out n g e;
    difference = λ n success shorts a g e m. offered_out success shorts;
    wants = λ es n. tt;
    request = λ es n. request_out _ es n;
    getdata = λ es past m. getdata_out es m;
    notfound = λ es past m. tt;
    known = λ t past a p. tt;
    gained = λ t past a p f. tt;
    ping = λ n past m. (sent_pong n m, tt);
    pong = λ r e. sent_getdata s.wants.wanted wanted_few (all_left IsId s.wants.wanted s.wants.asked h.store.ids);
    addition = λ t a. tt;
    announcement = λ t a k past plain. addition_out t a.sound;
    member = λ t a k past whole. tt;
    round = λ r idle. (sent_request (length s.set) s.requests.coefficient (let few = set_announces.few in omega (arith, few)) (let le = h.bounded.coefficient in omega (arith, le)), tt);
    plain_round = λ r idle plain. (sent_ping _ begun_small, tt);
  }

  pub on_message-sendable : (m : Message) → IsMessage m → AllByRecursion IsMessage (on_message s m).out
  on_message-sendable m sound = on_message-rows s (λ t. AllByRecursion IsMessage t.out) sending_rows m sound

  pub on_addition-sendable : (tx : List ℕ) → IsTransaction (transaction_of tx) → AllByRecursion IsMessage (on_addition s tx).turn.out
  on_addition-sendable tx sound = on_addition-rows s (λ t. AllByRecursion IsMessage t.out) sending_rows tx sound

  pub on_start-sendable : AllByRecursion IsMessage (on_start s).turn.out
  on_start-sendable = on_start-rows s (λ t. AllByRecursion IsMessage t.out) sending_rows

pub opening-sendable : (c : Config) → IsConfig c → AllByRecursion IsMessage (opening_messages c)
opening-sendable c h = opening_sent c.role c h
