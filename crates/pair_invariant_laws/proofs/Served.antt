-- A transaction that was asked for comes, and a request is served.
use Rattle.std.proofs.Common.{◌≡◌, ℕ, ◌||◌, not, Bool, true, false, cond, List, [], ◌∷◌, ◌++◌, find, option_map, Some, None, refl, sym, ap, ap₂, ◌∙◌, subst, append-nil, append_assoc, eq-eqb, ⊎_elim}
use Rattle.std.specs.List.{AllByRecursion}
use Rattle.std.proofs.lemmas.Bool.{or_cases, or_left, or_right, and_from, not_from_false, not-true, both_ways, false_from_ne_true}
use Rattle.base_types.specs.declared.lists.Hash32.{Hash32}
use Rattle.id_rules.specs.Ids.{wtxid}
use Rattle.wire_rules.specs.declared.message.InvEntry.{InvEntry}
use Rattle.wire_rules.specs.declared.message.Message.{Message}
use Rattle.wire_rules.specs.declared.message.Message.TheVariants as message
use Rattle.pool_rules.specs.Pools.{Transaction, transaction_of, is_same_id, is_listed, without_id, AreDistinctIds, is_in_pool, bytes_of_id, has_byte_room, pool_ids, IsTransaction}
use Rattle.node_rules.specs.Inventory.{Serving, is_tx_entry, serving_by, serving_after_entry, serving_after, serving_of, on_getdata, with_requests, transaction_by, on_tx}
use Rattle.node_rules.specs.State.{NodeState}
use Rattle.node_rules.specs.Invariant.{IsWanting}
use Rattle.node_rules.specs.Turns.{notfound_of}
use Rattle.node_rules.specs.declared.end.End.{End}
use Rattle.pair_invariant_rules.specs.Wants.{entry_ids, requested_ids_of, announced_ids_of, carried_transactions_of, requested_ids, announced_ids, carried_transactions, IsTxEntry, HasTxEntries, IsHonest, IsPooled, IsPoolTransaction, AreWantsOf}
use Rattle.pool_laws.proofs.IdLists.{is_same_id-self, is_same_id-equal, both_false, all_listed, listed_all, listed_append, distinct_left, distinct_right, distinct_apart}
use Rattle.pair_invariant_laws.proofs.Ids.{false_or, listed_head, without_first}
use Rattle.pool_laws.proofs.PoolIds.{in_pool_append, in_pool_more, pool_ids_append}
use Rattle.node_laws.proofs.NewIds.{without_kept}
use Rattle.id_rules.proofs.Lists.{all_append, all_left, all_right, all_weaker}
use Rattle.pair_invariant_laws.proofs.Saying.{carried_append, announced_append}

-- ---- pools that grow

-- ---- a transaction

module _ (s holder : NodeState) (to_reader to_holder : List Message) (tx : List ℕ) (w : AreWantsOf s holder (message.Tx tx ∷ to_reader) to_holder) (mine : IsWanting s) where
  abbrev t : Transaction
  t = transaction_of tx

  abbrev rest : List Hash32
  rest = pool_ids (carried_transactions to_reader) ++ requested_ids to_holder

  tx_first : s.wants.asked ≡ t.id ∷ rest
  unfolding carried_transactions_of
  tx_first = w.flow

  tx_asked : is_listed s.wants.asked t.id ≡ true
  tx_asked = ap (λ ids. is_listed ids t.id) tx_first ∙ listed_head t.id rest

  tx_once : AreDistinctIds (t.id ∷ rest)
  tx_once = subst AreDistinctIds tx_first (distinct_right s.wants.wanted s.wants.asked mine.once)

  tx_gone : without_id s.wants.asked t.id ≡ rest
  tx_gone = ap (λ ids. without_id ids t.id) tx_first ∙ without_first t.id rest tx_once

  tx_behind : (next : NodeState) (more : List Transaction) → next.pool ≡ s.pool ++ more → is_in_pool next.pool t.id ≡ true → next.wants.wanted ≡ s.wants.wanted → next.wants.asked ≡ without_id s.wants.asked t.id
      → AreWantsOf next holder to_reader to_holder
  unfolding carried_transactions_of announced_ids_of
  tx_behind next more grown transaction_by wanted asked = record {
    flow = asked ∙ tx_gone;
    own = w.own.1;
    wanted = subst (AllByRecursion (IsPooled holder.pool)) (sym wanted) w.wanted;
    asked = subst (AllByRecursion (IsPooled holder.pool)) (sym asked) (without_kept (IsPooled holder.pool) s.wants.asked t.id w.asked);
    coming = w.coming;
    unserved = w.unserved;
    served = all_weaker (λ id. (is_in_pool s.pool id || is_listed s.wants.asked id) ≡ true) (λ id. (is_in_pool next.pool id || is_listed next.wants.asked id) ≡ true) further holder.wants.served w.served;
    honest = w.honest.1;
  }
    where
      still_asked : (id : Hash32) → (is_same_id t.id id || is_listed rest id) ≡ true → (is_in_pool next.pool id || is_listed next.wants.asked id) ≡ true
      still_asked id h =
          ⊎_elim
          (λ same. or_left (is_in_pool next.pool id) (is_listed next.wants.asked id) (subst (λ x. is_in_pool next.pool x ≡ true) (is_same_id-equal t.id id same) transaction_by))
          (λ later. or_right (is_in_pool next.pool id) (is_listed next.wants.asked id) (ap (λ ids. is_listed ids id) (asked ∙ tx_gone) ∙ later))
          (or_cases (is_same_id t.id id) (is_listed rest id) h)

      further : (id : Hash32) → (is_in_pool s.pool id || is_listed s.wants.asked id) ≡ true → (is_in_pool next.pool id || is_listed next.wants.asked id) ≡ true
      further id h =
          ⊎_elim
          (λ here. or_left (is_in_pool next.pool id) (is_listed next.wants.asked id) (ap (λ pool. is_in_pool pool id) grown ∙ in_pool_more s.pool more id here))
          (λ open_want. still_asked id (sym (ap (λ ids. is_listed ids id) tx_first) ∙ open_want))
          (or_cases (is_in_pool s.pool id) (is_listed s.wants.asked id) h)

  reader_came : (asked pooled fits : Bool) → is_listed s.wants.asked t.id ≡ asked → is_in_pool s.pool t.id ≡ pooled → (transaction_by asked pooled fits s t).state.ended ≡ None
      → AreWantsOf (transaction_by asked pooled fits s t).state holder to_reader (to_holder ++ (transaction_by asked pooled fits s t).out)
  unfolding transaction_by
  reader_came false pooled fits no_ask has going = absurd (both_ways (is_listed s.wants.asked t.id) no_ask tx_asked)
  reader_came true true fits ask has going =
      subst (AreWantsOf (with_requests s (without_id s.wants.asked t.id)) holder to_reader) (sym (append-nil to_holder))
      (tx_behind (with_requests s (without_id s.wants.asked t.id)) [] (sym (append-nil s.pool)) has refl refl)
  reader_came true false false ask has going = absurd (some_end going)
    where
      some_end : {x : End} → Some x ≡ None → ⊥
      some_end e = cc
  reader_came true false true ask has going =
      subst (AreWantsOf (with_requests (record s { pool = s.pool ++ t ∷ [] }) (without_id s.wants.asked t.id)) holder to_reader) (sym (append-nil to_holder))
      (tx_behind (with_requests (record s { pool = s.pool ++ t ∷ [] }) (without_id s.wants.asked t.id)) (t ∷ []) refl
      (in_pool_append s.pool (t ∷ []) t.id ∙ or_right (is_in_pool s.pool t.id) (is_in_pool (t ∷ []) t.id) (or_left (is_same_id t.id t.id) false (is_same_id-self t.id))) refl refl)

  pub reader_tx : (on_tx s tx).state.ended ≡ None → AreWantsOf (on_tx s tx).state holder to_reader (to_holder ++ (on_tx s tx).out)
  reader_tx going = reader_came (is_listed s.wants.asked t.id) (is_in_pool s.pool t.id) (has_byte_room s.pool t.bytes) refl refl going

-- ---- a request

-- the pool's transaction of an id
pub record Found (pool : List Transaction) (id : Hash32) : Type 0 where
  pub tx : List ℕ
  pub bytes : bytes_of_id pool id ≡ Some tx
  pub named : wtxid tx ≡ id

found_here : (x : Transaction) (xs : List Transaction) (id : Hash32) → IsTransaction x → is_same_id x.id id ≡ true → Found (x ∷ xs) id
found_here x xs id held_x e = record {
  tx = x.bytes;
  bytes = ap (λ b. option_map (λ t. t.bytes) (cond b (Some x) (find (λ t. is_same_id t.id id) xs))) e;
  named = sym held_x.named ∙ is_same_id-equal x.id id e;
}

found_later : (x : Transaction) (xs : List Transaction) (id : Hash32) → is_same_id x.id id ≡ false → Found xs id → Found (x ∷ xs) id
found_later x xs id e f = record {
  tx = f.tx;
  bytes = ap (λ b. option_map (λ t. t.bytes) (cond b (Some x) (find (λ t. is_same_id t.id id) xs))) e ∙ f.bytes;
  named = f.named;
}

found_by : (b : Bool) (x : Transaction) (xs : List Transaction) (id : Hash32) → is_same_id x.id id ≡ b → IsTransaction x → (is_same_id x.id id || is_in_pool xs id) ≡ true → (is_in_pool xs id ≡ true → Found xs id) → Found (x ∷ xs) id
found_by true x xs id e held_x h rest = found_here x xs id held_x e
found_by false x xs id e held_x h rest = found_later x xs id e (rest (false_or (is_same_id x.id id) (is_in_pool xs id) e h))

found : (pool : List Transaction) (id : Hash32) → AllByRecursion IsTransaction pool → IsPooled pool id → Found pool id
found [] id each h = absurd (let apart : false ≡ true = h in cc)
found (x ∷ xs) id each h = found_by (is_same_id x.id id) x xs id refl each.0 h (λ k. found xs id each.1 k)

-- what a request has come to where all of it was served
pub record ServedAll (pool : List Transaction) (v r : Serving) (asked : List Hash32) : Type 0 where
  pub txs : List Message
  pub served : r.served ≡ v.served ++ asked
  pub sent : r.sent ≡ v.sent ++ txs
  pub missing : r.missing ≡ v.missing
  pub carries : pool_ids (carried_transactions txs) ≡ asked
  pub own : AllByRecursion (IsPoolTransaction pool) (carried_transactions txs)
  pub asks : requested_ids txs ≡ []
  pub announces : announced_ids txs ≡ []
  pub honest : AllByRecursion IsHonest txs

module _ (pool : List Transaction) (each : AllByRecursion IsTransaction pool) where
  serves_first : (v : Serving) (e : InvEntry) → IsTxEntry e → is_listed v.served e.id ≡ false → (f : Found pool e.id)
      → serving_after_entry pool v e ≡ record v { served = v.served ++ e.id ∷ []; sent = v.sent ++ message.Tx f.tx ∷ [] }
  unfolding serving_by
  serves_first v e kind unserved f =
      ap₂ (λ b o. serving_by b o e v) (and_from (is_tx_entry e) (not (is_listed v.served e.id)) (eq-eqb e.kind 5 kind) (not_from_false (is_listed v.served e.id) unserved)) f.bytes

  one_more : (v : Serving) (e : InvEntry) (f : Found pool e.id) (r : Serving) (asked : List Hash32) → ServedAll pool (record v { served = v.served ++ e.id ∷ []; sent = v.sent ++ message.Tx f.tx ∷ [] }) r asked
      → ServedAll pool v r (e.id ∷ asked)
  unfolding carried_transactions_of requested_ids_of announced_ids_of HasTxEntries
  one_more v e f r asked a = record {
    txs = message.Tx f.tx ∷ a.txs;
    served = a.served ∙ append_assoc v.served (e.id ∷ []) asked;
    sent = a.sent ∙ append_assoc v.sent (message.Tx f.tx ∷ []) a.txs;
    missing = a.missing;
    carries = ap₂ (λ x xs. x ∷ xs) f.named a.carries;
    own = (ap (bytes_of_id pool) f.named ∙ f.bytes, a.own);
    asks = a.asks;
    announces = a.announces;
    honest = (record { honest = tt }, a.honest);
  }

  serves_all : (es : List InvEntry) (v : Serving) → AllByRecursion IsTxEntry es → AllByRecursion (IsPooled pool) (entry_ids es) → AllByRecursion (λ id. is_listed v.served id ≡ false) (entry_ids es)
      → AreDistinctIds (entry_ids es) → ServedAll pool v (serving_after pool v es) (entry_ids es)
  unfolding serving_after AreDistinctIds
  serves_all [] v kinds has unserved once = record {
    txs = [];
    served = sym (append-nil v.served);
    sent = sym (append-nil v.sent);
    missing = refl;
    carries = refl;
    own = tt;
    asks = refl;
    announces = refl;
    honest = tt;
  }
  serves_all (e ∷ es) v kinds has unserved once =
      let f = found pool e.id each has.0 in
      let next : Serving = record v { served = v.served ++ e.id ∷ []; sent = v.sent ++ message.Tx f.tx ∷ [] } in
      let absent = not-true (is_listed (entry_ids es) e.id) once.0 in
      let still_unserved : AllByRecursion (λ id. is_listed (v.served ++ e.id ∷ []) id ≡ false) (entry_ids es) =
      listed_all (λ id. is_listed (v.served ++ e.id ∷ []) id ≡ false) (entry_ids es)
      (λ id h. listed_append v.served (e.id ∷ []) id
      ∙ both_false (is_listed v.served id) (is_listed (e.id ∷ []) id) (all_listed (λ x. is_listed v.served x ≡ false) (entry_ids es) unserved.1 id h)
      (both_false (is_same_id e.id id) false (false_from_ne_true (is_same_id e.id id) (λ same. both_ways (is_listed (entry_ids es) e.id) absent (subst (λ x. is_listed (entry_ids es) x ≡ true) (sym (is_same_id-equal e.id id same)) h))) refl)) in
      one_more v e f (serving_after pool (serving_after_entry pool v e) es) (entry_ids es)
      (subst (λ n. ServedAll pool next (serving_after pool n es) (entry_ids es)) (sym (serves_first v e kinds.0 unserved.0 f)) (serves_all es next kinds.1 has.1 still_unserved once.1))

module _ (reader s : NodeState) (to_reader to_holder : List Message) (es : List InvEntry) (w : AreWantsOf reader s to_reader (message.GetData es ∷ to_holder)) (mine : IsWanting reader) (each : AllByRecursion IsTransaction s.pool) (kinds : AllByRecursion IsTxEntry es) where
  flow_es : reader.wants.asked ≡ pool_ids (carried_transactions to_reader) ++ (entry_ids es ++ requested_ids to_holder)
  unfolding requested_ids_of
  flow_es = w.flow

  unserved_es : AllByRecursion (λ id. is_listed s.wants.served id ≡ false) (entry_ids es ++ requested_ids to_holder)
  unfolding requested_ids_of
  unserved_es = w.unserved

  -- the request is of ids that stand once
  request_once : AreDistinctIds (entry_ids es ++ requested_ids to_holder)
  request_once = distinct_right (pool_ids (carried_transactions to_reader)) (entry_ids es ++ requested_ids to_holder) (subst AreDistinctIds flow_es (distinct_right reader.wants.wanted reader.wants.asked mine.once))

  request_there : AllByRecursion (IsPooled s.pool) (entry_ids es)
  request_there = all_left (IsPooled s.pool) (entry_ids es) (requested_ids to_holder) (all_right (IsPooled s.pool) (pool_ids (carried_transactions to_reader)) (entry_ids es ++ requested_ids to_holder) (subst (AllByRecursion (IsPooled s.pool)) flow_es w.asked))

  start : Serving
  start = record { served = s.wants.served; sent = []; missing = [] }

  pub all_served : ServedAll s.pool (record { served = s.wants.served; sent = []; missing = [] }) (serving_of s es) (entry_ids es)
  all_served =
      serves_all s.pool each es (record { served = s.wants.served; sent = []; missing = [] }) kinds request_there
      (all_left (λ id. is_listed s.wants.served id ≡ false) (entry_ids es) (requested_ids to_holder) unserved_es) (distinct_left (entry_ids es) (requested_ids to_holder) request_once)

  pub out_is : (on_getdata s es).out ≡ all_served.txs
  out_is = ap₂ (λ xs ys. xs ++ notfound_of ys) all_served.sent all_served.missing ∙ append-nil all_served.txs

  pub holder_getdata : AreWantsOf reader (on_getdata s es).state (to_reader ++ (on_getdata s es).out) to_holder
  holder_getdata =
      subst (λ out. AreWantsOf reader (on_getdata s es).state (to_reader ++ out) to_holder) (sym out_is) (record {
        flow =
            flow_es
            ∙ (sym (append_assoc (pool_ids (carried_transactions to_reader)) (entry_ids es) (requested_ids to_holder))
            ∙ ap (λ ids. ids ++ requested_ids to_holder) (ap (λ ids. pool_ids (carried_transactions to_reader) ++ ids) (sym all_served.carries) ∙ sym (pool_ids_append (carried_transactions to_reader) (carried_transactions all_served.txs)) ∙ ap pool_ids (sym brought)));
        own = subst (AllByRecursion (IsPoolTransaction s.pool)) (sym brought) (all_append (IsPoolTransaction s.pool) (carried_transactions to_reader) (carried_transactions all_served.txs) w.own all_served.own);
        wanted = w.wanted;
        asked = w.asked;
        coming = subst (AllByRecursion (IsPooled s.pool)) (sym (announced_append to_reader all_served.txs ∙ ap (λ ids. announced_ids to_reader ++ ids) all_served.announces ∙ append-nil (announced_ids to_reader))) w.coming;
        unserved = subst (λ ids. AllByRecursion (λ id. is_listed ids id ≡ false) (requested_ids to_holder)) (sym all_served.served) rest_unserved;
        served = subst (AllByRecursion (λ id. (is_in_pool reader.pool id || is_listed reader.wants.asked id) ≡ true)) (sym all_served.served) (all_append (λ id. (is_in_pool reader.pool id || is_listed reader.wants.asked id) ≡ true) s.wants.served (entry_ids es) w.served now_asked);
        honest = all_append IsHonest to_reader all_served.txs w.honest all_served.honest;
      })
    where
      brought : carried_transactions (to_reader ++ all_served.txs) ≡ carried_transactions to_reader ++ carried_transactions all_served.txs
      brought = carried_append to_reader all_served.txs

      rest_unserved : AllByRecursion (λ id. is_listed (s.wants.served ++ entry_ids es) id ≡ false) (requested_ids to_holder)
      rest_unserved =
          listed_all (λ id. is_listed (s.wants.served ++ entry_ids es) id ≡ false) (requested_ids to_holder)
          (λ id h. listed_append s.wants.served (entry_ids es) id
          ∙ both_false (is_listed s.wants.served id) (is_listed (entry_ids es) id)
          (all_listed (λ x. is_listed s.wants.served x ≡ false) (requested_ids to_holder) (all_right (λ x. is_listed s.wants.served x ≡ false) (entry_ids es) (requested_ids to_holder) unserved_es) id h)
          (all_listed (λ x. is_listed (entry_ids es) x ≡ false) (requested_ids to_holder) (distinct_apart (entry_ids es) (requested_ids to_holder) request_once) id h))

      now_asked : AllByRecursion (λ id. (is_in_pool reader.pool id || is_listed reader.wants.asked id) ≡ true) (entry_ids es)
      now_asked =
          listed_all (λ id. (is_in_pool reader.pool id || is_listed reader.wants.asked id) ≡ true) (entry_ids es)
          (λ id h. or_right (is_in_pool reader.pool id) (is_listed reader.wants.asked id)
          (ap (λ ids. is_listed ids id) flow_es
          ∙ (listed_append (pool_ids (carried_transactions to_reader)) (entry_ids es ++ requested_ids to_holder) id
          ∙ or_right (is_listed (pool_ids (carried_transactions to_reader)) id) (is_listed (entry_ids es ++ requested_ids to_holder) id)
          (listed_append (entry_ids es) (requested_ids to_holder) id ∙ or_left (is_listed (entry_ids es) id) (is_listed (requested_ids to_holder) id) h))))
