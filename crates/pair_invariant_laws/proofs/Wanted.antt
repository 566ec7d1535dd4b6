-- What one node wants of the other is kept by every step of either.
use Rattle.std.proofs.Common.{◌≡◌, ◌+◌, ◌||◌, not, nat_lt, length, Bool, true, false, cond, List, [], ◌∷◌, ◌++◌, map, filter, find, option_map, Option, Some, None, refl, sym, ap, ◌∙◌, subst, append-nil, append_assoc, eq-eqb, ⊎_elim}
use Rattle.std.specs.List.{AllByRecursion}
use Rattle.std.specs.Option.{option_or}
use Rattle.std.proofs.lemmas.Bool.{or_cases, or_left, or_right, not-true, both_ways, false_from_ne_true}
use Rattle.std.proofs.lemmas.List.Folds.{find-append}
use Rattle.base_types.specs.declared.lists.Hash32.{Hash32}
use Rattle.wire_rules.specs.declared.message.InvEntry.{InvEntry}
use Rattle.wire_rules.specs.declared.message.Message.{Message}
use Rattle.wire_rules.specs.declared.message.Message.TheVariants as message
use Rattle.pool_rules.specs.Pools.{Transaction, is_same_id, is_listed, is_in_pool, pool_ids}
use Rattle.pool_rules.specs.Snapshots.{Member}
use Rattle.pool_rules.specs.declared.limits.TheConstants.{POOL_LIMIT}
use Rattle.node_rules.specs.Inventory.{is_tx_entry, wtxids_of, is_known, unknown_ids, without_announced, with_wanted, with_asked, inv_by, on_inv}
use Rattle.node_rules.specs.State.{NodeState, open_wants, taken_room}
use Rattle.node_rules.specs.Invariant.{IsWanting}
use Rattle.node_rules.specs.Barrier.{with_wants_requested}
use Rattle.node_rules.specs.Turns.{getdata_of}
use Rattle.node_rules.specs.declared.config.Role.{Role}
use Rattle.node_rules.specs.declared.config.Role.TheVariants as role
use Rattle.node_rules.specs.declared.end.End.{End}
use Rattle.pair_invariant_rules.specs.Wants.{entry_ids, requested_ids_of, announced_ids_of, carried_transactions_of, requested_ids, announced_ids, carried_transactions, IsTxEntry, HasTxEntries, IsHonest, IsPooled, IsPoolTransaction, AreWantsOf}
use Rattle.pool_laws.proofs.IdLists.{all_listed, listed_all, listed_append, distinct_apart}
use Rattle.pool_laws.proofs.PoolIds.{in_pool_more}
use Rattle.node_laws.proofs.NewIds.{new_unknown, new_kept}
use Rattle.id_rules.proofs.Lists.{all_append, all_left, all_right, all_weaker}
use Rattle.pair_invariant_laws.proofs.Saying.{carried_append, requested_append, announced_append, getdata_asks}

-- ---- pools that grow

some_is : {A B : Type 0} (f : A → B) (o rest : Option A) (b : B) → option_map f o ≡ Some b → option_map f (option_or o rest) ≡ Some b
some_is f (Some a) rest b e = e
some_is f None rest b e = absurd (let apart : None ≡ Some b = e in cc)

own_more : (pool more : List Transaction) (t : Transaction) → IsPoolTransaction pool t → IsPoolTransaction (pool ++ more) t
own_more pool more t h =
    ap (option_map (λ x. x.bytes)) (find-append (λ x. is_same_id x.id t.id) pool more) ∙ some_is (λ x. x.bytes) (find (λ x. is_same_id x.id t.id) pool) (find (λ x. is_same_id x.id t.id) more) t.bytes h

-- ---- what is behind the front

module _ (reader holder : NodeState) (to_reader to_holder : List Message) where
  -- a message with nothing for the reader
  pub reader_drop : (m : Message) → carried_transactions_of m ≡ [] → announced_ids_of m ≡ [] → AreWantsOf reader holder (m ∷ to_reader) to_holder → AreWantsOf reader holder to_reader to_holder
  reader_drop m c a w = record {
    flow = w.flow ∙ ap (λ ts. pool_ids (ts ++ carried_transactions to_reader) ++ requested_ids to_holder) c;
    own = subst (λ ts. AllByRecursion (IsPoolTransaction holder.pool) (ts ++ carried_transactions to_reader)) c w.own;
    wanted = w.wanted;
    asked = w.asked;
    coming = subst (λ ids. AllByRecursion (IsPooled holder.pool) (ids ++ announced_ids to_reader)) a w.coming;
    unserved = w.unserved;
    served = w.served;
    honest = w.honest.1;
  }

  pub holder_drop : (m : Message) → requested_ids_of m ≡ [] → AreWantsOf reader holder to_reader (m ∷ to_holder) → AreWantsOf reader holder to_reader to_holder
  holder_drop m r w = record {
    flow = w.flow ∙ ap (λ ids. pool_ids (carried_transactions to_reader) ++ (ids ++ requested_ids to_holder)) r;
    own = w.own;
    wanted = w.wanted;
    asked = w.asked;
    coming = w.coming;
    unserved = subst (λ ids. AllByRecursion (λ id. is_listed holder.wants.served id ≡ false) (ids ++ requested_ids to_holder)) r w.unserved;
    served = w.served;
    honest = w.honest;
  }

  -- the holder has more, and says something that brings nothing that was asked for
  pub holder_more : (next : NodeState) (more : List Transaction) (out : List Message) → next.pool ≡ holder.pool ++ more → next.wants.served ≡ holder.wants.served
      → carried_transactions out ≡ [] → AllByRecursion (IsPooled next.pool) (announced_ids out) → AllByRecursion IsHonest out
      → AreWantsOf reader holder to_reader to_holder → AreWantsOf reader next (to_reader ++ out) to_holder
  holder_more next more out grown served carries announces honest w = record {
    flow = w.flow ∙ ap (λ ts. pool_ids ts ++ requested_ids to_holder) (sym same);
    own = subst (AllByRecursion (IsPoolTransaction next.pool)) (sym same) (subst (λ pool. AllByRecursion (IsPoolTransaction pool) (carried_transactions to_reader)) (sym grown) (all_weaker (IsPoolTransaction holder.pool) (IsPoolTransaction (holder.pool ++ more)) (own_more holder.pool more) (carried_transactions to_reader) w.own));
    wanted = has_more reader.wants.wanted w.wanted;
    asked = has_more reader.wants.asked w.asked;
    coming = subst (AllByRecursion (IsPooled next.pool)) (sym (announced_append to_reader out)) (all_append (IsPooled next.pool) (announced_ids to_reader) (announced_ids out) (has_more (announced_ids to_reader) w.coming) announces);
    unserved = subst (λ ids. AllByRecursion (λ id. is_listed ids id ≡ false) (requested_ids to_holder)) (sym served) w.unserved;
    served = subst (AllByRecursion (λ id. (is_in_pool reader.pool id || is_listed reader.wants.asked id) ≡ true)) (sym served) w.served;
    honest = all_append IsHonest to_reader out w.honest honest;
  }
    where
      same : carried_transactions (to_reader ++ out) ≡ carried_transactions to_reader
      same = carried_append to_reader out ∙ ap (λ ts. carried_transactions to_reader ++ ts) carries ∙ append-nil (carried_transactions to_reader)

      has_more : (ids : List Hash32) → AllByRecursion (IsPooled holder.pool) ids → AllByRecursion (IsPooled next.pool) ids
      has_more ids h = subst (λ pool. AllByRecursion (IsPooled pool) ids) (sym grown) (all_weaker (IsPooled holder.pool) (IsPooled (holder.pool ++ more)) (in_pool_more holder.pool more) ids h)

  -- the reader with_wants_requested for nothing more, and may have more
  pub reader_more : (next : NodeState) (more : List Transaction) (out : List Message) → next.pool ≡ reader.pool ++ more → next.wants.asked ≡ reader.wants.asked → AllByRecursion (IsPooled holder.pool) next.wants.wanted
      → requested_ids out ≡ [] → AreWantsOf reader holder to_reader to_holder → AreWantsOf next holder to_reader (to_holder ++ out)
  reader_more next more out grown asked wanted with_wants_requested w = record {
    flow = asked ∙ (w.flow ∙ ap (λ ids. pool_ids (carried_transactions to_reader) ++ ids) (sym same));
    own = w.own;
    wanted = wanted;
    asked = subst (AllByRecursion (IsPooled holder.pool)) (sym asked) w.asked;
    coming = w.coming;
    unserved = subst (AllByRecursion (λ id. is_listed holder.wants.served id ≡ false)) (sym same) w.unserved;
    served = all_weaker (λ id. (is_in_pool reader.pool id || is_listed reader.wants.asked id) ≡ true) (λ id. (is_in_pool next.pool id || is_listed next.wants.asked id) ≡ true) more_served holder.wants.served w.served;
    honest = w.honest;
  }
    where
      same : requested_ids (to_holder ++ out) ≡ requested_ids to_holder
      same = requested_append to_holder out ∙ ap (λ ids. requested_ids to_holder ++ ids) with_wants_requested ∙ append-nil (requested_ids to_holder)

      more_served : (id : Hash32) → (is_in_pool reader.pool id || is_listed reader.wants.asked id) ≡ true → (is_in_pool next.pool id || is_listed next.wants.asked id) ≡ true
      more_served id h =
          ⊎_elim
          (λ here. or_left (is_in_pool next.pool id) (is_listed next.wants.asked id) (ap (λ pool. is_in_pool pool id) grown ∙ in_pool_more reader.pool more id here))
          (λ open_want. or_right (is_in_pool next.pool id) (is_listed next.wants.asked id) (ap (λ ids. is_listed ids id) asked ∙ open_want))
          (or_cases (is_in_pool reader.pool id) (is_listed reader.wants.asked id) h)

-- ---- an announcement

-- where all entries are of transactions, their ids are wtxids_of
pub announced_all : (es : List InvEntry) → AllByRecursion IsTxEntry es → wtxids_of es ≡ entry_ids es
announced_all [] h = refl
announced_all (e ∷ es) h =
    ap (λ b. map (λ x. x.id) (cond b (e ∷ filter is_tx_entry es) (filter is_tx_entry es))) (eq-eqb e.kind 5 h.0) ∙ ap (λ ids. e.id ∷ ids) (announced_all es h.1)

module _ (s holder : NodeState) (to_reader to_holder : List Message) (es : List InvEntry) (w : AreWantsOf s holder (message.Inv es ∷ to_reader) to_holder) where
  inv_entries : AllByRecursion IsTxEntry es
  unfolding HasTxEntries
  inv_entries = w.honest.0.honest

  inv_coming : AllByRecursion (IsPooled holder.pool) (entry_ids es ++ announced_ids to_reader)
  unfolding announced_ids_of
  inv_coming = w.coming

  inv_behind : AreWantsOf s holder to_reader to_holder
  unfolding carried_transactions_of announced_ids_of
  inv_behind = record {
    flow = w.flow;
    own = w.own;
    wanted = w.wanted;
    asked = w.asked;
    coming = all_right (IsPooled holder.pool) (entry_ids es) (announced_ids to_reader) w.coming;
    unserved = w.unserved;
    served = w.served;
    honest = w.honest.1;
  }

  -- what is new is in the holder's pool, and wasn't served
  news_there : AllByRecursion (IsPooled holder.pool) (unknown_ids s es)
  news_there =
      new_kept (IsPooled holder.pool) (is_known s) (wtxids_of es)
      (subst (AllByRecursion (IsPooled holder.pool)) (sym (announced_all es inv_entries)) (all_left (IsPooled holder.pool) (entry_ids es) (announced_ids to_reader) inv_coming))

  served_known : (id : Hash32) → is_listed holder.wants.served id ≡ true → is_known s id ≡ true
  served_known id h =
      ⊎_elim
      (λ here. or_left (is_in_pool s.pool id) (is_listed (open_wants s) id) here)
      (λ open_want. or_right (is_in_pool s.pool id) (is_listed (open_wants s) id) (listed_append s.wants.wanted s.wants.asked id ∙ or_right (is_listed s.wants.wanted id) (is_listed s.wants.asked id) open_want))
      (or_cases (is_in_pool s.pool id) (is_listed s.wants.asked id) (all_listed (λ x. (is_in_pool s.pool x || is_listed s.wants.asked x) ≡ true) holder.wants.served w.served id h))

  news_unserved : AllByRecursion (λ id. is_listed holder.wants.served id ≡ false) (unknown_ids s es)
  news_unserved =
      all_weaker (λ id. is_known s id ≡ false) (λ id. is_listed holder.wants.served id ≡ false)
      (λ id unknown. false_from_ne_true (is_listed holder.wants.served id) (λ h. both_ways (is_known s id) unknown (served_known id h))) (unknown_ids s es) (new_unknown (is_known s) (wtxids_of es))

  -- ids that are asked for at once, or behind the round's pong
  pub asks_for : (next : NodeState) (ids : List Hash32) → next.pool ≡ s.pool → next.wants.wanted ≡ s.wants.wanted → next.wants.asked ≡ s.wants.asked ++ ids
      → AllByRecursion (IsPooled holder.pool) ids → AllByRecursion (λ id. is_listed holder.wants.served id ≡ false) ids → AreWantsOf next holder to_reader (to_holder ++ getdata_of ids)
  asks_for next ids pool wanted asked there unserved = record {
    flow = asked ∙ (ap (λ xs. xs ++ ids) inv_behind.flow ∙ append_assoc (pool_ids (carried_transactions to_reader)) (requested_ids to_holder) ids ∙ ap (λ xs. pool_ids (carried_transactions to_reader) ++ xs) (sym more));
    own = inv_behind.own;
    wanted = subst (AllByRecursion (IsPooled holder.pool)) (sym wanted) inv_behind.wanted;
    asked = subst (AllByRecursion (IsPooled holder.pool)) (sym asked) (all_append (IsPooled holder.pool) s.wants.asked ids inv_behind.asked there);
    coming = inv_behind.coming;
    unserved = subst (AllByRecursion (λ id. is_listed holder.wants.served id ≡ false)) (sym more) (all_append (λ id. is_listed holder.wants.served id ≡ false) (requested_ids to_holder) ids inv_behind.unserved unserved);
    served = all_weaker (λ id. (is_in_pool s.pool id || is_listed s.wants.asked id) ≡ true) (λ id. (is_in_pool next.pool id || is_listed next.wants.asked id) ≡ true) further holder.wants.served inv_behind.served;
    honest = inv_behind.honest;
  }
    where
      more : requested_ids (to_holder ++ getdata_of ids) ≡ requested_ids to_holder ++ ids
      more = requested_append to_holder (getdata_of ids) ∙ ap (λ xs. requested_ids to_holder ++ xs) (getdata_asks s.pool ids)

      further : (id : Hash32) → (is_in_pool s.pool id || is_listed s.wants.asked id) ≡ true → (is_in_pool next.pool id || is_listed next.wants.asked id) ≡ true
      further id h =
          ⊎_elim (λ here. or_left (is_in_pool next.pool id) (is_listed next.wants.asked id) (ap (λ p. is_in_pool p id) pool ∙ here))
          (λ open_want. or_right (is_in_pool next.pool id) (is_listed next.wants.asked id) (ap (λ xs. is_listed xs id) asked ∙ (listed_append s.wants.asked ids id ∙ or_left (is_listed s.wants.asked id) (is_listed ids id) open_want)))
          (or_cases (is_in_pool s.pool id) (is_listed s.wants.asked id) h)

  reader_inv_by : (full : Bool) (r : Role) (set : List Member) → (inv_by full r s set (unknown_ids s es)).state.ended ≡ None
      → AreWantsOf (inv_by full r s set (unknown_ids s es)).state holder to_reader (to_holder ++ (inv_by full r s set (unknown_ids s es)).out)
  unfolding inv_by
  reader_inv_by true r set going = absurd (some_end going)
    where
      some_end : {x : End} → Some x ≡ None → ⊥
      some_end e = cc
  reader_inv_by false role.Opener set going =
      reader_more s holder to_reader to_holder (with_wanted s set (s.wants.wanted ++ unknown_ids s es)) [] [] (sym (append-nil s.pool)) refl
      (all_append (IsPooled holder.pool) s.wants.wanted (unknown_ids s es) w.wanted news_there) refl inv_behind
  reader_inv_by false role.Accepter set going =
      asks_for (with_asked s set (s.wants.asked ++ unknown_ids s es)) (unknown_ids s es) refl refl refl news_there news_unserved

  pub reader_inv : (on_inv s es).state.ended ≡ None → AreWantsOf (on_inv s es).state holder to_reader (to_holder ++ (on_inv s es).out)
  reader_inv going = reader_inv_by (nat_lt POOL_LIMIT (taken_room s + length (unknown_ids s es))) s.config.role (without_announced s.set es) going

-- ---- the round's pong

module _ (s holder : NodeState) (to_reader to_holder : List Message) (w : AreWantsOf s holder to_reader to_holder) (mine : IsWanting s) where
  -- what is wanted wasn't served
  wanted_unserved : AllByRecursion (λ id. is_listed holder.wants.served id ≡ false) s.wants.wanted
  wanted_unserved =
      listed_all (λ id. is_listed holder.wants.served id ≡ false) s.wants.wanted
      (λ id want. false_from_ne_true (is_listed holder.wants.served id)
      (λ h. ⊎_elim
      (λ here. both_ways (is_in_pool s.pool id) (not-true (is_in_pool s.pool id) (all_listed (λ x. not (is_in_pool s.pool x) ≡ true) s.wants.wanted mine.unwanted id want)) here)
      (λ open_want. both_ways (is_listed s.wants.wanted id) (all_listed (λ x. is_listed s.wants.wanted x ≡ false) s.wants.asked (distinct_apart s.wants.wanted s.wants.asked mine.once) id open_want) want)
      (or_cases (is_in_pool s.pool id) (is_listed s.wants.asked id) (all_listed (λ x. (is_in_pool s.pool x || is_listed s.wants.asked x) ≡ true) holder.wants.served w.served id h))))

  pub reader_pong : AreWantsOf (with_wants_requested s) holder to_reader (to_holder ++ getdata_of s.wants.wanted)
  reader_pong = record {
    flow = ap (λ xs. xs ++ s.wants.wanted) w.flow ∙ append_assoc (pool_ids (carried_transactions to_reader)) (requested_ids to_holder) s.wants.wanted ∙ ap (λ xs. pool_ids (carried_transactions to_reader) ++ xs) (sym more);
    own = w.own;
    wanted = tt;
    asked = all_append (IsPooled holder.pool) s.wants.asked s.wants.wanted w.asked w.wanted;
    coming = w.coming;
    unserved = subst (AllByRecursion (λ id. is_listed holder.wants.served id ≡ false)) (sym more) (all_append (λ id. is_listed holder.wants.served id ≡ false) (requested_ids to_holder) s.wants.wanted w.unserved wanted_unserved);
    served = all_weaker (λ id. (is_in_pool s.pool id || is_listed s.wants.asked id) ≡ true) (λ id. (is_in_pool s.pool id || is_listed (s.wants.asked ++ s.wants.wanted) id) ≡ true) further holder.wants.served w.served;
    honest = w.honest;
  }
    where
      more : requested_ids (to_holder ++ getdata_of s.wants.wanted) ≡ requested_ids to_holder ++ s.wants.wanted
      more = requested_append to_holder (getdata_of s.wants.wanted) ∙ ap (λ xs. requested_ids to_holder ++ xs) (getdata_asks s.pool s.wants.wanted)

      further : (id : Hash32) → (is_in_pool s.pool id || is_listed s.wants.asked id) ≡ true → (is_in_pool s.pool id || is_listed (s.wants.asked ++ s.wants.wanted) id) ≡ true
      further id h =
          ⊎_elim (λ here. or_left (is_in_pool s.pool id) (is_listed (s.wants.asked ++ s.wants.wanted) id) here)
          (λ open_want. or_right (is_in_pool s.pool id) (is_listed (s.wants.asked ++ s.wants.wanted) id) (listed_append s.wants.asked s.wants.wanted id ∙ or_left (is_listed s.wants.asked id) (is_listed s.wants.wanted id) open_want))
          (or_cases (is_in_pool s.pool id) (is_listed s.wants.asked id) h)
