-- A node's pool and wants stay within their limits, and each transaction is served once.
use Rattle.std.proofs.Common.{◌≡◌, ℕ, ◌+◌, ◌&&◌, ◌||◌, not, nat_lt, nat_le, length, Bool, true, false, List, [], ◌∷◌, ◌++◌, map, filter, ltb-false, ◌≤◌, ◌^◌, arith, Option, Some, None, refl, sym, ap, ap₂, ◌∙◌, subst, append_assoc}
use Rattle.std.specs.List.{AllByRecursion, list_all}
use Rattle.std.proofs.lemmas.Bool.{or_left, or_right, or_parts, not-true, both_ways, false_from_ne_true, and_parts, cond_both, leb-false}
use Rattle.std.proofs.lemmas.List.{length-append}
use Rattle.base_types.specs.declared.lists.Hash32.{Hash32}
use Rattle.id_rules.specs.Bytes.{are_bytes_of, is_id}
use Rattle.wire_rules.specs.Limits.{IsMessage, is_in_range, is_entry}
use Rattle.wire_rules.specs.declared.message.InvEntry.{InvEntry}
use Rattle.wire_rules.specs.declared.message.Message.{Message}
use Rattle.wire_rules.specs.declared.message.Message.TheVariants as message
use Rattle.pool_rules.specs.Pools.{Transaction, IsTransaction, IsPool, transaction_of, is_same_id, is_listed, without_id, AreDistinctIds, is_in_pool, bytes_of_id, has_byte_room}
use Rattle.pool_rules.specs.declared.limits.TheConstants.{POOL_LIMIT}
use Rattle.pool_laws.proofs.Insertions.{pool-grown}
use Rattle.pool_laws.proofs.PoolIds.{first_or_later, in_pool_append, in_pool_more}
use Rattle.pool_laws.proofs.IdLists.{all_listed, both_false, distinct_apart, distinct_both, distinct_fewer_left, distinct_fewer_right, distinct_swap, gone, listed_all, listed_append, one_alone, is_same_id-equal}
use Rattle.id_rules.proofs.Lists.{all_append, all_filter, all_left, all_right, all_weaker, filter_few}
use Rattle.node_rules.specs.Additions.{on_addition, with_pooled}
use Rattle.node_rules.specs.Barrier.{with_wants_requested}
use Rattle.node_rules.specs.Invariant.{IsStore, IsServing}
use Rattle.node_rules.specs.Inventory.{is_tx_entry, wtxids_of, is_known, unknown_ids, without_announced, with_wanted, with_asked, with_requests, Serving, serving_by, serving_after_entry, serving_after, serving_of, on_getdata}
use Rattle.node_rules.specs.State.{NodeState, Wants, opening_state, open_wants, taken_room}
use Rattle.node_rules.specs.Steps.{on_message, on_start}
use Rattle.node_rules.specs.declared.config.Config.{Config}
use Rattle.node_rules.specs.declared.config.Role.{Role}
use Rattle.node_laws.proofs.NewIds.{new_distinct, new_kept, new_unknown}
use Rattle.invariant_laws.proofs.Rooms.{lack, lack_append, lack_grow, lack_filter, lack_taken}
use Rattle.invariant_laws.proofs.Rows.{EachRow, IsAddable, IsNews, on_message-rows, on_addition-rows, on_start-rows}

abbrev pub IsId : Hash32 → Type 0
IsId id = is_id id ≡ true

abbrev IsOut : List Transaction → Hash32 → Type 0
IsOut pool id = not (is_in_pool pool id) ≡ true

abbrev IsIn : List Transaction → Hash32 → Type 0
IsIn pool id = is_in_pool pool id ≡ true

-- ---- serving

found_pooled : (pool : List Transaction) (id : Hash32) (tx : List ℕ) → bytes_of_id pool id ≡ Some tx → is_in_pool pool id ≡ true
found_pooled [] id tx e = absurd (let apart : None ≡ Some tx = e in cc)
found_pooled (t ∷ ts) id tx e =
    first_or_later (is_in_pool (t ∷ ts) id ≡ true) t ts id tx e (λ same bytes. or_left (is_same_id t.id id) (is_in_pool ts id) same) (λ later. or_right (is_same_id t.id id) (is_in_pool ts id) (found_pooled ts id tx later))

record IsServedFrom (pool : List Transaction) (v : Serving) : Type 0 where
  pub once : AreDistinctIds v.served
  pub pooled : AllByRecursion (IsIn pool) v.served

served_serves : (may : Bool) (tx : Option (List ℕ)) (pool : List Transaction) (e : InvEntry) (v : Serving) → (may ≡ true → is_listed v.served e.id ≡ false) → bytes_of_id pool e.id ≡ tx → IsServedFrom pool v → IsServedFrom pool (serving_by may tx e v)
unfolding serving_by
served_serves true (Some tx) pool e v unserved found h = record {
  once = distinct_both v.served (e.id ∷ []) h.once (one_alone e.id) (unserved refl, tt);
  pooled = all_append (IsIn pool) v.served (e.id ∷ []) h.pooled (found_pooled pool e.id tx found, tt);
}
served_serves true None pool e v unserved found h = record { once = h.once; pooled = h.pooled }
served_serves false tx pool e v unserved found h = record { once = h.once; pooled = h.pooled }

serves_serves : (pool : List Transaction) (v : Serving) (es : List InvEntry) → IsServedFrom pool v → IsServedFrom pool (serving_after pool v es)
unfolding serving_after
serves_serves pool v [] h = h
serves_serves pool v (e ∷ es) h =
    serves_serves pool (serving_after_entry pool v e) es
    (served_serves (is_tx_entry e && not (is_listed v.served e.id)) (bytes_of_id pool e.id) pool e v (λ k. not-true (is_listed v.served e.id) (and_parts (is_tx_entry e) (not (is_listed v.served e.id)) k).1) refl h)

-- ---- the same store, or another

store_from : (u : NodeState) → IsPool u.pool → AreDistinctIds (open_wants u) → AllByRecursion (IsOut u.pool) u.wants.wanted → taken_room u ≤ POOL_LIMIT → AllByRecursion IsId (open_wants u) → IsServing u → IsStore u
store_from u pool once unwanted room ids serving = record { pool = pool; wanting = record { once = once; unwanted = unwanted; room = room }; ids = ids; serving = serving }

module _ (s : NodeState) (store : IsStore s) where
  -- a step that leaves pool and wants
  same_store : (u : NodeState) → u.pool ≡ s.pool → u.wants ≡ s.wants → IsStore u
  same_store u pool wants =
      let taken : List Transaction → Wants → ℕ = λ p w. length p + lack p (w.wanted ++ w.asked) in
      store_from u (subst IsPool (sym pool) store.pool) (subst (λ (w : Wants). AreDistinctIds (w.wanted ++ w.asked)) (sym wants) store.wanting.once)
      (subst (λ p. AllByRecursion (IsOut p) u.wants.wanted) (sym pool) (subst (λ (w : Wants). AllByRecursion (IsOut s.pool) w.wanted) (sym wants) store.wanting.unwanted))
      (subst (λ n. n ≤ POOL_LIMIT) (sym (ap₂ taken pool wants)) store.wanting.room) (subst (λ (w : Wants). AllByRecursion IsId (w.wanted ++ w.asked)) (sym wants) store.ids)
      (record {
        once = subst (λ (w : Wants). AreDistinctIds w.served) (sym wants) store.serving.once;
        pooled = subst (λ p. AllByRecursion (IsIn p) u.wants.served) (sym pool) (subst (λ (w : Wants). AllByRecursion (IsIn s.pool) w.served) (sym wants) store.serving.pooled);
      })

  -- ---- an announcement

  entry_id : (e : InvEntry) → is_entry e ≡ true → IsId e.id
  entry_id e h = (and_parts (nat_lt e.kind (2 ^ 32)) (are_bytes_of 32 e.id.0) h).1

  announced_ids : (es : List InvEntry) → list_all is_entry es ≡ true → AllByRecursion IsId (wtxids_of es)
  announced_ids [] h = tt
  announced_ids (e ∷ es) h =
      let parts = and_parts (is_entry e) (list_all is_entry es) h in
      cond_both (is_tx_entry e) (e ∷ filter is_tx_entry es) (filter is_tx_entry es) (λ xs. AllByRecursion IsId (map (λ x. x.id) xs)) (λ k. (entry_id e parts.0, announced_ids es parts.1)) (λ k. announced_ids es parts.1)

  entries_in : (es : List InvEntry) → IsMessage (message.Inv es) → list_all is_entry es ≡ true
  unfolding is_in_range
  entries_in es m = m.ranged

  module _ (es : List InvEntry) where
    abbrev fresh : List Hash32
    fresh = unknown_ids s es

    pub fresh_ids : IsMessage (message.Inv es) → AllByRecursion IsId fresh
    fresh_ids m = new_kept IsId (is_known s) (wtxids_of es) (announced_ids es (entries_in es m))

    fresh_unknown : AllByRecursion (λ id. is_known s id ≡ false) fresh
    fresh_unknown = new_unknown (is_known s) (wtxids_of es)

    fresh_out : AllByRecursion (IsOut s.pool) fresh
    fresh_out = all_weaker (λ id. is_known s id ≡ false) (IsOut s.pool) (λ id h. ap not (or_parts (is_in_pool s.pool id) (is_listed (open_wants s) id) h).0) fresh fresh_unknown

    fresh_apart : AllByRecursion (λ id. is_listed (open_wants s) id ≡ false) fresh
    fresh_apart = all_weaker (λ id. is_known s id ≡ false) (λ id. is_listed (open_wants s) id ≡ false) (λ id h. (or_parts (is_in_pool s.pool id) (is_listed (open_wants s) id) h).1) fresh fresh_unknown

    -- new ids in the middle
    once_between : AreDistinctIds ((s.wants.wanted ++ fresh) ++ s.wants.asked)
    once_between =
        distinct_swap s.wants.asked (s.wants.wanted ++ fresh)
        (subst AreDistinctIds (append_assoc s.wants.asked s.wants.wanted fresh)
        (distinct_both (s.wants.asked ++ s.wants.wanted) fresh (distinct_swap s.wants.wanted s.wants.asked store.wanting.once) (new_distinct (is_known s) (wtxids_of es))
        (all_weaker (λ id. is_listed (open_wants s) id ≡ false) (λ id. is_listed (s.wants.asked ++ s.wants.wanted) id ≡ false)
        (λ id h. let parts = or_parts (is_listed s.wants.wanted id) (is_listed s.wants.asked id) (sym (listed_append s.wants.wanted s.wants.asked id) ∙ h) in listed_append s.wants.asked s.wants.wanted id ∙ both_false (is_listed s.wants.asked id) (is_listed s.wants.wanted id) parts.1 parts.0)
        fresh fresh_apart)))

    room_with : (l : ℕ) → l ≡ lack s.pool (open_wants s) + lack s.pool fresh → nat_lt POOL_LIMIT (taken_room s + length fresh) ≡ false → length s.pool + l ≤ POOL_LIMIT
    room_with l more fits = let le = ltb-false POOL_LIMIT (taken_room s + length fresh) fits in let few = filter_few (λ id. not (is_in_pool s.pool id)) fresh in omega (arith, le, few, more)

    wants_store : (r : Role) → IsNews r s es → IsStore (with_wanted s (without_announced s.set es) (s.wants.wanted ++ fresh))
    wants_store r h =
        store_from (with_wanted s (without_announced s.set es) (s.wants.wanted ++ fresh)) store.pool once_between (all_append (IsOut s.pool) s.wants.wanted fresh store.wanting.unwanted fresh_out)
        (room_with (lack s.pool ((s.wants.wanted ++ fresh) ++ s.wants.asked))
        (let a = lack_append s.pool (s.wants.wanted ++ fresh) s.wants.asked in let b = lack_append s.pool s.wants.wanted fresh in let c = lack_append s.pool s.wants.wanted s.wants.asked in omega (arith, a, b, c)) h.room)
        (all_append IsId (s.wants.wanted ++ fresh) s.wants.asked (all_append IsId s.wants.wanted fresh (all_left IsId s.wants.wanted s.wants.asked store.ids) (fresh_ids h.sound)) (all_right IsId s.wants.wanted s.wants.asked store.ids))
        (record { once = store.serving.once; pooled = store.serving.pooled })

    request_store : (r : Role) → IsNews r s es → IsStore (with_asked s (without_announced s.set es) (s.wants.asked ++ fresh))
    request_store r h =
        let along : (open_wants s ++ fresh) ≡ (s.wants.wanted ++ (s.wants.asked ++ fresh)) = append_assoc s.wants.wanted s.wants.asked fresh in
        store_from (with_asked s (without_announced s.set es) (s.wants.asked ++ fresh)) store.pool (subst AreDistinctIds along (distinct_both (open_wants s) fresh store.wanting.once (new_distinct (is_known s) (wtxids_of es)) fresh_apart)) store.wanting.unwanted
        (room_with (lack s.pool (s.wants.wanted ++ (s.wants.asked ++ fresh))) (ap (lack s.pool) (sym along) ∙ lack_append s.pool (open_wants s) fresh) h.room)
        (subst (AllByRecursion IsId) along (all_append IsId (open_wants s) fresh store.ids (fresh_ids h.sound)))
        (record { once = store.serving.once; pooled = store.serving.pooled })

  -- ---- a request, and fewer wants

  getdata_store : (es : List InvEntry) → IsStore (on_getdata s es).state
  getdata_store es =
      let v = serves_serves s.pool (record { served = s.wants.served; sent = []; missing = [] }) es (record { once = store.serving.once; pooled = store.serving.pooled }) in
      store_from (on_getdata s es).state store.pool store.wanting.once store.wanting.unwanted store.wanting.room store.ids (record { once = v.once; pooled = v.pooled })

  asked_fewer : (t : Hash32 → Bool) → IsStore (with_requests s (filter t s.wants.asked))
  asked_fewer t =
      store_from (with_requests s (filter t s.wants.asked)) store.pool (distinct_fewer_right t s.wants.wanted s.wants.asked store.wanting.once) store.wanting.unwanted
      (let le = store.wanting.room in let less = lack_filter s.pool t s.wants.asked in let a = lack_append s.pool s.wants.wanted (filter t s.wants.asked) in let b = lack_append s.pool s.wants.wanted s.wants.asked in omega (arith, le, less, a, b))
      (all_append IsId s.wants.wanted (filter t s.wants.asked) (all_left IsId s.wants.wanted s.wants.asked store.ids) (all_filter IsId t s.wants.asked (all_right IsId s.wants.wanted s.wants.asked store.ids)))
      (record { once = store.serving.once; pooled = store.serving.pooled })

  pong_store : IsStore (with_wants_requested s)
  pong_store =
      store_from (with_wants_requested s) store.pool (distinct_swap s.wants.wanted s.wants.asked store.wanting.once) tt
      (let a = lack_append s.pool s.wants.asked s.wants.wanted in let b = lack_append s.pool s.wants.wanted s.wants.asked in let le = store.wanting.room in omega (arith, a, b, le))
      (all_append IsId s.wants.asked s.wants.wanted (all_right IsId s.wants.wanted s.wants.asked store.ids) (all_left IsId s.wants.wanted s.wants.asked store.ids)) (record { once = store.serving.once; pooled = store.serving.pooled })

  -- ---- one more transaction

  module _ (t : Transaction) (sound : IsTransaction t) (fits : has_byte_room s.pool t.bytes ≡ true) (absent : is_in_pool s.pool t.id ≡ false) where
    abbrev grown : List Transaction
    grown = s.pool ++ t ∷ []

    length_grown : length grown ≡ length s.pool + 1
    length_grown = length-append s.pool (t ∷ [])

    grown_pool : length grown ≤ POOL_LIMIT → IsPool grown
    grown_pool few = pool-grown s.pool t store.pool sound absent (let long = length_grown in omega (arith, few, long)) fits

    -- the pool with it, and other wants
    grown_store : (u : NodeState) → u.pool ≡ grown → u.wants.served ≡ s.wants.served → AreDistinctIds (open_wants u) → AllByRecursion (IsOut grown) u.wants.wanted → lack grown (open_wants u) + length grown ≤ POOL_LIMIT → AllByRecursion IsId (open_wants u) → IsStore u
    grown_store u pool served once unwanted room ids =
        store_from u (subst IsPool (sym pool) (grown_pool (omega (arith, room)))) once (subst (λ p. AllByRecursion (IsOut p) u.wants.wanted) (sym pool) unwanted)
        (subst (λ p. length p + lack p (open_wants u) ≤ POOL_LIMIT) (sym pool) (omega (arith, room))) ids
        (record {
          once = subst AreDistinctIds (sym served) store.serving.once;
          pooled = subst (λ p. AllByRecursion (IsIn p) u.wants.served) (sym pool) (subst (AllByRecursion (IsIn grown)) (sym served) (all_weaker (IsIn s.pool) (IsIn grown) (λ id h. in_pool_more s.pool (t ∷ []) id h) s.wants.served store.serving.pooled));
        })

    -- what is wanted and isn't this one is not in the pool with it
    still_out : (ids : List Hash32) → AllByRecursion (IsOut s.pool) ids → is_listed ids t.id ≡ false → AllByRecursion (IsOut grown) ids
    still_out ids out other =
        listed_all (IsOut grown) ids
        (λ id h. ap not (in_pool_append s.pool (t ∷ []) id
        ∙ both_false (is_in_pool s.pool id) (is_in_pool (t ∷ []) id) (not-true (is_in_pool s.pool id) (all_listed (IsOut s.pool) ids out id h))
        (both_false (is_same_id t.id id) false (false_from_ne_true (is_same_id t.id id) (λ same. both_ways (is_listed ids t.id) other (subst (λ x. is_listed ids x ≡ true) (sym (is_same_id-equal t.id id same)) h))) refl)))

    gained_store : is_listed s.wants.asked t.id ≡ true → IsStore (with_requests (record s { pool = grown }) (without_id s.wants.asked t.id))
    gained_store asked =
        let rest = asked_fewer (λ other. not (is_same_id other t.id)) in
        let unwanted_t : is_listed s.wants.wanted t.id ≡ false = all_listed (λ id. is_listed s.wants.wanted id ≡ false) s.wants.asked (distinct_apart s.wants.wanted s.wants.asked store.wanting.once) t.id asked in
        grown_store (with_requests (record s { pool = grown }) (without_id s.wants.asked t.id)) refl refl rest.wanting.once (still_out s.wants.wanted store.wanting.unwanted unwanted_t)
        (let taken = lack_taken s.pool t s.wants.asked asked absent in
        let fewer = lack_filter grown (λ other. not (is_same_id other t.id)) s.wants.asked in
        let wanted = lack_grow s.pool (t ∷ []) s.wants.wanted in
        let a = lack_append grown s.wants.wanted (without_id s.wants.asked t.id) in
        let b = lack_append s.pool s.wants.wanted s.wants.asked in
        let long = length_grown in
        let le = store.wanting.room in
        omega (arith, taken, fewer, wanted, a, b, long, le))
        rest.ids

    -- with room: it is wanted already, or there is some left
    pooled_room : (known : Bool) → is_listed (open_wants s) t.id ≡ known → (known ≡ false → nat_le POOL_LIMIT (taken_room s) ≡ false) → lack grown (open_wants s) + length s.pool + 1 ≤ POOL_LIMIT
    pooled_room true listed_t room = let taken = lack_taken s.pool t (open_wants s) listed_t absent in let le = store.wanting.room in omega (arith, taken, le)
    pooled_room false listed_t room = let lt = leb-false POOL_LIMIT (taken_room s) (room refl) in let grow = lack_grow s.pool (t ∷ []) (open_wants s) in omega (arith, lt, grow)

    pooled_store : (is_listed (open_wants s) t.id ≡ false → nat_le POOL_LIMIT (taken_room s) ≡ false) → IsStore (with_pooled s t)
    pooled_store room =
        let test : Hash32 → Bool = λ other. not (is_same_id other t.id) in
        let space = pooled_room (is_listed (open_wants s) t.id) refl room in
        grown_store (with_pooled s t) refl refl (distinct_fewer_left test s.wants.wanted s.wants.asked store.wanting.once)
        (still_out (without_id s.wants.wanted t.id) (all_filter (IsOut s.pool) test s.wants.wanted store.wanting.unwanted) (gone s.wants.wanted t.id))
        (let a = lack_append grown (without_id s.wants.wanted t.id) s.wants.asked in
        let b = lack_append grown s.wants.wanted s.wants.asked in
        let fewer = lack_filter grown test s.wants.wanted in
        let long = length_grown in
        omega (arith, a, b, fewer, long, space))
        (all_append IsId (without_id s.wants.wanted t.id) s.wants.asked (all_filter IsId test s.wants.wanted (all_left IsId s.wants.wanted s.wants.asked store.ids)) (all_right IsId s.wants.wanted s.wants.asked store.ids))

  room_left : (fit known over : Bool) → (not fit || (not known && over)) ≡ false → (fit ≡ true) × (known ≡ false → over ≡ false)
  room_left true true over e = (refl, λ h. absurd (let apart : true ≡ false = h in cc))
  room_left true false over e = (refl, λ h. e)
  room_left false known over e = absurd (let apart : true ≡ false = e in cc)

  addition_store : (t : Transaction) → IsAddable s t → IsStore (with_pooled s t)
  addition_store t h =
      let left = room_left (has_byte_room s.pool t.bytes) (is_listed (open_wants s) t.id) (nat_le POOL_LIMIT (taken_room s)) h.room in
      pooled_store t h.sound left.0 h.absent left.1

-- ---- the steps

store_rows : (s : NodeState) → IsStore s → EachRow s (λ t. IsStore t.state)
store_rows s h = record {
  stays = h;
  ends = λ e. same_store s h (record s { ended = Some e }) refl refl;
  version = λ e. same_store s h _ refl refl;
  wtxidrelay = λ e. same_store s h _ refl refl;
  offer = λ o e is none. same_store s h _ refl refl;
  plain = λ e by_id none. same_store s h _ refl refl;
  whole = λ o e by_id some. same_store s h _ refl refl;
  answer = λ n bytes es a e. same_store s h _ refl refl;
  more = λ n bytes a e. same_store s h _ refl refl;
  fallback = λ n bytes a. same_store s h _ refl refl;
  first = λ size q a e. same_store s h _ refl refl;
  extension = λ n a g e. same_store s h _ refl refl;
  difference = λ n success asks a g e m. same_store s h _ refl refl;
  wants = λ es n. wants_store s h es _ n;
  request = λ es n. request_store s h es _ n;
  getdata = λ es past m. getdata_store s h es;
  notfound = λ es past m. asked_fewer s h (λ id. not (is_listed (wtxids_of es) id));
  known = λ t past a p. asked_fewer s h (λ other. not (is_same_id other t.id));
  gained = λ t past a p f. gained_store s h t a.sound f p a.asked;
  ping = λ n past m. h;
  pong = λ r b. pong_store s h;
  addition = λ t a. addition_store s h t a;
  announcement = λ t a k past plain. addition_store s h t a;
  member = λ t a k past whole. same_store (with_pooled s t) (addition_store s h t a) _ refl refl;
  round = λ r idle. same_store s h _ refl refl;
  plain_round = λ r idle plain. same_store s h _ refl refl;
}

pub on_message-store : (s : NodeState) (m : Message) → IsStore s → IsMessage m → IsStore (on_message s m).state
on_message-store s m h sound = on_message-rows s (λ t. IsStore t.state) (store_rows s h) m sound

pub on_addition-store : (s : NodeState) (tx : List ℕ) → IsStore s → IsTransaction (transaction_of tx) → IsStore (on_addition s tx).turn.state
on_addition-store s tx h sound = on_addition-rows s (λ t. IsStore t.state) (store_rows s h) tx sound

pub on_start-store : (s : NodeState) → IsStore s → IsStore (on_start s).turn.state
on_start-store s h = on_start-rows s (λ t. IsStore t.state) (store_rows s h)

pub opening-store : (c : Config) (pool : List Transaction) → IsPool pool → IsStore (opening_state c pool)
unfolding AreDistinctIds
opening-store c pool h = store_from (opening_state c pool) h tt tt (let le = h.count in omega (arith, le)) tt (record { once = tt; pooled = tt })
