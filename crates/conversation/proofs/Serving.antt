-- A request entry by entry.
use Rattle.std.proofs.Common.{◌≡◌, ◌≤◌, ◌&&◌, ◌||◌, ℕ, not, Bool, true, false, cond, if◌then◌else◌, List, [], ◌∷◌, ◌++◌, length, take, find, option_map, is_some, Option, Some, None, IsTrue, refl, sym, ap, ◌∙◌, subst, append-nil, append_assoc, arith}
use Rattle.std.specs.List.{AllByRecursion}
use Rattle.std.proofs.lemmas.Grind.{flat_map-append}
use Rattle.std.proofs.lemmas.List.{length-take}
use Rattle.base_types.specs.declared.lists.Hash32.{Hash32}
use Rattle.id_rules.specs.Bytes.{is_tx_length}
use Rattle.wire_rules.specs.Layout.{message_bytes, wire_bytes}
use Rattle.wire_rules.specs.Limits.{IsMessage}
use Rattle.wire_rules.specs.declared.message.InvEntry.{InvEntry}
use Rattle.wire_rules.specs.declared.message.Message.TheVariants as message
use Rattle.pool_rules.specs.Pools.{IsTransaction, Transaction, bytes_of_id, is_in_pool, is_listed, is_same_id}
use Rattle.pool_laws.proofs.PoolIds.{first_or_later}
use Rattle.node_rules.specs.Invariant.{IsNode}
use Rattle.node_rules.specs.Inventory.{Serving, is_tx_entry, on_getdata, serving_after, serving_after_entry, serving_by, serving_of, with_served}
use Rattle.node_rules.specs.Stages.{is_after_handshake}
use Rattle.node_rules.specs.State.{NodeState, NodeView}
use Rattle.node_rules.specs.Steps.{in_relay}
use Rattle.node_rules.specs.Turns.{after_turn, turn_with}
use Rattle.outbox.specs.Waiting.{Waiting, with_messages}
use Rattle.relay_store.specs.Holdings.{Holdings, after_serving, holdings_of, is_servable}
use Rattle.conversation.specs.Handled.{IsStarved}
use Rattle.conversation.specs.Inventories.{missing_in, view_serving}
use Rattle.conversation.proofs.Relaying.{quiet, relayed-sendable, same_holding, with_holdings}

-- what is answered to a request may be sent
pub getdata-sendable : (s : NodeState) (es : List InvEntry) → IsNode s → IsMessage (message.GetData es) → is_after_handshake s.machine.phase ≡ true → AllByRecursion IsMessage (on_getdata s es).out
unfolding in_relay
getdata-sendable s es h sound past = relayed-sendable s (message.GetData es) h sound past

-- ---- the transaction of an id

pub pooled_found : (pool : List Transaction) (id : Hash32) → is_some (bytes_of_id pool id) ≡ is_in_pool pool id
pooled_found [] id = refl
pooled_found (t ∷ ts) id = by_head (is_same_id t.id id) (pooled_found ts id)
  where
    by_head : (b : Bool) → is_some (bytes_of_id ts id) ≡ is_in_pool ts id
        → is_some {T = List ℕ} (option_map (λ t. t.bytes) (cond b (Some t) (find (λ t. is_same_id t.id id) ts))) ≡ (b || is_in_pool ts id)
    by_head true h = refl
    by_head false h = h

pub found_sized : (pool : List Transaction) (id : Hash32) (tx : List ℕ) → AllByRecursion IsTransaction pool → bytes_of_id pool id ≡ Some tx → IsTrue (is_tx_length (length tx))
found_sized [] id tx each e = absurd (let apart : None ≡ Some tx = e in cc)
found_sized (t ∷ ts) id tx each e =
    first_or_later (IsTrue (is_tx_length (length tx))) t ts id tx e (λ same bytes. subst (λ xs. IsTrue (is_tx_length (length xs))) bytes each.0.sized) (found_sized ts id tx each.1)

-- ---- one entry

unserved_by : (a b p : Bool) (o : Option (List ℕ)) (e : InvEntry) (v : Serving) → is_some o ≡ p → (a && (b && p)) ≡ false → serving_by (a && b) o e v ≡ record v { missing = v.missing ++ e ∷ [] }
unfolding serving_by
unserved_by true true p (Some tx) e v h k = absurd (let apart : true ≡ false = h ∙ k in cc)
unserved_by true true p None e v h k = refl
unserved_by true false p o e v h k = refl
unserved_by false b p o e v h k = refl

served_by : (a b p : Bool) (o : Option (List ℕ)) (tx : List ℕ) (e : InvEntry) (v : Serving) → o ≡ Some tx → (a && (b && p)) ≡ true
    → serving_by (a && b) o e v ≡ record v { served = v.served ++ e.id ∷ []; sent = v.sent ++ message.Tx tx ∷ [] }
unfolding serving_by
served_by true true p o tx e v h k = ap (λ o. serving_by true o e v) h
served_by true false p o tx e v h k = absurd (let apart : false ≡ true = k in cc)
served_by false b p o tx e v h k = absurd (let apart : false ≡ true = k in cc)

module _ (s : NodeState) (e : InvEntry) where
  unserved : is_servable (holdings_of s) e ≡ false → serving_of s (e ∷ []) ≡ record { served = s.wants.served; sent = []; missing = e ∷ [] }
  unfolding serving_after
  unserved h =
      unserved_by (is_tx_entry e) (not (is_listed s.wants.served e.id)) (is_in_pool s.pool e.id) (bytes_of_id s.pool e.id) e (record { served = s.wants.served; sent = []; missing = [] }) (pooled_found s.pool e.id) h

  served : (tx : List ℕ) → is_servable (holdings_of s) e ≡ true → bytes_of_id s.pool e.id ≡ Some tx → serving_of s (e ∷ []) ≡ record { served = s.wants.served ++ e.id ∷ []; sent = message.Tx tx ∷ []; missing = [] }
  unfolding serving_after
  served tx h found =
      served_by (is_tx_entry e) (not (is_listed s.wants.served e.id)) (is_in_pool s.pool e.id) (bytes_of_id s.pool e.id) tx e (record { served = s.wants.served; sent = []; missing = [] }) found h

  pub unserved-missing : is_servable (holdings_of s) e ≡ false → missing_in s (e ∷ []) ≡ e ∷ []
  unserved-missing h = ap (λ (v : Serving). v.missing) (unserved h)

  pub served-missing : (tx : List ℕ) → is_servable (holdings_of s) e ≡ true → bytes_of_id s.pool e.id ≡ Some tx → missing_in s (e ∷ []) ≡ []
  served-missing tx h found = ap (λ (v : Serving). v.missing) (served tx h found)

  both_true : (a b p : Bool) → (a && (b && p)) ≡ true → p ≡ true
  both_true true true p h = h
  both_true true false p h = absurd (let apart : false ≡ true = h in cc)
  both_true false b p h = absurd (let apart : false ≡ true = h in cc)

  pub servable-found : is_servable (holdings_of s) e ≡ true → bytes_of_id s.pool e.id ≡ None → ⊥
  servable-found h none =
      let apart : false ≡ true = sym (ap is_some none) ∙ (pooled_found s.pool e.id ∙ both_true (is_tx_entry e) (not (is_listed s.wants.served e.id)) (is_in_pool s.pool e.id) h) in cc

pub after_serving-pool : (b : Bool) (h : Holdings) (e : InvEntry) → (after_serving b h e).pool ≡ h.pool
unfolding after_serving
after_serving-pool true h e = refl
after_serving-pool false h e = refl

not_noted : (b : Bool) (h k : Holdings) (e : InvEntry) → b ≡ false → k ≡ after_serving b h e → k ≡ h
unfolding after_serving
not_noted true h k e no_ is = absurd (let apart : true ≡ false = no_ in cc)
not_noted false h k e no_ is = is

noted : (b : Bool) (h k : Holdings) (e : InvEntry) → b ≡ true → k ≡ after_serving b h e → k ≡ record h { wants = record h.wants { served = h.wants.served ++ e.id ∷ [] } }
unfolding after_serving
noted true h k e set is = is
noted false h k e set is = absurd (let apart : false ≡ true = set in cc)

module _ (v : NodeView) (e : InvEntry) (b : Bool) (k : Holdings) (is : k ≡ after_serving b (holdings_of v.state) e) where
  pub passed_view : b ≡ false → is_servable (holdings_of v.state) e ≡ false → with_holdings v k ≡ view_serving v (e ∷ [])
  passed_view out h =
      same_holding v k (not_noted b (holdings_of v.state) k e out is)
      ∙ sym (ap (λ (x : Serving). after_turn v (turn_with (with_served v.state x.served) x.sent)) (unserved v.state e h) ∙ quiet v v.state)

  pub served_view : (tx : List ℕ) (o : Waiting) (magic : List ℕ) → b ≡ true → is_servable (holdings_of v.state) e ≡ true → bytes_of_id v.state.pool e.id ≡ Some tx → magic ≡ v.state.config.magic
      → o ≡ with_messages (record { magic = magic; bytes = v.outbox }) (message.Tx tx ∷ []) → record (with_holdings v k) { outbox = o.bytes } ≡ view_serving v (e ∷ [])
  served_view tx o magic told h found same sent =
      ap (λ (x : Holdings). record (with_holdings v x) { outbox = o.bytes }) (noted b (holdings_of v.state) k e told is)
      ∙ ap (λ bytes. record v { state = with_served v.state (v.state.wants.served ++ e.id ∷ []); outbox = bytes }) (ap (λ (w : Waiting). w.bytes) sent ∙ ap (λ m. v.outbox ++ wire_bytes m (message.Tx tx ∷ [])) same)
      ∙ sym (ap (λ (x : Serving). after_turn v (turn_with (with_served v.state x.served) x.sent)) (served v.state e tx h found))

  pub starved_view : (bytes : List ℕ) → bytes ≡ v.outbox → IsStarved v (record (with_holdings v k) { outbox = bytes })
  starved_view bytes same = record { config = refl; pool = ap (λ (h : Holdings). h.pool) is ∙ after_serving-pool b (holdings_of v.state) e; outbox = same }

-- ---- one entry more

serving_snoc : (pool : List Transaction) (v : Serving) (es : List InvEntry) (e : InvEntry) → serving_after pool v (es ++ e ∷ []) ≡ serving_after_entry pool (serving_after pool v es) e
unfolding serving_after
serving_snoc pool v [] e = refl
serving_snoc pool v (x ∷ xs) e = serving_snoc pool (serving_after_entry pool v x) xs e

abbrev alone : Serving → Serving
alone v = record v { sent = []; missing = [] }

beside : (b : Bool) (o : Option (List ℕ)) (e : InvEntry) (v : Serving)
    → serving_by b o e v ≡ record { served = (serving_by b o e (alone v)).served; sent = v.sent ++ (serving_by b o e (alone v)).sent; missing = v.missing ++ (serving_by b o e (alone v)).missing }
unfolding serving_by
beside true (Some tx) e v = ap (λ es. record { served = v.served ++ e.id ∷ []; sent = v.sent ++ message.Tx tx ∷ []; missing = es }) (sym (append-nil v.missing))
beside true None e v = ap (λ ms. record { served = v.served; sent = ms; missing = v.missing ++ e ∷ [] }) (sym (append-nil v.sent))
beside false o e v = ap (λ ms. record { served = v.served; sent = ms; missing = v.missing ++ e ∷ [] }) (sym (append-nil v.sent))

module _ (v : NodeView) (es : List InvEntry) (e : InvEntry) where
  abbrev so_far : Serving
  so_far = serving_of v.state es

  abbrev last : Serving
  last = serving_of (view_serving v es).state (e ∷ [])

  with_last : serving_of v.state (es ++ e ∷ []) ≡ record { served = last.served; sent = so_far.sent ++ last.sent; missing = so_far.missing ++ last.missing }
  unfolding serving_after
  with_last =
      serving_snoc v.state.pool (record { served = v.state.wants.served; sent = []; missing = [] }) es e
      ∙ beside (is_tx_entry e && not (is_listed so_far.served e.id)) (bytes_of_id v.state.pool e.id) e so_far

  pub next_view : view_serving (view_serving v es) (e ∷ []) ≡ view_serving v (es ++ e ∷ [])
  next_view =
      let magic : List ℕ = v.state.config.magic in
      ap (λ bytes. record v { state = with_served v.state last.served; outbox = bytes })
      (append_assoc v.outbox (wire_bytes magic so_far.sent) (wire_bytes magic last.sent) ∙ ap (λ bytes. v.outbox ++ bytes) (sym (flat_map-append (message_bytes magic) so_far.sent last.sent)))
      ∙ ap (λ (x : Serving). after_turn v (turn_with (with_served v.state x.served) x.sent)) (sym with_last)

  pub next_missing : missing_in v.state es ++ missing_in (view_serving v es).state (e ∷ []) ≡ missing_in v.state (es ++ e ∷ [])
  next_missing = ap (λ (x : Serving). x.missing) (sym with_last)

-- the entries that can't be served, by whether the last one is
pub more_missing : (v : NodeView) (es : List InvEntry) (e : InvEntry) (b : Bool) (before after : List InvEntry) → before ≡ missing_in v.state es → missing_in (view_serving v es).state (e ∷ []) ≡ (if b then [] else (e ∷ []))
    → after ≡ before ++ (if b then [] else (e ∷ [])) → after ≡ missing_in v.state (es ++ e ∷ [])
more_missing v es e b before after is told more =
    more ∙ ap (λ xs. xs ++ (if b then [] else (e ∷ []))) is ∙ ap (λ xs. missing_in v.state es ++ xs) (sym told) ∙ next_missing v es e

pub first_view : (v : NodeView) → v ≡ view_serving v []
unfolding serving_after
first_view v = sym (quiet v v.state)

pub first_missing : (s : NodeState) → missing_in s [] ≡ []
unfolding serving_after
first_missing s = refl

-- ---- what waited is in front

pub front_short : (n : ℕ) (bytes more : List ℕ) → n ≡ length bytes → take (length bytes) more ≡ bytes → n ≤ length more
front_short n bytes more is e = let long = ap length (sym e) in let cut = length-take (length bytes) more in omega (arith, is, long, cut)
