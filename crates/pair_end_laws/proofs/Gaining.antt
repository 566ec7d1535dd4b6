-- What a pool gains was added to its node, or is in the other pool.
use Rattle.std.proofs.Common.{◌≡◌, ◌⊎◌, inl, inr, ⊎_elim, ℕ, cond, Bool, true, false, List, [], ◌∷◌, ◌++◌, length, take, drop, find, option_map, Some, None, is_some, IsTrue, refl, sym, ap, ap₂, ◌∙◌, subst, append-nil, append_assoc, take-append-drop}
use Rattle.std.specs.List.{AllByRecursion, Contains, list_all}
use Rattle.std.proofs.lemmas.Bool.{or_parts, and_parts}
use Rattle.std.proofs.lemmas.List.Elements.{Contains-append_left, Contains-append_right, Contains-push}
use Rattle.base_types.specs.declared.lists.Hash32.{Hash32}
use Rattle.wire_rules.specs.declared.message.Message.{Message}
use Rattle.pool_rules.specs.Pools.{Transaction, transaction_of, is_same_id}
use Rattle.node_rules.specs.Additions.{on_addition}
use Rattle.node_rules.specs.State.{NodeState}
use Rattle.node_rules.specs.Steps.{on_messages, on_piece, on_start}
use Rattle.node_rules.specs.Turns.{Turn}
use Rattle.pair_rules.specs.World.{World, effect_of, unless_ended, run_from, run, has_end, is_event, IsScript, opening_world}
use Rattle.pair_rules.specs.declared.event.Event.{Event}
use Rattle.pair_rules.specs.declared.event.Event.TheVariants as event
use Rattle.pair_invariant_rules.specs.Pairs.{AreOnTheWay, HasTaken, HasPair, pair_of_world, without_inbox}
use Rattle.pair_invariant_rules.specs.Invariant.{IsPair}
use Rattle.pair_invariant_rules.specs.Wants.{carried_transactions, IsPoolTransaction}
use Rattle.pair_invariant_laws.proofs.Bridge.{no_end}
use Rattle.pool_laws.proofs.IdLists.{is_same_id-equal}
use Rattle.pair_invariant_laws.proofs.Boths.{begins-apart}
use Rattle.id_rules.proofs.Lists.{all_append, all_left, all_weaker}
use Rattle.pair_invariant_laws.proofs.Readings.{on_piece-taken}
use Rattle.pair_invariant_laws.proofs.Saying.{carried_append}
use Rattle.pair_invariant_laws.proofs.Shaking.{whole_a}
use Rattle.pair_invariant_laws.proofs.Worlds.{kept_by_event, kept_by_run}
use Rattle.pair_rules.specs.Gains.{addition_to_a, addition_to_b, additions_to_a, additions_to_b, HasGainedOnly, HaveGainedOnly, PoolsGainWhatIsAddedOrShared}
use Rattle.pair_end_laws.proofs.Bringing.{Brings, on_messages-brings, on_addition-brings}

-- the transaction of an id is in the pool
first_is : (t : Transaction) (ts : List Transaction) → Contains (t ∷ ts) t
first_is t ts = Contains-append_left (t ∷ []) ts t (Contains-push [] t)

pooled-here : (b : Bool) (x t : Transaction) (xs : List Transaction) → is_same_id x.id t.id ≡ b → option_map (λ y. y.bytes) (cond b (Some x) (find (λ y. is_same_id y.id t.id) xs)) ≡ Some t.bytes → (IsPoolTransaction xs t → Contains xs t) → Contains (x ∷ xs) t
pooled-here true x t xs e h rest =
    let bytes : x.bytes ≡ t.bytes = cc in
    subst (Contains (x ∷ xs)) (ap₂ (λ (i : Hash32) (bs : List ℕ). record { id = i; bytes = bs }) (is_same_id-equal x.id t.id e) bytes) (first_is x xs)
pooled-here false x t xs e h rest = Contains-append_right (x ∷ []) xs t (rest h)

pooled-in : (pool : List Transaction) (t : Transaction) → IsPoolTransaction pool t → Contains pool t
pooled-in [] t h = absurd (let apart : None ≡ Some t.bytes = h in cc)
pooled-in (x ∷ xs) t h = pooled-here (is_same_id x.id t.id) x t xs refl h (pooled-in xs t)

abbrev From : List Transaction → List Transaction → Transaction → Type 0
From added other t = Contains added t ⊎ Contains other t

-- ---- what is gained in a row

gained_none : (pool added other : List Transaction) → HasGainedOnly pool pool added other
gained_none pool added other = record { gained = []; grown = sym (append-nil pool); each = tt }

gained_by : (old : NodeState) (t : Turn) (added other : List Transaction) → Brings (From added other) old t → HasGainedOnly old.pool t.state.pool added other
gained_by old t added other b = record { gained = b.more; grown = b.grown; each = b.each }

gained_both : (old mid new first second before more : List Transaction) → HasGainedOnly old mid first before → HasGainedOnly mid new second (before ++ more) → HasGainedOnly old new (first ++ second) (before ++ more)
gained_both old mid new first second before more g h = record {
  gained = g.gained ++ h.gained;
  grown = h.grown ∙ ap (λ xs. xs ++ h.gained) g.grown ∙ append_assoc old g.gained h.gained;
  each =
      all_append (From (first ++ second) (before ++ more)) g.gained h.gained
      (all_weaker (From first before) (From (first ++ second) (before ++ more))
      (λ t e. ⊎_elim (λ a. inl (Contains-append_left first second t a)) (λ o. inr (Contains-append_left before more t o)) e) g.gained g.each)
      (all_weaker (From second (before ++ more)) (From (first ++ second) (before ++ more)) (λ t e. ⊎_elim (λ a. inl (Contains-append_right first second t a)) (λ o. inr o) e) h.gained h.each);
}

gained_on : (old mid new first second before other : List Transaction) → HasGainedOnly old mid first before → (more : List Transaction) → other ≡ before ++ more → HasGainedOnly mid new second other → HasGainedOnly old new (first ++ second) other
gained_on old mid new first second before other g more e h =
    subst (HasGainedOnly old new (first ++ second)) (sym e) (gained_both old mid new first second before more g (subst (HasGainedOnly mid new second) e h))

-- ---- an event

record Gained (w : World) (e : Event) (v : World) : Type 0 where
  pub a : HasGainedOnly w.a.pool v.a.pool (addition_to_a e) v.b.pool
  pub b : HasGainedOnly w.b.pool v.b.pool (addition_to_b e) v.a.pool

-- a node brings of what is on the way to it what the other pool has
taken_brings : (s : NodeState) (wire : List ℕ) (ms : List Message) (t : Turn) (added other : List Transaction) → HasTaken s wire ms t → AllByRecursion (IsPoolTransaction other) (carried_transactions ms) → HasGainedOnly s.pool t.state.pool added other
taken_brings s wire ms t added other r own =
    let here : AllByRecursion (IsPoolTransaction other) (carried_transactions r.taken) = all_left (IsPoolTransaction other) (carried_transactions r.taken) (carried_transactions r.left) (subst (AllByRecursion (IsPoolTransaction other)) (ap carried_transactions r.all ∙ carried_append r.taken r.left) own) in
    let b : Brings (IsPoolTransaction other) (without_inbox s) (on_messages (without_inbox s) r.taken) = on_messages-brings (IsPoolTransaction other) r.taken (without_inbox s) here in
    record {
      gained = b.more;
      grown = ap (λ u. u.pool) r.state ∙ b.grown;
      each = all_weaker (IsPoolTransaction other) (From added other) (λ x h. inr (pooled-in other x h)) b.more b.each;
    }

effect_of-gained : (w : World) (by_a by_b : List Message) (e : Event) → HasPair IsPair w by_a by_b → has_end w ≡ false → Gained w e (effect_of w e).world
unfolding effect_of addition_to_a addition_to_b
effect_of-gained w by_a by_b (event.DeliverAb n) k going =
    let old = or_parts (is_some w.a.ended) (is_some w.b.ended) going in
    let four : length w.b.config.magic ≡ 4 = ap length k.kept.one_net ∙ k.kept.four in
    let way : AreOnTheWay w.b.config.magic w.b.inbox (take n w.ab ++ drop n w.ab) k.to_b = subst (λ xs. AreOnTheWay w.b.config.magic w.b.inbox xs k.to_b) (sym (take-append-drop n w.ab)) k.way_b in
    let r : HasTaken w.b (drop n w.ab) k.to_b (on_piece w.b (take n w.ab)) = on_piece-taken w.b (take n w.ab) (drop n w.ab) k.to_b four (no_end w.b.ended old.1) k.kept.to_b way in
    record { a = gained_none w.a.pool [] (on_piece w.b (take n w.ab)).state.pool; b = taken_brings w.b (drop n w.ab) k.to_b (on_piece w.b (take n w.ab)) [] w.a.pool r k.kept.wants.theirs.own }
effect_of-gained w by_a by_b (event.DeliverBa n) k going =
    let old = or_parts (is_some w.a.ended) (is_some w.b.ended) going in
    let way : AreOnTheWay w.a.config.magic w.a.inbox (take n w.ba ++ drop n w.ba) k.to_a = subst (λ xs. AreOnTheWay w.a.config.magic w.a.inbox xs k.to_a) (sym (take-append-drop n w.ba)) k.way_a in
    let r : HasTaken w.a (drop n w.ba) k.to_a (on_piece w.a (take n w.ba)) = on_piece-taken w.a (take n w.ba) (drop n w.ba) k.to_a k.kept.four (no_end w.a.ended old.0) k.kept.to_a way in
    record { a = taken_brings w.a (drop n w.ba) k.to_a (on_piece w.a (take n w.ba)) [] w.b.pool r k.kept.wants.mine.own; b = gained_none w.b.pool [] (on_piece w.a (take n w.ba)).state.pool }
effect_of-gained w by_a by_b (event.AddA tx) k going = record {
  a = gained_by w.a (on_addition w.a tx).turn (transaction_of tx ∷ []) w.b.pool (on_addition-brings (From (transaction_of tx ∷ []) w.b.pool) w.a tx (inl (first_is (transaction_of tx) [])));
  b = gained_none w.b.pool [] (on_addition w.a tx).turn.state.pool;
}
effect_of-gained w by_a by_b (event.AddB tx) k going = record {
  a = gained_none w.a.pool [] (on_addition w.b tx).turn.state.pool;
  b = gained_by w.b (on_addition w.b tx).turn (transaction_of tx ∷ []) w.a.pool (on_addition-brings (From (transaction_of tx ∷ []) w.a.pool) w.b tx (inl (first_is (transaction_of tx) [])));
}
effect_of-gained w by_a by_b event.Round k going = record {
  a = subst (λ pool. HasGainedOnly w.a.pool pool [] w.b.pool) (sym (begins-apart w.a (whole_a (pair_of_world w k.to_a k.to_b by_a by_b) k.kept.handshake)).pool) (gained_none w.a.pool [] w.b.pool);
  b = gained_none w.b.pool [] (on_start w.a).turn.state.pool;
}

-- ---- a script

abbrev Live : World → Type 0
Live w = has_end w ≡ false → (by_a : List Message) × (by_b : List Message) × HasPair IsPair w by_a by_b

live_on : (w : World) (e : Event) → IsTrue (is_event e) → Live w → has_end w ≡ false → Live (effect_of w e).world
live_on w e fine live going still =
    let k = live going in
    (k.0 ++ (effect_of w e).by_a, k.1 ++ (effect_of w e).by_b, kept_by_event w k.0 k.1 e fine k.2 going still)

gained_more : (w v u : World) (e : Event) (es : List Event) → Gained w e v → HaveGainedOnly v es u → HaveGainedOnly w (e ∷ es) u
gained_more w v u e es g h = record {
  a = gained_on w.a.pool v.a.pool u.a.pool (addition_to_a e) (additions_to_a es) v.b.pool u.b.pool g.a h.b.gained h.b.grown h.a;
  b = gained_on w.b.pool v.b.pool u.b.pool (addition_to_b e) (additions_to_b es) v.a.pool u.a.pool g.b h.a.gained h.a.grown h.b;
}

gained_unless : (over : Bool) (w : World) (e : Event) (es : List Event) → has_end w ≡ over → Live w → (has_end w ≡ false → HaveGainedOnly (effect_of w e).world es (run_from es (effect_of w e).world).world)
    → HaveGainedOnly w (e ∷ es) (unless_ended over w (effect_of w e) (run_from es)).world
unfolding unless_ended
gained_unless true w e es over live rest = record { a = gained_none w.a.pool (additions_to_a (e ∷ es)) w.b.pool; b = gained_none w.b.pool (additions_to_b (e ∷ es)) w.a.pool }
gained_unless false w e es over live rest =
    let k = live over in
    gained_more w (effect_of w e).world (run_from es (effect_of w e).world).world e es (effect_of-gained w k.0 k.1 e k.2 over) (rest over)

gained_run : (script : List Event) (w : World) → IsScript script → Live w → HaveGainedOnly w script (run_from script w).world
unfolding run_from
gained_run [] w fine live = record { a = gained_none w.a.pool [] w.b.pool; b = gained_none w.b.pool [] w.a.pool }
gained_run (e ∷ es) w fine live =
    let both = and_parts (is_event e) (list_all is_event es) fine in
    gained_unless (has_end w) w e es refl live (λ going. gained_run es (effect_of w e).world both.1 (live_on w e both.0 live going))

pub pools_gain_what_is_added_or_shared : PoolsGainWhatIsAddedOrShared
pools_gain_what_is_added_or_shared c d p q earlier script pair before fine =
    let w : World = opening_world c d p q in
    gained_run script (run w earlier).world fine (λ going. ((run w earlier).by_a, (run w earlier).by_b, kept_by_run c d p q earlier pair before going))
