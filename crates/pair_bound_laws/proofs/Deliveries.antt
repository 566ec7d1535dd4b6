-- Pairs of whole deliveries leave nothing on the way.
use Rattle.std.proofs.Common.{◌≡◌, ◌≤◌, ℕ, zero, suc, ◌+◌, ◌-◌, ◌^◌, Bool, true, false, List, [], ◌∷◌, ◌++◌, length, take, drop, is_some, Option, Some, None, refl, sym, ap, ap₂, ◌∙◌, subst, arith, append-nil, append_assoc, take-append-drop, min}
use Rattle.std.specs.List.{AllByRecursion}
use Rattle.std.proofs.lemmas.Bool.{or_parts}
use Rattle.std.proofs.lemmas.List.{drop_all}
use Rattle.std.proofs.lemmas.List.Concat.{flat_map-append}
use Rattle.wire_rules.specs.Layout.{wire_bytes, message_bytes}
use Rattle.wire_rules.specs.Limits.{IsMessage}
use Rattle.wire_rules.specs.declared.message.Message.{Message}
use Rattle.wire_rules.specs.declared.message.Message.TheVariants as message
use Rattle.pool_rules.specs.Pools.{transaction_of, is_listed, is_in_pool, has_byte_room}
use Rattle.node_rules.specs.State.{NodeState, Inbox}
use Rattle.node_rules.specs.Steps.{on_message, on_messages, next_unless_ended, in_relay, on_piece}
use Rattle.node_rules.specs.Turns.{Turn, unchanged}
use Rattle.node_rules.specs.declared.config.Role.TheVariants as role
use Rattle.node_rules.specs.declared.end.End.{End}
use Rattle.pair_rules.specs.World.{World, effect_of, unless_ended, run_from, run, has_end, deliveries, opening_world, IsDrained}
use Rattle.pair_rules.specs.declared.event.Event.{Event}
use Rattle.pair_rules.specs.declared.event.Event.TheVariants as event
use Rattle.pair_invariant_rules.specs.Pairs.{Pair, AreOnTheWay, after_a, after_b, after_message_a, after_message_b, pair_of_world, without_inbox}
use Rattle.pair_invariant_rules.specs.Handshake.{Past, stage_of}
use Rattle.pair_invariant_rules.specs.Topics.{topic_of, is_handshake}
use Rattle.pair_invariant_rules.specs.Wants.{HasTxEntries}
use Rattle.pair_invariant_laws.proofs.Boths.{came-comes}
use Rattle.pair_invariant_laws.proofs.Bridge.{run_from-kept}
use Rattle.pair_invariant_laws.proofs.Drained.{drained_way}
use Rattle.pair_invariant_laws.proofs.Known.{talk_past_b}
use Rattle.id_rules.proofs.Lists.{all_right}
use Rattle.pair_invariant_laws.proofs.PlainTalk.{relays_past}
use Rattle.pair_invariant_laws.proofs.Readings.{on_piece-taken}
use Rattle.pair_invariant_rules.specs.Pairs.{HasTaken}
use Rattle.pair_invariant_laws.proofs.Shaking.{whole_a, whole_b}
use Rattle.pair_bound_laws.specs.Costs.{total_weight, rounds_weight, handshake_weight, owed_messages, HasEntries}
use Rattle.pair_bound_laws.specs.Keeping.{outstanding_messages, outstanding_handshake, IsBudgetedPair, IsOrderly}
use Rattle.pair_rules.specs.Deliveries.{DeliveriesDrain}
use Rattle.pair_bound_laws.proofs.Bounded.{total_front, spends_a, spends_b, greets_as}
use Rattle.pair_bound_laws.proofs.Greeting.{takes-greets}
use Rattle.pair_bound_laws.proofs.Joining.{is_bounded, opening_bounds}
use Rattle.pair_bound_laws.proofs.Saying.{no_end, ended_run}
use Rattle.pair_bound_laws.proofs.Spending.{takes-spends}
use Rattle.pair_bound_laws.proofs.Totals.{total_append}
use Rattle.pair_bound_laws.proofs.Wires.{short_a, short_b}

-- ---- what falls

-- how many messages of rounds and of the handshake are still to be said
abbrev more : Pair → ℕ
more p = outstanding_messages p + outstanding_handshake p

abbrev said : List Message → ℕ
said ms = total_weight rounds_weight ms + total_weight handshake_weight ms

said_append : (xs ys : List Message) → said (xs ++ ys) ≡ said xs + said ys
said_append xs ys = let a = total_append rounds_weight xs ys in let b = total_append handshake_weight xs ys in let sum : said (xs ++ ys) ≡ said xs + said ys = omega (arith, a, b) in sum

module _ (l : ℕ) where
  -- the invariant holds behind a step, and what was said is no longer to be said
  pub record Falls (before after : Pair) (out : List Message) : Type 0 where
    pub bounds : IsBudgetedPair l after
    pub falls : more after + said out ≤ more before

  -- transactions alone
  unfoldable Cargo : Message → Type 0
  Cargo (message.Tx tx) = Unit {0}
  Cargo _ = ⊥

  record IsCargo (m : Message) : Type 0 where
    tx_weight : Cargo m

  unsaid : (m : Message) → IsOrderly m → rounds_weight m + handshake_weight m ≡ 0 → IsCargo m
  unfolding rounds_weight handshake_weight HasTxEntries HasEntries Cargo
  unsaid (message.Tx tx) f e = record { tx_weight = tt }
  unsaid (message.NotFound es) f e = absurd (f.honest.honest)
  unsaid (message.Other command payload) f e = absurd (f.filled.filled)
  unsaid _ f e = absurd (omega (arith, e))

  all_unsaid : (ms : List Message) → AllByRecursion IsOrderly ms → said ms ≡ 0 → AllByRecursion IsCargo ms
  unfolding total_weight
  all_unsaid [] f e = tt
  all_unsaid (m ∷ ms) f e =
      let none : rounds_weight m + handshake_weight m ≡ 0 = omega (arith, e) in
      let rest : said ms ≡ 0 = omega (arith, e) in
      (unsaid m f.0 none, all_unsaid ms f.1 rest)

  -- ---- one message

  falls_b : (p : Pair) (m : Message) (ms : List Message) → IsBudgetedPair l p → p.to_b ≡ m ∷ ms → (on_message p.b m).state.ended ≡ None → Falls p (after_message_b p m ms) (on_message p.b m).out
  falls_b p m ms k e going =
      let t : Turn = on_message p.b m in
      let next = (is_bounded l).by_message_b p m ms k e going in
      let spent = takes-spends p.b k.kept.node_b.bounded.most m (whole_b (after_message_b p m ms) next.kept.handshake) in
      let talks = spends_b p.b m t k.kept.accepter spent in
      let greets = greets_as role.Accepter p.b t k.kept.accepter (takes-greets p.b m (subst (AllByRecursion IsMessage) e k.kept.to_b).0) in
      let owed = total_append (owed_messages role.Opener) p.to_a t.out in
      let read = total_front (owed_messages role.Accepter) p.to_b m ms e in
      record { bounds = next; falls = omega (arith, talks, greets, owed, read) }

  falls_a : (p : Pair) (m : Message) (ms : List Message) → IsBudgetedPair l p → p.to_a ≡ m ∷ ms → (on_message p.a m).state.ended ≡ None → Falls p (after_message_a p m ms) (on_message p.a m).out
  falls_a p m ms k e going =
      let t : Turn = on_message p.a m in
      let next = (is_bounded l).by_message_a p m ms k e going in
      let spent = takes-spends p.a k.kept.node_a.bounded.most m (whole_a (after_message_a p m ms) next.kept.handshake) in
      let talks = (spends_a p.a m t k.kept.opener spent).0 in
      let greets = greets_as role.Opener p.a t k.kept.opener (takes-greets p.a m (subst (AllByRecursion IsMessage) e k.kept.to_a).0) in
      let owed = total_append (owed_messages role.Accepter) p.to_b t.out in
      let read = total_front (owed_messages role.Opener) p.to_a m ms e in
      record { bounds = next; falls = omega (arith, talks, greets, owed, read) }

  -- ---- all messages of a way

  -- equal parts, equal pairs
  rename_b : (p q : Pair) (t : Turn) (xs ys zs : List Message) → Falls q (record p { b = t.state; to_a = xs; to_b = []; by_b = ys }) zs → (us vs ws : List Message) → xs ≡ us → ys ≡ vs → zs ≡ ws
      → Falls q (record p { b = t.state; to_a = us; to_b = []; by_b = vs }) ws
  rename_b p q t xs ys zs h us vs ws ex ey ez =
      subst (λ w. Falls q (record p { b = t.state; to_a = us; to_b = []; by_b = vs }) w) ez
      (subst (λ v. Falls q (record p { b = t.state; to_a = us; to_b = []; by_b = v }) zs) ey
      (subst (λ u. Falls q (record p { b = t.state; to_a = u; to_b = []; by_b = ys }) zs) ex h))

  rename_a : (p q : Pair) (t : Turn) (xs ys zs : List Message) → Falls q (record p { a = t.state; to_b = xs; to_a = []; by_a = ys }) zs → (us vs ws : List Message) → xs ≡ us → ys ≡ vs → zs ≡ ws
      → Falls q (record p { a = t.state; to_b = us; to_a = []; by_a = vs }) ws
  rename_a p q t xs ys zs h us vs ws ex ey ez =
      subst (λ w. Falls q (record p { a = t.state; to_b = us; to_a = []; by_a = vs }) w) ez
      (subst (λ v. Falls q (record p { a = t.state; to_b = us; to_a = []; by_a = v }) zs) ey
      (subst (λ u. Falls q (record p { a = t.state; to_b = u; to_a = []; by_a = ys }) zs) ex h))

  both_fall : (p q r : Pair) (xs ys : List Message) → Falls p q xs → Falls q r ys → Falls p r (xs ++ ys)
  both_fall p q r xs ys h k = record { bounds = k.bounds; falls = let a = h.falls in let b = k.falls in let sum = said_append xs ys in omega (arith, a, b, sum) }

  goes_b : (o : Option End) (ms : List Message) (m : Message) (p : Pair) → IsBudgetedPair l p → p.to_b ≡ m ∷ ms → (on_message p.b m).state.ended ≡ o
      → (next_unless_ended o (on_message p.b m) (λ next. on_messages next ms)).state.ended ≡ None
      → ((on_message p.b m).state.ended ≡ None → (on_messages (on_message p.b m).state ms).state.ended ≡ None → IsBudgetedPair l (after_message_b p m ms)
      → Falls (after_message_b p m ms) (after_b (after_message_b p m ms) (on_messages (on_message p.b m).state ms) []) (on_messages (on_message p.b m).state ms).out)
      → Falls p (after_b p (next_unless_ended o (on_message p.b m) (λ next. on_messages next ms)) []) (next_unless_ended o (on_message p.b m) (λ next. on_messages next ms)).out
  unfolding next_unless_ended
  goes_b (Some x) ms m p k e ended going rest = absurd (let apart : Some x ≡ None = sym ended ∙ going in cc)
  goes_b None ms m p k e ended going rest =
      let t : Turn = on_message p.b m in
      let u : Turn = on_messages t.state ms in
      let first = falls_b p m ms k e ended in
      rename_b p p u ((p.to_a ++ t.out) ++ u.out) ((p.by_b ++ t.out) ++ u.out) (t.out ++ u.out)
      (both_fall p (after_message_b p m ms) (after_b (after_message_b p m ms) u []) t.out u.out first (rest ended going first.bounds))
      (p.to_a ++ (t.out ++ u.out)) (p.by_b ++ (t.out ++ u.out)) (t.out ++ u.out) (append_assoc p.to_a t.out u.out) (append_assoc p.by_b t.out u.out) refl

  stands_b : (p : Pair) → IsBudgetedPair l p → p.to_b ≡ [] → Falls p (after_b p (unchanged p.b) []) []
  unfolding total_weight
  stands_b p k e =
      rename_b p p (unchanged p.b) p.to_a p.by_b []
      (subst (λ ys. Falls p (record p { to_b = ys }) []) e (record { bounds = k; falls = omega arith }))
      (p.to_a ++ []) (p.by_b ++ []) [] (sym (append-nil p.to_a)) (sym (append-nil p.by_b)) refl

  all_b : (ms : List Message) (p : Pair) → IsBudgetedPair l p → p.to_b ≡ ms → (on_messages p.b ms).state.ended ≡ None → Falls p (after_b p (on_messages p.b ms) []) (on_messages p.b ms).out
  unfolding on_messages
  all_b [] p k e going = stands_b p k e
  all_b (m ∷ ms) p k e going = goes_b (on_message p.b m).state.ended ms m p k e refl going (λ first rest bounds. all_b ms (after_message_b p m ms) bounds refl rest)

  goes_a : (o : Option End) (ms : List Message) (m : Message) (p : Pair) → IsBudgetedPair l p → p.to_a ≡ m ∷ ms → (on_message p.a m).state.ended ≡ o
      → (next_unless_ended o (on_message p.a m) (λ next. on_messages next ms)).state.ended ≡ None
      → ((on_message p.a m).state.ended ≡ None → (on_messages (on_message p.a m).state ms).state.ended ≡ None → IsBudgetedPair l (after_message_a p m ms)
      → Falls (after_message_a p m ms) (after_a (after_message_a p m ms) (on_messages (on_message p.a m).state ms) []) (on_messages (on_message p.a m).state ms).out)
      → Falls p (after_a p (next_unless_ended o (on_message p.a m) (λ next. on_messages next ms)) []) (next_unless_ended o (on_message p.a m) (λ next. on_messages next ms)).out
  unfolding next_unless_ended
  goes_a (Some x) ms m p k e ended going rest = absurd (let apart : Some x ≡ None = sym ended ∙ going in cc)
  goes_a None ms m p k e ended going rest =
      let t : Turn = on_message p.a m in
      let u : Turn = on_messages t.state ms in
      let first = falls_a p m ms k e ended in
      rename_a p p u ((p.to_b ++ t.out) ++ u.out) ((p.by_a ++ t.out) ++ u.out) (t.out ++ u.out)
      (both_fall p (after_message_a p m ms) (after_a (after_message_a p m ms) u []) t.out u.out first (rest ended going first.bounds))
      (p.to_b ++ (t.out ++ u.out)) (p.by_a ++ (t.out ++ u.out)) (t.out ++ u.out) (append_assoc p.to_b t.out u.out) (append_assoc p.by_a t.out u.out) refl

  stands_a : (p : Pair) → IsBudgetedPair l p → p.to_a ≡ [] → Falls p (after_a p (unchanged p.a) []) []
  unfolding total_weight
  stands_a p k e =
      rename_a p p (unchanged p.a) p.to_b p.by_a []
      (subst (λ ys. Falls p (record p { to_a = ys }) []) e (record { bounds = k; falls = omega arith }))
      (p.to_b ++ []) (p.by_a ++ []) [] (sym (append-nil p.to_b)) (sym (append-nil p.by_a)) refl

  all_a : (ms : List Message) (p : Pair) → IsBudgetedPair l p → p.to_a ≡ ms → (on_messages p.a ms).state.ended ≡ None → Falls p (after_a p (on_messages p.a ms) []) (on_messages p.a ms).out
  unfolding on_messages
  all_a [] p k e going = stands_a p k e
  all_a (m ∷ ms) p k e going = goes_a (on_message p.a m).state.ended ms m p k e refl going (λ first rest bounds. all_a ms (after_message_a p m ms) bounds refl rest)

  -- ---- transactions are answered with nothing

  tx_talk : (tx : List ℕ) → is_handshake (topic_of (message.Tx tx)) ≡ false
  unfolding topic_of is_handshake
  tx_talk tx = refl

  tx_silent : (s : NodeState) (tx : List ℕ) → stage_of s.machine.phase ≡ Past → (on_message s (message.Tx tx)).out ≡ []
  unfolding in_relay
  tx_silent s tx past =
      ap (λ t. t.out) (relays_past s.machine.phase s (message.Tx tx) past) ∙ (came-comes (is_listed s.wants.asked (transaction_of tx).id) (is_in_pool s.pool (transaction_of tx).id) (has_byte_room s.pool (transaction_of tx).bytes) s (transaction_of tx)).out

  cargo_silent : (p : Pair) (m : Message) (ms : List Message) → IsCargo m → IsBudgetedPair l p → p.to_b ≡ m ∷ ms → (on_message p.b m).out ≡ []
  unfolding Cargo
  cargo_silent p (message.Tx tx) ms c k e = tx_silent p.b tx (talk_past_b p (message.Tx tx) ms k.kept.handshake e (tx_talk tx))
  cargo_silent p (message.Version v) ms c k e = absurd (c.tx_weight)
  cargo_silent p _ ms c k e = absurd (c.tx_weight)

  goes_silent : (o : Option End) (ms : List Message) (t : Turn) → t.state.ended ≡ o → t.out ≡ [] → (next_unless_ended o t (λ next. on_messages next ms)).state.ended ≡ None
      → (t.state.ended ≡ None → (on_messages t.state ms).state.ended ≡ None → (on_messages t.state ms).out ≡ []) → (next_unless_ended o t (λ next. on_messages next ms)).out ≡ []
  unfolding next_unless_ended
  goes_silent (Some x) ms t ended none going rest = none
  goes_silent None ms t ended none going rest = ap₂ (λ xs ys. xs ++ ys) none (rest ended going)

  all_silent : (ms : List Message) (p : Pair) → AllByRecursion IsCargo ms → IsBudgetedPair l p → p.to_b ≡ ms → (on_messages p.b ms).state.ended ≡ None → (on_messages p.b ms).out ≡ []
  unfolding on_messages
  all_silent [] p c k e going = refl
  all_silent (m ∷ ms) p c k e going =
      goes_silent (on_message p.b m).state.ended ms (on_message p.b m) refl (cargo_silent p m ms c.0 k e) going
      (λ first rest. all_silent ms (after_message_b p m ms) c.1 (falls_b p m ms k e first).bounds refl rest)

  -- ---- a pair of whole deliveries, of messages

  -- the pair behind b has taken all, and behind a then has
  abbrev heard : Pair → Pair
  heard p = after_b p (on_messages p.b p.to_b) []

  abbrev exchanged : Pair → Pair
  exchanged p = after_a (heard p) (on_messages (heard p).a (heard p).to_a) []

  pub heard_falls : (p : Pair) → IsBudgetedPair l p → (on_messages p.b p.to_b).state.ended ≡ None → Falls p (heard p) (on_messages p.b p.to_b).out
  heard_falls p k going = all_b p.to_b p k refl going

  -- ---- of bytes

  -- a world shows a pair
  pub record Shows (w : World) (p : Pair) : Type 0 where
    pub a : p.a ≡ without_inbox w.a
    pub b : p.b ≡ without_inbox w.b
    pub way_a : AreOnTheWay w.a.config.magic w.a.inbox w.ba p.to_a
    pub way_b : AreOnTheWay w.b.config.magic w.b.inbox w.ab p.to_b

  abbrev all : ℕ
  all = 2 ^ 64 - 1

  more_comes : (magic : List ℕ) (received : Inbox) (wire bytes : List ℕ) (ms ns : List Message) → AreOnTheWay magic received wire ms → bytes ≡ wire_bytes magic ns → AreOnTheWay magic received (wire ++ bytes) (ms ++ ns)
  more_comes magic received wire bytes ms ns way e = record {
    offset = way.offset;
    whole = sym (append_assoc received.unread wire bytes) ∙ (ap₂ (λ xs ys. xs ++ ys) way.whole e ∙ sym (flat_map-append (message_bytes magic) ms ns));
    partial = way.partial;
  }

  -- all was taken
  pub record Took (s : NodeState) (wire : List ℕ) (ms : List Message) (t : Turn) : Type 0 where
    pub state : without_inbox t.state ≡ (on_messages (without_inbox s) ms).state
    pub out : t.out ≡ (on_messages (without_inbox s) ms).out
    pub way : AreOnTheWay s.config.magic t.state.inbox (drop all wire) []

  takes_whole : (s : NodeState) (wire : List ℕ) (ms : List Message) → length s.config.magic ≡ 4 → s.ended ≡ None → AllByRecursion IsMessage ms → length wire ≤ all
      → AreOnTheWay s.config.magic s.inbox wire ms → (on_piece s (take all wire)).state.ended ≡ None → Took s wire ms (on_piece s (take all wire))
  takes_whole s wire ms four awake sound short way going =
      let t : Turn = on_piece s (take all wire) in
      let parts : AreOnTheWay s.config.magic s.inbox (take all wire ++ drop all wire) ms = subst (λ xs. AreOnTheWay s.config.magic s.inbox xs ms) (sym (take-append-drop all wire)) way in
      let r : HasTaken s (drop all wire) ms t = on_piece-taken s (take all wire) (drop all wire) ms four awake sound parts in
      let left : AreOnTheWay s.config.magic t.state.inbox (drop all wire) r.left = r.way going in
      let none : r.left ≡ [] = (drained_way s.config.magic t.state.inbox r.left four (all_right IsMessage r.taken r.left (subst (AllByRecursion IsMessage) r.all sound)) (subst (λ xs. AreOnTheWay s.config.magic t.state.inbox xs r.left) (drop_all all wire short) left)).0 in
      let taken : r.taken ≡ ms = sym (r.all ∙ ap (λ xs. r.taken ++ xs) none ∙ append-nil r.taken) in
      record {
        state = r.state ∙ ap (λ xs. (on_messages (without_inbox s) xs).state) taken;
        out = r.out ∙ ap (λ xs. (on_messages (without_inbox s) xs).out) taken;
        way = subst (AreOnTheWay s.config.magic t.state.inbox (drop all wire)) none left;
      }

  -- what a whole delivery leaves
  pub record Delivered (w : World) (before after : Pair) (reader : NodeState) (out : List Message) : Type 0 where
    pub shows : Shows w after
    pub falls : Falls before after out
    pub awake : reader.ended ≡ None

  delivers_b : (w : World) (p : Pair) → Shows w p → IsBudgetedPair l p → w.b.ended ≡ None → (on_piece w.b (take all w.ab)).state.ended ≡ None
      → Delivered (effect_of w (event.DeliverAb all)).world p (heard p) (on_messages p.b p.to_b).state (on_messages p.b p.to_b).out
  unfolding effect_of
  delivers_b w p s k awake going =
      let t : Turn = on_piece w.b (take all w.ab) in
      let u : Turn = on_messages p.b p.to_b in
      let one_net : w.b.config.magic ≡ w.a.config.magic = sym (ap (λ x. x.config.magic) s.b) ∙ (k.kept.one_net ∙ ap (λ x. x.config.magic) s.a) in
      let four : length w.b.config.magic ≡ 4 = ap length (one_net ∙ sym (ap (λ x. x.config.magic) s.a)) ∙ k.kept.four in
      let took : Took w.b w.ab p.to_b t = takes_whole w.b w.ab p.to_b four awake k.kept.to_b (short_b l p k w.b.config.magic w.b.inbox.unread w.ab four s.way_b.whole) s.way_b going in
      let state : without_inbox t.state ≡ u.state = took.state ∙ ap (λ x. (on_messages x p.to_b).state) (sym s.b) in
      let out : t.out ≡ u.out = took.out ∙ ap (λ x. (on_messages x p.to_b).out) (sym s.b) in
      let h : Falls p (heard p) u.out = heard_falls p k (sym (ap (λ x. x.ended) state) ∙ going) in
      let now : t.state.config.magic ≡ w.a.config.magic = ap (λ x. x.config.magic) state ∙ (h.bounds.kept.one_net ∙ ap (λ x. x.config.magic) s.a) in
      record {
        shows = record {
          a = s.a;
          b = sym state;
          way_a = more_comes w.a.config.magic w.a.inbox w.ba (wire_bytes t.state.config.magic t.out) p.to_a u.out s.way_a (ap₂ wire_bytes now out);
          way_b = subst (λ g. AreOnTheWay g t.state.inbox (drop all w.ab) []) (one_net ∙ sym now) took.way;
        };
        falls = h;
        awake = sym (ap (λ x. x.ended) state) ∙ going;
      }

  delivers_a : (w : World) (p : Pair) → Shows w p → IsBudgetedPair l p → w.a.ended ≡ None → (on_piece w.a (take all w.ba)).state.ended ≡ None
      → Delivered (effect_of w (event.DeliverBa all)).world p (after_a p (on_messages p.a p.to_a) []) (on_messages p.a p.to_a).state (on_messages p.a p.to_a).out
  unfolding effect_of
  delivers_a w p s k awake going =
      let t : Turn = on_piece w.a (take all w.ba) in
      let u : Turn = on_messages p.a p.to_a in
      let four : length w.a.config.magic ≡ 4 = ap length (sym (ap (λ x. x.config.magic) s.a)) ∙ k.kept.four in
      let one_net : w.b.config.magic ≡ w.a.config.magic = sym (ap (λ x. x.config.magic) s.b) ∙ (k.kept.one_net ∙ ap (λ x. x.config.magic) s.a) in
      let took : Took w.a w.ba p.to_a t = takes_whole w.a w.ba p.to_a four awake k.kept.to_a (short_a l p k w.a.config.magic w.a.inbox.unread w.ba four s.way_a.whole) s.way_a going in
      let state : without_inbox t.state ≡ u.state = took.state ∙ ap (λ x. (on_messages x p.to_a).state) (sym s.a) in
      let out : t.out ≡ u.out = took.out ∙ ap (λ x. (on_messages x p.to_a).out) (sym s.a) in
      let h : Falls p (after_a p u []) u.out = all_a p.to_a p k refl (sym (ap (λ x. x.ended) state) ∙ going) in
      let now : t.state.config.magic ≡ w.b.config.magic = ap (λ x. x.config.magic) state ∙ (sym h.bounds.kept.one_net ∙ ap (λ x. x.config.magic) s.b) in
      record {
        shows = record {
          a = sym state;
          b = s.b;
          way_b = more_comes w.b.config.magic w.b.inbox w.ab (wire_bytes t.state.config.magic t.out) p.to_b u.out s.way_b (ap₂ wire_bytes now out);
          way_a = subst (λ g. AreOnTheWay g t.state.inbox (drop all w.ba) []) (sym one_net ∙ sym now) took.way;
        };
        falls = h;
        awake = sym (ap (λ x. x.ended) state) ∙ going;
      }

  -- ---- a pair of whole deliveries, of bytes

  abbrev to_b : World → World
  to_b w = (effect_of w (event.DeliverAb all)).world

  abbrev to_a : World → World
  to_a w = (effect_of w (event.DeliverBa all)).world

  -- what b said, and what a said then
  abbrev by_b_first : Pair → List Message
  by_b_first p = (on_messages p.b p.to_b).out

  abbrev by_a_then : Pair → List Message
  by_a_then p = (on_messages (heard p).a (heard p).to_a).out

  exchange : (w : World) (p : Pair) → Shows w p → IsBudgetedPair l p → has_end w ≡ false → has_end (to_b w) ≡ false → has_end (to_a (to_b w)) ≡ false
      → Delivered (to_a (to_b w)) p (exchanged p) (on_messages p.b p.to_b).state (by_b_first p ++ by_a_then p)
  unfolding effect_of
  exchange w p s k was going still_going =
      let here = or_parts (is_some w.a.ended) (is_some w.b.ended) was in
      let then_b = or_parts (is_some w.a.ended) (is_some (on_piece w.b (take all w.ab)).state.ended) going in
      let first = delivers_b w p s k (no_end w.b.ended here.1) (no_end (on_piece w.b (take all w.ab)).state.ended then_b.1) in
      let v : World = to_b w in
      let then_a = or_parts (is_some (on_piece v.a (take all v.ba)).state.ended) (is_some v.b.ended) still_going in
      let second = delivers_a v (heard p) first.shows first.falls.bounds (no_end w.a.ended then_b.0) (no_end (on_piece v.a (take all v.ba)).state.ended then_a.0) in
      record { shows = second.shows; falls = both_fall p (heard p) (exchanged p) (by_b_first p) (by_a_then p) first.falls second.falls; awake = first.awake }

  -- ---- a script of them

  unended : (es : List Event) (w : World) → has_end (run_from es w).world ≡ false → has_end w ≡ false
  unended es w going = by_end (has_end w) refl
    where
      by_end : (b : Bool) → has_end w ≡ b → has_end w ≡ false
      by_end false e = e
      by_end true e = sym (ap (λ x. has_end x.world) (ended_run es w e)) ∙ going

  one_on : (e : Event) (es : List Event) (w : World) → has_end w ≡ false → (run_from (e ∷ es) w).world ≡ (run_from es (effect_of w e).world).world
  unfolding run_from unless_ended
  one_on e es w was = ap (λ b. (unless_ended b w (effect_of w e) (run_from es)).world) was

  record Goes (n : ℕ) (w : World) : Type 0 where
    pub was : has_end w ≡ false
    pub going : has_end (to_b w) ≡ false
    pub still : has_end (to_a (to_b w)) ≡ false
    pub on : (run_from (deliveries (suc n)) w).world ≡ (run_from (deliveries n) (to_a (to_b w))).world
    pub ends : has_end (run_from (deliveries n) (to_a (to_b w))).world ≡ false

  goes : (n : ℕ) (w : World) → has_end (run_from (deliveries (suc n)) w).world ≡ false → Goes n w
  unfolding deliveries
  goes n w end =
      let was = unended (deliveries (suc n)) w end in
      let first = one_on (event.DeliverAb all) (event.DeliverBa all ∷ deliveries n) w was in
      let end_b : has_end (run_from (event.DeliverBa all ∷ deliveries n) (to_b w)).world ≡ false = sym (ap has_end first) ∙ end in
      let going = unended (event.DeliverBa all ∷ deliveries n) (to_b w) end_b in
      let second = one_on (event.DeliverBa all) (deliveries n) (to_b w) going in
      let end_a : has_end (run_from (deliveries n) (to_a (to_b w))).world ≡ false = sym (ap has_end second) ∙ end_b in
      record { was = was; going = going; still = unended (deliveries n) (to_a (to_b w)) end_a; on = first ∙ second; ends = end_a }

  abbrev Drains : ℕ → World → Type 0
  Drains n w = has_end (run_from (deliveries n) w).world ≡ false → IsDrained (run_from (deliveries n) w).world

  no_wire : (unread wire : List ℕ) → unread ++ wire ≡ [] → wire ≡ []
  no_wire [] wire e = e
  no_wire (x ∷ xs) wire e = absurd (cc)

  nothing_left : (w : World) (p : Pair) → Shows w p → p.to_a ≡ [] → p.to_b ≡ [] → IsDrained w
  nothing_left w p s a b = record {
    ab = no_wire w.b.inbox.unread w.ab (s.way_b.whole ∙ ap (wire_bytes w.b.config.magic) b);
    ba = no_wire w.a.inbox.unread w.ba (s.way_a.whole ∙ ap (wire_bytes w.a.config.magic) a);
  }

  -- once transactions alone are on the way, to b alone, one pair of deliveries takes them, and no more comes
  cargo_drains : (n : ℕ) (w : World) (p : Pair) → Shows w p → IsBudgetedPair l p → p.to_a ≡ [] → AllByRecursion IsCargo p.to_b → (n ≡ 0 → p.to_b ≡ []) → Drains n w
  unfolding deliveries run_from on_messages
  cargo_drains zero w p s k a c b end = nothing_left w p s a (b refl)
  cargo_drains (suc n) w p s k a c b end =
      let g = goes n w end in
      let x = exchange w p s k g.was g.going g.still in
      let taken : (on_messages p.b p.to_b).state.ended ≡ None = x.awake in
      let none_b : by_b_first p ≡ [] = all_silent p.to_b p c k refl taken in
      let heard_none : (heard p).to_a ≡ [] = ap₂ (λ xs ys. xs ++ ys) a none_b in
      let none_a : by_a_then p ≡ [] = ap (λ xs. (on_messages p.a xs).out) heard_none in
      subst IsDrained (sym g.on) (cargo_drains n (to_a (to_b w)) (exchanged p) x.shows x.falls.bounds refl (subst (AllByRecursion IsCargo) (sym none_a) tt) (λ e. none_a) g.ends)

  -- so many pairs of deliveries as messages are outstanding_messages to be said, and two more
  drains : (n : ℕ) (w : World) (p : Pair) → Shows w p → IsBudgetedPair l p → more p + 2 ≤ n → Drains n w
  unfolding deliveries
  drains zero w p s k few end = absurd (omega (arith, few))
  drains (suc n) w p s k few end =
      let g = goes n w end in
      let x = exchange w p s k g.was g.going g.still in
      let falls = x.falls.falls in
      let sum = said_append (by_b_first p) (by_a_then p) in
      let fair : AllByRecursion IsOrderly (by_a_then p) = all_right IsOrderly p.by_a (by_a_then p) x.falls.bounds.fair_a in
      subst IsDrained (sym g.on)
      (by_said (said (by_a_then p)) n w p x.shows x.falls.bounds refl fair (omega (arith, few, falls)) (λ h. omega (arith, few, falls, sum, h))
      (λ less. drains n (to_a (to_b w)) (exchanged p) x.shows x.falls.bounds less) g.ends)
    where
      by_said : (k : ℕ) (n : ℕ) (w : World) (p : Pair) → Shows (to_a (to_b w)) (exchanged p) → IsBudgetedPair l (exchanged p) → said (by_a_then p) ≡ k → AllByRecursion IsOrderly (by_a_then p) → 1 ≤ n
          → (1 ≤ said (by_a_then p) → more (exchanged p) + 2 ≤ n) → (more (exchanged p) + 2 ≤ n → Drains n (to_a (to_b w))) → Drains n (to_a (to_b w))
      by_said zero n w p shows bounds e fair one less rest = cargo_drains n (to_a (to_b w)) (exchanged p) shows bounds refl (all_unsaid (by_a_then p) fair e) (λ none. absurd (omega (arith, one, none)))
      by_said (suc k) n w p shows bounds e fair one less rest = rest (less (omega (arith, e)))

pub deliveries_drain : DeliveriesDrain
deliveries_drain c d p q script pair fine going =
    let w : World = opening_world c d p q in
    let l : ℕ = min c.top d.top in
    let k = run_from-kept (IsBudgetedPair l) (is_bounded l) script w [] [] fine (λ opening. opening_bounds c d p q pair) going in
    let v : World = (run w script).world in
    let x : Pair = pair_of_world v k.to_a k.to_b ([] ++ (run w script).by_a) ([] ++ (run w script).by_b) in
    let room = k.kept.bounding.room in
    let most = pair.config_a.most in
    drains l 16 v x (record { a = refl; b = refl; way_a = k.way_a; way_b = k.way_b }) k.kept (omega (arith, room, most))
