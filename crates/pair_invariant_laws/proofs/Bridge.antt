-- What is kept by every step of a pair is kept by every event of a world of bytes, and where a node ends in an event, what
-- holds of a pair behind its end holds of the world.
use Rattle.std.proofs.Common.{◌≡◌, ◌||◌, ℕ, Bool, true, false, List, [], ◌∷◌, ◌++◌, length, take, drop, Option, Some, None, is_some, IsTrue, refl, sym, ap, ap₂, subst, ◌∙◌, append_assoc, append-nil, take-append-drop}
use Rattle.std.specs.List.{AllByRecursion, list_all}
use Rattle.std.proofs.lemmas.Bool.{or_parts, and_parts}
use Rattle.std.proofs.lemmas.List.Concat.{flat_map-append}
use Rattle.base_types.specs.declared.lists.Hash32.{Hash32}
use Rattle.id_rules.specs.Bytes.{is_tx}
use Rattle.wire_rules.specs.Layout.{wire_bytes, message_bytes}
use Rattle.wire_rules.specs.Limits.{IsMessage}
use Rattle.wire_rules.specs.declared.message.Message.{Message}
use Rattle.pool_rules.specs.Pools.{Transaction, transaction_of, is_listed, is_in_pool}
use Rattle.node_rules.specs.Additions.{after_addition_by, with_pooled, on_addition_by, on_addition, is_full}
use Rattle.node_rules.specs.Stages.{is_after_handshake, is_idle}
use Rattle.node_rules.specs.State.{Inbox, NodeState, open_wants}
use Rattle.node_rules.specs.Steps.{on_message, on_messages, next_unless_ended, on_piece, round_by, on_start_by, on_start}
use Rattle.node_rules.specs.Turns.{Turn}
use Rattle.node_rules.specs.declared.config.Role.{Role}
use Rattle.node_rules.specs.declared.config.Role.TheVariants as role
use Rattle.node_rules.specs.declared.end.End.{End}
use Rattle.node_laws.specs.Inboxes.{turn_with_inbox}
use Rattle.pair_rules.specs.World.{World, Effect, turn_a, fullness, effect_of, unless_ended, run_from, has_end, is_event, IsScript}
use Rattle.pair_rules.specs.declared.event.Event.{Event}
use Rattle.pair_rules.specs.declared.event.Event.TheVariants as event
use Rattle.pair_invariant_rules.specs.Ends.{IsEndLaw, HasEndedPair, HasPairAlways}
use Rattle.pair_invariant_rules.specs.Pairs.{Pair, AreOnTheWay, HasTaken, after_a, after_message_a, after_addition_a, IsInvariant, pair_of_world, HasPair, without_inbox, no_inbox}
use Rattle.pair_invariant_laws.proofs.Inboxes.{on_addition-inbox, on_start-inbox}
use Rattle.pair_invariant_laws.proofs.Readings.{on_piece-taken}

pub no_end : (o : Option End) → is_some o ≡ false → o ≡ None
no_end None e = refl
no_end (Some x) e = absurd (cc)

-- ---- additions and rounds end no node

after_addition_by-ended : (known past plain : Bool) (s : NodeState) (id : Hash32) → (after_addition_by known past plain s id).state.ended ≡ s.ended
unfolding after_addition_by
after_addition_by-ended true past plain s id = refl
after_addition_by-ended false false plain s id = refl
after_addition_by-ended false true true s id = refl
after_addition_by-ended false true false s id = refl

on_addition_by-ended : (ended present full : Bool) (s : NodeState) (t : Transaction) → (on_addition_by ended present full s t).turn.state.ended ≡ s.ended
unfolding on_addition_by
on_addition_by-ended true present full s t = refl
on_addition_by-ended false true full s t = refl
on_addition_by-ended false false true s t = refl
on_addition_by-ended false false false s t = after_addition_by-ended (is_listed (open_wants s) t.id) (is_after_handshake s.machine.phase) s.plain (with_pooled s t) t.id

on_addition-ended : (s : NodeState) (tx : List ℕ) → (on_addition s tx).turn.state.ended ≡ s.ended
on_addition-ended s tx = on_addition_by-ended (is_some s.ended) (is_in_pool s.pool (transaction_of tx).id) (is_full s (transaction_of tx)) s (transaction_of tx)

round_by-ended : (plain : Bool) (s : NodeState) → (round_by plain s).state.ended ≡ s.ended
unfolding round_by
round_by-ended false s = refl
round_by-ended true s = refl

on_start_by-ended : (e : Option End) (r : Role) (idle : Bool) (s : NodeState) → (on_start_by e r idle s).turn.state.ended ≡ s.ended
unfolding on_start_by
on_start_by-ended None role.Opener true s = round_by-ended s.plain s
on_start_by-ended None role.Opener false s = refl
on_start_by-ended None role.Accepter idle s = refl
on_start_by-ended (Some e) r idle s = refl

on_start-ended : (s : NodeState) → (on_start s).turn.state.ended ≡ s.ended
on_start-ended s = on_start_by-ended s.ended s.config.role (is_idle s.machine.phase) s

-- ---- the steps of one side

-- more on the wire is more on the way
more_comes : (magic : List ℕ) (received : Inbox) (wire more : List ℕ) (ms ns : List Message) → AreOnTheWay magic received wire ms → more ≡ wire_bytes magic ns → AreOnTheWay magic received (wire ++ more) (ms ++ ns)
more_comes magic received wire more ms ns way e = record {
  offset = way.offset;
  whole = sym (append_assoc received.unread wire more) ∙ (ap₂ (λ xs ys. xs ++ ys) way.whole e ∙ sym (flat_map-append (message_bytes magic) ms ns));
  partial = way.partial;
}

-- what is known of the steps of a
record IsSideLaw (Kept Over : Pair → Type 0) : Type 0 where
  sound : (p : Pair) → Kept p → AllByRecursion IsMessage p.to_a
  four : (p : Pair) → Kept p → length p.a.config.magic ≡ 4
  one_net : (p : Pair) → Kept p → p.a.config.magic ≡ p.b.config.magic
  message : (p : Pair) (m : Message) (ms : List Message) → Kept p → p.to_a ≡ m ∷ ms → (on_message p.a m).state.ended ≡ None → Kept (after_message_a p m ms)
  ending : (p : Pair) (m : Message) (ms : List Message) (e : End) → Kept p → p.a.ended ≡ None → p.b.ended ≡ None → p.to_a ≡ m ∷ ms → (on_message p.a m).state.ended ≡ Some e → Over (after_message_a p m ms)
  addition : (p : Pair) (tx : List ℕ) → IsTrue (is_tx tx) → p.a.ended ≡ None → Kept p → Kept (after_addition_a p tx)

module _ (Kept Over : Pair → Type 0) where
  -- a pair behind a step of a, and a world, by whether a has ended in it
  abbrev Behind : Option End → Pair → Turn → List Message → Type 0
  Behind None p t left = Kept (after_a p t left)
  Behind (Some e) p t left = (ns : List Message) × Over (after_a p t ns)

  abbrev Shows : Option End → World → List Message → List Message → Type 0
  Shows None w by_a by_b = HasPair Kept w by_a by_b
  Shows (Some e) w by_a by_b = HasEndedPair Over w by_a by_b

  behind_both : (o : Option End) (p : Pair) (t u : Turn) (rest left : List Message) → Behind o (after_a p t rest) u left → Behind o p (record { state = u.state; out = t.out ++ u.out }) left
  behind_both None p t u rest left h = subst Kept (λ i. record p { a = u.state; to_b = append_assoc p.to_b t.out u.out i; to_a = left; by_a = append_assoc p.by_a t.out u.out i }) h
  behind_both (Some e) p t u rest left h = (h.0, subst Over (λ i. record p { a = u.state; to_b = append_assoc p.to_b t.out u.out i; to_a = h.0; by_a = append_assoc p.by_a t.out u.out i }) h.1)

module _ (Kept Over : Pair → Type 0) (laws : IsSideLaw Kept Over) where
  -- ---- several messages

  first : (f : Option End) (m : Message) (taken left : List Message) (p : Pair) → Kept p → p.a.ended ≡ None → p.b.ended ≡ None → p.to_a ≡ m ∷ (taken ++ left) → (on_message p.a m).state.ended ≡ f
      → (Kept (after_message_a p m (taken ++ left)) → (on_message p.a m).state.ended ≡ None → (o : Option End) → (on_messages (on_message p.a m).state taken).state.ended ≡ o
      → Behind Kept Over o (after_message_a p m (taken ++ left)) (on_messages (on_message p.a m).state taken) left)
      → (o : Option End) → (next_unless_ended f (on_message p.a m) (λ next. on_messages next taken)).state.ended ≡ o → Behind Kept Over o p (next_unless_ended f (on_message p.a m) (λ next. on_messages next taken)) left
  unfolding next_unless_ended
  first (Some x) m taken left p k a b e f rest None h = absurd (let apart : Some x ≡ None = sym f ∙ h in cc)
  first (Some x) m taken left p k a b e f rest (Some y) h = (taken ++ left, laws.ending p m (taken ++ left) x k a b e f)
  first None m taken left p k a b e f rest o h =
      behind_both Kept Over o p (on_message p.a m) (on_messages (on_message p.a m).state taken) (taken ++ left) left (rest (laws.message p m (taken ++ left) k e f) f o h)

  none_taken : (left : List Message) (p : Pair) → Kept p → p.a.ended ≡ None → p.to_a ≡ left → (o : Option End) → p.a.ended ≡ o → Behind Kept Over o p (record { state = p.a; out = [] }) left
  none_taken left p k a e None h = subst Kept (λ i. record p { to_b = sym (append-nil p.to_b) i; to_a = e i; by_a = sym (append-nil p.by_a) i }) k
  none_taken left p k a e (Some x) h = absurd (let apart : None ≡ Some x = sym a ∙ h in cc)

  all_taken : (taken left : List Message) (p : Pair) → Kept p → p.a.ended ≡ None → p.b.ended ≡ None → p.to_a ≡ taken ++ left → (o : Option End) → (on_messages p.a taken).state.ended ≡ o → Behind Kept Over o p (on_messages p.a taken) left
  unfolding on_messages
  all_taken [] left p k a b e o h = none_taken left p k a e o h
  all_taken (m ∷ taken) left p k a b e o h =
      first (on_message p.a m).state.ended m taken left p k a b e refl (λ kept going. all_taken taken left (after_message_a p m (taken ++ left)) kept going b refl) o h

  -- ---- a world

  module _ (w : World) (by_a by_b : List Message) (k : HasPair Kept w by_a by_b) where
    abbrev p : Pair
    p = pair_of_world w k.to_a k.to_b by_a by_b

    side : (wire : List ℕ) (t : Turn) (full : ℕ) (left : List Message) → AreOnTheWay w.a.config.magic t.state.inbox wire left → Kept (after_a p (turn_with_inbox t no_inbox) left)
        → HasPair Kept (turn_a (record w { ba = wire }) t full).world (by_a ++ t.out) by_b
    side wire t full left way kept =
        let now : t.state.config.magic ≡ w.b.config.magic = laws.one_net (after_a p (turn_with_inbox t no_inbox) left) kept in
        let before : w.a.config.magic ≡ w.b.config.magic = laws.one_net p k.kept in
        record {
          to_a = left;
          to_b = k.to_b ++ t.out;
          way_a = subst (λ g. AreOnTheWay g t.state.inbox wire left) (before ∙ sym now) way;
          way_b = more_comes w.b.config.magic w.b.inbox w.ab (wire_bytes t.state.config.magic t.out) k.to_b t.out k.way_b (ap (λ g. wire_bytes g t.out) now);
          kept = kept;
        }

    -- a step that leaves what was received
    quiet : (t u : Turn) (full : ℕ) → t ≡ turn_with_inbox t w.a.inbox → u ≡ turn_with_inbox t no_inbox → Kept (after_a p u k.to_a) → HasPair Kept (turn_a w t full).world (by_a ++ t.out) by_b
    quiet t u full same bared kept =
        side w.ba t full k.to_a (subst (λ i. AreOnTheWay w.a.config.magic i w.ba k.to_a) (sym (ap (λ (x : Turn). x.state.inbox) same)) k.way_a) (subst (λ x. Kept (after_a p x k.to_a)) bared kept)

    shown : (n : ℕ) (r : HasTaken w.a (drop n w.ba) k.to_a (on_piece w.a (take n w.ba))) (o : Option End) → (on_piece w.a (take n w.ba)).state.ended ≡ o → Behind Kept Over o p (on_messages (without_inbox w.a) r.taken) r.left
        → Shows Kept Over o (turn_a (record w { ba = drop n w.ba }) (on_piece w.a (take n w.ba)) 0).world (by_a ++ (on_piece w.a (take n w.ba)).out) by_b
    shown n r None h kept =
        side (drop n w.ba) (on_piece w.a (take n w.ba)) 0 r.left (r.way h)
        (subst Kept (λ i. record p { a = sym r.state i; to_b = k.to_b ++ sym r.out i; to_a = r.left; by_a = by_a ++ sym r.out i }) kept)
    shown n r (Some e) h over = record {
      to_a = over.0;
      to_b = k.to_b ++ (on_piece w.a (take n w.ba)).out;
      over = subst Over (λ i. record p { a = sym r.state i; to_b = k.to_b ++ sym r.out i; to_a = over.0; by_a = by_a ++ sym r.out i }) over.1;
    }

    delivers : (n : ℕ) → w.a.ended ≡ None → w.b.ended ≡ None → (o : Option End) → (on_piece w.a (take n w.ba)).state.ended ≡ o
        → Shows Kept Over o (turn_a (record w { ba = drop n w.ba }) (on_piece w.a (take n w.ba)) 0).world (by_a ++ (on_piece w.a (take n w.ba)).out) by_b
    delivers n a b o h =
        let way : AreOnTheWay w.a.config.magic w.a.inbox (take n w.ba ++ drop n w.ba) k.to_a = subst (λ xs. AreOnTheWay w.a.config.magic w.a.inbox xs k.to_a) (sym (take-append-drop n w.ba)) k.way_a in
        let r : HasTaken w.a (drop n w.ba) k.to_a (on_piece w.a (take n w.ba)) = on_piece-taken w.a (take n w.ba) (drop n w.ba) k.to_a (laws.four p k.kept) a (laws.sound p k.kept) way in
        shown n r o h (all_taken r.taken r.left p k.kept a b r.all o (sym (ap (λ (s : NodeState). s.ended) r.state) ∙ h))

    adds : (tx : List ℕ) → IsTrue (is_tx tx) → w.a.ended ≡ None → HasPair Kept (turn_a w (on_addition w.a tx).turn (fullness (on_addition w.a tx).added)).world (by_a ++ (on_addition w.a tx).turn.out) by_b
    adds tx fine a =
        quiet (on_addition w.a tx).turn (on_addition (without_inbox w.a) tx).turn (fullness (on_addition w.a tx).added) (on_addition-inbox w.a w.a.inbox tx) (on_addition-inbox w.a no_inbox tx) (laws.addition p tx fine a k.kept)

-- ---- both sides

-- with the sides changed, so that what is shown of a holds of b
abbrev mirror : Pair → Pair
mirror p = record { a = p.b; b = p.a; to_a = p.to_b; to_b = p.to_a; by_a = p.by_b; by_b = p.by_a }

abbrev mirror_world : World → World
mirror_world w = record { a = w.b; b = w.a; ab = w.ba; ba = w.ab }

module _ (Kept Over : Pair → Type 0) where
  mirrored : (w : World) (by_a by_b : List Message) → HasPair Kept w by_a by_b → HasPair (λ p. Kept (mirror p)) (mirror_world w) by_b by_a
  mirrored w by_a by_b k = record { to_a = k.to_b; to_b = k.to_a; way_a = k.way_b; way_b = k.way_a; kept = k.kept }

  shown_a : (w : World) (by_a by_b : List Message) (o : Option End) → w.a.ended ≡ o → w.b.ended ≡ None → Shows Kept Over o w by_a by_b → HasPairAlways Kept Over w by_a by_b
  shown_a w by_a by_b None a b k = record { going = λ h. k; over = λ h. absurd (let apart : false ≡ true = sym (ap₂ (λ x y. is_some x || is_some y) a b) ∙ h in cc) }
  shown_a w by_a by_b (Some e) a b k = record { going = λ h. absurd (let apart : true ≡ false = sym (ap₂ (λ x y. is_some x || is_some y) a b) ∙ h in cc); over = λ h. k }

  shown_b : (w : World) (by_a by_b : List Message) (o : Option End) → w.a.ended ≡ None → w.b.ended ≡ o → Shows (λ p. Kept (mirror p)) (λ p. Over (mirror p)) o (mirror_world w) by_b by_a → HasPairAlways Kept Over w by_a by_b
  shown_b w by_a by_b None a b k = record {
    going = λ h. record { to_a = k.to_b; to_b = k.to_a; way_a = k.way_b; way_b = k.way_a; kept = k.kept };
    over = λ h. absurd (let apart : false ≡ true = sym (ap₂ (λ x y. is_some x || is_some y) a b) ∙ h in cc);
  }
  shown_b w by_a by_b (Some e) a b k = record {
    going = λ h. absurd (let apart : true ≡ false = sym (ap₂ (λ x y. is_some x || is_some y) a b) ∙ h in cc);
    over = λ h. record { to_a = k.to_b; to_b = k.to_a; over = k.over };
  }

module _ (Kept Over : Pair → Type 0) (laws : IsInvariant Kept) (ends : IsEndLaw Kept Over) where
  side_a : IsSideLaw Kept Over
  side_a = record {
    sound = laws.sound_a;
    four = laws.four;
    one_net = λ p k. sym (laws.one_net p k);
    message = laws.by_message_a;
    ending = ends.by_message_a;
    addition = laws.by_addition_a;
  }

  side_b : IsSideLaw (λ p. Kept (mirror p)) (λ p. Over (mirror p))
  side_b = record {
    sound = λ p k. laws.sound_b (mirror p) k;
    four = λ p k. ap length (laws.one_net (mirror p) k) ∙ laws.four (mirror p) k;
    one_net = λ p k. laws.one_net (mirror p) k;
    message = λ p m ms k e going. laws.by_message_b (mirror p) m ms k e going;
    ending = λ p m ms x k a b e ended. ends.by_message_b (mirror p) m ms x k b a e ended;
    addition = λ p tx fine awake k. laws.by_addition_b (mirror p) tx fine awake k;
  }

  -- ---- an event

  module _ (w : World) (by_a by_b : List Message) (k : HasPair Kept w by_a by_b) (a : w.a.ended ≡ None) (b : w.b.ended ≡ None) where
    -- the other side has said nothing
    by_a_alone : (x : Effect) → x.by_b ≡ [] → HasPairAlways Kept Over x.world (by_a ++ x.by_a) by_b → HasPairAlways Kept Over x.world (by_a ++ x.by_a) (by_b ++ x.by_b)
    by_a_alone x e h = subst (HasPairAlways Kept Over x.world (by_a ++ x.by_a)) (sym (ap (λ xs. by_b ++ xs) e ∙ append-nil by_b)) h

    by_b_alone : (x : Effect) → x.by_a ≡ [] → HasPairAlways Kept Over x.world by_a (by_b ++ x.by_b) → HasPairAlways Kept Over x.world (by_a ++ x.by_a) (by_b ++ x.by_b)
    by_b_alone x e h = subst (λ xs. HasPairAlways Kept Over x.world xs (by_b ++ x.by_b)) (sym (ap (λ xs. by_a ++ xs) e ∙ append-nil by_a)) h

    behind_event : (e : Event) → IsTrue (is_event e) → HasPairAlways Kept Over (effect_of w e).world (by_a ++ (effect_of w e).by_a) (by_b ++ (effect_of w e).by_b)
    unfolding effect_of is_event
    behind_event (event.DeliverAb n) fine =
        let t : Turn = on_piece w.b (take n w.ab) in
        by_b_alone (effect_of w (event.DeliverAb n)) refl
        (shown_b Kept Over (effect_of w (event.DeliverAb n)).world by_a (by_b ++ t.out) t.state.ended a refl
        (delivers (λ p. Kept (mirror p)) (λ p. Over (mirror p)) side_b (mirror_world w) by_b by_a (mirrored Kept Over w by_a by_b k) n b a t.state.ended refl))
    behind_event (event.DeliverBa n) fine =
        let t : Turn = on_piece w.a (take n w.ba) in
        by_a_alone (effect_of w (event.DeliverBa n)) refl
        (shown_a Kept Over (effect_of w (event.DeliverBa n)).world (by_a ++ t.out) by_b t.state.ended refl b (delivers Kept Over side_a w by_a by_b k n a b t.state.ended refl))
    behind_event (event.AddA tx) fine =
        by_a_alone (effect_of w (event.AddA tx)) refl
        (shown_a Kept Over (effect_of w (event.AddA tx)).world (by_a ++ (on_addition w.a tx).turn.out) by_b None (on_addition-ended w.a tx ∙ a) b (adds Kept Over side_a w by_a by_b k tx fine a))
    behind_event (event.AddB tx) fine =
        by_b_alone (effect_of w (event.AddB tx)) refl
        (shown_b Kept Over (effect_of w (event.AddB tx)).world by_a (by_b ++ (on_addition w.b tx).turn.out) None a (on_addition-ended w.b tx ∙ b)
        (adds (λ p. Kept (mirror p)) (λ p. Over (mirror p)) side_b (mirror_world w) by_b by_a (mirrored Kept Over w by_a by_b k) tx fine b))
    behind_event event.Round fine =
        by_a_alone (effect_of w event.Round) refl
        (shown_a Kept Over (effect_of w event.Round).world (by_a ++ (on_start w.a).turn.out) by_b None (on_start-ended w.a ∙ a) b
        (quiet Kept Over side_a w by_a by_b k (on_start w.a).turn (on_start (without_inbox w.a)).turn 0 (on_start-inbox w.a w.a.inbox) (on_start-inbox w.a no_inbox) (laws.by_round (pair_of_world w k.to_a k.to_b by_a by_b) a k.kept)))

  pub always-event : (w : World) (by_a by_b : List Message) (e : Event) → IsTrue (is_event e) → HasPair Kept w by_a by_b → has_end w ≡ false
      → HasPairAlways Kept Over (effect_of w e).world (by_a ++ (effect_of w e).by_a) (by_b ++ (effect_of w e).by_b)
  always-event w by_a by_b e fine k going =
      let old = or_parts (is_some w.a.ended) (is_some w.b.ended) going in
      behind_event w by_a by_b k (no_end w.a.ended old.0) (no_end w.b.ended old.1) e fine

  -- ---- a script

  always_unless : (over : Bool) (w : World) (by_a by_b : List Message) (e : Event) (next : World → Effect) → has_end w ≡ over → IsTrue (is_event e) → HasPairAlways Kept Over w by_a by_b
      → (HasPairAlways Kept Over (effect_of w e).world (by_a ++ (effect_of w e).by_a) (by_b ++ (effect_of w e).by_b)
      → HasPairAlways Kept Over (next (effect_of w e).world).world ((by_a ++ (effect_of w e).by_a) ++ (next (effect_of w e).world).by_a) ((by_b ++ (effect_of w e).by_b) ++ (next (effect_of w e).world).by_b))
      → HasPairAlways Kept Over (unless_ended over w (effect_of w e) next).world (by_a ++ (unless_ended over w (effect_of w e) next).by_a) (by_b ++ (unless_ended over w (effect_of w e) next).by_b)
  unfolding unless_ended
  always_unless true w by_a by_b e next over fine k rest =
      subst (λ xs. HasPairAlways Kept Over w xs (by_b ++ [])) (sym (append-nil by_a)) (subst (λ xs. HasPairAlways Kept Over w by_a xs) (sym (append-nil by_b)) k)
  always_unless false w by_a by_b e next over fine k rest =
      let x : Effect = effect_of w e in
      let y : Effect = next x.world in
      subst (λ xs. HasPairAlways Kept Over y.world xs (by_b ++ (x.by_b ++ y.by_b))) (append_assoc by_a x.by_a y.by_a)
      (subst (λ xs. HasPairAlways Kept Over y.world ((by_a ++ x.by_a) ++ y.by_a) xs) (append_assoc by_b x.by_b y.by_b) (rest (always-event w by_a by_b e fine (k.going over) over)))

  pub run_from-always : (script : List Event) (w : World) (by_a by_b : List Message) → IsScript script → HasPairAlways Kept Over w by_a by_b
      → HasPairAlways Kept Over (run_from script w).world (by_a ++ (run_from script w).by_a) (by_b ++ (run_from script w).by_b)
  unfolding run_from
  run_from-always [] w by_a by_b fine k =
      subst (λ xs. HasPairAlways Kept Over w xs (by_b ++ [])) (sym (append-nil by_a)) (subst (λ xs. HasPairAlways Kept Over w by_a xs) (sym (append-nil by_b)) k)
  run_from-always (e ∷ es) w by_a by_b fine k =
      let both = and_parts (is_event e) (list_all is_event es) fine in
      always_unless (has_end w) w by_a by_b e (run_from es) refl both.0 k (λ next. run_from-always es (effect_of w e).world (by_a ++ (effect_of w e).by_a) (by_b ++ (effect_of w e).by_b) both.1 next)

-- ---- until a node ends

module _ (Kept : Pair → Type 0) (laws : IsInvariant Kept) where
  abbrev Anything : Pair → Type 0
  Anything p = Unit {0}

  no_claim : IsEndLaw Kept Anything
  no_claim = record { by_message_a = λ p m ms e k a b front ended. tt; by_message_b = λ p m ms e k a b front ended. tt }

  pub happens-kept : (w : World) (by_a by_b : List Message) (e : Event) → IsTrue (is_event e) → HasPair Kept w by_a by_b → has_end w ≡ false → has_end (effect_of w e).world ≡ false
      → HasPair Kept (effect_of w e).world (by_a ++ (effect_of w e).by_a) (by_b ++ (effect_of w e).by_b)
  happens-kept w by_a by_b e fine k was going = (always-event Kept Anything laws no_claim w by_a by_b e fine k was).going going

  pub run_from-kept : (script : List Event) (w : World) (by_a by_b : List Message) → IsScript script → (has_end w ≡ false → HasPair Kept w by_a by_b)
      → has_end (run_from script w).world ≡ false → HasPair Kept (run_from script w).world (by_a ++ (run_from script w).by_a) (by_b ++ (run_from script w).by_b)
  run_from-kept script w by_a by_b fine k going =
      (run_from-always Kept Anything laws no_claim script w by_a by_b fine (record { going = k; over = λ h. record { to_a = []; to_b = []; over = tt } })).going going
