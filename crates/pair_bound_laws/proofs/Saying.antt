-- What both sides have said over a script, also where a node ends.
use Rattle.std.proofs.Common.{◌≡◌, ◌≤◌, ℕ, ◌+◌, Bool, true, false, ◌&&◌, List, [], ◌∷◌, ◌++◌, length, take, drop, is_some, Option, Some, None, IsTrue, refl, sym, ap, ap₂, ◌∙◌, subst, arith, lit≤, append-nil, append_assoc, take-append-drop, ⊎_elim}
use Rattle.std.specs.List.{list_all, AllByRecursion}
use Rattle.std.proofs.lemmas.Bool.{or_parts, and_parts}
use Rattle.wire_rules.specs.declared.message.Message.{Message}
use Rattle.pool_rules.specs.Pools.{AreDistinctIds}
use Rattle.node_rules.specs.Additions.{on_addition}
use Rattle.node_rules.specs.Stages.{is_idle}
use Rattle.node_rules.specs.State.{NodeState, extensions_allowed}
use Rattle.node_rules.specs.Steps.{on_message, on_messages, next_unless_ended, on_piece, on_start, on_start_by, round_by}
use Rattle.node_rules.specs.Turns.{Turn}
use Rattle.node_rules.specs.declared.config.Role.{Role}
use Rattle.node_rules.specs.declared.config.Role.TheVariants as role
use Rattle.node_rules.specs.declared.end.End.{End}
use Rattle.node_rules.specs.Steps.{count_of}
use Rattle.pair_rules.specs.World.{World, Effect, no_effect, effect_sequence, effect_of, unless_ended, run_from, has_end, is_event, IsScript}
use Rattle.pair_rules.specs.declared.event.Event.{Event}
use Rattle.pair_rules.specs.declared.event.Event.TheVariants as event
use Rattle.pair_invariant_rules.specs.Pairs.{Pair, AreOnTheWay, after_message_a, after_message_b, after_start_a, HasPair, pair_of_world, without_inbox, no_inbox}
use Rattle.pair_invariant_laws.proofs.Bridge.{run_from-kept}
use Rattle.pair_invariant_laws.proofs.Inboxes.{on_start-inbox}
use Rattle.pair_invariant_laws.proofs.Readings.{on_piece-taken}
use Rattle.pair_invariant_rules.specs.Pairs.{HasTaken}
use Rattle.pair_invariant_laws.proofs.Shaking.{whole_a, whole_b, adds-quiet, shakes-by_a, shakes-by_b}
use Rattle.pair_bound_laws.specs.Costs.{total_weight, request_weight}
use Rattle.pair_bound_laws.specs.Keeping.{IsBudgetedPair, IsSaid}
use Rattle.pair_rules.specs.Messages.{rounds_of_event, rounds_unless_ended, rounds_of_script}
use Rattle.pair_bound_laws.proofs.Joining.{is_bounded}
use Rattle.pair_bound_laws.proofs.Spending.{takes-spends}
use Rattle.pair_bound_laws.proofs.Totals.{total_append}
use Rattle.wire_rules.specs.Limits.{IsMessage}

pub no_end : (o : Option End) → is_some o ≡ false → o ≡ None
no_end None e = refl
no_end (Some x) e = absurd (cc)

-- a node that ends says nothing
ends_silent : (s : NodeState) → extensions_allowed s.machine ≤ 2 → (m : Message) (x : End) → (on_message s m).state.plain ≡ false → s.ended ≡ None → (on_message s m).state.ended ≡ Some x → (on_message s m).out ≡ []
ends_silent s few m x plain awake ended =
    ⊎_elim (λ same. absurd (let apart : Some x ≡ None = sym ended ∙ (same ∙ awake) in cc)) (λ none. none) (takes-spends s few m plain).ends

nothing_more : (xs ys : List Message) → ys ≡ [] → xs ≡ xs ++ ys
nothing_more xs ys e = sym (append-nil xs) ∙ ap (λ zs. xs ++ zs) (sym e)

none_requested : (ys : List Message) → ys ≡ [] → total_weight request_weight ys ≡ 0
unfolding total_weight
none_requested ys e = ap (total_weight request_weight) e

round_begun : (e : Option End) (r : Role) (idle : Bool) (s : NodeState) → s.plain ≡ false → total_weight request_weight (on_start_by e r idle s).turn.out ≤ count_of (on_start_by e r idle s).begun
unfolding on_start_by round_by total_weight request_weight count_of
round_begun None role.Opener true s plain = subst (λ b. total_weight request_weight (round_by b s).out ≤ 1) (sym plain) (lit≤ tt)
round_begun None role.Opener false s plain = lit≤ tt
round_begun None role.Accepter idle s plain = lit≤ tt
round_begun (Some e) r idle s plain = lit≤ tt

pub ended_run : (es : List Event) (w : World) → has_end w ≡ true → run_from es w ≡ no_effect w
unfolding run_from unless_ended
ended_run [] w h = refl
ended_run (e ∷ es) w h = ap (λ b. unless_ended b w (effect_of w e) (run_from es)) h

module _ (l : ℕ) where
  -- saying nothing more
  told_more : (xs xs' ys ys' : List Message) → xs ≡ xs' → ys ≡ ys' → IsSaid l xs ys → IsSaid l xs' ys'
  told_more xs xs' ys ys' ex ey h = subst (λ z. IsSaid l z ys') ex (subst (λ z. IsSaid l xs z) ey h)

  -- a side has said so much over these, and begun so many rounds
  pub record Run (by_a by_b : List Message) (x : Effect) (n : ℕ) : Type 0 where
    pub told : IsSaid l (by_a ++ x.by_a) (by_b ++ x.by_b)
    pub rounds : total_weight request_weight x.by_a ≤ n

  pub told : (p : Pair) → IsBudgetedPair l p → IsSaid l p.by_a p.by_b
  told p k = record {
    rounds_weight = let old = k.bounding.rounds_weight in omega (arith, old);
    greets = let old = k.bounding.greets in omega (arith, old);
    given = subst AreDistinctIds (ap₂ (λ xs ys. xs ++ ys) (sym k.giving.mine.said) (sym k.giving.theirs.said)) k.giving.given;
    fair_a = k.fair_a;
    fair_b = k.fair_b;
  }

  -- ---- several messages

  abbrev SaidB : Pair → Turn → Type 0
  SaidB p t = IsSaid l p.by_a (p.by_b ++ t.out)

  goes_b : (o : Option End) (taken left : List Message) (m : Message) (p : Pair) → IsBudgetedPair l p → p.b.ended ≡ None → p.to_b ≡ m ∷ (taken ++ left) → (on_message p.b m).state.ended ≡ o
      → ((on_message p.b m).state.ended ≡ None → SaidB (after_message_b p m (taken ++ left)) (on_messages (on_message p.b m).state taken))
      → SaidB p (next_unless_ended o (on_message p.b m) (λ next. on_messages next taken))
  unfolding next_unless_ended
  goes_b (Some x) taken left m p k awake e ended rest =
      let plain = whole_b (after_message_b p m (taken ++ left)) (shakes-by_b p m (taken ++ left) k.kept.node_a.config (subst (AllByRecursion IsMessage) e k.kept.to_b).0 k.kept.accepter e k.kept.handshake) in
      told_more p.by_a p.by_a p.by_b (p.by_b ++ (on_message p.b m).out) refl (nothing_more p.by_b (on_message p.b m).out (ends_silent p.b k.kept.node_b.bounded.most m x plain awake ended)) (told p k)
  goes_b None taken left m p k awake e ended rest =
      let t : Turn = on_message p.b m in
      let u : Turn = on_messages t.state taken in
      told_more p.by_a p.by_a ((p.by_b ++ t.out) ++ u.out) (p.by_b ++ (t.out ++ u.out)) refl (append_assoc p.by_b t.out u.out) (rest ended)

  all_b : (taken left : List Message) (p : Pair) → IsBudgetedPair l p → p.b.ended ≡ None → p.to_b ≡ taken ++ left → SaidB p (on_messages p.b taken)
  unfolding on_messages
  all_b [] left p k awake e = told_more p.by_a p.by_a p.by_b (p.by_b ++ []) refl (sym (append-nil p.by_b)) (told p k)
  all_b (m ∷ taken) left p k awake e =
      goes_b (on_message p.b m).state.ended taken left m p k awake e refl
      (λ going. all_b taken left (after_message_b p m (taken ++ left)) ((is_bounded l).by_message_b p m (taken ++ left) k e going) going refl)

  record SaidA (p : Pair) (t : Turn) : Type 0 where
    pub told : IsSaid l (p.by_a ++ t.out) p.by_b
    pub requests : total_weight request_weight t.out ≡ 0

  goes_a : (o : Option End) (taken left : List Message) (m : Message) (p : Pair) → IsBudgetedPair l p → p.a.ended ≡ None → p.to_a ≡ m ∷ (taken ++ left) → (on_message p.a m).state.ended ≡ o
      → ((on_message p.a m).state.ended ≡ None → SaidA (after_message_a p m (taken ++ left)) (on_messages (on_message p.a m).state taken))
      → SaidA p (next_unless_ended o (on_message p.a m) (λ next. on_messages next taken))
  unfolding next_unless_ended
  goes_a (Some x) taken left m p k awake e ended rest =
      let plain = whole_a (after_message_a p m (taken ++ left)) (shakes-by_a p m (taken ++ left) k.kept.node_b.config (subst (AllByRecursion IsMessage) e k.kept.to_a).0 k.kept.opener e k.kept.handshake) in
      let none = ends_silent p.a k.kept.node_a.bounded.most m x plain awake ended in
      record { told = told_more p.by_a (p.by_a ++ (on_message p.a m).out) p.by_b p.by_b (nothing_more p.by_a (on_message p.a m).out none) refl (told p k); requests = none_requested (on_message p.a m).out none }
  goes_a None taken left m p k awake e ended rest =
      let plain = whole_a (after_message_a p m (taken ++ left)) (shakes-by_a p m (taken ++ left) k.kept.node_b.config (subst (AllByRecursion IsMessage) e k.kept.to_a).0 k.kept.opener e k.kept.handshake) in
      let t : Turn = on_message p.a m in
      let u : Turn = on_messages t.state taken in
      let r = rest ended in
      record {
        told = told_more ((p.by_a ++ t.out) ++ u.out) (p.by_a ++ (t.out ++ u.out)) p.by_b p.by_b (append_assoc p.by_a t.out u.out) refl r.told;
        requests = total_append request_weight t.out u.out ∙ ap₂ (λ i j. i + j) (takes-spends p.a k.kept.node_a.bounded.most m plain).requests r.requests;
      }

  all_a : (taken left : List Message) (p : Pair) → IsBudgetedPair l p → p.a.ended ≡ None → p.to_a ≡ taken ++ left → SaidA p (on_messages p.a taken)
  unfolding on_messages
  all_a [] left p k awake e = record { told = told_more p.by_a (p.by_a ++ []) p.by_b p.by_b (sym (append-nil p.by_a)) refl (told p k); requests = none_requested [] refl }
  all_a (m ∷ taken) left p k awake e =
      goes_a (on_message p.a m).state.ended taken left m p k awake e refl
      (λ going. all_a taken left (after_message_a p m (taken ++ left)) ((is_bounded l).by_message_a p m (taken ++ left) k e going) going refl)

  -- ---- an event

  delivered_b : (w : World) (by_a by_b : List Message) (n : ℕ) → HasPair (IsBudgetedPair l) w by_a by_b → w.b.ended ≡ None → Run by_a by_b (effect_of w (event.DeliverAb n)) 0
  unfolding effect_of
  delivered_b w by_a by_b n k was =
      let p : Pair = pair_of_world w k.to_a k.to_b by_a by_b in
      let t : Turn = on_piece w.b (take n w.ab) in
      let four : length w.b.config.magic ≡ 4 = ap length (k.kept.kept.one_net) ∙ k.kept.kept.four in
      let way : AreOnTheWay w.b.config.magic w.b.inbox (take n w.ab ++ drop n w.ab) k.to_b = subst (λ xs. AreOnTheWay w.b.config.magic w.b.inbox xs k.to_b) (sym (take-append-drop n w.ab)) k.way_b in
      let r : HasTaken w.b (drop n w.ab) k.to_b t = on_piece-taken w.b (take n w.ab) (drop n w.ab) k.to_b four was k.kept.kept.to_b way in
      record {
        told =
            told_more by_a (by_a ++ []) (by_b ++ (on_messages (without_inbox w.b) r.taken).out) (by_b ++ t.out) (sym (append-nil by_a)) (ap (λ xs. by_b ++ xs) (sym r.out)) (all_b r.taken r.left p k.kept was r.all);
        rounds = let none = none_requested [] refl in omega (arith, none);
      }

  delivered_a : (w : World) (by_a by_b : List Message) (n : ℕ) → HasPair (IsBudgetedPair l) w by_a by_b → w.a.ended ≡ None → Run by_a by_b (effect_of w (event.DeliverBa n)) 0
  unfolding effect_of
  delivered_a w by_a by_b n k was =
      let p : Pair = pair_of_world w k.to_a k.to_b by_a by_b in
      let t : Turn = on_piece w.a (take n w.ba) in
      let way : AreOnTheWay w.a.config.magic w.a.inbox (take n w.ba ++ drop n w.ba) k.to_a = subst (λ xs. AreOnTheWay w.a.config.magic w.a.inbox xs k.to_a) (sym (take-append-drop n w.ba)) k.way_a in
      let r : HasTaken w.a (drop n w.ba) k.to_a t = on_piece-taken w.a (take n w.ba) (drop n w.ba) k.to_a k.kept.kept.four was k.kept.kept.to_a way in
      let s : SaidA p (on_messages p.a r.taken) = all_a r.taken r.left p k.kept was r.all in
      record {
        told = told_more (by_a ++ (on_messages (without_inbox w.a) r.taken).out) (by_a ++ t.out) by_b (by_b ++ []) (ap (λ xs. by_a ++ xs) (sym r.out)) (sym (append-nil by_b)) s.told;
        rounds = let same : total_weight request_weight t.out ≡ total_weight request_weight (on_messages (without_inbox w.a) r.taken).out = ap (total_weight request_weight) r.out in let none = s.requests in omega (arith, same, none);
      }

  event_told : (w : World) (by_a by_b : List Message) (e : Event) → IsTrue (is_event e) → HasPair (IsBudgetedPair l) w by_a by_b → has_end w ≡ false → Run by_a by_b (effect_of w e) (rounds_of_event w e)
  unfolding effect_of rounds_of_event
  event_told w by_a by_b (event.DeliverAb n) fine k was = delivered_b w by_a by_b n k (no_end w.b.ended (or_parts (is_some w.a.ended) (is_some w.b.ended) was).1)
  event_told w by_a by_b (event.DeliverBa n) fine k was = delivered_a w by_a by_b n k (no_end w.a.ended (or_parts (is_some w.a.ended) (is_some w.b.ended) was).0)
  event_told w by_a by_b (event.AddA tx) fine k was =
      let out = (adds-quiet w.a tx (whole_a (pair_of_world w k.to_a k.to_b by_a by_b) k.kept.kept.handshake)).out in
      record {
        told = told_more by_a (by_a ++ (on_addition w.a tx).turn.out) by_b (by_b ++ []) (nothing_more by_a (on_addition w.a tx).turn.out out) (sym (append-nil by_b)) (told (pair_of_world w k.to_a k.to_b by_a by_b) k.kept);
        rounds = let none = none_requested (on_addition w.a tx).turn.out out in omega (arith, none);
      }
  event_told w by_a by_b (event.AddB tx) fine k was =
      let out = (adds-quiet w.b tx (whole_b (pair_of_world w k.to_a k.to_b by_a by_b) k.kept.kept.handshake)).out in
      record {
        told = told_more by_a (by_a ++ []) by_b (by_b ++ (on_addition w.b tx).turn.out) (sym (append-nil by_a)) (nothing_more by_b (on_addition w.b tx).turn.out out) (told (pair_of_world w k.to_a k.to_b by_a by_b) k.kept);
        rounds = let none = none_requested [] refl in omega (arith, none);
      }
  event_told w by_a by_b event.Round fine k was =
      let p : Pair = pair_of_world w k.to_a k.to_b by_a by_b in
      let plain : w.a.plain ≡ false = whole_a p k.kept.kept.handshake in
      let next : IsBudgetedPair l (after_start_a p) = (is_bounded l).by_round p (no_end w.a.ended (or_parts (is_some w.a.ended) (is_some w.b.ended) was).0) k.kept in
      record {
        told =
            told_more (by_a ++ (on_start (without_inbox w.a)).turn.out) (by_a ++ (on_start w.a).turn.out) by_b (by_b ++ []) (ap (λ t. by_a ++ t.out) (on_start-inbox w.a no_inbox)) (sym (append-nil by_b))
            (told (after_start_a p) next);
        rounds = round_begun w.a.ended w.a.config.role (is_idle w.a.machine.phase) w.a plain;
      }

  -- ---- a script

  -- the invariant behind one event
  event_kept : (w : World) (by_a by_b : List Message) (e : Event) → IsTrue (is_event e) → HasPair (IsBudgetedPair l) w by_a by_b → has_end w ≡ false → has_end (effect_of w e).world ≡ false
      → HasPair (IsBudgetedPair l) (effect_of w e).world (by_a ++ (effect_of w e).by_a) (by_b ++ (effect_of w e).by_b)
  unfolding run_from unless_ended
  event_kept w by_a by_b e fine k was going =
      let one : run_from (e ∷ []) w ≡ effect_sequence (effect_of w e) (no_effect (effect_of w e).world) = ap (λ b. unless_ended b w (effect_of w e) (run_from [])) was in
      let kept = run_from-kept (IsBudgetedPair l) (is_bounded l) (e ∷ []) w by_a by_b (alone (is_event e) fine) (λ h. k) (ap (λ x. has_end x.world) one ∙ going) in
      let moved : HasPair (IsBudgetedPair l) (effect_of w e).world (by_a ++ ((effect_of w e).by_a ++ [])) (by_b ++ ((effect_of w e).by_b ++ [])) =
      subst (λ (x : Effect). HasPair (IsBudgetedPair l) x.world (by_a ++ x.by_a) (by_b ++ x.by_b)) one kept in
      subst (λ xs. HasPair (IsBudgetedPair l) (effect_of w e).world xs (by_b ++ (effect_of w e).by_b)) (ap (λ xs. by_a ++ xs) (append-nil (effect_of w e).by_a))
      (subst (λ xs. HasPair (IsBudgetedPair l) (effect_of w e).world (by_a ++ ((effect_of w e).by_a ++ [])) (by_b ++ xs)) (append-nil (effect_of w e).by_b) moved)
    where
      alone : (b : Bool) → b ≡ true → (b && true) ≡ true
      alone true h = refl
      alone false h = h

  behind : (over : Bool) (es : List Event) (w : World) (by_a by_b : List Message) → has_end w ≡ over → IsSaid l by_a by_b
      → (has_end w ≡ false → Run by_a by_b (run_from es w) (rounds_of_script es w)) → Run by_a by_b (run_from es w) (rounds_of_script es w)
  behind false es w by_a by_b over h rest = rest over
  behind true es w by_a by_b over h rest =
      subst (λ x. Run by_a by_b x (rounds_of_script es w)) (sym (ended_run es w over)) (record {
        told = told_more by_a (by_a ++ []) by_b (by_b ++ []) (sym (append-nil by_a)) (sym (append-nil by_b)) h;
        rounds = let none = none_requested [] refl in omega (arith, none);
      })

  pub run_told : (script : List Event) (w : World) (by_a by_b : List Message) → IsScript script → has_end w ≡ false → HasPair (IsBudgetedPair l) w by_a by_b
      → Run by_a by_b (run_from script w) (rounds_of_script script w)
  unfolding run_from unless_ended rounds_of_script rounds_unless_ended
  run_told [] w by_a by_b fine was k = record {
    told = told_more by_a (by_a ++ []) by_b (by_b ++ []) (sym (append-nil by_a)) (sym (append-nil by_b)) (told (pair_of_world w k.to_a k.to_b by_a by_b) k.kept);
    rounds = let none = none_requested [] refl in omega (arith, none);
  }
  run_told (e ∷ es) w by_a by_b fine was k =
      let both = and_parts (is_event e) (list_all is_event es) fine in
      let x : Effect = effect_of w e in
      let y : Effect = run_from es x.world in
      let first : Run by_a by_b x (rounds_of_event w e) = event_told w by_a by_b e both.0 k was in
      let rest : Run (by_a ++ x.by_a) (by_b ++ x.by_b) y (rounds_of_script es x.world) =
      behind (has_end x.world) es x.world (by_a ++ x.by_a) (by_b ++ x.by_b) refl first.told
      (λ going. run_told es x.world (by_a ++ x.by_a) (by_b ++ x.by_b) both.1 going (event_kept w by_a by_b e both.0 k was going)) in
      subst (λ b. Run by_a by_b (unless_ended b w x (run_from es)) (rounds_unless_ended b (rounds_of_event w e + rounds_of_script es x.world))) (sym was) (record {
        told =
            told_more ((by_a ++ x.by_a) ++ y.by_a) (by_a ++ (x.by_a ++ y.by_a)) ((by_b ++ x.by_b) ++ y.by_b) (by_b ++ (x.by_b ++ y.by_b)) (append_assoc by_a x.by_a y.by_a) (append_assoc by_b x.by_b y.by_b)
            rest.told;
        rounds = let sum = total_append request_weight x.by_a y.by_a in let one = first.rounds in let more = rest.rounds in omega (arith, sum, one, more);
      })
