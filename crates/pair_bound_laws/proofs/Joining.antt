-- The bounds are kept by every step of a pair, and hold of new nodes.
use Rattle.std.proofs.Common.{◌≡◌, ℕ, ◌+◌, true, false, List, [], ◌∷◌, ◌++◌, None, IsTrue, refl, sym, ap, ◌∙◌, subst, arith, ◌≤◌, min, is_some, Bool}
use Rattle.std.specs.List.{AllByRecursion}
use Rattle.wire_rules.specs.declared.message.Message.{Message}
use Rattle.wire_rules.specs.declared.message.Message.TheVariants as message
use Rattle.wire_rules.specs.declared.message.VersionMsg.{VersionMsg}
use Rattle.wire_rules.specs.declared.phase.Phase.{Phase}
use Rattle.wire_rules.specs.declared.phase.Phase.TheVariants as phase
use Rattle.pool_rules.specs.Pools.{Transaction, AreDistinctIds, is_listed, is_in_pool, transaction_of}
use Rattle.node_rules.specs.Additions.{on_addition, after_addition_by, on_addition_by, with_pooled, is_full}
use Rattle.node_rules.specs.Handshake.{own_version}
use Rattle.node_rules.specs.State.{NodeState, extensions_allowed, open_wants}
use Rattle.node_rules.specs.Invariant.{IsNode}
use Rattle.node_rules.specs.Steps.{on_message, on_start}
use Rattle.node_rules.specs.Turns.{Turn}
use Rattle.node_rules.specs.declared.config.Config.{Config}
use Rattle.node_rules.specs.declared.config.Role.TheVariants as role
use Rattle.node_rules.specs.Stages.{requested_extensions, is_after_handshake}
use Rattle.node_rules.specs.Barrier.{is_barrier}
use Rattle.id_rules.specs.Bytes.{is_tx}
use Rattle.pair_rules.specs.World.{ArePair, opening_world}
use Rattle.pair_invariant_rules.specs.Pairs.{Pair, after_message_a, after_message_b, after_addition_a, after_addition_b, after_start_a, IsInvariant, HasPair, pair_of_world}
use Rattle.pair_invariant_rules.specs.Handshake.{Rest, NoRest, New, Past, stage_of, stage_by_rest, HasHandshake, Calling, Replying, Introducing}
use Rattle.pair_invariant_rules.specs.Topics.{topic_of, is_handshake}
use Rattle.pair_invariant_rules.specs.Wants.{carried_transactions_of, AreMutualWants, IsHonest, is_about_wants}
use Rattle.pair_invariant_laws.proofs.Keeping.{is_kept}
use Rattle.pair_invariant_laws.proofs.Known.{talk_past_a, talk_past_b, known_a}
use Rattle.id_rules.proofs.Lists.{all_append, all_right}
use Rattle.pair_invariant_laws.proofs.Opening.{opening_kept}
use Rattle.pair_invariant_laws.proofs.Shaking.{whole_a, whole_b, adds-quiet}
use Rattle.pair_bound_laws.specs.Costs.{total_weight, handshake_weight, rounds_weight, request_weight, unasking_weight, owed_messages, remaining_messages, remaining_by_extensions, remaining_at_barrier, remaining_handshake, unpinged_invs, unpinged_inv_by, has_ping, inv_weight, HasEntries, IsFilled}
use Rattle.pair_bound_laws.specs.Keeping.{IsWithinBudget, IsOrderly, IsBudgetedPair}
use Rattle.pair_bound_laws.proofs.Bounded.{bounding-by_a, bounding-by_b, bounding-quiet_a, bounding-quiet_b, bounding-begins, idle_past}
use Rattle.pair_bound_laws.proofs.Given.{giving-takes, giving-adds, giving-begins, giving-swap}
use Rattle.wire_rules.specs.Limits.{IsMessage}
use Rattle.base_types.specs.declared.lists.Hash32.{Hash32}
use Rattle.node_laws.proofs.LaterSteps.{on_message-later, on_addition-later, on_start-later}
use Rattle.pair_invariant_laws.proofs.Levels.{known_level}

special_talk : (m : Message) → is_about_wants m ≡ true → is_handshake (topic_of m) ≡ false
unfolding is_about_wants topic_of is_handshake
special_talk (message.Inv es) h = refl
special_talk (message.GetData es) h = refl
special_talk (message.NotFound es) h = refl
special_talk (message.Tx tx) h = refl
special_talk (message.Pong n) h = refl
special_talk _ h = absurd (let apart : false ≡ true = h in cc)

swap : (s u : NodeState) (xs ys : List Message) → AreMutualWants s u xs ys → AreMutualWants u s ys xs
swap s u xs ys b = record { mine = b.theirs; theirs = b.mine }

fair : (ms : List Message) → AllByRecursion IsHonest ms → AllByRecursion IsFilled ms → AllByRecursion IsOrderly ms
fair [] h k = tt
fair (m ∷ ms) h k = (record { honest = h.0; filled = k.0 }, fair ms h.1 k.1)

-- what is said is honest and filled, since what is on the way is
fair_more : (by_s way out : List Message) → AllByRecursion IsOrderly by_s → AllByRecursion IsHonest (way ++ out) → AllByRecursion IsFilled (way ++ out) → AllByRecursion IsOrderly (by_s ++ out)
fair_more by_s way out f h k = all_append IsOrderly by_s out f (fair out (all_right IsHonest way out h) (all_right IsFilled way out k))

-- two new nodes of which one's version is on the way
calling_bounding : (a b : NodeState) (v : VersionMsg) → a.machine.phase ≡ phase.Greeting → b.machine.phase ≡ phase.Greeting
    → (l : ℕ) → 1 ≤ l → IsWithinBudget l (record { a = a; b = b; to_a = []; to_b = message.Version v ∷ []; by_a = []; by_b = [] })
unfolding total_weight handshake_weight rounds_weight request_weight unasking_weight owed_messages remaining_messages remaining_by_extensions remaining_at_barrier remaining_handshake unpinged_invs unpinged_inv_by has_ping inv_weight HasEntries requested_extensions is_barrier
calling_bounding a b v ea eb l least =
    let left : remaining_messages role.Opener a.machine ≡ 0 = ap (λ q. remaining_by_extensions (requested_extensions q) (extensions_allowed a.machine) + remaining_at_barrier (is_barrier q)) ea in
    let due_a : remaining_handshake role.Opener a.machine.phase ≡ 3 = ap (remaining_handshake role.Opener) ea in
    let due_b : remaining_handshake role.Accepter b.machine.phase ≡ 4 = ap (remaining_handshake role.Accepter) eb in
    record {
      rounds_weight = omega (arith, left, least);
      room = omega (arith, left, due_a, due_b, least);
      greets = omega (arith, due_a, due_b);
      ways = omega (arith, left, least);
      greet_ways = omega (arith, due_a, due_b);
      unpinged_invs = refl;
      filled_a = tt;
      filled_b = (record { filled = tt }, tt);
    }

not_greeted : (p : Phase) → p ≡ phase.Greeting → p ≡ phase.Greeted → ⊥
not_greeted p e h = let apart : phase.Greeting ≡ phase.Greeted = sym e ∙ h in cc

new_stage : (p : Phase) → p ≡ phase.Greeting → stage_of p ≡ New
unfolding stage_of
new_stage p e = ap stage_of e

stage_not_new : (l : Rest) → stage_by_rest l ≡ New → ⊥
unfolding stage_by_rest
stage_not_new NoRest h = cc
stage_not_new _ h = cc

pub new_bounding : (p : Pair) → p.a.machine.phase ≡ phase.Greeting → p.b.machine.phase ≡ phase.Greeting → p.by_a ≡ [] → p.by_b ≡ [] → HasHandshake p → (l : ℕ) → 1 ≤ l → IsWithinBudget l p
new_bounding p ea eb xa xb (Calling c) l least =
    subst (λ z. IsWithinBudget l (record p { by_b = z })) (sym xb)
    (subst (λ y. IsWithinBudget l (record p { by_a = y; by_b = [] })) (sym xa)
    (subst (λ x. IsWithinBudget l (record p { to_a = x; by_a = []; by_b = [] })) (sym c.to_a)
    (subst (λ y. IsWithinBudget l (record p { to_a = []; to_b = y; by_a = []; by_b = [] })) (sym c.to_b)
    (calling_bounding p.a p.b (own_version p.a.config) ea eb l least))))
new_bounding p ea eb xa xb (Replying c) l least = absurd (not_greeted p.b.machine.phase eb c.b_phase)
new_bounding p ea eb xa xb (Introducing x k h g) l least = absurd (stage_not_new x (sym h.stage ∙ new_stage p.b.machine.phase eb))

-- an addition leaves the machine as it is
after_addition_by-machine : (open_want past plain : Bool) (s : NodeState) (id : Hash32) → (after_addition_by open_want past plain s id).state.machine ≡ s.machine
unfolding after_addition_by
after_addition_by-machine true past plain s id = refl
after_addition_by-machine false false plain s id = refl
after_addition_by-machine false true true s id = refl
after_addition_by-machine false true false s id = refl

on_addition_by-machine : (ended present full : Bool) (s : NodeState) (t : Transaction) → (on_addition_by ended present full s t).turn.state.machine ≡ s.machine
unfolding on_addition_by
on_addition_by-machine true present full s t = refl
on_addition_by-machine false true full s t = refl
on_addition_by-machine false false true s t = refl
on_addition_by-machine false false false s t = after_addition_by-machine (is_listed (open_wants s) t.id) (is_after_handshake s.machine.phase) s.plain (with_pooled s t) t.id

on_addition-machine : (s : NodeState) (tx : List ℕ) → (on_addition s tx).turn.state.machine ≡ s.machine
on_addition-machine s tx = on_addition_by-machine (is_some s.ended) (is_in_pool s.pool (transaction_of tx).id) (is_full s (transaction_of tx)) s (transaction_of tx)

module _ (l : ℕ) where
  -- an idle opener is at the level of both
  idle_level : (p : Pair) → IsBudgetedPair l p → p.a.machine.phase ≡ phase.Idle → extensions_allowed p.a.machine ≡ l
  idle_level p k idle = known_level p.a p.b k.kept.node_a (known_a p k.kept.handshake (idle_past p.a.machine.phase idle)) ∙ k.at

  by_b : (p : Pair) (m : Message) (ms : List Message) → IsBudgetedPair l p → p.to_b ≡ m ∷ ms → (on_message p.b m).state.ended ≡ None → IsBudgetedPair l (after_message_b p m ms)
  by_b p m ms k e going =
      let t : Turn = on_message p.b m in
      let kept = is_kept.by_message_b p m ms k.kept e going in
      let node_a : IsNode p.a = k.kept.node_a in
      let node_b : IsNode p.b = k.kept.node_b in
      let next : IsNode t.state = kept.node_b in
      let front : AllByRecursion IsMessage (m ∷ ms) = subst (AllByRecursion IsMessage) e k.kept.to_b in
      let both : AreMutualWants p.b p.a (m ∷ ms) p.to_a = subst (λ xs. AreMutualWants p.b p.a xs p.to_a) e (swap p.a p.b p.to_a p.to_b k.kept.wants) in
      let past : is_about_wants m ≡ true → stage_of p.b.machine.phase ≡ Past = λ h. talk_past_b p m ms k.kept.handshake e (special_talk m h) in
      let bounding = bounding-by_b l p m ms k.kept.accepter (whole_b (after_message_b p m ms) kept.handshake) node_b.bounded.most front.0 e k.bounding in
      record {
        kept = kept;
        at = ap (λ (c : Config). min p.a.config.top c.top) (on_message-later p.b m).config ∙ k.at;
        bounding = bounding;
        giving =
            giving-swap t.state p.a (p.by_b ++ t.out) p.by_a
            (giving-takes p.b p.a m ms p.to_a p.by_b p.by_a past node_b.setup node_b.store.wanting node_a.store.wanting node_b.store.pool.each (giving-swap p.a p.b p.by_a p.by_b k.giving) both next.store.wanting);
        fair_a = k.fair_a;
        fair_b = fair_more p.by_b p.to_a t.out k.fair_b kept.wants.mine.honest bounding.filled_a;
      }

  by_a : (p : Pair) (m : Message) (ms : List Message) → IsBudgetedPair l p → p.to_a ≡ m ∷ ms → (on_message p.a m).state.ended ≡ None → IsBudgetedPair l (after_message_a p m ms)
  by_a p m ms k e going =
      let t : Turn = on_message p.a m in
      let kept = is_kept.by_message_a p m ms k.kept e going in
      let node_a : IsNode p.a = k.kept.node_a in
      let node_b : IsNode p.b = k.kept.node_b in
      let next : IsNode t.state = kept.node_a in
      let front : AllByRecursion IsMessage (m ∷ ms) = subst (AllByRecursion IsMessage) e k.kept.to_a in
      let both : AreMutualWants p.a p.b (m ∷ ms) p.to_b = subst (λ xs. AreMutualWants p.a p.b xs p.to_b) e k.kept.wants in
      let past : is_about_wants m ≡ true → stage_of p.a.machine.phase ≡ Past = λ h. talk_past_a p m ms k.kept.handshake e (special_talk m h) in
      let bounding = bounding-by_a l p m ms k.kept.opener (whole_a (after_message_a p m ms) kept.handshake) node_a.bounded.most front.0 e k.bounding in
      record {
        kept = kept;
        at = ap (λ (c : Config). min c.top p.b.config.top) (on_message-later p.a m).config ∙ k.at;
        bounding = bounding;
        giving = giving-takes p.a p.b m ms p.to_b p.by_a p.by_b past node_a.setup node_a.store.wanting node_b.store.wanting node_a.store.pool.each k.giving both next.store.wanting;
        fair_a = fair_more p.by_a p.to_b t.out k.fair_a kept.wants.theirs.honest bounding.filled_b;
        fair_b = k.fair_b;
      }

  adds_a : (p : Pair) (tx : List ℕ) → IsTrue (is_tx tx) → p.a.ended ≡ None → IsBudgetedPair l p → IsBudgetedPair l (after_addition_a p tx)
  adds_a p tx fine awake k =
      let t : Turn = (on_addition p.a tx).turn in
      let kept = is_kept.by_addition_a p tx fine awake k.kept in
      let plain = whole_a p k.kept.handshake in
      let q = adds-quiet p.a tx plain in
      let bounding = bounding-quiet_a l p t (on_addition-machine p.a tx) q.out k.bounding in
      record {
        kept = kept;
        at = ap (λ (c : Config). min c.top p.b.config.top) (on_addition-later p.a tx).config ∙ k.at;
        bounding = bounding;
        giving = giving-adds p.a p.b tx p.by_a p.by_b plain k.giving;
        fair_a = fair_more p.by_a p.to_b t.out k.fair_a kept.wants.theirs.honest bounding.filled_b;
        fair_b = k.fair_b;
      }

  adds_b : (p : Pair) (tx : List ℕ) → IsTrue (is_tx tx) → p.b.ended ≡ None → IsBudgetedPair l p → IsBudgetedPair l (after_addition_b p tx)
  adds_b p tx fine awake k =
      let t : Turn = (on_addition p.b tx).turn in
      let kept = is_kept.by_addition_b p tx fine awake k.kept in
      let plain = whole_b p k.kept.handshake in
      let q = adds-quiet p.b tx plain in
      let bounding = bounding-quiet_b l p t (on_addition-machine p.b tx) q.out k.bounding in
      record {
        kept = kept;
        at = ap (λ (c : Config). min p.a.config.top c.top) (on_addition-later p.b tx).config ∙ k.at;
        bounding = bounding;
        giving = giving-swap t.state p.a (p.by_b ++ t.out) p.by_a (giving-adds p.b p.a tx p.by_b p.by_a plain (giving-swap p.a p.b p.by_a p.by_b k.giving));
        fair_a = k.fair_a;
        fair_b = fair_more p.by_b p.to_a t.out k.fair_b kept.wants.mine.honest bounding.filled_a;
      }

  begins_a : (p : Pair) → p.a.ended ≡ None → IsBudgetedPair l p → IsBudgetedPair l (after_start_a p)
  begins_a p awake k =
      let t : Turn = (on_start p.a).turn in
      let kept = is_kept.by_round p awake k.kept in
      let plain = whole_a p k.kept.handshake in
      let bounding = bounding-begins l p (idle_level p k) plain k.kept.handshake k.kept.rounds k.kept.announcements k.bounding in
      record {
        kept = kept;
        at = ap (λ (c : Config). min c.top p.b.config.top) (on_start-later p.a).config ∙ k.at;
        bounding = bounding;
        giving = giving-begins p.a p.b p.by_a p.by_b plain k.giving;
        fair_a = fair_more p.by_a p.to_b t.out k.fair_a kept.wants.theirs.honest bounding.filled_b;
        fair_b = k.fair_b;
      }

  pub is_bounded : IsInvariant (IsBudgetedPair l)
  is_bounded = record {
    sound_a = λ p k. k.kept.to_a;
    sound_b = λ p k. k.kept.to_b;
    four = λ p k. k.kept.four;
    one_net = λ p k. k.kept.one_net;
    by_message_a = by_a;
    by_message_b = by_b;
    by_addition_a = adds_a;
    by_addition_b = adds_b;
    by_round = begins_a;
  }

pub opening_bounds : (c d : Config) (p q : List Transaction) → ArePair c d p q → HasPair (IsBudgetedPair (min c.top d.top)) (opening_world c d p q) [] []
unfolding carried_transactions_of AreDistinctIds
opening_bounds c d p q pair =
    let k = opening_kept c d p q pair in
    record {
      to_a = k.to_a;
      to_b = k.to_b;
      way_a = k.way_a;
      way_b = k.way_b;
      kept = record {
        kept = k.kept;
        at = refl;
        bounding = new_bounding (pair_of_world (opening_world c d p q) k.to_a k.to_b [] []) refl refl refl refl k.kept.handshake (min c.top d.top) (let a = pair.config_a.least in let b = pair.config_b.least in omega (arith, a, b));
        giving = record { mine = record { said = refl; own = tt; unasked = tt }; theirs = record { said = refl; own = tt; unasked = tt }; asked = tt; given = tt };
        fair_a = tt;
        fair_b = tt;
      };
    }
