-- The whole is kept by every step of a pair.
use Rattle.std.proofs.Common.{◌≡◌, ⊎_elim, ℕ, true, false, List, [], ◌∷◌, ◌++◌, length, None, IsTrue, refl, sym, ap, ◌∙◌, subst, append-nil}
use Rattle.std.specs.List.{AllByRecursion}
use Rattle.id_rules.specs.Ids.{keys_of}
use Rattle.wire_rules.specs.Limits.{IsMessage}
use Rattle.wire_rules.specs.declared.message.Message.{Message}
use Rattle.wire_rules.specs.declared.message.Message.TheVariants as message
use Rattle.pool_laws.proofs.Insertions.{tx-transaction_of}
use Rattle.node_laws.specs.Later.{IsLater}
use Rattle.node_laws.proofs.LaterSteps.{on_message-later, on_addition-later, on_start-later}
use Rattle.invariant_laws.proofs.Joined.{on_message-node, on_addition-node, on_start-node}
use Rattle.invariant_laws.proofs.Sending.{on_message-sendable, on_addition-sendable, on_start-sendable}
use Rattle.node_rules.specs.Additions.{on_addition}
use Rattle.node_rules.specs.State.{NodeState}
use Rattle.node_rules.specs.Invariant.{IsNode}
use Rattle.node_rules.specs.Steps.{on_message, on_start}
use Rattle.node_rules.specs.Turns.{Turn}
use Rattle.node_rules.specs.declared.config.Config.{Config}
use Rattle.id_rules.specs.Bytes.{is_tx}
use Rattle.pair_invariant_rules.specs.Pairs.{Pair, after_message_a, after_message_b, after_addition_a, after_addition_b, after_start_a, IsInvariant}
use Rattle.pair_invariant_rules.specs.Handshake.{Past, stage_of, HasHandshake}
use Rattle.pair_invariant_rules.specs.Invariant.{IsPair}
use Rattle.pair_invariant_rules.specs.Announced.{AreTold}
use Rattle.pair_invariant_rules.specs.Rounds.{keys_of_pair}
use Rattle.pair_invariant_rules.specs.Topics.{topic_of, is_handshake}
use Rattle.pair_invariant_rules.specs.Wants.{AreMutualWants}
use Rattle.pair_invariant_laws.proofs.Announcers.{announcing-by_a, announcing-by_b, announcing-adds_a, announcing-adds_b, announcing-begins}
use Rattle.pair_invariant_laws.proofs.AnnouncedSteps.{is_telling}
use Rattle.pair_invariant_laws.proofs.Boths.{boths-takes, boths-adds, boths-begins, begins-apart, begins-reports}
use Rattle.pair_invariant_laws.proofs.Idling.{adds-idles}
use Rattle.pair_invariant_laws.proofs.Known.{known_a, known_b, talk_past_a, talk_past_b}
use Rattle.id_rules.proofs.Lists.{all_append}
use Rattle.pair_invariant_laws.proofs.Reached.{tells_on, tells_read, tells_read-adds, tells_read-same}
use Rattle.pair_invariant_laws.proofs.Roundings.{keys_a, keys_b, rounding-by_a, rounding-by_b, rounding-adds_a, rounding-adds_b}
use Rattle.pair_invariant_laws.proofs.RoundRows.{rounding-begins}
use Rattle.pair_invariant_laws.proofs.Saying.{Apart}
use Rattle.pair_invariant_rules.specs.Wants.{is_about_wants}
use Rattle.pair_invariant_laws.proofs.Shaking.{shakes-by_a, shakes-by_b, shakes-adds_a, shakes-adds_b, shakes-begins, whole_a, whole_b}
use Rattle.pair_invariant_laws.proofs.Telling.{NoMore, takes-tells}

special_talk : (m : Message) → is_about_wants m ≡ true → is_handshake (topic_of m) ≡ false
unfolding is_about_wants topic_of is_handshake
special_talk (message.Inv es) h = refl
special_talk (message.GetData es) h = refl
special_talk (message.NotFound es) h = refl
special_talk (message.Tx tx) h = refl
special_talk (message.Pong n) h = refl
special_talk _ h = absurd (let apart : false ≡ true = h in cc)

telling_talk : (m : Message) → is_telling m ≡ true → is_handshake (topic_of m) ≡ false
unfolding is_telling topic_of is_handshake
telling_talk (message.Sketch bytes) h = refl
telling_talk (message.ReconcilDiff success asks) h = refl
telling_talk _ h = absurd (let apart : false ≡ true = h in cc)

swap : (s u : NodeState) (xs ys : List Message) → AreMutualWants s u xs ys → AreMutualWants u s ys xs
swap s u xs ys b = record { mine = b.theirs; theirs = b.mine }

by_b : (p : Pair) (m : Message) (ms : List Message) → IsPair p → p.to_b ≡ m ∷ ms → (on_message p.b m).state.ended ≡ None → IsPair (after_message_b p m ms)
by_b p m ms k e going =
    let t : Turn = on_message p.b m in
    let node_a : IsNode p.a = k.node_a in
    let node_b : IsNode p.b = k.node_b in
    let front : AllByRecursion IsMessage (m ∷ ms) = subst (AllByRecursion IsMessage) e k.to_b in
    let config : t.state.config ≡ p.b.config = (on_message-later p.b m).config in
    let past : is_about_wants m ≡ true → stage_of p.b.machine.phase ≡ Past = λ h. talk_past_b p m ms k.handshake e (special_talk m h) in
    let both : AreMutualWants p.b p.a (m ∷ ms) p.to_a = subst (λ xs. AreMutualWants p.b p.a xs p.to_a) e (swap p.a p.b p.to_a p.to_b k.wants) in
    let handshake : HasHandshake (after_message_b p m ms) = shakes-by_b p m ms k.node_a.config front.0 k.accepter e k.handshake in
    let g : IsLater p.b t.state = on_message-later p.b m in
    record {
      opener = k.opener;
      accepter = ap (λ c. c.role) config ∙ k.accepter;
      four = k.four;
      one_net = ap (λ c. c.magic) config ∙ k.one_net;
      node_a = k.node_a;
      node_b = on_message-node p.b k.node_b m front.0;
      to_a = all_append IsMessage p.to_a t.out k.to_a (on_message-sendable p.b k.node_b m front.0);
      to_b = front.1;
      handshake = handshake;
      rounds = rounding-by_b p m ms node_a node_b k.handshake k.accepter e k.rounds going;
      wants = swap t.state p.a ms (p.to_a ++ t.out) (boths-takes p.b p.a m ms p.to_a past node_b.setup node_b.store.wanting node_a.store.wanting node_b.store.pool.each both going);
      announcements =
          announcing-by_b p m ms k.accepter node_b.setup node_a.bounded.most node_a.store.wanting node_b.store.pool.each e (swap p.a p.b p.to_a p.to_b k.wants) k.rounds
          (λ h. known_b p k.handshake (talk_past_b p m ms k.handshake e (⊎_elim (special_talk m) (telling_talk m) h))) (whole_b (after_message_b p m ms) handshake) k.announcements;
      told_a =
          subst (λ (c : Config). AreTold (keys_of p.a.config.salt c.salt) p.a t.state ms) (sym config)
          (tells_read (keys_of_pair p) p.a p.b m ms past node_b.setup both.mine.honest.0 going (subst (AreTold (keys_of_pair p) p.a p.b) e k.told_a));
      told_b =
          subst (λ (c : Config). AreTold (keys_of p.a.config.salt c.salt) t.state p.a (p.to_a ++ t.out)) (sym config)
          (tells_on (keys_of_pair p) p.b p.a p.to_a t g.new_held g.pool (takes-tells p.b node_b.setup (keys_of_pair p) (λ h. keys_b p (known_b p k.handshake h)) m) k.told_b);
    }

by_a : (p : Pair) (m : Message) (ms : List Message) → IsPair p → p.to_a ≡ m ∷ ms → (on_message p.a m).state.ended ≡ None → IsPair (after_message_a p m ms)
by_a p m ms k e going =
    let t : Turn = on_message p.a m in
    let node_a : IsNode p.a = k.node_a in
    let node_b : IsNode p.b = k.node_b in
    let front : AllByRecursion IsMessage (m ∷ ms) = subst (AllByRecursion IsMessage) e k.to_a in
    let config : t.state.config ≡ p.a.config = (on_message-later p.a m).config in
    let past : is_about_wants m ≡ true → stage_of p.a.machine.phase ≡ Past = λ h. talk_past_a p m ms k.handshake e (special_talk m h) in
    let both : AreMutualWants p.a p.b (m ∷ ms) p.to_b = subst (λ xs. AreMutualWants p.a p.b xs p.to_b) e k.wants in
    let g : IsLater p.a t.state = on_message-later p.a m in
    record {
      opener = ap (λ c. c.role) config ∙ k.opener;
      accepter = k.accepter;
      four = ap (λ c. length c.magic) config ∙ k.four;
      one_net = k.one_net ∙ ap (λ c. c.magic) (sym config);
      node_a = on_message-node p.a k.node_a m front.0;
      node_b = k.node_b;
      to_a = front.1;
      to_b = all_append IsMessage p.to_b t.out k.to_b (on_message-sendable p.a k.node_a m front.0);
      handshake = shakes-by_a p m ms k.node_b.config front.0 k.opener e k.handshake;
      rounds = rounding-by_a p m ms k.handshake k.opener node_a node_b e k.rounds going;
      wants = boths-takes p.a p.b m ms p.to_b past node_a.setup node_a.store.wanting node_b.store.wanting node_a.store.pool.each both going;
      announcements = announcing-by_a p m ms past k.handshake k.opener node_a.setup e k.wants k.rounds k.announcements;
      told_a =
          subst (λ (c : Config). AreTold (keys_of c.salt p.b.config.salt) t.state p.b (p.to_b ++ t.out)) (sym config)
          (tells_on (keys_of_pair p) p.a p.b p.to_b t g.new_held g.pool (takes-tells p.a node_a.setup (keys_of_pair p) (λ h. keys_a p (known_a p k.handshake h)) m) k.told_a);
      told_b =
          subst (λ (c : Config). AreTold (keys_of c.salt p.b.config.salt) p.b t.state ms) (sym config)
          (tells_read (keys_of_pair p) p.b p.a m ms past node_a.setup both.mine.honest.0 going (subst (AreTold (keys_of_pair p) p.b p.a) e k.told_b));
    }

adds_a : (p : Pair) (tx : List ℕ) → IsTrue (is_tx tx) → IsPair p → IsPair (after_addition_a p tx)
adds_a p tx fine k =
    let t : Turn = (on_addition p.a tx).turn in
    let config : t.state.config ≡ p.a.config = (on_addition-later p.a tx).config in
    let plain = whole_a p k.handshake in
    let g : IsLater p.a t.state = on_addition-later p.a tx in
    record {
      opener = ap (λ c. c.role) config ∙ k.opener;
      accepter = k.accepter;
      four = ap (λ c. length c.magic) config ∙ k.four;
      one_net = k.one_net ∙ ap (λ c. c.magic) (sym config);
      node_a = on_addition-node p.a k.node_a tx (tx-transaction_of tx fine);
      node_b = k.node_b;
      to_a = k.to_a;
      to_b = all_append IsMessage p.to_b t.out k.to_b (on_addition-sendable p.a k.node_a tx (tx-transaction_of tx fine));
      handshake = shakes-adds_a p tx k.handshake;
      rounds = rounding-adds_a p tx k.rounds;
      wants = boths-adds p.a p.b p.to_a p.to_b tx plain k.wants;
      announcements = announcing-adds_a p tx plain k.announcements;
      told_a = subst (λ (c : Config). AreTold (keys_of c.salt p.b.config.salt) t.state p.b (p.to_b ++ t.out)) (sym config) (tells_on (keys_of_pair p) p.a p.b p.to_b t g.new_held g.pool (NoMore (adds-idles p.a tx).reports) k.told_a);
      told_b = subst (λ (c : Config). AreTold (keys_of c.salt p.b.config.salt) p.b t.state p.to_a) (sym config) (tells_read-adds (keys_of_pair p) p.b p.a p.to_a tx k.told_b);
    }

adds_b : (p : Pair) (tx : List ℕ) → IsTrue (is_tx tx) → IsPair p → IsPair (after_addition_b p tx)
adds_b p tx fine k =
    let t : Turn = (on_addition p.b tx).turn in
    let config : t.state.config ≡ p.b.config = (on_addition-later p.b tx).config in
    let plain = whole_b p k.handshake in
    let g : IsLater p.b t.state = on_addition-later p.b tx in
    record {
      opener = k.opener;
      accepter = ap (λ c. c.role) config ∙ k.accepter;
      four = k.four;
      one_net = ap (λ c. c.magic) config ∙ k.one_net;
      node_a = k.node_a;
      node_b = on_addition-node p.b k.node_b tx (tx-transaction_of tx fine);
      to_a = all_append IsMessage p.to_a t.out k.to_a (on_addition-sendable p.b k.node_b tx (tx-transaction_of tx fine));
      to_b = k.to_b;
      handshake = shakes-adds_b p tx k.handshake;
      rounds = rounding-adds_b p tx k.rounds;
      wants = swap t.state p.a p.to_b (p.to_a ++ t.out) (boths-adds p.b p.a p.to_b p.to_a tx plain (swap p.a p.b p.to_a p.to_b k.wants));
      announcements = announcing-adds_b p tx plain k.announcements;
      told_a = subst (λ (c : Config). AreTold (keys_of p.a.config.salt c.salt) p.a t.state p.to_b) (sym config) (tells_read-adds (keys_of_pair p) p.a p.b p.to_b tx k.told_a);
      told_b = subst (λ (c : Config). AreTold (keys_of p.a.config.salt c.salt) t.state p.a (p.to_a ++ t.out)) (sym config) (tells_on (keys_of_pair p) p.b p.a p.to_a t g.new_held g.pool (NoMore (adds-idles p.b tx).reports) k.told_b);
    }

begins_a : (p : Pair) → IsPair p → IsPair (after_start_a p)
begins_a p k =
    let t : Turn = (on_start p.a).turn in
    let config : t.state.config ≡ p.a.config = (on_start-later p.a).config in
    let plain = whole_a p k.handshake in
    let apart : Apart p.a t = begins-apart p.a plain in
    record {
      opener = ap (λ c. c.role) config ∙ k.opener;
      accepter = k.accepter;
      four = ap (λ c. length c.magic) config ∙ k.four;
      one_net = k.one_net ∙ ap (λ c. c.magic) (sym config);
      node_a = on_start-node p.a k.node_a;
      node_b = k.node_b;
      to_a = k.to_a;
      to_b = all_append IsMessage p.to_b t.out k.to_b (on_start-sendable p.a k.node_a);
      handshake = shakes-begins p k.handshake;
      rounds = rounding-begins p plain k.rounds;
      wants = boths-begins p.a p.b p.to_a p.to_b plain k.wants;
      announcements = announcing-begins p plain k.announcements;
      told_a =
          subst (λ (c : Config). AreTold (keys_of c.salt p.b.config.salt) t.state p.b (p.to_b ++ t.out)) (sym config)
          (tells_on (keys_of_pair p) p.a p.b p.to_b t [] (apart.pool ∙ sym (append-nil p.a.pool)) (NoMore (begins-reports p.a)) k.told_a);
      told_b =
          subst (λ (c : Config). AreTold (keys_of c.salt p.b.config.salt) p.b t.state p.to_a) (sym config)
          (tells_read-same (keys_of_pair p) p.b p.a t.state p.to_a apart.pool (ap (λ w. w.wanted ++ w.asked) apart.wants) k.told_b);
    }

pub is_kept : IsInvariant IsPair
is_kept = record {
  sound_a = λ p k. k.to_a;
  sound_b = λ p k. k.to_b;
  four = λ p k. k.four;
  one_net = λ p k. k.one_net;
  by_message_a = by_a;
  by_message_b = by_b;
  by_addition_a = λ p tx fine awake k. adds_a p tx fine k;
  by_addition_b = λ p tx fine awake k. adds_b p tx fine k;
  by_round = λ p awake k. begins_a p k;
}
