-- Where a round stands is kept by every step of a pair.
use Rattle.std.proofs.Common.{◌≡◌, ℕ, suc, ◌≤◌, arith, Bool, true, false, cond, List, [], ◌∷◌, None, refl, sym, ap, ◌∙◌, subst}
use Rattle.std.specs.List.{AllByRecursion}
use Rattle.id_rules.specs.Ids.{KeyPair, keys_of}
use Rattle.wire_rules.specs.declared.message.Message.{Message}
use Rattle.wire_rules.specs.declared.message.Message.TheVariants as message
use Rattle.pool_rules.specs.Pools.{Transaction}
use Rattle.pool_rules.specs.Snapshots.{Member}
use Rattle.pool_laws.proofs.Ids.{keys_of-swap}
use Rattle.node_rules.specs.Additions.{on_addition}
use Rattle.node_rules.specs.State.{Peer, node_keys, salt_of, extensions_allowed}
use Rattle.node_rules.specs.Invariant.{IsMember, IsNode}
use Rattle.node_rules.specs.Steps.{on_message}
use Rattle.node_rules.specs.declared.config.Role.TheVariants as role
use Rattle.pair_invariant_rules.specs.Pairs.{Pair, after_message_a, after_message_b, after_addition_a, after_addition_b}
use Rattle.pair_invariant_rules.specs.Topics.{messages_of_rounds, topic_of, is_round}
use Rattle.pair_invariant_rules.specs.Handshake.{stage_of, HasHandshake, noted_peer}
use Rattle.pair_invariant_rules.specs.Rounds.{RoundCase, Requested, Sketched, Extending, Resolved, Pinged, Ponged, IsOpenerIn, IsAccepterIn, IsWithinLevel, round_messages_to_b, round_messages_to_a, IsInCase, HasReports, HasRound, keys_of_pair, portion}
use Rattle.pair_invariant_laws.proofs.Idling.{takes-idles, adds-idles}
use Rattle.pair_invariant_laws.proofs.Known.{Known, known_a, known_b, told_past}
use Rattle.pair_invariant_laws.proofs.Levels.{levels_agree}
use Rattle.pair_invariant_laws.proofs.PlainTalk.{waiting_past, sent_past}
use Rattle.pair_invariant_laws.proofs.RoundSteps.{barrier_past}
use Rattle.pair_invariant_laws.proofs.RoundSteps.{idles_a, idles_b}
use Rattle.pair_invariant_laws.proofs.RoundRows.{requested_b, extending_b, resolved_b, pinged_b, ponged_a}
use Rattle.pair_invariant_laws.proofs.SketchSteps.{sketched_a}

-- ---- the message in front

module _ (m : Message) (ms : List Message) where
  pub front_round : is_round (topic_of m) ≡ true → messages_of_rounds (m ∷ ms) ≡ m ∷ messages_of_rounds ms
  front_round h = ap (λ b. cond b (m ∷ messages_of_rounds ms) (messages_of_rounds ms)) h

  pub front_other : is_round (topic_of m) ≡ false → messages_of_rounds (m ∷ ms) ≡ messages_of_rounds ms
  front_other h = ap (λ b. cond b (m ∷ messages_of_rounds ms) (messages_of_rounds ms)) h

pub is_first : (m n : Message) (ms ns : List Message) → m ∷ ms ≡ n ∷ ns → (m ≡ n) × (ms ≡ ns)
is_first m n ms ns e = let h : m ≡ n = cc in let t : ms ≡ ns = cc in (h, t)

abbrev GoesB : Pair → List Message → Message → Type 0
GoesB p ms m = (on_message p.b m).state.ended ≡ None → HasRound (after_message_b p m ms)

abbrev GoesA : Pair → List Message → Message → Type 0
GoesA p ms m = (on_message p.a m).state.ended ≡ None → HasRound (after_message_a p m ms)

-- ---- the accepter takes a message about rounds

at_case_b : (c : RoundCase) (p : Pair) (m : Message) (ms : List Message) → IsNode p.a → IsNode p.b → HasHandshake p → IsInCase c p → HasReports c p → Known p.b p.a → p.b.config.role ≡ role.Accepter
    → m ∷ messages_of_rounds ms ≡ round_messages_to_b c p.a.requests.begun → GoesB p ms m
unfolding round_messages_to_b IsOpenerIn
at_case_b (Requested size q) p m ms mine theirs handshake s r known accepter e =
    let f = is_first m (message.ReqRecon size q) (messages_of_rounds ms) [] e in subst (GoesB p ms) (sym f.0) (requested_b p ms size q s r known accepter f.1)
at_case_b (Extending n) p m ms mine theirs handshake s r known accepter e =
    let f = is_first m message.ReqSketchExt (messages_of_rounds ms) [] e in subst (GoesB p ms) (sym f.0) (extending_b p ms n s r known accepter (levels_agree p.b p.a theirs mine known (known_a p handshake (ap stage_of s.opener ∙ waiting_past (suc n)))) mine.bounded.most f.1)
at_case_b (Resolved n success asks) p m ms mine theirs handshake s r known accepter e =
    let f = is_first m (message.ReconcilDiff success asks) (messages_of_rounds ms) (message.Ping p.a.requests.begun ∷ []) e in subst (GoesB p ms) (sym f.0) (resolved_b p ms n success asks mine.bounded.most s r known accepter f.1)
at_case_b Pinged p m ms mine theirs handshake s r known accepter e =
    let f = is_first m (message.Ping p.a.requests.begun) (messages_of_rounds ms) [] e in subst (GoesB p ms) (sym f.0) (pinged_b p ms s r known f.1)
at_case_b _ p m ms mine theirs handshake s r known accepter e = absurd (let apart : m ∷ messages_of_rounds ms ≡ [] = e in cc)

by_topic_b : (t : Bool) (p : Pair) (m : Message) (ms : List Message) → is_round (topic_of m) ≡ t → IsNode p.a → IsNode p.b → HasHandshake p → p.b.config.role ≡ role.Accepter → p.to_b ≡ m ∷ ms → HasRound p → GoesB p ms m
by_topic_b false p m ms h mine theirs handshake accepter e r going = idles_b p (on_message p.b m) ms (takes-idles p.b m h) (sym (front_other m ms h) ∙ ap messages_of_rounds (sym e)) r
by_topic_b true p m ms h mine theirs handshake accepter e r going =
    at_case_b r.case p m ms mine theirs handshake r.position r.reports_in (known_b p handshake (told_past p m ms handshake e h)) accepter (sym (front_round m ms h) ∙ (ap messages_of_rounds (sym e) ∙ r.position.to_b)) going

pub rounding-by_b : (p : Pair) (m : Message) (ms : List Message) → IsNode p.a → IsNode p.b → HasHandshake p → p.b.config.role ≡ role.Accepter → p.to_b ≡ m ∷ ms → HasRound p
    → (on_message p.b m).state.ended ≡ None → HasRound (after_message_b p m ms)
rounding-by_b p m ms mine theirs handshake accepter e r going = by_topic_b (is_round (topic_of m)) p m ms refl mine theirs handshake accepter e r going

-- ---- the opener does

-- the keys of a node behind the handshake
pub keys_a : (p : Pair) → Known p.a p.b → node_keys p.a ≡ keys_of_pair p
unfolding noted_peer
keys_a p k = ap (λ (q : Peer). keys_of p.a.config.salt (salt_of q.offer)) k.peer

pub keys_b : (p : Pair) → Known p.b p.a → node_keys p.b ≡ keys_of_pair p
unfolding noted_peer
keys_b p k = ap (λ (q : Peer). keys_of p.b.config.salt (salt_of q.offer)) k.peer ∙ keys_of-swap p.b.config.salt p.a.config.salt

-- what set and snapshot have, under the keys of both
under : (keys other : KeyPair) (pool : List Transaction) (ms : List Member) → keys ≡ other → AllByRecursion (IsMember keys pool) ms → AllByRecursion (IsMember other pool) ms
under keys other pool ms e h = subst (λ k. AllByRecursion (IsMember k pool) ms) e h

few : (n level : ℕ) → n ≤ level → level ≤ 2 → n ≤ 2
few n level within most = omega (arith, within, most)

at_case_a : (c : RoundCase) (p : Pair) (m : Message) (ms : List Message) → IsInCase c p → HasReports c p → HasHandshake p → p.a.config.role ≡ role.Opener → IsNode p.a → IsNode p.b
    → m ∷ messages_of_rounds ms ≡ round_messages_to_a c p.a.requests.begun p.b.machine.round → GoesA p ms m
unfolding round_messages_to_a IsOpenerIn IsAccepterIn IsWithinLevel
at_case_a (Sketched n) p m ms s r handshake opener mine theirs e =
    let f = is_first m (message.Sketch (portion p.b.machine.round n)) (messages_of_rounds ms) [] e in
    let a = known_a p handshake (ap stage_of s.opener ∙ waiting_past n) in
    let b = known_b p handshake (ap stage_of s.accepter ∙ sent_past n) in
    subst (GoesA p ms) (sym f.0)
    (sketched_a p ms n (few n (extensions_allowed p.a.machine) s.within mine.bounded.most) s r a opener f.1 p.b.pool (under (node_keys p.b) (keys_of_pair p) p.b.pool p.b.machine.round.snapshot (keys_b p b) theirs.setup.snapshot.each)
    (under (node_keys p.a) (keys_of_pair p) p.a.pool p.a.set (keys_a p a) mine.setup.set.each)
    (under (node_keys p.a) (keys_of_pair p) p.a.pool p.a.machine.round.snapshot (keys_a p a) mine.setup.snapshot.each))
at_case_a Ponged p m ms s r handshake opener mine theirs e =
    let f = is_first m (message.Pong p.a.requests.begun) (messages_of_rounds ms) [] e in
    let a = known_a p handshake (ap stage_of s.opener ∙ barrier_past) in
    subst (GoesA p ms) (sym f.0) (λ going. ponged_a p ms s r a opener f.1)
at_case_a _ p m ms s r handshake opener mine theirs e = absurd (let apart : m ∷ messages_of_rounds ms ≡ [] = e in cc)

by_topic_a : (t : Bool) (p : Pair) (m : Message) (ms : List Message) → is_round (topic_of m) ≡ t → HasHandshake p → p.a.config.role ≡ role.Opener → IsNode p.a → IsNode p.b
    → p.to_a ≡ m ∷ ms → HasRound p → GoesA p ms m
by_topic_a false p m ms h handshake opener mine theirs e r going = idles_a p (on_message p.a m) ms (takes-idles p.a m h) (sym (front_other m ms h) ∙ ap messages_of_rounds (sym e)) r
by_topic_a true p m ms h handshake opener mine theirs e r going =
    at_case_a r.case p m ms r.position r.reports_in handshake opener mine theirs (sym (front_round m ms h) ∙ (ap messages_of_rounds (sym e) ∙ r.position.to_a)) going

pub rounding-by_a : (p : Pair) (m : Message) (ms : List Message) → HasHandshake p → p.a.config.role ≡ role.Opener → IsNode p.a → IsNode p.b → p.to_a ≡ m ∷ ms → HasRound p
    → (on_message p.a m).state.ended ≡ None → HasRound (after_message_a p m ms)
rounding-by_a p m ms handshake opener mine theirs e r going = by_topic_a (is_round (topic_of m)) p m ms refl handshake opener mine theirs e r going

-- ---- additions

pub rounding-adds_a : (p : Pair) (tx : List ℕ) → HasRound p → HasRound (after_addition_a p tx)
rounding-adds_a p tx r = idles_a p (on_addition p.a tx).turn p.to_a (adds-idles p.a tx) refl r

pub rounding-adds_b : (p : Pair) (tx : List ℕ) → HasRound p → HasRound (after_addition_b p tx)
rounding-adds_b p tx r = idles_b p (on_addition p.b tx).turn p.to_b (adds-idles p.b tx) refl r
