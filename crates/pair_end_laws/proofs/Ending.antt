-- Why nodes end, and what they announce, at every moment.
use Rattle.std.proofs.Common.{◌≡◌, ⊎_elim, inl, inr, is_some, Option, ℕ, Bool, true, false, List, [], ◌∷◌, ◌++◌, Some, None, IsTrue, refl, sym, ap, ◌∙◌, subst}
use Rattle.std.specs.List.{AllByRecursion}
use Rattle.std.proofs.lemmas.Bool.{or_parts}
use Rattle.id_rules.specs.Ids.{KeyPair, keys_of}
use Rattle.wire_rules.specs.declared.message.Message.{Message}
use Rattle.pool_rules.specs.Pools.{Transaction}
use Rattle.node_rules.specs.Additions.{on_addition}
use Rattle.node_rules.specs.State.{NodeState}
use Rattle.node_rules.specs.Steps.{on_message, on_start}
use Rattle.node_rules.specs.Turns.{Turn}
use Rattle.node_rules.specs.declared.config.Config.{Config}
use Rattle.node_rules.specs.declared.config.Role.{Role}
use Rattle.node_rules.specs.declared.config.Role.TheVariants as role
use Rattle.node_rules.specs.declared.end.End.{End}
use Rattle.pair_rules.specs.Rounds.{pair_keys}
use Rattle.pair_rules.specs.World.{World, Effect, ArePair, IsScript, opening_world, run, has_end}
use Rattle.id_rules.specs.Bytes.{is_tx}
use Rattle.pair_rules.specs.declared.event.Event.{Event}
use Rattle.pair_invariant_rules.specs.Pairs.{Pair, after_a, after_b, after_message_a, after_message_b, after_addition_a, after_addition_b, after_start_a, IsInvariant, HasPair, pair_of_world, without_inbox}
use Rattle.pair_invariant_rules.specs.Ends.{IsEndLaw, HasPairAlways}
use Rattle.pair_invariant_rules.specs.Invariant.{IsPair}
use Rattle.pair_invariant_rules.specs.Rounds.{keys_of_pair}
use Rattle.pair_invariant_rules.specs.Topics.{topic_of, is_round}
use Rattle.pool_laws.proofs.Insertions.{tx-transaction_of}
use Rattle.wire_rules.specs.Limits.{IsMessage}
use Rattle.pair_invariant_laws.proofs.Bridge.{run_from-always}
use Rattle.pair_invariant_laws.proofs.Keeping.{is_kept}
use Rattle.pair_invariant_laws.proofs.Known.{known_a, known_b}
use Rattle.pair_invariant_laws.proofs.Opening.{opening_kept}
use Rattle.pair_invariant_laws.proofs.Roundings.{keys_a, keys_b}
use Rattle.pair_invariant_laws.proofs.Shaking.{shakes-by_a, shakes-by_b, shakes-adds_a, shakes-adds_b, shakes-begins, whole_a, whole_b}
use Rattle.pair_rules.specs.Announcements.{outcomes, outcomes_of, HaveAnnouncedOnly, RoundsAreAnnounced}
use Rattle.pair_rules.specs.Ends.{HasWrongAnswer, HasCauseOfEnd, NodesEndForCause}
use Rattle.pair_rules.specs.Reports.{AreAlikeSoFar, ReportsAreAlikeSoFar}
use Rattle.pair_end_laws.proofs.Alike.{alike_so_far}
use Rattle.node_laws.proofs.Rows.{on_message-step}
use Rattle.node_laws.proofs.LaterSteps.{on_message-later, on_addition-later, on_start-later}
use Rattle.pair_end_laws.proofs.Announcing.{Announces, on_message-announces, on_addition-announces, on_start-announces, said_on}
use Rattle.pair_end_laws.proofs.Causes.{CauseB, fills_cause, round_cause_b, round_fills_a}
use Rattle.pair_end_laws.proofs.Filling.{Fills, fills_a, fills_b}

-- what each side has announced is what its reports say
record Said (side : Role) (keys : KeyPair) (s : NodeState) (by : List Message) : Type 0 where
  pub said : outcomes by ≡ outcomes_of side keys s.machine.reports

record HaveSaid (p : Pair) : Type 0 where
  pub by_a : Said role.Opener (keys_of_pair p) p.a p.by_a
  pub by_b : Said role.Accepter (keys_of_pair p) p.b p.by_b

record IsSayingPair (p : Pair) : Type 0 where
  pub kept : IsPair p
  pub says : HaveSaid p

record IsEndedPair (p : Pair) : Type 0 where
  pub ends : HasCauseOfEnd p.a p.b
  pub alike : AreAlikeSoFar (keys_of_pair p) p.a.machine.reports p.b.machine.reports
  pub says : HaveSaid p

-- a step of a side that says what its new report says
abbrev AnnouncesIn : Pair → NodeState → Turn → Type 0
AnnouncesIn p s t = Announces s.config.role (keys_of_pair p) s.machine.reports t.state.machine.reports t.out

said_more : (side : Role) (keys : KeyPair) (s : NodeState) (t : Turn) (by : List Message) → s.config.role ≡ side → Announces s.config.role keys s.machine.reports t.state.machine.reports t.out → Said side keys s by → Said side keys t.state (by ++ t.out)
said_more side keys s t by e a h = record {
  said = said_on side keys s.machine.reports t.state.machine.reports by t.out (subst (λ r. Announces r keys s.machine.reports t.state.machine.reports t.out) e a) h.said;
}

said_a : (p : Pair) (t : Turn) (ms : List Message) → p.a.config.role ≡ role.Opener → t.state.config ≡ p.a.config → AnnouncesIn p p.a t → HaveSaid p → HaveSaid (after_a p t ms)
said_a p t ms opener config says h = record {
  by_a = subst (λ (c : Config). Said role.Opener (keys_of c.salt p.b.config.salt) t.state (p.by_a ++ t.out)) (sym config) (said_more role.Opener (keys_of_pair p) p.a t p.by_a opener says h.by_a);
  by_b = subst (λ (c : Config). Said role.Accepter (keys_of c.salt p.b.config.salt) p.b p.by_b) (sym config) h.by_b;
}

said_b : (p : Pair) (t : Turn) (ms : List Message) → p.b.config.role ≡ role.Accepter → t.state.config ≡ p.b.config → AnnouncesIn p p.b t → HaveSaid p → HaveSaid (after_b p t ms)
said_b p t ms accepter config says h = record {
  by_a = subst (λ (c : Config). Said role.Opener (keys_of p.a.config.salt c.salt) p.a p.by_a) (sym config) h.by_a;
  by_b = subst (λ (c : Config). Said role.Accepter (keys_of p.a.config.salt c.salt) t.state (p.by_b ++ t.out)) (sym config) (said_more role.Accepter (keys_of_pair p) p.b t p.by_b accepter says h.by_b);
}

-- ---- messages

module _ (p : Pair) (m : Message) (ms : List Message) (k : IsSayingPair p) where
  message_said_a : p.to_a ≡ m ∷ ms → HaveSaid (after_message_a p m ms)
  message_said_a e =
      let sound : IsMessage m = (subst (AllByRecursion IsMessage) e k.kept.to_a).0 in
      let plain : (on_message p.a m).state.plain ≡ false = whole_a (after_message_a p m ms) (shakes-by_a p m ms k.kept.node_b.config sound k.kept.opener e k.kept.handshake) in
      said_a p (on_message p.a m) ms k.kept.opener (on_message-later p.a m).config (on_message-announces p.a k.kept.node_a.setup (keys_of_pair p) (λ h. keys_a p (known_a p k.kept.handshake h)) m sound plain) k.says

  message_said_b : p.to_b ≡ m ∷ ms → HaveSaid (after_message_b p m ms)
  message_said_b e =
      let sound : IsMessage m = (subst (AllByRecursion IsMessage) e k.kept.to_b).0 in
      let plain : (on_message p.b m).state.plain ≡ false = whole_b (after_message_b p m ms) (shakes-by_b p m ms k.kept.node_a.config sound k.kept.accepter e k.kept.handshake) in
      said_b p (on_message p.b m) ms k.kept.accepter (on_message-later p.b m).config (on_message-announces p.b k.kept.node_b.setup (keys_of_pair p) (λ h. keys_b p (known_b p k.kept.handshake h)) m sound plain) k.says

  -- ---- where a node ends

  fills_by : (t : Bool) → is_round (topic_of m) ≡ t → p.a.ended ≡ None → p.to_a ≡ m ∷ ms → Fills (on_message p.a m)
  fills_by false h going e = fills_a p m ms k.kept.node_b.config k.kept.handshake going e h
  fills_by true h going e = round_fills_a p m ms k.kept.node_a k.kept.node_b going k.kept.handshake k.kept.opener e k.kept.rounds h

  cause_by : (t : Bool) → is_round (topic_of m) ≡ t → p.b.ended ≡ None → p.to_b ≡ m ∷ ms → CauseB p (on_message p.b m)
  cause_by false h going e = fills_cause p (on_message p.b m) (fills_b p m ms k.kept.node_a.config k.kept.handshake going e h)
  cause_by true h going e = round_cause_b p m ms k.kept.node_a k.kept.node_b going k.kept.handshake k.kept.accepter e k.kept.rounds h

  over_a : (e : End) → p.a.ended ≡ None → p.b.ended ≡ None → p.to_a ≡ m ∷ ms → (on_message p.a m).state.ended ≡ Some e → IsEndedPair (after_message_a p m ms)
  over_a x going_a going_b e ended =
      record {
        ends = record { opener = fills_by (is_round (topic_of m)) refl going_a e; accepter = λ y h. absurd (let apart : None ≡ Some y = sym going_b ∙ h in cc) };
        alike = subst (λ (t : Turn). AreAlikeSoFar (keys_of t.state.config.salt p.b.config.salt) t.state.machine.reports p.b.machine.reports) (sym ((on_message-step p.a p.a.inbox m).refuses going_a x ended)) (alike_so_far p k.kept.rounds);
        says = message_said_a e;
      }

  over_b : (e : End) → p.a.ended ≡ None → p.b.ended ≡ None → p.to_b ≡ m ∷ ms → (on_message p.b m).state.ended ≡ Some e → IsEndedPair (after_message_b p m ms)
  over_b x going_a going_b e ended =
      record {
        ends = record { opener = λ y h. absurd (let apart : None ≡ Some y = sym going_a ∙ h in cc); accepter = cause_by (is_round (topic_of m)) refl going_b e };
        alike = subst (λ (t : Turn). AreAlikeSoFar (keys_of p.a.config.salt t.state.config.salt) p.a.machine.reports t.state.machine.reports) (sym ((on_message-step p.b p.b.inbox m).refuses going_b x ended)) (alike_so_far p k.kept.rounds);
        says = message_said_b e;
      }

-- ---- additions, and the start of a round

added_a : (p : Pair) (tx : List ℕ) → IsTrue (is_tx tx) → p.a.ended ≡ None → IsSayingPair p → IsSayingPair (after_addition_a p tx)
added_a p tx fine going k = record {
  kept = is_kept.by_addition_a p tx fine going k.kept;
  says =
      said_a p (on_addition p.a tx).turn p.to_a k.kept.opener (on_addition-later p.a tx).config
      (on_addition-announces p.a k.kept.node_a.setup (keys_of_pair p) (λ h. keys_a p (known_a p k.kept.handshake h)) tx (tx-transaction_of tx fine) (whole_a (after_addition_a p tx) (shakes-adds_a p tx k.kept.handshake))) k.says;
}

added_b : (p : Pair) (tx : List ℕ) → IsTrue (is_tx tx) → p.b.ended ≡ None → IsSayingPair p → IsSayingPair (after_addition_b p tx)
added_b p tx fine going k = record {
  kept = is_kept.by_addition_b p tx fine going k.kept;
  says =
      said_b p (on_addition p.b tx).turn p.to_b k.kept.accepter (on_addition-later p.b tx).config
      (on_addition-announces p.b k.kept.node_b.setup (keys_of_pair p) (λ h. keys_b p (known_b p k.kept.handshake h)) tx (tx-transaction_of tx fine) (whole_b (after_addition_b p tx) (shakes-adds_b p tx k.kept.handshake))) k.says;
}

begun_a : (p : Pair) → p.a.ended ≡ None → IsSayingPair p → IsSayingPair (after_start_a p)
begun_a p going k = record {
  kept = is_kept.by_round p going k.kept;
  says =
      said_a p (on_start p.a).turn p.to_a k.kept.opener (on_start-later p.a).config
      (on_start-announces p.a k.kept.node_a.setup (keys_of_pair p) (λ h. keys_a p (known_a p k.kept.handshake h)) (whole_a (after_start_a p) (shakes-begins p k.kept.handshake))) k.says;
}

saying_kept : IsInvariant IsSayingPair
saying_kept = record {
  sound_a = λ p k. k.kept.to_a;
  sound_b = λ p k. k.kept.to_b;
  four = λ p k. k.kept.four;
  one_net = λ p k. k.kept.one_net;
  by_message_a = λ p m ms k e going. record { kept = is_kept.by_message_a p m ms k.kept e going; says = message_said_a p m ms k e };
  by_message_b = λ p m ms k e going. record { kept = is_kept.by_message_b p m ms k.kept e going; says = message_said_b p m ms k e };
  by_addition_a = added_a;
  by_addition_b = added_b;
  by_round = begun_a;
}

end_law : IsEndLaw IsSayingPair IsEndedPair
end_law = record {
  by_message_a = λ p m ms x k a b e ended. over_a p m ms k x a b e ended;
  by_message_b = λ p m ms x k a b e ended. over_b p m ms k x a b e ended;
}

-- ---- a run from the opening world

opening_saying : (c d : Config) (p q : List Transaction) → ArePair c d p q → HasPair IsSayingPair (opening_world c d p q) [] []
opening_saying c d p q pair =
    let k = opening_kept c d p q pair in
    record { to_a = k.to_a; to_b = k.to_b; way_a = k.way_a; way_b = k.way_b; kept = record { kept = k.kept; says = record { by_a = record { said = refl }; by_b = record { said = refl } } } }

always : (c d : Config) (p q : List Transaction) (script : List Event) → ArePair c d p q → IsScript script
    → HasPairAlways IsSayingPair IsEndedPair (run (opening_world c d p q) script).world (run (opening_world c d p q) script).by_a (run (opening_world c d p q) script).by_b
always c d p q script pair fine =
    run_from-always IsSayingPair IsEndedPair saying_kept end_law script (opening_world c d p q) [] [] fine (record { going = λ h. opening_saying c d p q pair; over = λ h. absurd (let apart : false ≡ true = h in cc) })

-- an inbox has no part in it
wrong_in : (w : World) → HasWrongAnswer (without_inbox w.a) (without_inbox w.b) → HasWrongAnswer w.a w.b
wrong_in w h = record { earlier = h.earlier; last = h.last; reports = h.reports; extensions = h.extensions; answered = h.answered; larger = h.larger }

ends_in : (w : World) → HasCauseOfEnd (without_inbox w.a) (without_inbox w.b) → HasCauseOfEnd w.a w.b
ends_in w h = record { opener = h.opener; accepter = λ e x. ⊎_elim (λ full. inl full) (λ u. inr (u.0, u.1, wrong_in w u.2)) (h.accepter e x) }

no_cause : (w : World) → has_end w ≡ false → HasCauseOfEnd w.a w.b
no_cause w h =
    let parts = or_parts (is_some w.a.ended) (is_some w.b.ended) h in
    let none : (o : Option End) (e : End) → is_some o ≡ false → o ≡ Some e → ⊥ = λ o e f x. (let apart : true ≡ false = sym (ap is_some x) ∙ f in cc) in
    record { opener = λ e x. absurd (none w.a.ended e parts.0 x); accepter = λ e x. absurd (none w.b.ended e parts.1 x) }

ends_by : (o : Bool) (w : World) (by_a by_b : List Message) → has_end w ≡ o → HasPairAlways IsSayingPair IsEndedPair w by_a by_b → HasCauseOfEnd w.a w.b
ends_by false w by_a by_b h k = no_cause w h
ends_by true w by_a by_b h k = ends_in w (k.over h).over.ends

pub nodes_end_for_cause : NodesEndForCause
nodes_end_for_cause c d p q script pair fine =
    let x : Effect = run (opening_world c d p q) script in
    ends_by (has_end x.world) x.world x.by_a x.by_b refl (always c d p q script pair fine)

announced_by : (o : Bool) (x : Effect) → has_end x.world ≡ o → HasPairAlways IsSayingPair IsEndedPair x.world x.by_a x.by_b → HaveAnnouncedOnly x
announced_by false x h k = let says = (k.going h).kept.says in record { by_a = says.by_a.said; by_b = says.by_b.said }
announced_by true x h k = let says = (k.over h).over.says in record { by_a = says.by_a.said; by_b = says.by_b.said }

pub rounds_are_announced : RoundsAreAnnounced
rounds_are_announced c d p q script pair fine =
    let x : Effect = run (opening_world c d p q) script in
    announced_by (has_end x.world) x refl (always c d p q script pair fine)

alike_by : (o : Bool) (x : Effect) → has_end x.world ≡ o → HasPairAlways IsSayingPair IsEndedPair x.world x.by_a x.by_b → AreAlikeSoFar (pair_keys x.world) x.world.a.machine.reports x.world.b.machine.reports
alike_by false x h k = let in_pair = k.going h in alike_so_far (pair_of_world x.world in_pair.to_a in_pair.to_b x.by_a x.by_b) in_pair.kept.kept.rounds
alike_by true x h k = (k.over h).over.alike

pub reports_are_alike_so_far : ReportsAreAlikeSoFar
reports_are_alike_so_far c d p q script pair fine =
    let x : Effect = run (opening_world c d p q) script in
    alike_by (has_end x.world) x refl (always c d p q script pair fine)
