-- Each world that two new nodes come to has the invariant, until a node ends, and both stay nodes also then.
use Rattle.std.proofs.Common.{Bool, true, refl, subst, ◌≡◌, false, List, [], ◌++◌, IsTrue}
use Rattle.std.specs.List.{AllByRecursion}
use Rattle.wire_rules.specs.Limits.{IsMessage}
use Rattle.wire_rules.specs.declared.message.Message.{Message}
use Rattle.pool_rules.specs.Pools.{Transaction}
use Rattle.node_rules.specs.declared.config.Config.{Config}
use Rattle.node_rules.specs.Invariant.{IsNode}
use Rattle.invariant_laws.proofs.Joined.{on_message-node}
use Rattle.pair_rules.specs.World.{World, Effect, ArePair, IsScript, is_event, effect_of, opening_world, run, has_end}
use Rattle.pair_rules.specs.declared.event.Event.{Event}
use Rattle.pair_invariant_rules.specs.Ends.{IsEndLaw, HasPairAlways}
use Rattle.pair_invariant_rules.specs.Invariant.{IsPair}
use Rattle.pair_invariant_rules.specs.Pairs.{Pair, HasPair, without_inbox}
use Rattle.pair_invariant_laws.proofs.Bridge.{happens-kept, run_from-kept, run_from-always}
use Rattle.pair_invariant_laws.proofs.Keeping.{is_kept}
use Rattle.pair_invariant_laws.proofs.Opening.{opening_kept}

pub kept_by_event : (w : World) (by_a by_b : List Message) (e : Event) → IsTrue (is_event e) → HasPair IsPair w by_a by_b → has_end w ≡ false → has_end (effect_of w e).world ≡ false
    → HasPair IsPair (effect_of w e).world (by_a ++ (effect_of w e).by_a) (by_b ++ (effect_of w e).by_b)
kept_by_event = happens-kept IsPair is_kept

pub kept_by_run : (c d : Config) (p q : List Transaction) (script : List Event) → ArePair c d p q → IsScript script → has_end (run (opening_world c d p q) script).world ≡ false
    → HasPair IsPair (run (opening_world c d p q) script).world (run (opening_world c d p q) script).by_a (run (opening_world c d p q) script).by_b
kept_by_run c d p q script pair fine = run_from-kept IsPair is_kept script (opening_world c d p q) [] [] fine (λ going. opening_kept c d p q pair)

-- ---- the nodes, also where one has ended

record AreNodes (p : Pair) : Type 0 where
  a : IsNode p.a
  b : IsNode p.b

nodes_behind_end : IsEndLaw IsPair AreNodes
nodes_behind_end = record {
  by_message_a = λ p m ms x k going_a going_b e ended. record { a = on_message-node p.a k.node_a m (subst (AllByRecursion IsMessage) e k.to_a).0; b = k.node_b };
  by_message_b = λ p m ms x k going_a going_b e ended. record { a = k.node_a; b = on_message-node p.b k.node_b m (subst (AllByRecursion IsMessage) e k.to_b).0 };
}

nodes_by : (o : Bool) (w : World) (by_a by_b : List Message) → has_end w ≡ o → HasPairAlways IsPair AreNodes w by_a by_b → IsNode (without_inbox w.a) × IsNode (without_inbox w.b)
nodes_by false w by_a by_b h k = let kept = (k.going h).kept in (kept.node_a, kept.node_b)
nodes_by true w by_a by_b h k = let nodes = (k.over h).over in (nodes.a, nodes.b)

pub nodes_of_run : (c d : Config) (p q : List Transaction) (script : List Event) → ArePair c d p q → IsScript script
    → IsNode (without_inbox (run (opening_world c d p q) script).world.a) × IsNode (without_inbox (run (opening_world c d p q) script).world.b)
nodes_of_run c d p q script pair fine =
    let x : Effect = run (opening_world c d p q) script in
    nodes_by (has_end x.world) x.world x.by_a x.by_b refl
    (run_from-always IsPair AreNodes is_kept nodes_behind_end script (opening_world c d p q) [] [] fine (record { going = λ h. opening_kept c d p q pair; over = λ h. absurd (let apart : false ≡ true = h in cc) }))
