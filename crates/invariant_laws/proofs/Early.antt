-- What is known of a node before the handshake is over.
use Rattle.std.proofs.Common.{◌≡◌, [], ◌++◌, ap, subst}
use Rattle.wire_rules.specs.declared.phase.Phase.TheVariants as phase
use Rattle.node_rules.specs.Invariant.{IsConversing, IsEarly, IsConversingIn}
use Rattle.node_rules.specs.State.{NodeState, Wants, Round, open_wants}

pub greeting-early : (s : NodeState) → IsConversing s → s.machine.phase ≡ phase.Greeting → IsEarly s
unfolding IsConversingIn
greeting-early s h e = let c : IsConversingIn phase.Greeting s = subst (λ p. IsConversingIn p s) e h.conversation in c.0

pub greeted-early : (s : NodeState) → IsConversing s → s.machine.phase ≡ phase.Greeted → IsEarly s
unfolding IsConversingIn
greeted-early s h e = let c : IsConversingIn phase.Greeted s = subst (λ p. IsConversingIn p s) e h.conversation in c

pub early-wants : (s : NodeState) → IsEarly s → open_wants s ≡ []
early-wants s h = ap (λ (w : Wants). w.wanted ++ w.asked) h.wants

pub early-snapshot : (s : NodeState) → IsEarly s → s.machine.round.snapshot ≡ []
early-snapshot s h = ap (λ (r : Round). r.snapshot) h.round
