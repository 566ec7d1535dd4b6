-- What a node holds, and what it may send.
use Rattle.std.proofs.Common.{◌≡◌, List, true, sym, subst}
use Rattle.std.specs.List.{AllByRecursion}
use Rattle.wire_rules.specs.Limits.{IsMessage}
use Rattle.wire_rules.specs.declared.message.Message.{Message}
use Rattle.pool_rules.specs.Pools.{Transaction}
use Rattle.node_rules.specs.Invariant.{IsNode, IsStore}
use Rattle.node_rules.specs.Stages.{is_after_handshake}
use Rattle.node_rules.specs.State.{NodeState, Wants}
use Rattle.node_rules.specs.Steps.{in_relay}
use Rattle.node_rules.specs.Turns.{Turn}
use Rattle.relay_store.specs.Holdings.{Holdings, AreHoldings, holdings_of}
use Rattle.invariant_laws.proofs.Sending.{on_message-sendable}
use Rattle.conversation.proofs.Behind.{relayed}

-- a node with these holdings, and nothing else
abbrev with_holdings : NodeState → List Transaction → Wants → NodeState
with_holdings u pool wants = record u { pool = pool; wants = wants }

-- what a store may hold is told by its pool and its wants
same_store : (s u : NodeState) → IsStore s → IsStore (with_holdings u s.pool s.wants)
same_store s u store = record {
  pool = store.pool;
  wanting = record { once = store.wanting.once; unwanted = store.wanting.unwanted; room = store.wanting.room };
  ids = store.ids;
  serving = record { once = store.serving.once; pooled = store.serving.pooled };
}

pub held : (s : NodeState) → IsStore s → AreHoldings (holdings_of s)
held s store u same =
    subst (λ (h : Holdings). IsStore (with_holdings u h.pool h.wants)) (sym same) (same_store s u store)

-- what a step behind the handshake sends
pub relay_sendable : (s : NodeState) (m : Message) → IsNode s → IsMessage m → is_after_handshake s.machine.phase ≡ true → AllByRecursion IsMessage (in_relay s m).out
relay_sendable s m node sound e = subst (λ (t : Turn). AllByRecursion IsMessage t.out) (relayed s m e) (on_message-sendable s node m sound)
