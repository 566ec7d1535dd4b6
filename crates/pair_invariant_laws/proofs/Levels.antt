-- Two nodes behind the handshake are at one level.
use Rattle.std.proofs.Common.{◌≡◌, ℕ, min, arith, sym, ap, ◌∙◌}
use Rattle.wire_rules.specs.declared.phase.Phase.{Phase}
use Rattle.wire_rules.specs.declared.phase.Phase.TheVariants as phase
use Rattle.node_rules.specs.Handshake.{level_of}
use Rattle.node_rules.specs.Invariant.{IsNode, IsIntroduced, IsConversingIn}
use Rattle.node_rules.specs.State.{NodeState, Peer}
use Rattle.pair_invariant_rules.specs.Handshake.{New, Met, Past, stage_of, noted_peer}
use Rattle.pair_invariant_laws.proofs.Known.{Known}

introduced : (q : Phase) (s : NodeState) → stage_of q ≡ Past → IsConversingIn q s → IsIntroduced s
unfolding stage_of IsConversingIn
introduced phase.Greeting s past h = absurd (let apart : New ≡ Past = past in cc)
introduced phase.Greeted s past h = absurd (let apart : Met ≡ Past = past in cc)
introduced other s past h = h

-- the lesser of what both offer
pub known_level : (s other : NodeState) → IsNode s → Known s other → s.machine.level ≡ min s.config.top other.config.top
unfolding noted_peer level_of
known_level s other node known =
    (introduced s.machine.phase s known.stage node.conversing.conversation).level ∙ ap (λ (q : Peer). level_of s.config.top q.offer) known.peer

min_swap : (m n : ℕ) → min m n ≡ min n m
min_swap m n = omega arith

pub levels_agree : (s other : NodeState) → IsNode s → IsNode other → Known s other → Known other s → s.machine.level ≡ other.machine.level
levels_agree s other mine theirs known back =
    known_level s other mine known ∙ (min_swap s.config.top other.config.top ∙ sym (known_level other s theirs back))
