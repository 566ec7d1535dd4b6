-- Announcements to the opener, and what it keeps of them.
use Rattle.std.specs.Prelude.{◌≡◌, Bool, true, false, List, [], ◌∷◌}
use Rattle.wire_rules.specs.declared.message.Message.{Message}
use Rattle.node_rules.specs.Invariant.{is_fetching}
use Rattle.node_rules.specs.Barrier.{is_barrier}
use Rattle.pair_invariant_rules.specs.Pairs.{Pair}
use Rattle.pair_invariant_rules.specs.Topics.{topic_of, is_round}
use Rattle.pair_invariant_rules.specs.Wants.{announced_ids}

unfoldable pub behind_round_by : Bool → List Message → List Message → List Message
behind_round_by true ms rest = ms
behind_round_by false ms rest = rest

-- the messages behind the first one about a round
unfoldable pub behind_round : List Message → List Message
behind_round [] = []
behind_round (m ∷ ms) = behind_round_by (is_round (topic_of m)) ms (behind_round ms)

-- nothing is announced to the opener behind a message about a round, and nothing but while its ping is out. Then alone it
-- keeps announced ids. An accepter never does
pub record AreAnnouncements (p : Pair) : Type 0 where
  pub behind : announced_ids (behind_round p.to_a) ≡ []
  pub silent : is_barrier p.a.machine.phase ≡ false → announced_ids p.to_a ≡ []
  pub unwanted : is_barrier p.a.machine.phase ≡ false → p.a.wants.wanted ≡ []
  pub accepter : p.b.wants.wanted ≡ []
  pub fetching : is_fetching p.a.machine.phase ≡ true → p.a.wants.asked ≡ [] → ⊥
