-- The opening world has the whole invariant.
use Rattle.std.proofs.Common.{◌≡◌, ◌==◌, ℕ, lit<, true, false, List, [], ◌∷◌, length, refl, sym, ap, ◌∙◌, subst}
use Rattle.std.specs.List.{AllByRecursion}
use Rattle.std.proofs.lemmas.Bool.{and_parts, eqb-true}
use Rattle.id_rules.specs.Bytes.{are_bytes}
use Rattle.wire_rules.specs.Layout.{wire_bytes}
use Rattle.wire_rules.specs.Limits.{IsMessage}
use Rattle.wire_rules.specs.Stream.{IsUnfinished, front_by_length}
use Rattle.wire_rules.specs.declared.message.Message.TheVariants as message
use Rattle.pool_rules.specs.Pools.{Transaction}
use Rattle.node_rules.specs.Handshake.{own_version, opening}
use Rattle.node_rules.specs.State.{opening_state}
use Rattle.node_rules.specs.Invariant.{IsConfig}
use Rattle.node_rules.specs.Barrier.{is_barrier}
use Rattle.node_rules.specs.declared.config.Config.{Config}
use Rattle.invariant_laws.proofs.Joined.{opening-node}
use Rattle.invariant_laws.proofs.Sending.{opening-sendable}
use Rattle.pair_rules.specs.Rounds.{EachRound}
use Rattle.pair_rules.specs.World.{ArePair, opening_world}
use Rattle.pair_invariant_rules.specs.Announcements.{AreAnnouncements, behind_round}
use Rattle.node_rules.specs.Invariant.{is_fetching}
use Rattle.pair_invariant_rules.specs.Pairs.{Pair, HasPair}
use Rattle.pair_invariant_rules.specs.Handshake.{HasHandshake, Calling}
use Rattle.pair_invariant_rules.specs.Invariant.{IsPair}
use Rattle.pair_invariant_rules.specs.Rounds.{Resting, is_at_rest, IsOpenerIn, IsAccepterIn, IsWithinLevel, round_messages_to_b, round_messages_to_a, HasSumsIn, coming_reports, unreported_rounds, HasRound}
use Rattle.pair_invariant_rules.specs.Topics.{topic_of, is_round}
use Rattle.pair_invariant_rules.specs.Wants.{AreWantsOf, HasTxEntries, requested_ids_of, announced_ids_of, carried_transactions_of}

-- two new nodes, where the opener's version is on its way
abbrev pub new_pair : Config → Config → List Transaction → List Transaction → Pair
new_pair c d p q = record { a = opening_state c p; b = opening_state d q; to_a = []; to_b = message.Version (own_version c) ∷ []; by_a = []; by_b = [] }

new_rounding : (c d : Config) (p q : List Transaction) → HasRound (new_pair c d p q)
unfolding is_at_rest IsOpenerIn IsAccepterIn IsWithinLevel round_messages_to_b round_messages_to_a HasSumsIn coming_reports unreported_rounds topic_of is_round EachRound
new_rounding c d p q = record {
  case = Resting;
  position = record { within = tt; opener = refl; accepter = refl; to_b = refl; to_a = refl; keeps = tt };
  reports_in = record { begun = refl; agree = tt };
}

new_wanting_a : (c d : Config) (p q : List Transaction) → AreWantsOf (opening_state c p) (opening_state d q) [] (message.Version (own_version c) ∷ [])
unfolding requested_ids_of announced_ids_of carried_transactions_of HasTxEntries
new_wanting_a c d p q = record { flow = refl; own = tt; wanted = tt; asked = tt; coming = tt; unserved = tt; served = tt; honest = tt }

new_wanting_b : (c d : Config) (p q : List Transaction) → AreWantsOf (opening_state d q) (opening_state c p) (message.Version (own_version c) ∷ []) []
unfolding requested_ids_of announced_ids_of carried_transactions_of HasTxEntries
new_wanting_b c d p q = record { flow = refl; own = tt; wanted = tt; asked = tt; coming = tt; unserved = tt; served = tt; honest = (record { honest = tt }, tt) }

new_announcing : (c d : Config) (p q : List Transaction) → AreAnnouncements (new_pair c d p q)
unfolding behind_round is_barrier is_fetching
new_announcing c d p q = record { behind = refl; silent = λ h. refl; unwanted = λ h. refl; accepter = refl; fetching = λ h none. (let apart : false ≡ true = h in cc) }

new_shakes : (c d : Config) (p q : List Transaction) → HasHandshake (new_pair c d p q)
new_shakes c d p q = Calling (record {
  a = record { phase = refl; peer = refl; whole = refl };
  b = record { phase = refl; peer = refl; whole = refl };
  to_b = refl;
  to_a = refl;
})

nothing_unread : (magic : List ℕ) → IsUnfinished magic []
unfolding front_by_length
nothing_unread magic = record { front = refl }

magic_four : (c : Config) → IsConfig c → length c.magic ≡ 4
magic_four c h = eqb-true (length c.magic) 4 (and_parts (length c.magic == 4) (are_bytes c.magic) h.magic).0

new_kept : (c d : Config) (p q : List Transaction) → ArePair c d p q → IsPair (new_pair c d p q)
unfolding opening
new_kept c d p q pair =
    record {
      opener = pair.opener;
      accepter = pair.accepter;
      four = magic_four c pair.config_a;
      one_net = sym pair.magic;
      node_a = opening-node c p pair.config_a pair.pool_a;
      node_b = opening-node d q pair.config_b pair.pool_b;
      to_a = tt;
      to_b = subst (λ r. AllByRecursion IsMessage (opening r c)) pair.opener (opening-sendable c pair.config_a);
      handshake = new_shakes c d p q;
      rounds = new_rounding c d p q;
      wants = record { mine = new_wanting_a c d p q; theirs = new_wanting_b c d p q };
      announcements = new_announcing c d p q;
      told_a = tt;
      told_b = tt;
    }

pub opening_kept : (c d : Config) (p q : List Transaction) → ArePair c d p q → HasPair IsPair (opening_world c d p q) [] []
unfolding opening
opening_kept c d p q pair = record {
  to_a = [];
  to_b = message.Version (own_version c) ∷ [];
  way_a = record { offset = lit< tt; whole = ap (λ r. wire_bytes d.magic (opening r d)) pair.accepter; partial = nothing_unread c.magic };
  way_b = record { offset = lit< tt; whole = ap (λ r. wire_bytes c.magic (opening r c)) pair.opener ∙ ap (λ g. wire_bytes g (message.Version (own_version c) ∷ [])) pair.magic; partial = nothing_unread d.magic };
  kept = new_kept c d p q pair;
}
