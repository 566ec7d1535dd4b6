-- What a node has received of a message has no part in an addition, nor in the start of a round.
use Rattle.std.proofs.Common.{◌≡◌, ℕ, is_some, Bool, true, false, List, Option, Some, None, refl}
use Rattle.base_types.specs.declared.lists.Hash32.{Hash32}
use Rattle.pool_rules.specs.Pools.{Transaction, transaction_of, is_listed, is_in_pool}
use Rattle.node_rules.specs.Additions.{after_addition_by, with_pooled, on_addition_by, on_addition, is_full}
use Rattle.node_rules.specs.Stages.{is_after_handshake, is_idle}
use Rattle.node_rules.specs.State.{NodeState, Inbox, open_wants}
use Rattle.node_rules.specs.Steps.{with_inbox, round_by, on_start_by, on_start}
use Rattle.node_rules.specs.declared.config.Role.{Role}
use Rattle.node_rules.specs.declared.config.Role.TheVariants as role
use Rattle.node_rules.specs.declared.end.End.{End}
use Rattle.node_laws.specs.Inboxes.{turn_with_inbox}

module _ (s : NodeState) (i : Inbox) where
  after_addition_by-inbox : (known past plain : Bool) (id : Hash32) → after_addition_by known past plain (with_inbox s i) id ≡ turn_with_inbox (after_addition_by known past plain s id) i
  unfolding after_addition_by
  after_addition_by-inbox true past plain id = refl
  after_addition_by-inbox false false plain id = refl
  after_addition_by-inbox false true true id = refl
  after_addition_by-inbox false true false id = refl

  round_by-inbox : (plain : Bool) → round_by plain (with_inbox s i) ≡ turn_with_inbox (round_by plain s) i
  unfolding round_by
  round_by-inbox false = refl
  round_by-inbox true = refl

  on_start_by-inbox : (e : Option End) (r : Role) (idle : Bool) → (on_start_by e r idle (with_inbox s i)).turn ≡ turn_with_inbox (on_start_by e r idle s).turn i
  unfolding on_start_by
  on_start_by-inbox None role.Opener true = round_by-inbox s.plain
  on_start_by-inbox None role.Opener false = refl
  on_start_by-inbox None role.Accepter idle = refl
  on_start_by-inbox (Some e) r idle = refl

  pub on_start-inbox : (on_start (with_inbox s i)).turn ≡ turn_with_inbox (on_start s).turn i
  on_start-inbox = on_start_by-inbox s.ended s.config.role (is_idle s.machine.phase)

module _ (s : NodeState) (i : Inbox) where
  on_addition_by-inbox : (ended present full : Bool) (t : Transaction) → (on_addition_by ended present full (with_inbox s i) t).turn ≡ turn_with_inbox (on_addition_by ended present full s t).turn i
  unfolding on_addition_by
  on_addition_by-inbox true present full t = refl
  on_addition_by-inbox false true full t = refl
  on_addition_by-inbox false false true t = refl
  on_addition_by-inbox false false false t = after_addition_by-inbox (with_pooled s t) i (is_listed (open_wants s) t.id) (is_after_handshake s.machine.phase) s.plain t.id

  pub on_addition-inbox : (tx : List ℕ) → (on_addition (with_inbox s i) tx).turn ≡ turn_with_inbox (on_addition s tx).turn i
  on_addition-inbox tx = on_addition_by-inbox (is_some s.ended) (is_in_pool s.pool (transaction_of tx).id) (is_full s (transaction_of tx)) (transaction_of tx)
