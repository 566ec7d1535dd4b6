-- Additions and the start of a round at nodes that have received other bytes.
use Rattle.std.proofs.Common.{◌≡◌, ℕ, Bool, true, false, List, Option, Some, None, refl, is_some}
use Rattle.base_types.specs.declared.lists.Hash32.{Hash32}
use Rattle.pool_rules.specs.Pools.{Transaction, transaction_of, is_in_pool, is_listed}
use Rattle.node_rules.specs.Additions.{after_addition_by, is_full, on_addition, on_addition_by, with_pooled}
use Rattle.node_rules.specs.Stages.{is_after_handshake, is_idle}
use Rattle.node_rules.specs.State.{Inbox, NodeState, open_wants}
use Rattle.node_rules.specs.Steps.{on_start, on_start_by, round_by, with_inbox}
use Rattle.node_rules.specs.declared.config.Role.{Role}
use Rattle.node_rules.specs.declared.config.Role.TheVariants as role
use Rattle.node_rules.specs.declared.end.End.{End}
use Rattle.relay_node.proofs.Nodes.{IsBeside}

module _ (i : Inbox) (s : NodeState) where
  after_addition_by-beside : (known past plain : Bool) (u : NodeState) (id : Hash32) → u.ended ≡ s.ended → IsBeside i s (after_addition_by known past plain u id) (after_addition_by known past plain (with_inbox u i) id)
  unfolding after_addition_by
  after_addition_by-beside true past plain u id e = record { same = refl; ended = e }
  after_addition_by-beside false false plain u id e = record { same = refl; ended = e }
  after_addition_by-beside false true true u id e = record { same = refl; ended = e }
  after_addition_by-beside false true false u id e = record { same = refl; ended = e }

  on_addition_by-beside : (over present full : Bool) (t : Transaction) → IsBeside i s (on_addition_by over present full s t).turn (on_addition_by over present full (with_inbox s i) t).turn
  unfolding on_addition_by
  on_addition_by-beside true present full t = record { same = refl; ended = refl }
  on_addition_by-beside false true full t = record { same = refl; ended = refl }
  on_addition_by-beside false false true t = record { same = refl; ended = refl }
  on_addition_by-beside false false false t = after_addition_by-beside (is_listed (open_wants s) t.id) (is_after_handshake s.machine.phase) s.plain (with_pooled s t) t.id refl

  on_addition_by-added : (over present full : Bool) (t : Transaction) → (on_addition_by over present full (with_inbox s i) t).added ≡ (on_addition_by over present full s t).added
  unfolding on_addition_by
  on_addition_by-added true present full t = refl
  on_addition_by-added false true full t = refl
  on_addition_by-added false false true t = refl
  on_addition_by-added false false false t = refl

  pub on_addition-beside : (tx : List ℕ) → IsBeside i s (on_addition s tx).turn (on_addition (with_inbox s i) tx).turn
  on_addition-beside tx = on_addition_by-beside (is_some s.ended) (is_in_pool s.pool (transaction_of tx).id) (is_full s (transaction_of tx)) (transaction_of tx)

  pub on_addition-added : (tx : List ℕ) → (on_addition (with_inbox s i) tx).added ≡ (on_addition s tx).added
  on_addition-added tx = on_addition_by-added (is_some s.ended) (is_in_pool s.pool (transaction_of tx).id) (is_full s (transaction_of tx)) (transaction_of tx)

  round_by-beside : (plain : Bool) → IsBeside i s (round_by plain s) (round_by plain (with_inbox s i))
  unfolding round_by
  round_by-beside true = record { same = refl; ended = refl }
  round_by-beside false = record { same = refl; ended = refl }

  on_start_by-beside : (over : Option End) (r : Role) (idle : Bool) → IsBeside i s (on_start_by over r idle s).turn (on_start_by over r idle (with_inbox s i)).turn
  unfolding on_start_by
  on_start_by-beside None role.Opener true = round_by-beside s.plain
  on_start_by-beside None role.Opener false = record { same = refl; ended = refl }
  on_start_by-beside None role.Accepter idle = record { same = refl; ended = refl }
  on_start_by-beside (Some e) r idle = record { same = refl; ended = refl }

  on_start_by-begun : (over : Option End) (r : Role) (idle : Bool) → (on_start_by over r idle (with_inbox s i)).begun ≡ (on_start_by over r idle s).begun
  unfolding on_start_by
  on_start_by-begun None role.Opener true = refl
  on_start_by-begun None role.Opener false = refl
  on_start_by-begun None role.Accepter idle = refl
  on_start_by-begun (Some e) r idle = refl

  pub on_start-beside : IsBeside i s (on_start s).turn (on_start (with_inbox s i)).turn
  on_start-beside = on_start_by-beside s.ended s.config.role (is_idle s.machine.phase)

  pub on_start-begun : (on_start (with_inbox s i)).begun ≡ (on_start s).begun
  on_start-begun = on_start_by-begun s.ended s.config.role (is_idle s.machine.phase)
