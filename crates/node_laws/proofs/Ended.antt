-- A node that has ended takes no step.
use Rattle.std.proofs.Common.{◌≡◌, ℕ, false, List, Option, Some, ap, is_some}
use Rattle.pool_rules.specs.Pools.{transaction_of, is_in_pool}
use Rattle.node_rules.specs.Additions.{on_addition_by, on_addition, is_full}
use Rattle.node_rules.specs.Stages.{is_idle}
use Rattle.node_rules.specs.State.{NodeState}
use Rattle.node_rules.specs.Steps.{on_piece_by, on_piece, on_start_by, on_start}
use Rattle.node_rules.specs.Turns.{unchanged}
use Rattle.node_rules.specs.declared.added.Added.TheVariants as added
use Rattle.node_rules.specs.declared.end.End.{End}

pub on_piece-ended : (s : NodeState) (e : End) (piece : List ℕ) → s.ended ≡ Some e → on_piece s piece ≡ unchanged s
unfolding on_piece_by
on_piece-ended s e piece h = ap (λ o. on_piece_by o s piece) h

pub on_addition-ended : (s : NodeState) (e : End) (tx : List ℕ) → s.ended ≡ Some e → on_addition s tx ≡ record { added = added.Ended; turn = unchanged s }
unfolding on_addition_by
on_addition-ended s e tx h = ap (λ (o : Option End). on_addition_by (is_some o) (is_in_pool s.pool (transaction_of tx).id) (is_full s (transaction_of tx)) s (transaction_of tx)) h

pub on_start-ended : (s : NodeState) (e : End) → s.ended ≡ Some e → on_start s ≡ record { begun = false; turn = unchanged s }
unfolding on_start_by
on_start-ended s e h = ap (λ o. on_start_by o s.config.role (is_idle s.machine.phase) s) h
