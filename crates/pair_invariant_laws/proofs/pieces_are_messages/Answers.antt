-- The clause is a lemma.
use Rattle.pair_invariant_laws.proofs.Readings.{on_piece-taken}
use Rattle.pair_invariant_laws.proofs.pieces_are_messages.Goals as goal

pub returns : goal.returns
returns c = on_piece-taken
