-- Each clause is a lemma.
use Rattle.p2p_frame.proofs.Fed.{fed-read, fed-pieces, fed-cuts}
use Rattle.p2p_frame.proofs.laws.pieces_are_fed_as_one.Goals as goal

pub returns-clause-read : goal.returns-clause-read
returns-clause-read c = fed-read

pub returns-clause-pieces : goal.returns-clause-pieces
returns-clause-pieces c = fed-pieces

pub returns-clause-cuts : goal.returns-clause-cuts
returns-clause-cuts c = fed-cuts
