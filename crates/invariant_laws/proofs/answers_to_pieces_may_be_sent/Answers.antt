-- Each clause is a part of a lemma.
use Rattle.invariant_laws.proofs.Joined.{on_messages-sound, on_piece-sound}
use Rattle.invariant_laws.proofs.answers_to_pieces_may_be_sent.Goals as goal

pub returns-clause-by_messages : goal.returns-clause-by_messages
returns-clause-by_messages c = λ s ms h sound. (on_messages-sound s ms h sound).sendable

pub returns-clause-by_piece : goal.returns-clause-by_piece
returns-clause-by_piece c = λ s piece h bytes. (on_piece-sound s piece h bytes).sendable
