-- Each clause is a lemma.
use Rattle.node_laws.proofs.Handling.{on_unread-next, on_frames-all, on_piece-parts}
use Rattle.node_laws.proofs.Streaming.{on_piece-rests, on_piece-drops}
use Rattle.stream_laws.proofs.Few.{partial-few}
use Rattle.node_rules.specs.Steps.{on_piece}
use Rattle.node_laws.proofs.pieces_are_handled_alike.Goals as goal

pub returns-clause-next : goal.returns-clause-next
returns-clause-next c = on_unread-next

pub returns-clause-enough : goal.returns-clause-enough
returns-clause-enough c = on_frames-all

pub returns-clause-in_parts : goal.returns-clause-in_parts
returns-clause-in_parts c = on_piece-parts

pub returns-clause-unfinished : goal.returns-clause-unfinished
returns-clause-unfinished c = on_piece-rests

pub returns-clause-short : goal.returns-clause-short
returns-clause-short c = λ s piece going still. partial-few s.config.magic 0 (on_piece s piece).state.inbox.unread (on_piece-rests s piece going still).front

pub returns-clause-dropped : goal.returns-clause-dropped
returns-clause-dropped c = on_piece-drops
