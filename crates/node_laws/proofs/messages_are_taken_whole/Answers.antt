-- Each clause is a part of the walk over the rows.
use Rattle.node_laws.proofs.Rows.{on_message-step}
use Rattle.node_laws.proofs.messages_are_taken_whole.Goals as goal

pub returns-clause-inbox : goal.returns-clause-inbox
returns-clause-inbox c = λ s i m. (on_message-step s i m).same

pub returns-clause-refusal : goal.returns-clause-refusal
returns-clause-refusal c = λ s m e going ended. (on_message-step s s.inbox m).refuses going e ended
