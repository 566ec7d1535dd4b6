-- Each clause is a lemma.
use Rattle.shown_laws.proofs.Lines.{shown_message-line, shown_message-message_text, message_text-injective}
use Rattle.shown_laws.proofs.shown_messages_are_read_back.Goals as goal

pub returns-clause-read : goal.returns-clause-read
returns-clause-read c = shown_message-message_text

pub returns-clause-one : goal.returns-clause-one
returns-clause-one c = message_text-injective

pub returns-clause-line : goal.returns-clause-line
returns-clause-line c = shown_message-line
