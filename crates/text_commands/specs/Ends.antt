-- How a call of the program ends: each status with its cause, and what was written.
use Rattle.std.specs.Prelude.{◌≡◌, ℕ, ◌+◌, ◌⊎◌, IsTrue, List, Some}
use Rattle.std.specs.Io.KnownBytes.{Appends}
use Rattle.std.specs.declared.option.Option.{Option}
use Rattle.erlay_base.specs.Causes.{HasRisen}
use Rattle.erlay_base.specs.Moves.{HasWrittenPart}
use Rattle.line_rules.specs.Lines.{line}
use Rattle.sketch_text_rules.specs.Faults.{usage_text, read_fault_text, out_of_memory_text}
use Rattle.sketch_text_rules.specs.Limits.{input_limit}
use Rattle.node_rules.specs.declared.end.End.{End}
use Rattle.command_words.specs.declared.command.Command.{Command}
use Rattle.text_commands.specs.declared.status.Status.{Status}
use Rattle.text_commands.specs.declared.status.Status.TheVariants as status
use Rattle.text_commands.specs.Codes.{code_of}
use Rattle.command_words.specs.Words.{IsFormless, HasCommand}
use Rattle.text_commands.specs.Outside.{Observation, HasNoFault, HasTaken, ReadsAtMost}
use Rattle.text_commands.specs.Answers.{HasAnswer, answer_to, is_reader}

-- the status and its text, with their cause, but for a failed write: the input before and after it. A failed read is
-- no want of memory
abbrev pub IsAnswer : List (List ℕ) → Observation → Observation → Status → List ℕ → Type 0
IsAnswer words old new status.Usage text = IsFormless words × (new ≡ old) × (text ≡ line usage_text)
IsAnswer words old new status.ReadFault text = HasCommand words (λ c. IsTrue (is_reader c) × HasRisen old.faults new.faults) × ReadsAtMost old new input_limit × (text ≡ line read_fault_text)
IsAnswer words old new status.OutOfMemory text = HasCommand words (λ c. HasNoFault (is_reader c) old new) × ReadsAtMost old new (input_limit + 1) × (text ≡ line out_of_memory_text)
IsAnswer words old new status.WriteFault text = ⊥
IsAnswer words old new end text = HasCommand words (λ c. HasTaken (is_reader c) old new (λ input. HasAnswer c input end text))

-- the whole text of the answer was written, and no write failed; or one failed, and a proper front part of an answer's
-- text was written
abbrev pub IsEnding : (Status → List ℕ → Type 0) → Observation → Observation → Status → Type 0
IsEnding Answer old new status.WriteFault = HasRisen old.faults new.faults × ((end : Status) × (text : List ℕ) × Answer end text × HasWrittenPart old.bytes new.bytes text)
IsEnding Answer old new end = (text : List ℕ) × Answer end text × Appends old.bytes new.bytes text × (new.faults ≡ old.faults)

-- the input tells the bytes that the command reads, where it reads
abbrev pub IsTold : Command → Option (List ℕ) → List ℕ → Type 0
IsTold c left text = IsTrue (is_reader c) → left ≡ Some text

-- over an input of these bytes: a status and text that the command may answer; want of memory alone is free
abbrev pub IsAnswerTo : Command → List ℕ → Status → List ℕ → Type 0
IsAnswerTo c input status.ReadFault text = text ≡ line read_fault_text
IsAnswerTo c input status.OutOfMemory text = text ≡ line out_of_memory_text
IsAnswerTo c input end text = HasAnswer c input end text

-- the command's answer to the input is Ok, that no set has its sketch, or that a node ended
abbrev pub IsSound : Command → List ℕ → Type 0
IsSound c input = ((answer_to c input).status ≡ status.Ok) ⊎ ((answer_to c input).status ≡ status.NoSet) ⊎ ((e : End) × ((answer_to c input).status ≡ status.Refused e))

-- the text was written whole, no write failed and the call ends as it was to; or a write failed, and a proper front
-- part was written
abbrev pub IsWritten : Status → List ℕ → Observation → Observation → Status → Type 0
IsWritten end text old new result =
    ((result ≡ end) × Appends old.bytes new.bytes text × (new.faults ≡ old.faults))
    ⊎ ((result ≡ status.WriteFault) × HasRisen old.faults new.faults × HasWrittenPart old.bytes new.bytes text)

-- the exit code is that of a status with which a call ends so
abbrev pub IsCodeOf : (Status → Type 0) → ℕ → Type 0
IsCodeOf Ending code = (end : Status) × Ending end × (code ≡ code_of end)
