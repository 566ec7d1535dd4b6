-- What the ends of a run say where the input tells its bytes.
use Rattle.std.proofs.Common.{◌≡◌, ◌≢◌, ℕ, ◌<◌, ◌≤◌, ◌⊎◌, inl, inr, Bool, true, false, nat_lt, IsTrue, List, [], ◌++◌, length, refl, sym, ap, ◌∙◌, subst, arith, length-append, Ok, Err, Result}
use Rattle.std.proofs.lemmas.Bool.{and_from, and_left, and_right, cases_lt, le-ltb, lt-ltb}
use Rattle.std.proofs.lemmas.List.{append-nil}
use Rattle.std.specs.Io.KnownBytes.{Appends, Consumes, IsAtEnd}
use Rattle.std.specs.declared.option.Option.{Option}
use Rattle.std.specs.declared.option.Option.TheVariants.{Some, None}
use Rattle.base_types.specs.declared.text.TextFault.{TextFault}
use Rattle.sketch_rules.specs.Answers.{answer_of}
use Rattle.line_rules.specs.Lines.{line}
use Rattle.sketch_text_rules.specs.Elements.{set_in}
use Rattle.sketch_text_rules.specs.Faults.{too_long_text}
use Rattle.sketch_text_rules.specs.Limits.{input_limit}
use Rattle.node_rules.specs.declared.end.End.{End}
use Rattle.pair_rules.specs.World.{Effect}
use Rattle.pair_rules.specs.declared.event.Event.{Event}
use Rattle.protocol_text_rules.specs.Generator.{generated_script}
use Rattle.protocol_text_rules.specs.Pairs.{simulation}
use Rattle.protocol_text_rules.specs.Scripts.{script_in}
use Rattle.protocol_text_rules.specs.Works.{StreamStop, ids_in, ids_text, messages_in, pack_bytes, shown_in, with_text}
use Rattle.simulation.specs.Views.{end_in}
use Rattle.stream_text.specs.Outcomes.{shown_lines}
use Rattle.erlay_base.specs.Causes.{HasRisen}
use Rattle.text_commands.specs.SketchLines.{sketch_in, sum_in}
use Rattle.command_words.specs.declared.command.Command.{Command}
use Rattle.command_words.specs.declared.command.Command.TheVariants as command
use Rattle.text_commands.specs.declared.status.Status.{Status}
use Rattle.text_commands.specs.declared.status.Status.TheVariants as status
use Rattle.command_words.specs.Words.{HasForm, HasCommand}
use Rattle.command_words.proofs.Forms.{one_form}
use Rattle.text_commands.specs.Outside.{Observation, HasNoFault, HasTaken, IsWholeOrTooLong}
use Rattle.text_commands.specs.Answers.{Answer, HasAnswer, answer_to, decode_answer, end_status, is_reader, set_answer, make_answer, merge_answer, run_answer, script_answer, stream_answer, text_answer, answer_within_limit}
use Rattle.text_commands.specs.Ends.{IsEnding, IsWritten, IsAnswer, IsAnswerTo, IsTold}

-- an input that was read to its end, where it told its bytes
pub whole_input : (text input : List ℕ) (left : Option (List ℕ)) → Consumes (Some text) left input → IsAtEnd left → text ≡ input
whole_input text input None consumes at_end = absurd consumes
whole_input text input (Some rest) consumes at_end = consumes ∙ ap (λ left. input ++ left) at_end ∙ append-nil input

-- the bytes that were read, where the input told its bytes: all of them, or more than the limit of them
pub all_or_too_long : (text input : List ℕ) (left : Option (List ℕ)) → Consumes (Some text) left input → IsWholeOrTooLong input left
    → (text ≡ input) ⊎ ((input_limit < length input) × (input_limit < length text))
all_or_too_long text input None consumes either = absurd consumes
all_or_too_long text input (Some rest) consumes (inl whole) = inl (whole_input text input (Some rest) consumes whole.0)
all_or_too_long text input (Some rest) consumes (inr long) =
    let len : length text ≡ length (input ++ rest) = ap length consumes in
    inr (omega (arith, long), omega (arith, long, simp length-append at len))

-- the answer to an input above the limit does not go by its bytes
long_answer : (c : Command) (text : List ℕ) → IsTrue (is_reader c) → input_limit < length text → answer_to c text ≡ record { status = status.TooLong input_limit; text = line (too_long_text input_limit) }
long_answer c text reads long = rw (and_from (is_reader c) (nat_lt input_limit (length text)) reads (lt-ltb input_limit (length text) long)) refl

pub short_answer : (c : Command) (text : List ℕ) → length text ≤ input_limit → answer_to c text ≡ answer_within_limit c text
short_answer c text short = rw (and_right (is_reader c) (nat_lt input_limit (length text)) (le-ltb input_limit (length text) short)) refl

-- the answer of a command that reads nothing does not go by any bytes
free_answer : (c : Command) (text : List ℕ) → is_reader c ≡ false → answer_to c text ≡ answer_within_limit c text
free_answer c text free = rw (and_left (is_reader c) (nat_lt input_limit (length text)) free) refl

alike_within : (c : Command) (s t : List ℕ) → is_reader c ≡ false → answer_within_limit c s ≡ answer_within_limit c t
unfolding is_reader
alike_within (command.Gen n) s t free = refl
alike_within c s t free = cc free

alike_answer : (c : Command) (s t : List ℕ) → is_reader c ≡ false → answer_to c s ≡ answer_to c t
alike_answer c s t free = free_answer c s free ∙ alike_within c s t free ∙ sym (free_answer c t free)

-- what one input leads to, where another has the same answer
leads_alike : (c : Command) (s t : List ℕ) (end : Status) (x : List ℕ) → answer_to c s ≡ answer_to c t → HasAnswer c s end x → HasAnswer c t end x
leads_alike c s t end x same leads = (leads.0 ∙ ap (λ (a : Answer). a.status) same, leads.1 ∙ ap (λ (a : Answer). a.text) same)

-- what was read leads to what the whole input leads to
leads_whole : (c : Command) (text input : List ℕ) (end : Status) (t : List ℕ) → IsTrue (is_reader c) → (text ≡ input) ⊎ ((input_limit < length input) × (input_limit < length text))
    → HasAnswer c input end t → HasAnswer c text end t
leads_whole c text input end t reads (inl same) leads = subst (λ (bytes : List ℕ). HasAnswer c bytes end t) (sym same) leads
leads_whole c text input end t reads (inr long) leads =
    leads_alike c input text end t (long_answer c input reads long.0 ∙ sym (long_answer c text reads long.1)) leads

module _ (words : List (List ℕ)) (old new : Observation) (c : Command) (text : List ℕ) (form : HasForm words c) (told : IsTold c old.bytes text) where
  -- what was taken in leads to what the whole input leads to
  leads_taken : (end : Status) (t : List ℕ) (reads : Bool) → is_reader c ≡ reads → HasTaken reads old new (λ input. HasAnswer c input end t) → HasAnswer c text end t
  leads_taken end t true reads (input, consumes, either, quiet, leads) =
      leads_whole c text input end t reads (all_or_too_long text input new.bytes (rw (← told reads) consumes) either) leads
  leads_taken end t false free (same, leads) = leads_alike c [] text end t (alike_answer c [] text free) leads

  -- an answer that took in its input
  answer_read : (end : Status) (t : List ℕ) → HasCommand words (λ d. HasTaken (is_reader d) old new (λ input. HasAnswer d input end t)) → HasAnswer c text end t
  answer_read end t (d, asks, taken) =
      let same = one_form words d c asks form in
      leads_taken end t (is_reader c) refl (subst (λ (x : Command). HasTaken (is_reader x) old new (λ input. HasAnswer x input end t)) same taken)

  pub answer_told : (end : Status) (t : List ℕ) → IsAnswer words old new end t → IsAnswerTo c text end t
  answer_told status.Ok t answer = answer_read status.Ok t answer
  answer_told (status.BadInput place k) t answer = answer_read (status.BadInput place k) t answer
  answer_told (status.BadStream offset k) t answer = answer_read (status.BadStream offset k) t answer
  answer_told status.NoSet t answer = answer_read status.NoSet t answer
  answer_told (status.Refused e) t answer = answer_read (status.Refused e) t answer
  answer_told status.LinkFault t answer = answer_read status.LinkFault t answer
  answer_told status.ShelfFault t answer = answer_read status.ShelfFault t answer
  answer_told (status.Truncated p) t answer = answer_read (status.Truncated p) t answer
  answer_told (status.TooLong limit) t answer = answer_read (status.TooLong limit) t answer
  answer_told status.Usage t answer = absurd (answer.0 c form)
  answer_told status.ReadFault t answer = answer.2
  answer_told status.OutOfMemory t answer = answer.2
  answer_told status.WriteFault t answer = absurd answer

-- the end of a call whose text was written whole
written_whole : (Answer : Status → List ℕ → Type 0) (old new : Observation) (end : Status) (text : List ℕ) → (Answer status.WriteFault text → ⊥)
    → Answer end text → Appends old.bytes new.bytes text → new.faults ≡ old.faults → IsEnding Answer old new end
written_whole Answer old new status.WriteFault text none answer wrote quiet = absurd (none answer)
written_whole Answer old new status.Ok text none answer wrote quiet = (text, answer, wrote, quiet)
written_whole Answer old new status.Usage text none answer wrote quiet = (text, answer, wrote, quiet)
written_whole Answer old new (status.BadInput place k) text none answer wrote quiet = (text, answer, wrote, quiet)
written_whole Answer old new (status.BadStream offset k) text none answer wrote quiet = (text, answer, wrote, quiet)
written_whole Answer old new status.NoSet text none answer wrote quiet = (text, answer, wrote, quiet)
written_whole Answer old new (status.Refused e) text none answer wrote quiet = (text, answer, wrote, quiet)
written_whole Answer old new status.LinkFault text none answer wrote quiet = (text, answer, wrote, quiet)
written_whole Answer old new status.ShelfFault text none answer wrote quiet = (text, answer, wrote, quiet)
written_whole Answer old new (status.Truncated p) text none answer wrote quiet = (text, answer, wrote, quiet)
written_whole Answer old new (status.TooLong limit) text none answer wrote quiet = (text, answer, wrote, quiet)
written_whole Answer old new status.ReadFault text none answer wrote quiet = (text, answer, wrote, quiet)
written_whole Answer old new status.OutOfMemory text none answer wrote quiet = (text, answer, wrote, quiet)

-- the end of a call that had an answer, and then wrote it
pub finished : (Answer : Status → List ℕ → Type 0) (old new : Observation) (end : Status) (text : List ℕ) (result : Status) → (Answer status.WriteFault text → ⊥)
    → Answer end text → IsWritten end text old new result → IsEnding Answer old new result
finished Answer old new end text result none answer (inl (same, wrote, quiet)) =
    subst (λ (r : Status). IsEnding Answer old new r) (sym same) (written_whole Answer old new end text none answer wrote quiet)
finished Answer old new end text result none answer (inr (same, rose, part)) =
    subst (λ (r : Status). IsEnding Answer old new r) (sym same) (rose, (end, text, answer, part))

-- ---- the answers of commands

-- a command answers this of its own
abbrev IsOwn : Status → Type 0
IsOwn status.Usage = ⊥
IsOwn status.ReadFault = ⊥
IsOwn status.WriteFault = ⊥
IsOwn status.LinkFault = ⊥
IsOwn status.ShelfFault = ⊥
IsOwn (status.Truncated p) = ⊥
IsOwn status.OutOfMemory = ⊥
IsOwn end = Unit {0}

made_own : (capacity : ℕ) (r : Result (List ℕ) TextFault) → IsOwn (make_answer capacity r).status
made_own capacity (Ok es) = tt
made_own capacity (Err f) = tt

summed_own : (r : Result (List ℕ) TextFault) → IsOwn (merge_answer r).status
summed_own (Ok es) = tt
summed_own (Err f) = tt

found_own : (r : Option (List ℕ)) → IsOwn (set_answer r).status
found_own (Some es) = tt
found_own None = tt

decoded_own : (r : Result (List ℕ) TextFault) → IsOwn (decode_answer r).status
decoded_own (Ok sums) = found_own (answer_of sums)
decoded_own (Err f) = tt

text_own : (r : Result (List ℕ) TextFault) → IsOwn (text_answer r).status
text_own (Ok text) = tt
text_own (Err f) = tt

stream_own : (r : Result (List ℕ) StreamStop) → IsOwn (stream_answer r).status
stream_own (Ok text) = tt
stream_own (Err stop) = tt

ended_own : (e : Option End) → IsOwn (end_status e)
ended_own (Some e) = tt
ended_own None = tt

run_own : (with_ids : Bool) (x : Effect) → IsOwn (run_answer with_ids x).status
run_own with_ids x = ended_own (end_in x.world)

script_own : (r : Result (List Event) TextFault) → IsOwn (script_answer r).status
script_own (Ok script) = run_own true (simulation script)
script_own (Err f) = tt

work_own : (c : Command) (input : List ℕ) → IsOwn (answer_within_limit c input).status
work_own (command.Make capacity) input = made_own capacity (set_in input)
work_own command.Merge input = summed_own (sum_in input)
work_own command.Decode input = decoded_own (sketch_in input)
work_own (command.Ids salt other) input = text_own (with_text (ids_text salt other) (ids_in input))
work_own command.Show input = stream_own (shown_lines (messages_in input))
work_own command.Pack input = text_own (with_text pack_bytes (shown_in input))
work_own command.Sim input = script_own (script_in input)
work_own (command.Gen number) input = run_own false (simulation (generated_script number))

answer_own : (c : Command) (input : List ℕ) (reads : Bool) → is_reader c ≡ reads → IsOwn (answer_to c input).status
answer_own c input false free = rw (free_answer c input free) (work_own c input)
answer_own c input true reads = elim (cases_lt input_limit (length input)) [
  | inl long ↦ rw (long_answer c input reads long) tt
  | inr short ↦ rw (short_answer c input short) (work_own c input)
]

pub no_write_fault : (c : Command) (input t : List ℕ) → IsAnswerTo c input status.WriteFault t → ⊥
no_write_fault c input t answer = subst IsOwn (sym answer.0) (answer_own c input (is_reader c) refl)

-- ---- where no count of faults rose

-- a failed read has its cause
pub read_cause : (words : List (List ℕ)) (old new out_old out_new : Observation) (result : Status) → IsEnding (IsAnswer words old new) out_old out_new result
    → result ≡ status.ReadFault → HasRisen old.faults new.faults
read_cause words old new out_old out_new result ended same =
    let at = subst (λ (r : Status). IsEnding (IsAnswer words old new) out_old out_new r) same ended in at.1.0.2.1

taken_quietly : (reads : Bool) (old new : Observation) (P : List ℕ → Type 0) → HasTaken reads old new P → new.faults ≡ old.faults
taken_quietly true old new P taken = taken.3
taken_quietly false old new P taken = ap (λ (s : Observation). s.faults) taken.0

left_quietly : (reads : Bool) (old new : Observation) → HasNoFault reads old new → new.faults ≡ old.faults
left_quietly true old new quiet = quiet
left_quietly false old new same = ap (λ (s : Observation). s.faults) same

-- a run that ended with neither a failed read nor a failed write had no failed read
pub no_read_failed : (words : List (List ℕ)) (old new out_old out_new : Observation) (result : Status) → IsEnding (IsAnswer words old new) out_old out_new result
    → result ≢ status.ReadFault → result ≢ status.WriteFault → new.faults ≡ old.faults
no_read_failed words old new out_old out_new status.ReadFault ended no_read no_write = absurd (no_read refl)
no_read_failed words old new out_old out_new status.WriteFault ended no_read no_write = absurd (no_write refl)
no_read_failed words old new out_old out_new status.Usage ended no_read no_write = ap (λ (s : Observation). s.faults) ended.1.1
no_read_failed words old new out_old out_new status.OutOfMemory ended no_read no_write = left_quietly (is_reader ended.1.0.0) old new ended.1.0.2
no_read_failed words old new out_old out_new end ended no_read no_write = taken_quietly (is_reader ended.1.0) old new (λ input. HasAnswer ended.1.0 input end ended.0) ended.1.2

-- the call ends as the command's answer says, or memory ran out
pub ends_as_answered : (c : Command) (text : List ℕ) (old new : Observation) (result : Status) → IsEnding (IsAnswerTo c text) old new result
    → result ≢ status.ReadFault → ¬ HasRisen old.faults new.faults → (result ≡ (answer_to c text).status) ⊎ (result ≡ status.OutOfMemory)
ends_as_answered c text old new status.ReadFault ended no_read no_write = absurd (no_read refl)
ends_as_answered c text old new status.WriteFault ended no_read no_write = absurd (no_write ended.0)
ends_as_answered c text old new status.OutOfMemory ended no_read no_write = inr refl
ends_as_answered c text old new end ended no_read no_write = inl ended.1.0

-- no command ends with a status of the wire or of the shelf
abbrev pub IsInputStatus : Status → Type 0
IsInputStatus status.LinkFault = ⊥
IsInputStatus status.ShelfFault = ⊥
IsInputStatus (status.Truncated p) = ⊥
IsInputStatus other = Unit {0}

taken_own : (reads : Bool) (c : Command) (old new : Observation) (end : Status) (t : List ℕ) → HasTaken reads old new (λ input. HasAnswer c input end t) → IsOwn end
taken_own true c old new end t (input, consumes, either, quiet, leads) = subst IsOwn (sym leads.0) (answer_own c input (is_reader c) refl)
taken_own false c old new end t (same, leads) = subst IsOwn (sym leads.0) (answer_own c [] (is_reader c) refl)

pub input_status : (words : List (List ℕ)) (old new out_old out_new : Observation) (result : Status) → IsEnding (IsAnswer words old new) out_old out_new result → IsInputStatus result
input_status words old new out_old out_new status.LinkFault ended = taken_own (is_reader ended.1.0) ended.1.0 old new status.LinkFault ended.0 ended.1.2
input_status words old new out_old out_new status.ShelfFault ended = taken_own (is_reader ended.1.0) ended.1.0 old new status.ShelfFault ended.0 ended.1.2
input_status words old new out_old out_new (status.Truncated p) ended = taken_own (is_reader ended.1.0) ended.1.0 old new (status.Truncated p) ended.0 ended.1.2
input_status words old new out_old out_new end ended = tt
