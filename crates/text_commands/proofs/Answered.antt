-- The answer to words, by what the command took in.
use Rattle.std.proofs.Common.{◌≡◌, ℕ, false, IsTrue, List, [], sym, ◌∙◌, subst, Ok, Err, Result, IfOk}
use Rattle.std.specs.Io.KnownBytes.{Consumes, IsAtEnd}
use Rattle.command_words.specs.declared.command.Command.{Command}
use Rattle.command_words.specs.declared.command.Command.TheVariants as command
use Rattle.command_words.specs.Words.{HasForm}
use Rattle.command_words.proofs.Forms.{one_form}
use Rattle.text_commands.specs.declared.report.Report.{Report}
use Rattle.text_commands.specs.declared.report.Stop.{Stop}
use Rattle.text_commands.specs.Outside.{Observation}
use Rattle.text_commands.specs.Answers.{HasSettled, is_reader}
use Rattle.text_commands.specs.Ends.{IsTold}
use Rattle.text_commands.proofs.Endings.{whole_input}

-- a command that reads nothing has settled whatever the input is
settled_alike : (c : Command) (s t : List ℕ) → is_reader c ≡ false → HasSettled c s → HasSettled c t
unfolding is_reader
settled_alike (command.Gen n) s t free settled = settled
settled_alike c s t free settled = cc

-- words that ask for a command that reads ask for none that doesn't
pub reader_reads : (words : List (List ℕ)) (c d : Command) → HasForm words c → HasForm words d → IsTrue (is_reader c) → is_reader d ≡ false → ⊥
reader_reads words c d form asks reads free =
    let one = one_form words c d form asks in cc (sym (subst (λ (x : Command). IsTrue (is_reader x)) one reads) ∙ free)

module _ (words : List (List ℕ)) (old new : Observation) (c : Command) (form : HasForm words c) where
  -- the nodes of a command that read its input whole
  pub read_settled : (r : Result Report Stop) (input : List ℕ) → IsTrue (is_reader c) → Consumes old.bytes new.bytes input → IsAtEnd new.bytes
      → IfOk r (λ report. HasSettled c input) → IfOk r (λ report. (d : Command) (text : List ℕ) → HasForm words d → IsTold d old.bytes text → HasSettled d text)
  read_settled (Ok report) input reads consumes at_end settled = λ d text asks told.
      let one = one_form words c d form asks in
      let bytes = told (subst (λ (x : Command). IsTrue (is_reader x)) one reads) in
      let whole = whole_input text input new.bytes (rw (← bytes) consumes) at_end in
      subst (λ (x : Command). HasSettled x text) one (subst (λ (b : List ℕ). HasSettled c b) (sym whole) settled)
  read_settled (Err s) input reads consumes at_end settled = tt

  -- and of one that reads nothing
  pub free_settled : (r : Result Report Stop) → is_reader c ≡ false → IfOk r (λ report. HasSettled c [])
      → IfOk r (λ report. (d : Command) (text : List ℕ) → HasForm words d → IsTold d old.bytes text → HasSettled d text)
  free_settled (Ok report) free settled = λ d text asks told. subst (λ (x : Command). HasSettled x text) (one_form words c d form asks) (settled_alike c [] text free settled)
  free_settled (Err s) free settled = tt
