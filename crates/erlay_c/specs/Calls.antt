-- What a call leaves in its caller's buffers, and the code that it answers.
use Rattle.std.specs.Prelude.{◌≡◌, ◌⊎◌, ℕ, List, ◌++◌, length, drop, Result, Ok, Err}
use Rattle.erlay_c.specs.declared.refusal.Refusal.{Refusal}
use Rattle.erlay_c.specs.declared.refusal.Refusal.TheVariants as refusal
use Rattle.erlay_c.specs.Codes.{code_of, number_of}

-- a buffer after a call: what was written stands in front, and a refused call leaves it as it was
abbrev pub front_after : {A : Type 0} → Result (List A) Refusal → List A → List A
front_after (Ok written) old = written ++ drop (length written) old
front_after (Err _) old = old

-- a count after a call: how many were written, and a refused call leaves it as it was
abbrev pub count_after : {A : Type 0} → Result (List A) Refusal → ℕ → ℕ
count_after (Ok written) old = length written
count_after (Err _) old = old

-- a call answered the code of an outcome, and left the buffer as that outcome leaves it
pub record HasAnswered (IsAnswer : Result (List ℕ) Refusal → Type 0) (old new : List ℕ) (code : ℕ) : Type 0 where
  pub outcome : Result (List ℕ) Refusal
  pub is_answer : IsAnswer outcome
  pub answered : code ≡ code_of outcome
  pub buffer : new ≡ front_after outcome old

-- the same, with a count of what was written
pub record HasAnsweredSet (IsAnswer : Result (List ℕ) Refusal → Type 0) (old new : List ℕ) (old_count new_count code : ℕ) : Type 0 where
  pub outcome : Result (List ℕ) Refusal
  pub is_answer : IsAnswer outcome
  pub answered : code ≡ code_of outcome
  pub buffer : new ≡ front_after outcome old
  pub count : new_count ≡ count_after outcome old_count

-- a call found a set and wrote it, or memory ran out
abbrev pub HasFound : List ℕ → List ℕ → List ℕ → ℕ → ℕ → Type 0
HasFound es old new count code = (code ≡ number_of refusal.OutOfMemory) ⊎ ((code ≡ 0) × (new ≡ es ++ drop (length es) old) × (count ≡ length es))
