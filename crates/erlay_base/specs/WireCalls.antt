-- What the calls of a wire do to its link.
use Rattle.std.specs.Prelude.{◌≡◌, ◌⊎◌, ⊤, ℕ, ◌<◌, Bool, true, List, [], ◌∷◌, ◌++◌, length, take, None, Some, Result, Ok, Err}
use Rattle.std.specs.declared.option.Option.{Option}
use Rattle.link_rules.specs.Links.{Link, Call, new_link}

abbrev pub with_call : Call → Link → Link
with_call call l = record l { calls = l.calls ++ call ∷ [] }

-- a link of which nothing was used yet, where the wire tells it
abbrev pub IsUnused : Option Link → Type 0
IsUnused None = ⊤
IsUnused (Some link) = link ≡ new_link link.calls link.coming

-- a call that failed made no link and moved no bytes. It may be missing from the list of calls
abbrev pub IsFailedCall : Call → Link → Link → Type 0
IsFailedCall call old new = (new ≡ old) ⊎ (new ≡ with_call call old)

-- a link was started, of which nothing was used yet, or the call failed
abbrev pub IsStarted : {T E : Type 0} → Result T E → Call → Link → Link → Type 0
IsStarted (Ok _) call old new = new ≡ new_link (old.calls ++ call ∷ []) new.coming
IsStarted (Err _) call old new = IsFailedCall call old new

-- a listen leaves the link, also where it failed
abbrev pub IsListened : {T E : Type 0} → Result T E → Call → Link → Link → Type 0
IsListened (Ok _) call old new = new ≡ with_call call old
IsListened (Err _) call old new = IsFailedCall call old new

-- whether an input has ended, before and after a receive of n bytes into a buffer with so much room: it ends exactly where
-- there was room and no bytes came
pub record IsEndTold (n room : ℕ) (before now : Bool) : Type 0 where
  pub ended : n ≡ 0 → 0 < room → now ≡ true
  pub more : 0 < n → now ≡ before
  pub no_room : room ≡ 0 → now ≡ before

-- n bytes were received to the front of the buffer: the next ones to come. All that isn't empty is one piece
pub record IsReceivedPiece (n : ℕ) (buf : List ℕ) (old new : Link) : Type 0 where
  pub bytes : old.coming ≡ take n buf ++ new.coming
  pub end : n ≡ 0 → 0 < length buf → new.coming ≡ []
  pub piece : 0 < n → new.pieces ≡ old.pieces ++ record { bytes = take n buf; sent_before = length old.sent } ∷ []
  pub no_piece : n ≡ 0 → new.pieces ≡ old.pieces
  pub input : IsEndTold n (length buf) old.input_ended new.input_ended
  pub sent : new.sent ≡ old.sent
  pub calls : new.calls ≡ old.calls

abbrev pub IsReceived : {E : Type 0} → Result ℕ E → List ℕ → Link → Link → Type 0
IsReceived (Ok n) buf old new = IsReceivedPiece n buf old new
IsReceived (Err _) buf old new = new ≡ old

-- the front of the piece was sent
abbrev pub IsSent : {E : Type 0} → Result ℕ E → List ℕ → Link → Link → Type 0
IsSent (Ok n) piece old new = new ≡ record old { sent = old.sent ++ take n piece }
IsSent (Err _) piece old new = new ≡ old
