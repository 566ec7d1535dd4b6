-- The phases of a round by the number of extensions, of which there are two at most, and the endings of one.
use Rattle.std.specs.Prelude.{ℕ, zero, suc, ◌*◌, ◌^◌, Bool, true, false, Some, None}
use Rattle.std.specs.declared.option.Option.{Option}
use Rattle.wire_rules.specs.declared.phase.Phase.{Phase}
use Rattle.wire_rules.specs.declared.phase.Phase.TheVariants as phase
use Rattle.pool_rules.specs.declared.report.Ending.{Ending}
use Rattle.pool_rules.specs.declared.report.Ending.TheVariants as ending

-- an opener that has asked for n extensions
unfoldable pub waiting_phase : ℕ → Phase
waiting_phase zero = phase.Waiting
waiting_phase (suc zero) = phase.WaitingExt
waiting_phase (suc (suc n)) = phase.WaitingExt2

-- an accepter that has sent n extensions
unfoldable pub sent_phase : ℕ → Phase
sent_phase zero = phase.Sent
sent_phase (suc zero) = phase.SentExt
sent_phase (suc (suc n)) = phase.SentExt2

-- how many extensions an opener has asked for, where it waits for a sketch
unfoldable pub requested_extensions : Phase → Option ℕ
requested_extensions phase.Waiting = Some 0
requested_extensions phase.WaitingExt = Some 1
requested_extensions phase.WaitingExt2 = Some 2
requested_extensions other = None

-- how many extensions an accepter has sent, where it has sent a sketch
unfoldable pub sent_extensions : Phase → Option ℕ
sent_extensions phase.Sent = Some 0
sent_extensions phase.SentExt = Some 1
sent_extensions phase.SentExt2 = Some 2
sent_extensions other = None

-- the ending of a round that is answered with n extensions
unfoldable pub answered_ending : ℕ → Ending
answered_ending zero = ending.First
answered_ending (suc zero) = ending.Extension
answered_ending (suc (suc n)) = ending.Extension2

-- with how many extensions a round was answered, where it was
unfoldable pub extensions_in : Ending → Option ℕ
extensions_in ending.First = Some 0
extensions_in ending.Extension = Some 1
extensions_in ending.Extension2 = Some 2
extensions_in ending.Fallback = None

-- the capacity of a sketch with n extensions, each of which doubles it
abbrev pub capacity_after : ℕ → ℕ → ℕ
capacity_after c n = c * 2 ^ n

-- whether no round is under way
unfoldable pub is_idle : Phase → Bool
is_idle phase.Idle = true
is_idle other = false

-- whether the handshake is over
unfoldable pub is_after_handshake : Phase → Bool
is_after_handshake phase.Greeting = false
is_after_handshake phase.Greeted = false
is_after_handshake other = true
