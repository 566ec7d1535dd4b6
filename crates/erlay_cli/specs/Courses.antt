-- How far an exchange comes, and what it leaves of the wire, the shelf and the output.
use Rattle.std.specs.Prelude.{◌≡◌, ◌≢◌, ◌⊎◌, ⊤, ℕ, List, [], ◌++◌, Ok, Err}
use Rattle.std.specs.Io.KnownBytes.{Appends}
use Rattle.std.specs.declared.option.Option.{Option}
use Rattle.link_rules.specs.Links.{Link, AcceptCall, ListenCall, Call, new_link}
use Rattle.erlay_base.specs.Causes.{HasRisen}
use Rattle.erlay_base.specs.Moves.{HasWrittenPart}
use Rattle.erlay_base.specs.ShelfCalls.{ToldShelf, AreReads}
use Rattle.erlay_base.specs.Told.{AreTold}
use Rattle.erlay_base.specs.WireCalls.{IsFailedCall, with_call}
use Rattle.line_rules.specs.Lines.{line}
use Rattle.sketch_text_rules.specs.Faults.{bad_input_text, out_of_memory_text, too_long_text}
use Rattle.pool_rules.specs.Pools.{Transaction}
use Rattle.pool_rules.specs.declared.limits.TheConstants.{POOL_FILE_LIMIT}
use Rattle.node_rules.specs.State.{opening_state}
use Rattle.node_rules.specs.declared.config.Config.{Config}
use Rattle.node_rules.specs.declared.config.Role.{Role}
use Rattle.node_rules.specs.declared.config.Role.TheVariants as role
use Rattle.session_rules.specs.Session.{session_start}
use Rattle.session_rules.specs.declared.limits.TheConstants.{SESSION_LIMIT}
use Rattle.session_rules.specs.declared.session_end.SessionEnd.{SessionEnd}
use Rattle.session_rules.specs.declared.session_end.SessionEnd.TheVariants as session_end
use Rattle.protocol_text_rules.specs.Ends.{link_fault_text, listening_text, refused_text, shelf_fault_text, truncated_text}
use Rattle.session.specs.Sessions.{IsBusyIn, IsReceivedInTime, is_input_over}
use Rattle.pool_session.specs.PoolFiles.{IsLoaded}
use Rattle.pool_session.specs.Runs.{HasRun, answer_of}
use Rattle.pool_session.specs.declared.loading.PoolStop.{PoolStop}
use Rattle.pool_session.specs.declared.loading.PoolStop.TheVariants as pool_stop
use Rattle.pool_session.specs.declared.outcome.Outcome.{Outcome}
use Rattle.pool_session.specs.declared.outcome.Outcome.TheVariants as outcome
use Rattle.text_commands.specs.Outside.{Observation}
use Rattle.text_commands.specs.declared.status.Status.{Status}
use Rattle.text_commands.specs.declared.status.Status.TheVariants as status
use Rattle.erlay_cli.specs.Exchanges.{Exchange, first_call, link_calls, rounds_of}
use Rattle.erlay_cli.specs.Sights.{ShelfSight, WireSight}
use Rattle.erlay_cli.specs.declared.course.Course.{Course}
use Rattle.erlay_cli.specs.declared.course.Course.TheVariants as course

-- ---- what is answered and written

abbrev pub status_of_stop : PoolStop → Status
status_of_stop (pool_stop.Fault f) = status.BadInput f.place f.kind
status_of_stop pool_stop.TooLong = status.TooLong POOL_FILE_LIMIT
status_of_stop pool_stop.ShelfFault = status.ShelfFault
status_of_stop pool_stop.OutOfMemory = status.OutOfMemory

abbrev pub status_of_end : SessionEnd → Status
status_of_end session_end.Done = status.Ok
status_of_end (session_end.Refused e) = status.Refused e
status_of_end (session_end.Truncated p) = status.Truncated p
status_of_end session_end.LinkFault = status.LinkFault
status_of_end session_end.SessionLimit = status.TooLong SESSION_LIMIT
status_of_end session_end.OutOfMemory = status.OutOfMemory

abbrev pub status_of_outcome : Outcome → Status
status_of_outcome (outcome.Saved text) = status.Ok
status_of_outcome outcome.Unsaved = status.ShelfFault
status_of_outcome (outcome.Ended e) = status_of_end e

abbrev pub status_of : Course → Status
status_of (course.Unloaded stop) = status_of_stop stop
status_of course.Unlinked = status.LinkFault
status_of course.Unannounced = status.WriteFault
status_of course.Unaccepted = status.LinkFault
status_of course.Starved = status.OutOfMemory
status_of (course.Over outcome) = status_of_outcome outcome

abbrev pub text_of_stop : PoolStop → List ℕ
text_of_stop (pool_stop.Fault f) = line (bad_input_text f.place f.kind)
text_of_stop pool_stop.TooLong = line (too_long_text POOL_FILE_LIMIT)
text_of_stop pool_stop.ShelfFault = line shelf_fault_text
text_of_stop pool_stop.OutOfMemory = line out_of_memory_text

abbrev pub text_of_end : SessionEnd → List ℕ
text_of_end session_end.Done = []
text_of_end (session_end.Refused e) = line (refused_text e)
text_of_end (session_end.Truncated p) = line (truncated_text p)
text_of_end session_end.LinkFault = line link_fault_text
text_of_end session_end.SessionLimit = line (too_long_text SESSION_LIMIT)
text_of_end session_end.OutOfMemory = line out_of_memory_text

abbrev pub text_of_outcome : Outcome → List ℕ
text_of_outcome (outcome.Saved text) = text.items
text_of_outcome outcome.Unsaved = line shelf_fault_text
text_of_outcome (outcome.Ended e) = text_of_end e

abbrev pub text_of : Course → List ℕ
text_of (course.Unloaded stop) = text_of_stop stop
text_of course.Unlinked = line link_fault_text
text_of course.Unannounced = []
text_of course.Unaccepted = line link_fault_text
text_of course.Starved = line out_of_memory_text
text_of (course.Over outcome) = text_of_outcome outcome

-- an accepter that listens writes so
abbrev pub announcement_of : Role → List ℕ
announcement_of role.Opener = []
announcement_of role.Accepter = line listening_text

abbrev pub announcement : Role → Course → List ℕ
announcement r (course.Unloaded stop) = []
announcement r course.Unlinked = []
announcement r reached = announcement_of r

-- the text of an end is spelled in memory, which may run out
abbrev pub IsSpelledEnd : SessionEnd → Type 0
IsSpelledEnd (session_end.Refused e) = ⊤
IsSpelledEnd (session_end.Truncated p) = ⊤
IsSpelledEnd other = ⊥

abbrev pub IsSpelled : Course → Type 0
IsSpelled (course.Unloaded (pool_stop.Fault f)) = ⊤
IsSpelled (course.Over (outcome.Ended e)) = IsSpelledEnd e
IsSpelled other = ⊥

-- the status, and what is written behind the announcement
abbrev pub IsReported : Course → Status → List ℕ → Type 0
IsReported reached end text = ((end ≡ status_of reached) × (text ≡ text_of reached)) ⊎ (IsSpelled reached × (end ≡ status.OutOfMemory) × (text ≡ line out_of_memory_text))

-- what was written of the announcement by then: all of it, or where that failed a proper front part
unfoldable pub IsAnnounced : Role → Course → Observation → Observation → Type 0
IsAnnounced r course.Unannounced old new = HasRisen old.faults new.faults × HasWrittenPart old.bytes new.bytes (announcement r course.Unannounced)
IsAnnounced r reached old new = Appends old.bytes new.bytes (announcement r reached) × (new.faults ≡ old.faults)

-- ---- what is left of the wire and of the shelf

-- the pool was loaded from its file by reads of it
pub record IsLoadedPool (x : Exchange) (old new : ToldShelf) (pool : List Transaction) : Type 0 where
  pub loaded : IsLoaded (Ok pool) old x.pool
  pub reads : AreTold old new (AreReads x.pool)

-- a link was made by these calls, of which nothing was used yet
abbrev pub IsLinkedBy : List Call → Link → Link → Type 0
IsLinkedBy calls old new = new ≡ new_link (old.calls ++ calls) new.coming

-- the pool wasn't loaded. The wire is as it was
pub record IsUnloaded (x : Exchange) (stop : PoolStop) (w v : WireSight) (s t : ToldShelf) : Type 0 where
  pub cause : IsLoaded (Err stop) s x.pool
  pub reads : AreTold s t (AreReads x.pool)
  pub wire : v ≡ w

-- no link was made: this is what the calls did to the one that there was. The shelf is as it was
pub record IsUnlinked (Called : Link → Link → Type 0) (w v : WireSight) (s t : ToldShelf) : Type 0 where
  pub link : AreTold w.link v.link Called
  pub input : v.ended ≡ w.ended
  pub shelf : t ≡ s

-- a session over a link is over
pub record IsOver (x : Exchange) (c : Config) (pool : List Transaction) (end : Outcome) (link : Option Link) (v : WireSight) (s t : ToldShelf) : Type 0 where
  pub run : HasRun (rounds_of x.role) c pool link v.link v.ended s t x.out end
  pub input : v.ended ≡ is_input_over x.role (answer_of end)
  pub busy : IsBusyIn x.role (answer_of end)

-- memory ran out in a session over a link, or behind it
pub record IsStarved (x : Exchange) (c : Config) (pool : List Transaction) (link : Option Link) (v : WireSight) (s t : ToldShelf) : Type 0 where
  pub session : AreTold link v.link (IsReceivedInTime (rounds_of x.role) (session_start (opening_state c pool)))
  pub shelf : t ≡ s

-- with a loaded pool, over a link of which nothing was used yet
unfoldable pub HasSessionCourse : Course → Exchange → Config → List Transaction → Option Link → WireSight → ToldShelf → ToldShelf → Type 0
HasSessionCourse course.Starved x c pool link v s t = IsStarved x c pool link v s t
HasSessionCourse (course.Over end) x c pool link v s t = IsOver x c pool end link v s t
HasSessionCourse other x c pool link v s t = ⊥

-- with a loaded pool: a session over a link that was made, or why none was made
unfoldable pub HasLoadedCourse : Course → Exchange → Config → List Transaction → WireSight → WireSight → ToldShelf → ToldShelf → Type 0
HasLoadedCourse course.Unlinked x c pool w v s t = IsUnlinked (IsFailedCall (first_call x.role x.address)) w v s t
HasLoadedCourse course.Unannounced x c pool w v s t = (x.role ≡ role.Accepter) × IsUnlinked (λ old new. new ≡ with_call (ListenCall x.address) old) w v s t
HasLoadedCourse course.Unaccepted x c pool w v s t = (x.role ≡ role.Accepter) × IsUnlinked (λ old new. IsFailedCall AcceptCall (with_call (ListenCall x.address) old) new) w v s t
HasLoadedCourse other x c pool w v s t = (link : Option Link) × AreTold w.link link (IsLinkedBy (link_calls x.role x.address)) × HasSessionCourse other x c pool link v s t

-- with a pool that was loaded, or why it wasn't
unfoldable pub HasCourse : Course → Exchange → Config → WireSight → WireSight → ToldShelf → ToldShelf → Type 0
HasCourse (course.Unloaded stop) x c w v s t = IsUnloaded x stop w v s t
HasCourse other x c w v s t = (pool : List Transaction) × (shelf : ToldShelf) × IsLoadedPool x s shelf pool × HasLoadedCourse other x c pool w v shelf t

-- the counts of faults rise exactly where a call failed, which the status tells
pub record HasCounts (end : Status) (w v : WireSight) (s t : ShelfSight) : Type 0 where
  pub link_fault : end ≡ status.LinkFault → HasRisen w.faults v.faults
  pub no_link_fault : end ≢ status.LinkFault → v.faults ≡ w.faults
  pub shelf_fault : end ≡ status.ShelfFault → HasRisen s.faults t.faults
  pub no_shelf_fault : end ≢ status.ShelfFault → t.faults ≡ s.faults
