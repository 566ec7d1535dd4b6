-- What the status of an exchange tells of how far it came.
use Rattle.std.proofs.Common.{◌≡◌, ◌≢◌, ◌⊎◌, inl, inr, ℕ, ◌<◌, true, List, [], length, refl, sym, ◌∙◌, subst, arith, Some, MatchOption, Err}
use Rattle.std.specs.declared.option.Option.{Option}
use Rattle.link_rules.specs.Shelves.{content_of}
use Rattle.erlay_base.specs.Causes.{HasRisen}
use Rattle.erlay_base.specs.ShelfCalls.{ToldShelf, HasContent, IsLonger}
use Rattle.pool_rules.specs.declared.limits.TheConstants.{POOL_FILE_LIMIT}
use Rattle.base_types.specs.declared.text.TextFault.{TextFault}
use Rattle.node_rules.specs.declared.config.Config.{Config}
use Rattle.node_rules.specs.declared.config.Role.{Role}
use Rattle.session_rules.specs.declared.session_end.SessionEnd.{SessionEnd}
use Rattle.session_rules.specs.declared.session_end.SessionEnd.TheVariants as session_end
use Rattle.session.specs.Sessions.{is_input_over}
use Rattle.pool_session.specs.PoolFiles.{IsLoaded}
use Rattle.pool_session.specs.declared.loading.PoolStop.{PoolStop}
use Rattle.pool_session.specs.declared.loading.PoolStop.TheVariants as pool_stop
use Rattle.pool_session.specs.declared.outcome.Outcome.{Outcome}
use Rattle.pool_session.specs.declared.outcome.Outcome.TheVariants as outcome
use Rattle.text_commands.specs.Ends.{IsWritten}
use Rattle.text_commands.specs.Outside.{Observation}
use Rattle.text_commands.specs.declared.status.Status.{Status}
use Rattle.text_commands.specs.declared.status.Status.TheVariants as status
use Rattle.erlay_cli.specs.Courses.{HasCounts, HasCourse, HasLoadedCourse, HasSessionCourse, IsAnnounced, IsReported, IsSpelled, status_of, status_of_end}
use Rattle.erlay_cli.specs.Exchanges.{Exchange, config_of}
use Rattle.erlay_cli.specs.Runs.{HasSoundFile, IsExchangeEnding, IsSessionStatus}
use Rattle.erlay_cli.specs.Sights.{ShelfSight, WireSight}
use Rattle.erlay_cli.specs.declared.chance.Chance.{Chance}
use Rattle.erlay_cli.specs.declared.course.Course.{Course}
use Rattle.erlay_cli.specs.declared.course.Course.TheVariants as course

-- where a text has to be spelled, no call of the outside has failed
abbrev IsQuiet : Status → Type 0
IsQuiet status.LinkFault = ⊥
IsQuiet status.ShelfFault = ⊥
IsQuiet status.WriteFault = ⊥
IsQuiet other = Unit {0}

spelled_quiet : (reached : Course) → IsSpelled reached → IsQuiet (status_of reached)
spelled_quiet (course.Unloaded (pool_stop.Fault f)) spelled = tt
spelled_quiet (course.Unloaded pool_stop.TooLong) spelled = absurd spelled
spelled_quiet (course.Unloaded pool_stop.ShelfFault) spelled = absurd spelled
spelled_quiet (course.Unloaded pool_stop.OutOfMemory) spelled = absurd spelled
spelled_quiet course.Unlinked spelled = absurd spelled
spelled_quiet course.Unannounced spelled = absurd spelled
spelled_quiet course.Unaccepted spelled = absurd spelled
spelled_quiet course.Starved spelled = absurd spelled
spelled_quiet (course.Over (outcome.Saved text)) spelled = absurd spelled
spelled_quiet (course.Over outcome.Unsaved) spelled = absurd spelled
spelled_quiet (course.Over (outcome.Ended session_end.Done)) spelled = absurd spelled
spelled_quiet (course.Over (outcome.Ended (session_end.Refused e))) spelled = tt
spelled_quiet (course.Over (outcome.Ended (session_end.Truncated p))) spelled = tt
spelled_quiet (course.Over (outcome.Ended session_end.LinkFault)) spelled = absurd spelled
spelled_quiet (course.Over (outcome.Ended session_end.SessionLimit)) spelled = absurd spelled
spelled_quiet (course.Over (outcome.Ended session_end.OutOfMemory)) spelled = absurd spelled

-- the counts by the status of what is written
reported_counts : (reached : Course) (end : Status) (text : List ℕ) (w v : WireSight) (s t : ShelfSight) → HasCounts (status_of reached) w v s t → IsReported reached end text
    → HasCounts end w v s t
reported_counts reached end text w v s t counts (inl same) = subst (λ (e : Status). HasCounts e w v s t) (sym same.0) counts
reported_counts reached end text w v s t counts (inr (spelled, starved, line)) =
    let quiet = spelled_quiet reached spelled in
    record {
      link_fault = λ same. cc (starved, same);
      no_link_fault = λ other. counts.no_link_fault (λ same. subst IsQuiet same quiet);
      shelf_fault = λ same. cc (starved, same);
      no_shelf_fault = λ other. counts.no_shelf_fault (λ same. subst IsQuiet same quiet);
    }

-- an exchange answers none of these
abbrev pub IsExchangeStatus : Status → Type 0
IsExchangeStatus status.Usage = ⊥
IsExchangeStatus status.NoSet = ⊥
IsExchangeStatus status.ReadFault = ⊥
IsExchangeStatus other = Unit {0}

end_status : (e : SessionEnd) → IsExchangeStatus (status_of_end e)
end_status session_end.Done = tt
end_status (session_end.Refused e) = tt
end_status (session_end.Truncated p) = tt
end_status session_end.LinkFault = tt
end_status session_end.SessionLimit = tt
end_status session_end.OutOfMemory = tt

course_status : (reached : Course) → IsExchangeStatus (status_of reached)
course_status (course.Unloaded (pool_stop.Fault f)) = tt
course_status (course.Unloaded pool_stop.TooLong) = tt
course_status (course.Unloaded pool_stop.ShelfFault) = tt
course_status (course.Unloaded pool_stop.OutOfMemory) = tt
course_status course.Unlinked = tt
course_status course.Unannounced = tt
course_status course.Unaccepted = tt
course_status course.Starved = tt
course_status (course.Over (outcome.Saved text)) = tt
course_status (course.Over outcome.Unsaved) = tt
course_status (course.Over (outcome.Ended e)) = end_status e

reported_status : (reached : Course) (end : Status) (text : List ℕ) → IsReported reached end text → IsExchangeStatus end
reported_status reached end text (inl same) = subst IsExchangeStatus (sym same.0) (course_status reached)
reported_status reached end text (inr (spelled, starved, line)) = subst IsExchangeStatus (sym starved) tt

-- ---- a session that was cut short

-- the input has ended where the status tells that a session was cut short
abbrev pub IsCut : Status → Type 0
IsCut (status.Truncated p) = Unit {0}
IsCut other = ⊥

ended_input : (reached : Course) (x : Exchange) (c : Config) (w v : WireSight) (s t : ToldShelf) → HasCourse reached x c w v s t → IsCut (status_of reached) → v.ended ≡ true
unfolding HasSessionCourse HasLoadedCourse HasCourse is_input_over
ended_input (course.Unloaded (pool_stop.Fault f)) x c w v s t has cut = absurd cut
ended_input (course.Unloaded pool_stop.TooLong) x c w v s t has cut = absurd cut
ended_input (course.Unloaded pool_stop.ShelfFault) x c w v s t has cut = absurd cut
ended_input (course.Unloaded pool_stop.OutOfMemory) x c w v s t has cut = absurd cut
ended_input course.Unlinked x c w v s t has cut = absurd cut
ended_input course.Unannounced x c w v s t has cut = absurd cut
ended_input course.Unaccepted x c w v s t has cut = absurd cut
ended_input course.Starved x c w v s t has cut = absurd cut
ended_input (course.Over (outcome.Saved text)) x c w v s t has cut = absurd cut
ended_input (course.Over outcome.Unsaved) x c w v s t has cut = absurd cut
ended_input (course.Over (outcome.Ended session_end.Done)) x c w v s t has cut = absurd cut
ended_input (course.Over (outcome.Ended (session_end.Refused e))) x c w v s t has cut = absurd cut
ended_input (course.Over (outcome.Ended (session_end.Truncated p))) x c w v s t (pool, shelf, loaded, (link, linked, over)) cut = over.input
ended_input (course.Over (outcome.Ended session_end.LinkFault)) x c w v s t has cut = absurd cut
ended_input (course.Over (outcome.Ended session_end.SessionLimit)) x c w v s t has cut = absurd cut
ended_input (course.Over (outcome.Ended session_end.OutOfMemory)) x c w v s t has cut = absurd cut

reported_cut : (reached : Course) (end : Status) (text : List ℕ) → IsReported reached end text → IsCut end → IsCut (status_of reached)
reported_cut reached end text (inl same) cut = subst IsCut same.0 cut
reported_cut reached end text (inr (spelled, starved, line)) cut = absurd (subst IsCut starved cut)

-- ---- where no call of the outside failed and the pool file is sound

-- the file can't have a fault
no_fault : (told : ToldShelf) (name : List ℕ) (f : TextFault) → HasSoundFile told name → IsLoaded (Err (pool_stop.Fault f)) told name → ⊥
no_fault told name f sound loaded =
    let content : content_of sound.shelf name ≡ Some loaded.bytes = subst (λ (t : ToldShelf). HasContent t name loaded.bytes) sound.tells loaded.content in
    cc (content, sound.content, sound.sound, loaded.reads)

-- nor be too long
no_length : (told : ToldShelf) (name : List ℕ) → HasSoundFile told name → IsLoaded (Err pool_stop.TooLong) told name → ⊥
no_length told name sound longer =
    let at : IsLonger (Some sound.shelf) name POOL_FILE_LIMIT = subst (λ (t : ToldShelf). IsLonger t name POOL_FILE_LIMIT) sound.tells longer in
    let more : POOL_FILE_LIMIT < length sound.bytes = subst (λ (o : Option (List ℕ)). MatchOption o ⊥ (λ content. POOL_FILE_LIMIT < length content)) sound.content at in
    omega (arith, more, sound.within)

module _ (x : Exchange) (chance : Chance) (w v : WireSight) (s t : ShelfSight) (sound : HasSoundFile s.told x.pool)
    (no_link : ¬ HasRisen w.faults v.faults) (no_shelf : ¬ HasRisen s.faults t.faults) where
  unloaded : (stop : PoolStop) (end : Status) → HasCourse (course.Unloaded stop) x (config_of x.role chance) w v s.told t.told → HasCounts (status_of (course.Unloaded stop)) w v s t
      → end ≡ status_of (course.Unloaded stop) → IsSessionStatus x chance w v s t end ⊎ (end ≡ status.OutOfMemory)
  unfolding HasCourse
  unloaded (pool_stop.Fault f) end has counts same = absurd (no_fault s.told x.pool f sound has.cause)
  unloaded pool_stop.TooLong end has counts same = absurd (no_length s.told x.pool sound has.cause)
  unloaded pool_stop.ShelfFault end has counts same = absurd (no_shelf (counts.shelf_fault refl))
  unloaded pool_stop.OutOfMemory end has counts same = inr same

  over : (o : Outcome) (end : Status) → HasCourse (course.Over o) x (config_of x.role chance) w v s.told t.told → HasCounts (status_of (course.Over o)) w v s t
      → end ≡ status_of (course.Over o) → IsSessionStatus x chance w v s t end ⊎ (end ≡ status.OutOfMemory)
  over (outcome.Saved text) end has counts same = inl (record { outcome = outcome.Saved text; course = has; status = same })
  over outcome.Unsaved end has counts same = absurd (no_shelf (counts.shelf_fault refl))
  over (outcome.Ended e) end has counts same = inl (record { outcome = outcome.Ended e; course = has; status = same })

  by_course : (reached : Course) (end : Status) → HasCourse reached x (config_of x.role chance) w v s.told t.told → HasCounts (status_of reached) w v s t
      → end ≡ status_of reached → end ≢ status.WriteFault → IsSessionStatus x chance w v s t end ⊎ (end ≡ status.OutOfMemory)
  by_course (course.Unloaded stop) end has counts same other = unloaded stop end has counts same
  by_course course.Unlinked end has counts same other = absurd (no_link (counts.link_fault refl))
  by_course course.Unannounced end has counts same other = absurd (other same)
  by_course course.Unaccepted end has counts same other = absurd (no_link (counts.link_fault refl))
  by_course course.Starved end has counts same other = inr same
  by_course (course.Over o) end has counts same other = over o end has counts same

  -- the status is that of the session, or memory ran out
  session_status : (reached : Course) (end : Status) (text : List ℕ) → HasCourse reached x (config_of x.role chance) w v s.told t.told → HasCounts (status_of reached) w v s t
      → IsReported reached end text → end ≢ status.WriteFault → IsSessionStatus x chance w v s t end ⊎ (end ≡ status.OutOfMemory)
  session_status reached end text has counts (inl same) other = by_course reached end has counts same.0 other
  session_status reached end text has counts (inr (spelled, starved, line)) other = inr starved

-- ---- how an exchange ends

-- a status that isn't that of a failed write is that of what was written
written_status : (end : Status) (text : List ℕ) (m p : Observation) (result : Status) → IsWritten end text m p result → result ≢ status.WriteFault
    → (result ≡ end) × (p.faults ≡ m.faults)
written_status end text m p result (inl (same, wrote, quiet)) other = (same, quiet)
written_status end text m p result (inr (same, rose, part)) other = absurd (other same)

abbrev IsNoWriteFault : Status → Type 0
IsNoWriteFault status.WriteFault = ⊥
IsNoWriteFault other = Unit {0}

end_writes : (e : SessionEnd) → IsNoWriteFault (status_of_end e)
end_writes session_end.Done = tt
end_writes (session_end.Refused e) = tt
end_writes (session_end.Truncated p) = tt
end_writes session_end.LinkFault = tt
end_writes session_end.SessionLimit = tt
end_writes session_end.OutOfMemory = tt

reported_writes : (reached : Course) (end : Status) (text : List ℕ) → IsReported reached end text → IsNoWriteFault (status_of reached) → IsNoWriteFault end
reported_writes reached end text (inl same) writes = subst IsNoWriteFault (sym same.0) writes
reported_writes reached end text (inr (spelled, starved, line)) writes = subst IsNoWriteFault (sym starved) tt

-- the output's count of faults rose exactly where a failed write is told
pub record HasOutputCount (o p : Observation) (result : Status) : Type 0 where
  pub fault : result ≡ status.WriteFault → HasRisen o.faults p.faults
  pub no_fault : result ≢ status.WriteFault → p.faults ≡ o.faults

-- behind an announcement that was written
behind : (o m p : Observation) (end result : Status) (text : List ℕ) → m.faults ≡ o.faults → IsNoWriteFault end → IsWritten end text m p result → HasOutputCount o p result
behind o m p end result text quiet writes (inl (same, wrote, still)) =
    record { fault = λ fault. absurd (subst IsNoWriteFault (sym same ∙ fault) writes); no_fault = λ other. still ∙ quiet }
behind o m p end result text quiet writes (inr (same, rose, part)) =
    record { fault = λ fault. subst (λ (n : ℕ). HasRisen n p.faults) quiet rose; no_fault = λ other. absurd (other same) }

-- behind one that failed nothing is written
behind_none : (o m p : Observation) (end result : Status) (text : List ℕ) → HasRisen o.faults m.faults → end ≡ status.WriteFault → text ≡ [] → IsWritten end text m p result
    → HasOutputCount o p result
behind_none o m p end result text rose fault none (inl (same, wrote, still)) =
    record { fault = λ _. subst (λ (n : ℕ). HasRisen o.faults n) (sym still) rose; no_fault = λ other. absurd (other (same ∙ fault)) }
behind_none o m p end result text rose fault none (inr (same, again, (n, below, part))) =
    absurd (omega (arith, subst (λ (bytes : List ℕ). n < length bytes) none below))

output_count : (r : Role) (reached : Course) (o m p : Observation) (end result : Status) (text : List ℕ) → IsAnnounced r reached o m → IsReported reached end text
    → IsWritten end text m p result → HasOutputCount o p result
unfolding IsAnnounced
output_count r course.Unannounced o m p end result text announced (inl same) written = behind_none o m p end result text announced.0 same.0 same.1 written
output_count r course.Unannounced o m p end result text announced (inr starved) written = absurd starved.0
output_count r (course.Unloaded (pool_stop.Fault f)) o m p end result text announced reported written = behind o m p end result text announced.1 (reported_writes (course.Unloaded (pool_stop.Fault f)) end text reported tt) written
output_count r (course.Unloaded pool_stop.TooLong) o m p end result text announced reported written = behind o m p end result text announced.1 (reported_writes (course.Unloaded pool_stop.TooLong) end text reported tt) written
output_count r (course.Unloaded pool_stop.ShelfFault) o m p end result text announced reported written = behind o m p end result text announced.1 (reported_writes (course.Unloaded pool_stop.ShelfFault) end text reported tt) written
output_count r (course.Unloaded pool_stop.OutOfMemory) o m p end result text announced reported written = behind o m p end result text announced.1 (reported_writes (course.Unloaded pool_stop.OutOfMemory) end text reported tt) written
output_count r course.Unlinked o m p end result text announced reported written = behind o m p end result text announced.1 (reported_writes course.Unlinked end text reported tt) written
output_count r course.Unaccepted o m p end result text announced reported written = behind o m p end result text announced.1 (reported_writes course.Unaccepted end text reported tt) written
output_count r course.Starved o m p end result text announced reported written = behind o m p end result text announced.1 (reported_writes course.Starved end text reported tt) written
output_count r (course.Over (outcome.Saved told)) o m p end result text announced reported written = behind o m p end result text announced.1 (reported_writes (course.Over (outcome.Saved told)) end text reported tt) written
output_count r (course.Over outcome.Unsaved) o m p end result text announced reported written = behind o m p end result text announced.1 (reported_writes (course.Over outcome.Unsaved) end text reported tt) written
output_count r (course.Over (outcome.Ended e)) o m p end result text announced reported written = behind o m p end result text announced.1 (reported_writes (course.Over (outcome.Ended e)) end text reported (end_writes e)) written

pub ended_output : (x : Exchange) (chance : Chance) (w v : WireSight) (s t : ShelfSight) (o p : Observation) (result : Status) → IsExchangeEnding x chance w v s t o p result
    → HasOutputCount o p result
ended_output x chance w v s t o p result ended =
    output_count x.role ended.reached o ended.middle p ended.end result ended.text ended.announced ended.reported ended.written

module _ (x : Exchange) (chance : Chance) (w v : WireSight) (s t : ShelfSight) (o p : Observation) (result : Status)
    (ended : IsExchangeEnding x chance w v s t o p result) (other : result ≢ status.WriteFault) where
  same_status : result ≡ ended.end
  same_status = (written_status ended.end ended.text ended.middle p result ended.written other).0

  reported : IsReported ended.reached result ended.text
  reported = subst (λ (e : Status). IsReported ended.reached e ended.text) (sym same_status) ended.reported

  pub ended_counts : HasCounts result w v s t
  ended_counts = reported_counts ended.reached result ended.text w v s t ended.counts reported

  pub ended_status : IsExchangeStatus result
  ended_status = reported_status ended.reached result ended.text reported

  pub ended_cut : IsCut result → v.ended ≡ true
  ended_cut cut = ended_input ended.reached x (config_of x.role chance) w v s.told t.told ended.course (reported_cut ended.reached result ended.text reported cut)

  pub ended_sound : HasSoundFile s.told x.pool → ¬ HasRisen w.faults v.faults → ¬ HasRisen s.faults t.faults → IsSessionStatus x chance w v s t result ⊎ (result ≡ status.OutOfMemory)
  ended_sound sound no_link no_shelf = session_status x chance w v s t sound no_link no_shelf ended.reached result ended.text ended.course ended.counts reported other
