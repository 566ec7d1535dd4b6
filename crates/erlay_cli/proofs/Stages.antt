-- How far an exchange came, from its session to its whole course.
use Rattle.std.proofs.Common.{◌≡◌, ℕ, List, [], refl, sym, ap, ◌∙◌, subst, Err}
use Rattle.std.proofs.KnownBytes.{Appends-nil}
use Rattle.std.specs.Io.KnownBytes.{Appends}
use Rattle.std.specs.declared.option.Option.{Option}
use Rattle.link_rules.specs.Links.{Link}
use Rattle.erlay_base.specs.Causes.{HasRisen}
use Rattle.erlay_base.specs.Moves.{HasWrittenPart}
use Rattle.erlay_base.specs.ShelfCalls.{ToldShelf, AreReads}
use Rattle.erlay_base.specs.Told.{AreTold}
use Rattle.pool_rules.specs.Pools.{Transaction}
use Rattle.node_rules.specs.State.{opening_state}
use Rattle.node_rules.specs.declared.config.Config.{Config}
use Rattle.node_rules.specs.declared.config.Role.{Role}
use Rattle.session_rules.specs.Session.{session_start}
use Rattle.session.specs.Sessions.{IsBusyIn, IsReceivedInTime, is_input_over}
use Rattle.pool_session.specs.PoolFiles.{IsLoaded}
use Rattle.pool_session.specs.Runs.{HasRun, answer_of}
use Rattle.pool_session.specs.declared.loading.PoolStop.{PoolStop}
use Rattle.pool_session.specs.declared.outcome.Outcome.{Outcome}
use Rattle.text_commands.specs.Outside.{Observation}
use Rattle.erlay_cli.specs.Courses.{HasCourse, HasLoadedCourse, HasSessionCourse, IsAnnounced, IsLinkedBy, IsLoadedPool, announcement_of}
use Rattle.erlay_cli.specs.Exchanges.{Exchange, config_of, link_calls, rounds_of}
use Rattle.erlay_cli.specs.Links.{IsNotAccepted, IsNotAnnounced, IsNotReached}
use Rattle.erlay_cli.specs.Sights.{WireSight}
use Rattle.erlay_cli.specs.declared.chance.Chance.{Chance}
use Rattle.erlay_cli.specs.declared.course.Course.{Course}
use Rattle.erlay_cli.specs.declared.course.Course.TheVariants as course

-- a session over a link that was made
pub loaded_course : (reached : Course) (x : Exchange) (c : Config) (pool : List Transaction) (link : Option Link) (w v : WireSight) (s t : ToldShelf)
    → AreTold w.link link (IsLinkedBy (link_calls x.role x.address)) → HasSessionCourse reached x c pool link v s t → HasLoadedCourse reached x c pool w v s t
unfolding HasSessionCourse HasLoadedCourse
loaded_course course.Starved x c pool link w v s t linked session = (link, linked, session)
loaded_course (course.Over end) x c pool link w v s t linked session = (link, linked, session)
loaded_course (course.Unloaded stop) x c pool link w v s t linked session = absurd session
loaded_course course.Unlinked x c pool link w v s t linked session = absurd session
loaded_course course.Unannounced x c pool link w v s t linked session = absurd session
loaded_course course.Unaccepted x c pool link w v s t linked session = absurd session

-- with a pool that was loaded
pub whole_course : (reached : Course) (x : Exchange) (c : Config) (pool : List Transaction) (w v : WireSight) (s shelf t : ToldShelf)
    → IsLoadedPool x s shelf pool → HasLoadedCourse reached x c pool w v shelf t → HasCourse reached x c w v s t
unfolding HasSessionCourse HasLoadedCourse HasCourse
whole_course course.Starved x c pool w v s shelf t loaded rest = (pool, shelf, loaded, rest)
whole_course (course.Over end) x c pool w v s shelf t loaded rest = (pool, shelf, loaded, rest)
whole_course course.Unlinked x c pool w v s shelf t loaded rest = (pool, shelf, loaded, rest)
whole_course course.Unannounced x c pool w v s shelf t loaded rest = (pool, shelf, loaded, rest)
whole_course course.Unaccepted x c pool w v s shelf t loaded rest = (pool, shelf, loaded, rest)
whole_course (course.Unloaded stop) x c pool w v s shelf t loaded (link, linked, session) = absurd session

config_role : (r : Role) (chance : Chance) → (config_of r chance).role ≡ r
unfolding config_of
config_role r chance = refl

module _ (x : Exchange) (chance : Chance) (pool : List Transaction) (link : Option Link) (v : WireSight) (s t : ToldShelf) (c : Config) (rounds : ℕ)
    (configured : c ≡ config_of x.role chance) (counted : rounds ≡ rounds_of x.role) where
  same_role : c.role ≡ x.role
  same_role = ap (λ (d : Config). d.role) configured ∙ config_role x.role chance

  -- a session that is over
  pub over_course : (end : Outcome) → HasRun rounds c pool link v.link v.ended s t x.out end → v.ended ≡ is_input_over c.role (answer_of end) → IsBusyIn c.role (answer_of end)
      → HasSessionCourse (course.Over end) x (config_of x.role chance) pool link v s t
  unfolding HasSessionCourse
  over_course end run input busy = record {
    run = subst (λ (d : Config). HasRun (rounds_of x.role) d pool link v.link v.ended s t x.out end) configured (subst (λ (n : ℕ). HasRun n c pool link v.link v.ended s t x.out end) counted run);
    input = input ∙ ap (λ (r : Role). is_input_over r (answer_of end)) same_role;
    busy = subst (λ (r : Role). IsBusyIn r (answer_of end)) same_role busy;
  }

  -- a session in which memory ran out, or behind which it did
  pub starved_course : AreTold link v.link (IsReceivedInTime rounds (session_start (opening_state c pool))) → t ≡ s
      → HasSessionCourse course.Starved x (config_of x.role chance) pool link v s t
  unfolding HasSessionCourse
  starved_course session shelf = record {
    session = subst (λ (d : Config). AreTold link v.link (IsReceivedInTime (rounds_of x.role) (session_start (opening_state d pool)))) configured
        (subst (λ (n : ℕ). AreTold link v.link (IsReceivedInTime n (session_start (opening_state c pool)))) counted session);
    shelf = shelf;
  }

-- ---- where no session was

pub unloaded_course : (x : Exchange) (c : Config) (stop : PoolStop) (w : WireSight) (s t : ToldShelf) → IsLoaded (Err stop) s x.pool × AreTold s t (AreReads x.pool)
    → HasCourse (course.Unloaded stop) x c w w s t
unfolding HasCourse
unloaded_course x c stop w s t read = record { cause = read.0; reads = read.1; wire = refl }

module _ (x : Exchange) (c : Config) (pool : List Transaction) (w v : WireSight) (s : ToldShelf) (o p : Observation) (input : v.ended ≡ w.ended) where
  pub unlinked_course : IsNotReached x.role x.address w v o p → HasLoadedCourse course.Unlinked x c pool w v s s
  unfolding HasLoadedCourse
  unlinked_course h = record { link = h.link; input = input; shelf = refl }

  pub unannounced_course : IsNotAnnounced x.role x.address w v o p → HasLoadedCourse course.Unannounced x c pool w v s s
  unfolding HasLoadedCourse
  unannounced_course h = (h.accepter, record { link = h.link; input = input; shelf = refl })

  pub unaccepted_course : IsNotAccepted x.role x.address w v o p → HasLoadedCourse course.Unaccepted x c pool w v s s
  unfolding HasLoadedCourse
  unaccepted_course h = (h.accepter, record { link = h.link; input = input; shelf = refl })

-- ---- what was announced

nothing_written : (r : Role) (o : Observation) → Appends o.bytes o.bytes [] × (o.faults ≡ o.faults)
nothing_written r o = (Appends-nil o.bytes, refl)

pub unloaded_announced : (r : Role) (stop : PoolStop) (o : Observation) → IsAnnounced r (course.Unloaded stop) o o
unfolding IsAnnounced
unloaded_announced r stop o = nothing_written r o

pub unlinked_announced : (r : Role) (o p : Observation) → p ≡ o → IsAnnounced r course.Unlinked o p
unfolding IsAnnounced
unlinked_announced r o p same = subst (λ (q : Observation). Appends o.bytes q.bytes [] × (q.faults ≡ o.faults)) (sym same) (nothing_written r o)

pub unannounced : (r : Role) (o p : Observation) → HasRisen o.faults p.faults → HasWrittenPart o.bytes p.bytes (announcement_of r) → IsAnnounced r course.Unannounced o p
unfolding IsAnnounced
unannounced r o p rose part = (rose, part)

pub unaccepted_announced : (r : Role) (o p : Observation) → Appends o.bytes p.bytes (announcement_of r) → p.faults ≡ o.faults → IsAnnounced r course.Unaccepted o p
unfolding IsAnnounced
unaccepted_announced r o p written quiet = (written, quiet)

pub session_announced : (reached : Course) (x : Exchange) (c : Config) (pool : List Transaction) (link : Option Link) (v : WireSight) (s t : ToldShelf) (r : Role) (o p : Observation)
    → HasSessionCourse reached x c pool link v s t → Appends o.bytes p.bytes (announcement_of r) → p.faults ≡ o.faults → IsAnnounced r reached o p
unfolding HasSessionCourse IsAnnounced
session_announced course.Starved x c pool link v s t r o p session written quiet = (written, quiet)
session_announced (course.Over end) x c pool link v s t r o p session written quiet = (written, quiet)
session_announced (course.Unloaded stop) x c pool link v s t r o p session written quiet = absurd session
session_announced course.Unlinked x c pool link v s t r o p session written quiet = absurd session
session_announced course.Unannounced x c pool link v s t r o p session written quiet = absurd session
session_announced course.Unaccepted x c pool link v s t r o p session written quiet = absurd session
