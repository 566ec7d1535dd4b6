-- What an exchange answers and writes, with its cause.
use Rattle.std.specs.Prelude.{◌≡◌, ℕ, ◌≤◌, List, length, Some, Ok}
use Rattle.link_rules.specs.Shelves.{Shelf, content_of}
use Rattle.erlay_base.specs.ShelfCalls.{ToldShelf}
use Rattle.pool_rules.specs.PoolFile.{pool_in}
use Rattle.pool_rules.specs.Pools.{Transaction}
use Rattle.pool_rules.specs.declared.limits.TheConstants.{POOL_FILE_LIMIT}
use Rattle.pool_session.specs.Runs.{answer_of}
use Rattle.pool_session.specs.declared.outcome.Outcome.{Outcome}
use Rattle.text_commands.specs.Ends.{IsWritten}
use Rattle.text_commands.specs.Outside.{Observation}
use Rattle.text_commands.specs.declared.status.Status.{Status}
use Rattle.erlay_cli.specs.Courses.{HasCounts, HasCourse, IsAnnounced, IsReported, status_of, status_of_end}
use Rattle.erlay_cli.specs.Exchanges.{Exchange, config_of}
use Rattle.erlay_cli.specs.Sights.{ShelfSight, WireSight}
use Rattle.erlay_cli.specs.declared.chance.Chance.{Chance}
use Rattle.erlay_cli.specs.declared.course.Course.{Course}
use Rattle.erlay_cli.specs.declared.course.Course.TheVariants as course

-- how far it came, and what that left of the wire and the shelf; what was announced; and what was then written, or a front part
-- of it where that failed
pub record IsExchangeEnding (x : Exchange) (chance : Chance) (w v : WireSight) (s t : ShelfSight) (old new : Observation) (result : Status) : Type 0 where
  pub reached : Course
  pub course : HasCourse reached x (config_of x.role chance) w v s.told t.told
  pub counts : HasCounts (status_of reached) w v s t
  pub middle : Observation
  pub announced : IsAnnounced x.role reached old middle
  pub end : Status
  pub text : List ℕ
  pub reported : IsReported reached end text
  pub written : IsWritten end text middle new result

-- the shelf tells a sound pool file of that name, within the limit
pub record HasSoundFile (told : ToldShelf) (name : List ℕ) : Type 0 where
  pub shelf : Shelf
  pub tells : told ≡ Some shelf
  pub bytes : List ℕ
  pub content : content_of shelf name ≡ Some bytes
  pub within : length bytes ≤ POOL_FILE_LIMIT
  pub pool : List Transaction
  pub sound : pool_in bytes ≡ Ok pool

-- the status is that of the session, which is over
pub record IsSessionStatus (x : Exchange) (chance : Chance) (w v : WireSight) (s t : ShelfSight) (end : Status) : Type 0 where
  pub outcome : Outcome
  pub course : HasCourse (course.Over outcome) x (config_of x.role chance) w v s.told t.told
  pub status : end ≡ status_of_end (answer_of outcome)
