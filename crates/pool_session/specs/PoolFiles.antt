-- What a load of a pool answers.
use Rattle.std.specs.Prelude.{◌≡◌, ⊤, ℕ, ◌≤◌, List, length, Ok, Err}
use Rattle.std.specs.declared.result.Result.{Result}
use Rattle.base_types.specs.declared.text.TextFault.{TextFault}
use Rattle.erlay_base.specs.ShelfCalls.{ToldShelf, HasContent, IsLonger}
use Rattle.pool_rules.specs.PoolFile.{pool_in}
use Rattle.pool_rules.specs.Pools.{Transaction}
use Rattle.pool_rules.specs.declared.limits.TheConstants.{POOL_FILE_LIMIT}
use Rattle.pool_session.specs.declared.loading.PoolStop.{PoolStop}
use Rattle.pool_session.specs.declared.loading.PoolStop.TheVariants as stop

-- the file of that name reads so: as a pool, or with a first fault. It has no more bytes than a pool file may have
pub record HasPoolFile (told : ToldShelf) (name : List ℕ) (read : Result (List Transaction) TextFault) : Type 0 where
  pub bytes : List ℕ
  pub content : HasContent told name bytes
  pub within : length bytes ≤ POOL_FILE_LIMIT
  pub reads : pool_in bytes ≡ read

abbrev pub IsLoaded : Result (List Transaction) PoolStop → ToldShelf → List ℕ → Type 0
IsLoaded (Ok pool) told name = HasPoolFile told name (Ok pool)
IsLoaded (Err (stop.Fault f)) told name = HasPoolFile told name (Err f)
IsLoaded (Err stop.TooLong) told name = IsLonger told name POOL_FILE_LIMIT
IsLoaded (Err stop.ShelfFault) told name = ⊤
IsLoaded (Err stop.OutOfMemory) told name = ⊤
