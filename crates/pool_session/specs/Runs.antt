-- What a session of a node leaves whose pool is saved where the session is done.
use Rattle.std.specs.Prelude.{◌≡◌, ◌≢◌, ℕ, Bool, false, List}
use Rattle.std.specs.declared.option.Option.{Option}
use Rattle.link_rules.specs.Links.{Link}
use Rattle.erlay_base.specs.ShelfCalls.{ToldShelf, IsKept, IsUnsaved}
use Rattle.erlay_base.specs.Told.{AreTold}
use Rattle.pool_rules.specs.PoolFile.{pool_text}
use Rattle.pool_rules.specs.Pools.{Transaction}
use Rattle.node_rules.specs.State.{NodeState, NodeView}
use Rattle.node_rules.specs.declared.config.Config.{Config}
use Rattle.protocol_text_rules.specs.Pairs.{session_text}
use Rattle.session_rules.specs.declared.session_end.SessionEnd.{SessionEnd}
use Rattle.session_rules.specs.declared.session_end.SessionEnd.TheVariants as session_end
use Rattle.session.specs.Sessions.{HasSession, end_in, new_node}
use Rattle.pool_session.specs.declared.outcome.Outcome.{Outcome}
use Rattle.pool_session.specs.declared.outcome.Outcome.TheVariants as outcome

-- the answer of its session
abbrev pub answer_of : Outcome → SessionEnd
answer_of (outcome.Saved text) = session_end.Done
answer_of outcome.Unsaved = session_end.Done
answer_of (outcome.Ended e) = e

-- what becomes of the pool: it is kept under a name, and the text is what is told of the session; it couldn't be kept; or no
-- call is made for it, since the session isn't done
abbrev pub IsPoolKept : List ℕ → NodeState → ToldShelf → ToldShelf → Outcome → Type 0
IsPoolKept out last old new (outcome.Saved text) = AreTold old new (IsKept out (pool_text last.pool)) × (text.items ≡ session_text last)
IsPoolKept out last old new outcome.Unsaved = AreTold old new (IsUnsaved out)
IsPoolKept out last old new (outcome.Ended e) = (new ≡ old) × (e ≢ session_end.Done) × (e ≢ session_end.OutOfMemory)

-- from a new node to a last one: its session, over the link that the wire tells, and its pool, on the shelf
pub record IsRunOf (rounds : ℕ) (first last : NodeView) (before after : Option Link) (is_over : Bool) (old new : ToldShelf) (out : List ℕ) (result : Outcome) : Type 0 where
  pub session : HasSession rounds first before after is_over last (answer_of result)
  pub ended : last.state.ended ≡ end_in (answer_of result)
  pub memory : last.out_of_memory ≡ false
  pub kept : IsPoolKept out last.state old new result

-- the same of a node that nobody sees
pub record HasRun (rounds : ℕ) (c : Config) (pool : List Transaction) (before after : Option Link) (is_over : Bool) (old new : ToldShelf) (out : List ℕ) (result : Outcome) : Type 0 where
  pub last : NodeView
  pub run : IsRunOf rounds (new_node c pool) last before after is_over old new out result
