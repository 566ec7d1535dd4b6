-- A conversation by its parts, and the steps in which memory is refused.
use Rattle.std.proofs.Common.{◌≡◌, List, Result, Err, sym, subst}
use Rattle.pool_rules.specs.Snapshots.{Member}
use Rattle.node_rules.specs.State.{NodeState, NodeView}
use Rattle.node_rules.specs.Turns.{Turn}
use Rattle.node_rules.specs.declared.config.Config.{Config}
use Rattle.outbox.specs.Waiting.{Waiting}
use Rattle.relay_store.specs.Holdings.{Holdings}
use Rattle.conversation.specs.Handled.{IsStep}
use Rattle.conversation.specs.Views.{peer_of, state_of, view_of}
use Rattle.conversation.specs.declared.peer.Peer.{Peer}
use Rattle.conversation.specs.declared.stage.Stage.{Stage}
use Rattle.conversation.specs.declared.stop.Stop.{Stop}
use Rattle.conversation.specs.declared.stop.Stop.TheVariants as stop

-- what a conversation is kept as
pub record Parts : Type 0 where
  pub config : Config
  pub peer : Peer
  pub stage : Stage
  pub set : List Member
  pub store : Holdings
  pub outbox : Waiting

abbrev pub parts_of : Config → Peer → Stage → List Member → Holdings → Waiting → Parts
parts_of config peer stage set store outbox = record { config = config; peer = peer; stage = stage; set = set; store = store; outbox = outbox }

abbrev pub state_at : Parts → NodeState
state_at x = state_of x.config x.stage x.set x.store (peer_of x.peer)

abbrev pub view_at : Parts → NodeView
view_at x = view_of (state_at x) x.outbox.bytes

starved_at : (t : Turn) (x y : Parts) → y.config ≡ x.config → y.store.pool ≡ x.store.pool → y.outbox.bytes ≡ x.outbox.bytes → IsStep t (view_at x) (view_at y) (Err stop.OutOfMemory)
unfolding IsStep
starved_at t x y config pool outbox = record { config = config; pool = pool; outbox = outbox }

-- memory was refused: what a caller keeps is as it was
pub starved : (x y : Parts) (v : NodeView) (t : Turn) (told : Result Unit Stop) → view_at x ≡ v → y.config ≡ x.config → y.store.pool ≡ x.store.pool → y.outbox.bytes ≡ x.outbox.bytes → told ≡ Err stop.OutOfMemory → IsStep t v (view_at y) told
starved x y v t told view config pool outbox said = subst (λ r. IsStep t v (view_at y) r) (sym said) (subst (λ w. IsStep t w (view_at y) (Err stop.OutOfMemory)) view (starved_at t x y config pool outbox))
