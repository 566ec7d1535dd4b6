-- What a node holds for its peer and wants from it.
use Rattle.std.specs.Prelude.{◌≡◌, ℕ, ◌&&◌, not, Bool, true, false, List, [], ◌∷◌, ◌++◌}
use Rattle.base_types.specs.declared.lists.Hash32.{Hash32}
use Rattle.wire_rules.specs.declared.message.InvEntry.{InvEntry}
use Rattle.pool_rules.specs.Pools.{Transaction, is_listed, is_in_pool}
use Rattle.node_rules.specs.Inventory.{is_tx_entry, on_tx, with_requests}
use Rattle.node_rules.specs.Invariant.{IsStore}
use Rattle.node_rules.specs.State.{NodeState, Wants}
use Rattle.node_rules.specs.Turns.{unchanged, refusal}
use Rattle.node_rules.specs.declared.end.End.TheVariants as end
use Rattle.relay_store.specs.declared.store.Receipt.{Receipt}
use Rattle.relay_store.specs.declared.store.Receipt.TheVariants as receipt

-- the pool, and what is wanted, asked for and served
pub record Holdings : Type 0 where
  pub pool : List Transaction
  pub wants : Wants

abbrev pub holdings_of : NodeState → Holdings
holdings_of s = record { pool = s.pool; wants = s.wants }

-- what a node may hold: no id is wanted or asked for twice, none that is wanted is in the pool, and there is room for all
abbrev pub AreHoldings : Holdings → Type 0
AreHoldings h = (s : NodeState) → holdings_of s ≡ h → IsStore s

abbrev pub with_wanted : Holdings → List Hash32 → Holdings
with_wanted h ids = record h { wants = record h.wants { wanted = ids } }

abbrev pub with_asked : Holdings → List Hash32 → Holdings
with_asked h ids = record h { wants = record h.wants { asked = ids } }

abbrev pub with_served : Holdings → List Hash32 → Holdings
with_served h ids = record h { wants = record h.wants { served = ids } }

-- whether an entry names a transaction of the pool that wasn't served
abbrev pub is_servable : Holdings → InvEntry → Bool
is_servable h e = is_tx_entry e && (not (is_listed h.wants.served e.id) && is_in_pool h.pool e.id)

unfoldable pub after_serving : Bool → Holdings → InvEntry → Holdings
after_serving true h e = with_served h (h.wants.served ++ e.id ∷ [])
after_serving false h e = h

-- what becomes of a transaction that came, at a node with these holdings
unfoldable pub IsReceiptAt : Receipt → Holdings → NodeState → List ℕ → Type 0
IsReceiptAt receipt.Unasked new s tx = (on_tx s tx ≡ unchanged s) × (new ≡ holdings_of s)
IsReceiptAt receipt.Full new s tx = (on_tx s tx ≡ refusal s end.PoolFull) × (new ≡ holdings_of s)
IsReceiptAt receipt.Taken new s tx = (on_tx s tx ≡ unchanged (with_requests (record s { pool = new.pool }) new.wants.asked))
    × (new ≡ record { pool = new.pool; wants = record s.wants { asked = new.wants.asked } })

abbrev pub IsReceipt : Receipt → Holdings → Holdings → List ℕ → Type 0
IsReceipt r old new tx = (s : NodeState) → holdings_of s ≡ old → IsReceiptAt r new s tx
