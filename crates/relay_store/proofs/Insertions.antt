-- A pool behind an insertion for which there is room.
use Rattle.std.proofs.Common.{◌≡◌, ℕ, true, false, List, [], ◌∷◌, ◌++◌, sym, ap, ◌∙◌}
use Rattle.base_types.specs.declared.lists.Hash32.{Hash32}
use Rattle.id_rules.specs.Ids.{wtxid}
use Rattle.pool_rules.specs.Pools.{insertion_of, is_in_pool, is_listed, has_byte_room, has_room, transaction_of}
use Rattle.node_rules.specs.Additions.{is_full}
use Rattle.node_rules.specs.State.{NodeState}
use Rattle.tx_pool.proofs.Putting.{insertion_of-new}
use Rattle.relay_store.specs.Holdings.{Holdings, AreHoldings, holdings_of}
use Rattle.relay_store.proofs.Rooms.{room_asked, room_addition}

-- holdings, as they are kept and as a contract sees them
module _ (kept h : Holdings) (is : kept ≡ h) (held : AreHoldings h) (id : Hash32) (tx : List ℕ) (named : id ≡ wtxid tx) (absent : is_in_pool h.pool id ≡ false) where
  absent_seen : is_in_pool h.pool (wtxid tx) ≡ false
  absent_seen = ap (is_in_pool h.pool) (sym named) ∙ absent

  pub absent_kept : is_in_pool kept.pool (wtxid tx) ≡ false
  absent_kept = ap (λ x. is_in_pool x.pool (wtxid tx)) is ∙ absent_seen

  behind_insertion : has_room h.pool tx ≡ true → (insertion_of kept.pool tx).pool ≡ kept.pool ++ transaction_of tx ∷ []
  behind_insertion room = ap (λ i. i.pool) (insertion_of-new kept.pool tx absent_kept (ap (λ x. has_room x.pool tx) is ∙ room))

  pub behind_gain : is_listed h.wants.asked id ≡ true → has_byte_room h.pool tx ≡ true → (insertion_of kept.pool tx).pool ≡ kept.pool ++ transaction_of tx ∷ []
  behind_gain asked fits = behind_insertion (room_asked h held (transaction_of tx) absent_seen (ap (is_listed h.wants.asked) (sym named) ∙ asked) fits)

  pub behind_addition : ((s : NodeState) → holdings_of s ≡ h → is_full s (transaction_of tx) ≡ false) → (insertion_of kept.pool tx).pool ≡ kept.pool ++ transaction_of tx ∷ []
  behind_addition room = behind_insertion (room_addition h held (transaction_of tx) absent_seen room)
