-- What becomes of a transaction that came.
use Rattle.std.proofs.Common.{◌≡◌, ℕ, Bool, true, false, List, [], ◌∷◌, ◌++◌, refl, sym, ap, ◌∙◌, subst}
use Rattle.base_types.specs.declared.lists.Hash32.{Hash32}
use Rattle.id_rules.specs.Ids.{wtxid}
use Rattle.pool_rules.specs.Pools.{is_listed, is_in_pool, has_byte_room, transaction_of, without_id}
use Rattle.node_rules.specs.Inventory.{transaction_by, on_tx, with_requests}
use Rattle.node_rules.specs.State.{NodeState}
use Rattle.node_rules.specs.Turns.{unchanged, refusal}
use Rattle.node_rules.specs.declared.end.End.TheVariants as end
use Rattle.relay_store.specs.Holdings.{Holdings, holdings_of, with_asked, IsReceiptAt}
use Rattle.relay_store.specs.declared.store.Receipt.TheVariants as receipt

module _ (s : NodeState) (tx : List ℕ) where
  on_unasked : is_listed s.wants.asked (wtxid tx) ≡ false → on_tx s tx ≡ unchanged s
  unfolding transaction_by
  on_unasked out = ap (λ b. transaction_by b (is_in_pool s.pool (wtxid tx)) (has_byte_room s.pool tx) s (transaction_of tx)) out

  module _ (asked : is_listed s.wants.asked (wtxid tx) ≡ true) where
    on_known : is_in_pool s.pool (wtxid tx) ≡ true → on_tx s tx ≡ unchanged (with_requests s (without_id s.wants.asked (wtxid tx)))
    unfolding transaction_by
    on_known there =
        ap (λ b. transaction_by b (is_in_pool s.pool (wtxid tx)) (has_byte_room s.pool tx) s (transaction_of tx)) asked
        ∙ ap (λ b. transaction_by true b (has_byte_room s.pool tx) s (transaction_of tx)) there

    on_absent : is_in_pool s.pool (wtxid tx) ≡ false → on_tx s tx ≡ transaction_by true false (has_byte_room s.pool tx) s (transaction_of tx)
    on_absent absent =
        ap (λ b. transaction_by b (is_in_pool s.pool (wtxid tx)) (has_byte_room s.pool tx) s (transaction_of tx)) asked
        ∙ ap (λ b. transaction_by true b (has_byte_room s.pool tx) s (transaction_of tx)) absent

    on_full : is_in_pool s.pool (wtxid tx) ≡ false → has_byte_room s.pool tx ≡ false → on_tx s tx ≡ refusal s end.PoolFull
    unfolding transaction_by
    on_full absent full = on_absent absent ∙ ap (λ b. transaction_by true false b s (transaction_of tx)) full

    on_gained : is_in_pool s.pool (wtxid tx) ≡ false → has_byte_room s.pool tx ≡ true
        → on_tx s tx ≡ unchanged (with_requests (record s { pool = s.pool ++ transaction_of tx ∷ [] }) (without_id s.wants.asked (wtxid tx)))
    unfolding transaction_by
    on_gained absent fits = on_absent absent ∙ ap (λ b. transaction_by true false b s (transaction_of tx)) fits

  module _ (old : Holdings) (has : holdings_of s ≡ old) where
    pub receipt_unasked : is_listed old.wants.asked (wtxid tx) ≡ false → IsReceiptAt receipt.Unasked old s tx
    unfolding IsReceiptAt
    receipt_unasked out = (on_unasked (ap (λ h. is_listed h.wants.asked (wtxid tx)) has ∙ out), sym has)

    pub receipt_full : is_listed old.wants.asked (wtxid tx) ≡ true → is_in_pool old.pool (wtxid tx) ≡ false → has_byte_room old.pool tx ≡ false → IsReceiptAt receipt.Full old s tx
    unfolding IsReceiptAt
    receipt_full asked absent full = (
      on_full (ap (λ h. is_listed h.wants.asked (wtxid tx)) has ∙ asked) (ap (λ h. is_in_pool h.pool (wtxid tx)) has ∙ absent) (ap (λ h. has_byte_room h.pool tx) has ∙ full),
      sym has,
    )

    pub receipt_known : (new : Holdings) → new ≡ with_asked old (without_id old.wants.asked (wtxid tx)) → is_listed old.wants.asked (wtxid tx) ≡ true → is_in_pool old.pool (wtxid tx) ≡ true
        → IsReceiptAt receipt.Taken new s tx
    unfolding IsReceiptAt
    receipt_known new e asked there =
        subst (λ h. IsReceiptAt receipt.Taken h s tx) (sym (e ∙ ap (λ h. with_asked h (without_id h.wants.asked (wtxid tx))) (sym has)))
        (on_known (ap (λ h. is_listed h.wants.asked (wtxid tx)) has ∙ asked) (ap (λ h. is_in_pool h.pool (wtxid tx)) has ∙ there), refl)

    pub receipt_gained : (new : Holdings) → new ≡ record (with_asked old (without_id old.wants.asked (wtxid tx))) { pool = old.pool ++ transaction_of tx ∷ [] }
        → is_listed old.wants.asked (wtxid tx) ≡ true → is_in_pool old.pool (wtxid tx) ≡ false → has_byte_room old.pool tx ≡ true → IsReceiptAt receipt.Taken new s tx
    unfolding IsReceiptAt
    receipt_gained new e asked absent fits =
        subst (λ h. IsReceiptAt receipt.Taken h s tx)
        (sym (e ∙ ap (λ (h : Holdings). record (with_asked h (without_id h.wants.asked (wtxid tx))) { pool = h.pool ++ transaction_of tx ∷ [] }) (sym has)))
        (on_gained (ap (λ h. is_listed h.wants.asked (wtxid tx)) has ∙ asked) (ap (λ h. is_in_pool h.pool (wtxid tx)) has ∙ absent) (ap (λ h. has_byte_room h.pool tx) has ∙ fits), refl)

-- what a look-up in holdings as they are kept tells of them as a contract sees them
module _ (kept h : Holdings) (is : kept ≡ h) (id : Hash32) (tx : List ℕ) (named : id ≡ wtxid tx) (found : Bool) where
  pub seen_asked : found ≡ is_listed kept.wants.asked id → is_listed h.wants.asked (wtxid tx) ≡ found
  seen_asked e = ap (λ x. is_listed x.wants.asked (wtxid tx)) (sym is) ∙ ap (is_listed kept.wants.asked) (sym named) ∙ sym e

  pub seen_in_pool : found ≡ is_in_pool kept.pool id → is_in_pool h.pool (wtxid tx) ≡ found
  seen_in_pool e = ap (λ x. is_in_pool x.pool (wtxid tx)) (sym is) ∙ ap (is_in_pool kept.pool) (sym named) ∙ sym e
