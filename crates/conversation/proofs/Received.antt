-- What came, and what can't come.
use Rattle.std.proofs.Common.{◌≡◌, ℕ, not, true, List, filter, None, Ok, Err, IsTrue, sym, ap, ◌∙◌}
use Rattle.wire_rules.specs.declared.message.InvEntry.{InvEntry}
use Rattle.pool_rules.specs.Pools.{is_listed}
use Rattle.node_rules.specs.Invariant.{IsNode, is_phase_of}
use Rattle.node_rules.specs.Inventory.{on_notfound, on_tx, with_requests, wtxids_of}
use Rattle.node_rules.specs.Stages.{is_after_handshake}
use Rattle.node_rules.specs.State.{NodeState, NodeView}
use Rattle.node_rules.specs.Turns.{after_turn}
use Rattle.node_rules.specs.declared.end.End.TheVariants as end
use Rattle.invariant_laws.proofs.Conversing.{introduced}
use Rattle.relay_store.specs.Holdings.{Holdings, IsReceiptAt, holdings_of, with_asked}
use Rattle.relay_store.specs.declared.store.Receipt.TheVariants as receipt
use Rattle.conversation.specs.Handled.{IsStep}
use Rattle.conversation.specs.declared.stop.Stop.TheVariants as stop
use Rattle.conversation.proofs.Fetching.{after_asking}
use Rattle.conversation.proofs.Relaying.{quiet, refused, same_holding, taken, with_holdings}

-- behind the handshake the phase is of the role
pub phase_of_role : (s : NodeState) → IsNode s → is_after_handshake s.machine.phase ≡ true → IsTrue (is_phase_of s.config.role s.machine.phase)
phase_of_role s h past = (introduced s h.conversing past).phase

module _ (v new : NodeView) (h : Holdings) (unended : v.state.ended ≡ None) where
  pub forgotten : (es : List InvEntry) → h ≡ with_asked (holdings_of v.state) (filter (λ id. not (is_listed (wtxids_of es) id)) v.state.wants.asked)
      → new ≡ after_asking (with_holdings v h) → IsStep (on_notfound v.state es) v new (Ok tt)
  forgotten es is e =
      taken (on_notfound v.state es) v new
      (e ∙ ap (λ k. after_asking (with_holdings v k)) is ∙ sym (quiet v (with_requests v.state (filter (λ id. not (is_listed (wtxids_of es) id)) v.state.wants.asked))))
      unended

  pub unasked : (tx : List ℕ) → IsReceiptAt receipt.Unasked h v.state tx → IsStep (on_tx v.state tx) v (with_holdings v h) (Ok tt)
  unfolding IsReceiptAt
  unasked tx r =
      taken (on_tx v.state tx) v (with_holdings v h) (same_holding v h r.1 ∙ sym (ap (after_turn v) r.0 ∙ quiet v v.state)) (ap (λ t. t.state.ended) r.0 ∙ unended)

  pub full : (tx : List ℕ) → IsReceiptAt receipt.Full h v.state tx → IsStep (on_tx v.state tx) v (with_holdings v h) (Err (stop.Ended end.PoolFull))
  unfolding IsReceiptAt
  full tx r = refused (on_tx v.state tx) v (with_holdings v h) end.PoolFull (same_holding v h r.1) r.0

  pub received : (tx : List ℕ) → IsReceiptAt receipt.Taken h v.state tx → new ≡ after_asking (with_holdings v h) → IsStep (on_tx v.state tx) v new (Ok tt)
  unfolding IsReceiptAt
  received tx r e =
      taken (on_tx v.state tx) v new
      (e ∙ ap (λ k. after_asking (with_holdings v k)) r.1 ∙ sym (ap (after_turn v) r.0 ∙ quiet v (with_requests (record v.state { pool = h.pool }) h.wants.asked)))
      (ap (λ t. t.state.ended) r.0 ∙ unended)
