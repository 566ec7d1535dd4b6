use Rattle.std.proofs.Common.{[], ◌∷◌, ◌++◌, sym, ap, ◌∙◌}
use Rattle.pool_rules.specs.Pools.{without_id, transaction_of}
use Rattle.relay_store.specs.Holdings.{with_asked}
use Rattle.relay_store.proofs.Changes.{holdings}
use Rattle.relay_store.proofs.Receipts.{receipt_unasked, receipt_full, receipt_known, receipt_gained, seen_asked, seen_in_pool}
use Rattle.relay_store.proofs.store.Store.receive.Goals as goal

pub returns-then-not-contains-clause-ok : goal.returns-then-not-contains-clause-ok
returns-then-not-contains-clause-ok c = λ s has.
    receipt_unasked s c.args.tx.now c.args.self.now has (seen_asked _ c.args.self.now c.self.view_is c.wtxid-id.result c.args.tx.now c.wtxid-id.ensures c.contains.result c.contains.ensures ∙ c.if-not-contains.true)

pub returns-then-contains-clause-ok : goal.returns-then-contains-clause-ok
returns-then-contains-clause-ok c = λ s has.
    receipt_known s c.args.tx.now c.args.self.now has c.drop_asked.new.self (c.drop_asked.ensures ∙ ap (λ id. with_asked c.args.self.now (without_id c.args.self.now.wants.asked id)) c.wtxid-id.ensures)
    (seen_asked _ c.args.self.now c.self.view_is c.wtxid-id.result c.args.tx.now c.wtxid-id.ensures c.contains.result c.contains.ensures ∙ c.if-not-contains.false)
    (seen_in_pool _ c.args.self.now c.self.view_is c.wtxid-id.result c.args.tx.now c.wtxid-id.ensures c.contains-2.result c.contains-2.ensures ∙ c.if-contains.true)

pub returns-then-not-has_byte_room-clause-ok : goal.returns-then-not-has_byte_room-clause-ok
returns-then-not-has_byte_room-clause-ok c = λ s has.
    receipt_full s c.args.tx.now c.args.self.now has
    (seen_asked _ c.args.self.now c.self.view_is c.wtxid-id.result c.args.tx.now c.wtxid-id.ensures c.contains.result c.contains.ensures ∙ c.if-not-contains.false)
    (seen_in_pool _ c.args.self.now c.self.view_is c.wtxid-id.result c.args.tx.now c.wtxid-id.ensures c.contains-2.result c.contains-2.ensures ∙ c.if-contains.false)
    (sym c.has_byte_room.ensures ∙ c.if-not-has_byte_room.true)

pub returns-clause-ok : goal.returns-clause-ok
returns-clause-ok c = λ s has.
    receipt_gained s c.args.tx.now c.args.self.now has c.gain.new.self
    (c.in_ok-gain.ensures.ok ∙ ap (λ id. holdings (c.args.self.now.pool ++ transaction_of c.args.tx.now ∷ []) c.args.self.now.wants.wanted (without_id c.args.self.now.wants.asked id) c.args.self.now.wants.served) c.wtxid-id.ensures)
    (seen_asked _ c.args.self.now c.self.view_is c.wtxid-id.result c.args.tx.now c.wtxid-id.ensures c.contains.result c.contains.ensures ∙ c.if-not-contains.false)
    (seen_in_pool _ c.args.self.now c.self.view_is c.wtxid-id.result c.args.tx.now c.wtxid-id.ensures c.contains-2.result c.contains-2.ensures ∙ c.if-contains.false)
    (sym c.has_byte_room.ensures ∙ c.if-not-has_byte_room.false)
