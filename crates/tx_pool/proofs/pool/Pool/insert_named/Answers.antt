use Rattle.std.proofs.Common.{sym, ap, ◌∙◌}
use Rattle.pool_rules.specs.Pools.{is_in_pool, has_room}
use Rattle.tx_pool.proofs.Putting.{insertion_of-present, insertion_of-full, insertion_of-new, outcome_of}
use Rattle.pool_rules.specs.declared.insertion.Inserted.TheVariants as inserted
use Rattle.tx_pool.proofs.pool.Pool.insert_named.Goals as goal

pub returns-then-contains-clause-pool : goal.returns-then-contains-clause-pool
returns-then-contains-clause-pool c =
    let there = ap (is_in_pool c.args.self.now) (sym c.requires.named) ∙ sym c.contains.ensures ∙ c.if-contains.true in
    sym (ap (λ i. i.pool) (insertion_of-present c.args.self.now c.args.tx there))

pub returns-then-contains-clause-inserted : goal.returns-then-contains-clause-inserted
returns-then-contains-clause-inserted c =
    let there = ap (is_in_pool c.args.self.now) (sym c.requires.named) ∙ sym c.contains.ensures ∙ c.if-contains.true in
    sym (ap (λ i. i.inserted) (insertion_of-present c.args.self.now c.args.tx there))

pub returns-then-not-has_room-clause-pool : goal.returns-then-not-has_room-clause-pool
returns-then-not-has_room-clause-pool c =
    let absent = ap (is_in_pool c.args.self.now) (sym c.requires.named) ∙ sym c.contains.ensures ∙ c.if-contains.false in
    let full = ap (has_room c.args.self.now) (sym c.as_slice.ensures) ∙ sym c.has_room.ensures.room ∙ c.if-not-has_room.true in
    sym (ap (λ i. i.pool) (insertion_of-full c.args.self.now c.args.tx absent full))

pub returns-then-not-has_room-clause-inserted : goal.returns-then-not-has_room-clause-inserted
returns-then-not-has_room-clause-inserted c =
    let absent = ap (is_in_pool c.args.self.now) (sym c.requires.named) ∙ sym c.contains.ensures ∙ c.if-contains.false in
    let full = ap (has_room c.args.self.now) (sym c.as_slice.ensures) ∙ sym c.has_room.ensures.room ∙ c.if-not-has_room.true in
    sym (ap (λ i. i.inserted) (insertion_of-full c.args.self.now c.args.tx absent full))

pub returns-clause-pool : goal.returns-clause-pool
returns-clause-pool c =
    let absent = ap (is_in_pool c.args.self.now) (sym c.requires.named) ∙ sym c.contains.ensures ∙ c.if-contains.false in
    let room = ap (has_room c.args.self.now) (sym c.as_slice.ensures) ∙ sym c.has_room.ensures.room ∙ c.if-not-has_room.false in
    c.in_ok-append.ensures.grown ∙ sym (ap (λ i. i.pool) (insertion_of-new c.args.self.now c.args.tx absent room))

pub returns-clause-inserted : goal.returns-clause-inserted
returns-clause-inserted c =
    let absent = ap (is_in_pool c.args.self.now) (sym c.requires.named) ∙ sym c.contains.ensures ∙ c.if-contains.false in
    let room = ap (has_room c.args.self.now) (sym c.as_slice.ensures) ∙ sym c.has_room.ensures.room ∙ c.if-not-has_room.false in
    sym (ap (λ i. i.inserted) (insertion_of-new c.args.self.now c.args.tx absent room))

pub returns-then-contains-clause-outcome : goal.returns-then-contains-clause-outcome
returns-then-contains-clause-outcome c =
    outcome_of c.args.self.now c.args.tx inserted.Present c.args.self.now (returns-then-contains-clause-pool c) (returns-then-contains-clause-inserted c)

pub returns-then-not-has_room-clause-outcome : goal.returns-then-not-has_room-clause-outcome
returns-then-not-has_room-clause-outcome c =
    outcome_of c.args.self.now c.args.tx inserted.Full c.args.self.now (returns-then-not-has_room-clause-pool c) (returns-then-not-has_room-clause-inserted c)

pub returns-clause-outcome : goal.returns-clause-outcome
returns-clause-outcome c = outcome_of c.args.self.now c.args.tx inserted.New c.append.new.self (returns-clause-pool c) (returns-clause-inserted c)
