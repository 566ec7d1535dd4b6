use Rattle.std.proofs.Common.{◌≡◌, ◌++◌, ◌∷◌, [], false, ◌+◌, length, sym, ap, ◌∙◌}
use Rattle.indexmap.proofs.CallerLemmas.{insert_entry-new}
use Rattle.pool_rules.specs.Pools.{is_in_pool, has_room, transaction_of}
use Rattle.tx_pool.specs.Views.{transactions_of}
use Rattle.tx_pool.proofs.Entries.{is_key, lookup-absent, transactions_of-more}
use Rattle.tx_pool.proofs.Putting.{sound-behind}
use Rattle.tx_pool.proofs.pool.Pool.append.Goals as goal

-- the transactions behind the insertion
pub returns-clause-grown : goal.returns-clause-grown
returns-clause-grown c =
    let old = c.self.inside.transactions in
    let absent : is_in_pool (transactions_of old.entries) c.args.id ≡ false = ap (λ pool. is_in_pool pool c.args.id) c.self.view_is ∙ c.requires.absent in
    let entries : c.insert.new.self.entries ≡ old.entries ++ (c.args.id, c.args.tx) ∷ [] = c.in_ok-insert.ensures.entries ∙ insert_entry-new is_key old c.args.id c.args.tx (lookup-absent old.entries c.args.id absent) in
    ap transactions_of entries ∙ transactions_of-more old.entries c.args.id c.args.tx c.requires.named ∙ ap (λ pool. pool ++ transaction_of c.args.tx ∷ []) c.self.view_is

pub invariant_of-self-2 : goal.invariant_of-self-2
invariant_of-self-2 c =
    let old = c.self.inside.transactions in
    let absent : is_in_pool (transactions_of old.entries) c.args.id ≡ false = ap (λ pool. is_in_pool pool c.args.id) c.self.view_is ∙ c.requires.absent in
    let entries : c.insert.new.self.entries ≡ old.entries ++ (c.args.id, c.args.tx) ∷ [] = c.in_ok-insert.ensures.entries ∙ insert_entry-new is_key old c.args.id c.args.tx (lookup-absent old.entries c.args.id absent) in
    let grown = ap transactions_of entries ∙ transactions_of-more old.entries c.args.id c.args.tx c.requires.named in
    let room = ap (λ pool. has_room pool c.args.tx) c.self.view_is ∙ c.requires.room in
    let sound = sound-behind (transactions_of old.entries) c.args.tx c.self.inside.bytes (transactions_of c.insert.new.self.entries) c.self.invariant grown c.requires.transaction (ap (is_in_pool (transactions_of old.entries)) (sym c.requires.named) ∙ absent) room in
    (sound.0, sound.1 ∙ ap (λ tx. c.self.inside.bytes + length tx) (sym c.as_slice.ensures))
