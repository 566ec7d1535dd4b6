-- Worked examples of announcements, requests, transactions and additions.
use Rattle.std.proofs.Common.{◌≡◌, replicate, drop, List, [], ◌∷◌, refl, true, Some}
use Rattle.std.specs.Prelude.{codes}
use Rattle.wire_rules.specs.declared.message.Message.TheVariants as message
use Rattle.wire_rules.proofs.Samples.{hello_id, abc_id, entry}
use Rattle.pool_rules.specs.Pools.{Transaction}
use Rattle.node_rules.specs.Additions.{on_addition}
use Rattle.node_rules.specs.State.{NodeState}
use Rattle.node_rules.specs.Steps.{on_message, on_messages}
use Rattle.node_rules.specs.declared.added.Added.TheVariants as added
use Rattle.node_rules.specs.declared.end.End.TheVariants as end
use Rattle.node_rules.proofs.Samples.{stepping, new_opener, new_accepter, hello, abc, introduced}

abbrev accepter_with : List Transaction → NodeState
accepter_with pool = (on_messages (new_accepter pool) (introduced 1)).state

abbrev opener_with : List Transaction → NodeState
opener_with pool = (on_messages (new_opener pool) (introduced 2)).state

-- what is asked for twice, or by another kind, can't be served
served_once : (on_message (accepter_with (hello ∷ [])) (message.GetData (entry 5 hello_id ∷ entry 5 hello_id ∷ entry 1 hello_id ∷ []))).out ≡ message.Tx (codes "hello") ∷ message.NotFound (entry 5 hello_id ∷ entry 1 hello_id ∷ []) ∷ []
unfolding stepping
served_once = refl

-- an accepter asks at once for what it lacks, each id once and of kind 5 alone
asks_once : (on_message (accepter_with []) (message.Inv (entry 1 abc_id ∷ entry 5 abc_id ∷ entry 5 abc_id ∷ []))).out ≡ message.GetData (entry 5 abc_id ∷ []) ∷ []
unfolding stepping
asks_once = refl

abbrev asking : NodeState
asking = (on_message (accepter_with []) (message.Inv (entry 5 abc_id ∷ []))).state

-- a transaction that wasn't asked for is passed over; one that was goes into the pool and not into the set
unasked_tx : on_message asking (message.Tx (codes "hello")) ≡ record { state = asking; out = [] }
unfolding stepping
unasked_tx = refl

asked_tx : (on_message asking (message.Tx (codes "abc"))).state ≡ record (accepter_with []) { pool = abc ∷ [] }
unfolding stepping
asked_tx = refl

-- what the peer can't send is asked for no more
not_found : (on_message asking (message.NotFound (entry 5 abc_id ∷ []))).state ≡ accepter_with []
unfolding stepping
not_found = refl

-- an opener wants it until its round is over, and an id that the pool has leaves the set
wants : (on_message (opener_with (hello ∷ [])) (message.Inv (entry 5 abc_id ∷ entry 5 hello_id ∷ []))).out ≡ []
unfolding stepping
wants = refl

abbrev wanting : NodeState
wanting = (on_message (opener_with (hello ∷ [])) (message.Inv (entry 5 abc_id ∷ entry 5 hello_id ∷ []))).state

wanted : wanting ≡ record (opener_with (hello ∷ [])) { set = []; wants = record { wanted = abc_id ∷ []; asked = []; served = [] } }
unfolding stepping
wanted = refl

-- an addition before the handshake goes to the pool alone, behind it into the set too
added_early : (on_addition (new_accepter []) (codes "hello")).turn.state ≡ new_accepter (hello ∷ [])
unfolding stepping
added_early = refl

added_later : (on_addition (accepter_with []) (codes "hello")).turn.state ≡ accepter_with (hello ∷ [])
unfolding stepping
added_later = refl

present : on_addition (accepter_with (hello ∷ [])) (codes "hello") ≡ record { added = added.Present; turn = record { state = accepter_with (hello ∷ []); out = [] } }
unfolding stepping
present = refl

-- what is wanted or asked for goes into the pool alone; an id that is asked for stays so until its transaction comes
added_wanted : (on_addition wanting (codes "abc")).turn.state ≡ record (opener_with (hello ∷ [])) { set = []; pool = hello ∷ abc ∷ [] }
unfolding stepping
added_wanted = refl

added_asked : (on_addition asking (codes "abc")).turn.state ≡ record asking { pool = abc ∷ [] }
unfolding stepping
added_asked = refl

comes_later : (on_message (record asking { pool = abc ∷ [] }) (message.Tx (codes "abc"))).state ≡ record (accepter_with []) { pool = abc ∷ [] }
unfolding stepping
comes_later = refl

-- a plain node announces an addition at once
added_plain : (on_addition (record (accepter_with []) { plain = true }) (codes "abc")).turn.out ≡ message.Inv (entry 5 abc_id ∷ []) ∷ []
unfolding stepping
added_plain = refl

-- a ping is answered
ponged : (on_message (accepter_with []) (message.Ping 7)).out ≡ message.Pong 7 ∷ []
unfolding stepping
ponged = refl

-- a node that has ended takes no addition
added_ended : (on_addition (record (accepter_with []) { ended = Some end.PoolFull }) (codes "abc")).added ≡ added.Ended
unfolding stepping
added_ended = refl

-- ---- a full pool

-- 20,000 transactions. What stands in them plays no part here, so they are all alike
abbrev full : List Transaction
full = replicate 50000 (record { id = record { 0 = [] }; bytes = 1 ∷ [] })

abbrev full_accepter : NodeState
full_accepter = record (accepter_with []) { pool = full }

inv_at_full : (on_message full_accepter (message.Inv (entry 5 abc_id ∷ []))).state.ended ≡ Some end.PoolFull
unfolding stepping
inv_at_full = refl

add_at_full : (on_addition full_accepter (codes "abc")).added ≡ added.Full
unfolding stepping
add_at_full = refl

-- one transaction fewer leaves room
abbrev all_but_one : NodeState
all_but_one = record (accepter_with []) { pool = drop 1 full }

inv_at_all_but_one : (on_message all_but_one (message.Inv (entry 5 abc_id ∷ []))).out ≡ message.GetData (entry 5 abc_id ∷ []) ∷ []
unfolding stepping
inv_at_all_but_one = refl
