-- What the worked examples share.
use Rattle.node_rules.specs.Steps.{count_of}
use Rattle.node_rules.proofs.Samples.{receiving}
use Rattle.id_rules.proofs.Samples.{sipping}
use Rattle.session_rules.specs.Session.{round_if_left, after_pieces, is_done_by, AreInTime}

-- an example that has this in its line `unfolding` computes what happens in a session
unfoldable pub sessioning : Unit {0}
unfolding receiving sipping count_of round_if_left after_pieces is_done_by AreInTime
sessioning = tt
