-- Worked examples of shown messages: each message as its line, and read back from it.
use Rattle.std.proofs.Common.{◌≡◌, refl, ◌∷◌, [], ◌++◌, true, Some, None, negsuc}
use Rattle.std.specs.Prelude.{codes}
use Rattle.wire_rules.specs.Shown.{message_text}
use Rattle.wire_rules.specs.ShownReading.{shown_message}
use Rattle.wire_rules.proofs.Samples.{showing, hello_id, abc_id, entry, own_version}
use Rattle.wire_rules.specs.declared.message.Message.TheVariants as message

version : message_text (message.Version own_version) ≡ codes "version 70016 0 0 0000000000000000000000000000000000000000000000000000 0000000000000000000000000000000000000000000000000000 0 2f65726c61793a312f 0 1"
unfolding showing
version = refl

version_read : shown_message (codes "version 70016 0 0 0000000000000000000000000000000000000000000000000000 0000000000000000000000000000000000000000000000000000 0 2f65726c61793a312f 0 1") ≡ Some (message.Version own_version)
unfolding showing
version_read = refl

verack : message_text (message.Verack) ≡ codes "verack"
unfolding showing
verack = refl

verack_read : shown_message (codes "verack") ≡ Some (message.Verack)
unfolding showing
verack_read = refl

wtxidrelay : message_text (message.WtxidRelay) ≡ codes "wtxidrelay"
unfolding showing
wtxidrelay = refl

wtxidrelay_read : shown_message (codes "wtxidrelay") ≡ Some (message.WtxidRelay)
unfolding showing
wtxidrelay_read = refl

sendtxrcncl : message_text (message.SendTxRcncl 1 1) ≡ codes "sendtxrcncl 1 0000000000000001"
unfolding showing
sendtxrcncl = refl

sendtxrcncl_read : shown_message (codes "sendtxrcncl 1 0000000000000001") ≡ Some (message.SendTxRcncl 1 1)
unfolding showing
sendtxrcncl_read = refl

reqrecon : message_text (message.ReqRecon 100 8192) ≡ codes "reqrecon 100 8192"
unfolding showing
reqrecon = refl

reqrecon_read : shown_message (codes "reqrecon 100 8192") ≡ Some (message.ReqRecon 100 8192)
unfolding showing
reqrecon_read = refl

sketch : message_text (message.Sketch (1 ∷ 0 ∷ 0 ∷ 0 ∷ [])) ≡ codes "sketch 01000000"
unfolding showing
sketch = refl

sketch_read : shown_message (codes "sketch 01000000") ≡ Some (message.Sketch (1 ∷ 0 ∷ 0 ∷ 0 ∷ []))
unfolding showing
sketch_read = refl

reqsketchext : message_text (message.ReqSketchExt) ≡ codes "reqsketchext"
unfolding showing
reqsketchext = refl

reqsketchext_read : shown_message (codes "reqsketchext") ≡ Some (message.ReqSketchExt)
unfolding showing
reqsketchext_read = refl

reconcildiff : message_text (message.ReconcilDiff true (1 ∷ 2 ∷ [])) ≡ codes "reconcildiff 1 00000001 00000002"
unfolding showing
reconcildiff = refl

reconcildiff_read : shown_message (codes "reconcildiff 1 00000001 00000002") ≡ Some (message.ReconcilDiff true (1 ∷ 2 ∷ []))
unfolding showing
reconcildiff_read = refl

inv : message_text (message.Inv (entry 5 abc_id ∷ entry 1 hello_id ∷ [])) ≡ codes "inv 5:4f8b42c22dd3729b519ba6f68d2da7cc5b2d606d05daed5ad5128cc03e6c6358 1:9595c9df90075148eb06860365df33584b75bff782a510c6cd4883a419833d50"
unfolding showing
inv = refl

inv_read : shown_message (codes "inv 5:4f8b42c22dd3729b519ba6f68d2da7cc5b2d606d05daed5ad5128cc03e6c6358 1:9595c9df90075148eb06860365df33584b75bff782a510c6cd4883a419833d50") ≡ Some (message.Inv (entry 5 abc_id ∷ entry 1 hello_id ∷ []))
unfolding showing
inv_read = refl

getdata : message_text (message.GetData (entry 5 hello_id ∷ [])) ≡ codes "getdata 5:9595c9df90075148eb06860365df33584b75bff782a510c6cd4883a419833d50"
unfolding showing
getdata = refl

getdata_read : shown_message (codes "getdata 5:9595c9df90075148eb06860365df33584b75bff782a510c6cd4883a419833d50") ≡ Some (message.GetData (entry 5 hello_id ∷ []))
unfolding showing
getdata_read = refl

notfound : message_text (message.NotFound []) ≡ codes "notfound"
unfolding showing
notfound = refl

notfound_read : shown_message (codes "notfound") ≡ Some (message.NotFound [])
unfolding showing
notfound_read = refl

tx : message_text (message.Tx (codes "hello")) ≡ codes "tx 68656c6c6f"
unfolding showing
tx = refl

tx_read : shown_message (codes "tx 68656c6c6f") ≡ Some (message.Tx (codes "hello"))
unfolding showing
tx_read = refl

ping : message_text (message.Ping 1) ≡ codes "ping 1"
unfolding showing
ping = refl

ping_read : shown_message (codes "ping 1") ≡ Some (message.Ping 1)
unfolding showing
ping_read = refl

pong : message_text (message.Pong 18446744073709551615) ≡ codes "pong 18446744073709551615"
unfolding showing
pong = refl

pong_read : shown_message (codes "pong 18446744073709551615") ≡ Some (message.Pong 18446744073709551615)
unfolding showing
pong_read = refl

other : message_text (message.Other (codes "feefilter" ++ 0 ∷ 0 ∷ 0 ∷ []) (7 ∷ [])) ≡ codes "other 66656566696c746572000000 07"
unfolding showing
other = refl

other_read : shown_message (codes "other 66656566696c746572000000 07") ≡ Some (message.Other (codes "feefilter" ++ 0 ∷ 0 ∷ 0 ∷ []) (7 ∷ []))
unfolding showing
other_read = refl

-- lines that show no message
-- upper case digits
upper : shown_message (codes "tx 68656C6C6F") ≡ None
unfolding showing
upper = refl

-- a zero in front
leading_zero : shown_message (codes "ping 01") ≡ None
unfolding showing
leading_zero = refl

-- a number beyond 64 bits
too_large : shown_message (codes "ping 18446744073709551616") ≡ None
unfolding showing
too_large = refl

-- two spaces
two_spaces : shown_message (codes "ping  1") ≡ None
unfolding showing
two_spaces = refl

-- a space at the end
space_behind : shown_message (codes "verack ") ≡ None
unfolding showing
space_behind = refl

-- no bytes of a transaction
empty_tx : shown_message (codes "tx -") ≡ None
unfolding showing
empty_tx = refl

-- another command that is known
known_other : shown_message (codes "other 76657261636b000000000000 -") ≡ None
unfolding showing
known_other = refl

-- another command of NUL alone
blank_other : shown_message (codes "other 000000000000000000000000 -") ≡ None
unfolding showing
blank_other = refl

-- an unknown word
unknown : shown_message (codes "hello 1") ≡ None
unfolding showing
unknown = refl

-- no word
empty : shown_message (codes "") ≡ None
unfolding showing
empty = refl

-- a sign before 0
minus_zero : shown_message (codes "version -0 0 0 0000000000000000000000000000000000000000000000000000 0000000000000000000000000000000000000000000000000000 0 - 0 none") ≡ None
unfolding showing
minus_zero = refl

-- a relay byte that is absent, no agent, and a number below 0
unusual : shown_message (codes "version -1 0 -2 0000000000000000000000000000000000000000000000000000 0000000000000000000000000000000000000000000000000000 0 - -3 none") ≡ Some (message.Version (record own_version { version = negsuc 0; time = negsuc 1; agent = []; height = negsuc 2; relay = None }))
unfolding showing
unusual = refl
