-- Worked examples of payloads: each message is read back from its payload.
use Rattle.std.proofs.Common.{◌≡◌, refl, ◌∷◌, [], ◌++◌, true, Ok}
use Rattle.std.specs.Prelude.{codes}
use Rattle.hex.specs.Hex.{encode_lower}
use Rattle.wire_rules.specs.Layout.{frame_of, payload_of}
use Rattle.wire_rules.specs.Reading.{message_of}
use Rattle.wire_rules.proofs.Samples.{reading, hello_id, abc_id, entry, own_version}
use Rattle.wire_rules.specs.declared.message.Message.TheVariants as message

-- the payloads that stand in the documents
request : encode_lower (payload_of (message.ReqRecon 100 8192)) ≡ codes "64000020"
unfolding reading
request = refl

salted : encode_lower (payload_of (message.SendTxRcncl 1 1)) ≡ codes "010000000100000000000000"
unfolding reading
salted = refl

diff : encode_lower (payload_of (message.ReconcilDiff true (1 ∷ 2 ∷ []))) ≡ codes "01020100000002000000"
unfolding reading
diff = refl

-- each message is what its frame says
version : message_of (frame_of (message.Version own_version)) ≡ Ok (message.Version own_version)
unfolding reading
version = refl

verack : message_of (frame_of (message.Verack)) ≡ Ok (message.Verack)
unfolding reading
verack = refl

wtxidrelay : message_of (frame_of (message.WtxidRelay)) ≡ Ok (message.WtxidRelay)
unfolding reading
wtxidrelay = refl

sendtxrcncl : message_of (frame_of (message.SendTxRcncl 1 1)) ≡ Ok (message.SendTxRcncl 1 1)
unfolding reading
sendtxrcncl = refl

reqrecon : message_of (frame_of (message.ReqRecon 100 8192)) ≡ Ok (message.ReqRecon 100 8192)
unfolding reading
reqrecon = refl

sketch : message_of (frame_of (message.Sketch (1 ∷ 0 ∷ 0 ∷ 0 ∷ []))) ≡ Ok (message.Sketch (1 ∷ 0 ∷ 0 ∷ 0 ∷ []))
unfolding reading
sketch = refl

reqsketchext : message_of (frame_of (message.ReqSketchExt)) ≡ Ok (message.ReqSketchExt)
unfolding reading
reqsketchext = refl

reconcildiff : message_of (frame_of (message.ReconcilDiff true (1 ∷ 2 ∷ []))) ≡ Ok (message.ReconcilDiff true (1 ∷ 2 ∷ []))
unfolding reading
reconcildiff = refl

inv : message_of (frame_of (message.Inv (entry 5 abc_id ∷ entry 1 hello_id ∷ []))) ≡ Ok (message.Inv (entry 5 abc_id ∷ entry 1 hello_id ∷ []))
unfolding reading
inv = refl

getdata : message_of (frame_of (message.GetData (entry 5 hello_id ∷ []))) ≡ Ok (message.GetData (entry 5 hello_id ∷ []))
unfolding reading
getdata = refl

notfound : message_of (frame_of (message.NotFound [])) ≡ Ok (message.NotFound [])
unfolding reading
notfound = refl

tx : message_of (frame_of (message.Tx (codes "hello"))) ≡ Ok (message.Tx (codes "hello"))
unfolding reading
tx = refl

ping : message_of (frame_of (message.Ping 1)) ≡ Ok (message.Ping 1)
unfolding reading
ping = refl

pong : message_of (frame_of (message.Pong 18446744073709551615)) ≡ Ok (message.Pong 18446744073709551615)
unfolding reading
pong = refl

other : message_of (frame_of (message.Other (codes "feefilter" ++ 0 ∷ 0 ∷ 0 ∷ []) (7 ∷ []))) ≡ Ok (message.Other (codes "feefilter" ++ 0 ∷ 0 ∷ 0 ∷ []) (7 ∷ []))
unfolding reading
other = refl
