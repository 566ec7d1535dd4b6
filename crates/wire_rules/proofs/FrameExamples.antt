-- Worked examples of frames: each message as its frame, and the fronts of a stream.
use Rattle.std.proofs.Common.{◌≡◌, refl, ◌∷◌, [], ◌++◌, true}
use Rattle.std.specs.Prelude.{codes}
use Rattle.hex.specs.Hex.{encode_lower}
use Rattle.wire_rules.specs.Layout.{message_bytes}
use Rattle.wire_rules.proofs.Samples.{spelling, magic, hello_id, abc_id, entry, own_version}
use Rattle.wire_rules.specs.declared.message.Message.TheVariants as message

version : encode_lower (message_bytes magic (message.Version own_version)) ≡ codes "f9beb4d976657273696f6e00000000005f0000004238ed268011010000000000000000000000000000000000000000000000000000000000000000000000000000000000000000000000000000000000000000000000000000000000000000000000000000000000092f65726c61793a312f0000000001"
unfolding spelling
version = refl

verack : encode_lower (message_bytes magic (message.Verack)) ≡ codes "f9beb4d976657261636b000000000000000000005df6e0e2"
unfolding spelling
verack = refl

wtxidrelay : encode_lower (message_bytes magic (message.WtxidRelay)) ≡ codes "f9beb4d9777478696472656c61790000000000005df6e0e2"
unfolding spelling
wtxidrelay = refl

sendtxrcncl : encode_lower (message_bytes magic (message.SendTxRcncl 1 1)) ≡ codes "f9beb4d973656e64747872636e636c000c0000007959509b010000000100000000000000"
unfolding spelling
sendtxrcncl = refl

reqrecon : encode_lower (message_bytes magic (message.ReqRecon 100 8192)) ≡ codes "f9beb4d97265717265636f6e0000000004000000dfd14ab564000020"
unfolding spelling
reqrecon = refl

sketch : encode_lower (message_bytes magic (message.Sketch (1 ∷ 0 ∷ 0 ∷ 0 ∷ []))) ≡ codes "f9beb4d9736b65746368000000000000050000003d5c01640401000000"
unfolding spelling
sketch = refl

reqsketchext : encode_lower (message_bytes magic (message.ReqSketchExt)) ≡ codes "f9beb4d9726571736b65746368657874000000005df6e0e2"
unfolding spelling
reqsketchext = refl

reconcildiff : encode_lower (message_bytes magic (message.ReconcilDiff true (1 ∷ 2 ∷ []))) ≡ codes "f9beb4d97265636f6e63696c646966660a000000cf84d25901020100000002000000"
unfolding spelling
reconcildiff = refl

inv : encode_lower (message_bytes magic (message.Inv (entry 5 abc_id ∷ entry 1 hello_id ∷ []))) ≡ codes "f9beb4d9696e7600000000000000000049000000a202c79102050000004f8b42c22dd3729b519ba6f68d2da7cc5b2d606d05daed5ad5128cc03e6c6358010000009595c9df90075148eb06860365df33584b75bff782a510c6cd4883a419833d50"
unfolding spelling
inv = refl

getdata : encode_lower (message_bytes magic (message.GetData (entry 5 hello_id ∷ []))) ≡ codes "f9beb4d967657464617461000000000025000000da1dc2c401050000009595c9df90075148eb06860365df33584b75bff782a510c6cd4883a419833d50"
unfolding spelling
getdata = refl

notfound : encode_lower (message_bytes magic (message.NotFound [])) ≡ codes "f9beb4d96e6f74666f756e6400000000010000001406e05800"
unfolding spelling
notfound = refl

tx : encode_lower (message_bytes magic (message.Tx (codes "hello"))) ≡ codes "f9beb4d9747800000000000000000000050000009595c9df68656c6c6f"
unfolding spelling
tx = refl

ping : encode_lower (message_bytes magic (message.Ping 1)) ≡ codes "f9beb4d970696e6700000000000000000800000008533f6b0100000000000000"
unfolding spelling
ping = refl

pong : encode_lower (message_bytes magic (message.Pong 18446744073709551615)) ≡ codes "f9beb4d9706f6e67000000000000000008000000752adad0ffffffffffffffff"
unfolding spelling
pong = refl

other : encode_lower (message_bytes magic (message.Other (codes "feefilter" ++ 0 ∷ 0 ∷ 0 ∷ []) (7 ∷ []))) ≡ codes "f9beb4d966656566696c74657200000001000000b6d58dfa07"
unfolding spelling
other = refl
