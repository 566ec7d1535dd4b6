-- Worked examples of the texts of ends.
use Rattle.std.proofs.Common.{◌≡◌, [], ◌∷◌, refl, pos, negsuc}
use Rattle.std.specs.Prelude.{codes}
use Rattle.wire_rules.specs.declared.faults.PayloadKind.TheVariants as payload
use Rattle.wire_rules.specs.declared.frame.FrameFault.TheVariants as frame
use Rattle.wire_rules.specs.declared.name.Name.TheVariants as name
use Rattle.wire_rules.specs.declared.phase.Phase.TheVariants as phase
use Rattle.pool_rules.specs.declared.report.Ending.TheVariants as ending
use Rattle.node_rules.specs.declared.end.End.TheVariants as end
use Rattle.pair_rules.specs.declared.side.Side.TheVariants as side
use Rattle.protocol_text_rules.specs.Ends.{ending_text, end_text, refused_text, side_refused_text, truncated_text}
use Rattle.protocol_text_rules.proofs.Samples.{writing}

bad_magic : end_text (end.Frame (frame.BadMagic 0)) ≡ codes "bad magic at 0"
unfolding writing
bad_magic = refl

bad_command : end_text (end.Frame (frame.BadCommand 24)) ≡ codes "bad command at 24"
unfolding writing
bad_command = refl

too_long : end_text (end.Frame (frame.TooLong 203 4000001)) ≡ codes "too long at 203: 4000001"
unfolding writing
too_long = refl

bad_checksum : end_text (end.Frame (frame.BadChecksum 0 (0x5d ∷ 0xf6 ∷ 0xe0 ∷ 0xe3 ∷ []) (0x5d ∷ 0xf6 ∷ 0xe0 ∷ 0xe2 ∷ []))) ≡ codes "bad checksum at 0: 5df6e0e3 not 5df6e0e2"
unfolding writing
bad_checksum = refl

not_minimal : end_text (end.Payload (record { command = name.Sketch; at = 0; kind = payload.NotMinimal })) ≡ codes "payload of sketch at 0: not minimal"
unfolding writing
not_minimal = refl

old_peer : end_text (end.OldPeer (pos 70015)) ≡ codes "old peer 70015"
unfolding writing
old_peer = refl

older_peer : end_text (end.OldPeer (negsuc 0)) ≡ codes "old peer -1"
unfolding writing
older_peer = refl

no_relay : end_text end.PeerNoRelay ≡ codes "peer no relay"
unfolding writing
no_relay = refl

no_wtxidrelay : end_text end.NoWtxidRelay ≡ codes "no wtxidrelay"
unfolding writing
no_wtxidrelay = refl

zero_version : end_text end.ZeroReconVersion ≡ codes "zero version"
unfolding writing
zero_version = refl

misplaced : end_text (end.Misplaced name.Sketch phase.Idle) ≡ codes "misplaced sketch in idle"
unfolding writing
misplaced = refl

sketch_length : end_text (end.SketchLength 5 0) ≡ codes "sketch length 5 wanted 0"
unfolding writing
sketch_length = refl

unknown : end_text (end.UnknownShortId 9) ≡ codes "unknown short id 00000009"
unfolding writing
unknown = refl

repeated : end_text (end.AskRepeated 1) ≡ codes "ask repeated 00000001"
unfolding writing
repeated = refl

on_failure : end_text (end.AsksOnFailure 1) ≡ codes "asks on failure 1"
unfolding writing
on_failure = refl

pool_full : side_refused_text side.B end.PoolFull ≡ codes "refused b pool full"
unfolding writing
pool_full = refl

handshake : refused_text (end.Handshake name.Verack) ≡ codes "refused handshake verack"
unfolding writing
handshake = refl

cut_off : truncated_text phase.Greeting ≡ codes "truncated greeting"
unfolding writing
cut_off = refl

cut_off_later : truncated_text phase.WaitingExt ≡ codes "truncated waiting-ext"
unfolding writing
cut_off_later = refl

cut_off_twice_extended : truncated_text phase.WaitingExt2 ≡ codes "truncated waiting-ext2"
unfolding writing
cut_off_twice_extended = refl

misplaced_twice_extended : end_text (end.Misplaced name.ReqSketchExt phase.SentExt2) ≡ codes "misplaced reqsketchext in sent-ext2"
unfolding writing
misplaced_twice_extended = refl

answered_twice_extended : ending_text ending.Extension2 ≡ codes "extension2"
unfolding writing
answered_twice_extended = refl
