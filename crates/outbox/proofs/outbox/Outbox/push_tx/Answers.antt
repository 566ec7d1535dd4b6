use Rattle.id_rules.proofs.Bytes.{are_bytes-IsBytes}
use Rattle.wire_laws.proofs.Sound.{frame_of-sound}
use Rattle.wire_rules.specs.Layout.{frame_of}
use Rattle.wire_rules.specs.Limits.{is_in_range, is_within_limits}
use Rattle.wire_rules.specs.declared.message.Message.TheVariants as message
use Rattle.outbox.proofs.outbox.Outbox.push_tx.Goals as goal

pub write_lent_frame-requires : goal.write_lent_frame-requires
unfolding frame_of is_within_limits is_in_range
write_lent_frame-requires c =
    rw c.command_of.ensures (frame_of-sound (message.Tx c.args.tx.now) (record { within = c.requires; ranged = are_bytes-IsBytes c.args.tx.now (λ i. (c.type_inv.tx i).fits) }))
