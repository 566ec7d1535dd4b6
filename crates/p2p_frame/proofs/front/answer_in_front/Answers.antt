use Rattle.std.proofs.Common.{rules}
use Rattle.id_rules.proofs.Bytes.{are_bytes-IsBytes}
use Rattle.p2p_frame.proofs.front.answer_in_front.Goals as goal

pub returns-in-Some-clause-sound : goal.returns-in-Some-clause-sound
returns-in-Some-clause-sound c = record { magic = search rules; unread = are_bytes-IsBytes c.args.bytes.now (λ i. (c.type_inv.bytes i).fits); place = c.ranges.place.fits; kept = c.requires }

pub returns-in-None-clause-sound : goal.returns-in-None-clause-sound
returns-in-None-clause-sound c = record { magic = search rules; unread = are_bytes-IsBytes c.args.bytes.now (λ i. (c.type_inv.bytes i).fits); place = c.ranges.place.fits; kept = c.requires }
