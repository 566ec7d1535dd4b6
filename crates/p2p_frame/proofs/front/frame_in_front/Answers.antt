use Rattle.std.proofs.Common.{◌≡◌, true, false, bytes_eq, refl, sym, ap, ◌∙◌, rules}
use Rattle.wire_rules.specs.Stream.{front_of}
use Rattle.p2p_frame.specs.Feeding.{frame_in}
use Rattle.p2p_frame.specs.Views.{fields_of}
use Rattle.stream_laws.proofs.Fronts.{short_front}
use Rattle.p2p_frame.proofs.Headers.{cut-front, faulty-front, sum-front, whole-front}
use Rattle.p2p_frame.proofs.front.frame_in_front.Goals as goal

pub returns-then-bytes-lt-HEADER_LEN : goal.returns-then-bytes-lt-HEADER_LEN
returns-then-bytes-lt-HEADER_LEN c = sym (ap frame_in (short_front c.args.magic c.args.place c.args.bytes.now c.if-bytes-lt-HEADER_LEN.true))

pub returns-in-Some : goal.returns-in-Some
returns-in-Some c =
    sym (ap frame_in (faulty-front c.args.magic c.args.place c.args.bytes.now (fields_of c.read-header.result) _ c.if-bytes-lt-HEADER_LEN.false c.read-header.ensures refl c.in-Some.fault (sym c.fault.ensures ∙ c.in-Some.is)))

pub returns-then-behind-size : goal.returns-then-behind-size
returns-then-behind-size c =
    sym (ap frame_in (cut-front c.args.magic c.args.place c.args.bytes.now (fields_of c.read-header.result) c.split_at.result.1.now c.if-bytes-lt-HEADER_LEN.false c.read-header.ensures c.split_at.ensures.back (sym c.fault.ensures ∙ c.in_default.is) c.if-behind-size.true))

pub returns-then-ne : goal.returns-then-ne
returns-then-ne c =
    let other : bytes_eq c.read-header.result.sum c.checksum_of-computed.result ≡ false = search rules in
    sym (ap frame_in (sum-front c.args.magic c.args.place c.args.bytes.now (fields_of c.read-header.result) c.split_at.result.1.now c.if-bytes-lt-HEADER_LEN.false c.read-header.ensures c.split_at.ensures.back (sym c.fault.ensures ∙ c.in_default.is)
    c.if-behind-size.false c.checksum_of-computed.result c.checksum_of-computed.ensures other))

pub returns : goal.returns
returns c =
    let same : bytes_eq c.read-header.result.sum c.checksum_of-computed.result ≡ true = search rules in
    sym (ap frame_in (whole-front c.args.magic c.args.place c.args.bytes.now (fields_of c.read-header.result) c.split_at.result.1.now c.if-bytes-lt-HEADER_LEN.false c.read-header.ensures c.split_at.ensures.back (sym c.fault.ensures ∙ c.in_default.is)
    c.if-behind-size.false c.checksum_of-computed.result c.checksum_of-computed.ensures same))
