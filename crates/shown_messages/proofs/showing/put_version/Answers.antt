use Rattle.std.specs.Fmt.{decimal, signed_decimal}
use Rattle.wire_rules.specs.Commands.{word_of}
use Rattle.wire_rules.specs.Shown.{bytes_word, relay_word}
use Rattle.wire_rules.specs.declared.name.Name.TheVariants as name
use Rattle.shown_messages.proofs.Joined.{ten_joined}
use Rattle.shown_messages.proofs.showing.put_version.Goals as goal

pub returns : goal.returns
returns c =
    let v = c.args.version.now in
    rw (
      c.in_ok-put_relay.ensures,
      c.in_ok-put_i32-2.ensures,
      c.in_ok-put_bytes-3.ensures,
      c.as_slice.ensures,
      c.in_ok-put_number-2.ensures,
      c.in_ok-put_bytes-2.ensures,
      c.in_ok-put_bytes.ensures,
      c.in_ok-put_i64.ensures,
      c.in_ok-put_number.ensures,
      c.in_ok-put_i32.ensures,
      c.in_ok-extend_from_slice.ensures.items,
      c.word_of.ensures,
    )
    (ten_joined c.args.out.now.items (word_of name.Version) (signed_decimal v.version) (decimal v.services) (signed_decimal v.time) (bytes_word v.receiver) (bytes_word v.sender) (decimal v.nonce) (bytes_word v.agent) (signed_decimal v.height) (relay_word v.relay))
