-- What the worked examples share.
use Rattle.std.proofs.Common.{List, ℕ, [], ◌∷◌, pos, Some, replicate}
use Rattle.std.specs.Prelude.{codes}
use Rattle.std.specs.Fmt.{digits}
use Rattle.base_types.specs.declared.lists.Hash32.{Hash32}
use Rattle.line_rules.specs.Numbers.{digits_onto as number_onto}
use Rattle.id_rules.proofs.Samples.{hashing, from_digits}
use Rattle.wire_rules.specs.Commands.{word_of, is_filled}
use Rattle.wire_rules.specs.Layout.{compact_size, frame_of}
use Rattle.wire_rules.specs.Limits.{is_within_limits, is_in_range}
use Rattle.wire_rules.specs.Reading.{bytes_at, count_at, items_at, entry_at, flag_at, optional_at, message_at_end, version_in, salt_in, request_in, sketch_in, diff_in, inventory_in, number_in, message_in}
use Rattle.wire_rules.specs.Stream.{header_fault, front_by_checksum, front_by_payload, front_by_header, front_by_length, stream_by_message, stream_by_front, stream_from}
use Rattle.wire_rules.specs.Shown.{words_of}
use Rattle.wire_rules.specs.ShownReading.{fields_of, entry_of, items_of, version_of_fields, message_of_name, message_of_fields}
use Rattle.wire_rules.specs.declared.message.InvEntry.{InvEntry}
use Rattle.wire_rules.specs.declared.message.VersionMsg.{VersionMsg}

-- an example that has this in its line `unfolding` spells frames
unfoldable pub spelling : Unit {0}
unfolding hashing word_of is_filled compact_size frame_of
spelling = tt

-- the same for reading payloads
unfoldable pub reading : Unit {0}
unfolding spelling bytes_at count_at items_at entry_at flag_at optional_at message_at_end version_in salt_in request_in sketch_in diff_in inventory_in number_in message_in
reading = tt

-- the same for reading a stream
unfoldable pub streaming : Unit {0}
unfolding reading header_fault front_by_checksum front_by_payload front_by_header front_by_length stream_by_message stream_by_front stream_from
streaming = tt

-- the same for lines of text, both ways
unfoldable pub showing : Unit {0}
unfolding hashing word_of is_filled digits is_within_limits is_in_range words_of fields_of number_onto entry_of items_of version_of_fields message_of_name message_of_fields
showing = tt

-- the main network's magic
abbrev pub magic : List ℕ
magic = 0xf9 ∷ 0xbe ∷ 0xb4 ∷ 0xd9 ∷ []

-- the ids of the bytes of 'hello' and 'abc'
abbrev pub hello_id : Hash32
hello_id = record { 0 = from_digits (codes "9595c9df90075148eb06860365df33584b75bff782a510c6cd4883a419833d50") }

abbrev pub abc_id : Hash32
abc_id = record { 0 = from_digits (codes "4f8b42c22dd3729b519ba6f68d2da7cc5b2d606d05daed5ad5128cc03e6c6358") }

abbrev pub entry : ℕ → Hash32 → InvEntry
entry kind id = record { kind = kind; id = id }

-- a node's own version message, with the time 0 and the nonce 0
abbrev pub own_version : VersionMsg
own_version = record {
  version = pos 70016;
  services = 0;
  time = pos 0;
  receiver = replicate 26 0;
  sender = replicate 26 0;
  nonce = 0;
  agent = codes "/erlay:1/";
  height = pos 0;
  relay = Some 1;
}
