-- What the commands on ids, frames and scripts make of their input: the text that they write, or the first fault.
use Rattle.std.specs.Prelude.{ℕ, ◌==◌, if◌then◌else◌, List, [], ◌∷◌, ◌++◌, length, flat_map, codes, Some, None, Ok, Err}
use Rattle.std.specs.declared.option.Option.{Option}
use Rattle.std.specs.declared.result.Result.{Result}
use Rattle.hex.specs.Hex.{encode_lower}
use Rattle.base_types.specs.declared.lists.Hash32.{Hash32}
use Rattle.base_types.specs.declared.text.Kind.{Kind}
use Rattle.base_types.specs.declared.text.Kind.TheVariants as kind
use Rattle.base_types.specs.declared.text.TextFault.{TextFault}
use Rattle.line_rules.specs.Lines.{line, lines_of}
use Rattle.line_rules.specs.Reading.{line_fold}
use Rattle.line_rules.specs.Digits.{◌>>=◌, bytes_in, eight_digits}
use Rattle.id_rules.specs.Ids.{KeyPair, keys_of, short_id}
use Rattle.wire_rules.specs.Layout.{wire_bytes}
use Rattle.wire_rules.specs.Shown.{message_text}
use Rattle.wire_rules.specs.ShownReading.{shown_message}
use Rattle.wire_rules.specs.Stream.{StreamFault, StreamFrameFault, StreamPayloadFault, StreamRead, stream_of}
use Rattle.wire_rules.specs.declared.message.Message.{Message}
use Rattle.protocol_text_rules.specs.declared.limits.TheConstants.{MAIN_MAGIC}
use Rattle.protocol_text_rules.specs.declared.stream.StreamKind.{StreamKind}
use Rattle.protocol_text_rules.specs.declared.stream.StreamKind.TheVariants as stream

-- the text of what was read, or its fault
abbrev pub with_text : {A F : Type 0} → (A → List ℕ) → Result A F → Result (List ℕ) F
with_text spelled (Ok a) = Ok (spelled a)
with_text spelled (Err f) = Err f

-- ---- ids: each id with its short id under the key of two salts

-- an id is a line of 64 digits
abbrev pub id_of_line : List ℕ → Result Hash32 Kind
id_of_line bytes = if length bytes == 64 then (bytes_in bytes >>= (λ id. Ok (record { 0 = id }))) else Err kind.DigitCount

abbrev pub id_step : List Hash32 → List ℕ → Result (List Hash32) Kind
id_step ids bytes = id_of_line bytes >>= (λ id. Ok (ids ++ id ∷ []))

abbrev pub ids_in : List ℕ → Result (List Hash32) TextFault
ids_in text = line_fold id_step [] (lines_of text)

abbrev pub id_line : KeyPair → Hash32 → List ℕ
id_line keys id = encode_lower id.0 ++ codes " " ++ eight_digits (short_id keys id)

abbrev pub ids_text : ℕ → ℕ → List Hash32 → List ℕ
ids_text salt other ids = flat_map (λ id. line (id_line (keys_of salt other) id)) ids

-- ---- show: frames as lines

-- a fault of a stream, and the offset of the first byte of the frame that has it
pub record StreamStop : Type 0 where
  pub offset : ℕ
  pub kind : StreamKind

abbrev pub kind_of_stop : StreamFault → StreamKind
kind_of_stop (StreamFrameFault f) = stream.Frame f
kind_of_stop (StreamPayloadFault f) = stream.Payload f

abbrev pub stop_at : ℕ → StreamKind → Result (List Message) StreamStop
stop_at offset k = Err (record { offset = offset; kind = k })

-- the messages of a stream that is read to its end, by its fault and by what is left. A rest is a frame that is cut short
unfoldable pub whole_stream : Option StreamFault → List ℕ → StreamRead → Result (List Message) StreamStop
whole_stream (Some f) rest r = stop_at r.offset (kind_of_stop f)
whole_stream None [] r = Ok r.messages
whole_stream None (b ∷ rest) r = stop_at r.offset stream.CutShort

abbrev pub messages_to_end : StreamRead → Result (List Message) StreamStop
messages_to_end r = whole_stream r.stop r.rest r

-- the messages of bytes, or the first fault
abbrev pub messages_in : List ℕ → Result (List Message) StreamStop
messages_in bytes = messages_to_end (stream_of MAIN_MAGIC bytes)

abbrev pub show_text : List Message → List ℕ
show_text ms = flat_map (λ m. line (message_text m)) ms

-- ---- pack: lines as frames

abbrev pub message_of_line : Option Message → Result Message Kind
message_of_line (Some m) = Ok m
message_of_line None = Err kind.Form

abbrev pub shown_step : List Message → List ℕ → Result (List Message) Kind
shown_step ms bytes = message_of_line (shown_message bytes) >>= (λ m. Ok (ms ++ m ∷ []))

-- the messages that lines show, or the first fault
abbrev pub shown_in : List ℕ → Result (List Message) TextFault
shown_in text = line_fold shown_step [] (lines_of text)

abbrev pub pack_bytes : List Message → List ℕ
pack_bytes ms = wire_bytes MAIN_MAGIC ms
