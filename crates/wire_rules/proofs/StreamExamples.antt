-- Worked examples of streams: fronts, their faults in order, and a stream of two messages and a rest.
use Rattle.std.proofs.Common.{◌≡◌, ℕ, List, [], ◌∷◌, ◌++◌, refl, take, replicate, Some, None, IsTrue, Bool, true, false}
use Rattle.std.specs.Prelude.{codes}
use Rattle.std.specs.List.{list_all, range_with_len}
use Rattle.id_rules.proofs.Samples.{from_digits}
use Rattle.wire_rules.specs.Stream.{Front, PartialFrame, WholeFrame, FaultyFrame, Stream, front_of, stream_of, StreamFrameFault, StreamPayloadFault}
use Rattle.wire_rules.proofs.Samples.{streaming, showing, magic}
use Rattle.wire_rules.specs.declared.frame.FrameFault.TheVariants as fault
use Rattle.wire_rules.specs.declared.faults.PayloadKind.TheVariants as kind
use Rattle.wire_rules.specs.declared.message.Message.{Message}
use Rattle.wire_rules.specs.declared.message.Message.TheVariants as message
use Rattle.wire_rules.specs.declared.name.Name.TheVariants as name

-- the frame of `verack`, and the same with another last byte of its checksum
abbrev verack : List ℕ
verack = from_digits (codes "f9beb4d976657261636b000000000000000000005df6e0e2")

abbrev spoiled : List ℕ
spoiled = from_digits (codes "f9beb4d976657261636b000000000000000000005df6e0e3")

abbrev is_partial : Front → Bool
is_partial PartialFrame = true
is_partial other = false

-- each proper front of the frame is partial, and the frame is whole
partial : IsTrue (list_all (λ n. is_partial (front_of magic 0 (take n verack))) (range_with_len 0 24))
unfolding streaming
partial = refl

whole : front_of magic 7 (verack ++ 1 ∷ []) ≡ WholeFrame (record { command = codes "verack" ++ replicate 6 0; payload = [] }) 24
unfolding streaming
whole = refl

bad_checksum : front_of magic 7 spoiled ≡ FaultyFrame (fault.BadChecksum 7 (0x5d ∷ 0xf6 ∷ 0xe0 ∷ 0xe3 ∷ []) (0x5d ∷ 0xf6 ∷ 0xe0 ∷ 0xe2 ∷ []))
unfolding streaming
bad_checksum = refl

-- 23 bytes of anything are partial, 24 bytes 0 have another magic
zeros : front_of magic 0 (replicate 23 0) ≡ PartialFrame
unfolding streaming
zeros = refl

bad_magic : front_of magic 0 (replicate 24 0) ≡ FaultyFrame (fault.BadMagic 0)
unfolding streaming
bad_magic = refl

-- commands that aren't printable bytes, at least one, and then NUL: none, a letter behind NUL, a byte that isn't printable
no_command : front_of magic 0 (magic ++ replicate 20 0) ≡ FaultyFrame (fault.BadCommand 0)
unfolding streaming
no_command = refl

letter_behind : front_of magic 0 (magic ++ codes "tx" ++ 0 ∷ codes "x" ++ replicate 16 0) ≡ FaultyFrame (fault.BadCommand 0)
unfolding streaming
letter_behind = refl

unprintable : front_of magic 0 (magic ++ 0x7f ∷ replicate 19 0) ≡ FaultyFrame (fault.BadCommand 0)
unfolding streaming
unprintable = refl

-- a length of 4,000,001 is judged once the header is there, and one of 4,000,000 waits for the payload
too_long : front_of magic 203 (from_digits (codes "f9beb4d9747800000000000000000000" ++ codes "01093d0000000000")) ≡ FaultyFrame (fault.TooLong 203 4000001)
unfolding streaming
too_long = refl

longest : front_of magic 203 (from_digits (codes "f9beb4d9747800000000000000000000" ++ codes "00093d0000000000")) ≡ PartialFrame
unfolding streaming
longest = refl

-- a `tx`, a `verack` and the first byte of another frame
abbrev two : List ℕ
two = from_digits (codes "f9beb4d9747800000000000000000000050000009595c9df68656c6c6f") ++ verack ++ 0xf9 ∷ []

abbrev two_messages : List Message
two_messages = message.Tx (codes "hello") ∷ message.Verack ∷ []

two_read : stream_of magic two ≡ record { messages = two_messages; offset = 53; rest = 0xf9 ∷ []; stop = None }
unfolding streaming
two_read = refl

two_stream : Stream magic two two_messages (0xf9 ∷ [])
unfolding streaming showing
two_stream = record {
  whole = refl;
  each = (record { within = refl; ranged = refl }, (record { within = refl; ranged = refl }, tt));
  partial = record { front = refl };
}

-- a `verack` and then bytes of another network; and a `sketch` whose count takes too many bytes
frame_fault : stream_of magic (verack ++ replicate 24 0) ≡ record { messages = message.Verack ∷ []; offset = 24; rest = replicate 24 0; stop = Some (StreamFrameFault (fault.BadMagic 24)) }
unfolding streaming
frame_fault = refl

abbrev faulty : List ℕ
faulty = from_digits (codes "f9beb4d9736b6574636800000000000007000000784d7a22fd040000000000")

payload_fault : stream_of magic (verack ++ faulty) ≡ record { messages = message.Verack ∷ []; offset = 24; rest = faulty; stop = Some (StreamPayloadFault (record { command = name.Sketch; at = 0; kind = kind.NotMinimal })) }
unfolding streaming
payload_fault = refl
