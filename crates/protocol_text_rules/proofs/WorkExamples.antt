-- Worked examples of what the commands on ids and frames write.
use Rattle.std.proofs.Common.{◌≡◌, ℕ, List, [], ◌∷◌, ◌++◌, refl, Ok, Err, Result, replicate}
use Rattle.std.specs.Prelude.{codes}
use Rattle.base_types.specs.declared.text.Kind.TheVariants as kind
use Rattle.line_rules.specs.Lines.{line}
use Rattle.id_rules.proofs.Samples.{from_digits}
use Rattle.wire_rules.proofs.Samples.{hello_id}
use Rattle.wire_rules.specs.declared.message.Message.{Message}
use Rattle.wire_rules.specs.declared.message.Message.TheVariants as message
use Rattle.protocol_text_rules.specs.Ends.{bad_stream_text}
use Rattle.protocol_text_rules.specs.Works.{StreamStop, ids_in, ids_text, messages_in, show_text, shown_in, pack_bytes}
use Rattle.protocol_text_rules.proofs.Samples.{working}

abbrev hello : List ℕ
hello = codes "9595c9df90075148eb06860365df33584b75bff782a510c6cd4883a419833d50"

-- an id, and its short id under the salts 1 and 2 in both orders
id : ids_in hello ≡ Ok (hello_id ∷ [])
unfolding working
id = refl

short : ids_text 1 2 (hello_id ∷ []) ≡ line (hello ++ codes " d977c38b")
unfolding working
short = refl

short_exchanged : ids_text 2 1 (hello_id ∷ []) ≡ line (hello ++ codes " d977c38b")
unfolding working
short_exchanged = refl

few_digits : ids_in (codes "9595") ≡ Err (record { place = 1; kind = kind.DigitCount })
unfolding working
few_digits = refl

bad_digit : ids_in (codes "x595c9df90075148eb06860365df33584b75bff782a510c6cd4883a419833d50") ≡ Err (record { place = 1; kind = kind.BadDigit })
unfolding working
bad_digit = refl

-- the frame of `tx`, as its line and back
abbrev tx_frame : List ℕ
tx_frame = from_digits (codes "f9beb4d9747800000000000000000000050000009595c9df68656c6c6f")

shows : messages_in tx_frame ≡ Ok (message.Tx (codes "hello") ∷ [])
unfolding working
shows = refl

shown : show_text (message.Tx (codes "hello") ∷ []) ≡ line (codes "tx 68656c6c6f")
unfolding working
shown = refl

packs : shown_in (codes "tx 68656c6c6f") ≡ Ok (message.Tx (codes "hello") ∷ [])
unfolding working
packs = refl

packed : pack_bytes (message.Tx (codes "hello") ∷ []) ≡ tx_frame
unfolding working
packed = refl

packs_nothing : shown_in (codes "verack" ++ 10 ∷ codes "tx") ≡ Err (record { place = 2; kind = kind.Form })
unfolding working
packs_nothing = refl

-- the fault lines of `show`, each over the fault that it names
abbrev verack : List ℕ
verack = from_digits (codes "f9beb4d976657261636b000000000000000000005df6e0e2")

abbrev fault_line : Result (List Message) StreamStop → List ℕ
fault_line (Ok ms) = []
fault_line (Err s) = bad_stream_text s.offset s.kind

bad_checksum : fault_line (messages_in (from_digits (codes "f9beb4d976657261636b000000000000000000005df6e0e3"))) ≡ codes "bad input 0: bad checksum at 0: 5df6e0e3 not 5df6e0e2"
unfolding working
bad_checksum = refl

bad_magic : fault_line (messages_in (replicate 24 0)) ≡ codes "bad input 0: bad magic at 0"
unfolding working
bad_magic = refl

cut_short : fault_line (messages_in (verack ++ 0xf9 ∷ [])) ≡ codes "bad input 24: cut short"
unfolding working
cut_short = refl

-- nothing is cut short where nothing is left
whole : messages_in (verack ++ verack) ≡ Ok (message.Verack ∷ message.Verack ∷ [])
unfolding working
whole = refl

nothing : messages_in [] ≡ Ok []
unfolding working
nothing = refl
