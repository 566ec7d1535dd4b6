-- What the fake of a wire, that of a shelf and the adapter of a connection are, as callers see them.
use Rattle.std.specs.Prelude.{ℕ, Bool, true, false, ◌&&◌, List, [], filter, find, map, not, option_map}
use Rattle.std.specs.declared.option.Option.{Option}
use Rattle.std.specs.declared.alloc.Global.{Global}
use Rattle.std.specs.declared.string.String.{String}
use Rattle.std.specs.declared.vec.Vec.{Vec}
use Rattle.std.specs.String.{string_bytes}
use Rattle.link_rules.specs.Links.{Call, ConnectCall, ListenCall, AcceptCall, Link, Piece}
use Rattle.link_rules.specs.Shelves.{Content, Shelf, ShelfCall, ReadCall, SaveCall, is_named}
use Rattle.erlay_base.specs.declared.mem_shelf.KeptShelfCall.{KeptShelfCall}
use Rattle.erlay_base.specs.declared.mem_shelf.KeptShelfCall.TheVariants.{Read, Save}
use Rattle.erlay_base.specs.declared.mem_wire.KeptCall.{KeptCall}
use Rattle.erlay_base.specs.declared.mem_wire.KeptCall.TheVariants.{Connect, Listen, Accept}
use Rattle.erlay_base.specs.declared.mem_wire.KeptPiece.{KeptPiece}

-- a wire over given bytes: the calls that it tells; the bytes to come, those sent and the pieces received; whether a link
-- was started, a listen succeeded, and a receive that had room gave no bytes; the most bytes that a call moves, the numbers
-- of the calls that fail, and the calls and the faults so far
pub record WireState : Type 0 where
  pub asked : List Call
  pub coming : List ℕ
  pub sent : List ℕ
  pub pieces : List Piece
  pub is_linked : Bool
  pub is_listening : Bool
  pub is_over : Bool
  pub cut : ℕ
  pub failing : List ℕ
  pub calls : ℕ
  pub faults : ℕ

-- what comes over a link that is started, by whether one was started before it
abbrev pub coming_on_link : Bool → List ℕ → List ℕ
coming_on_link true coming = []
coming_on_link false coming = coming

-- the input of a link that was started is over
abbrev pub has_ended_input : Bool → Bool → Bool
has_ended_input is_linked is_over = is_linked && is_over

abbrev pub told_link : WireState → Link
told_link w = record { calls = w.asked; coming = w.coming; sent = w.sent; pieces = w.pieces; input_ended = has_ended_input w.is_linked w.is_over }

-- a connection of the operating system: whether there is one, whether there is a listener, whether a receive that had room
-- gave no bytes, and the faults so far
pub record Connection : Type 0 where
  pub is_linked : Bool
  pub is_listening : Bool
  pub is_over : Bool
  pub faults : ℕ

-- a shelf that keeps its contents: what it tells, the numbers of the calls that fail, and the calls and the faults so far
pub record ShelfState : Type 0 where
  pub shelf : Shelf
  pub failing : List ℕ
  pub calls : ℕ
  pub faults : ℕ

-- ---- what the kept values are

abbrev pub call_of : KeptCall → Call
call_of (Connect address) = ConnectCall (string_bytes address)
call_of (Listen address) = ListenCall (string_bytes address)
call_of Accept = AcceptCall

abbrev pub piece_of : KeptPiece → Piece
piece_of p = record { bytes = p.bytes.items; sent_before = p.sent_before }

abbrev pub shelf_call_of : KeptShelfCall → ShelfCall
shelf_call_of (Read name) = ReadCall (string_bytes name)
shelf_call_of (Save name) = SaveCall (string_bytes name)

abbrev pub content_entry : String Global × Vec ℕ Global → Content
content_entry e = record { name = string_bytes e.0; bytes = e.1.items }

abbrev pub contents_of : List (String Global × Vec ℕ Global) → List Content
contents_of held = map content_entry held

-- the bytes of the first entry with that name
abbrev pub content_among : List Content → List ℕ → Option (List ℕ)
content_among contents name = option_map (λ c. c.bytes) (find (is_named name) contents)

-- the entries with other names
abbrev pub others_among : List Content → List ℕ → List Content
others_among contents name = filter (λ c. not (is_named name c)) contents
