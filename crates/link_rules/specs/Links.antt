-- What a wire tells of its calls and of its link.
use Rattle.std.specs.Prelude.{ℕ, Bool, false, List, [], length, map}
use Rattle.std.specs.List.{concat}

-- a call that makes a link, with its address
pub data Call : Type 0 where
  ConnectCall : (address : List ℕ) → Call
  ListenCall : (address : List ℕ) → Call
  AcceptCall : Call

-- a piece that was received, and how many bytes had been sent before it
pub record Piece : Type 0 where
  pub bytes : List ℕ
  pub sent_before : ℕ

-- the calls so far; of the link the bytes still to come, the bytes sent and the pieces received; and whether its input has
-- ended, which it has once no byte was received where there was room for one
pub record Link : Type 0 where
  pub calls : List Call
  pub coming : List ℕ
  pub sent : List ℕ
  pub pieces : List Piece
  pub input_ended : Bool

-- a link of which nothing was used yet, over which these bytes will come
abbrev pub new_link : List Call → List ℕ → Link
new_link calls coming = record { calls = calls; coming = coming; sent = []; pieces = []; input_ended = false }

abbrev pub bytes_of_pieces : List Piece → List (List ℕ)
bytes_of_pieces pieces = map (λ p. p.bytes) pieces

abbrev pub pieces_of : Link → List (List ℕ)
pieces_of link = bytes_of_pieces link.pieces

-- all bytes received
abbrev pub received_bytes : Link → List ℕ
received_bytes link = concat (pieces_of link)
