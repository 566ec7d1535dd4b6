-- What the calls of a wire make of the link of a session.
use Rattle.std.proofs.Common.{◌≡◌, ℕ, ◌<◌, false, true, List, [], ◌∷◌, ◌++◌, length, take, Option, Some, None, refl, sym, ap, subst, ◌∙◌, append_assoc, append-nil, Bool}
use Rattle.std.specs.List.{concat}
use Rattle.link_rules.specs.Links.{Link, Piece, bytes_of_pieces, new_link, received_bytes}
use Rattle.erlay_base.specs.Told.{AreTold}
use Rattle.erlay_base.specs.WireCalls.{IsReceivedPiece, IsUnused}
use Rattle.session.specs.Standing.{IsLinkSince}
use Rattle.session.proofs.Pieces.{received-append}

abbrev pub with_sent : Link → List ℕ → Link
with_sent link bytes = record link { sent = link.sent ++ bytes }

pub since-sent : (before told after : Option Link) (now : Link) (bytes : List ℕ) → IsLinkSince before told now → AreTold told after (λ a b. b ≡ with_sent a bytes) → IsLinkSince before after (with_sent now bytes)
unfolding IsLinkSince
since-sent None told after now bytes h e = tt
since-sent (Some old) told after now bytes h e = (sent-some after (subst (λ (t : Option Link). AreTold t after (λ a b. b ≡ with_sent a bytes)) h.0 e), h.1, h.2)
  where
    sent-some : (t : Option Link) → AreTold (Some now) t (λ a b. b ≡ with_sent a bytes) → t ≡ Some (with_sent now bytes)
    sent-some None e = absurd e
    sent-some (Some link) e = ap Some e

pub since-same : (before told after : Option Link) (now : Link) → IsLinkSince before told now → AreTold told after (λ a b. b ≡ a) → IsLinkSince before after now
unfolding IsLinkSince
since-same None told after now h e = tt
since-same (Some old) told after now h e = (same after (subst (λ (t : Option Link). AreTold t after (λ a b. b ≡ a)) h.0 e), h.1, h.2)
  where
    same : (t : Option Link) → AreTold (Some now) t (λ a b. b ≡ a) → t ≡ Some now
    same None e = absurd e
    same (Some link) e = ap Some e

-- ---- a piece

abbrev pub piece_behind : Link → List ℕ → Piece
piece_behind link bytes = record { bytes = bytes; sent_before = length link.sent }

abbrev pub with_piece : Link → List ℕ → Link
with_piece link bytes = record link { pieces = link.pieces ++ piece_behind link bytes ∷ [] }

-- a link behind another, with these pieces more
pub record IsNext (before after : Option Link) (now : Link) (pieces : List Piece) (input : Bool) : Type 0 where
  pub next : Link
  pub since : IsLinkSince before after next
  pub pieces_are : next.pieces ≡ now.pieces ++ pieces
  pub sent : next.sent ≡ now.sent
  pub input_is : next.input_ended ≡ input

received-with : (now next : Link) (bytes : List ℕ) → next.pieces ≡ now.pieces ++ piece_behind now bytes ∷ [] → received_bytes next ≡ received_bytes now ++ bytes
received-with now next bytes e = ap (λ (ps : List Piece). concat (bytes_of_pieces ps)) e ∙ received-append now.pieces (piece_behind now bytes)

pub next-piece : (before told after : Option Link) (now : Link) (n : ℕ) (buf : List ℕ) → IsLinkSince before told now → 0 < n → AreTold told after (IsReceivedPiece n buf) → IsNext before after now (piece_behind now (take n buf) ∷ []) now.input_ended
unfolding IsLinkSince
next-piece None told after now n buf h some e = record { next = with_piece now (take n buf); since = tt; pieces_are = refl; sent = refl; input_is = refl }
next-piece (Some old) told after now n buf h some e = piece-some after (subst (λ (t : Option Link). AreTold t after (IsReceivedPiece n buf)) h.0 e)
  where
    piece-some : (t : Option Link) → AreTold (Some now) t (IsReceivedPiece n buf) → IsNext (Some old) t now (piece_behind now (take n buf) ∷ []) now.input_ended
    piece-some None e = absurd e
    piece-some (Some link) e = record {
      next = link;
      since = (
        refl,
        h.1 ∙ (ap (λ c. received_bytes now ++ c) e.bytes ∙ (sym (append_assoc (received_bytes now) (take n buf) link.coming) ∙ ap (λ r. r ++ link.coming) (sym (received-with now link (take n buf) (e.piece some))))),
        e.calls ∙ h.2,
      );
      pieces_are = e.piece some;
      sent = e.sent;
      input_is = e.input.more some;
    }

-- the input has ended
pub next-end : (before told after : Option Link) (now : Link) (n : ℕ) (buf : List ℕ) → IsLinkSince before told now → n ≡ 0 → 0 < length buf → AreTold told after (IsReceivedPiece n buf) → IsNext before after now [] true
unfolding IsLinkSince
next-end None told after now n buf h none room e = record { next = record now { input_ended = true }; since = tt; pieces_are = sym (append-nil now.pieces); sent = refl; input_is = refl }
next-end (Some old) told after now n buf h none room e = end-some after (subst (λ (t : Option Link). AreTold t after (IsReceivedPiece n buf)) h.0 e)
  where
    end-some : (t : Option Link) → AreTold (Some now) t (IsReceivedPiece n buf) → IsNext (Some old) t now [] true
    end-some None e = absurd e
    end-some (Some link) e =
        let pieces = e.no_piece none in
        let coming : now.coming ≡ link.coming = e.bytes ∙ ap (λ (k : ℕ). take k buf ++ link.coming) none in
        record {
          next = link;
          since = (refl, h.1 ∙ (ap (λ c. received_bytes now ++ c) coming ∙ ap (λ (ps : List Piece). concat (bytes_of_pieces ps) ++ link.coming) (sym pieces)), e.calls ∙ h.2);
          pieces_are = pieces ∙ sym (append-nil now.pieces);
          sent = e.sent;
          input_is = e.input.ended none room;
        }

-- ---- the first one

-- an unused link
pub first-link : (before : Option Link) → IsUnused before → IsNext before before (new_link [] []) [] false
unfolding IsLinkSince
first-link None h = record { next = new_link [] []; since = tt; pieces_are = refl; sent = refl; input_is = refl }
first-link (Some old) h = record {
  next = old;
  since = (refl, ap (λ (ps : List Piece). concat (bytes_of_pieces ps) ++ old.coming) (sym (ap (λ (l : Link). l.pieces) h)), refl);
  pieces_are = ap (λ (l : Link). l.pieces) h;
  sent = ap (λ (l : Link). l.sent) h;
  input_is = ap (λ (l : Link). l.input_ended) h;
}
