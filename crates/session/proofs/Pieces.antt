-- One more piece at the end of those that a session has received.
use Rattle.std.proofs.Common.{◌≡◌, ℕ, List, [], ◌∷◌, ◌++◌, refl, ap, ◌∙◌, append-nil}
use Rattle.std.proofs.lemmas.List.{map-append}
use Rattle.std.proofs.lemmas.List.Folds.{concat-append}
use Rattle.std.specs.List.{concat}
use Rattle.link_rules.specs.Links.{Piece, bytes_of_pieces}
use Rattle.session_rules.specs.Session.{AreInTime, IsInTime, Session, after_piece, after_pieces}

pub after_pieces-append : (rounds : ℕ) (x : Session) (ps : List (List ℕ)) (p : List ℕ) → after_pieces rounds x (ps ++ p ∷ []) ≡ after_piece rounds (after_pieces rounds x ps) p
unfolding after_pieces
after_pieces-append rounds x [] p = refl
after_pieces-append rounds x (q ∷ ps) p = after_pieces-append rounds (after_piece rounds x q) ps p

pub bytes_of_pieces-append : (ps : List Piece) (p : Piece) → bytes_of_pieces (ps ++ p ∷ []) ≡ bytes_of_pieces ps ++ p.bytes ∷ []
bytes_of_pieces-append ps p = map-append (λ (q : Piece). q.bytes) ps (p ∷ [])

pub after_pieces-with : (rounds : ℕ) (x : Session) (ps : List Piece) (p : Piece) → after_pieces rounds x (bytes_of_pieces (ps ++ p ∷ [])) ≡ after_piece rounds (after_pieces rounds x (bytes_of_pieces ps)) p.bytes
after_pieces-with rounds x ps p = ap (after_pieces rounds x) (bytes_of_pieces-append ps p) ∙ after_pieces-append rounds x (bytes_of_pieces ps) p.bytes

pub received-append : (ps : List Piece) (p : Piece) → concat (bytes_of_pieces (ps ++ p ∷ [])) ≡ concat (bytes_of_pieces ps) ++ p.bytes
received-append ps p =
    ap concat (bytes_of_pieces-append ps p) ∙ (concat-append (bytes_of_pieces ps) (p.bytes ∷ []) ∙ ap (λ r. concat (bytes_of_pieces ps) ++ r) (append-nil p.bytes))

pub AreInTime-append : (rounds : ℕ) (x : Session) (ps : List Piece) (p : Piece) → AreInTime rounds x ps → IsInTime rounds (after_pieces rounds x (bytes_of_pieces ps)) p → AreInTime rounds x (ps ++ p ∷ [])
unfolding AreInTime after_pieces
AreInTime-append rounds x [] p so_far last = (last, tt)
AreInTime-append rounds x (q ∷ ps) p so_far last = (so_far.0, AreInTime-append rounds (after_piece rounds x q.bytes) ps p so_far.1 last)
