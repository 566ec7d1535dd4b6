-- Pools behind some of the messages of a piece.
use Rattle.std.proofs.Common.{◌≡◌, ℕ, zero, suc, ◌≤◌, List, [], ◌++◌, length, Option, Some, None, Result, Ok, Err, refl, sym, ap, ◌∙◌, subst, arith, append-nil, ◌⊎◌, inl, inr}
use Rattle.std.specs.List.{Contains}
use Rattle.std.proofs.lemmas.List.Elements.{Contains-append_left}
use Rattle.wire_rules.specs.Reading.{message_of}
use Rattle.wire_rules.specs.Stream.{Front, PartialFrame, WholeFrame, FaultyFrame, front_of}
use Rattle.wire_rules.specs.declared.faults.PayloadFault.{PayloadFault}
use Rattle.wire_rules.specs.declared.message.Message.{Message}
use Rattle.pool_rules.specs.Pools.{Transaction}
use Rattle.node_rules.specs.State.{NodeState}
use Rattle.node_rules.specs.Steps.{on_message, next_unless_ended, at_message, at_front, on_frames, on_unread, without_unread_by, with_piece, on_piece_by, on_piece, after_frame}
use Rattle.node_rules.specs.Turns.{Turn}
use Rattle.node_rules.specs.declared.end.End.{End}
use Rattle.node_laws.proofs.Handling.{on_frames-all}
use Rattle.node_laws.proofs.LaterSteps.{on_frames-later}

-- the first list is a front part of the second
pub record IsFront (xs ys : List Transaction) : Type 0 where
  pub rest : List Transaction
  pub whole : ys ≡ xs ++ rest

pub front_same : (xs ys : List Transaction) → ys ≡ xs → IsFront xs ys
front_same xs ys e = record { rest = []; whole = e ∙ sym (append-nil xs) }

pub front_grown : (xs ys : List Transaction) (more : List Transaction) → ys ≡ xs ++ more → IsFront xs ys
front_grown xs ys more e = record { rest = more; whole = e }

pub front_contains : (xs ys : List Transaction) (t : Transaction) → IsFront xs ys → Contains xs t → Contains ys t
front_contains xs ys t f h = subst (λ zs. Contains zs t) (sym f.whole) (Contains-append_left xs f.rest t h)

-- ---- fewer frames leave a front part of the pool that more leave

next-front : (e : Option End) (t : Turn) (p q : NodeState → Turn) → ((s : NodeState) → IsFront (p s).state.pool (q s).state.pool) → IsFront (next_unless_ended e t p).state.pool (next_unless_ended e t q).state.pool
unfolding next_unless_ended
next-front (Some e) t p q h = front_same t.state.pool t.state.pool refl
next-front None t p q h = h t.state

message-front : (r : Result Message PayloadFault) (s : NodeState) (p q : NodeState → Turn) → ((u : NodeState) → IsFront (p u).state.pool (q u).state.pool) → IsFront (at_message r s p).state.pool (at_message r s q).state.pool
unfolding at_message
message-front (Ok m) s p q h = next-front (on_message s m).state.ended (on_message s m) p q h
message-front (Err f) s p q h = front_same s.pool s.pool refl

at_front-front : (front : Front) (s : NodeState) (p q : NodeState → Turn) → ((u : NodeState) → IsFront (p u).state.pool (q u).state.pool) → IsFront (at_front front s p).state.pool (at_front front s q).state.pool
unfolding at_front
at_front-front PartialFrame s p q h = front_same s.pool s.pool refl
at_front-front (FaultyFrame f) s p q h = front_same s.pool s.pool refl
at_front-front (WholeFrame frame size) s p q h = message-front (message_of frame) (after_frame s size) p q h

fewer_frames : (n m : ℕ) → n ≤ m → (s : NodeState) → IsFront (on_frames n s).state.pool (on_frames m s).state.pool
unfolding on_frames
fewer_frames zero m le s = let later = on_frames-later m s in front_grown s.pool (on_frames m s).state.pool later.new_held later.pool
fewer_frames (suc n) zero le s = absurd (omega arith)
fewer_frames (suc n) (suc m) le s =
    at_front-front (front_of s.config.magic s.inbox.offset s.inbox.unread) s (on_frames n) (on_frames m)
    (fewer_frames n m (omega arith))

either : (n m : ℕ) → (n ≤ m) ⊎ (m ≤ n)
either zero m = inl (omega arith)
either (suc n) zero = inr (omega arith)
either (suc n) (suc m) = elim (either n m) [ inl h ↦ inl (omega arith) | inr h ↦ inr (omega arith) ]

some_frames : (n : ℕ) (s : NodeState) → IsFront (on_frames n s).state.pool (on_unread s).state.pool
some_frames n s =
    elim (either n (length s.inbox.unread)) [
      | inl h ↦ fewer_frames n (length s.inbox.unread) h s
      | inr h ↦ front_same (on_frames n s).state.pool (on_unread s).state.pool (sym (ap (λ t. t.state.pool) (on_frames-all n s h)))
    ]

pool_without_unread : (e : Option End) (t : Turn) → (without_unread_by e t).state.pool ≡ t.state.pool
unfolding without_unread_by
pool_without_unread (Some e) t = refl
pool_without_unread None t = refl

whole_piece : (e : Option End) (s : NodeState) (piece : List ℕ) → e ≡ None → (on_piece_by e s piece).state.pool ≡ (on_unread (with_piece s piece)).state.pool
unfolding on_piece_by
whole_piece (Some e) s piece h = absurd (cc)
whole_piece None s piece h = pool_without_unread (on_unread (with_piece s piece)).state.ended (on_unread (with_piece s piece))

-- so does a part of a piece
pub part-front : (n : ℕ) (s : NodeState) (piece : List ℕ) → s.ended ≡ None → IsFront (on_frames n (with_piece s piece)).state.pool (on_piece s piece).state.pool
part-front n s piece e = subst (IsFront (on_frames n (with_piece s piece)).state.pool) (sym (whole_piece s.ended s piece e)) (some_frames n (with_piece s piece))
