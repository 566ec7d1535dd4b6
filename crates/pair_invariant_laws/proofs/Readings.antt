-- A piece of bytes is taken as the messages that become whole with it.
use Rattle.std.proofs.Common.{◌≡◌, ℕ, ◌<◌, ◌≤◌, List, [], ◌∷◌, ◌++◌, length, take, None, refl, sym, ap, subst, ◌∙◌, arith, append_assoc, ⊎_elim}
use Rattle.std.specs.List.{AllByRecursion}
use Rattle.std.proofs.lemmas.Bool.{cases_lt}
use Rattle.std.proofs.Math.Seq.{take-append_seam}
use Rattle.wire_rules.specs.Layout.{frame_of, message_bytes, wire_bytes}
use Rattle.wire_rules.specs.Limits.{IsMessage}
use Rattle.wire_rules.specs.Stream.{PartialFrame, Stream, front_of, front_by_length}
use Rattle.wire_rules.specs.declared.message.Message.{Message}
use Rattle.wire_laws.proofs.Sound.{frame_of-sound}
use Rattle.stream_laws.proofs.Fronts.{front_of-cut}
use Rattle.stream_laws.proofs.Offsets.{later_offset-low}
use Rattle.node_rules.specs.State.{NodeState}
use Rattle.node_rules.specs.Steps.{on_messages, on_piece}
use Rattle.node_rules.specs.Turns.{Turn}
use Rattle.node_laws.specs.Streams.{IsTakenAs}
use Rattle.node_laws.proofs.Streaming.{on_messages-inbox, on_piece-stream, on_piece-rest}
use Rattle.pair_invariant_rules.specs.Pairs.{without_inbox, no_inbox, AreOnTheWay, HasTaken}

-- a list that begins as another, which is no longer, goes on behind it
split_at : {A : Type 0} (a b u v : List A) → u ++ v ≡ a ++ b → length a ≤ length u → (more : List A) × (u ≡ a ++ more) × (more ++ v ≡ b)
split_at [] b u v e h = (u, refl, e)
split_at (x ∷ a) b [] v e h = absurd (omega arith)
split_at {A} (x ∷ a) b (y ∷ u) v e h =
    let head : y ≡ x = cc in
    let tail : u ++ v ≡ a ++ b = cc in
    let r : (more : List A) × (u ≡ a ++ more) × (more ++ v ≡ b) = split_at a b u v tail (omega arith) in
    (r.0, ap (λ z. z ∷ u) head ∙ ap (λ zs. x ∷ zs) r.1, r.2)

-- a list that begins as another, which is longer, is the front of that one
front_is : {A : Type 0} (a b u v : List A) → u ++ v ≡ a ++ b → length u ≤ length a → u ≡ take (length u) a
front_is {A} a b u v e h =
    let r : (more : List A) × (a ≡ u ++ more) × (more ++ b ≡ v) = split_at u v a b (sym e) h in
    sym (ap (take (length u)) r.1 ∙ take-append_seam u r.0)

-- bytes that have come of the frames of messages, of which others are still on a wire: some messages are whole, and an
-- unfinished rest stands behind them
record IsCut (magic bytes wire : List ℕ) (ms : List Message) : Type 0 where
  taken : List Message
  left : List Message
  rest : List ℕ
  all : ms ≡ taken ++ left
  stream : Stream magic bytes taken rest
  behind : rest ++ wire ≡ wire_bytes magic left

module _ (magic wire : List ℕ) (four : length magic ≡ 4) where
  -- nothing is whole
  cut_none : (ms : List Message) (bytes : List ℕ) → bytes ++ wire ≡ wire_bytes magic ms → front_of magic 0 bytes ≡ PartialFrame → IsCut magic bytes wire ms
  cut_none ms bytes e part = record {
    taken = [];
    left = ms;
    rest = bytes;
    all = refl;
    stream = record { whole = refl; each = tt; partial = record { front = part } };
    behind = e;
  }

  no_bytes : (bytes : List ℕ) → bytes ++ wire ≡ [] → front_of magic 0 bytes ≡ PartialFrame
  unfolding front_by_length
  no_bytes [] e = refl
  no_bytes (x ∷ bytes) e = absurd (cc)

  cut_part : (m : Message) (ms : List Message) (bytes : List ℕ) → IsMessage m → bytes ++ wire ≡ wire_bytes magic (m ∷ ms) → length bytes < length (message_bytes magic m) → IsCut magic bytes wire (m ∷ ms)
  cut_part m ms bytes sent e less =
      cut_none (m ∷ ms) bytes e
      (ap (front_of magic 0) (front_is (message_bytes magic m) (wire_bytes magic ms) bytes wire e (omega (arith, less))) ∙ front_of-cut magic 0 (frame_of m) (length bytes) four (frame_of-sound m sent) less)

  cut_of : (ms : List Message) (bytes : List ℕ) → AllByRecursion IsMessage ms → bytes ++ wire ≡ wire_bytes magic ms → IsCut magic bytes wire ms
  cut_of [] bytes each e = cut_none [] bytes e (no_bytes bytes e)
  cut_of (m ∷ ms) bytes each e =
      ⊎_elim
      (λ less. cut_part m ms bytes each.0 e less)
      (λ enough.
      let cut = split_at (message_bytes magic m) (wire_bytes magic ms) bytes wire e enough in
      let r : IsCut magic cut.0 wire ms = cut_of ms cut.0 each.1 cut.2 in
      record {
        taken = m ∷ r.taken;
        left = r.left;
        rest = r.rest;
        all = ap (λ xs. m ∷ xs) r.all;
        stream = record {
          whole = cut.1 ∙ ap (λ xs. message_bytes magic m ++ xs) r.stream.whole ∙ sym (append_assoc (message_bytes magic m) (wire_bytes magic r.taken) r.rest);
          each = (each.0, r.stream.each);
          partial = r.stream.partial;
        };
        behind = r.behind;
      })
      (cases_lt (length bytes) (length (message_bytes magic m)))

pub on_piece-taken : (s : NodeState) (piece wire : List ℕ) (ms : List Message) → length s.config.magic ≡ 4 → s.ended ≡ None → AllByRecursion IsMessage ms
    → AreOnTheWay s.config.magic s.inbox (piece ++ wire) ms → HasTaken s wire ms (on_piece s piece)
on_piece-taken s piece wire ms four going each way =
    let cut : IsCut s.config.magic (s.inbox.unread ++ piece) wire ms = cut_of s.config.magic wire four ms (s.inbox.unread ++ piece) each (append_assoc s.inbox.unread piece wire ∙ way.whole) in
    let whole : IsTakenAs (on_messages s cut.taken) (on_piece s piece) = on_piece-stream s piece cut.taken cut.rest four way.offset going cut.stream in
    let bare = on_messages-inbox cut.taken s no_inbox in
    record {
      taken = cut.taken;
      left = cut.left;
      all = cut.all;
      state = ap (λ (t : Turn). without_inbox t.state) whole.same ∙ sym (ap (λ (t : Turn). t.state) bare);
      out = ap (λ (t : Turn). t.out) whole.same ∙ sym (ap (λ (t : Turn). t.out) bare);
      way = λ still.
          subst (λ i. AreOnTheWay s.config.magic i wire cut.left) (sym (on_piece-rest s piece cut.taken cut.rest four way.offset going cut.stream (sym (ap (λ (t : Turn). t.state.ended) whole.same) ∙ still)))
          (record { offset = later_offset-low s.inbox.offset (length (wire_bytes s.config.magic cut.taken)); whole = cut.behind; partial = cut.stream.partial });
    }
