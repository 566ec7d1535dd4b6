-- What a header says in front of unread bytes.
use Rattle.std.proofs.Common.{◌≡◌, ℕ, ◌+◌, ◌<◌, ◌≤◌, Bool, true, false, List, Option, Some, None, length, take, drop, bytes_eq, nat_le, refl, sym, subst, ap, ◌∙◌, arith, length-drop}
use Rattle.std.proofs.lemmas.Bool.{lt-leb, le-leb}
use Rattle.wire_rules.specs.Commands.{is_command}
use Rattle.wire_rules.specs.Layout.{checksum}
use Rattle.wire_rules.specs.Stream.{Front, PartialFrame, WholeFrame, FaultyFrame, Header, front_by_checksum, front_by_header, front_by_length, front_by_payload, front_of, front_of_payload, header_fault, header_of, fault_of_header, later_offset}
use Rattle.wire_rules.specs.declared.frame.FrameFault.{FrameFault}
use Rattle.wire_rules.specs.declared.frame.FrameFault.TheVariants as fault
use Rattle.wire_rules.specs.declared.limits.TheConstants.{PAYLOAD_LIMIT}
use Rattle.stream_laws.proofs.Found.{length_judged}
use Rattle.p2p_frame.specs.Feeding.{Feed, IsWhole, feed_after, feed_behind, feed_front}

module _ (magic : List ℕ) (offset : ℕ) (h : Header) where
  pub magic-fault : bytes_eq magic h.magic ≡ false → fault_of_header magic offset h ≡ Some (fault.BadMagic offset)
  unfolding header_fault
  magic-fault m = ap (λ b. header_fault offset h.size b (is_command h.command) (nat_le h.size PAYLOAD_LIMIT)) m

  pub command-fault : bytes_eq magic h.magic ≡ true → is_command h.command ≡ false → fault_of_header magic offset h ≡ Some (fault.BadCommand offset)
  unfolding header_fault
  command-fault m c = λ i. header_fault offset h.size (m i) (c i) (nat_le h.size PAYLOAD_LIMIT)

  pub size-fault : bytes_eq magic h.magic ≡ true → is_command h.command ≡ true → PAYLOAD_LIMIT < h.size → fault_of_header magic offset h ≡ Some (fault.TooLong offset h.size)
  unfolding header_fault
  size-fault m c w = let within = lt-leb h.size PAYLOAD_LIMIT w in λ i. header_fault offset h.size (m i) (c i) (within i)

  pub no-fault : bytes_eq magic h.magic ≡ true → is_command h.command ≡ true → h.size ≤ PAYLOAD_LIMIT → fault_of_header magic offset h ≡ None
  unfolding header_fault
  no-fault m c w = let within = le-leb h.size PAYLOAD_LIMIT w in λ i. header_fault offset h.size (m i) (c i) (within i)

-- bytes that this header stands in front of, and these behind it
module _ (magic : List ℕ) (offset : ℕ) (bytes : List ℕ) (h : Header) (behind : List ℕ) (long : 24 ≤ length bytes) (first : h ≡ header_of bytes) (rest : behind ≡ drop 24 bytes) where
  judged : front_of magic offset bytes ≡ front_by_header (fault_of_header magic offset h) offset h behind
  unfolding front_by_length
  judged = ap (λ b. front_by_length b magic offset bytes) (le-leb 24 (length bytes) long) ∙ (λ i. front_by_header (fault_of_header magic offset (sym first i)) offset (sym first i) (sym rest i))

  pub faulty-front : (stop : FrameFault) → fault_of_header magic offset h ≡ Some stop → front_of magic offset bytes ≡ FaultyFrame stop
  unfolding front_by_header
  faulty-front stop e = judged ∙ ap (λ o. front_by_header o offset h behind) e

  module _ (sound : fault_of_header magic offset h ≡ None) where
    told : front_of magic offset bytes ≡ front_by_payload (nat_le h.size (length behind)) offset h behind
    unfolding front_by_header
    told = judged ∙ ap (λ o. front_by_header o offset h behind) sound

    pub cut-front : length behind < h.size → front_of magic offset bytes ≡ PartialFrame
    unfolding front_by_payload
    cut-front few = told ∙ ap (λ b. front_by_payload b offset h behind) (lt-leb h.size (length behind) few)

    module _ (there : h.size ≤ length behind) where
      summed : front_of magic offset bytes ≡ front_of_payload offset h (take h.size behind)
      unfolding front_by_payload
      summed = told ∙ ap (λ b. front_by_payload b offset h behind) (le-leb h.size (length behind) there)

      pub sum-front : (computed : List ℕ) → computed ≡ checksum (take h.size behind) → bytes_eq h.sum computed ≡ false → front_of magic offset bytes ≡ FaultyFrame (fault.BadChecksum offset h.sum computed)
      unfolding front_by_checksum
      sum-front computed same e =
          summed
          ∙ (ap (λ b. front_by_checksum b offset h (take h.size behind)) (ap (bytes_eq h.sum) (sym same) ∙ e)
          ∙ ap (λ sum. FaultyFrame (fault.BadChecksum offset h.sum sum)) (sym same))

      pub whole-front : (computed : List ℕ) → computed ≡ checksum (take h.size behind) → bytes_eq h.sum computed ≡ true
          → front_of magic offset bytes ≡ WholeFrame (record { command = h.command; payload = take h.size behind }) (24 + h.size)
      unfolding front_by_checksum
      whole-front computed same e = summed ∙ ap (λ b. front_by_checksum b offset h (take h.size behind)) (ap (bytes_eq h.sum) (sym same) ∙ e)

-- a whole frame in front has the size that its header tells
passed_by : (x : Front) (s : Feed) → feed_front s ≡ x → IsWhole x
    → (24 ≤ length s.unread) × ((24 + (header_of s.unread).size ≤ length s.unread) × (feed_after x s ≡ feed_behind s (24 + (header_of s.unread).size)))
passed_by PartialFrame s e whole = absurd whole
passed_by (FaultyFrame stop) s e whole = absurd whole
passed_by (WholeFrame f n) s e whole =
    let j = length_judged (nat_le 24 (length s.unread)) s.magic s.place s.unread f n refl e in
    let long = j.0 in let enough = j.1.enough in let left = length-drop 24 s.unread in
    (long, (omega arith, ap (feed_behind s) (sym j.1.size)))

module _ (s : Feed) (whole : IsWhole (feed_front s)) where
  pub passed-long : 24 ≤ length s.unread
  passed-long = (passed_by (feed_front s) s refl whole).0

  module _ (size : ℕ) (told : size ≡ 24 + (header_of s.unread).size) where
    pub passed-within : size ≤ length s.unread
    passed-within = subst (λ n. n ≤ length s.unread) (sym told) (passed_by (feed_front s) s refl whole).1.0

    pub passed-behind : feed_after (feed_front s) s ≡ feed_behind s size
    passed-behind = (passed_by (feed_front s) s refl whole).1.1 ∙ ap (feed_behind s) (sym told)

  -- no fault was answered before it
  pub passed-open : (stop : FrameFault) → feed_front s ≡ FaultyFrame stop → ⊥
  passed-open stop e = subst IsWhole e whole
