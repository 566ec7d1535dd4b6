-- Each message that may be sent is read back from its shown line.
use Rattle.std.proofs.Common.{◌≡◌, ℕ, ◌^◌, ◌==◌, ◌&&◌, Bool, true, false, not, is_some, List, [], ◌∷◌, Option, Some, None, length, nat_lt, nat_le, map, codes, bytes_eq, if◌then◌else◌, refl, sym, ap, subst, ◌∙◌, arith, suc, lit≤}
use Rattle.std.specs.List.{AllByRecursion, join_with_byte, list_all}
use Rattle.std.specs.Cmp.Lexicographic.{same_text}
use Rattle.std.specs.Fmt.{decimal}
use Rattle.std.proofs.lemmas.Bool.{eqb-true, leb-true, le-leb, ltb-true, and_from, and_parts}
use Rattle.hex.specs.Hex.{encode_lower}
use Rattle.line_rules.specs.Digits.{eight_digits}
use Rattle.line_rules.specs.Numbers.{number_of}
use Rattle.id_rules.specs.Bytes.{are_bytes}
use Rattle.wire_rules.specs.Commands.{has_printable_start, is_command, is_filled, is_printable, name_at, word_of}
use Rattle.wire_rules.specs.Limits.{IsMessage, is_in_range, is_entry, is_message, is_within_limits}
use Rattle.wire_rules.specs.Shown.{IsShown, bytes_word, entry_word, flag_word, salt_word, message_text, version_words, words_of}
use Rattle.wire_rules.specs.ShownReading.{bytes_of, message_if_shown, items_of, entry_of, fields_of, flag_of, message_of_many, message_of_fields, shown_message, message_of_name, salt_of, short_of, version_of_fields, ◌>>=◌}
use Rattle.wire_rules.specs.declared.limits.TheConstants.{PAYLOAD_LIMIT}
use Rattle.wire_rules.specs.declared.message.InvEntry.{InvEntry}
use Rattle.wire_rules.specs.declared.message.Message.{Message}
use Rattle.wire_rules.specs.declared.message.Message.TheVariants as message
use Rattle.wire_rules.specs.declared.message.VersionMsg.{VersionMsg}
use Rattle.wire_rules.specs.declared.name.Name.{Name}
use Rattle.wire_rules.specs.declared.name.Name.TheVariants as name
use Rattle.wire_laws.proofs.Parts.{VersionRanges, bytes_eq-self, version_ranges}
use Rattle.shown_laws.proofs.Fields.{IsSpaceless, fields-joined, spaceless}
use Rattle.shown_laws.proofs.Words.{Reads, bytes-reads, each-said, each-spaces, entry-reads, flag-reads, number-reads, relay-reads, salt-reads, short-reads, signed-reads, some-bytes-reads, then_some}

-- the fields of a message, which are read as the message
record HasWords (m : Message) : Type 0 where
  first : List ℕ
  more : List (List ℕ)
  words : words_of m ≡ first ∷ more
  spaces : AllByRecursion IsSpaceless (first ∷ more)
  said : message_of_fields (first ∷ more) ≡ Some m

-- ---- the command, first

word_spaces : (n : Name) → spaceless (word_of n) ≡ true
unfolding word_of
word_spaces name.Version = refl
word_spaces name.Verack = refl
word_spaces name.WtxidRelay = refl
word_spaces name.SendTxRcncl = refl
word_spaces name.ReqRecon = refl
word_spaces name.Sketch = refl
word_spaces name.ReqSketchExt = refl
word_spaces name.ReconcilDiff = refl
word_spaces name.Inv = refl
word_spaces name.GetData = refl
word_spaces name.NotFound = refl
word_spaces name.Tx = refl
word_spaces name.Ping = refl
word_spaces name.Pong = refl

-- a word that isn't `other`, and is the name's
word_said : (n : Name) (fields : List (List ℕ)) → message_of_fields (word_of n ∷ fields) ≡ message_of_name n fields
unfolding word_of message_of_fields
word_said name.Version fields = refl
word_said name.Verack fields = refl
word_said name.WtxidRelay fields = refl
word_said name.SendTxRcncl fields = refl
word_said name.ReqRecon fields = refl
word_said name.Sketch fields = refl
word_said name.ReqSketchExt fields = refl
word_said name.ReconcilDiff fields = refl
word_said name.Inv fields = refl
word_said name.GetData fields = refl
word_said name.NotFound fields = refl
word_said name.Tx fields = refl
word_said name.Ping fields = refl
word_said name.Pong fields = refl

named_words : (n : Name) (fields : List (List ℕ)) (m : Message) → words_of m ≡ word_of n ∷ fields → AllByRecursion IsSpaceless fields → message_of_name n fields ≡ Some m → HasWords m
named_words n fields m words spaces e =
    record { first = word_of n; more = fields; words = words; spaces = (record { none = word_spaces n }, spaces); said = word_said n fields ∙ e }

-- ---- a version

version_said_back : (v : VersionMsg) → VersionRanges v → AllByRecursion IsSpaceless (version_words v) × (version_of_fields (version_words v) ≡ Some (message.Version v))
unfolding version_of_fields
version_said_back v ranges =
    let version = signed-reads 31 v.version (lit≤ tt) ranges.version in
    let services = number-reads v.services (ltb-true v.services (2 ^ 64) ranges.services) in
    let time = signed-reads 63 v.time (lit≤ tt) ranges.time in
    let receiver = bytes-reads v.receiver (and_parts (length v.receiver == 26) (are_bytes v.receiver) ranges.receiver).1 in
    let sender = bytes-reads v.sender (and_parts (length v.sender == 26) (are_bytes v.sender) ranges.sender).1 in
    let nonce = number-reads v.nonce (ltb-true v.nonce (2 ^ 64) ranges.nonce) in
    let agent = bytes-reads v.agent ranges.agent in
    let height = signed-reads 31 v.height (lit≤ tt) ranges.height in
    let relay = relay-reads v.relay ranges.relay in (
      (version.spaces, (services.spaces, (time.spaces, (receiver.spaces, (sender.spaces, (nonce.spaces, (agent.spaces, (height.spaces, (relay.spaces, tt))))))))),
      then_some _ _ _ _ version.said (then_some _ _ _ _ services.said (then_some _ _ _ _ time.said (then_some _ _ _ _ receiver.said (then_some _ _ _ _ sender.said
          (then_some _ _ _ _ nonce.said (then_some _ _ _ _ agent.said (then_some _ _ _ _ height.said (then_some _ _ _ _ relay.said refl)))))))),
    )

-- ---- another command

zeros : (xs : List ℕ) → list_all (λ c. c == 0) xs ≡ true → are_bytes xs ≡ true
zeros [] h = refl
zeros (x ∷ xs) h =
    let tests = and_parts (x == 0) (list_all (λ c. c == 0) xs) h in
    and_from (nat_lt x (2 ^ 8)) (are_bytes xs) (ap (λ n. nat_lt n (2 ^ 8)) (eqb-true x 0 tests.0)) (zeros xs tests.1)

filled_by : (test : Bool) (x : ℕ) (xs : List ℕ) → is_printable x ≡ test → (is_filled xs ≡ true → are_bytes xs ≡ true) → (if test then is_filled xs else list_all (λ c. c == 0) (x ∷ xs)) ≡ true → are_bytes (x ∷ xs) ≡ true
filled_by true x xs e more h =
    let low = leb-true x 0x7E (and_parts (nat_le 0x20 x) (nat_le x 0x7E) e).1 in
    and_from (nat_lt x (2 ^ 8)) (are_bytes xs) (le-leb (suc x) (2 ^ 8) (omega arith)) (more h)
filled_by false x xs e more h = zeros (x ∷ xs) h

pub filled_bytes : (xs : List ℕ) → is_filled xs ≡ true → are_bytes xs ≡ true
unfolding is_filled
filled_bytes [] h = refl
filled_bytes (x ∷ xs) h = filled_by (is_printable x) x xs refl (filled_bytes xs) h

-- a sound command has bytes, and is read back
command_reads : (c : List ℕ) → is_command c ≡ true → Reads bytes_of (encode_lower c) c
command_reads [] h = absurd (cc)
command_reads (b ∷ rest) h =
    some-bytes-reads b rest (filled_bytes (b ∷ rest) (and_parts ((length (b ∷ rest) == 12) && has_printable_start (b ∷ rest)) (is_filled (b ∷ rest)) h).1)

other_words : (command payload : List ℕ) → is_command command ≡ true → are_bytes payload ≡ true → HasWords (message.Other command payload)
unfolding words_of message_of_fields
other_words command payload h bytes =
    let first = command_reads command h in
    let second = bytes-reads payload bytes in
    record {
      first = codes "other";
      more = encode_lower command ∷ bytes_word payload ∷ [];
      words = refl;
      spaces = (record { none = refl }, (first.spaces, (second.spaces, tt)));
      said = then_some (bytes_of (encode_lower command)) command _ _ first.said (then_some (bytes_of (bytes_word payload)) payload _ _ second.said refl);
    }

-- ---- an inventory

inventory_words : (n : Name) (made : List InvEntry → Message) (es : List InvEntry) → words_of (made es) ≡ word_of n ∷ map entry_word es → list_all is_entry es ≡ true
    → ((fields : List (List ℕ)) → message_of_name n fields ≡ message_of_many entry_of made fields) → HasWords (made es)
inventory_words n made es words h same =
    named_words n (map entry_word es) (made es) words (each-spaces entry_of entry_word is_entry entry-reads es h)
    (same (map entry_word es) ∙ then_some (items_of entry_of (map entry_word es)) es _ _ (each-said entry_of entry_word is_entry entry-reads es h) refl)

-- ---- all

words_by : (m : Message) → is_within_limits m ≡ true → is_in_range m ≡ true → HasWords m
unfolding is_within_limits is_in_range words_of message_of_name
words_by (message.Version v) w r = let back = version_said_back v (version_ranges v r) in named_words name.Version (version_words v) (message.Version v) refl back.0 back.1
words_by message.Verack w r = named_words name.Verack [] message.Verack refl tt refl
words_by message.WtxidRelay w r = named_words name.WtxidRelay [] message.WtxidRelay refl tt refl
words_by (message.SendTxRcncl version salt) w r =
    let tests = and_parts (nat_lt version (2 ^ 32)) (nat_lt salt (2 ^ 64)) r in
    let first = number-reads version (let below = ltb-true version (2 ^ 32) tests.0 in omega arith) in
    let second = salt-reads salt (ltb-true salt (2 ^ 64) tests.1) in
    named_words name.SendTxRcncl (decimal version ∷ salt_word salt ∷ []) (message.SendTxRcncl version salt) refl (first.spaces, (second.spaces, tt))
    (then_some (number_of (decimal version)) version _ _ first.said (then_some (salt_of (salt_word salt)) salt _ _ second.said refl))
words_by (message.ReqRecon size q) w r =
    let tests = and_parts (nat_lt size (2 ^ 16)) (nat_lt q (2 ^ 16)) r in
    let first = number-reads size (let below = ltb-true size (2 ^ 16) tests.0 in omega arith) in
    let second = number-reads q (let below = ltb-true q (2 ^ 16) tests.1 in omega arith) in
    named_words name.ReqRecon (decimal size ∷ decimal q ∷ []) (message.ReqRecon size q) refl (first.spaces, (second.spaces, tt))
    (then_some (number_of (decimal size)) size _ _ first.said (then_some (number_of (decimal q)) q _ _ second.said refl))
words_by (message.Sketch bytes) w r =
    let first = bytes-reads bytes r in
    named_words name.Sketch (bytes_word bytes ∷ []) (message.Sketch bytes) refl (first.spaces, tt) (then_some (bytes_of (bytes_word bytes)) bytes _ _ first.said refl)
words_by message.ReqSketchExt w r = named_words name.ReqSketchExt [] message.ReqSketchExt refl tt refl
words_by (message.ReconcilDiff success asks) w r =
    let first = flag-reads success in
    named_words name.ReconcilDiff (flag_word success ∷ map eight_digits asks) (message.ReconcilDiff success asks) refl
    (first.spaces, each-spaces short_of eight_digits (λ n. nat_lt n (2 ^ 32)) short-reads asks r)
    (then_some (flag_of (flag_word success)) success _ _ first.said (then_some (items_of short_of (map eight_digits asks)) asks _ _ (each-said short_of eight_digits (λ n. nat_lt n (2 ^ 32)) short-reads asks r) refl))
words_by (message.Inv es) w r = inventory_words name.Inv message.Inv es refl r (λ fields. refl)
words_by (message.GetData es) w r = inventory_words name.GetData message.GetData es refl r (λ fields. refl)
words_by (message.NotFound es) w r = inventory_words name.NotFound message.NotFound es refl r (λ fields. refl)
words_by (message.Tx tx) w r =
    let first = bytes-reads tx r in
    named_words name.Tx (bytes_word tx ∷ []) (message.Tx tx) refl (first.spaces, tt) (then_some (bytes_of (bytes_word tx)) tx _ _ first.said refl)
words_by (message.Ping n) w r =
    let first = number-reads n (ltb-true n (2 ^ 64) r) in
    named_words name.Ping (decimal n ∷ []) (message.Ping n) refl (first.spaces, tt) (then_some (number_of (decimal n)) n _ _ first.said refl)
words_by (message.Pong n) w r =
    let first = number-reads n (ltb-true n (2 ^ 64) r) in
    named_words name.Pong (decimal n ∷ []) (message.Pong n) refl (first.spaces, tt) (then_some (number_of (decimal n)) n _ _ first.said refl)
words_by (message.Other command payload) w r =
    let known = and_parts (is_command command && not (is_some (name_at command))) (nat_le (length payload) PAYLOAD_LIMIT) w in
    other_words command payload (and_parts (is_command command) (not (is_some (name_at command))) known.0).0 r

-- the message that a line seems to say is the one that is shown in it
said_back : (m : Message) → HasWords m → message_of_fields (fields_of (message_text m)) ≡ Some m
said_back m h = ap (λ words. message_of_fields (fields_of (join_with_byte 32 words))) h.words ∙ (ap message_of_fields (fields-joined h.first h.more h.spaces) ∙ h.said)

pub shown_message-message_text : (m : Message) → IsMessage m → shown_message (message_text m) ≡ Some m
shown_message-message_text m sent =
    then_some (message_of_fields (fields_of (message_text m))) m (message_if_shown (message_text m)) (Some m) (said_back m (words_by m sent.within sent.ranged))
    (ap (λ t. if t then Some m else None) (and_from (is_message m) (bytes_eq (message_text m) (message_text m)) (and_from (is_within_limits m) (is_in_range m) sent.within sent.ranged) (bytes_eq-self (message_text m))))

one_some : (m n : Message) → (let o : Option Message = Some m in o ≡ Some n) → m ≡ n
one_some m n e = cc

-- the fields of a message's line are the words that it was shown by
pub fields_of-message_text : (m : Message) → IsMessage m → fields_of (message_text m) ≡ words_of m
fields_of-message_text m sent =
    let h = words_by m sent.within sent.ranged in
    ap (λ words. fields_of (join_with_byte 32 words)) h.words ∙ (fields-joined h.first h.more h.spaces ∙ sym h.words)

-- so two messages never share a line
pub message_text-injective : (m n : Message) → IsMessage m → IsMessage n → message_text m ≡ message_text n → m ≡ n
message_text-injective m n sent other e = one_some m n (sym (shown_message-message_text m sent) ∙ (ap shown_message e ∙ shown_message-message_text n other))

-- ---- what is read is shown

checked_by : (t : Bool) (line : List ℕ) (m n : Message) → (is_message m && bytes_eq (message_text m) line) ≡ t → (if t then Some m else None) ≡ Some n → IsShown line n
checked_by false line m n h e = absurd (cc)
checked_by true line m n h e =
    let tests = and_parts (is_message m) (bytes_eq (message_text m) line) h in
    let sent = and_parts (is_within_limits m) (is_in_range m) tests.0 in
    subst (IsShown line) (one_some m n e) (record { sent = record { within = sent.0; ranged = sent.1 }; text = sym (same_text (message_text m) line (sym tests.1)) })

shown_by : (o : Option Message) (line : List ℕ) (m : Message) → (o >>= message_if_shown line) ≡ Some m → IsShown line m
shown_by None line m e = absurd (cc)
shown_by (Some n) line m e = checked_by (is_message n && bytes_eq (message_text n) line) line n m refl e

pub shown_message-line : (line : List ℕ) (m : Message) → shown_message line ≡ Some m → IsShown line m
shown_message-line line m e = shown_by (message_of_fields (fields_of line)) line m e
