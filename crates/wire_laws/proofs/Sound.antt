-- The frame of a message that may be sent is a frame that may be sent.
use Rattle.std.proofs.Common.{◌≡◌, ℕ, zero, suc, ◌+◌, ◌*◌, ◌/◌, ◌%◌, ◌^◌, ◌<◌, ◌≤◌, ◌==◌, ◌&&◌, Bool, true, false, not, is_some, List, [], ◌∷◌, ◌++◌, Option, Some, None, length, nat_lt, nat_le, flat_map, refl, sym, subst, arith, mod-lt, lit<, lit≤, if◌then◌else◌}
use Rattle.std.specs.List.{list_all}
use Rattle.std.specs.Int.{Width, w16, w32, w64, to_le_bytes, bytes_low_first, byte_at, byte_len, cast_unsigned}
use Rattle.std.proofs.lemmas.Bool.{ltb-true, leb-true, and_from, and_parts, le-leb}
use Rattle.std.proofs.lemmas.List.{length-append}
use Rattle.id_rules.specs.Bytes.{are_bytes, are_bytes_of, is_optional_byte}
use Rattle.wire_rules.specs.Commands.{word_of, is_filled, command_of, is_command, name_at}
use Rattle.wire_rules.specs.Layout.{compact_size, counted_bytes, diff_payload, entry_bytes, flag_byte, frame_of, inventory, named_frame, optional_byte, signed_bytes, version_payload}
use Rattle.wire_rules.specs.Limits.{IsFrame, IsMessage, is_in_range, is_entry, is_within_limits}
use Rattle.wire_rules.specs.declared.limits.TheConstants.{LIST_LIMIT, AGENT_LIMIT, PAYLOAD_LIMIT}
use Rattle.wire_rules.specs.declared.message.InvEntry.{InvEntry}
use Rattle.wire_rules.specs.declared.message.Message.{Message}
use Rattle.wire_rules.specs.declared.message.Message.TheVariants as message
use Rattle.wire_rules.specs.declared.message.VersionMsg.{VersionMsg}
use Rattle.wire_rules.specs.declared.name.Name.{Name}
use Rattle.wire_rules.specs.declared.name.Name.TheVariants as name
use Rattle.id_rules.proofs.Bytes.{bytes_join}
use Rattle.wire_laws.proofs.Parts.{VersionRanges, of_length, version_ranges}
use Rattle.wire_laws.proofs.Readers.{two_bytes}

-- ---- bytes

pub byte_small : (i n : ℕ) → nat_lt (byte_at i n) (2 ^ 8) ≡ true
byte_small zero n = le-leb (suc (n % 256)) 256 (mod-lt n (lit< tt))
byte_small (suc i) n = le-leb (suc (n / 256 ^ suc i % 256)) 256 (mod-lt (n / 256 ^ suc i) (lit< tt))

low_bytes : (i k n : ℕ) → are_bytes (bytes_low_first i k n) ≡ true
low_bytes i zero n = refl
low_bytes i (suc k) n = and_from (nat_lt (byte_at i n) (2 ^ 8)) (are_bytes (bytes_low_first (suc i) k n)) (byte_small i n) (low_bytes (suc i) k n)

number_bytes : (w : Width) (n : ℕ) → are_bytes (to_le_bytes w n) ≡ true
number_bytes w n = low_bytes 0 (byte_len w) n

-- ---- lists of items

module _ {A : Type 0} (spell : A → List ℕ) (test : A → Bool) (bytes : (x : A) → test x ≡ true → are_bytes (spell x) ≡ true) (short : (x : A) → test x ≡ true → length (spell x) ≤ 36) where
  items_bytes : (xs : List A) → list_all test xs ≡ true → are_bytes (flat_map spell xs) ≡ true
  items_bytes [] h = refl
  items_bytes (x ∷ xs) h =
      let tests = and_parts (test x) (list_all test xs) h in bytes_join (spell x) (flat_map spell xs) (bytes x tests.0) (items_bytes xs tests.1)

  items_length : (xs : List A) → list_all test xs ≡ true → length (flat_map spell xs) ≤ 36 * length xs
  items_length [] h = lit≤ tt
  items_length (x ∷ xs) h =
      let tests = and_parts (test x) (list_all test xs) h in
      let one = short x tests.0 in
      let more = items_length xs tests.1 in
      let sum = length-append (spell x) (flat_map spell xs) in
      subst (λ n. n ≤ 36 * suc (length xs)) (sym sum) (omega arith)

-- a short id and an entry
short_bytes : (n : ℕ) → nat_lt n (2 ^ 32) ≡ true → are_bytes (to_le_bytes w32 n) ≡ true
short_bytes n h = number_bytes w32 n

short_length : (n : ℕ) → nat_lt n (2 ^ 32) ≡ true → length (to_le_bytes w32 n) ≤ 36
short_length n h = lit≤ tt

module _ (e : InvEntry) (h : is_entry e ≡ true) where
  id_test : are_bytes_of 32 e.id.0 ≡ true
  id_test = (and_parts (nat_lt e.kind (2 ^ 32)) (are_bytes_of 32 e.id.0) h).1

  one_entry_bytes : are_bytes (entry_bytes e) ≡ true
  one_entry_bytes = bytes_join (to_le_bytes w32 e.kind) e.id.0 (number_bytes w32 e.kind) (and_parts (length e.id.0 == 32) (are_bytes e.id.0) id_test).1

  one_entry_length : length (entry_bytes e) ≤ 36
  one_entry_length =
      let size = of_length 32 e.id.0 id_test in
      subst (λ n. n ≤ 36) (sym (length-append (to_le_bytes w32 e.kind) e.id.0)) (omega arith)

-- ---- counts

count_bytes_by : (small : Bool) (n : ℕ) → nat_lt n 0xFD ≡ small → are_bytes (if small then n ∷ [] else 0xFD ∷ to_le_bytes w16 n) ≡ true
count_bytes_by true n h = and_from (nat_lt n (2 ^ 8)) true (le-leb (suc n) (2 ^ 8) (let below = ltb-true n 0xFD h in omega arith)) refl
count_bytes_by false n h = number_bytes w16 n

count_length_by : (small : Bool) (n : ℕ) → length (if small then n ∷ [] else 0xFD ∷ to_le_bytes w16 n) ≤ 3
count_length_by true n = lit≤ tt
count_length_by false n = lit≤ tt

count_bytes : (n : ℕ) → n < 2 ^ 16 → are_bytes (compact_size n) ≡ true
count_bytes n h = subst (λ xs. are_bytes xs ≡ true) (sym (two_bytes n h)) (count_bytes_by (nat_lt n 0xFD) n refl)

count_length : (n : ℕ) → n < 2 ^ 16 → length (compact_size n) ≤ 3
count_length n h = subst (λ xs. length xs ≤ 3) (sym (two_bytes n h)) (count_length_by (nat_lt n 0xFD) n)

-- ---- payloads: so many bytes, and all of them bytes

record Fits (limit : ℕ) (payload : List ℕ) : Type 0 where
  within : length payload ≤ limit
  bytes : are_bytes payload ≡ true

fits-append : (m n : ℕ) (xs ys : List ℕ) → Fits m xs → Fits n ys → Fits (m + n) (xs ++ ys)
fits-append m n xs ys fx fy = record {
  within = let x = fx.within in let y = fy.within in subst (λ k. k ≤ m + n) (sym (length-append xs ys)) (omega arith);
  bytes = bytes_join xs ys fx.bytes fy.bytes;
}

fits-more : (m n : ℕ) (xs : List ℕ) → m ≤ n → Fits m xs → Fits n xs
fits-more m n xs h f = record { within = let w = f.within in omega arith; bytes = f.bytes }

fits-32 : (n : ℕ) → Fits 4 (to_le_bytes w32 n)
fits-32 n = record { within = lit≤ tt; bytes = number_bytes w32 n }

fits-64 : (n : ℕ) → Fits 8 (to_le_bytes w64 n)
fits-64 n = record { within = lit≤ tt; bytes = number_bytes w64 n }

fits-16 : (n : ℕ) → Fits 2 (to_le_bytes w16 n)
fits-16 n = record { within = lit≤ tt; bytes = number_bytes w16 n }

fits-count : (n : ℕ) → n < 2 ^ 16 → Fits 3 (compact_size n)
fits-count n h = record { within = count_length n h; bytes = count_bytes n h }

-- bytes behind their count
fits-counted_bytes : (limit : ℕ) (xs : List ℕ) → length xs ≤ limit → limit < 2 ^ 16 → are_bytes xs ≡ true → Fits (3 + limit) (counted_bytes xs)
fits-counted_bytes limit xs within low bytes = fits-append 3 limit (compact_size (length xs)) xs (fits-count (length xs) (omega arith)) (record { within = within; bytes = bytes })

-- items behind their count
fits-items : {A : Type 0} (spell : A → List ℕ) (test : A → Bool) → ((x : A) → test x ≡ true → are_bytes (spell x) ≡ true) → ((x : A) → test x ≡ true → length (spell x) ≤ 36)
    → (xs : List A) → length xs ≤ LIST_LIMIT → list_all test xs ≡ true → Fits (3 + 36 * LIST_LIMIT) (compact_size (length xs) ++ flat_map spell xs)
fits-items spell test bytes short xs within h =
    fits-append 3 (36 * LIST_LIMIT) (compact_size (length xs)) (flat_map spell xs) (fits-count (length xs) (omega arith)) (record {
      within = let size = items_length spell test bytes short xs h in omega arith;
      bytes = items_bytes spell test bytes short xs h;
    })

fits-inventory : (es : List InvEntry) → length es ≤ LIST_LIMIT → list_all is_entry es ≡ true → Fits PAYLOAD_LIMIT (inventory es)
fits-inventory es within h = fits-more (3 + 36 * LIST_LIMIT) PAYLOAD_LIMIT (inventory es) (lit≤ tt) (fits-items entry_bytes is_entry one_entry_bytes one_entry_length es within h)

fits-flag : (b : Bool) → Fits 1 (flag_byte b ∷ [])
fits-flag true = record { within = lit≤ tt; bytes = refl }
fits-flag false = record { within = lit≤ tt; bytes = refl }

fits-diff : (success : Bool) (asks : List ℕ) → length asks ≤ LIST_LIMIT → list_all (λ n. nat_lt n (2 ^ 32)) asks ≡ true → Fits PAYLOAD_LIMIT (diff_payload success asks)
fits-diff success asks within h =
    fits-more (1 + (3 + 36 * LIST_LIMIT)) PAYLOAD_LIMIT (diff_payload success asks) (lit≤ tt)
    (fits-append 1 (3 + 36 * LIST_LIMIT) (flag_byte success ∷ []) (compact_size (length asks) ++ flat_map (to_le_bytes w32) asks) (fits-flag success)
    (fits-items (to_le_bytes w32) (λ n. nat_lt n (2 ^ 32)) short_bytes short_length asks within h))

fits-optional : (b : Option ℕ) → is_optional_byte b ≡ true → Fits 1 (optional_byte b)
fits-optional None h = record { within = lit≤ tt; bytes = refl }
fits-optional (Some b) h = record { within = lit≤ tt; bytes = and_from (nat_lt b (2 ^ 8)) true h refl }

fits-field : (n : ℕ) (xs : List ℕ) → are_bytes_of n xs ≡ true → Fits n xs
fits-field n xs h =
    record { within = let e = of_length n xs h in omega arith; bytes = (and_parts (length xs == n) (are_bytes xs) h).1 }

fits-version : (v : VersionMsg) → length v.agent ≤ AGENT_LIMIT → VersionRanges v → Fits PAYLOAD_LIMIT (version_payload v)
fits-version v within ranges =
    let first = fits-append 4 8 (signed_bytes w32 v.version) (to_le_bytes w64 v.services) (fits-32 (cast_unsigned w32 v.version)) (fits-64 v.services) in
    let time = fits-append 12 8 _ (signed_bytes w64 v.time) first (fits-64 (cast_unsigned w64 v.time)) in
    let receiver = fits-append 20 26 _ v.receiver time (fits-field 26 v.receiver ranges.receiver) in
    let sender = fits-append 46 26 _ v.sender receiver (fits-field 26 v.sender ranges.sender) in
    let nonce = fits-append 72 8 _ (to_le_bytes w64 v.nonce) sender (fits-64 v.nonce) in
    let agent = fits-append 80 (3 + AGENT_LIMIT) _ (counted_bytes v.agent) nonce (fits-counted_bytes AGENT_LIMIT v.agent within (lit< tt) ranges.agent) in
    let height = fits-append (83 + AGENT_LIMIT) 4 _ (signed_bytes w32 v.height) agent (fits-32 (cast_unsigned w32 v.height)) in
    let relay = fits-append (87 + AGENT_LIMIT) 1 _ (optional_byte v.relay) height (fits-optional v.relay ranges.relay) in
    fits-more (88 + AGENT_LIMIT) PAYLOAD_LIMIT (version_payload v) (lit≤ tt) relay

fits-empty : Fits PAYLOAD_LIMIT []
fits-empty = record { within = lit≤ tt; bytes = refl }

-- ---- messages

-- each command that is known is a sound one
is_command-known : (n : Name) → is_command (command_of n) ≡ true
unfolding word_of is_filled
is_command-known name.Version = refl
is_command-known name.Verack = refl
is_command-known name.WtxidRelay = refl
is_command-known name.SendTxRcncl = refl
is_command-known name.ReqRecon = refl
is_command-known name.Sketch = refl
is_command-known name.ReqSketchExt = refl
is_command-known name.ReconcilDiff = refl
is_command-known name.Inv = refl
is_command-known name.GetData = refl
is_command-known name.NotFound = refl
is_command-known name.Tx = refl
is_command-known name.Ping = refl
is_command-known name.Pong = refl

frame_with : (n : Name) (payload : List ℕ) → Fits PAYLOAD_LIMIT payload → IsFrame (named_frame n payload)
frame_with n payload f = record { command = is_command-known n; within = f.within; bytes = f.bytes }

frame_by : (m : Message) → is_within_limits m ≡ true → is_in_range m ≡ true → IsFrame (frame_of m)
unfolding frame_of is_within_limits is_in_range
frame_by (message.Version v) w r = frame_with name.Version (version_payload v) (fits-version v (leb-true (length v.agent) AGENT_LIMIT w) (version_ranges v r))
frame_by message.Verack w r = frame_with name.Verack [] fits-empty
frame_by message.WtxidRelay w r = frame_with name.WtxidRelay [] fits-empty
frame_by (message.SendTxRcncl version salt) w r =
    frame_with name.SendTxRcncl (to_le_bytes w32 version ++ to_le_bytes w64 salt) (fits-more 12 PAYLOAD_LIMIT _ (lit≤ tt) (fits-append 4 8 (to_le_bytes w32 version) (to_le_bytes w64 salt) (fits-32 version) (fits-64 salt)))
frame_by (message.ReqRecon size q) w r =
    frame_with name.ReqRecon (to_le_bytes w16 size ++ to_le_bytes w16 q) (fits-more 4 PAYLOAD_LIMIT _ (lit≤ tt) (fits-append 2 2 (to_le_bytes w16 size) (to_le_bytes w16 q) (fits-16 size) (fits-16 q)))
frame_by (message.Sketch bytes) w r =
    frame_with name.Sketch (counted_bytes bytes) (fits-more (3 + LIST_LIMIT) PAYLOAD_LIMIT (counted_bytes bytes) (lit≤ tt) (fits-counted_bytes LIST_LIMIT bytes (leb-true (length bytes) LIST_LIMIT w) (lit< tt) r))
frame_by message.ReqSketchExt w r = frame_with name.ReqSketchExt [] fits-empty
frame_by (message.ReconcilDiff success asks) w r = frame_with name.ReconcilDiff (diff_payload success asks) (fits-diff success asks (leb-true (length asks) LIST_LIMIT w) r)
frame_by (message.Inv es) w r = frame_with name.Inv (inventory es) (fits-inventory es (leb-true (length es) LIST_LIMIT w) r)
frame_by (message.GetData es) w r = frame_with name.GetData (inventory es) (fits-inventory es (leb-true (length es) LIST_LIMIT w) r)
frame_by (message.NotFound es) w r = frame_with name.NotFound (inventory es) (fits-inventory es (leb-true (length es) LIST_LIMIT w) r)
frame_by (message.Tx tx) w r =
    frame_with name.Tx tx (record { within = leb-true (length tx) PAYLOAD_LIMIT (and_parts (nat_lt 0 (length tx)) (nat_le (length tx) PAYLOAD_LIMIT) w).1; bytes = r })
frame_by (message.Ping n) w r = frame_with name.Ping (to_le_bytes w64 n) (fits-more 8 PAYLOAD_LIMIT _ (lit≤ tt) (fits-64 n))
frame_by (message.Pong n) w r = frame_with name.Pong (to_le_bytes w64 n) (fits-more 8 PAYLOAD_LIMIT _ (lit≤ tt) (fits-64 n))
frame_by (message.Other command payload) w r =
    let tests = and_parts (is_command command && not (is_some (name_at command))) (nat_le (length payload) PAYLOAD_LIMIT) w in
    record {
      command = (and_parts (is_command command) (not (is_some (name_at command))) tests.0).0;
      within = leb-true (length payload) PAYLOAD_LIMIT tests.1;
      bytes = r;
    }

-- a message that may be sent has a frame that may be
pub frame_of-sound : (m : Message) → IsMessage m → IsFrame (frame_of m)
frame_of-sound m sent = frame_by m sent.within sent.ranged
