-- Each message is read back from its frame.
use Rattle.std.proofs.Common.{◌≡◌, ℕ, ◌+◌, ◌^◌, ◌<◌, ◌≤◌, ◌&&◌, Bool, true, not, is_some, List, [], ◌∷◌, ◌++◌, Option, Some, None, Result, Ok, length, nat_lt, nat_le, flat_map, refl, sym, ap, ◌∙◌, append_assoc, append-nil, lit<}
use Rattle.std.specs.List.{list_all}
use Rattle.std.specs.Int.{w16, w32, w64, to_le_bytes}
use Rattle.std.proofs.lemmas.Bool.{ltb-true, leb-true, and_parts}
use Rattle.id_rules.specs.Bytes.{is_tx_length}
use Rattle.wire_rules.specs.Commands.{word_of, command_of, is_command, name_at}
use Rattle.wire_rules.specs.Layout.{compact_size, counted_bytes, diff_payload, entry_bytes, flag_byte, frame_of, inventory, named_frame, optional_byte, signed_bytes, version_payload}
use Rattle.wire_rules.specs.Limits.{IsMessage, is_in_range, is_entry, is_within_limits}
use Rattle.wire_rules.specs.Reading.{diff_in, message_at_end, entry_at, inventory_in, message_by, message_of, message_in, number_at, number_in, request_in, salt_in, sketch_in, tx_in, version_in, with_command}
use Rattle.wire_rules.specs.declared.faults.PayloadFault.{PayloadFault}
use Rattle.wire_rules.specs.declared.limits.TheConstants.{LIST_LIMIT, AGENT_LIMIT, PAYLOAD_LIMIT}
use Rattle.wire_rules.specs.declared.message.InvEntry.{InvEntry}
use Rattle.wire_rules.specs.declared.message.Message.{Message}
use Rattle.wire_rules.specs.declared.message.Message.TheVariants as message
use Rattle.wire_rules.specs.declared.message.VersionMsg.{VersionMsg}
use Rattle.wire_rules.specs.declared.name.Name.{Name}
use Rattle.wire_rules.specs.declared.name.Name.TheVariants as name
use Rattle.wire_laws.proofs.Parts.{VersionRanges, of_length, version_ranges}
use Rattle.wire_laws.proofs.Readers.{then_so, bytes_at-front, number_at-16, number_at-32, number_at-64, signed_at-32, signed_at-64, counted_items_at-front, counted_bytes-front, short-front, entry-front, flag-front, optional-front}

-- each command that is known is found under its name
pub name_at-command : (n : Name) → name_at (command_of n) ≡ Some n
unfolding word_of
name_at-command name.Version = refl
name_at-command name.Verack = refl
name_at-command name.WtxidRelay = refl
name_at-command name.SendTxRcncl = refl
name_at-command name.ReqRecon = refl
name_at-command name.Sketch = refl
name_at-command name.ReqSketchExt = refl
name_at-command name.ReconcilDiff = refl
name_at-command name.Inv = refl
name_at-command name.GetData = refl
name_at-command name.NotFound = refl
name_at-command name.Tx = refl
name_at-command name.Ping = refl
name_at-command name.Pong = refl

-- the message of a frame of a known command is what its payload says
named_frame-says : (n : Name) (payload : List ℕ) (m : Message) → message_in n payload ≡ Ok m → message_of (named_frame n payload) ≡ Ok m
named_frame-says n payload m e = ap (λ o. message_by o (named_frame n payload)) (name_at-command n) ∙ ap (with_command n) e

-- ---- payloads

salt-says : (version salt : ℕ) → version < 2 ^ 32 → salt < 2 ^ 64 → salt_in (to_le_bytes w32 version ++ to_le_bytes w64 salt) ≡ Ok (message.SendTxRcncl version salt)
unfolding salt_in message_at_end
salt-says version salt hv hs = then_so _ _ _ _ (number_at-32 0 version (to_le_bytes w64 salt) hv) (then_so _ _ _ _ (number_at-64 4 salt [] hs) refl)

request-says : (size q : ℕ) → size < 2 ^ 16 → q < 2 ^ 16 → request_in (to_le_bytes w16 size ++ to_le_bytes w16 q) ≡ Ok (message.ReqRecon size q)
unfolding request_in message_at_end
request-says size q hs hq = then_so _ _ _ _ (number_at-16 0 size (to_le_bytes w16 q) hs) (then_so _ _ _ _ (number_at-16 2 q [] hq) refl)

number-says : (made : ℕ → Message) (n : ℕ) → n < 2 ^ 64 → number_in made (to_le_bytes w64 n) ≡ Ok (made n)
unfolding number_in message_at_end
number-says made n h = then_so _ _ _ _ (number_at-64 0 n [] h) refl

sketch-says : (bytes : List ℕ) → length bytes ≤ LIST_LIMIT → sketch_in (counted_bytes bytes) ≡ Ok (message.Sketch bytes)
unfolding sketch_in message_at_end
sketch-says bytes h =
    let reads = counted_bytes-front LIST_LIMIT bytes 0 [] h (lit< tt) in
    ap sketch_in (sym (append-nil (counted_bytes bytes))) ∙ then_so _ _ _ _ reads.1 refl

inventory-says : (made : List InvEntry → Message) (es : List InvEntry) → length es ≤ LIST_LIMIT → list_all is_entry es ≡ true → inventory_in made (inventory es) ≡ Ok (made es)
unfolding inventory_in message_at_end
inventory-says made es within h =
    let reads = counted_items_at-front entry_at entry_bytes is_entry entry-front es 0 [] within h in
    ap (inventory_in made) (sym (append-nil (inventory es))) ∙ then_so _ _ _ _ reads.1 refl

diff-says : (success : Bool) (asks : List ℕ) → length asks ≤ LIST_LIMIT → list_all (λ n. nat_lt n (2 ^ 32)) asks ≡ true → diff_in (diff_payload success asks) ≡ Ok (message.ReconcilDiff success asks)
unfolding diff_in message_at_end
diff-says success asks within h =
    let behind = compact_size (length asks) ++ flat_map (to_le_bytes w32) asks in
    let reads = counted_items_at-front (number_at w32) (to_le_bytes w32) (λ n. nat_lt n (2 ^ 32)) short-front asks 1 [] within h in
    ap (λ rest. diff_in (flag_byte success ∷ rest)) (sym (append-nil behind))
    ∙ then_so _ _ _ _ (flag-front success 0 (behind ++ [])) (then_so _ _ _ _ reads.1 refl)

-- a transaction isn't empty
tx-says : (tx : List ℕ) → is_tx_length (length tx) ≡ true → tx_in tx ≡ Ok (message.Tx tx)
tx-says [] h = cc
tx-says (b ∷ rest) h = refl

-- the fields of a version behind its first three, one after the other
in_order : (r s n c h y : List ℕ) → r ++ s ++ n ++ c ++ h ++ y ≡ r ++ (s ++ (n ++ (c ++ (h ++ y))))
in_order r s n c h y = simp append_assoc

version-says : (v : VersionMsg) → length v.agent ≤ AGENT_LIMIT → VersionRanges v → version_in (version_payload v) ≡ Ok (message.Version v)
unfolding version_in message_at_end
version-says v within ranges =
    let height = signed_bytes w32 v.height in
    let relay = optional_byte v.relay in
    let from_agent = counted_bytes v.agent ++ (height ++ relay) in
    let from_nonce = to_le_bytes w64 v.nonce ++ from_agent in
    let from_receiver = v.receiver ++ (v.sender ++ from_nonce) in
    let agent = counted_bytes-front AGENT_LIMIT v.agent 80 (height ++ relay) within (lit< tt) in
    let last = optional-front v.relay (agent.0 + 4) in
    ap (λ rest. version_in (signed_bytes w32 v.version ++ (to_le_bytes w64 v.services ++ (signed_bytes w64 v.time ++ rest))))
    (in_order v.receiver v.sender (to_le_bytes w64 v.nonce) (counted_bytes v.agent) height relay)
    ∙ then_so _ _ _ _ (signed_at-32 0 v.version (to_le_bytes w64 v.services ++ (signed_bytes w64 v.time ++ from_receiver)) ranges.version)
    (then_so _ _ _ _ (number_at-64 4 v.services (signed_bytes w64 v.time ++ from_receiver) (ltb-true v.services (2 ^ 64) ranges.services))
    (then_so _ _ _ _ (signed_at-64 12 v.time from_receiver ranges.time)
    (then_so _ _ _ _ (bytes_at-front 26 20 v.receiver (v.sender ++ from_nonce) (of_length 26 v.receiver ranges.receiver))
    (then_so _ _ _ _ (bytes_at-front 26 46 v.sender from_nonce (of_length 26 v.sender ranges.sender))
    (then_so _ _ _ _ (number_at-64 72 v.nonce from_agent (ltb-true v.nonce (2 ^ 64) ranges.nonce))
    (then_so _ _ _ _ agent.1
    (then_so _ _ _ _ (signed_at-32 agent.0 v.height relay ranges.height)
    (then_so _ _ _ _ last.1 refl))))))))

-- another command is no name's
none_of : (o : Option Name) → not (is_some o) ≡ true → o ≡ None
none_of None h = refl
none_of (Some n) h = cc

other-says : (command payload : List ℕ) → not (is_some (name_at command)) ≡ true → message_of (record { command = command; payload = payload }) ≡ Ok (message.Other command payload)
other-says command payload h = ap (λ o. message_by o (record { command = command; payload = payload })) (none_of (name_at command) h)

-- by the two tests of what may be sent
read_back : (m : Message) → is_within_limits m ≡ true → is_in_range m ≡ true → message_of (frame_of m) ≡ Ok m
unfolding frame_of is_within_limits is_in_range message_in message_at_end
read_back (message.Version v) w r = named_frame-says name.Version (version_payload v) (message.Version v) (version-says v (leb-true (length v.agent) AGENT_LIMIT w) (version_ranges v r))
read_back message.Verack w r = named_frame-says name.Verack [] message.Verack refl
read_back message.WtxidRelay w r = named_frame-says name.WtxidRelay [] message.WtxidRelay refl
read_back (message.SendTxRcncl version salt) w r =
    let tests = and_parts (nat_lt version (2 ^ 32)) (nat_lt salt (2 ^ 64)) r in
    named_frame-says name.SendTxRcncl (to_le_bytes w32 version ++ to_le_bytes w64 salt) (message.SendTxRcncl version salt) (salt-says version salt (ltb-true version (2 ^ 32) tests.0) (ltb-true salt (2 ^ 64) tests.1))
read_back (message.ReqRecon size q) w r =
    let tests = and_parts (nat_lt size (2 ^ 16)) (nat_lt q (2 ^ 16)) r in
    named_frame-says name.ReqRecon (to_le_bytes w16 size ++ to_le_bytes w16 q) (message.ReqRecon size q) (request-says size q (ltb-true size (2 ^ 16) tests.0) (ltb-true q (2 ^ 16) tests.1))
read_back (message.Sketch bytes) w r = named_frame-says name.Sketch (counted_bytes bytes) (message.Sketch bytes) (sketch-says bytes (leb-true (length bytes) LIST_LIMIT w))
read_back message.ReqSketchExt w r = named_frame-says name.ReqSketchExt [] message.ReqSketchExt refl
read_back (message.ReconcilDiff success asks) w r = named_frame-says name.ReconcilDiff (diff_payload success asks) (message.ReconcilDiff success asks) (diff-says success asks (leb-true (length asks) LIST_LIMIT w) r)
read_back (message.Inv es) w r = named_frame-says name.Inv (inventory es) (message.Inv es) (inventory-says message.Inv es (leb-true (length es) LIST_LIMIT w) r)
read_back (message.GetData es) w r = named_frame-says name.GetData (inventory es) (message.GetData es) (inventory-says message.GetData es (leb-true (length es) LIST_LIMIT w) r)
read_back (message.NotFound es) w r = named_frame-says name.NotFound (inventory es) (message.NotFound es) (inventory-says message.NotFound es (leb-true (length es) LIST_LIMIT w) r)
read_back (message.Tx tx) w r = named_frame-says name.Tx tx (message.Tx tx) (tx-says tx w)
read_back (message.Ping n) w r = named_frame-says name.Ping (to_le_bytes w64 n) (message.Ping n) (number-says message.Ping n (ltb-true n (2 ^ 64) r))
read_back (message.Pong n) w r = named_frame-says name.Pong (to_le_bytes w64 n) (message.Pong n) (number-says message.Pong n (ltb-true n (2 ^ 64) r))
read_back (message.Other command payload) w r =
    let known = and_parts (is_command command && not (is_some (name_at command))) (nat_le (length payload) PAYLOAD_LIMIT) w in
    other-says command payload (and_parts (is_command command) (not (is_some (name_at command))) known.0).1

-- a message that may be sent is what its frame says
pub message_of-frame_of : (m : Message) → IsMessage m → message_of (frame_of m) ≡ Ok m
message_of-frame_of m sent = read_back m sent.within sent.ranged

-- what a reader says is one message
one_said : (m n : Message) (r : Result Message PayloadFault) → r ≡ Ok m → r ≡ Ok n → m ≡ n
one_said m n r a b = cc

-- so two messages that may be sent have different frames
pub frame_of-injective : (m n : Message) → IsMessage m → IsMessage n → frame_of m ≡ frame_of n → m ≡ n
frame_of-injective m n sent other e = one_said m n (message_of (frame_of n)) (ap message_of (sym e) ∙ message_of-frame_of m sent) (message_of-frame_of n other)
