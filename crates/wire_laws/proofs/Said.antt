-- What a frame says is a message that may be sent, and the frame is this message's.
use Rattle.std.proofs.Common.{◌≡◌, ℕ, suc, ◌^◌, ◌≤◌, ◌&&◌, Bool, true, false, not, is_some, List, [], ◌∷◌, ◌++◌, Option, Some, None, Result, Ok, Err, length, nat_lt, nat_le, flat_map, find, cond, bytes_eq, refl, sym, ap, subst, ◌∙◌, arith, lit<}
use Rattle.std.proofs.lemmas.Bool.{and_from, and_parts, le-leb}
use Rattle.std.specs.List.{list_all}
use Rattle.std.specs.Cmp.Lexicographic.{same_text}
use Rattle.std.specs.Int.{w16, w32, w64, to_le_bytes}
use Rattle.id_rules.specs.Bytes.{are_bytes}
use Rattle.wire_rules.specs.Commands.{command_of, is_command, name_at, names}
use Rattle.wire_rules.specs.Layout.{compact_size, counted_bytes, entry_bytes, flag_byte, frame_of, inventory, named_frame, optional_byte, signed_bytes, version_payload}
use Rattle.wire_rules.specs.Limits.{IsFrame, is_in_range, is_entry, is_within_limits}
use Rattle.wire_rules.specs.Reading.{FieldFault, Cursor, FieldReading, ◌>>=◌, bytes_at, counted_items_at, counted_bytes_at, diff_in, message_at_end, entry_at, flag_at, inventory_in, message_by, message_of, message_in, number_at, number_in, optional_at, request_in, salt_in, signed_at, sketch_in, start, tx_in, version_in, with_command}
use Rattle.wire_rules.specs.declared.faults.PayloadFault.{PayloadFault}
use Rattle.wire_rules.specs.declared.frame.Frame.{Frame}
use Rattle.wire_rules.specs.declared.limits.TheConstants.{LIST_LIMIT, AGENT_LIMIT, PAYLOAD_LIMIT}
use Rattle.wire_rules.specs.declared.message.InvEntry.{InvEntry}
use Rattle.wire_rules.specs.declared.message.Message.{Message}
use Rattle.wire_rules.specs.declared.message.Message.TheVariants as message
use Rattle.wire_rules.specs.declared.message.VersionMsg.{VersionMsg}
use Rattle.wire_rules.specs.declared.name.Name.{Name}
use Rattle.wire_rules.specs.declared.name.Name.TheVariants as name
use Rattle.wire_laws.specs.Readings.{IsFrameOf}
use Rattle.id_rules.proofs.Bytes.{bytes_split}
use Rattle.wire_laws.proofs.Taken.{Took, both_said, from_ok, number-tested, number_at-took_2, number_at-took_8}
use Rattle.wire_laws.proofs.TakenLists.{took_both, bytes-took, counted_bytes-took, counted_items_at-took, message_at_end-took, entry-took, field-took, flag-took, optional-took, short-took, signed_at-took_4, signed_at-took_8}

-- a payload says a message that may be sent, whose frame has this payload
record Says (n : Name) (payload : List ℕ) (m : Message) : Type 0 where
  frame : named_frame n payload ≡ frame_of m
  within : is_within_limits m ≡ true
  ranged : is_in_range m ≡ true

-- the same, out of the end of a payload
at_end : (n : Name) (payload xs : List ℕ) (made m : Message) (c : Cursor) → Took (start payload) xs c → message_at_end made c ≡ Ok m
    → named_frame n xs ≡ frame_of made → is_within_limits made ≡ true → is_in_range made ≡ true → Says n payload m
at_end n payload xs made m c taken e frame within ranged =
    let end = message_at_end-took payload xs made m c taken e in
    subst (Says n payload) end.0 (record { frame = ap (named_frame n) end.1 ∙ frame; within = within; ranged = ranged })

bare : (n : Name) (payload : List ℕ) (made m : Message) → are_bytes payload ≡ true → message_at_end made (start payload) ≡ Ok m
    → named_frame n [] ≡ frame_of made → is_within_limits made ≡ true → is_in_range made ≡ true → Says n payload m
bare n payload made m bytes e frame within ranged = at_end n payload [] made m (start payload) (record { whole = refl; front = refl; left = bytes }) e frame within ranged

-- ---- a payload of one field, and of two

-- what a reader takes spells what it says, which passes a test
abbrev IsReader : {A : Type 0} → (Cursor → FieldReading A) → (A → List ℕ) → (A → Bool) → Type 0
IsReader {A} item spell test = (c : Cursor) (r : A × Cursor) → are_bytes c.rest ≡ true → item c ≡ Ok r → Took c (spell r.0) r.1 × (test r.0 ≡ true)

-- a message may be sent
record IsSent (m : Message) : Type 0 where
  within : is_within_limits m ≡ true
  ranged : is_in_range m ≡ true

one-said : {A : Type 0} (item : Cursor → FieldReading A) (spell : A → List ℕ) (test : A → Bool) → IsReader item spell test → (n : Name) (made : A → Message) → ((x : A) → named_frame n (spell x) ≡ frame_of (made x))
    → ((x : A) → test x ≡ true → IsSent (made x)) → (payload : List ℕ) (m : Message) → are_bytes payload ≡ true → (item (start payload) >>= (λ x. message_at_end (made x.0) x.1)) ≡ Ok m → Says n payload m
one-said item spell test reader n made frame sent payload m bytes e =
    let first = both_said (item (start payload)) (λ x. message_at_end (made x.0) x.1) m e in
    let x = first.0 in
    let a = reader (start payload) x bytes first.1 in
    let may = sent x.0 a.1 in
    at_end n payload (spell x.0) (made x.0) m x.1 a.0 first.2 (frame x.0) may.within may.ranged

two-said : {A B : Type 0} (item : Cursor → FieldReading A) (spell : A → List ℕ) (test : A → Bool) → IsReader item spell test → (next : Cursor → FieldReading B) (tell : B → List ℕ) (pass : B → Bool) → IsReader next tell pass
    → (n : Name) (made : A → B → Message) → ((x : A) (y : B) → named_frame n (spell x ++ tell y) ≡ frame_of (made x y)) → ((x : A) (y : B) → test x ≡ true → pass y ≡ true → IsSent (made x y))
    → (payload : List ℕ) (m : Message) → are_bytes payload ≡ true → (item (start payload) >>= (λ x. next x.1 >>= (λ y. message_at_end (made x.0 y.0) y.1))) ≡ Ok m → Says n payload m
two-said item spell test reader next tell pass more n made frame sent payload m bytes e =
    let first = both_said (item (start payload)) (λ x. next x.1 >>= (λ y. message_at_end (made x.0 y.0) y.1)) m e in
    let x = first.0 in
    let a = reader (start payload) x bytes first.1 in
    let second = both_said (next x.1) (λ y. message_at_end (made x.0 y.0) y.1) m first.2 in
    let y = second.0 in
    let b = more x.1 y a.0.left second.1 in
    let may = sent x.0 y.0 a.1 b.1 in
    at_end n payload (spell x.0 ++ tell y.0) (made x.0 y.0) m y.1 (took_both (start payload) x.1 y.1 (spell x.0) (tell y.0) a.0 b.0) second.2 (frame x.0 y.0) may.within may.ranged

reads_16 : IsReader (number_at w16) (to_le_bytes w16) (λ k. nat_lt k (2 ^ 16))
reads_16 c r bytes e = number-tested (number_at-took_2 c r bytes e)

reads_64 : IsReader (number_at w64) (to_le_bytes w64) (λ k. nat_lt k (2 ^ 64))
reads_64 c r bytes e = number-tested (number_at-took_8 c r bytes e)

reads_flag : IsReader flag_at (λ b. flag_byte b ∷ []) (λ b. true)
reads_flag c r bytes e = (flag-took c r bytes e, refl)

salt-said : (payload : List ℕ) (m : Message) → are_bytes payload ≡ true → salt_in payload ≡ Ok m → Says name.SendTxRcncl payload m
unfolding salt_in frame_of is_within_limits is_in_range
salt-said =
    two-said (number_at w32) (to_le_bytes w32) (λ k. nat_lt k (2 ^ 32)) short-took (number_at w64) (to_le_bytes w64) (λ k. nat_lt k (2 ^ 64)) reads_64 name.SendTxRcncl message.SendTxRcncl
    (λ version salt. refl) (λ version salt a b. record { within = refl; ranged = and_from (nat_lt version (2 ^ 32)) (nat_lt salt (2 ^ 64)) a b })

request-said : (payload : List ℕ) (m : Message) → are_bytes payload ≡ true → request_in payload ≡ Ok m → Says name.ReqRecon payload m
unfolding request_in frame_of is_within_limits is_in_range
request-said =
    two-said (number_at w16) (to_le_bytes w16) (λ k. nat_lt k (2 ^ 16)) reads_16 (number_at w16) (to_le_bytes w16) (λ k. nat_lt k (2 ^ 16)) reads_16 name.ReqRecon message.ReqRecon
    (λ size q. refl) (λ size q a b. record { within = refl; ranged = and_from (nat_lt size (2 ^ 16)) (nat_lt q (2 ^ 16)) a b })

diff-said : (payload : List ℕ) (m : Message) → are_bytes payload ≡ true → diff_in payload ≡ Ok m → Says name.ReconcilDiff payload m
unfolding diff_in frame_of is_within_limits is_in_range
diff-said =
    two-said flag_at (λ b. flag_byte b ∷ []) (λ b. true) reads_flag (counted_items_at (number_at w32)) (λ asks. compact_size (length asks) ++ flat_map (to_le_bytes w32) asks)
    (λ asks. nat_le (length asks) LIST_LIMIT && list_all (λ k. nat_lt k (2 ^ 32)) asks) (counted_items_at-took (number_at w32) (to_le_bytes w32) (λ k. nat_lt k (2 ^ 32)) short-took) name.ReconcilDiff message.ReconcilDiff
    (λ success asks. refl) (λ success asks a b. let tests = and_parts (nat_le (length asks) LIST_LIMIT) (list_all (λ k. nat_lt k (2 ^ 32)) asks) b in record { within = tests.0; ranged = tests.1 })

sketch-said : (payload : List ℕ) (m : Message) → are_bytes payload ≡ true → sketch_in payload ≡ Ok m → Says name.Sketch payload m
unfolding sketch_in frame_of is_within_limits is_in_range
sketch-said =
    one-said (counted_bytes_at LIST_LIMIT) counted_bytes (λ xs. nat_le (length xs) LIST_LIMIT && are_bytes xs) (λ c r bytes e. bytes-took LIST_LIMIT c r (lit< tt) bytes e) name.Sketch message.Sketch
    (λ xs. refl) (λ xs h. let tests = and_parts (nat_le (length xs) LIST_LIMIT) (are_bytes xs) h in record { within = tests.0; ranged = tests.1 })

number-said : (n : Name) (made : ℕ → Message) → ((k : ℕ) → named_frame n (to_le_bytes w64 k) ≡ frame_of (made k)) → ((k : ℕ) → nat_lt k (2 ^ 64) ≡ true → IsSent (made k))
    → (payload : List ℕ) (m : Message) → are_bytes payload ≡ true → number_in made payload ≡ Ok m → Says n payload m
unfolding number_in
number-said n made = one-said (number_at w64) (to_le_bytes w64) (λ k. nat_lt k (2 ^ 64)) reads_64 n made

inventory-said : (n : Name) (made : List InvEntry → Message) → ((es : List InvEntry) → named_frame n (inventory es) ≡ frame_of (made es))
    → ((es : List InvEntry) → (nat_le (length es) LIST_LIMIT && list_all is_entry es) ≡ true → IsSent (made es))
    → (payload : List ℕ) (m : Message) → are_bytes payload ≡ true → inventory_in made payload ≡ Ok m → Says n payload m
unfolding inventory_in
inventory-said n made = one-said (counted_items_at entry_at) inventory (λ es. nat_le (length es) LIST_LIMIT && list_all is_entry es) (counted_items_at-took entry_at entry_bytes is_entry entry-took) n made

-- ---- a version, field after field

-- bytes that were taken up to here
abbrev Up : List ℕ → List ℕ → Cursor → Type 0
Up payload xs c = Took (start payload) xs c

version-said : (payload : List ℕ) (m : Message) → are_bytes payload ≡ true → version_in payload ≡ Ok m → Says name.Version payload m
unfolding version_in frame_of is_within_limits is_in_range
version-said payload m bytes e =
    let s1 = both_said (signed_at w32 (start payload)) _ m e in
    let version = s1.0 in
    let t1 = signed_at-took_4 (start payload) version bytes s1.1 in
    let s2 = both_said (number_at w64 version.1) _ m s1.2 in
    let services = s2.0 in
    let t2 = number_at-took_8 version.1 services t1.0.left s2.1 in
    let u2 = took_both (start payload) version.1 services.1 (signed_bytes w32 version.0) (to_le_bytes w64 services.0) t1.0 t2.took in
    let s3 = both_said (signed_at w64 services.1) _ m s2.2 in
    let time = s3.0 in
    let t3 = signed_at-took_8 services.1 time t2.took.left s3.1 in
    let u3 = took_both (start payload) services.1 time.1 (signed_bytes w32 version.0 ++ to_le_bytes w64 services.0) (signed_bytes w64 time.0) u2 t3.0 in
    let x3 = signed_bytes w32 version.0 ++ to_le_bytes w64 services.0 ++ signed_bytes w64 time.0 in
    let s4 = both_said (bytes_at 26 time.1) _ m s3.2 in
    let receiver = s4.0 in
    let t4 = field-took 26 time.1 receiver t3.0.left s4.1 in
    let u4 = took_both (start payload) time.1 receiver.1 x3 receiver.0 u3 t4.0 in
    let s5 = both_said (bytes_at 26 receiver.1) _ m s4.2 in
    let sender = s5.0 in
    let t5 = field-took 26 receiver.1 sender t4.0.left s5.1 in
    let u5 = took_both (start payload) receiver.1 sender.1 (x3 ++ receiver.0) sender.0 u4 t5.0 in
    let s6 = both_said (number_at w64 sender.1) _ m s5.2 in
    let nonce = s6.0 in
    let t6 = number_at-took_8 sender.1 nonce t5.0.left s6.1 in
    let u6 = took_both (start payload) sender.1 nonce.1 (x3 ++ receiver.0 ++ sender.0) (to_le_bytes w64 nonce.0) u5 t6.took in
    let x6 = x3 ++ receiver.0 ++ sender.0 ++ to_le_bytes w64 nonce.0 in
    let s7 = both_said (counted_bytes_at AGENT_LIMIT nonce.1) _ m s6.2 in
    let agent = s7.0 in
    let t7 = counted_bytes-took AGENT_LIMIT nonce.1 agent (lit< tt) t6.took.left s7.1 in
    let u7 = took_both (start payload) nonce.1 agent.1 x6 (counted_bytes agent.0) u6 t7.0 in
    let s8 = both_said (signed_at w32 agent.1) _ m s7.2 in
    let height = s8.0 in
    let t8 = signed_at-took_4 agent.1 height t7.0.left s8.1 in
    let u8 = took_both (start payload) agent.1 height.1 (x6 ++ counted_bytes agent.0) (signed_bytes w32 height.0) u7 t8.0 in
    let s9 = both_said (optional_at height.1) _ m s8.2 in
    let relay = s9.0 in
    let t9 = optional-took height.1 relay t8.0.left s9.1 in
    let u9 = took_both (start payload) height.1 relay.1 (x6 ++ counted_bytes agent.0 ++ signed_bytes w32 height.0) (optional_byte relay.0) u8 t9.0 in
    let v : VersionMsg = record {
      version = version.0;
      services = services.0;
      time = time.0;
      receiver = receiver.0;
      sender = sender.0;
      nonce = nonce.0;
      agent = agent.0;
      height = height.0;
      relay = relay.0;
    } in
    let ranges = and_from _ _ (and_from _ _ (and_from _ _ (and_from _ _ (and_from _ _ (and_from _ _ (and_from _ _ (and_from _ _
    t1.1 (le-leb (suc services.0) (2 ^ 64) t2.below)) t3.1) t4.1) t5.1) (le-leb (suc nonce.0) (2 ^ 64) t6.below))
    (bytes_split (compact_size (length agent.0)) agent.0 t7.0.front).1) t8.1) t9.1 in
    at_end name.Version payload (version_payload v) (message.Version v) m relay.1 u9 s9.2 refl (le-leb (length agent.0) AGENT_LIMIT t7.1) ranges

tx-said : (payload : List ℕ) (m : Message) → are_bytes payload ≡ true → length payload ≤ PAYLOAD_LIMIT → tx_in payload ≡ Ok m → Says name.Tx payload m
unfolding frame_of is_within_limits is_in_range
tx-said [] m bytes low e = absurd (cc)
tx-said (b ∷ rest) m bytes low e =
    subst (Says name.Tx (b ∷ rest)) (from_ok (message.Tx (b ∷ rest)) m (Ok (message.Tx (b ∷ rest))) refl e)
    (record { frame = refl; within = and_from (nat_lt 0 (suc (length rest))) (nat_le (suc (length rest)) PAYLOAD_LIMIT) (le-leb 1 (suc (length rest)) (omega arith)) (le-leb (suc (length rest)) PAYLOAD_LIMIT low); ranged = bytes })

-- ---- all

named_frame-said : (n : Name) (payload : List ℕ) (m : Message) → are_bytes payload ≡ true → length payload ≤ PAYLOAD_LIMIT → message_in n payload ≡ Ok m → Says n payload m
unfolding message_in frame_of is_within_limits is_in_range
named_frame-said name.Version payload m bytes low e = version-said payload m bytes e
named_frame-said name.Verack payload m bytes low e = bare name.Verack payload message.Verack m bytes e refl refl refl
named_frame-said name.WtxidRelay payload m bytes low e = bare name.WtxidRelay payload message.WtxidRelay m bytes e refl refl refl
named_frame-said name.SendTxRcncl payload m bytes low e = salt-said payload m bytes e
named_frame-said name.ReqRecon payload m bytes low e = request-said payload m bytes e
named_frame-said name.Sketch payload m bytes low e = sketch-said payload m bytes e
named_frame-said name.ReqSketchExt payload m bytes low e = bare name.ReqSketchExt payload message.ReqSketchExt m bytes e refl refl refl
named_frame-said name.ReconcilDiff payload m bytes low e = diff-said payload m bytes e
named_frame-said name.Inv payload m bytes low e = inventory-said name.Inv message.Inv (λ es. refl) (λ es h. let tests = and_parts (nat_le (length es) LIST_LIMIT) (list_all is_entry es) h in record { within = tests.0; ranged = tests.1 }) payload m bytes e
named_frame-said name.GetData payload m bytes low e = inventory-said name.GetData message.GetData (λ es. refl) (λ es h. let tests = and_parts (nat_le (length es) LIST_LIMIT) (list_all is_entry es) h in record { within = tests.0; ranged = tests.1 }) payload m bytes e
named_frame-said name.NotFound payload m bytes low e = inventory-said name.NotFound message.NotFound (λ es. refl) (λ es h. let tests = and_parts (nat_le (length es) LIST_LIMIT) (list_all is_entry es) h in record { within = tests.0; ranged = tests.1 }) payload m bytes e
named_frame-said name.Tx payload m bytes low e = tx-said payload m bytes low e
named_frame-said name.Ping payload m bytes low e = number-said name.Ping message.Ping (λ k. refl) (λ k h. record { within = refl; ranged = h }) payload m bytes e
named_frame-said name.Pong payload m bytes low e = number-said name.Pong message.Pong (λ k. refl) (λ k h. record { within = refl; ranged = h }) payload m bytes e

-- by whether the first name passes the test
found_by : (b : Bool) (test : Name → Bool) (x n : Name) (ns : List Name) → test x ≡ b → (find test ns ≡ Some n → test n ≡ true) → cond b (Some x) (find test ns) ≡ Some n → test n ≡ true
found_by true test x n ns h later e = let same : x ≡ n = cc in subst (λ y. test y ≡ true) same h
found_by false test x n ns h later e = later e

-- a name that is found passes the test
found-passes : (test : Name → Bool) (ns : List Name) (n : Name) → find test ns ≡ Some n → test n ≡ true
found-passes test [] n e = absurd (cc)
found-passes test (x ∷ ns) n e = found_by (test x) test x n ns refl (found-passes test ns n) e

with_command_said : (n : Name) (r : Result Message FieldFault) (m : Message) → with_command n r ≡ Ok m → r ≡ Ok m
with_command_said n (Ok x) m e = cc
with_command_said n (Err s) m e = absurd (cc)

said_by : (o : Option Name) (f : Frame) (m : Message) → name_at f.command ≡ o → IsFrame f → message_by o f ≡ Ok m → IsFrameOf f m
unfolding frame_of is_within_limits is_in_range
said_by (Some n) f m h sound e =
    let says = named_frame-said n f.payload m sound.bytes sound.within (with_command_said n (message_in n f.payload) m e) in
    let command = same_text (command_of n) f.command (sym (found-passes (λ k. bytes_eq (command_of k) f.command) names n h)) in
    record { sent = record { within = says.within; ranged = says.ranged }; frame = ap (λ c. record { command = c; payload = f.payload }) (sym command) ∙ says.frame }
said_by None f m h sound e =
    let known = ap (λ (o : Option Name). not (is_some o)) h in
    let within = and_from (is_command f.command && not (is_some (name_at f.command))) (nat_le (length f.payload) PAYLOAD_LIMIT) (and_from (is_command f.command) (not (is_some (name_at f.command))) sound.command known) (le-leb (length f.payload) PAYLOAD_LIMIT sound.within) in
    let other : IsFrameOf f (message.Other f.command f.payload) = record { sent = record { within = within; ranged = sound.bytes }; frame = refl } in
    subst (IsFrameOf f) (one_ok (message.Other f.command f.payload) m e) other
  where
    one_ok : (x y : Message) → (let r : Result Message PayloadFault = Ok x in r ≡ Ok y) → x ≡ y
    one_ok x y same = cc

-- what a sound frame says is a message that may be sent, and the frame is this message's
pub message_of-said : (f : Frame) (m : Message) → IsFrame f → message_of f ≡ Ok m → IsFrameOf f m
message_of-said f m sound e = said_by (name_at f.command) f m refl sound e
