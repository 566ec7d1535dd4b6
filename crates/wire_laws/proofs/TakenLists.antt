-- What readers of counts, lists and other fields have taken.
use Rattle.std.proofs.Common.{◌≡◌, ℕ, zero, suc, ◌^◌, ◌<◌, ◌≤◌, ◌==◌, Bool, true, false, List, [], ◌∷◌, ◌++◌, ℤ, pos, negsuc, FitsSigned, append-nil, Option, Some, None, Ok, length, nat_lt, nat_le, ◌&&◌, flat_map, refl, sym, ap, subst, ◌∙◌, arith, lit<, if◌then◌else◌, append_assoc}
use Rattle.std.specs.List.{list_all}
use Rattle.std.specs.Int.{Width, w8, w16, w32, w64, to_le_bytes, cast_signed}
use Rattle.std.proofs.lemmas.Bool.{eqb-true, eqb-false, eq-eqb, leb-false, lt-leb, and_from, le-leb}
use Rattle.std.proofs.lemmas.Int.{of_z-to_z}
use Rattle.std.proofs.Math.Facts.{sfits_to_z}
use Rattle.id_rules.specs.Bytes.{are_bytes, are_bytes_of, fits_signed, is_optional_byte}
use Rattle.wire_rules.specs.Layout.{compact_size, counted_bytes, entry_bytes, flag_byte, optional_byte, signed_bytes}
use Rattle.wire_rules.specs.Limits.{is_entry}
use Rattle.wire_rules.specs.Reading.{Cursor, FieldReading, ◌>>=◌, fault_at, bytes_at, number_at, number_after_mark, number_by_mark, count_at, items_at, counted_items_at, counted_bytes_at, entry_at, flag_at, flag_of, optional_at, signed_at, message_at_end, start}
use Rattle.wire_rules.specs.declared.faults.PayloadKind.TheVariants as fault
use Rattle.wire_rules.specs.declared.limits.TheConstants.{LIST_LIMIT}
use Rattle.wire_rules.specs.declared.message.InvEntry.{InvEntry}
use Rattle.wire_rules.specs.declared.message.Message.{Message}
use Rattle.id_rules.proofs.Bytes.{bytes_join, bytes_split}
use Rattle.wire_laws.proofs.Readers.{two_bytes}
use Rattle.wire_laws.proofs.Taken.{Took, both_said, bytes_at-took, byte_took, from_ok, number-tested, number_at-took_2, number_at-took_4, number_at-took_8}

-- two readers in a row
pub took_both : (a b c : Cursor) (xs ys : List ℕ) → Took a xs b → Took b ys c → Took a (xs ++ ys) c
took_both a b c xs ys first second = record {
  whole = first.whole ∙ ap (λ rest. xs ++ rest) second.whole ∙ sym (append_assoc xs ys c.rest);
  front = bytes_join xs ys first.front second.front;
  left = second.left;
}

-- ---- counts

-- a test that was passed
passed_test : {A : Type 0} (b : Bool) (at : ℕ) (a r : A) → (if b then fault_at {A = A} at fault.TooMany else Ok a) ≡ Ok r → (b ≡ false) × (a ≡ r)
passed_test true at a r e = absurd (cc)
passed_test false at a r e = (refl, from_ok a r (Ok a) refl e)

passed_least : {A : Type 0} (b : Bool) (at : ℕ) (a r : A) → (if b then fault_at {A = A} at fault.NotMinimal else Ok a) ≡ Ok r → (b ≡ false) × (a ≡ r)
passed_least true at a r e = absurd (cc)
passed_least false at a r e = (refl, from_ok a r (Ok a) refl e)

-- a number behind a mark
marked_took : (at least : ℕ) (w : Width) (c : Cursor) (n : ℕ × Cursor) → number_after_mark at least w c ≡ Ok n → (number_at w c ≡ Ok n) × (least ≤ n.0)
marked_took at least w c n e =
    let said = both_said (number_at w c) (λ m. if nat_lt m.0 least then fault_at at fault.NotMinimal else Ok m) n e in
    let test = passed_least (nat_lt said.0.0 least) at said.0 n said.2 in (
      said.1 ∙ ap (λ m. Ok m) test.1,
      subst (λ (m : ℕ × Cursor). least ≤ m.0) test.1 (let low = leb-false (suc said.0.0) least test.0 in omega arith),
    )

-- a first byte and what stands behind it are the spelling of a count of two bytes
pub IsSpelled : ℕ → Cursor → ℕ × Cursor → Type 0
IsSpelled first c n = (xs : List ℕ) × (first ∷ xs ≡ compact_size n.0) × Took c xs n.1

mark_by : (a b d : Bool) (at first : ℕ) (c : Cursor) (n : ℕ × Cursor) → (first == 0xFD) ≡ a → (first == 0xFE) ≡ b → (first == 0xFF) ≡ d → first < 2 ^ 8 → are_bytes c.rest ≡ true → n.0 < 2 ^ 16
    → (if a then number_after_mark at 0xFD w16 c else if b then number_after_mark at (2 ^ 16) w32 c else if d then number_after_mark at (2 ^ 32) w64 c else Ok (first, c)) ≡ Ok n
    → IsSpelled first c n
unfolding IsSpelled
mark_by true b d at first c n ha hb hd low bytes small e =
    let marked = marked_took at 0xFD w16 c n e in
    let taken = number_at-took_2 c n bytes marked.0 in (
      to_le_bytes w16 n.0,
      ap (λ k. k ∷ to_le_bytes w16 n.0) (eqb-true first 0xFD ha) ∙ sym (two_bytes n.0 small ∙ ap (λ t. if t then n.0 ∷ [] else 0xFD ∷ to_le_bytes w16 n.0) (lt-leb (suc n.0) 0xFD (let least = marked.1 in omega arith))),
      taken.took,
    )
mark_by false true d at first c n ha hb hd low bytes small e = let marked = marked_took at (2 ^ 16) w32 c n e in let least = marked.1 in absurd (omega arith)
mark_by false false true at first c n ha hb hd low bytes small e = let marked = marked_took at (2 ^ 32) w64 c n e in let least = marked.1 in absurd (omega arith)
mark_by false false false at first c n ha hb hd low bytes small e =
    let same = from_ok (first, c) n (Ok (first, c)) refl e in
    let below : first < 0xFD = omega (arith, eqb-false first 0xFD ha, eqb-false first 0xFE hb, eqb-false first 0xFF hd, low) in
    subst (λ (m : ℕ × Cursor). (xs : List ℕ) × (first ∷ xs ≡ compact_size m.0) × Took c xs m.1) same (
      [],
      sym (two_bytes first (omega (arith, low)) ∙ ap (λ t. if t then first ∷ [] else 0xFD ∷ to_le_bytes w16 first) (le-leb (suc first) 0xFD below)),
      record { whole = refl; front = refl; left = bytes },
    )

-- a count up to a limit of two bytes
pub count_at-took : (limit : ℕ) (c : Cursor) (r : ℕ × Cursor) → limit < 2 ^ 16 → are_bytes c.rest ≡ true → count_at limit c ≡ Ok r → Took c (compact_size r.0) r.1 × (r.0 ≤ limit)
unfolding count_at IsSpelled
count_at-took limit c r low bytes e =
    let said = both_said (number_at w8 c) (λ first. number_by_mark c.at first.0 first.1 >>= (λ n. if nat_lt limit n.0 then fault_at c.at fault.TooMany else Ok n)) r e in
    let first = said.0 in
    let byte = byte_took c first bytes said.1 in
    let next = both_said (number_by_mark c.at first.0 first.1) (λ n. if nat_lt limit n.0 then fault_at c.at fault.TooMany else Ok n) r said.2 in
    let test = passed_test (nat_lt limit next.0.0) c.at next.0 r next.2 in
    let within : next.0.0 ≤ limit = let above = leb-false (suc limit) next.0.0 test.0 in omega arith in
    let spelled = mark_by (first.0 == 0xFD) (first.0 == 0xFE) (first.0 == 0xFF) c.at first.0 first.1 next.0 refl refl refl byte.1 byte.0.left (omega (arith, within, low)) next.1 in
    subst (λ (n : ℕ × Cursor). Took c (compact_size n.0) n.1 × (n.0 ≤ limit)) test.1
    (subst (λ xs. Took c xs next.0.1) spelled.1 (took_both c first.1 next.0.1 (first.0 ∷ []) spelled.0 byte.0 spelled.2), within)

-- bytes behind their count
pub counted_bytes-took : (limit : ℕ) (c : Cursor) (r : List ℕ × Cursor) → limit < 2 ^ 16 → are_bytes c.rest ≡ true → counted_bytes_at limit c ≡ Ok r → Took c (counted_bytes r.0) r.1 × (length r.0 ≤ limit)
counted_bytes-took limit c r low bytes e =
    let said = both_said (count_at limit c) (λ n. bytes_at n.0 n.1) r e in
    let count = count_at-took limit c said.0 low bytes said.1 in
    let taken = bytes_at-took said.0.0 said.0.1 r count.0.left said.2 in (
      took_both c said.0.1 r.1 (compact_size (length r.0)) r.0 (subst (λ n. Took c (compact_size n) said.0.1) (sym taken.1) count.0) taken.0,
      subst (λ n. n ≤ limit) (sym taken.1) count.1,
    )

-- the same by a test
pub bytes-took : (limit : ℕ) (c : Cursor) (r : List ℕ × Cursor) → limit < 2 ^ 16 → are_bytes c.rest ≡ true → counted_bytes_at limit c ≡ Ok r
    → Took c (counted_bytes r.0) r.1 × ((nat_le (length r.0) limit && are_bytes r.0) ≡ true)
bytes-took limit c r low bytes e =
    let taken = counted_bytes-took limit c r low bytes e in
    (taken.0, and_from (nat_le (length r.0) limit) (are_bytes r.0) (le-leb (length r.0) limit taken.1) (bytes_split (compact_size (length r.0)) r.0 taken.0.front).1)

-- ---- items in a row

module _ {A : Type 0} (item : Cursor → FieldReading A) (spell : A → List ℕ) (test : A → Bool)
    (taken : (c : Cursor) (r : A × Cursor) → are_bytes c.rest ≡ true → item c ≡ Ok r → Took c (spell r.0) r.1 × (test r.0 ≡ true)) where
  pub record TookItems (n : ℕ) (c : Cursor) (r : List A × Cursor) : Type 0 where
    pub count : length r.0 ≡ n
    pub took : Took c (flat_map spell r.0) r.1
    pub tests : list_all test r.0 ≡ true

  items_at-took : (n : ℕ) (c : Cursor) (r : List A × Cursor) → are_bytes c.rest ≡ true → items_at item n c ≡ Ok r → TookItems n c r
  unfolding items_at
  items_at-took zero c r bytes e =
      subst (TookItems zero c) (from_ok ([], c) r (Ok ([], c)) refl e) (record { count = refl; took = record { whole = refl; front = refl; left = bytes }; tests = refl })
  items_at-took (suc n) c r bytes e =
      let said = both_said (item c) (λ x. items_at item n x.1 >>= (λ xs. Ok (x.0 ∷ xs.0, xs.1))) r e in
      let x = said.0 in
      let one = taken c x bytes said.1 in
      let more = both_said (items_at item n x.1) (λ xs. Ok (x.0 ∷ xs.0, xs.1)) r said.2 in
      let rest = items_at-took n x.1 more.0 one.0.left more.1 in
      subst (TookItems (suc n) c) (from_ok (x.0 ∷ more.0.0, more.0.1) r (Ok (x.0 ∷ more.0.0, more.0.1)) refl more.2) (record {
        count = ap suc rest.count;
        took = took_both c x.1 more.0.1 (spell x.0) (flat_map spell more.0.0) one.0 rest.took;
        tests = and_from (test x.0) (list_all test more.0.0) one.1 rest.tests;
      })

  -- items behind their count
  pub counted_items_at-took : (c : Cursor) (r : List A × Cursor) → are_bytes c.rest ≡ true → counted_items_at item c ≡ Ok r
      → Took c (compact_size (length r.0) ++ flat_map spell r.0) r.1 × ((nat_le (length r.0) LIST_LIMIT && list_all test r.0) ≡ true)
  counted_items_at-took c r bytes e =
      let said = both_said (count_at LIST_LIMIT c) (λ n. items_at item n.0 n.1) r e in
      let count = count_at-took LIST_LIMIT c said.0 (lit< tt) bytes said.1 in
      let items = items_at-took said.0.0 said.0.1 r count.0.left said.2 in (
        took_both c said.0.1 r.1 (compact_size (length r.0)) (flat_map spell r.0) (subst (λ n. Took c (compact_size n) said.0.1) (sym items.count) count.0) items.took,
        and_from (nat_le (length r.0) LIST_LIMIT) (list_all test r.0) (le-leb (length r.0) LIST_LIMIT (subst (λ n. n ≤ LIST_LIMIT) (sym items.count) count.1)) items.tests,
      )

-- a short id
pub short-took : (c : Cursor) (r : ℕ × Cursor) → are_bytes c.rest ≡ true → number_at w32 c ≡ Ok r → Took c (to_le_bytes w32 r.0) r.1 × (nat_lt r.0 (2 ^ 32) ≡ true)
short-took c r bytes e = number-tested (number_at-took_4 c r bytes e)

-- so many bytes
pub field-took : (n : ℕ) (c : Cursor) (r : List ℕ × Cursor) → are_bytes c.rest ≡ true → bytes_at n c ≡ Ok r → Took c r.0 r.1 × (are_bytes_of n r.0 ≡ true)
field-took n c r bytes e =
    let taken = bytes_at-took n c r bytes e in (taken.0, and_from (length r.0 == n) (are_bytes r.0) (eq-eqb (length r.0) n taken.1) taken.0.front)

-- an entry
pub entry-took : (c : Cursor) (r : InvEntry × Cursor) → are_bytes c.rest ≡ true → entry_at c ≡ Ok r → Took c (entry_bytes r.0) r.1 × (is_entry r.0 ≡ true)
unfolding entry_at
entry-took c r bytes e =
    let said = both_said (number_at w32 c) (λ kind. bytes_at 32 kind.1 >>= (λ id. Ok (record { kind = kind.0; id = record { 0 = id.0 } }, id.1))) r e in
    let kind = said.0 in
    let number = number_at-took_4 c kind bytes said.1 in
    let next = both_said (bytes_at 32 kind.1) (λ id. Ok (record { kind = kind.0; id = record { 0 = id.0 } }, id.1)) r said.2 in
    let id = next.0 in
    let field = field-took 32 kind.1 id number.took.left next.1 in
    let made : InvEntry × Cursor = (record { kind = kind.0; id = record { 0 = id.0 } }, id.1) in
    subst (λ (x : InvEntry × Cursor). Took c (entry_bytes x.0) x.1 × (is_entry x.0 ≡ true)) (from_ok made r (Ok made) refl next.2) (
      took_both c kind.1 id.1 (to_le_bytes w32 kind.0) id.0 number.took field.0,
      and_from (nat_lt kind.0 (2 ^ 32)) (are_bytes_of 32 id.0) (le-leb (suc kind.0) (2 ^ 32) number.below) field.1,
    )

-- ---- flags, optional bytes, signed numbers

-- bytes that are left, where nothing was taken
none_took : (c : Cursor) → are_bytes c.rest ≡ true → Took c [] c
none_took c bytes = record { whole = refl; front = refl; left = bytes }

flag_by : (z o : Bool) (at b : ℕ) (c : Cursor) (r : Bool × Cursor) → (b == 0) ≡ z → (b == 1) ≡ o → are_bytes c.rest ≡ true
    → (if z then Ok (false, c) else if o then Ok (true, c) else fault_at {A = Bool × Cursor} at fault.BadFlag) ≡ Ok r → Took c [] r.1 × (b ≡ flag_byte r.0)
flag_by true o at b c r hz ho bytes e =
    subst (λ (s : Bool × Cursor). Took c [] s.1 × (b ≡ flag_byte s.0)) (from_ok (false, c) r (Ok (false, c)) refl e) (none_took c bytes, eqb-true b 0 hz)
flag_by false true at b c r hz ho bytes e =
    subst (λ (s : Bool × Cursor). Took c [] s.1 × (b ≡ flag_byte s.0)) (from_ok (true, c) r (Ok (true, c)) refl e) (none_took c bytes, eqb-true b 1 ho)
flag_by false false at b c r hz ho bytes e = absurd (cc)

-- a flag
pub flag-took : (c : Cursor) (r : Bool × Cursor) → are_bytes c.rest ≡ true → flag_at c ≡ Ok r → Took c (flag_byte r.0 ∷ []) r.1
unfolding flag_at
flag-took c r bytes e =
    let said = both_said (number_at w8 c) (λ b. flag_of c.at b.0 b.1) r e in
    let byte = byte_took c said.0 bytes said.1 in
    let flag = flag_by (said.0.0 == 0) (said.0.0 == 1) c.at said.0.0 said.0.1 r refl refl byte.0.left said.2 in
    subst (λ b. Took c (b ∷ []) r.1) flag.1 (took_both c said.0.1 r.1 (said.0.0 ∷ []) [] byte.0 flag.0)

optional_by : (none : Bool) (c : Cursor) (r : Option ℕ × Cursor) → are_bytes c.rest ≡ true
    → (if none then Ok (None, c) else (number_at w8 c >>= (λ b. Ok (Some b.0, b.1)))) ≡ Ok r → Took c (optional_byte r.0) r.1 × (is_optional_byte r.0 ≡ true)
optional_by true c r bytes e =
    subst (λ (s : Option ℕ × Cursor). Took c (optional_byte s.0) s.1 × (is_optional_byte s.0 ≡ true)) (from_ok (None, c) r (Ok (None, c)) refl e) (none_took c bytes, refl)
optional_by false c r bytes e =
    let said = both_said (number_at w8 c) (λ b. Ok (Some b.0, b.1)) r e in
    let byte = byte_took c said.0 bytes said.1 in
    let made : Option ℕ × Cursor = (Some said.0.0, said.0.1) in
    subst (λ (s : Option ℕ × Cursor). Took c (optional_byte s.0) s.1 × (is_optional_byte s.0 ≡ true)) (from_ok made r (Ok made) refl said.2) (byte.0, le-leb (suc said.0.0) (2 ^ 8) byte.1)

-- a byte that may be absent
pub optional-took : (c : Cursor) (r : Option ℕ × Cursor) → are_bytes c.rest ≡ true → optional_at c ≡ Ok r → Took c (optional_byte r.0) r.1 × (is_optional_byte r.0 ≡ true)
unfolding optional_at
optional-took c r bytes e = optional_by (length c.rest == 0) c r bytes e

fits_31 : (z : ℤ) → FitsSigned w32 z → fits_signed 31 z ≡ true
fits_31 (pos k) h = le-leb (suc k) (2 ^ 31) h.sfits
fits_31 (negsuc k) h = le-leb (suc k) (2 ^ 31) h.sfits

fits_63 : (z : ℤ) → FitsSigned w64 z → fits_signed 63 z ≡ true
fits_63 (pos k) h = le-leb (suc k) (2 ^ 63) h.sfits
fits_63 (negsuc k) h = le-leb (suc k) (2 ^ 63) h.sfits

-- signed numbers
pub signed_at-took_4 : (c : Cursor) (r : ℤ × Cursor) → are_bytes c.rest ≡ true → signed_at w32 c ≡ Ok r → Took c (signed_bytes w32 r.0) r.1 × (fits_signed 31 r.0 ≡ true)
signed_at-took_4 c r bytes e =
    let said = both_said (number_at w32 c) (λ n. Ok (cast_signed w32 n.0, n.1)) r e in
    let number = number_at-took_4 c said.0 bytes said.1 in
    let made : ℤ × Cursor = (cast_signed w32 said.0.0, said.0.1) in
    subst (λ (s : ℤ × Cursor). Took c (signed_bytes w32 s.0) s.1 × (fits_signed 31 s.0 ≡ true)) (from_ok made r (Ok made) refl said.2) (
      subst (λ n. Took c (to_le_bytes w32 n) said.0.1) (sym (of_z-to_z w32 said.0.0 number.below)) number.took,
      fits_31 (cast_signed w32 said.0.0) (sfits_to_z {w = w32} (record { fits = number.below })),
    )

pub signed_at-took_8 : (c : Cursor) (r : ℤ × Cursor) → are_bytes c.rest ≡ true → signed_at w64 c ≡ Ok r → Took c (signed_bytes w64 r.0) r.1 × (fits_signed 63 r.0 ≡ true)
signed_at-took_8 c r bytes e =
    let said = both_said (number_at w64 c) (λ n. Ok (cast_signed w64 n.0, n.1)) r e in
    let number = number_at-took_8 c said.0 bytes said.1 in
    let made : ℤ × Cursor = (cast_signed w64 said.0.0, said.0.1) in
    subst (λ (s : ℤ × Cursor). Took c (signed_bytes w64 s.0) s.1 × (fits_signed 63 s.0 ≡ true)) (from_ok made r (Ok made) refl said.2) (
      subst (λ n. Took c (to_le_bytes w64 n) said.0.1) (sym (of_z-to_z w64 said.0.0 number.below)) number.took,
      fits_63 (cast_signed w64 said.0.0) (sfits_to_z {w = w64} (record { fits = number.below })),
    )

-- ---- the end of a payload

no_bytes : (xs : List ℕ) → length xs ≡ 0 → xs ≡ []
no_bytes [] e = refl
no_bytes (x ∷ xs) e = absurd (omega arith)

ended_by : (over : Bool) (m n : Message) (c : Cursor) → (length c.rest == 0) ≡ over → (if over then Ok m else fault_at {A = Message} c.at fault.Trailing) ≡ Ok n → (m ≡ n) × (c.rest ≡ [])
ended_by true m n c h e = (from_ok m n (Ok m) refl e, no_bytes c.rest (eqb-true (length c.rest) 0 h))
ended_by false m n c h e = absurd (cc)

-- a message whose last field ends the payload
pub message_at_end-took : (payload xs : List ℕ) (m n : Message) (c : Cursor) → Took (start payload) xs c → message_at_end m c ≡ Ok n → (m ≡ n) × (payload ≡ xs)
unfolding message_at_end
message_at_end-took payload xs m n c taken e =
    let over = ended_by (length c.rest == 0) m n c refl e in
    (over.0, taken.whole ∙ ap (λ rest. xs ++ rest) over.1 ∙ append-nil xs)
