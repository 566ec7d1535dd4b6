-- What readers of fields have taken: the bytes that they left out are those that spell what they say.
use Rattle.std.proofs.Common.{◌≡◌, ℕ, zero, suc, ◌+◌, ◌^◌, ◌<◌, Bool, true, false, List, [], ◌∷◌, ◌++◌, Result, Ok, Err, length, take, drop, get_or, nat_lt, refl, sym, subst, arith, lit<, if◌then◌else◌}
use Rattle.std.specs.Int.{Width, w8, w16, w32, w64, byte_len, to_le_bytes, from_le_bytes}
use Rattle.std.proofs.lemmas.Bool.{ltb-true, leb-false, and_parts, le-leb}
use Rattle.std.proofs.lemmas.List.{take-append-drop, length-take-le}
use Rattle.std.proofs.lemmas.Nat.{le_bytes_2, le_bytes_4, le_bytes_8}
use Rattle.id_rules.specs.Bytes.{are_bytes}
use Rattle.wire_rules.specs.Reading.{FieldFault, Cursor, ◌>>=◌, fault_at, bytes_at, number_at}
use Rattle.wire_rules.specs.declared.faults.PayloadKind.TheVariants as fault
use Rattle.id_rules.proofs.Bytes.{bytes_split}
use Rattle.wire_laws.proofs.Readers.{cursor}

-- where two steps in a row say something, the first does, and the second behind it
pub both_said : {A B : Type 0} (r : Result A FieldFault) (next : A → Result B FieldFault) (b : B) → (r >>= next) ≡ Ok b → (a : A) × (r ≡ Ok a) × (next a ≡ Ok b)
both_said (Ok a) next b e = (a, refl, e)
both_said (Err s) next b e = absurd (cc)

-- a reader has taken these bytes, and left bytes
pub record Took (c : Cursor) (xs : List ℕ) (rest : Cursor) : Type 0 where
  pub whole : c.rest ≡ xs ++ rest.rest
  pub front : are_bytes xs ≡ true
  pub left : are_bytes rest.rest ≡ true

-- by whether there are too few
took_by : (few : Bool) (n : ℕ) (c : Cursor) (r : List ℕ × Cursor) → nat_lt (length c.rest) n ≡ few → are_bytes c.rest ≡ true
    → (if few then fault_at (c.at + length c.rest) fault.Short else Ok (take n c.rest, cursor (c.at + n) (drop n c.rest))) ≡ Ok r
    → Took c r.0 r.1 × (length r.0 ≡ n)
took_by true n c r h bytes e = absurd (cc)
took_by false n c r h bytes e =
    let split = sym (take-append-drop n c.rest) in
    let parts = bytes_split (take n c.rest) (drop n c.rest) (subst (λ xs. are_bytes xs ≡ true) split bytes) in
    let enough = leb-false (suc (length c.rest)) n h in
    let same : (take n c.rest, cursor (c.at + n) (drop n c.rest)) ≡ r = from_ok _ r e in
    subst (λ (s : List ℕ × Cursor). Took c s.0 s.1 × (length s.0 ≡ n)) same
    (record { whole = split; front = parts.0; left = parts.1 }, length-take-le n c.rest (omega arith))
  where
    from_ok : (a b : List ℕ × Cursor) → (let x : Result (List ℕ × Cursor) FieldFault = Ok a in x ≡ Ok b) → a ≡ b
    from_ok a b e = cc

pub bytes_at-took : (n : ℕ) (c : Cursor) (r : List ℕ × Cursor) → are_bytes c.rest ≡ true → bytes_at n c ≡ Ok r → Took c r.0 r.1 × (length r.0 ≡ n)
unfolding bytes_at
bytes_at-took n c r bytes e = took_by (nat_lt (length c.rest) n) n c r refl bytes e

-- ---- numbers

pub small_byte : (xs : List ℕ) (i : ℕ) → are_bytes xs ≡ true → get_or xs i 0 < 256
small_byte [] i h = lit< tt
small_byte (x ∷ xs) zero h = ltb-true x (2 ^ 8) (and_parts (nat_lt x (2 ^ 8)) (are_bytes xs) h).0
small_byte (x ∷ xs) (suc i) h = small_byte xs i (and_parts (nat_lt x (2 ^ 8)) (are_bytes xs) h).1

bound_1 : (xs : List ℕ) → are_bytes xs ≡ true → from_le_bytes w8 xs < 2 ^ 8
bound_1 xs h = small_byte xs 0 h

bound_2 : (xs : List ℕ) → are_bytes xs ≡ true → from_le_bytes w16 xs < 2 ^ 16
bound_2 xs h = let a = small_byte xs 0 h in let b = small_byte xs 1 h in omega arith

bound_4 : (xs : List ℕ) → are_bytes xs ≡ true → from_le_bytes w32 xs < 2 ^ 32
bound_4 xs h = let a = small_byte xs 0 h in let b = small_byte xs 1 h in let c = small_byte xs 2 h in let d = small_byte xs 3 h in omega arith

bound_8 : (xs : List ℕ) → are_bytes xs ≡ true → from_le_bytes w64 xs < 2 ^ 64
bound_8 xs h =
    let a = small_byte xs 0 h in let b = small_byte xs 1 h in let c = small_byte xs 2 h in let d = small_byte xs 3 h in
    let e = small_byte xs 4 h in let f = small_byte xs 5 h in let g = small_byte xs 6 h in let i = small_byte xs 7 h in omega arith

-- what a reader of a number says: its bytes, and its bound
pub record TookNumber (w : Width) (bound : ℕ) (c : Cursor) (r : ℕ × Cursor) : Type 0 where
  pub took : Took c (to_le_bytes w r.0) r.1
  pub below : r.0 < bound

pub from_ok : {A : Type 0} (a b : A) (x : Result A FieldFault) → x ≡ Ok a → x ≡ Ok b → a ≡ b
from_ok a b x e f = cc

number_took : (w : Width) (bound : ℕ) → ((xs : List ℕ) → length xs ≡ byte_len w → are_bytes xs ≡ true → to_le_bytes w (from_le_bytes w xs) ≡ xs) → ((xs : List ℕ) → are_bytes xs ≡ true → from_le_bytes w xs < bound)
    → (c : Cursor) (r : ℕ × Cursor) → are_bytes c.rest ≡ true → number_at w c ≡ Ok r → TookNumber w bound c r
number_took w bound back low c r bytes e =
    let said = both_said (bytes_at (byte_len w) c) (λ xs. Ok (from_le_bytes w xs.0, xs.1)) r e in
    let taken = bytes_at-took (byte_len w) c said.0 bytes said.1 in
    subst (TookNumber w bound c) (from_ok (from_le_bytes w said.0.0, said.0.1) r (Ok (from_le_bytes w said.0.0, said.0.1)) refl said.2)
    (record {
      took = subst (λ xs. Took c xs said.0.1) (sym (back said.0.0 taken.1 taken.0.front)) taken.0;
      below = low said.0.0 taken.0.front;
    })

pub number_at-took_2 : (c : Cursor) (r : ℕ × Cursor) → are_bytes c.rest ≡ true → number_at w16 c ≡ Ok r → TookNumber w16 (2 ^ 16) c r
number_at-took_2 c r bytes e = number_took w16 (2 ^ 16) (λ xs size h. le_bytes_2 xs (from_le_bytes w16 xs) size (λ i. small_byte xs i h) refl) bound_2 c r bytes e

pub number_at-took_4 : (c : Cursor) (r : ℕ × Cursor) → are_bytes c.rest ≡ true → number_at w32 c ≡ Ok r → TookNumber w32 (2 ^ 32) c r
number_at-took_4 c r bytes e = number_took w32 (2 ^ 32) (λ xs size h. le_bytes_4 xs (from_le_bytes w32 xs) size (λ i. small_byte xs i h) refl) bound_4 c r bytes e

pub number_at-took_8 : (c : Cursor) (r : ℕ × Cursor) → are_bytes c.rest ≡ true → number_at w64 c ≡ Ok r → TookNumber w64 (2 ^ 64) c r
number_at-took_8 c r bytes e = number_took w64 (2 ^ 64) (λ xs size h. le_bytes_8 xs (from_le_bytes w64 xs) size (λ i. small_byte xs i h) refl) bound_8 c r bytes e

-- the same by a test
pub number-tested : {w : Width} {bound : ℕ} {c : Cursor} {r : ℕ × Cursor} → TookNumber w bound c r → Took c (to_le_bytes w r.0) r.1 × (nat_lt r.0 bound ≡ true)
number-tested {bound = bound} {r = r} n = (n.took, le-leb (suc r.0) bound n.below)

-- one byte
one_byte : (xs : List ℕ) → length xs ≡ 1 → xs ≡ from_le_bytes w8 xs ∷ []
one_byte [] h = absurd (omega arith)
one_byte (x ∷ []) h = refl
one_byte (x ∷ y ∷ xs) h = absurd (omega arith)

pub byte_took : (c : Cursor) (r : ℕ × Cursor) → are_bytes c.rest ≡ true → number_at w8 c ≡ Ok r → Took c (r.0 ∷ []) r.1 × (r.0 < 2 ^ 8)
byte_took c r bytes e =
    let said = both_said (bytes_at 1 c) (λ xs. Ok (from_le_bytes w8 xs.0, xs.1)) r e in
    let taken = bytes_at-took 1 c said.0 bytes said.1 in
    subst (λ (s : ℕ × Cursor). Took c (s.0 ∷ []) s.1 × (s.0 < 2 ^ 8)) (from_ok (from_le_bytes w8 said.0.0, said.0.1) r (Ok (from_le_bytes w8 said.0.0, said.0.1)) refl said.2)
    (subst (λ xs. Took c xs said.0.1) (one_byte said.0.0 taken.1) taken.0, bound_1 said.0.0 taken.0.front)
