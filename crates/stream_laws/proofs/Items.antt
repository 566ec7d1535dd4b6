-- Items read from the front of bytes, one after another: what is said of frames and of messages alike.
use Rattle.std.proofs.Common.{◌≡◌, ℕ, zero, suc, ◌+◌, ◌-◌, ◌^◌, ◌<◌, ◌≤◌, true, List, [], ◌∷◌, ◌++◌, Option, Some, None, length, drop, flat_map, refl, sym, ap, subst, ◌∙◌, arith, append_assoc, append-nil, not-suc-le-zero}
use Rattle.std.specs.List.{AllByRecursion}
use Rattle.std.proofs.lemmas.Grind.{flat_map-append}
use Rattle.std.proofs.lemmas.List.{length-append, length-drop, drop-append-le}
use Rattle.id_rules.specs.Bytes.{are_bytes}
use Rattle.wire_rules.specs.Stream.{later_offset}
use Rattle.wire_laws.proofs.Parts.{drop_front}
use Rattle.stream_laws.proofs.Offsets.{later_offset-none, later_offset-later_offset, later_offset-low, later_offset-twice}

-- what bytes begin with: no item yet, an item of so many bytes, or a fault
pub data Step (A F : Type 0) : Type 0 where
  Wait : Step A F
  Take : (item : A) → (size : ℕ) → Step A F
  Halt : (fault : F) → Step A F

pub record Reading (A F : Type 0) : Type 0 where
  pub items : List A
  pub offset : ℕ
  pub unread : List ℕ
  pub stop : Option F

abbrev pub no_items : {A F : Type 0} → ℕ → List ℕ → Option F → Reading A F
no_items p bytes stop = record { items = []; offset = p; unread = bytes; stop = stop }

abbrev pub items_before : {A F : Type 0} → List A → Reading A F → Reading A F
items_before xs r = record { items = xs ++ r.items; offset = r.offset; unread = r.unread; stop = r.stop }

abbrev pub reading_by : {A F : Type 0} → Step A F → ℕ → List ℕ → (ℕ → List ℕ → Reading A F) → Reading A F
reading_by Wait p bytes next = no_items p bytes None
reading_by (Take x n) p bytes next = items_before (x ∷ []) (next (later_offset p n) (drop n bytes))
reading_by (Halt f) p bytes next = no_items p bytes (Some f)

-- at most n items
unfoldable pub read_items : {A F : Type 0} → (ℕ → List ℕ → Step A F) → ℕ → ℕ → List ℕ → Reading A F
read_items step zero p bytes = no_items p bytes None
read_items step (suc n) p bytes = reading_by (step p bytes) p bytes (read_items step n)

-- each item has at least one byte
abbrev pub reading : {A F : Type 0} → (ℕ → List ℕ → Step A F) → ℕ → List ℕ → Reading A F
reading step p bytes = read_items step (length bytes) p bytes

-- the same after one piece more
abbrev pub reading_with : {A F : Type 0} → (ℕ → List ℕ → Step A F) → Reading A F → List ℕ → Reading A F
reading_with step r piece = items_before r.items (reading step r.offset (r.unread ++ piece))

-- an item is some of the bytes, and the same whatever follows
pub record IsStep {A F : Type 0} (step : ℕ → List ℕ → Step A F) : Type 0 where
  pub none : (p : ℕ) → step p [] ≡ Wait
  pub size : (p : ℕ) (bytes : List ℕ) (x : A) (n : ℕ) → step p bytes ≡ Take x n → (0 < n) × (n ≤ length bytes)
  pub stays : (p : ℕ) (bytes more : List ℕ) (x : A) (n : ℕ) → step p bytes ≡ Take x n → step p (bytes ++ more) ≡ Take x n

-- by induction along the length of the bytes
pub shorter_first : {P : ℕ → List ℕ → Type 0} → ((p : ℕ) (bytes : List ℕ) → ((q : ℕ) (rest : List ℕ) → length rest < length bytes → P q rest) → P p bytes)
    → (n p : ℕ) (bytes : List ℕ) → length bytes ≤ n → P p bytes
shorter_first one zero p bytes h = one p bytes (λ q rest less. absurd (omega arith))
shorter_first one (suc n) p bytes h = one p bytes (λ q rest less. shorter_first one n q rest (omega arith))

module _ {A F : Type 0} (step : ℕ → List ℕ → Step A F) (is : IsStep step) where
  -- what is left behind an item is shorter
  less : (p : ℕ) (bytes : List ℕ) (x : A) (k : ℕ) → step p bytes ≡ Take x k → length (drop k bytes) < length bytes
  less p bytes x k e = let size = is.size p bytes x k e in let some = size.0 in let low = size.1 in let left = length-drop k bytes in omega arith

  same_next : (s : Step A F) (p : ℕ) (bytes : List ℕ) (f g : ℕ → List ℕ → Reading A F) → step p bytes ≡ s
      → ((q : ℕ) (rest : List ℕ) → length rest < length bytes → f q rest ≡ g q rest) → reading_by s p bytes f ≡ reading_by s p bytes g
  same_next Wait p bytes f g e more = refl
  same_next (Take x k) p bytes f g e more = ap (items_before (x ∷ [])) (more (later_offset p k) (drop k bytes) (less p bytes x k e))
  same_next (Halt fault) p bytes f g e more = refl

  none_read : (n p : ℕ) → read_items step n p [] ≡ no_items p [] None
  unfolding read_items
  none_read zero p = refl
  none_read (suc n) p = ap (λ s. reading_by s p [] (read_items step n)) (is.none p)

  -- more steps than bytes make no difference
  enough : (n m p : ℕ) (bytes : List ℕ) → length bytes ≤ n → length bytes ≤ m → read_items step n p bytes ≡ read_items step m p bytes
  unfolding read_items
  enough n m p [] hn hm = none_read n p ∙ sym (none_read m p)
  enough zero m p (b ∷ bytes) hn hm = absurd (not-suc-le-zero hn)
  enough (suc n) zero p (b ∷ bytes) hn hm = absurd (not-suc-le-zero hm)
  enough (suc n) (suc m) p (b ∷ bytes) hn hm =
      same_next (step p (b ∷ bytes)) p (b ∷ bytes) (read_items step n) (read_items step m) refl (λ q rest less. enough n m q rest (omega arith) (omega arith))

  pub reading-next : (p : ℕ) (bytes : List ℕ) → reading step p bytes ≡ reading_by (step p bytes) p bytes (reading step)
  unfolding read_items
  reading-next p [] = sym (ap (λ s. reading_by s p [] (reading step)) (is.none p))
  reading-next p (b ∷ bytes) =
      same_next (step p (b ∷ bytes)) p (b ∷ bytes) (read_items step (length bytes)) (reading step) refl (λ q rest less. enough (length bytes) (length rest) q rest (omega arith) (omega arith))

  -- ---- in pieces

  with_by : (s : Step A F) (p : ℕ) (bytes piece : List ℕ) → step p bytes ≡ s
      → ((q : ℕ) (rest : List ℕ) → length rest < length bytes → reading_with step (reading step q rest) piece ≡ reading step q (rest ++ piece))
      → reading_with step (reading_by s p bytes (reading step)) piece ≡ reading step p (bytes ++ piece)
  with_by Wait p bytes piece e more = refl
  with_by (Take x k) p bytes piece e more =
      ap (items_before (x ∷ [])) (more (later_offset p k) (drop k bytes) (less p bytes x k e) ∙ ap (reading step (later_offset p k)) (sym (drop-append-le k bytes piece (is.size p bytes x k e).1)))
      ∙ sym (reading-next p (bytes ++ piece) ∙ ap (λ s. reading_by s p (bytes ++ piece) (reading step)) (is.stays p bytes piece x k e))
  with_by (Halt fault) p bytes piece e more = refl

  -- one piece more
  pub reading-with : (p : ℕ) (bytes piece : List ℕ) → reading_with step (reading step p bytes) piece ≡ reading step p (bytes ++ piece)
  reading-with p bytes piece =
      shorter_first {P = λ q rest. reading_with step (reading step q rest) piece ≡ reading step q (rest ++ piece)}
      (λ q rest more. ap (λ r. reading_with step r piece) (reading-next q rest) ∙ with_by (step q rest) q rest piece refl more)
      (length bytes) p bytes (omega arith)

-- ---- items that are spelled

-- how a reading ends
abbrev pub last_step : {A F : Type 0} → Option F → Step A F
last_step None = Wait
last_step (Some fault) = Halt fault

-- the bytes are the items' one after another, and then bytes that begin with no item
pub record IsRead {A F : Type 0} (step : ℕ → List ℕ → Step A F) (spell : A → List ℕ) (IsSound : A → Type 0) (p : ℕ) (bytes : List ℕ) (r : Reading A F) : Type 0 where
  pub whole : bytes ≡ flat_map spell r.items ++ r.unread
  pub each : AllByRecursion IsSound r.items
  pub offset : r.offset ≡ later_offset p (length bytes - length r.unread)
  pub ends : step r.offset r.unread ≡ last_step r.stop

-- what is spelled is found
abbrev pub IsTaken : {A F : Type 0} → (ℕ → List ℕ → Step A F) → (A → List ℕ) → (A → Type 0) → Type 0
IsTaken {A = A} step spell IsSound = (p : ℕ) (x : A) (more : List ℕ) → IsSound x → step p (spell x ++ more) ≡ Take x (length (spell x))

-- what is found is spelled
abbrev pub IsFound : {A F : Type 0} → (ℕ → List ℕ → Step A F) → (A → List ℕ) → (A → Type 0) → Type 0
IsFound {A = A} step spell IsSound = (p : ℕ) (bytes : List ℕ) (x : A) (n : ℕ) → are_bytes bytes ≡ true → step p bytes ≡ Take x n → IsSound x × (bytes ≡ spell x ++ drop n bytes) × (are_bytes (drop n bytes) ≡ true)

module _ {A F : Type 0} (step : ℕ → List ℕ → Step A F) (spell : A → List ℕ) (IsSound : A → Type 0) (is : IsStep step) (takes : IsTaken step spell IsSound) where
  read_one : (p : ℕ) (x : A) (more : List ℕ) → IsSound x → reading step p (spell x ++ more) ≡ items_before (x ∷ []) (reading step (later_offset p (length (spell x))) more)
  read_one p x more sound =
      let n = length (spell x) in
      reading-next step is p (spell x ++ more)
      ∙ (ap (λ s. reading_by s p (spell x ++ more) (reading step)) (takes p x more sound)
      ∙ ap (λ rest. items_before (x ∷ []) (reading step (later_offset p n) rest)) (drop_front n (spell x) more refl))

  read_all : (xs : List A) (p : ℕ) (rest : List ℕ) → p < 2 ^ 64 → AllByRecursion IsSound xs
      → reading step p (flat_map spell xs ++ rest) ≡ items_before xs (reading step (later_offset p (length (flat_map spell xs))) rest)
  read_all [] p rest low each = ap (λ q. reading step q rest) (sym (later_offset-none p low))
  read_all (x ∷ xs) p rest low each =
      let one = length (spell x) in
      let more = length (flat_map spell xs) in
      ap (reading step p) (append_assoc (spell x) (flat_map spell xs) rest)
      ∙ (read_one p x (flat_map spell xs ++ rest) each.0
      ∙ (ap (items_before (x ∷ [])) (read_all xs (later_offset p one) rest (later_offset-low p one) each.1)
      ∙ ap (λ q. items_before (x ∷ xs) (reading step q rest)) (later_offset-later_offset p one more ∙ ap (later_offset p) (sym (length-append (spell x) (flat_map spell xs))))))

  -- what was read is what is read from the front
  pub read-one : (p : ℕ) (bytes : List ℕ) (r : Reading A F) → p < 2 ^ 64 → IsRead step spell IsSound p bytes r → reading step p bytes ≡ r
  read-one p bytes r low read =
      ap (reading step p) read.whole
      ∙ (read_all r.items p r.unread low read.each
      ∙ (ap (λ q. items_before r.items (reading step q r.unread)) at
      ∙ (ap (items_before r.items) (reading-next step is r.offset r.unread ∙ ap (λ s. reading_by s r.offset r.unread (reading step)) read.ends)
      ∙ at_end r)))
    where
      at : later_offset p (length (flat_map spell r.items)) ≡ r.offset
      at =
          ap (later_offset p) (let all = ap length read.whole ∙ length-append (flat_map spell r.items) r.unread in omega arith)
          ∙ sym read.offset

      stop_by : (o : Option F) (q : ℕ) (rest : List ℕ) → reading_by (last_step o) q rest (reading step) ≡ no_items q rest o
      stop_by None q rest = refl
      stop_by (Some fault) q rest = refl

      at_end : (s : Reading A F) → items_before s.items (reading_by (last_step s.stop) s.offset s.unread (reading step)) ≡ s
      at_end s = ap (items_before s.items) (stop_by s.stop s.offset s.unread) ∙ ap (λ xs. record { items = xs; offset = s.offset; unread = s.unread; stop = s.stop }) (append-nil s.items)

  -- bytes have one reading, also where the first offset isn't one of 64 bits
  pub read-same : (p : ℕ) (bytes : List ℕ) (r s : Reading A F) → IsRead step spell IsSound p bytes r → IsRead step spell IsSound p bytes s → r ≡ s
  read-same p bytes r s a b = sym (read-one (later_offset p 0) bytes r (later_offset-low p 0) (from_low r a)) ∙ read-one (later_offset p 0) bytes s (later_offset-low p 0) (from_low s b)
    where
      from_low : (x : Reading A F) → IsRead step spell IsSound p bytes x → IsRead step spell IsSound (later_offset p 0) bytes x
      from_low x read = record { whole = read.whole; each = read.each; offset = read.offset ∙ sym (later_offset-twice p (length bytes - length x.unread)); ends = read.ends }

module _ {A F : Type 0} (step : ℕ → List ℕ → Step A F) (spell : A → List ℕ) (IsSound : A → Type 0) (is : IsStep step) (found : IsFound step spell IsSound) where
  read_by : (s : Step A F) (p : ℕ) (bytes : List ℕ) → p < 2 ^ 64 → are_bytes bytes ≡ true → step p bytes ≡ s
      → ((q : ℕ) (rest : List ℕ) → length rest < length bytes → q < 2 ^ 64 → are_bytes rest ≡ true → IsRead step spell IsSound q rest (reading step q rest))
      → IsRead step spell IsSound p bytes (reading_by s p bytes (reading step))
  read_by Wait p bytes low sound e more = record { whole = refl; each = tt; offset = sym (later_offset-none p low) ∙ ap (later_offset p) (omega arith); ends = e }
  read_by (Halt fault) p bytes low sound e more = record { whole = refl; each = tt; offset = sym (later_offset-none p low) ∙ ap (later_offset p) (omega arith); ends = e }
  read_by (Take x k) p bytes low sound e more =
      let first = found p bytes x k sound e in
      let rest = drop k bytes in
      let size = is.size p bytes x k e in
      let read = more (later_offset p k) rest (less step is p bytes x k e) (later_offset-low p k) first.2 in
      let r = reading step (later_offset p k) rest in
      record {
        whole = first.1 ∙ (ap (λ xs. spell x ++ xs) read.whole ∙ sym (append_assoc (spell x) (flat_map spell r.items) r.unread));
        each = (first.0, read.each);
        offset = read.offset ∙ (later_offset-later_offset p k (length rest - length r.unread) ∙ ap (later_offset p) (sums k bytes (flat_map spell r.items) r.unread size.1 read.whole));
        ends = read.ends;
      }
    where
      sums : (k : ℕ) (bytes front unread : List ℕ) → k ≤ length bytes → drop k bytes ≡ front ++ unread → k + (length (drop k bytes) - length unread) ≡ length bytes - length unread
      sums k bytes front unread low whole =
          let left = length-drop k bytes in let all = ap length whole ∙ length-append front unread in omega arith

  -- what is read from the front of bytes
  pub read-all : (p : ℕ) (bytes : List ℕ) → p < 2 ^ 64 → are_bytes bytes ≡ true → IsRead step spell IsSound p bytes (reading step p bytes)
  read-all p bytes =
      shorter_first {P = λ q rest. q < 2 ^ 64 → are_bytes rest ≡ true → IsRead step spell IsSound q rest (reading step q rest)}
      (λ q rest more low sound. subst (IsRead step spell IsSound q rest) (sym (reading-next step is q rest)) (read_by (step q rest) q rest low sound refl more))
      (length bytes) p bytes (omega arith)

-- ---- parts one after another

module _ {A : Type 0} (spell : A → List ℕ) (p rest q left : List ℕ) (xs ys : List A) (first : p ≡ flat_map spell xs ++ rest) (second : rest ++ q ≡ flat_map spell ys ++ left) where
  pub join-whole : p ++ q ≡ flat_map spell (xs ++ ys) ++ left
  join-whole =
      ap (λ bytes. bytes ++ q) first
      ∙ (append_assoc (flat_map spell xs) rest q
      ∙ (ap (λ bytes. flat_map spell xs ++ bytes) second
      ∙ (sym (append_assoc (flat_map spell xs) (flat_map spell ys) left)
      ∙ ap (λ bytes. bytes ++ left) (sym (flat_map-append spell xs ys)))))

  -- the offset behind both
  pub join-offset : (offset : ℕ) → later_offset (later_offset offset (length p - length rest)) (length (rest ++ q) - length left) ≡ later_offset offset (length (p ++ q) - length left)
  join-offset offset =
      later_offset-later_offset offset (length p - length rest) (length (rest ++ q) - length left)
      ∙ ap (later_offset offset) (let a = ap length first ∙ length-append (flat_map spell xs) rest in
      let b = ap length second ∙ length-append (flat_map spell ys) left in
      let c = length-append rest q in let d = length-append p q in omega arith)

-- more bytes behind a rest
module _ {A : Type 0} (spell : A → List ℕ) (p rest q : List ℕ) (xs : List A) (whole : p ≡ flat_map spell xs ++ rest) where
  pub more-whole : p ++ q ≡ flat_map spell xs ++ (rest ++ q)
  more-whole = ap (λ bytes. bytes ++ q) whole ∙ append_assoc (flat_map spell xs) rest q

  pub more-offset : (offset : ℕ) → later_offset offset (length p - length rest) ≡ later_offset offset (length (p ++ q) - length (rest ++ q))
  more-offset offset =
      ap (later_offset offset) (let a = ap length whole ∙ length-append (flat_map spell xs) rest in let b = length-append rest q in let c = length-append p q in omega arith)

-- ---- faults

pub one_fault : {F : Type 0} (a b : F) → (let x : Option F = Some a in x ≡ Some b) → a ≡ b
one_fault a b e = cc

pub no_fault : {F : Type 0} (a : F) → (let x : Option F = None in x ≡ Some a) → ⊥
no_fault a e = absurd (cc)
