-- Fields of a payload, by whether their bytes are there, and items in a row, one at a time.
use Rattle.std.proofs.Common.{◌≡◌, ℕ, zero, suc, ◌+◌, ◌-◌, ◌<◌, ◌≤◌, Bool, true, false, List, [], ◌∷◌, ◌++◌, Result, Ok, Err, length, take, drop, nat_lt, refl, sym, ap, ◌∙◌, arith, append_assoc, append-nil, lt-ltb, le-ltb}
use Rattle.wire_rules.specs.Reading.{Cursor, FieldFault, FieldReading, ◌>>=◌, bytes_at, fault_at, items_at}
use Rattle.wire_rules.specs.declared.faults.PayloadKind.TheVariants as fault
use Rattle.recon_messages.specs.Says.{IsField}
use Rattle.recon_messages.specs.declared.fault.FieldStop.{FieldStop}
use Rattle.recon_messages.specs.declared.fault.FieldStop.TheVariants as stop

-- too few bytes are left
pub bytes_short : (n at : ℕ) (rest : List ℕ) → length rest < n → bytes_at n (record { at = at; rest = rest }) ≡ fault_at (at + length rest) fault.Short
unfolding bytes_at
bytes_short n at rest few = rw (lt-ltb (length rest) n few) refl

-- enough bytes are left
pub bytes_taken : (n at : ℕ) (rest : List ℕ) → n ≤ length rest → bytes_at n (record { at = at; rest = rest }) ≡ Ok (take n rest, record { at = at + n; rest = drop n rest })
unfolding bytes_at
bytes_taken n at rest enough = rw (le-ltb (length rest) n enough) refl

-- ---- items in a row, behind those that were read

module _ {A : Type 0} (item : Cursor → FieldReading A) where
  abbrev first_before : A → List A × Cursor → FieldReading (List A)
  first_before x more = Ok (x ∷ more.0, more.1)

  abbrev all_before : List A → List A × Cursor → FieldReading (List A)
  all_before xs more = Ok (xs ++ more.0, more.1)

  abbrev more_behind : ℕ → A × Cursor → FieldReading (List A)
  more_behind n x = items_at item n x.1 >>= first_before x.0

  -- n items more, behind these
  abbrev pub items_behind : List A → ℕ → Cursor → FieldReading (List A)
  items_behind xs n c = items_at item n c >>= all_before xs

  same_items : (r : FieldReading (List A)) → (r >>= all_before []) ≡ r
  same_items (Ok more) = refl
  same_items (Err f) = refl

  pub items_begin : (n : ℕ) (c : Cursor) → items_behind [] n c ≡ items_at item n c
  items_begin n c = same_items (items_at item n c)

  pub items_end : (xs : List A) (c : Cursor) → items_behind xs 0 c ≡ Ok (xs, c)
  unfolding items_at
  items_end xs c = ap (λ (ys : List A). all_before ys ([], c)) refl ∙ done (append-nil xs)
    where
      done : {ys zs : List A} → ys ≡ zs → (let r : FieldReading (List A) = Ok (ys, c) in r ≡ Ok (zs, c))
      done e = cc

  pushed : (xs : List A) (x : A) (r : FieldReading (List A)) → ((r >>= first_before x) >>= all_before xs) ≡ (r >>= all_before (xs ++ x ∷ []))
  pushed xs x (Ok more) = let same = append_assoc xs (x ∷ []) more.0 in cc
  pushed xs x (Err f) = refl

  -- one item more
  pub items_step : (xs : List A) (n : ℕ) (c : Cursor) (x : A) (next : Cursor) → item c ≡ Ok (x, next) → items_behind xs (suc n) c ≡ items_behind (xs ++ x ∷ []) n next
  unfolding items_at
  items_step xs n c x next e = ap (λ (r : FieldReading A). (r >>= more_behind n) >>= all_before xs) e ∙ pushed xs x (items_at item n next)

  -- an item that has a fault
  pub items_fault : (xs : List A) (n : ℕ) (c : Cursor) (f : FieldFault) → item c ≡ Err f → items_behind xs (suc n) c ≡ Err f
  unfolding items_at
  items_fault xs n c f e = ap (λ (r : FieldReading A). (r >>= more_behind n) >>= all_before xs) e

  -- the same in a loop that has read i of n items

  pub loop_more : (n i : ℕ) (begin c next : Cursor) (xs ys : List A) (x : A) → i < n → ys ≡ xs ++ x ∷ [] → item c ≡ Ok (x, next)
      → items_behind xs (n - i) c ≡ items_at item n begin → items_behind ys (n - (i + 1)) next ≡ items_at item n begin
  loop_more n i begin c next xs ys x inside more e before =
      let left : n - i ≡ suc (n - (i + 1)) = omega arith in
      ap (λ (zs : List A). items_behind zs (n - (i + 1)) next) more
      ∙ (sym (items_step xs (n - (i + 1)) c x next e) ∙ (ap (λ (k : ℕ). items_behind xs k c) (sym left) ∙ before))

  pub loop_all : (n i : ℕ) (begin c : Cursor) (xs : List A) → n ≤ i → items_behind xs (n - i) c ≡ items_at item n begin → items_at item n begin ≡ Ok (xs, c)
  loop_all n i begin c xs past before =
      let left : n - i ≡ 0 = omega arith in
      sym before ∙ (ap (λ (k : ℕ). items_behind xs k c) left ∙ items_end xs c)

  pub loop_stopped : {B : Type 0} (view : B → List A) (n i : ℕ) (begin c next after : Cursor) (xs : List A) (s : FieldStop) → i < n → IsField {A = A} {B = A} (λ x. x) (item c) (Err s) next
      → items_behind xs (n - i) c ≡ items_at item n begin → IsField view (items_at item n begin) (Err s) after
  loop_stopped view n i begin c next after xs (stop.Fault at kind) inside e before =
      let left : n - i ≡ suc (n - (i + 1)) = omega arith in
      sym before ∙ (ap (λ (k : ℕ). items_behind xs k c) left ∙ items_fault xs (n - (i + 1)) c (record { at = at; kind = kind }) e)
  loop_stopped view n i begin c next after xs stop.OutOfMemory inside e before = tt
