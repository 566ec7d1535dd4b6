-- Reading a content of a shelf piece by piece.
use Rattle.std.proofs.Common.{◌≡◌, ℕ, ◌+◌, ◌≤◌, ◌<◌, List, [], ◌∷◌, ◌++◌, length, take, replicate, inl, inr, arith, refl, sym, ap, ◌∙◌, append_assoc, append-nil, None, Some, MatchOption, length-drop, length-take, length-append, take-add, take_all}
use Rattle.std.proofs.lemmas.List.{replicate_more}
use Rattle.std.specs.declared.option.Option.{Option}
use Rattle.link_rules.specs.Shelves.{Shelf, ReadCall, content_of}
use Rattle.erlay_base.specs.ShelfCalls.{ToldShelf, IsPart, IsReadPart, IsUnread, AreReads, IsFailedCall, HasContent, IsLonger}
use Rattle.erlay_base.specs.Told.{AreTold}

-- so many first bytes of a content
abbrev pub IsFront : Option (List ℕ) → List ℕ → Type 0
IsFront content bytes = MatchOption content (bytes ≡ []) (λ c. (length bytes ≤ length c) × (bytes ≡ take (length bytes) c))

-- bytes of the content of that name were read, and nothing else was done
pub record IsLoaded (name bytes : List ℕ) (old new : Shelf) : Type 0 where
  pub front : IsFront (content_of old name) bytes
  pub reads : AreReads name old new

front_none : (content : Option (List ℕ)) → IsFront content []
front_none None = refl
front_none (Some xs) = (omega arith, refl)

front_more : (content : Option (List ℕ)) (bytes buf : List ℕ) (n : ℕ) → IsFront content bytes → MatchOption content ⊥ (λ c. IsPart c (length bytes) n buf) → IsFront content (bytes ++ take n buf)
front_more None bytes buf n h k = absurd k
front_more (Some xs) bytes buf n h k =
    let bound = k.within in
    let part : length (take n buf) ≡ n = rw k.bytes (omega (arith, length-take {A = ℕ}, length-drop {A = ℕ})) in
    let whole : length (bytes ++ take n buf) ≡ length bytes + n = rw length-append (rw part refl) in
    let within : length (bytes ++ take n buf) ≤ length xs = omega arith in
    let joined : bytes ++ take n buf ≡ take (length bytes + n) xs = rw (take-add, ← h.1, k.bytes) refl in
    (within, joined ∙ ap (λ (m : ℕ). take m xs) (sym whole))

front_whole : (content : Option (List ℕ)) (bytes buf : List ℕ) (n : ℕ) → IsFront content bytes → MatchOption content ⊥ (λ c. IsPart c (length bytes) n buf) → n ≡ 0 → 0 < length buf → content ≡ Some bytes
front_whole None bytes buf n h k none room = absurd k
front_whole (Some xs) bytes buf n h k none room = ap Some (sym (h.1 ∙ take_all (length bytes) xs (k.end none room)))

front_longer : (content : Option (List ℕ)) (bytes : List ℕ) (limit : ℕ) → IsFront content bytes → limit < length bytes → MatchOption content ⊥ (λ c. limit < length c)
front_longer None bytes limit h k = let none = rw h at k in absurd (omega arith)
front_longer (Some xs) bytes limit h k = omega (arith, h.0)

more_reads : (name : List ℕ) (a b c : Shelf) → AreReads name a b → c.contents ≡ b.contents → c.calls ≡ b.calls ++ ReadCall name ∷ [] → AreReads name a c
more_reads name a b c h same more = record {
  contents = same ∙ h.contents;
  count = h.count + 1;
  calls = more ∙ ap (λ t. t ++ ReadCall name ∷ []) h.calls ∙ append_assoc a.calls (replicate h.count (ReadCall name)) (ReadCall name ∷ []) ∙ ap (λ t. a.calls ++ t) (replicate_more h.count (ReadCall name));
}

failed_reads : (name : List ℕ) (a b c : Shelf) → AreReads name a b → c.contents ≡ b.contents → IsFailedCall (ReadCall name) b c → AreReads name a c
failed_reads name a b c h same (inl e) = record { contents = same ∙ h.contents; count = h.count; calls = e ∙ h.calls }
failed_reads name a b c h same (inr e) = more_reads name a b c h same e

pub loaded_none : (a : ToldShelf) (name : List ℕ) → AreTold a a (IsLoaded name [])
loaded_none None name = tt
loaded_none (Some a) name = record {
  front = front_none (content_of a name);
  reads = record { contents = refl; count = 0; calls = sym (append-nil a.calls) };
}

pub loaded_more : (a b c : ToldShelf) (name bytes buf : List ℕ) (n : ℕ) → AreTold a b (IsLoaded name bytes) → AreTold b c (IsReadPart name (length bytes) n buf) → AreTold a c (IsLoaded name (bytes ++ take n buf))
loaded_more None b c name bytes buf n h k = tt
loaded_more (Some a) None c name bytes buf n h k = absurd h
loaded_more (Some a) (Some b) None name bytes buf n h k = absurd k
loaded_more (Some a) (Some b) (Some c) name bytes buf n h k = record {
  front = front_more (content_of a name) bytes buf n h.front (rw h.reads.contents at k.part);
  reads = more_reads name a b c h.reads k.contents k.calls;
}

-- at the end of the content all of it was read
pub loaded_all : (a b c : ToldShelf) (name bytes buf : List ℕ) (n : ℕ) → AreTold a b (IsLoaded name bytes) → AreTold b c (IsReadPart name (length bytes) n buf) → n ≡ 0 → 0 < length buf → HasContent a name bytes
loaded_all None b c name bytes buf n h k none room = tt
loaded_all (Some a) None c name bytes buf n h k none room = absurd h
loaded_all (Some a) (Some b) None name bytes buf n h k none room = absurd k
loaded_all (Some a) (Some b) (Some c) name bytes buf n h k none room = front_whole (content_of a name) bytes buf n h.front (rw h.reads.contents at k.part) none room

pub loaded_longer : (a b : ToldShelf) (name bytes : List ℕ) (limit : ℕ) → AreTold a b (IsLoaded name bytes) → limit < length bytes → IsLonger a name limit
loaded_longer None b name bytes limit h k = tt
loaded_longer (Some a) None name bytes limit h k = absurd h
loaded_longer (Some a) (Some b) name bytes limit h k = front_longer (content_of a name) bytes limit h.front k

pub loaded_reads : (a b : ToldShelf) (name bytes : List ℕ) → AreTold a b (IsLoaded name bytes) → AreTold a b (AreReads name)
loaded_reads None b name bytes h = tt
loaded_reads (Some a) None name bytes h = absurd h
loaded_reads (Some a) (Some b) name bytes h = h.reads

-- a read more
pub reads_more : (a b c : ToldShelf) (name bytes buf : List ℕ) (at n : ℕ) → AreTold a b (IsLoaded name bytes) → AreTold b c (IsReadPart name at n buf) → AreTold a c (AreReads name)
reads_more None b c name bytes buf at n h k = tt
reads_more (Some a) None c name bytes buf at n h k = absurd h
reads_more (Some a) (Some b) None name bytes buf at n h k = absurd k
reads_more (Some a) (Some b) (Some c) name bytes buf at n h k = more_reads name a b c h.reads k.contents k.calls

-- a read more, which failed
pub reads_failed : (a b c : ToldShelf) (name bytes : List ℕ) → AreTold a b (IsLoaded name bytes) → AreTold b c (IsUnread name) → AreTold a c (AreReads name)
reads_failed None b c name bytes h k = tt
reads_failed (Some a) None c name bytes h k = absurd h
reads_failed (Some a) (Some b) None name bytes h k = absurd k
reads_failed (Some a) (Some b) (Some c) name bytes h k = failed_reads name a b c h.reads k.contents k.calls
