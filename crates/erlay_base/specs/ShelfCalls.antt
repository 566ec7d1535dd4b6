-- What the calls of a shelf do to its contents.
use Rattle.std.specs.Prelude.{◌≡◌, ◌⊎◌, ℕ, ◌-◌, ◌<◌, ◌≤◌, List, [], ◌∷◌, ◌++◌, length, take, drop, replicate, Some, IfSome, MatchOption, Result, Ok, Err}
use Rattle.std.specs.declared.option.Option.{Option}
use Rattle.link_rules.specs.Shelves.{Shelf, ShelfCall, ReadCall, SaveCall, content_of, others}

-- the contents and the calls of a shelf, where it tells them
abbrev pub ToldShelf : Type 0
ToldShelf = Option Shelf

abbrev pub with_call : Shelf → ShelfCall → List ShelfCall
with_call s call = s.calls ++ call ∷ []

-- a call that failed may be missing from the list of calls
abbrev pub IsFailedCall : ShelfCall → Shelf → Shelf → Type 0
IsFailedCall call old new = (new.calls ≡ old.calls) ⊎ (new.calls ≡ with_call old call)

-- n bytes of a content from a place on, and none into a buffer that isn't empty exactly where the place isn't in the content
pub record IsPart (content : List ℕ) (at n : ℕ) (buf : List ℕ) : Type 0 where
  pub bytes : take n buf ≡ take n (drop at content)
  pub within : n ≤ length content - at
  pub end : n ≡ 0 → 0 < length buf → length content ≤ at

pub record IsReadPart (name : List ℕ) (at n : ℕ) (buf : List ℕ) (old new : Shelf) : Type 0 where
  pub part : MatchOption (content_of old name) ⊥ (λ content. IsPart content at n buf)
  pub contents : new.contents ≡ old.contents
  pub calls : new.calls ≡ with_call old (ReadCall name)

pub record IsUnread (name : List ℕ) (old new : Shelf) : Type 0 where
  pub contents : new.contents ≡ old.contents
  pub calls : IsFailedCall (ReadCall name) old new

abbrev pub IsReadAt : {E : Type 0} → Result ℕ E → List ℕ → ℕ → List ℕ → Shelf → Shelf → Type 0
IsReadAt (Ok n) name at buf old new = IsReadPart name at n buf old new
IsReadAt (Err _) name at buf old new = IsUnread name old new

pub record IsKept (name bytes : List ℕ) (old new : Shelf) : Type 0 where
  pub content : content_of new name ≡ Some bytes
  pub others : others new name ≡ others old name
  pub calls : new.calls ≡ with_call old (SaveCall name)

-- the name may have any content, or none
pub record IsUnsaved (name : List ℕ) (old new : Shelf) : Type 0 where
  pub others : others new name ≡ others old name
  pub calls : IsFailedCall (SaveCall name) old new

abbrev pub IsSaved : {T E : Type 0} → Result T E → List ℕ → List ℕ → Shelf → Shelf → Type 0
IsSaved (Ok _) name bytes old new = IsKept name bytes old new
IsSaved (Err _) name bytes old new = IsUnsaved name old new

-- ---- reading a whole content

-- the bytes are the content of that name, where contents are told
abbrev pub HasContent : ToldShelf → List ℕ → List ℕ → Type 0
HasContent told name bytes = IfSome told (λ s. content_of s name ≡ Some bytes)

-- the content of that name has more bytes than so many, where contents are told
abbrev pub IsLonger : ToldShelf → List ℕ → ℕ → Type 0
IsLonger told name limit = IfSome told (λ s. MatchOption (content_of s name) ⊥ (λ content. limit < length content))

-- nothing but reads of that name
pub record AreReads (name : List ℕ) (old new : Shelf) : Type 0 where
  pub contents : new.contents ≡ old.contents
  pub count : ℕ
  pub calls : new.calls ≡ old.calls ++ replicate count (ReadCall name)
