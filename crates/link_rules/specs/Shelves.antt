-- What a shelf of named contents tells.
use Rattle.std.specs.Prelude.{ℕ, Bool, List, find, not, filter, option_map, bytes_eq}
use Rattle.std.specs.declared.option.Option.{Option}

-- a call, with the name that it is for
pub data ShelfCall : Type 0 where
  ReadCall : (name : List ℕ) → ShelfCall
  SaveCall : (name : List ℕ) → ShelfCall

pub record Content : Type 0 where
  pub name : List ℕ
  pub bytes : List ℕ

-- the contents, of which no two have one name, and the calls so far
pub record Shelf : Type 0 where
  pub contents : List Content
  pub calls : List ShelfCall

abbrev pub is_named : List ℕ → Content → Bool
is_named name c = bytes_eq c.name name

-- the bytes under a name, where the shelf has it
abbrev pub content_of : Shelf → List ℕ → Option (List ℕ)
content_of shelf name = option_map (λ c. c.bytes) (find (is_named name) shelf.contents)

-- what is under all other names
abbrev pub others : Shelf → List ℕ → List Content
others shelf name = filter (λ c. not (is_named name c)) shelf.contents
