-- The entries that a shelf in memory keeps.
use Rattle.std.proofs.Common.{◌≡◌, ℕ, Bool, true, false, cond, not, List, [], ◌∷◌, bytes_eq, filter, refl, ap}
use Rattle.std.proofs.lemmas.Slice.Eq.{bytes_eq-Decides}
use Rattle.std.specs.String.{string_bytes}
use Rattle.std.specs.declared.alloc.Global.{Global}
use Rattle.std.specs.declared.string.String.{String}
use Rattle.std.specs.declared.vec.Vec.{Vec}
use Rattle.link_rules.specs.Shelves.{Content}
use Rattle.erlay_base.specs.LinkFakes.{content_entry, contents_of, others_among}

-- whether an entry has another name
abbrev pub has_other_name : List ℕ → String Global × Vec ℕ Global → Bool
has_other_name name e = not (bytes_eq (string_bytes e.0) name)

others_step : (name : List ℕ) (e : String Global × Vec ℕ Global) (kept : List (String Global × Vec ℕ Global)) (others : List Content) (b : Bool) → has_other_name name e ≡ b → others_among (contents_of kept) name ≡ others → others_among (contents_of (cond b (e ∷ kept) kept)) name ≡ cond b (content_entry e ∷ others) others
others_step name e kept others true is h = rw is (ap (λ t. content_entry e ∷ t) h)
others_step name e kept others false is h = h

-- dropping the entries with a name leaves the others
pub others_of_filter : (name : List ℕ) (held : List (String Global × Vec ℕ Global)) → others_among (contents_of (filter (has_other_name name) held)) name ≡ others_among (contents_of held) name
others_of_filter name [] = refl
others_of_filter name (e ∷ es) = others_step name e (filter (has_other_name name) es) (others_among (contents_of es) name) (has_other_name name e) refl (others_of_filter name es)

-- an entry with the name in front of those that were left
pub others_put : (name : List ℕ) (e : String Global × Vec ℕ Global) (held kept : List (String Global × Vec ℕ Global)) → string_bytes e.0 ≡ name → kept ≡ filter (has_other_name name) held → others_among (contents_of (e ∷ kept)) name ≡ others_among (contents_of held) name
others_put name e held kept named left =
    let same : bytes_eq (string_bytes e.0) name ≡ true = (bytes_eq-Decides (string_bytes e.0) name).1 named in
    rw (same, left) (others_of_filter name held)
