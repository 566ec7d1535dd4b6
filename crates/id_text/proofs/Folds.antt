-- Ids read line by line, beside their rows.
use Rattle.std.proofs.Common.{◌≡◌, ℕ, List, [], ◌∷◌, ◌++◌, Ok, Err, refl, ap, ◌∙◌}
use Rattle.std.specs.Prelude.{flat_map}
use Rattle.std.proofs.lemmas.Grind.{flat_map-append}
use Rattle.std.proofs.lemmas.List.{append-nil}
use Rattle.base_types.specs.declared.lists.Hash32.{Hash32}
use Rattle.base_types.specs.declared.text.Kind.{Kind}
use Rattle.line_rules.specs.Lines.{NumberedLine, line}
use Rattle.line_rules.specs.Reading.{line_fold}
use Rattle.id_rules.specs.Ids.{keys_of}
use Rattle.protocol_text_rules.specs.Works.{id_line, id_of_line, id_step, ids_text}

-- one id more
pub folded_more : (ids : List Hash32) (l : NumberedLine) (ls : List NumberedLine) (id : Hash32) → id_of_line l.bytes ≡ Ok id
    → line_fold id_step ids (l ∷ ls) ≡ line_fold id_step (ids ++ id ∷ []) ls
unfolding line_fold
folded_more ids l ls id is = rw is refl

-- the first line that is no id
pub folded_end : (ids : List Hash32) (l : NumberedLine) (ls : List NumberedLine) (k : Kind) → id_of_line l.bytes ≡ Err k
    → line_fold id_step ids (l ∷ ls) ≡ Err (record { place = l.number; kind = k })
unfolding line_fold
folded_end ids l ls k is = rw is refl

-- no line more
pub folded_none : (ids : List Hash32) → line_fold id_step ids [] ≡ Ok ids
unfolding line_fold
folded_none ids = refl

-- one row more
pub ids_text-more : (salt other : ℕ) (ids : List Hash32) (id : Hash32)
    → ids_text salt other (ids ++ id ∷ []) ≡ ids_text salt other ids ++ line (id_line (keys_of salt other) id)
ids_text-more salt other ids id =
    let row : Hash32 → List ℕ = λ i. line (id_line (keys_of salt other) i) in
    flat_map-append row ids (id ∷ []) ∙ ap (λ (last : List ℕ). flat_map row ids ++ last) (append-nil (row id))
