-- Words ask for one command.
use Rattle.std.proofs.Common.{◌≡◌, ℕ, ◌+◌, ◌*◌, List, [], ◌∷◌, length, get_or, refl, sym, ap, ◌∙◌, subst, arith}
use Rattle.std.proofs.lemmas.Fmt.{decimal_injective}
use Rattle.std.specs.Fmt.{decimal}
use Rattle.command_words.specs.declared.command.Command.{Command}
use Rattle.command_words.specs.declared.command.Command.TheVariants as command
use Rattle.command_words.specs.Words.{HasForm, IsFormless, IsSalt}
use Rattle.command_words.proofs.Salts.{same_salt}

-- the first letter of a command's name and how long the name is, as one number: 16 times the letter, and the length
mark_of : Command → ℕ
mark_of (command.Make capacity) = 1748
mark_of command.Merge = 1749
mark_of command.Decode = 1606
mark_of (command.Ids salt other) = 1683
mark_of command.Show = 1844
mark_of command.Pack = 1796
mark_of command.Sim = 1843
mark_of (command.Gen number) = 1651

mark_in : List (List ℕ) → ℕ
mark_in [] = 0
mark_in (w ∷ ws) = 16 * get_or w 0 0 + length w

marked : (words : List (List ℕ)) (c : Command) → HasForm words c → mark_in words ≡ mark_of c
unfolding mark_in mark_of
marked words (command.Make capacity) form = ap mark_in form.0
marked words command.Merge form = ap mark_in form
marked words command.Decode form = ap mark_in form
marked words (command.Ids salt other) form = ap mark_in form.2
marked words command.Show form = ap mark_in form
marked words command.Pack form = ap mark_in form
marked words command.Sim form = ap mark_in form
marked words (command.Gen number) form = ap mark_in form.0

-- two commands of one name are one command
same_make : (words : List (List ℕ)) (m n : ℕ) → HasForm words (command.Make m) → HasForm words (command.Make n) → command.Make m ≡ command.Make n
same_make words m n is_m is_n =
    let same : decimal m ≡ decimal n = cc (is_m.0, is_n.0) in
    ap command.Make (decimal_injective m n (omega (arith, is_m.1)) (omega (arith, is_n.1)) same)

same_gen : (words : List (List ℕ)) (m n : ℕ) → HasForm words (command.Gen m) → HasForm words (command.Gen n) → command.Gen m ≡ command.Gen n
same_gen words m n is_m is_n =
    let same : decimal m ≡ decimal n = cc (is_m.0, is_n.0) in
    ap command.Gen (decimal_injective m n (omega (arith, is_m.1.small)) (omega (arith, is_n.1.small)) same)

same_ids : (words : List (List ℕ)) (k l m n : ℕ) → HasForm words (command.Ids k l) → HasForm words (command.Ids m n) → command.Ids k l ≡ command.Ids m n
same_ids words k l m n is_first is_second =
    let first : is_first.0 ≡ is_second.0 = cc (is_first.2, is_second.2) in
    let second : is_first.1 ≡ is_second.1 = cc (is_first.2, is_second.2) in
    let salt = same_salt is_second.0 k m (subst (λ (w : List ℕ). IsSalt w k) first is_first.3) is_second.3 in
    let other = same_salt is_second.1 l n (subst (λ (w : List ℕ). IsSalt w l) second is_first.4) is_second.4 in
    ap (λ (x : ℕ). command.Ids x l) salt ∙ ap (λ (x : ℕ). command.Ids m x) other

-- two commands of one name that words ask for
one_of : (words : List (List ℕ)) (c d : Command) → HasForm words c → HasForm words d → mark_of c ≡ mark_of d → c ≡ d
unfolding mark_of
one_of words (command.Make m) (command.Make n) is_c is_d same = same_make words m n is_c is_d
one_of words command.Merge command.Merge is_c is_d same = refl
one_of words command.Decode command.Decode is_c is_d same = refl
one_of words (command.Ids k l) (command.Ids m n) is_c is_d same = same_ids words k l m n is_c is_d
one_of words command.Show command.Show is_c is_d same = refl
one_of words command.Pack command.Pack is_c is_d same = refl
one_of words command.Sim command.Sim is_c is_d same = refl
one_of words (command.Gen m) (command.Gen n) is_c is_d same = same_gen words m n is_c is_d
one_of words c d _ _ same = absurd (omega (arith, same))

-- words ask for one command
pub one_form : (words : List (List ℕ)) (c d : Command) → HasForm words c → HasForm words d → c ≡ d
one_form words c d is_c is_d = one_of words c d is_c is_d (sym (marked words c is_c) ∙ marked words d is_d)

-- words of which the third spells no salt ask for none
pub formless_since : (name first second : List ℕ) → ((n : ℕ) → IsSalt second n → ⊥) → IsFormless (name ∷ first ∷ second ∷ [])
formless_since name first second none (command.Make m) form = cc form.0
formless_since name first second none command.Merge form = cc form
formless_since name first second none command.Decode form = cc form
formless_since name first second none (command.Ids k l) form =
    let same : form.1 ≡ second = cc form.2 in none l (subst (λ (w : List ℕ). IsSalt w l) same form.4)
formless_since name first second none command.Show form = cc form
formless_since name first second none command.Pack form = cc form
formless_since name first second none command.Sim form = cc form
formless_since name first second none (command.Gen n) form = cc form.0
