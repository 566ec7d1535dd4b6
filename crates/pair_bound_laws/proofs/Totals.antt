-- Totals over messages.
use Rattle.std.proofs.Common.{◌≡◌, ◌≤◌, ℕ, length, flat_map, ◌+◌, ◌||◌, Bool, true, false, List, [], ◌∷◌, ◌++◌, refl, sym, ap, ◌∙◌, subst, arith, le_refl, lit≤}
use Rattle.std.specs.List.{AllByRecursion}
use Rattle.std.proofs.lemmas.List.{length-append}
use Rattle.wire_rules.specs.declared.message.Message.{Message}
use Rattle.pair_bound_laws.specs.Costs.{total_weight, inv_weight, is_ping, has_ping, unpinged_inv_by, unpinged_invs, IsFilled}

pub total_append : (f : Message → ℕ) (xs ys : List Message) → total_weight f (xs ++ ys) ≡ total_weight f xs + total_weight f ys
unfolding total_weight
total_append f [] ys = let same : total_weight f ys ≡ 0 + total_weight f ys = omega arith in same
total_append f (x ∷ xs) ys = let rest = total_append f xs ys in let same : f x + total_weight f (xs ++ ys) ≡ f x + total_weight f xs + total_weight f ys = omega arith in same

pub total_less : (f g : Message → ℕ) → ((m : Message) → f m ≤ g m) → (ms : List Message) → total_weight f ms ≤ total_weight g ms
unfolding total_weight
total_less f g h [] = lit≤ tt
total_less f g h (m ∷ ms) = let one = h m in let rest = total_less f g h ms in omega arith

-- each message is as many items or fewer
pub total_items : {X : Type 0} (f : Message → ℕ) (g : Message → List X) → ((m : Message) → IsFilled m → f m ≤ length (g m)) → (ms : List Message) → AllByRecursion IsFilled ms → total_weight f ms ≤ length (flat_map g ms)
unfolding total_weight
total_items f g h [] k = lit≤ tt
total_items f g h (m ∷ ms) k = let one = h m k.0 in let rest = total_items f g h ms k.1 in let sum = length-append (g m) (flat_map g ms) in omega (arith, one, rest, sum)

-- ---- announcements without a ping

has_ping_append : (xs ys : List Message) → has_ping (xs ++ ys) ≡ (has_ping xs || has_ping ys)
unfolding has_ping
has_ping_append [] ys = refl
has_ping_append (x ∷ xs) ys = ap (λ b. is_ping x || b) (has_ping_append xs ys) ∙ or_assoc (is_ping x) (has_ping xs) (has_ping ys)
  where
    or_assoc : (a b c : Bool) → (a || (b || c)) ≡ ((a || b) || c)
    or_assoc true b c = refl
    or_assoc false b c = refl

late_less : (a b : Bool) (m : Message) → unpinged_inv_by (a || b) m ≤ unpinged_inv_by a m
unfolding unpinged_inv_by
late_less true b m = le_refl 0
late_less false true m = omega arith
late_less false false m = le_refl (inv_weight m)

pub late_append : (xs ys : List Message) → unpinged_invs (xs ++ ys) ≤ unpinged_invs xs + unpinged_invs ys
unfolding unpinged_invs
late_append [] ys = omega arith
late_append (x ∷ xs) ys =
    let one : unpinged_inv_by (has_ping (xs ++ ys)) x ≤ unpinged_inv_by (has_ping xs) x = subst (λ b. unpinged_inv_by b x ≤ unpinged_inv_by (has_ping xs) x) (sym (has_ping_append xs ys)) (late_less (has_ping xs) (has_ping ys) x) in
    let rest = late_append xs ys in
    omega arith
