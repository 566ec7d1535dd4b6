-- A machine that stands at a stage: which sketch it waits for, and what a sketch makes of its round.
use Rattle.std.proofs.Common.{◌≡◌, ℕ, zero, suc, ◌+◌, ◌-◌, ◌*◌, ◌/◌, ◌%◌, ◌≤◌, ◌==◌, ◌++◌, Bool, true, false, List, map, length, Option, Some, None, refl, sym, ap, ◌∙◌, subst, arith, eqb-true, eq-eqb, ne_eqb, if◌then◌else◌, nat_le}
use Rattle.std.proofs.Math.Nat.{mul-le-mul_left}
use Rattle.std.proofs.lemmas.Bool.{and_parts, leb-true}
use Rattle.std.proofs.lemmas.Bool.Decides.{nat_tests}
use Rattle.std.proofs.lemmas.Nat.{pow_pos}
use Rattle.sketch_rules.specs.Sketches.{sums_in}
use Rattle.sketch_rules.specs.declared.limits.TheConstants.{MAX_CAPACITY}
use Rattle.wire_rules.specs.declared.name.Name.TheVariants as name
use Rattle.pool_rules.specs.Snapshots.{Member}
use Rattle.pool_rules.specs.declared.limits.TheConstants.{FIRST_LIMIT}
use Rattle.node_rules.specs.Opener.{length_fault, is_first_length, round_after_sketch}
use Rattle.node_rules.specs.Stages.{requested_extensions, capacity_after}
use Rattle.node_rules.specs.State.{Initiator, Machine, Round}
use Rattle.node_rules.specs.declared.end.End.{End}
use Rattle.node_rules.specs.declared.end.End.TheVariants as end
use Rattle.invariant_laws.proofs.Stages.{asked-waiting_phase}
use Rattle.initiator.specs.Questions.{fault_by, round_by, sketch_fault, round_with}
use Rattle.initiator.specs.Stages.{phase_of, round_of, IsPending, IsStage}
use Rattle.initiator.specs.declared.stage.Pending.{Pending}
use Rattle.initiator.specs.declared.stage.Stage.{Stage}
use Rattle.initiator.specs.declared.stage.Stage.TheVariants as stage

-- a machine at a stage
pub record IsAt {F : Type 0} (bits_of : F → ℕ) (m : Machine) (st : Stage F) : Type 0 where
  pub phase : m.phase ≡ phase_of st
  pub round : m.round ≡ round_of bits_of st

-- how many extensions were asked for, where a sketch is waited for
abbrev pub extensions_at : {F : Type 0} → Stage F → Option ℕ
extensions_at stage.Waiting = Some 0
extensions_at (stage.Extending p) = Some p.extensions
extensions_at other = None

-- the round at a stage with the sums of these bytes
abbrev pub round_in : {F : Type 0} → (F → ℕ) → Stage F → List Member → List ℕ → Round
round_in bits_of (stage.Extending p) set bytes = record { snapshot = p.snapshot.members; capacity = p.capacity; sums = map bits_of p.sketch ++ sums_in bytes }
round_in bits_of other set bytes = record { snapshot = set; capacity = length bytes / 4; sums = sums_in bytes }

-- as many bytes are waited for
abbrev pub IsAwaited : {F : Type 0} → Stage F → ℕ → Type 0
IsAwaited stage.Waiting len = is_first_length len ≡ true
IsAwaited (stage.Extending p) len = len ≡ 4 * length p.sketch
IsAwaited other len = ⊥

-- ---- by the number of extensions

requested_in : {F : Type 0} (st : Stage F) → IsStage st → requested_extensions (phase_of st) ≡ extensions_at st
unfolding requested_extensions
requested_in stage.Idle h = refl
requested_in stage.Waiting h = refl
requested_in (stage.Extending p) h = asked-waiting_phase p.extensions h.twice
requested_in stage.Barrier h = refl
requested_in stage.Fetching h = refl

if_none : (t : Bool) (e : End) → (if t then None else Some e) ≡ None → t ≡ true
if_none true e h = refl
if_none false e h = absurd (let apart : Some e ≡ None = h in cc)

-- a first sketch
first_fault : (m : Machine) (len : ℕ) → length_fault m 0 len ≡ (if is_first_length len then None else Some (end.SketchLength len 0))
unfolding length_fault
first_fault m len = refl

-- an extension has as many sums as were there before
more_fault : (m : Machine) (e sums len : ℕ) → 1 ≤ e → sums ≡ capacity_after m.round.capacity (e - 1)
    → length_fault m e len ≡ (if len == 4 * sums then None else Some (end.SketchLength len (4 * sums)))
unfolding length_fault
more_fault m zero sums len h e = absurd (omega arith)
more_fault m (suc n) sums len h e =
    let one_less : suc n - 1 ≡ n = omega arith in
    ap (λ s. if len == 4 * s then None else Some (end.SketchLength len (4 * s))) (sym (e ∙ ap (capacity_after m.round.capacity) one_less))

first_round : (m : Machine) (set : List Member) (bytes : List ℕ) → round_after_sketch m set 0 bytes ≡ record { snapshot = set; capacity = length bytes / 4; sums = sums_in bytes }
unfolding round_after_sketch
first_round m set bytes = refl

more_round : (m : Machine) (e : ℕ) (set : List Member) (bytes : List ℕ) → 1 ≤ e → round_after_sketch m set e bytes ≡ record m.round { sums = m.round.sums ++ sums_in bytes }
unfolding round_after_sketch
more_round m zero set bytes h = absurd (omega arith)
more_round m (suc n) set bytes h = refl

-- ---- at a stage

-- why a sketch of as many bytes is refused
abbrev pub fault_in : {F : Type 0} → Machine → Stage F → ℕ → Option End
fault_in m stage.Waiting len = if is_first_length len then None else Some (end.SketchLength len 0)
fault_in m (stage.Extending p) len = if len == 4 * length p.sketch then None else Some (end.SketchLength len (4 * length p.sketch))
fault_in m other len = Some (end.Misplaced name.Sketch m.phase)

pub requested_at : {F : Type 0} (bits_of : F → ℕ) (m : Machine) (st : Stage F) → IsAt bits_of m st → IsStage st → requested_extensions m.phase ≡ extensions_at st
requested_at bits_of m st at is = ap requested_extensions at.phase ∙ requested_in st is

by_extensions : {F : Type 0} (bits_of : F → ℕ) (m : Machine) (st : Stage F) → IsAt bits_of m st → IsStage st → (len : ℕ) → fault_by (extensions_at st) m len ≡ fault_in m st len
by_extensions bits_of m stage.Idle at is len = refl
by_extensions bits_of m stage.Waiting at is len = first_fault m len
by_extensions bits_of m (stage.Extending p) at is len =
    more_fault m p.extensions (length p.sketch) len is.once (is.sums_are ∙ ap (λ (r : Round). capacity_after r.capacity (p.extensions - 1)) (sym at.round))
by_extensions bits_of m stage.Barrier at is len = refl
by_extensions bits_of m stage.Fetching at is len = refl

pub fault_at : {F : Type 0} (bits_of : F → ℕ) (m : Machine) (st : Stage F) → IsAt bits_of m st → IsStage st → (len : ℕ) → sketch_fault m len ≡ fault_in m st len
fault_at bits_of m st at is len = ap (λ o. fault_by o m len) (requested_at bits_of m st at is) ∙ by_extensions bits_of m st at is len

awaited_in : {F : Type 0} (m : Machine) (st : Stage F) (len : ℕ) → fault_in m st len ≡ None → IsAwaited st len
awaited_in m stage.Idle len e = absurd (let apart : Some (end.Misplaced name.Sketch m.phase) ≡ None = e in cc)
awaited_in m stage.Waiting len e = if_none (is_first_length len) (end.SketchLength len 0) e
awaited_in m (stage.Extending p) len e = eqb-true len (4 * length p.sketch) (if_none (len == 4 * length p.sketch) (end.SketchLength len (4 * length p.sketch)) e)
awaited_in m stage.Barrier len e = absurd (let apart : Some (end.Misplaced name.Sketch m.phase) ≡ None = e in cc)
awaited_in m stage.Fetching len e = absurd (let apart : Some (end.Misplaced name.Sketch m.phase) ≡ None = e in cc)

-- a sketch that isn't refused is waited for
pub awaited_at : {F : Type 0} (bits_of : F → ℕ) (m : Machine) (st : Stage F) → IsAt bits_of m st → IsStage st → (len : ℕ) → sketch_fault m len ≡ None → IsAwaited st len
awaited_at bits_of m st at is len none = awaited_in m st len (sym (fault_at bits_of m st at is len) ∙ none)

round_by_in : {F : Type 0} (bits_of : F → ℕ) (m : Machine) (st : Stage F) → IsAt bits_of m st → IsStage st → (len : ℕ) → IsAwaited st len
    → (set : List Member) (bytes : List ℕ) → round_by (extensions_at st) m set bytes ≡ round_in bits_of st set bytes
round_by_in bits_of m stage.Idle at is len w set bytes = absurd w
round_by_in bits_of m stage.Waiting at is len w set bytes = first_round m set bytes
round_by_in bits_of m (stage.Extending p) at is len w set bytes =
    more_round m p.extensions set bytes is.once ∙ ap (λ (r : Round). record r { sums = r.sums ++ sums_in bytes }) at.round
round_by_in bits_of m stage.Barrier at is len w set bytes = absurd w
round_by_in bits_of m stage.Fetching at is len w set bytes = absurd w

-- the round with the sums of a sketch that isn't refused
pub round_at : {F : Type 0} (bits_of : F → ℕ) (m : Machine) (st : Stage F) → IsAt bits_of m st → IsStage st → (len : ℕ) → sketch_fault m len ≡ None
    → (set : List Member) (bytes : List ℕ) → round_with m set bytes ≡ round_in bits_of st set bytes
round_at bits_of m st at is len none set bytes =
    ap (λ o. round_by o m set bytes) (requested_at bits_of m st at is) ∙ round_by_in bits_of m st at is len (awaited_at bits_of m st at is len none) set bytes

-- ---- at the stage that was found

pub at_view : {F : Type 0} (bits_of : F → ℕ) (st : Stage F) (v i : Initiator) → v ≡ i → v.machine.phase ≡ phase_of st → v.machine.round ≡ round_of bits_of st → IsAt bits_of i.machine st
at_view bits_of st v i e p r = record { phase = ap (λ (x : Initiator). x.machine.phase) (sym e) ∙ p; round = ap (λ (x : Initiator). x.machine.round) (sym e) ∙ r }

-- neither a first sketch nor an extension is waited for
pub fault_elsewhere : {F : Type 0} (m : Machine) (st : Stage F) (len : ℕ) → (st ≡ stage.Waiting → ⊥) → ((p : Pending F) → st ≡ stage.Extending p → ⊥)
    → fault_in m st len ≡ Some (end.Misplaced name.Sketch m.phase)
fault_elsewhere m stage.Idle len w x = refl
fault_elsewhere m stage.Waiting len w x = absurd (w refl)
fault_elsewhere m (stage.Extending p) len w x = absurd (x p refl)
fault_elsewhere m stage.Barrier len w x = refl
fault_elsewhere m stage.Fetching len w x = refl

-- an extension of another length
pub other_length : (len sums n : ℕ) → n ≡ sums → (len ≡ 4 * n → ⊥) → (if len == 4 * sums then None else Some (end.SketchLength len (4 * sums))) ≡ Some (end.SketchLength len (4 * n))
other_length len sums n e h =
    ap (λ k. if len == 4 * k then None else Some (end.SketchLength len (4 * k))) (sym e)
    ∙ ap (λ (t : Bool). if t then None else Some (end.SketchLength len (4 * n))) (ne_eqb len (4 * n) h)

-- and of the one that is wanted
pub wanted_length : (len sums n : ℕ) → n ≡ sums → len ≡ 4 * n → (if len == 4 * sums then None else Some (end.SketchLength len (4 * sums))) ≡ None
wanted_length len sums n e h =
    ap (λ (t : Bool). if t then None else Some (end.SketchLength len (4 * sums))) (eq-eqb len (4 * sums) (h ∙ ap (λ k. 4 * k) e))

fresh_awaited : {F : Type 0} (st : Stage F) (len : ℕ) → ((p : Pending F) → st ≡ stage.Extending p → ⊥) → IsAwaited st len → is_first_length len ≡ true
fresh_awaited stage.Idle len x w = absurd w
fresh_awaited stage.Waiting len x w = w
fresh_awaited (stage.Extending p) len x w = absurd (x p refl)
fresh_awaited stage.Barrier len x w = absurd w
fresh_awaited stage.Fetching len x w = absurd w

fresh_round_in : {F : Type 0} (bits_of : F → ℕ) (st : Stage F) (set : List Member) (bytes : List ℕ) → ((p : Pending F) → st ≡ stage.Extending p → ⊥)
    → round_in bits_of st set bytes ≡ record { snapshot = set; capacity = length bytes / 4; sums = sums_in bytes }
fresh_round_in bits_of stage.Idle set bytes x = refl
fresh_round_in bits_of stage.Waiting set bytes x = refl
fresh_round_in bits_of (stage.Extending p) set bytes x = absurd (x p refl)
fresh_round_in bits_of stage.Barrier set bytes x = refl
fresh_round_in bits_of stage.Fetching set bytes x = refl

-- sums come whole, and a first sketch has few
pub record IsFirst (len : ℕ) : Type 0 where
  pub whole : len % 4 ≡ 0
  pub few : len ≤ 4 * FIRST_LIMIT

-- what holds where a sketch of len bytes isn't refused
module _ {F : Type 0} (bits_of : F → ℕ) (m : Machine) (st : Stage F) (at : IsAt bits_of m st) (is : IsStage st) (len : ℕ) (none : sketch_fault m len ≡ None) where
  pub first_len : ((p : Pending F) → st ≡ stage.Extending p → ⊥) → IsFirst len
  first_len x =
      let parts = and_parts (len % 4 == 0) (nat_le len (4 * FIRST_LIMIT)) (fresh_awaited st len x (awaited_at bits_of m st at is len none)) in
      record { whole = eqb-true (len % 4) 0 parts.0; few = leb-true len (4 * FIRST_LIMIT) parts.1 }

  pub fresh_round : ((p : Pending F) → st ≡ stage.Extending p → ⊥) → (set : List Member) (bytes : List ℕ) → round_with m set bytes ≡ record { snapshot = set; capacity = length bytes / 4; sums = sums_in bytes }
  fresh_round x set bytes = round_at bits_of m st at is len none set bytes ∙ fresh_round_in bits_of st set bytes x

  pub extension_len : (p : Pending F) → st ≡ stage.Extending p → len ≡ 4 * length p.sketch
  extension_len p e = subst (λ s. IsAwaited s len) e (awaited_at bits_of m st at is len none)

  pub extending_round : (p : Pending F) → st ≡ stage.Extending p → (set : List Member) (bytes : List ℕ)
      → round_with m set bytes ≡ record { snapshot = p.snapshot.members; capacity = p.capacity; sums = map bits_of p.sketch ++ sums_in bytes }
  extending_round p e set bytes = round_at bits_of m st at is len none set bytes ∙ ap (λ s. round_in bits_of s set bytes) e

-- ---- sizes

pub pending_some : (c e s : ℕ) → IsPending c e s → 1 ≤ s
pending_some c e s h = let le = mul-le-mul_left c (pow_pos (e - 1)) in let one = h.least in let long = h.sums_are in omega (arith, le, one, long)

pub pending_few : (c e s : ℕ) → IsPending c e s → s ≤ 2 * FIRST_LIMIT
pending_few c zero s h = absurd (let once = h.once in omega arith)
pending_few c (suc zero) s h = let long : s ≡ c * 1 = h.sums_are in let most = h.most in omega (arith, long, most)
pending_few c (suc (suc zero)) s h = let long : s ≡ c * 2 = h.sums_are in let most = h.most in omega (arith, long, most)
pending_few c (suc (suc (suc e))) s h = absurd (let twice = h.twice in omega arith)

pub none_of_four : (len : ℕ) → len % 4 ≡ 0 → (len / 4 == 0) ≡ (len == 0)
none_of_four len e = grind (arith, nat_tests)

-- the sums of an extension are as many as those before, and both no more than a sketch may have
pub sums_few : (sums len kept more read : ℕ) → sums ≤ 2 * FIRST_LIMIT → len ≡ 4 * sums → kept ≡ sums → more ≡ read → (len % 4 ≡ 0 → 4 * read ≡ len) → kept + more ≤ MAX_CAPACITY
sums_few sums len kept more read few long e f four = let whole : len % 4 ≡ 0 = omega arith in let g = four whole in omega arith
