-- What a sketch that isn't refused makes of a machine.
use Rattle.std.proofs.Common.{◌≡◌, ℕ, zero, suc, ◌+◌, ◌*◌, ◌/◌, ◌%◌, ◌<◌, ◌≤◌, ◌==◌, ◌++◌, ◌∷◌, [], nat_le, true, false, List, map, length, Option, Some, None, option_and_then, Result, Ok, Err, IfOk, refl, sym, ap, ◌∙◌, subst, arith, eqb-true, add-one}
use Rattle.std.proofs.lemmas.Bool.{and_parts, leb-true}
use Rattle.std.proofs.lemmas.List.{length-append, length-map}
use Rattle.sketch_rules.specs.Answers.{answer_of}
use Rattle.sketch_rules.specs.Sketches.{sums_in}
use Rattle.sketch_laws.proofs.Bytes.{length-sums_in}
use Rattle.wire_rules.specs.declared.message.Message.{Message}
use Rattle.wire_rules.specs.declared.message.Message.TheVariants as message
use Rattle.wire_rules.specs.declared.phase.Phase.TheVariants as phase
use Rattle.base_types.specs.declared.lists.Hash32.{Hash32}
use Rattle.pool_rules.specs.Snapshots.{Member, ids_of}
use Rattle.pool_rules.specs.declared.limits.TheConstants.{FIRST_LIMIT}
use Rattle.pool_rules.specs.declared.report.Ending.{Ending}
use Rattle.node_laws.proofs.Questions.{opener_sketch-answered}
use Rattle.node_rules.specs.Opener.{initiator_question, opener_sketch, after_sketch, on_decoding, on_no_answer, on_answer, on_fallback, extension_request, coefficient_after, has_extension_left, remaining_set}
use Rattle.node_rules.specs.Outcomes.{after_round, missing_short_ids, announcement}
use Rattle.node_rules.specs.Stages.{waiting_phase, requested_extensions, answered_ending}
use Rattle.node_rules.specs.State.{Initiator, Machine, Round}
use Rattle.node_rules.specs.Turns.{Move, inv_of}
use Rattle.invariant_laws.proofs.Stages.{some_is}
use Rattle.initiator.specs.Outcomes.{answered_outcome, fallback_outcome}
use Rattle.initiator.specs.Questions.{fault_by, round_by, sketch_fault, round_with}
use Rattle.initiator.specs.Stages.{IsPending, IsStage}
use Rattle.initiator.specs.declared.outcome.Outcome.{Outcome}
use Rattle.initiator.specs.declared.stage.Pending.{Pending}
use Rattle.initiator.specs.declared.stage.Stage.{Stage}
use Rattle.initiator.specs.declared.stage.Stage.TheVariants as stage
use Rattle.initiator.proofs.Stages.{IsAt, IsAwaited, extensions_at, round_in, requested_at, awaited_at, round_at, pending_some, pending_few}

-- ---- how many extensions were asked for

awaited_by : (o : Option ℕ) (m : Machine) (len : ℕ) → fault_by o m len ≡ None → (n : ℕ) × (o ≡ Some n)
awaited_by None m len e = absurd (cc)
awaited_by (Some n) m len e = (n, refl)

pub awaited : (m : Machine) (len : ℕ) → sketch_fault m len ≡ None → (n : ℕ) × (requested_extensions m.phase ≡ Some n)
awaited m len e = awaited_by (requested_extensions m.phase) m len e

pub extensions-pending : {F : Type 0} (st : Stage F) (p : Pending F) (n : ℕ) → st ≡ stage.Extending p → extensions_at st ≡ Some n → p.extensions ≡ n
extensions-pending st p n e h = some_is p.extensions n (sym (ap extensions_at e) ∙ h)

pub extensions-fresh : {F : Type 0} (st : Stage F) (n : ℕ) → ((p : Pending F) → st ≡ stage.Extending p → ⊥) → extensions_at st ≡ Some n → 0 ≡ n
extensions-fresh stage.Idle n x h = absurd (cc)
extensions-fresh stage.Waiting n x h = some_is 0 n h
extensions-fresh (stage.Extending p) n x h = absurd (x p refl)
extensions-fresh stage.Barrier n x h = absurd (cc)
extensions-fresh stage.Fetching n x h = absurd (cc)

-- ---- what is left of the set

remaining_more : (n : ℕ) (set : List Member) → 1 ≤ n → remaining_set n set ≡ set
unfolding remaining_set
remaining_more zero set h = absurd (omega arith)
remaining_more (suc n) set h = refl

remaining_none : (n : ℕ) (set : List Member) → 0 ≡ n → remaining_set n set ≡ []
unfolding remaining_set
remaining_none zero set h = refl
remaining_none (suc n) set h = absurd (omega arith)

pub remaining-fresh : {F : Type 0} (st : Stage F) (n : ℕ) (set : List Member) → ((p : Pending F) → st ≡ stage.Extending p → ⊥) → extensions_at st ≡ Some n → remaining_set n set ≡ []
remaining-fresh st n set x h = remaining_none n set (extensions-fresh st n x h)

pub remaining-pending : {F : Type 0} (st : Stage F) (p : Pending F) (n : ℕ) (set : List Member) → IsStage st → st ≡ stage.Extending p → extensions_at st ≡ Some n → remaining_set n set ≡ set
remaining-pending st p n set is e h =
    let pending = subst IsStage e is in
    remaining_more n set (let once = pending.once in omega (arith, once, extensions-pending st p n e h))

-- a round takes the set at its first sketch
pub remaining-taken : {F : Type 0} (st : Stage F) (n : ℕ) (set left : List Member) → IsStage st → (st ≡ stage.Waiting → left ≡ []) → ((st ≡ stage.Waiting → ⊥) → left ≡ set) → extensions_at st ≡ Some n → left ≡ remaining_set n set
remaining-taken stage.Idle n set left is first later h = absurd (cc)
remaining-taken stage.Waiting n set left is first later h = first refl ∙ sym (remaining_none n set (some_is 0 n h))
remaining-taken (stage.Extending p) n set left is first later h = later (λ e. absurd (cc)) ∙ sym (remaining-pending (stage.Extending p) p n set is refl h)
remaining-taken stage.Barrier n set left is first later h = absurd (cc)
remaining-taken stage.Fetching n set left is first later h = absurd (cc)

-- ---- an extension

some_in : {F : Type 0} (bits_of : F → ℕ) (st : Stage F) (set : List Member) (bytes : List ℕ) → IsStage st → IsAwaited st (length bytes) → 0 < (round_in bits_of st set bytes).capacity → 0 < length bytes
some_in bits_of stage.Idle set bytes is w h = absurd w
some_in bits_of stage.Waiting set bytes is w h = let some : 0 < length bytes / 4 = h in omega arith
some_in bits_of (stage.Extending p) set bytes is w h = let some = pending_some p.capacity p.extensions (length p.sketch) is in let long : length bytes ≡ 4 * length p.sketch = w in omega (arith, some, long)
some_in bits_of stage.Barrier set bytes is w h = absurd w
some_in bits_of stage.Fetching set bytes is w h = absurd w

next_first : (len sums n : ℕ) → len % 4 ≡ 0 → len ≤ 4 * FIRST_LIMIT → 4 * sums ≡ len → 0 ≡ n → 0 < len / 4 → IsPending (len / 4) (n + 1) sums
next_first len sums zero whole few four e some = record {
  least = omega (arith, some);
  most = omega (arith, few);
  once = omega arith;
  twice = omega arith;
  sums_are = let one : sums ≡ len / 4 * 1 = omega (arith, whole, four) in one;
}
next_first len sums (suc n) whole few four e some = absurd (omega arith)

next_more : (c e before sums n : ℕ) → IsPending c e before → e ≡ n → n < 2 → sums ≡ before + before → IsPending c (n + 1) sums
next_more c e before sums zero is same lt twice = absurd (let once = is.once in omega (arith, once, same))
next_more c zero before sums (suc zero) is same lt twice = absurd (omega (arith, same))
next_more c (suc zero) before sums (suc zero) is same lt twice = record {
  least = is.least;
  most = is.most;
  once = omega arith;
  twice = omega arith;
  sums_are = let one : before ≡ c * 1 = is.sums_are in let two : sums ≡ c * 2 = omega (arith, one, twice) in two;
}
next_more c (suc (suc e)) before sums (suc zero) is same lt twice = absurd (omega (arith, same))
next_more c e before sums (suc (suc n)) is same lt twice = absurd (omega arith)

next_in : {F : Type 0} (bits_of : F → ℕ) (st : Stage F) (set : List Member) (bytes : List ℕ) (n : ℕ) → IsStage st → IsAwaited st (length bytes) → extensions_at st ≡ Some n → n < 2
    → 0 < (round_in bits_of st set bytes).capacity → IsPending (round_in bits_of st set bytes).capacity (n + 1) (length (round_in bits_of st set bytes).sums)
next_in bits_of stage.Idle set bytes n is w e lt some = absurd w
next_in bits_of stage.Waiting set bytes n is w e lt some =
    let parts = and_parts (length bytes % 4 == 0) (nat_le (length bytes) (4 * FIRST_LIMIT)) w in
    let whole = eqb-true (length bytes % 4) 0 parts.0 in
    next_first (length bytes) (length (sums_in bytes)) n whole (leb-true (length bytes) (4 * FIRST_LIMIT) parts.1) (length-sums_in bytes whole) (some_is 0 n e) some
next_in bits_of (stage.Extending p) set bytes n is w e lt some =
    let long : length bytes ≡ 4 * length p.sketch = w in
    let whole : length bytes % 4 ≡ 0 = omega (arith, long) in
    let four = length-sums_in bytes whole in
    let both = length-append (map bits_of p.sketch) (sums_in bytes) in
    let kept = length-map p.sketch bits_of in
    next_more p.capacity p.extensions (length p.sketch) (length (map bits_of p.sketch ++ sums_in bytes)) n is (some_is p.extensions n e) lt (omega (arith, long, four, both, kept))
next_in bits_of stage.Barrier set bytes n is w e lt some = absurd w
next_in bits_of stage.Fetching set bytes n is w e lt some = absurd w

module _ {F : Type 0} (bits_of : F → ℕ) (m : Machine) (st : Stage F) (at : IsAt bits_of m st) (is : IsStage st) (set : List Member) (bytes : List ℕ) (none : sketch_fault m (length bytes) ≡ None) where
  pub some_bytes : 0 < (round_with m set bytes).capacity → 0 < length bytes
  some_bytes h =
      some_in bits_of st set bytes is (awaited_at bits_of m st at is (length bytes) none) (subst (λ (r : Round). 0 < r.capacity) (round_at bits_of m st at is (length bytes) none set bytes) h)

  -- one more extension is waited for
  pub next_pending : (n : ℕ) → requested_extensions m.phase ≡ Some n → n < 2 → 0 < (round_with m set bytes).capacity → IsPending (round_with m set bytes).capacity (n + 1) (length (round_with m set bytes).sums)
  next_pending n e lt h =
      let same = round_at bits_of m st at is (length bytes) none set bytes in
      subst (λ (r : Round). IsPending r.capacity (n + 1) (length r.sums)) (sym same)
      (next_in bits_of st set bytes n is (awaited_at bits_of m st at is (length bytes) none) (sym (requested_at bits_of m st at is) ∙ e) lt (subst (λ (r : Round). 0 < r.capacity) same h))

-- a machine that waits for an extension
abbrev pub with_all : Initiator → ℕ → List Member → ℕ → List ℕ → List Member → List Message → Move
with_all i k x y z s o = record { initiator = record i { machine = record i.machine { phase = waiting_phase k; round = record { snapshot = x; capacity = y; sums = z } } }; set = s; out = o }

pub extended : (i : Initiator) (r : Round) (n next : ℕ) (rest left : List Member) (outs : List Message) (ms : List Member) (c : ℕ) (sums : List ℕ)
    → next ≡ n + 1 → ms ≡ r.snapshot → c ≡ r.capacity → sums ≡ r.sums → left ≡ rest → outs ≡ message.ReqSketchExt ∷ []
    → extension_request i r n rest ≡ record { initiator = record i { machine = record i.machine { phase = waiting_phase next; round = record { snapshot = ms; capacity = c; sums = sums } } }; set = left; out = outs }
extended i r n next rest left outs ms c sums e a b d f h =
    ap (λ k. with_all i k r.snapshot r.capacity r.sums rest (message.ReqSketchExt ∷ [])) (sym (e ∙ add-one n))
    ∙ ap (λ x. with_all i next x r.capacity r.sums rest (message.ReqSketchExt ∷ [])) (sym a)
    ∙ ap (λ x. with_all i next ms x r.sums rest (message.ReqSketchExt ∷ [])) (sym b)
    ∙ ap (λ x. with_all i next ms c x rest (message.ReqSketchExt ∷ [])) (sym d)
    ∙ ap (λ x. with_all i next ms c sums x (message.ReqSketchExt ∷ [])) (sym f)
    ∙ ap (λ x. with_all i next ms c sums left x) (sym h)

-- ---- the move of an opener

module _ (i : Initiator) (set : List Member) (bytes : List ℕ) (q : Option (List ℕ)) (taken : initiator_question i.machine set bytes ≡ Ok q) (n : ℕ) (asked : requested_extensions i.machine.phase ≡ Some n) where
  moved : (answer : Option (List ℕ)) → option_and_then answer_of q ≡ answer → opener_sketch i set bytes ≡ Ok (on_decoding answer i (round_with i.machine set bytes) n (remaining_set n set))
  moved answer a =
      opener_sketch-answered i set bytes n q asked taken
      ∙ ap (λ x. Ok (after_sketch x i set n bytes)) a
      ∙ ap (λ o. Ok (on_decoding answer i (round_by o i.machine set bytes) n (remaining_set n set))) (sym asked)

  -- a set has the sketch
  pub answered_move : (es : List ℕ) → option_and_then answer_of q ≡ Some es → opener_sketch i set bytes ≡ Ok (on_answer i (round_with i.machine set bytes) n es (remaining_set n set))
  unfolding on_decoding
  answered_move es a = moved (Some es) a

  -- no set has it: by whether it may be extended
  pub extended_move : option_and_then answer_of q ≡ None → has_extension_left i.machine (round_with i.machine set bytes) n ≡ true
      → opener_sketch i set bytes ≡ Ok (extension_request i (round_with i.machine set bytes) n (remaining_set n set))
  unfolding on_decoding on_no_answer
  extended_move a left =
      moved None a ∙ ap (λ t. Ok (on_no_answer t i (round_with i.machine set bytes) n (remaining_set n set))) left

  pub fallen_move : option_and_then answer_of q ≡ None → has_extension_left i.machine (round_with i.machine set bytes) n ≡ false
      → opener_sketch i set bytes ≡ Ok (on_fallback i (round_with i.machine set bytes) (remaining_set n set))
  unfolding on_decoding on_no_answer
  fallen_move a left =
      moved None a ∙ ap (λ t. Ok (on_no_answer t i (round_with i.machine set bytes) n (remaining_set n set))) left

-- ---- the end of a round

-- what an outcome makes of a machine
abbrev pub ended : Initiator → Outcome → Initiator
ended i o = record { machine = after_round i.machine phase.Barrier o.report; requests = record i.requests { coefficient = o.coefficient } }

abbrev pub plain_round : List Member → ℕ → Round
plain_round ms c = record { snapshot = ms; capacity = c; sums = [] }

abbrev move_of : Initiator → List Member → List Message → Move
move_of i set out = record { initiator = i; set = set; out = out }

closed : (i new : Initiator) (o p : Outcome) (rest left : List Member) (outs : List Message) → o ≡ p → outs ≡ o.messages → new ≡ ended i o → left ≡ rest
    → move_of (ended i p) rest p.messages ≡ move_of new left outs
closed i new o p rest left outs e a b d =
    ap (λ (x : Outcome). move_of (ended i x) rest x.messages) (sym e)
    ∙ ap (move_of (ended i o) rest) (sym a)
    ∙ ap (λ x. move_of x rest outs) (sym b)
    ∙ ap (λ x. move_of new x outs) (sym d)

pub closed_by_answer : (i new : Initiator) (r : Round) (n : ℕ) (es : List ℕ) (o : Outcome) (rest left : List Member) (outs : List Message) (ms : List Member) (c k : ℕ) (e : Ending) (shorts : List ℕ) (ping : ℕ)
    → o ≡ answered_outcome (plain_round ms c) e shorts ping → ms ≡ r.snapshot → c ≡ r.capacity → e ≡ answered_ending k → k ≡ n → shorts ≡ es → ping ≡ i.requests.begun
    → outs ≡ o.messages → new ≡ ended i o → left ≡ rest
    → on_answer i r n es rest ≡ record { initiator = new; set = left; out = outs }
closed_by_answer i new r n es o rest left outs ms c k e shorts ping is a b d f h j =
    closed i new o (answered_outcome r (answered_ending n) es i.requests.begun) rest left outs
    (is
    ∙ ap (λ x. answered_outcome (plain_round x c) e shorts ping) a
    ∙ ap (λ x. answered_outcome (plain_round r.snapshot x) e shorts ping) b
    ∙ ap (λ x. answered_outcome (plain_round r.snapshot r.capacity) x shorts ping) (d ∙ ap answered_ending f)
    ∙ ap (λ x. answered_outcome (plain_round r.snapshot r.capacity) (answered_ending n) x ping) h
    ∙ ap (λ x. answered_outcome (plain_round r.snapshot r.capacity) (answered_ending n) es x) j)

pub closed_by_fallback : (i new : Initiator) (r : Round) (o : Outcome) (rest left : List Member) (outs : List Message) (ms : List Member) (c q ping : ℕ)
    → o ≡ fallback_outcome (plain_round ms c) q ping → ms ≡ r.snapshot → c ≡ r.capacity → q ≡ i.requests.coefficient → ping ≡ i.requests.begun
    → outs ≡ o.messages → new ≡ ended i o → left ≡ rest
    → on_fallback i r rest ≡ record { initiator = new; set = left; out = outs }
closed_by_fallback i new r o rest left outs ms c q ping is a b d j =
    closed i new o (fallback_outcome r i.requests.coefficient i.requests.begun) rest left outs
    (is
    ∙ ap (λ x. fallback_outcome (plain_round x c) q ping) a
    ∙ ap (λ x. fallback_outcome (plain_round r.snapshot x) q ping) b
    ∙ ap (λ x. fallback_outcome (plain_round r.snapshot r.capacity) x ping) d
    ∙ ap (λ x. fallback_outcome (plain_round r.snapshot r.capacity) i.requests.coefficient x) j)

-- ---- an outcome by its parts

abbrev pub outcome_of : List Hash32 → ℕ → Ending → List ℕ → ℕ → List Message → Outcome
outcome_of ids c e es q out = record { report = record { snapshot = ids; capacity = c; ending = e; answered = es }; coefficient = q; messages = out }

abbrev pub closing_of : List ℕ → List Hash32 → ℕ → List Message
closing_of asks told ping = message.ReconcilDiff true asks ∷ (inv_of told ++ message.Ping ping ∷ [])

pub answered_parts : (ms : List Member) (c : ℕ) (e : Ending) (es : List ℕ) (ping : ℕ) (ids : List Hash32) (q : ℕ) (asks : List ℕ) (told : List Hash32) (out : List Message)
    → ids ≡ ids_of ms → q ≡ coefficient_after ms es → asks ≡ missing_short_ids ms es → told ≡ announcement ms es → out ≡ closing_of asks told ping
    → outcome_of ids c e es q out ≡ answered_outcome (plain_round ms c) e es ping
answered_parts ms c e es ping ids q asks told out a b d f h =
    ap (λ x. outcome_of x c e es q out) a
    ∙ ap (λ x. outcome_of (ids_of ms) c e es x out) b
    ∙ ap (λ x. outcome_of (ids_of ms) c e es (coefficient_after ms es) x) (h ∙ ap (λ x. closing_of x told ping) d ∙ ap (λ x. closing_of (missing_short_ids ms es) x ping) f)

-- ---- three facts of one result

pub if_ok_all : {X E : Type 0} (r : Result X E) (P Q R S : X → Type 0) → IfOk r P → IfOk r Q → IfOk r R → ((x : X) → P x → Q x → R x → S x) → IfOk r S
if_ok_all (Ok x) P Q R S p q t f = f x p q t
if_ok_all (Err e) P Q R S p q t f = tt

-- ---- how many sums the peer may have sent

most_in : {F : Type 0} (bits_of : F → ℕ) (st : Stage F) (set : List Member) (bytes : List ℕ) → IsStage st → IsAwaited st (length bytes) → length (round_in bits_of st set bytes).sums ≤ 4 * FIRST_LIMIT
most_in bits_of stage.Idle set bytes is w = absurd w
most_in bits_of stage.Waiting set bytes is w =
    let parts = and_parts (length bytes % 4 == 0) (nat_le (length bytes) (4 * FIRST_LIMIT)) w in
    let four = length-sums_in bytes (eqb-true (length bytes % 4) 0 parts.0) in
    let few = leb-true (length bytes) (4 * FIRST_LIMIT) parts.1 in
    omega (arith, four, few)
most_in bits_of (stage.Extending p) set bytes is w =
    let long : length bytes ≡ 4 * length p.sketch = w in
    let whole : length bytes % 4 ≡ 0 = omega (arith, long) in
    let four = length-sums_in bytes whole in
    let both = length-append (map bits_of p.sketch) (sums_in bytes) in
    let kept = length-map p.sketch bits_of in
    let few = pending_few p.capacity p.extensions (length p.sketch) is in
    omega (arith, long, four, both, kept, few)
most_in bits_of stage.Barrier set bytes is w = absurd w
most_in bits_of stage.Fetching set bytes is w = absurd w

pub most_sums : {F : Type 0} (bits_of : F → ℕ) (m : Machine) (st : Stage F) → IsAt bits_of m st → IsStage st → (set : List Member) (bytes : List ℕ) → sketch_fault m (length bytes) ≡ None → length (round_with m set bytes).sums ≤ 4 * FIRST_LIMIT
most_sums bits_of m st at is set bytes none =
    subst (λ (r : Round). length r.sums ≤ 4 * FIRST_LIMIT) (sym (round_at bits_of m st at is (length bytes) none set bytes)) (most_in bits_of st set bytes is (awaited_at bits_of m st at is (length bytes) none))
