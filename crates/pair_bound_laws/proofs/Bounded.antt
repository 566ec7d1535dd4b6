-- The bounds on messages are kept by every step of a pair.
use Rattle.std.proofs.Common.{◌≡◌, ◌≤◌, ◌-◌, ℕ, ◌||◌, length, append-nil, suc, ◌+◌, ◌*◌, Bool, true, false, List, [], ◌∷◌, ◌++◌, cond, Option, Some, None, refl, sym, ap, ap₂, ◌∙◌, subst, arith, add-zero, lit≤}
use Rattle.std.specs.List.{AllByRecursion}
use Rattle.wire_rules.specs.Limits.{IsMessage}
use Rattle.wire_rules.specs.declared.message.Message.{Message}
use Rattle.wire_rules.specs.declared.message.Message.TheVariants as message
use Rattle.wire_rules.specs.declared.phase.Phase.{Phase}
use Rattle.wire_rules.specs.declared.phase.Phase.TheVariants as phase
use Rattle.node_rules.specs.Stages.{waiting_phase, is_idle, requested_extensions}
use Rattle.node_rules.specs.Barrier.{is_barrier}
use Rattle.node_rules.specs.State.{NodeState, Machine, extensions_allowed}
use Rattle.node_rules.specs.Steps.{on_message, on_start_by, round_by}
use Rattle.node_rules.specs.Turns.{Turn, unchanged}
use Rattle.node_rules.specs.declared.config.Role.{Role}
use Rattle.node_rules.specs.declared.config.Role.TheVariants as role
use Rattle.node_rules.specs.declared.end.End.{End}
use Rattle.pair_invariant_rules.specs.Announcements.{AreAnnouncements}
use Rattle.pair_invariant_rules.specs.Pairs.{Pair, after_a, after_b, after_message_a, after_message_b, after_start_a}
use Rattle.pair_invariant_rules.specs.Handshake.{Rest, New, Past, stage_of, stage_by_rest, HasHandshake, Calling, Replying, Introducing, NoRest}
use Rattle.pair_invariant_rules.specs.Rounds.{RoundCase, Resting, Requested, Sketched, Extending, IsOpenerIn, round_messages_to_b, round_messages_to_a, HasRound}
use Rattle.pair_invariant_rules.specs.Topics.{topic_of, is_round, messages_of_rounds}
use Rattle.pair_invariant_rules.specs.Wants.{announced_ids, announced_ids_of}
use Rattle.id_rules.proofs.Lists.{all_append}
use Rattle.pair_invariant_laws.proofs.RoundRows.{idle_is, idle_case}
use Rattle.pair_rules.specs.Messages.{round_messages}
use Rattle.pair_bound_laws.specs.Costs.{total_weight, handshake_weight, rounds_weight, request_weight, inv_weight, unasking_weight, owed_messages, owed_for_inv, other_role, remaining_messages, remaining_by_extensions, remaining_at_barrier, remaining_handshake, unpinged_invs, unpinged_inv_by, unpinged_invs_of, has_ping, is_ping, HasEntries, IsFilled}
use Rattle.pair_bound_laws.specs.Keeping.{IsWithinBudget, outstanding_messages}
use Rattle.pair_bound_laws.proofs.Greeting.{Greets, takes-greets, due_later, due_past}
use Rattle.pair_bound_laws.proofs.Spending.{Spends, takes-spends}
use Rattle.pair_bound_laws.proofs.Totals.{total_append, total_less, total_items, late_append}

pub light_talk : (m : Message) → unasking_weight m ≤ rounds_weight m
unfolding unasking_weight rounds_weight
light_talk (message.ReqRecon size q) = lit≤ tt
light_talk (message.Sketch bytes) = lit≤ tt
light_talk message.ReqSketchExt = lit≤ tt
light_talk (message.ReconcilDiff success asks) = lit≤ tt
light_talk (message.Ping n) = lit≤ tt
light_talk (message.Pong n) = lit≤ tt
light_talk (message.Inv es) = lit≤ tt
light_talk _ = omega arith

pub total_front : (f : Message → ℕ) (xs : List Message) (m : Message) (ms : List Message) → xs ≡ m ∷ ms → total_weight f xs ≡ f m + total_weight f ms
unfolding total_weight
total_front f xs m ms e = ap (total_weight f) e

-- an accepter's step, and an opener's
pub spends_b : (s : NodeState) (m : Message) (t : Turn) → s.config.role ≡ role.Accepter → Spends s.config.role s m t
    → (remaining_messages role.Accepter t.state.machine + total_weight (owed_messages role.Opener) t.out + total_weight rounds_weight t.out ≤ remaining_messages role.Accepter s.machine + owed_messages role.Accepter m)
unfolding other_role
spends_b s m t e h = (subst (λ r. Spends r s m t) e h).rounds_weight

pub spends_a : (s : NodeState) (m : Message) (t : Turn) → s.config.role ≡ role.Opener → Spends s.config.role s m t
    → (remaining_messages role.Opener t.state.machine + total_weight (owed_messages role.Accepter) t.out + total_weight rounds_weight t.out ≤ remaining_messages role.Opener s.machine + owed_messages role.Opener m) × (unpinged_invs t.out ≡ 0)
unfolding other_role unpinged_invs_of
spends_a s m t e h = let k = subst (λ r. Spends r s m t) e h in (k.rounds_weight, k.unpinged_invs)

pub greets_as : (r : Role) (s : NodeState) (t : Turn) → s.config.role ≡ r → Greets s t → remaining_handshake r t.state.machine.phase + total_weight handshake_weight t.out ≤ remaining_handshake r s.machine.phase
greets_as r s t e h = subst (λ r. remaining_handshake r t.state.machine.phase + total_weight handshake_weight t.out ≤ remaining_handshake r s.machine.phase) e h.greets

late_tail : (m : Message) (ms : List Message) → unpinged_invs ms ≤ unpinged_invs (m ∷ ms)
unfolding unpinged_invs
late_tail m ms = omega arith

front_filled : (xs : List Message) (m : Message) (ms : List Message) → xs ≡ m ∷ ms → AllByRecursion IsFilled xs → AllByRecursion IsFilled ms
front_filled xs m ms e h = (subst (AllByRecursion IsFilled) e h).1

pub bounding-by_b : (l : ℕ) (p : Pair) (m : Message) (ms : List Message) → p.b.config.role ≡ role.Accepter → (on_message p.b m).state.plain ≡ false → extensions_allowed p.b.machine ≤ 2 → IsMessage m → p.to_b ≡ m ∷ ms → IsWithinBudget l p → IsWithinBudget l (after_message_b p m ms)
bounding-by_b l p m ms accepter plain few sound e k =
    let t : Turn = on_message p.b m in
    let spent = takes-spends p.b few m plain in
    let talks = spends_b p.b m t accepter spent in
    let greets = greets_as role.Accepter p.b t accepter (takes-greets p.b m sound) in
    let owed = total_append (owed_messages role.Opener) p.to_a t.out in
    let read = total_front (owed_messages role.Accepter) p.to_b m ms e in
    let lights = total_append unasking_weight p.to_a t.out in
    let light_read = total_front unasking_weight p.to_b m ms e in
    let less = total_less unasking_weight rounds_weight light_talk t.out in
    let greetings = total_append handshake_weight p.to_a t.out in
    let greeting_read = total_front handshake_weight p.to_b m ms e in
    record {
      rounds_weight = let said = total_append rounds_weight p.by_b t.out in let old = k.rounds_weight in omega (arith, talks, owed, read, said, old);
      room = let old = k.room in omega (arith, talks, owed, read, greets, old);
      greets = let said = total_append handshake_weight p.by_b t.out in let old = k.greets in omega (arith, greets, said, old);
      ways = let old = k.ways in omega (arith, talks, owed, read, lights, light_read, less, old);
      greet_ways = let old = k.greet_ways in omega (arith, greets, greetings, greeting_read, old);
      unpinged_invs = let old : unpinged_invs (m ∷ ms) ≡ 0 = ap unpinged_invs (sym e) ∙ k.unpinged_invs in let less = late_tail m ms in omega (arith, old, less);
      filled_a = all_append IsFilled p.to_a t.out k.filled_a spent.filled;
      filled_b = front_filled p.to_b m ms e k.filled_b;
    }

pub bounding-by_a : (l : ℕ) (p : Pair) (m : Message) (ms : List Message) → p.a.config.role ≡ role.Opener → (on_message p.a m).state.plain ≡ false → extensions_allowed p.a.machine ≤ 2 → IsMessage m → p.to_a ≡ m ∷ ms → IsWithinBudget l p → IsWithinBudget l (after_message_a p m ms)
bounding-by_a l p m ms opener plain few sound e k =
    let t : Turn = on_message p.a m in
    let spent = takes-spends p.a few m plain in
    let talks = (spends_a p.a m t opener spent).0 in
    let greets = greets_as role.Opener p.a t opener (takes-greets p.a m sound) in
    let owed = total_append (owed_messages role.Accepter) p.to_b t.out in
    let read = total_front (owed_messages role.Opener) p.to_a m ms e in
    let lights = total_append unasking_weight p.to_b t.out in
    let light_read = total_front unasking_weight p.to_a m ms e in
    let less = total_less unasking_weight rounds_weight light_talk t.out in
    let greetings = total_append handshake_weight p.to_b t.out in
    let greeting_read = total_front handshake_weight p.to_a m ms e in
    record {
      rounds_weight = let said = total_append rounds_weight p.by_a t.out in let old : outstanding_messages p + total_weight rounds_weight p.by_a + total_weight rounds_weight p.by_b ≤ round_messages l * total_weight request_weight (p.by_a ++ t.out) = subst (λ n. outstanding_messages p + total_weight rounds_weight p.by_a + total_weight rounds_weight p.by_b ≤ round_messages l * n) (sym (total_append request_weight p.by_a t.out ∙ ap (λ n. total_weight request_weight p.by_a + n) spent.requests ∙ add-zero (total_weight request_weight p.by_a))) k.rounds_weight in omega (arith, talks, owed, read, said, old);
      room = let old = k.room in omega (arith, talks, owed, read, greets, old);
      greets = let said = total_append handshake_weight p.by_a t.out in let old = k.greets in omega (arith, greets, said, old);
      ways = let old = k.ways in omega (arith, talks, owed, read, lights, light_read, less, old);
      greet_ways = let old = k.greet_ways in omega (arith, greets, greetings, greeting_read, old);
      unpinged_invs = let more = late_append p.to_b t.out in let none = (spends_a p.a m t opener spent).1 in let old = k.unpinged_invs in omega (arith, more, none, old);
      filled_a = front_filled p.to_a m ms e k.filled_a;
      filled_b = all_append IsFilled p.to_b t.out k.filled_b spent.filled;
    }

-- ---- steps that say nothing

nothing_more : (xs ys : List Message) → ys ≡ [] → xs ≡ xs ++ ys
nothing_more xs ys e = sym (append-nil xs) ∙ ap (λ zs. xs ++ zs) (sym e)

pub bounding-quiet_a : (l : ℕ) (p : Pair) (t : Turn) → t.state.machine ≡ p.a.machine → t.out ≡ [] → IsWithinBudget l p → IsWithinBudget l (after_a p t p.to_a)
bounding-quiet_a l p t same out k =
    subst (λ xs. IsWithinBudget l (record p { a = t.state; to_b = xs; by_a = p.by_a ++ t.out })) (nothing_more p.to_b t.out out)
    (subst (λ xs. IsWithinBudget l (record p { a = t.state; by_a = xs })) (nothing_more p.by_a t.out out)
    (let left : remaining_messages role.Opener t.state.machine ≡ remaining_messages role.Opener p.a.machine = ap (remaining_messages role.Opener) same in
    let outstanding_handshake : remaining_handshake role.Opener t.state.machine.phase ≡ remaining_handshake role.Opener p.a.machine.phase = ap (λ m. remaining_handshake role.Opener m.phase) same in
    record {
      rounds_weight = let old = k.rounds_weight in omega (arith, left, old);
      room = let old = k.room in omega (arith, left, outstanding_handshake, old);
      greets = let old = k.greets in omega (arith, outstanding_handshake, old);
      ways = let old = k.ways in omega (arith, left, old);
      greet_ways = let old = k.greet_ways in omega (arith, outstanding_handshake, old);
      unpinged_invs = k.unpinged_invs;
      filled_a = k.filled_a;
      filled_b = k.filled_b;
    }))

pub bounding-quiet_b : (l : ℕ) (p : Pair) (t : Turn) → t.state.machine ≡ p.b.machine → t.out ≡ [] → IsWithinBudget l p → IsWithinBudget l (after_b p t p.to_b)
bounding-quiet_b l p t same out k =
    subst (λ xs. IsWithinBudget l (record p { b = t.state; to_a = xs; by_b = p.by_b ++ t.out })) (nothing_more p.to_a t.out out)
    (subst (λ xs. IsWithinBudget l (record p { b = t.state; by_b = xs })) (nothing_more p.by_b t.out out)
    (let left : remaining_messages role.Accepter t.state.machine ≡ remaining_messages role.Accepter p.b.machine = ap (remaining_messages role.Accepter) same in
    let outstanding_handshake : remaining_handshake role.Accepter t.state.machine.phase ≡ remaining_handshake role.Accepter p.b.machine.phase = ap (λ m. remaining_handshake role.Accepter m.phase) same in
    record {
      rounds_weight = let old = k.rounds_weight in omega (arith, left, old);
      room = let old = k.room in omega (arith, left, outstanding_handshake, old);
      greets = let old = k.greets in omega (arith, outstanding_handshake, old);
      ways = let old = k.ways in omega (arith, left, old);
      greet_ways = let old = k.greet_ways in omega (arith, outstanding_handshake, old);
      unpinged_invs = k.unpinged_invs;
      filled_a = k.filled_a;
      filled_b = k.filled_b;
    }))

-- ---- the start of a round

-- the messages of a way on which no round is and nothing is announced
front_quiet : (b : Bool) (m : Message) (ms : List Message) → is_round (topic_of m) ≡ b → messages_of_rounds (m ∷ ms) ≡ [] → (is_round (topic_of m) ≡ false) × (messages_of_rounds ms ≡ [])
front_quiet true m ms e h = absurd (let apart : m ∷ messages_of_rounds ms ≡ [] = sym (ap (λ c. cond c (m ∷ messages_of_rounds ms) (messages_of_rounds ms)) e) ∙ h in cc)
front_quiet false m ms e h = (e, sym (ap (λ c. cond c (m ∷ messages_of_rounds ms) (messages_of_rounds ms)) e) ∙ h)

other_ping : (m : Message) → is_round (topic_of m) ≡ false → is_ping m ≡ false
unfolding is_ping topic_of is_round
other_ping (message.Ping n) e = absurd (let apart : true ≡ false = e in cc)
other_ping _ e = refl

no_ping : (ms : List Message) → messages_of_rounds ms ≡ [] → has_ping ms ≡ false
unfolding has_ping
no_ping [] h = refl
no_ping (m ∷ ms) h = let f = front_quiet (is_round (topic_of m)) m ms refl h in ap₂ (λ a b. a || b) (other_ping m f.0) (no_ping ms f.1)

-- where no ping is on the way, every announcement is late
late_news : (ms : List Message) → messages_of_rounds ms ≡ [] → unpinged_invs ms ≡ total_weight inv_weight ms
unfolding unpinged_invs total_weight unpinged_inv_by
late_news [] h = refl
late_news (m ∷ ms) h = let f = front_quiet (is_round (topic_of m)) m ms refl h in ap₂ (λ a b. a + b) (ap (λ b. unpinged_inv_by b m) (no_ping ms f.1)) (late_news ms f.1)

-- what other messages owe and weigh
owes_other : (r : Role) (m : Message) → is_round (topic_of m) ≡ false → owed_messages r m ≤ inv_weight m
unfolding owed_messages owed_for_inv inv_weight topic_of is_round
owes_other r (message.ReqRecon size q) e = absurd (let apart : true ≡ false = e in cc)
owes_other r message.ReqSketchExt e = absurd (let apart : true ≡ false = e in cc)
owes_other r (message.ReconcilDiff success asks) e = absurd (let apart : true ≡ false = e in cc)
owes_other r (message.Ping n) e = absurd (let apart : true ≡ false = e in cc)
owes_other role.Opener (message.Inv es) e = lit≤ tt
owes_other role.Accepter (message.Inv es) e = lit≤ tt
owes_other r _ e = omega arith

light_other : (m : Message) → is_round (topic_of m) ≡ false → unasking_weight m ≤ inv_weight m
unfolding unasking_weight inv_weight topic_of is_round
light_other (message.ReqRecon size q) e = absurd (let apart : true ≡ false = e in cc)
light_other (message.Sketch bytes) e = absurd (let apart : true ≡ false = e in cc)
light_other message.ReqSketchExt e = absurd (let apart : true ≡ false = e in cc)
light_other (message.ReconcilDiff success asks) e = absurd (let apart : true ≡ false = e in cc)
light_other (message.Ping n) e = absurd (let apart : true ≡ false = e in cc)
light_other (message.Pong n) e = absurd (let apart : true ≡ false = e in cc)
light_other (message.Inv es) e = lit≤ tt
light_other _ e = omega arith

quiet_less : (f : Message → ℕ) → ((m : Message) → is_round (topic_of m) ≡ false → f m ≤ inv_weight m) → (ms : List Message) → messages_of_rounds ms ≡ [] → total_weight f ms ≤ total_weight inv_weight ms
unfolding total_weight
quiet_less f h [] e = lit≤ tt
quiet_less f h (m ∷ ms) e = let q = front_quiet (is_round (topic_of m)) m ms refl e in let one = h m q.0 in let rest = quiet_less f h ms q.1 in omega (arith, one, rest)

-- no id is announced on a way without announcements
news_items : (m : Message) → IsFilled m → inv_weight m ≤ length (announced_ids_of m)
unfolding inv_weight announced_ids_of HasEntries
news_items (message.Inv []) h = absurd (h.filled)
news_items (message.Inv (e ∷ es)) h = omega arith
news_items _ h = omega arith

no_news : (ms : List Message) → AllByRecursion IsFilled ms → announced_ids ms ≡ [] → total_weight inv_weight ms ≡ 0
no_news ms h e = let few = total_items inv_weight announced_ids_of news_items ms h in let none : length (announced_ids ms) ≡ 0 = ap length e in omega (arith, few, none)

-- what an idle opener has on the ways, and left
pub record Rests (p : Pair) : Type 0 where
  pub left : remaining_messages role.Opener p.a.machine ≡ 0
  pub due_a : remaining_handshake role.Opener p.a.machine.phase ≡ 0
  pub due_b : remaining_handshake role.Accepter p.b.machine.phase ≡ 0
  pub owed_a : total_weight (owed_messages role.Opener) p.to_a ≡ 0
  pub owed_b : total_weight (owed_messages role.Accepter) p.to_b ≡ 0
  pub light_a : total_weight unasking_weight p.to_a ≡ 0
  pub light_b : total_weight unasking_weight p.to_b ≡ 0

idle_left : (m : Machine) → m.phase ≡ phase.Idle → remaining_messages role.Opener m ≡ 0
unfolding remaining_messages remaining_by_extensions remaining_at_barrier requested_extensions is_barrier
idle_left m e = ap (λ q. remaining_by_extensions (requested_extensions q) (extensions_allowed m) + remaining_at_barrier (is_barrier q)) e

no_rounds : (p : Pair) (r : HasRound p) → r.case ≡ Resting → (messages_of_rounds p.to_a ≡ []) × (messages_of_rounds p.to_b ≡ [])
unfolding round_messages_to_a round_messages_to_b
no_rounds p r e = (r.position.to_a ∙ ap (λ c. round_messages_to_a c p.a.requests.begun p.b.machine.round) e, r.position.to_b ∙ ap (λ c. round_messages_to_b c p.a.requests.begun) e)

pub idle_past : (p : Phase) → p ≡ phase.Idle → stage_of p ≡ Past
unfolding stage_of
idle_past p e = ap stage_of e

no_barrier : (p : Phase) → p ≡ phase.Idle → is_barrier p ≡ false
unfolding is_barrier
no_barrier p e = ap is_barrier e

greeting_apart : (p : Phase) → p ≡ phase.Greeting → p ≡ phase.Idle → ⊥
greeting_apart p e h = let no_phase : phase.Greeting ≡ phase.Idle = sym e ∙ h in cc

stage_not_new : (l : Rest) → stage_by_rest l ≡ New → ⊥
unfolding stage_by_rest
stage_not_new NoRest h = cc
stage_not_new _ h = cc

other_not_new : (p : Pair) → p.a.machine.phase ≡ phase.Idle → HasHandshake p → stage_of p.b.machine.phase ≡ New → ⊥
other_not_new p idle (Calling c) h = greeting_apart p.a.machine.phase c.a.phase idle
other_not_new p idle (Replying c) h = greeting_apart p.a.machine.phase c.a.phase idle
other_not_new p idle (Introducing l k x g) h = stage_not_new l (sym x.stage ∙ h)

pub idle_rests : (l : ℕ) (p : Pair) → p.a.machine.phase ≡ phase.Idle → HasHandshake p → HasRound p → AreAnnouncements p → IsWithinBudget l p → Rests p
idle_rests l p idle handshake r n k =
    let quiet = no_rounds p r (idle_case r.case p.a.machine.phase idle r.position.opener) in
    let news_a = no_news p.to_a k.filled_a (n.silent (no_barrier p.a.machine.phase idle)) in
    let news_b : total_weight inv_weight p.to_b ≡ 0 = sym (late_news p.to_b quiet.1) ∙ k.unpinged_invs in
    let owed_a = quiet_less (owed_messages role.Opener) (owes_other role.Opener) p.to_a quiet.0 in
    let owed_b = quiet_less (owed_messages role.Accepter) (owes_other role.Accepter) p.to_b quiet.1 in
    let light_a = quiet_less unasking_weight light_other p.to_a quiet.0 in
    let light_b = quiet_less unasking_weight light_other p.to_b quiet.1 in
    record {
      left = idle_left p.a.machine idle;
      due_a = due_past role.Opener p.a.machine.phase (idle_past p.a.machine.phase idle);
      due_b = due_later role.Accepter p.b.machine.phase (other_not_new p idle handshake);
      owed_a = omega (arith, owed_a, news_a);
      owed_b = omega (arith, owed_b, news_b);
      light_a = omega (arith, light_a, news_a);
      light_b = omega (arith, light_b, news_b);
    }

waits_left : (m : Machine) (l : ℕ) → m.phase ≡ waiting_phase 0 → extensions_allowed m ≡ l → remaining_messages role.Opener m ≡ 7 + 2 * l
unfolding remaining_messages remaining_by_extensions remaining_at_barrier requested_extensions is_barrier waiting_phase
waits_left m l phase at =
    let left : remaining_messages role.Opener m ≡ remaining_by_extensions (Some 0) (extensions_allowed m) + remaining_at_barrier false = ap (λ q. remaining_by_extensions (requested_extensions q) (extensions_allowed m) + remaining_at_barrier (is_barrier q)) phase in
    let same : remaining_by_extensions (Some 0) (extensions_allowed m) + remaining_at_barrier false ≡ 7 + 2 * l = ap (λ x. remaining_by_extensions (Some 0) x + remaining_at_barrier false) at ∙ (let sum : 7 + 2 * (l - 0) + 0 ≡ 7 + 2 * l = omega arith in sum) in
    left ∙ same

one_more : (a n : ℕ) → a * (n + 1) ≡ a * n + a
one_more a n = grind arith

-- an idle opener that begins a round
begun : (l : ℕ) (p : Pair) (t : Turn) (size q : ℕ) → t.state.machine.phase ≡ waiting_phase 0 → extensions_allowed t.state.machine ≡ l → t.out ≡ message.ReqRecon size q ∷ [] → Rests p → IsWithinBudget l p → IsWithinBudget l (after_a p t p.to_a)
unfolding remaining_messages remaining_by_extensions remaining_at_barrier requested_extensions is_barrier waiting_phase total_weight owed_messages rounds_weight request_weight unasking_weight handshake_weight remaining_handshake unpinged_invs unpinged_inv_by has_ping inv_weight HasEntries
begun l p t size q phase at out r k =
    let left : remaining_messages role.Opener t.state.machine ≡ 7 + 2 * l = waits_left t.state.machine l phase at in
    let outstanding_handshake : remaining_handshake role.Opener t.state.machine.phase ≡ 0 = ap (remaining_handshake role.Opener) phase in
    let owed = total_append (owed_messages role.Accepter) p.to_b t.out in
    let owed_one : total_weight (owed_messages role.Accepter) t.out ≡ 1 = ap (total_weight (owed_messages role.Accepter)) out in
    let lights = total_append unasking_weight p.to_b t.out in
    let light_one : total_weight unasking_weight t.out ≡ 1 = ap (total_weight unasking_weight) out in
    let said = total_append rounds_weight p.by_a t.out in
    let said_one : total_weight rounds_weight t.out ≡ 1 = ap (total_weight rounds_weight) out in
    let rounds : round_messages l * total_weight request_weight (p.by_a ++ t.out) ≡ round_messages l * total_weight request_weight p.by_a + round_messages l = ap (λ n. round_messages l * n) (total_append request_weight p.by_a t.out ∙ ap (λ n. total_weight request_weight p.by_a + n) (ap (total_weight request_weight) out)) ∙ one_more (round_messages l) (total_weight request_weight p.by_a) in
    let greetings = total_append handshake_weight p.to_b t.out in
    let greeted = total_append handshake_weight p.by_a t.out in
    let greeting_none : total_weight handshake_weight t.out ≡ 0 = ap (total_weight handshake_weight) out in
    let accepter : remaining_messages role.Accepter p.b.machine ≡ 0 = refl in
    let none = r.left in let none_a = r.owed_a in let none_b = r.owed_b in let none_light_a = r.light_a in let none_light_b = r.light_b in
    let due_a = r.due_a in let due_b = r.due_b in
    record {
      rounds_weight = let old = k.rounds_weight in omega (arith, left, accepter, owed, owed_one, said, said_one, rounds, none, none_a, none_b, old);
      room = omega (arith, left, accepter, owed, owed_one, outstanding_handshake, none_a, none_b, due_b);
      greets = let old = k.greets in omega (arith, outstanding_handshake, greeted, greeting_none, old);
      ways = omega (arith, left, accepter, owed, owed_one, lights, light_one, none_a, none_b, none_light_a, none_light_b);
      greet_ways = let old = k.greet_ways in omega (arith, outstanding_handshake, greetings, greeting_none, old);
      unpinged_invs = let more = late_append p.to_b t.out in let nothing : unpinged_invs t.out ≡ 0 = ap unpinged_invs out in let old = k.unpinged_invs in omega (arith, more, nothing, old);
      filled_a = k.filled_a;
      filled_b = all_append IsFilled p.to_b t.out k.filled_b (subst (AllByRecursion IsFilled) (sym out) (record { filled = tt }, tt));
    }

begun_by : (l : ℕ) (e : Option End) (r : Role) (idle : Bool) (p : Pair) → is_idle p.a.machine.phase ≡ idle → p.a.plain ≡ false → (p.a.machine.phase ≡ phase.Idle → Rests p) → (p.a.machine.phase ≡ phase.Idle → extensions_allowed p.a.machine ≡ l) → IsWithinBudget l p
    → IsWithinBudget l (after_a p (on_start_by e r idle p.a).turn p.to_a)
unfolding on_start_by round_by
begun_by l None role.Opener true p i plain h at k =
    subst (λ b. IsWithinBudget l (after_a p (round_by b p.a) p.to_a)) (sym plain)
    (begun l p (round_by false p.a) (length p.a.set) p.a.requests.coefficient refl (at (idle_is p.a.machine.phase i)) refl (h (idle_is p.a.machine.phase i)) k)
begun_by l None role.Opener false p i plain h at k = bounding-quiet_a l p (unchanged p.a) refl refl k
begun_by l None role.Accepter idle p i plain h at k = bounding-quiet_a l p (unchanged p.a) refl refl k
begun_by l (Some e) x idle p i plain h at k = bounding-quiet_a l p (unchanged p.a) refl refl k

pub bounding-begins : (l : ℕ) (p : Pair) → (p.a.machine.phase ≡ phase.Idle → extensions_allowed p.a.machine ≡ l) → p.a.plain ≡ false → HasHandshake p → HasRound p → AreAnnouncements p → IsWithinBudget l p → IsWithinBudget l (after_start_a p)
bounding-begins l p at plain handshake r n k = begun_by l p.a.ended p.a.config.role (is_idle p.a.machine.phase) p refl plain (λ idle. idle_rests l p idle handshake r n k) at k
