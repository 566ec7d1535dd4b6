-- The bounds in plain counts of messages.
use Rattle.std.proofs.Common.{◌≡◌, ◌≤◌, ℕ, ◌+◌, Bool, true, false, cond, List, [], ◌∷◌, ◌++◌, length, filter, refl, sym, ap, ap₂, ◌∙◌, subst, arith, lit≤, min}
use Rattle.std.specs.List.{AllByRecursion}
use Rattle.id_rules.specs.Ids.{wtxid}
use Rattle.wire_rules.specs.declared.message.Message.{Message}
use Rattle.wire_rules.specs.declared.message.Message.TheVariants as message
use Rattle.pool_rules.specs.Pools.{AreDistinctIds, pool_ids}
use Rattle.node_rules.specs.Handshake.{own_version, opening}
use Rattle.node_rules.specs.declared.config.Config.{Config}
use Rattle.node_rules.specs.declared.config.Role.TheVariants as role
use Rattle.pair_rules.specs.World.{Effect, opening_world, run}
use Rattle.pair_invariant_rules.specs.Wants.{carried_transactions, carried_transactions_of, HasTxEntries}
use Rattle.pool_laws.proofs.PoolIds.{pool_ids_append}
use Rattle.id_rules.proofs.Lists.{all_append}
use Rattle.pair_invariant_laws.proofs.Saying.{carried_append}
use Rattle.pair_bound_laws.specs.Costs.{total_weight, rounds_weight, handshake_weight, HasEntries, request_weight}
use Rattle.pair_bound_laws.specs.Keeping.{IsOrderly}
use Rattle.pair_rules.specs.Messages.{is_of_handshake, is_of_rounds, is_notfound, transaction_ids_of, transaction_ids, all_messages, rounds_of_script, AreBounded, MessagesAreBounded, round_messages}
use Rattle.pair_bound_laws.proofs.Joining.{opening_bounds}
use Rattle.pair_bound_laws.proofs.Saying.{Run, run_told}
use Rattle.pair_bound_laws.proofs.Totals.{total_append}
use Rattle.std.proofs.Math.Nat.{mul-le-mul_left}

-- at most as many pass a test as are counted
passing : (test : Message → Bool) (f : Message → ℕ) (P : Message → Type 0) → ((m : Message) → P m → test m ≡ true → 1 ≤ f m) → (ms : List Message) → AllByRecursion P ms → length (filter test ms) ≤ total_weight f ms
unfolding total_weight
passing test f P h [] k = lit≤ tt
passing test f P h (m ∷ ms) k = one (test m) refl (passing test f P h ms k.1)
  where
    one : (b : Bool) → test m ≡ b → length (filter test ms) ≤ total_weight f ms → length (cond (test m) (m ∷ filter test ms) (filter test ms)) ≤ f m + total_weight f ms
    one true e rest = subst (λ c. length (cond c (m ∷ filter test ms) (filter test ms)) ≤ f m + total_weight f ms) (sym e) (let counted = h m k.0 e in omega (arith, counted, rest))
    one false e rest = subst (λ c. length (cond c (m ∷ filter test ms) (filter test ms)) ≤ f m + total_weight f ms) (sym e) (omega (arith, rest))

-- none passes
none_pass : (test : Message → Bool) (P : Message → Type 0) → ((m : Message) → P m → test m ≡ false) → (ms : List Message) → AllByRecursion P ms → filter test ms ≡ []
none_pass test P h [] k = refl
none_pass test P h (m ∷ ms) k = ap (λ c. cond c (m ∷ filter test ms) (filter test ms)) (h m k.0) ∙ none_pass test P h ms k.1

greeting_counts : (m : Message) → IsOrderly m → is_of_handshake m ≡ true → 1 ≤ handshake_weight m
unfolding is_of_handshake handshake_weight
greeting_counts (message.Version v) f h = lit≤ tt
greeting_counts message.Verack f h = lit≤ tt
greeting_counts message.WtxidRelay f h = lit≤ tt
greeting_counts (message.SendTxRcncl version salt) f h = lit≤ tt
greeting_counts _ f h = absurd (let apart : false ≡ true = h in cc)

talk_counts : (m : Message) → IsOrderly m → is_of_rounds m ≡ true → 1 ≤ rounds_weight m
unfolding is_of_rounds rounds_weight HasTxEntries HasEntries
talk_counts (message.Version v) f h = absurd (let apart : false ≡ true = h in cc)
talk_counts message.Verack f h = absurd (let apart : false ≡ true = h in cc)
talk_counts message.WtxidRelay f h = absurd (let apart : false ≡ true = h in cc)
talk_counts (message.SendTxRcncl version salt) f h = absurd (let apart : false ≡ true = h in cc)
talk_counts (message.Tx tx) f h = absurd (let apart : false ≡ true = h in cc)
talk_counts (message.NotFound es) f h = absurd (f.honest.honest)
talk_counts (message.Other command payload) f h = absurd (f.filled.filled)
talk_counts _ f h = lit≤ tt

found : (m : Message) → IsOrderly m → is_notfound m ≡ false
unfolding is_notfound HasTxEntries
found (message.NotFound es) f = absurd (f.honest.honest)
found _ f = refl

-- the ids sent are those of the transactions carried
sent_carried : (ms : List Message) → transaction_ids ms ≡ pool_ids (carried_transactions ms)
unfolding transaction_ids_of carried_transactions_of
sent_carried [] = refl
sent_carried (message.Tx tx ∷ ms) = ap (λ xs. wtxid tx ∷ xs) (sent_carried ms)
sent_carried (_ ∷ ms) = sent_carried ms

version_fair : (c : Config) → IsOrderly (message.Version (own_version c))
unfolding HasTxEntries HasEntries
version_fair c = record { honest = record { honest = tt }; filled = record { filled = tt } }

bounded : (c d : Config) (x : Effect) (n : ℕ) → c.role ≡ role.Opener → d.role ≡ role.Accepter → (l : ℕ) → Run l [] [] x n → AreBounded l (all_messages c d x) n
unfolding opening total_weight handshake_weight rounds_weight transaction_ids_of
bounded c d x n opener accepter l r =
    let first : List Message = message.Version (own_version c) ∷ [] in
    let sent : List Message = (first ++ x.by_a) ++ x.by_b in
    let is : sent ≡ all_messages c d x = ap₂ (λ xs ys. (xs ++ x.by_a) ++ (ys ++ x.by_b)) (sym (ap (λ r. opening r c) opener)) (sym (ap (λ r. opening r d) accepter)) in
    let fair : AllByRecursion IsOrderly sent = all_append IsOrderly (first ++ x.by_a) x.by_b (version_fair c, r.told.fair_a) r.told.fair_b in
    let greets = passing is_of_handshake handshake_weight IsOrderly greeting_counts sent fair in
    let greeted = total_append handshake_weight (first ++ x.by_a) x.by_b in
    let one : total_weight handshake_weight (first ++ x.by_a) ≡ 1 + total_weight handshake_weight x.by_a = refl in
    let talks = passing is_of_rounds rounds_weight IsOrderly talk_counts sent fair in
    let talked = total_append rounds_weight (first ++ x.by_a) x.by_b in
    let none : total_weight rounds_weight (first ++ x.by_a) ≡ 0 + total_weight rounds_weight x.by_a = refl in
    let most = r.told.greets in
    let per_round = r.told.rounds_weight in
    let rounds = r.rounds in
    subst (λ ms. AreBounded l ms n) is (record {
      handshake = omega (arith, greets, greeted, one, most);
      rounds = let more = mul-le-mul_left (round_messages l) rounds in omega (arith, talks, talked, none, per_round, more);
      once = subst AreDistinctIds (sym (sent_carried sent ∙ ap pool_ids (carried_append (first ++ x.by_a) x.by_b) ∙ pool_ids_append (carried_transactions (first ++ x.by_a)) (carried_transactions x.by_b) ∙ ap (λ xs. xs ++ pool_ids (carried_transactions x.by_b)) (no_version c x.by_a))) r.told.given;
      all_found = none_pass is_notfound IsOrderly found sent fair;
    })
  where
    no_version : (c : Config) (ms : List Message) → pool_ids (carried_transactions ((message.Version (own_version c) ∷ []) ++ ms)) ≡ pool_ids (carried_transactions ms)
    no_version c ms = sym (sent_carried ((message.Version (own_version c) ∷ []) ++ ms)) ∙ sent_carried ms

pub messages_are_bounded : MessagesAreBounded
messages_are_bounded c d p q script pair fine =
    bounded c d (run (opening_world c d p q) script) (rounds_of_script script (opening_world c d p q)) pair.opener pair.accepter (min c.top d.top)
    (run_told (min c.top d.top) script (opening_world c d p q) [] [] fine refl (opening_bounds c d p q pair))
