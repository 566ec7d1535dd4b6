-- Where a round stands is kept by every step of a pair: what is no message about rounds.
use Rattle.std.proofs.Common.{◌≡◌, ℕ, zero, suc, ◌+◌, ◌%◌, ◌^◌, ◌≤◌, true, false, List, ◌++◌, length, refl, sym, ap, ap₂, ◌∙◌, subst, append-nil}
use Rattle.id_rules.specs.Ids.{keys_of}
use Rattle.wire_rules.specs.declared.message.Message.{Message}
use Rattle.wire_rules.specs.declared.phase.Phase.{Phase}
use Rattle.wire_rules.specs.declared.phase.Phase.TheVariants as phase
use Rattle.pool_rules.specs.declared.report.Report.{Report}
use Rattle.node_rules.specs.Stages.{waiting_phase, sent_phase}
use Rattle.node_rules.specs.State.{extensions_allowed}
use Rattle.node_rules.specs.Turns.{Turn}
use Rattle.node_rules.specs.declared.config.Role.{Role}
use Rattle.node_rules.specs.declared.config.Role.TheVariants as role
use Rattle.pair_rules.specs.Rounds.{EachRound}
use Rattle.pair_invariant_rules.specs.Pairs.{Pair, after_a, after_b}
use Rattle.pair_invariant_rules.specs.Topics.{messages_of_rounds}
use Rattle.pair_invariant_rules.specs.Rounds.{IsWithinLevel, RoundCase, Resting, Requested, Sketched, Extending, Resolved, is_at_rest, IsOpenerIn, IsAccepterIn, round_messages_to_b, round_messages_to_a, HasSumsIn, AreAgreed, coming_reports, unreported_rounds, HasRound, keys_of_pair}
use Rattle.pair_invariant_rules.specs.Handshake.{Past, stage_of}
use Rattle.pair_invariant_laws.proofs.PlainTalk.{waiting_past}
use Rattle.pair_invariant_laws.proofs.Idling.{PhaseStep, Same, Onwards, loose, lands, Idles, about_append}

-- ---- phases

pub still : (p q r : Phase) → PhaseStep p q → loose r ≡ false → p ≡ r → q ≡ r
still p q r (Same e) tight h = e ∙ h
still p q r (Onwards l k) tight h = absurd (let apart : true ≡ false = sym l ∙ (ap loose h ∙ tight) in cc)

tight_waiting : (n : ℕ) → loose (waiting_phase n) ≡ false
unfolding loose waiting_phase
tight_waiting zero = refl
tight_waiting (suc zero) = refl
tight_waiting (suc (suc n)) = refl

tight_sent : (n : ℕ) → loose (sent_phase n) ≡ false
unfolding loose sent_phase
tight_sent zero = refl
tight_sent (suc zero) = refl
tight_sent (suc (suc n)) = refl

lands_rests : (r : Role) (q : Phase) → lands q ≡ true → is_at_rest r q ≡ true
unfolding lands is_at_rest
lands_rests r phase.Greeted h = refl
lands_rests r phase.Idle h = refl
lands_rests r _ h = absurd (cc)

rests_on : (r : Role) (p q : Phase) → PhaseStep p q → is_at_rest r p ≡ true → is_at_rest r q ≡ true
rests_on r p q (Same e) h = ap (is_at_rest r) e ∙ h
rests_on r p q (Onwards l k) h = lands_rests r q k

opener_on : (c : RoundCase) (p q : Phase) → PhaseStep p q → IsOpenerIn c p → IsOpenerIn c q
unfolding IsOpenerIn loose
opener_on Resting p q s h = rests_on role.Opener p q s h
opener_on (Requested size x) p q s h = still p q (waiting_phase 0) s (tight_waiting 0) h
opener_on (Sketched n) p q s h = still p q (waiting_phase n) s (tight_waiting n) h
opener_on (Extending n) p q s h = still p q (waiting_phase (suc n)) s (tight_waiting (suc n)) h
opener_on _ p q s h = still p q phase.Barrier s refl h

accepter_on : (c : RoundCase) (p q : Phase) → PhaseStep p q → IsAccepterIn c p → IsAccepterIn c q
unfolding IsAccepterIn
accepter_on (Sketched n) p q s h = still p q (sent_phase n) s (tight_sent n) h
accepter_on (Extending n) p q s h = still p q (sent_phase n) s (tight_sent n) h
accepter_on (Resolved n success asks) p q s h = still p q (sent_phase n) s (tight_sent n) h
accepter_on _ p q s h = rests_on role.Accepter p q s h

pub barrier_past : stage_of phase.Barrier ≡ Past
unfolding stage_of
barrier_past = refl

-- the level changes before the handshake is over alone
within_on : (c : RoundCase) (p : Phase) (k l : ℕ) → (stage_of p ≡ Past → l ≡ k) → IsOpenerIn c p → IsWithinLevel c k → IsWithinLevel c l
unfolding IsOpenerIn IsWithinLevel
within_on (Sketched n) p k l same h w = subst (λ x. n ≤ x) (sym (same (ap stage_of h ∙ waiting_past n))) w
within_on (Extending n) p k l same h w = subst (λ x. suc n ≤ x) (sym (same (ap stage_of h ∙ waiting_past (suc n)))) w
within_on (Resolved n success asks) p k l same h w = subst (λ x. n ≤ x) (sym (same (ap stage_of h ∙ barrier_past))) w
within_on _ p k l same h w = tt

-- ---- a step of a side that is not about rounds

pub idles_b : (p : Pair) (t : Turn) (ms : List Message) → Idles p.b t → messages_of_rounds ms ≡ messages_of_rounds p.to_b → HasRound p → HasRound (after_b p t ms)
idles_b p t ms i e r = record {
  case = r.case;
  position = record {
    within = r.position.within;
    opener = r.position.opener;
    accepter = accepter_on r.case p.b.machine.phase t.state.machine.phase i.phase r.position.accepter;
    to_b = e ∙ r.position.to_b;
    to_a = about_append p.to_a t.out ∙ (ap₂ (λ xs ys. xs ++ ys) r.position.to_a i.out ∙ (append-nil (round_messages_to_a r.case p.a.requests.begun p.b.machine.round) ∙ ap (round_messages_to_a r.case p.a.requests.begun) (sym i.round)));
    keeps = subst (HasSumsIn r.case p.a.machine.round) (sym i.round) r.position.keeps;
  };
  reports_in = record {
    begun = r.reports_in.begun;
    agree =
        subst (λ c. EachRound (AreAgreed (keys_of p.a.config.salt c.salt)) p.a.machine.reports (t.state.machine.reports ++ coming_reports r.case t.state.machine.round)) (sym i.config)
        (subst (λ xs. EachRound (AreAgreed (keys_of_pair p)) p.a.machine.reports (xs ++ coming_reports r.case t.state.machine.round)) (sym i.reports)
        (subst (λ x. EachRound (AreAgreed (keys_of_pair p)) p.a.machine.reports (p.b.machine.reports ++ coming_reports r.case x)) (sym i.round) r.reports_in.agree));
  };
}

pub idles_a : (p : Pair) (t : Turn) (ms : List Message) → Idles p.a t → messages_of_rounds ms ≡ messages_of_rounds p.to_a → HasRound p → HasRound (after_a p t ms)
idles_a p t ms i e r = record {
  case = r.case;
  position = record {
    within = within_on r.case p.a.machine.phase (extensions_allowed p.a.machine) (extensions_allowed t.state.machine) i.level r.position.opener r.position.within;
    opener = opener_on r.case p.a.machine.phase t.state.machine.phase i.phase r.position.opener;
    accepter = r.position.accepter;
    to_b = about_append p.to_b t.out ∙ (ap₂ (λ xs ys. xs ++ ys) r.position.to_b i.out ∙ (append-nil (round_messages_to_b r.case p.a.requests.begun) ∙ ap (round_messages_to_b r.case) (sym i.begun)));
    to_a = e ∙ (r.position.to_a ∙ ap (λ n. round_messages_to_a r.case n p.b.machine.round) (sym i.begun));
    keeps = subst (λ x. HasSumsIn r.case x p.b.machine.round) (sym i.round) r.position.keeps;
  };
  reports_in = record {
    begun = i.begun ∙ (r.reports_in.begun ∙ ap (λ (xs : List Report). (length xs + unreported_rounds r.case) % 2 ^ 64) (sym i.reports));
    agree =
        subst (λ c. EachRound (AreAgreed (keys_of c.salt p.b.config.salt)) t.state.machine.reports (p.b.machine.reports ++ coming_reports r.case p.b.machine.round)) (sym i.config)
        (subst (λ xs. EachRound (AreAgreed (keys_of_pair p)) xs (p.b.machine.reports ++ coming_reports r.case p.b.machine.round)) (sym i.reports) r.reports_in.agree);
  };
}
