-- The phases of a round: which sketch is waited for or was sent in each.
use Rattle.std.proofs.Common.{◌≡◌, ℕ, zero, suc, ◌≤◌, true, false, List, [], ◌∷◌, Some, None, refl, arith}
use Rattle.base_types.specs.declared.lists.Hash32.{Hash32}
use Rattle.wire_rules.specs.declared.phase.Phase.{Phase}
use Rattle.wire_rules.specs.declared.phase.Phase.TheVariants as phase
use Rattle.node_rules.specs.Barrier.{is_barrier, phase_after_barrier, phase_after_fetch}
use Rattle.node_rules.specs.Stages.{waiting_phase, sent_phase, requested_extensions, sent_extensions, is_idle}

-- no sketch is waited for, and none was sent
pub record HasNoSketch (p : Phase) : Type 0 where
  pub asked : requested_extensions p ≡ None
  pub sent : sent_extensions p ≡ None

pub greeting-rests : HasNoSketch phase.Greeting
unfolding requested_extensions sent_extensions
greeting-rests = record { asked = refl; sent = refl }

pub greeted-rests : HasNoSketch phase.Greeted
unfolding requested_extensions sent_extensions
greeted-rests = record { asked = refl; sent = refl }

pub idle-rests : HasNoSketch phase.Idle
unfolding requested_extensions sent_extensions
idle-rests = record { asked = refl; sent = refl }

pub barrier-rests : HasNoSketch phase.Barrier
unfolding requested_extensions sent_extensions
barrier-rests = record { asked = refl; sent = refl }

pub behind-rests : (ids : List Hash32) → HasNoSketch (phase_after_barrier ids)
unfolding requested_extensions sent_extensions phase_after_barrier
behind-rests [] = record { asked = refl; sent = refl }
behind-rests (id ∷ ids) = record { asked = refl; sent = refl }

pub is_idle-rests : (p : Phase) → is_idle p ≡ true → HasNoSketch p
unfolding is_idle
is_idle-rests phase.Idle e = idle-rests
is_idle-rests other e = absurd (let apart : false ≡ true = e in cc)

pub is_barrier-rests : (p : Phase) → is_barrier p ≡ true → HasNoSketch p
unfolding is_barrier
is_barrier-rests phase.Barrier e = barrier-rests
is_barrier-rests other e = absurd (let apart : false ≡ true = e in cc)

-- the end of fetching changes neither
pub phase_after_fetch-asked : (ids : List Hash32) (p : Phase) → requested_extensions (phase_after_fetch ids p) ≡ requested_extensions p
unfolding requested_extensions phase_after_fetch
phase_after_fetch-asked [] phase.Fetching = refl
phase_after_fetch-asked ids other = refl

pub phase_after_fetch-sent_extensions : (ids : List Hash32) (p : Phase) → sent_extensions (phase_after_fetch ids p) ≡ sent_extensions p
unfolding sent_extensions phase_after_fetch
phase_after_fetch-sent_extensions [] phase.Fetching = refl
phase_after_fetch-sent_extensions ids other = refl

pub asked-waiting_phase : (n : ℕ) → n ≤ 2 → requested_extensions (waiting_phase n) ≡ Some n
unfolding requested_extensions waiting_phase
asked-waiting_phase zero h = refl
asked-waiting_phase (suc zero) h = refl
asked-waiting_phase (suc (suc zero)) h = refl
asked-waiting_phase (suc (suc (suc n))) h = absurd (omega arith)

pub sent_extensions-waiting_phase : (n : ℕ) → sent_extensions (waiting_phase n) ≡ None
unfolding sent_extensions waiting_phase
sent_extensions-waiting_phase zero = refl
sent_extensions-waiting_phase (suc zero) = refl
sent_extensions-waiting_phase (suc (suc n)) = refl

pub sent_extensions-sent_phase : (n : ℕ) → n ≤ 2 → sent_extensions (sent_phase n) ≡ Some n
unfolding sent_extensions sent_phase
sent_extensions-sent_phase zero h = refl
sent_extensions-sent_phase (suc zero) h = refl
sent_extensions-sent_phase (suc (suc zero)) h = refl
sent_extensions-sent_phase (suc (suc (suc n))) h = absurd (omega arith)

pub asked-sent_phase : (n : ℕ) → requested_extensions (sent_phase n) ≡ None
unfolding requested_extensions sent_phase
asked-sent_phase zero = refl
asked-sent_phase (suc zero) = refl
asked-sent_phase (suc (suc n)) = refl

-- a phase in which a sketch was sent waits for none
pub sent_extensions-unasked : (p : Phase) (n : ℕ) → sent_extensions p ≡ Some n → requested_extensions p ≡ None
unfolding requested_extensions sent_extensions
sent_extensions-unasked phase.Sent n e = refl
sent_extensions-unasked phase.SentExt n e = refl
sent_extensions-unasked phase.SentExt2 n e = refl
sent_extensions-unasked other n e = absurd (let apart : None ≡ Some n = e in cc)

pub some_is : (m n : ℕ) → Some m ≡ Some n → m ≡ n
some_is m n e = cc
