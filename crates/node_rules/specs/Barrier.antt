-- What stands behind a round: its ping keeps the next one back until the peer's announcements have come, and then what is
-- wanted is asked for. The ping behind a round is this project's own.
use Rattle.std.specs.Prelude.{ℕ, ◌==◌, ◌&&◌, Bool, true, false, List, [], ◌∷◌, ◌++◌}
use Rattle.base_types.specs.declared.lists.Hash32.{Hash32}
use Rattle.wire_rules.specs.declared.phase.Phase.{Phase}
use Rattle.wire_rules.specs.declared.phase.Phase.TheVariants as phase
use Rattle.node_rules.specs.State.{Machine, Initiator, NodeState, initiator_of}
use Rattle.node_rules.specs.Turns.{Response, Turn, unchanged, turn_with, getdata_of}
use Rattle.node_rules.specs.declared.config.Role.{Role}
use Rattle.node_rules.specs.declared.config.Role.TheVariants as role

-- whether a round's ping is out
unfoldable pub is_barrier : Phase → Bool
is_barrier phase.Barrier = true
is_barrier other = false

-- whether a pong ends the round's barrier
abbrev pub is_barrier_end : Initiator → ℕ → Bool
is_barrier_end i n = is_barrier i.machine.phase && (n == i.requests.begun)

-- the phase once a round's pong has come, where these ids are to be asked for
unfoldable pub phase_after_barrier : List Hash32 → Phase
phase_after_barrier [] = phase.Idle
phase_after_barrier (id ∷ ids) = phase.Fetching

-- the barrier is over, and these ids are asked for
abbrev pub after_barrier : Machine → List Hash32 → Machine
after_barrier m wanted = record m { phase = phase_after_barrier wanted }

-- a pong at the opener's machine, by whether it ends the barrier
unfoldable pub pong_response : Bool → Machine → List Hash32 → Response
pong_response true m wanted = record { machine = after_barrier m wanted; out = getdata_of wanted }
pong_response false m wanted = record { machine = m; out = [] }

abbrev pub initiator_pong : Initiator → ℕ → List Hash32 → Response
initiator_pong i n wanted = pong_response (is_barrier_end i n) i.machine wanted

-- the phase behind the asking for these ids, of which some may have come
unfoldable pub phase_after_fetch : List Hash32 → Phase → Phase
phase_after_fetch [] phase.Fetching = phase.Idle
phase_after_fetch ids other = other

-- the last of them has come, or can't
abbrev pub without_fetching : Machine → Machine
without_fetching m = record m { phase = phase_after_fetch [] m.phase }

-- ---- at a node

-- what is wanted is asked for
abbrev pub with_wants_requested : NodeState → NodeState
with_wants_requested s = record s {
  machine = after_barrier s.machine s.wants.wanted;
  wants = record s.wants { wanted = []; asked = s.wants.asked ++ s.wants.wanted };
}

-- a pong: by the role, and by whether it ends the round's barrier
unfoldable pub pong_by : Role → Bool → NodeState → Turn
pong_by role.Opener true s = turn_with (with_wants_requested s) (getdata_of s.wants.wanted)
pong_by role.Opener false s = unchanged s
pong_by role.Accepter ends s = unchanged s

abbrev pub on_pong : NodeState → ℕ → Turn
on_pong s n = pong_by s.config.role (is_barrier_end (initiator_of s) n) s
