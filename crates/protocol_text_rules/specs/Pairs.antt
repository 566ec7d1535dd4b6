-- What is written of a pair, and of one node behind a session. The texts are this project's own.
use Rattle.std.specs.Prelude.{ℕ, ◌+◌, ◌==◌, Bool, true, false, if◌then◌else◌, List, [], ◌∷◌, ◌++◌, length, flat_map, codes, pos, Some, None}
use Rattle.std.specs.Fmt.{decimal}
use Rattle.std.specs.List.{join_with_byte}
use Rattle.std.specs.declared.option.Option.{Option}
use Rattle.hex.specs.Hex.{encode_lower}
use Rattle.line_rules.specs.Lines.{line}
use Rattle.pool_rules.specs.Pools.{Transaction, pool_ids}
use Rattle.pool_rules.specs.declared.report.Report.{Report}
use Rattle.node_rules.specs.State.{NodeState}
use Rattle.node_rules.specs.declared.config.Config.{Config}
use Rattle.node_rules.specs.declared.config.Role.{Role}
use Rattle.node_rules.specs.declared.config.Role.TheVariants as role
use Rattle.node_rules.specs.declared.end.End.{End}
use Rattle.pair_rules.specs.World.{World, Effect, opening_world, run}
use Rattle.pair_rules.specs.declared.event.Event.{Event}
use Rattle.pair_rules.specs.declared.side.Side.{Side}
use Rattle.pair_rules.specs.declared.side.Side.TheVariants as side
use Rattle.protocol_text_rules.specs.Ends.{phase_text, ending_text, side_text, side_refused_text}
use Rattle.protocol_text_rules.specs.declared.limits.TheConstants.{MAIN_MAGIC}

-- words with one space between each two
abbrev pub words_text : List (List ℕ) → List ℕ
words_text words = join_with_byte 32 words

-- a report: round, ending, first capacity, how many ids were taken, and how many short ids were answered
abbrev pub report_words : ℕ → Report → List (List ℕ)
report_words number r =
    codes "round" ∷ decimal number ∷ ending_text r.ending ∷ decimal r.capacity ∷ decimal (length r.snapshot) ∷ decimal (length r.answered) ∷ []

-- a line for each report, numbered from n on, behind these words
unfoldable pub report_lines : List (List ℕ) → ℕ → List Report → List ℕ
report_lines front n [] = []
report_lines front n (r ∷ rs) = line (words_text (front ++ report_words n r)) ++ report_lines front (n + 1) rs

abbrev pub phase_line : Side → NodeState → List ℕ
phase_line s state = line (words_text (codes "phase" ∷ side_text s ∷ phase_text state.machine.phase ∷ []))

-- how many additions found no room, where some did
abbrev pub full_line : ℕ → List ℕ
full_line n = if n == 0 then [] else line (words_text (codes "full" ∷ decimal n ∷ []))

abbrev pub id_lines : Bool → List Transaction → List ℕ
id_lines true pool = flat_map (λ id. line (encode_lower id.0)) (pool_ids pool)
id_lines false pool = []

-- how many transactions a pool has, and with the ids each of them
abbrev pub pool_lines : Bool → Side → List Transaction → List ℕ
pool_lines with_ids s pool = line (words_text (codes "pool" ∷ side_text s ∷ decimal (length pool) ∷ [])) ++ id_lines with_ids pool

abbrev pub drained_word : List ℕ → List ℕ → List ℕ
drained_word [] [] = codes "yes"
drained_word ab ba = codes "no"

abbrev pub drained_line : World → List ℕ
drained_line w = line (words_text (codes "drained" ∷ drained_word w.ab w.ba ∷ []))

-- both nodes behind a run, with or without the ids of their pools
abbrev pub pair_text : Bool → Effect → List ℕ
pair_text with_ids x =
    report_lines (codes "a" ∷ []) 1 x.world.a.machine.reports ++ report_lines (codes "b" ∷ []) 1 x.world.b.machine.reports
    ++ phase_line side.A x.world.a ++ phase_line side.B x.world.b ++ full_line x.full
    ++ pool_lines with_ids side.A x.world.a.pool ++ pool_lines with_ids side.B x.world.b.pool ++ drained_line x.world

-- the line of a node that ended, behind that text
abbrev pub end_line : Side → Option End → List ℕ
end_line s (Some e) = line (side_refused_text s e)
end_line s None = []

-- all that is written of a run
abbrev pub run_text : Bool → Effect → List ℕ
run_text with_ids x = pair_text with_ids x ++ end_line side.A x.world.a.ended ++ end_line side.B x.world.b.ended

-- ---- the pair of a script

-- a node of the main network, with the nonce 0 and the time 0
unfoldable pub script_config : Role → ℕ → Config
script_config r salt = record { magic = MAIN_MAGIC; role = r; salt = salt; nonce = 0; time = pos 0; top = 2 }

-- the opener of salt 1 and the accepter of salt 2, with empty pools
unfoldable pub script_world : World
script_world = opening_world (script_config role.Opener 1) (script_config role.Accepter 2) [] []

-- what a script does to them
abbrev pub simulation : List Event → Effect
simulation script = run script_world script

-- ---- one node behind a session

-- its reports and how many transactions its pool has
abbrev pub session_text : NodeState → List ℕ
session_text s = report_lines [] 1 s.machine.reports ++ line (words_text (codes "pool" ∷ decimal (length s.pool) ∷ []))
