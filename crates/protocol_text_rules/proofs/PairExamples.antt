-- Worked examples of what is written of a pair.
use Rattle.std.proofs.Common.{◌≡◌, ℕ, List, [], ◌++◌, refl, Ok, Some, true, false}
use Rattle.std.specs.Prelude.{codes}
use Rattle.line_rules.specs.Lines.{line}
use Rattle.node_rules.specs.declared.end.End.TheVariants as end
use Rattle.pair_rules.specs.World.{World, no_effect}
use Rattle.pair_rules.proofs.RoundExample.{last, script as one_round}
use Rattle.pair_rules.proofs.Samples.{new_pair}
use Rattle.pair_rules.proofs.TwoRounds.{two_rounds, script}
use Rattle.protocol_text_rules.specs.Scripts.{script_in}
use Rattle.protocol_text_rules.specs.Pairs.{run_text, session_text, script_world, simulation}
use Rattle.protocol_text_rules.proofs.Samples.{scripting}

-- an empty script: nothing is delivered, and the opener's version is still on its way
empty : run_text true (simulation []) ≡ line (codes "phase a greeting") ++ line (codes "phase b greeting") ++ line (codes "pool a 0") ++ line (codes "pool b 0") ++ line (codes "drained no")
unfolding scripting
empty = refl

-- the pair behind one round, of which each side had one transaction
abbrev hello : List ℕ
hello = codes "9595c9df90075148eb06860365df33584b75bff782a510c6cd4883a419833d50"

abbrev abc : List ℕ
abc = codes "4f8b42c22dd3729b519ba6f68d2da7cc5b2d606d05daed5ad5128cc03e6c6358"

round : run_text true (no_effect last) ≡ line (codes "a round 1 first 8 1 2") ++ line (codes "b round 1 first 8 1 1") ++ line (codes "phase a idle") ++ line (codes "phase b idle") ++ line (codes "pool a 2") ++ line hello ++ line abc ++ line (codes "pool b 2") ++ line abc ++ line hello ++ line (codes "drained yes")
unfolding scripting
round = refl

-- the script that leads to it
round_script : script_in (line (codes "a 68656c6c6f") ++ line (codes "b 616263") ++ line (codes "drain") ++ line (codes "round") ++ line (codes "drain")) ≡ Ok one_round
unfolding scripting
round_script = refl

-- the pair behind two rounds, and the script that leads to it
rounds : run_text true (no_effect two_rounds) ≡ line (codes "a round 1 first 8 1 1") ++ line (codes "a round 2 first 8 0 1") ++ line (codes "b round 1 first 8 0 0") ++ line (codes "b round 2 first 8 1 1") ++ line (codes "phase a idle") ++ line (codes "phase b idle") ++ line (codes "pool a 2") ++ line hello ++ line abc ++ line (codes "pool b 2") ++ line abc ++ line hello ++ line (codes "drained yes")
unfolding scripting
rounds = refl

rounds_script : script_in (line (codes "drain") ++ line (codes "round") ++ line (codes "ab 24") ++ line (codes "ab 4") ++ line (codes "a 68656c6c6f") ++ line (codes "ba 1000") ++ line (codes "b 616263") ++ line (codes "drain") ++ line (codes "round") ++ line (codes "drain")) ≡ Ok script
unfolding scripting
rounds_script = refl

-- the pair that a script begins with is the one of the examples
same_pair : script_world ≡ new_pair
unfolding scripting
same_pair = refl

-- one round's text without the ids, as of a generated script
without_ids : run_text false (no_effect last) ≡ line (codes "a round 1 first 8 1 2") ++ line (codes "b round 1 first 8 1 1") ++ line (codes "phase a idle") ++ line (codes "phase b idle") ++ line (codes "pool a 2") ++ line (codes "pool b 2") ++ line (codes "drained yes")
unfolding scripting
without_ids = refl

-- what one of them writes behind its session
session : session_text last.a ≡ line (codes "round 1 first 8 1 2") ++ line (codes "pool 2")
unfolding scripting
session = refl

-- a node that ended, and an addition that found no room
abbrev ended_world : World
ended_world = record script_world { b = record script_world.b { ended = Some end.PoolFull } }

ended : run_text true (record (no_effect ended_world) { full = 1 }) ≡ line (codes "phase a greeting") ++ line (codes "phase b greeting") ++ line (codes "full 1") ++ line (codes "pool a 0") ++ line (codes "pool b 0") ++ line (codes "drained no") ++ line (codes "refused b pool full")
unfolding scripting
ended = refl
