-- What the worked examples share.
use Rattle.wire_rules.proofs.Samples.{streaming, showing}
use Rattle.pair_rules.proofs.Samples.{happening}
use Rattle.protocol_text_rules.specs.Ends.{phase_text, ending_text, frame_fault_text, payload_kind_text, end_text, stream_kind_text}
use Rattle.protocol_text_rules.specs.Generator.{generated_from}
use Rattle.protocol_text_rules.specs.Pairs.{report_lines, script_config, script_world}
use Rattle.protocol_text_rules.specs.Scripts.{line_events, events_of_lines}
use Rattle.protocol_text_rules.specs.Works.{whole_stream}

-- an example that has this in its line `unfolding` computes texts
unfoldable pub writing : Unit {0}
unfolding showing phase_text ending_text frame_fault_text payload_kind_text end_text stream_kind_text report_lines
writing = tt

-- the same for scripts, and for what they do
unfoldable pub scripting : Unit {0}
unfolding happening writing generated_from line_events events_of_lines script_config script_world
scripting = tt

-- the same for streams of frames and their lines
unfoldable pub working : Unit {0}
unfolding happening writing streaming whole_stream
working = tt
