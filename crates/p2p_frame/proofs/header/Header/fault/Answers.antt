use Rattle.std.proofs.Common.{sym, rules}
use Rattle.p2p_frame.specs.Views.{fields_of}
use Rattle.p2p_frame.proofs.Headers.{magic-fault, command-fault, size-fault, no-fault}
use Rattle.p2p_frame.proofs.header.Header.fault.Goals as goal

pub returns-then-ne : goal.returns-then-ne
returns-then-ne c = sym (magic-fault c.args.magic c.args.place (fields_of c.args.self.now) (search rules))

pub returns-then-not-is_command_field : goal.returns-then-not-is_command_field
returns-then-not-is_command_field c = sym (command-fault c.args.magic c.args.place (fields_of c.args.self.now) (search rules) (search rules))

pub returns-then-self-gt-PAYLOAD_LIMIT : goal.returns-then-self-gt-PAYLOAD_LIMIT
returns-then-self-gt-PAYLOAD_LIMIT c = sym (size-fault c.args.magic c.args.place (fields_of c.args.self.now) (search rules) (search rules) c.if-self-gt-PAYLOAD_LIMIT.true)

pub returns : goal.returns
returns c = sym (no-fault c.args.magic c.args.place (fields_of c.args.self.now) (search rules) (search rules) c.if-self-gt-PAYLOAD_LIMIT.false)
