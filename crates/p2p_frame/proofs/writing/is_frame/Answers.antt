use Rattle.std.proofs.Common.{sym, ◌∙◌, length}
use Rattle.std.proofs.lemmas.Bool.{leb-true, le-leb}
use Rattle.wire_rules.specs.declared.limits.TheConstants.{PAYLOAD_LIMIT}
use Rattle.p2p_frame.proofs.writing.is_frame.Goals as goal

pub returns-then-is_command_field : goal.returns-then-is_command_field
returns-then-is_command_field c = (
  λ h. record { command = sym c.is_command_field.ensures ∙ c.if-is_command_field.true; within = leb-true (length c.args.frame.now.payload.now) PAYLOAD_LIMIT (sym c.is_payload.ensures.limit ∙ h); bytes = c.is_payload.ensures.bytes },
  λ f. c.is_payload.ensures.limit ∙ le-leb (length c.args.frame.now.payload.now) PAYLOAD_LIMIT f.within,
)
