-- What a refusal of the machine says.
use Rattle.std.specs.Prelude.{◌≡◌, Some, None, Err, IfSome}
use Rattle.std.specs.declared.option.Option.{Option}
use Rattle.std.specs.declared.result.Result.{Result}
use Rattle.node_rules.specs.Turns.{Response}
use Rattle.node_rules.specs.declared.end.End.{End}
use Rattle.node_rules.specs.declared.end.End.TheVariants as end
use Rattle.responder.specs.declared.fault.ResponderFault.{ResponderFault}
use Rattle.responder.specs.declared.fault.ResponderFault.TheVariants as fault

-- the end of a node that refuses so. Want of memory is the end of none
abbrev pub end_of : ResponderFault → Option End
end_of (fault.Misplaced command phase) = Some (end.Misplaced command phase)
end_of (fault.UnknownShortId n) = Some (end.UnknownShortId n)
end_of (fault.AskRepeated n) = Some (end.AskRepeated n)
end_of (fault.AsksOnFailure count) = Some (end.AsksOnFailure count)
end_of fault.OutOfMemory = None

-- a refusal is the one that is due, or memory ran out
abbrev pub IsRefusal : Result Response End → ResponderFault → Type 0
IsRefusal due f = IfSome (end_of f) (λ e. due ≡ Err e)

-- a fault is the first that there is, or memory ran out
abbrev pub IsFault : Option End → ResponderFault → Type 0
IsFault first f = IfSome (end_of f) (λ e. first ≡ Some e)
