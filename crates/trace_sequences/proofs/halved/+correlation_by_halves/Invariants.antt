use Rattle.trace_sequences.proofs.halved.+correlation_by_halves.Given as goal

abbrev pub decreases-correlation_by_halves : goal.decreases-correlation_by_halves
decreases-correlation_by_halves g l = l.depth
