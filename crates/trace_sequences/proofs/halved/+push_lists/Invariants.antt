use Rattle.trace_sequences.proofs.halved.+push_lists.Given as goal

abbrev pub decreases-push_lists : goal.decreases-push_lists
decreases-push_lists g l = l.depth
