use Rattle.vm_results.proofs.leaves.+gather.Given as goal

abbrev pub decreases-gather : goal.decreases-gather
decreases-gather l = l.depth
