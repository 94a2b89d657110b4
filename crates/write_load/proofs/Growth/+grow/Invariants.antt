-- `write_load::Growth::grow` meets its contract.
use Rattle.write_load.proofs.Growth.+grow.Given as goal

abbrev pub decreases-grow : goal.decreases-grow
decreases-grow l = l.depth
