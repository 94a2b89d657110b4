use Rattle.std.proofs.Common.{length, take, ◌≡◌}
use Rattle.listing.specs.Conformance.{up_to}
use Rattle.watch.proofs.conformance.frame_bytes.Given as goal

abbrev pub invariant-loop-i : goal.invariant-loop-i
invariant-loop-i l = (length l.frame ≡ 256) × (take l.i l.frame ≡ up_to l.i)
