use Prim.Native.Nat.{ℕ, ◌/◌, ◌<◌}
use mathlib.Core.List.{List}
use lib.ListN.{length}
use Rattle.read_terms.specs.Lent.{Terms}
use native.Mathlib.Omega.{arith}
use mathlib.Core.Path.{refl}
use borrow.Author.Tests.{ne_eqb}
use Rattle.image.specs.Layout.{records_of}
use Rattle.read_terms.proofs.Located.{good_of}
use Rattle.check_typing.proofs.Faults.{fault_at_lem}
use Rattle.check_typing.proofs.verdict_of.Goals as goal

-- The number of a term has 16 bits.
few : {b terms : List ℕ} (f : ℕ) → Terms b terms → f / 4 < length (records_of b).terms → f / 4 < 65536
few {b} f T h = let few = (good_of b T.laid_out).few_terms in omega arith

pub returns-then-fault-eq1 : goal.returns-then-fault-eq1
returns-then-fault-eq1 c =
    fault_at_lem (records_of c.args.image.now) c.args.fault c.if-fault-eq0.false (rw c.if-fault-eq1.true refl) c.term_place-at.ensures.0 (few c.args.fault c.requires.0 c.requires.1)

pub returns-then-fault-eq2 : goal.returns-then-fault-eq2
returns-then-fault-eq2 c =
    fault_at_lem (records_of c.args.image.now) c.args.fault c.if-fault-eq0.false (rw c.if-fault-eq2.true refl) c.term_place-at.ensures.0 (few c.args.fault c.requires.0 c.requires.1)

pub returns : goal.returns
returns c =
    fault_at_lem (records_of c.args.image.now) c.args.fault c.if-fault-eq0.false (rw (ne_eqb _ 1 c.if-fault-eq1.false, ne_eqb _ 2 c.if-fault-eq2.false) refl) c.term_place-at.ensures.0 (few c.args.fault c.requires.0 c.requires.1)
