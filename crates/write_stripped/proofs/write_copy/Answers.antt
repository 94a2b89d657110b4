-- `write_stripped::write_copy` meets its contract.
use Prim.Native.Nat.{ℕ}
use mathlib.Core.Path.{ap, subst, ◌∙◌}
use mathlib.Core.Bool.{Bool}
use mathlib.Core.List.{List}
use lib.ListN.{length}
use Rattle.calculus.specs.Syntax.{Dom}
use Rattle.image.specs.Layout.{records_of}
use Rattle.base_bytes.specs.Bytes.{over}
use Rattle.write_masks.specs.Masks.{in_mask}
use Rattle.write_unit_bodies.specs.UnitBodies.{UnitBodies}
use Rattle.validator_core.proofs.Stages.{accepted}
use Rattle.write_stripped.proofs.Copies.{copy_domains, copy_types, copy_terms, copy_counted, copy_fits, copy_written}
use Rattle.write_stripped.proofs.write_copy.Goals as goal

pub copy_with_unit_bodies-requires : goal.copy_with_unit_bodies-requires
copy_with_unit_bodies-requires c =
    let T = c.requires.3 in
    (record { terms = record { laid_out = T.laid_out; offsets = T.terms }; types = record { laid_out = T.laid_out; enough = T.enough; descriptors = T.descriptors } }, c.requires.4.terms, c.requires.6)

pub write_whole-requires : goal.write_whole-requires
write_whole-requires c =
    let b : List ℕ = c.args.image.now in
    let A = accepted b c.requires.0 c.requires.1 in
    let x = c.copy_with_unit_bodies in
    let T = c.requires.3 in
    let C : List ℕ = c.copy_with_unit_bodies.new.copy in
    let H : Dom → Bool = in_mask c.args.mask in
    let I : UnitBodies (records_of b) H (length (records_of b).terms) b C = subst (λ m. UnitBodies (records_of b) H m b C) c.requires.4.terms x.ensures in
    (c.requires.2, copy_domains b A H C I _ T.domains, copy_types b A H C I _ c.requires.5, copy_terms b A H C I _ T.terms, copy_counted b A H C I _ c.requires.4, copy_fits b A H C I _ c.requires.7)

pub returns : goal.returns
returns c =
    let b : List ℕ = c.args.image.now in
    let A = accepted b c.requires.0 c.requires.1 in
    let x = c.copy_with_unit_bodies in
    let T = c.requires.3 in
    let C : List ℕ = c.copy_with_unit_bodies.new.copy in
    let H : Dom → Bool = in_mask c.args.mask in
    let I : UnitBodies (records_of b) H (length (records_of b).terms) b C = subst (λ m. UnitBodies (records_of b) H m b C) c.requires.4.terms x.ensures in
    let w = c.write_whole.ensures in
    let e = copy_written b A H C I in
    (w.0 ∙ ap length e, w.1 ∙ ap (λ bs. over 0 bs c.args.out.now) e)
