-- `check_typing::check_plain` meets its contract.
use native.Mathlib.Omega.{arith}
use Prim.Native.Nat.{◌-◌}
use mathlib.Core.Path.{◌≡◌, ap, ◌∙◌}
use Rattle.image.specs.Layout.{records_of}
use Rattle.image.specs.Types.{root_of}
use Rattle.read_terms.proofs.Located.{good_of}
use Rattle.check_typing.proofs.Root.{root_plain_lem}
use Rattle.check_typing.proofs.check_plain.Goals as goal

pub overflow_cast-root : goal.overflow_cast-root
overflow_cast-root c =
    let f = (good_of c.args.image.now c.requires.0.laid_out).few_terms in
    let e = c.requires.3 in
    record { fits = omega arith }

pub returns : goal.returns
returns c =
    let L = records_of c.args.image.now in
    let r : c.args.count - 1 ≡ root_of L = ap (λ m. m - 1) c.requires.3 in
    c.plain_at.ensures ∙ rw (c.type_leaves-n.ensures, c.stated_type.ensures.0, c.term_place.ensures.0, r) (root_plain_lem L)
