-- `check_typing::check_typing` meets its contract.
use Prim.Native.Nat.{ℕ}
use native.Mathlib.Omega.{arith}
use mathlib.Core.List.{List}
use Rattle.read_records.specs.Tables.{Tables}
use Rattle.read_terms.specs.Lent.{Terms, Types}
use mathlib.Core.Path.{ap, ◌∙◌}
use Rattle.std.proofs.Common.{◌≡◌, is_err, rules}
use Rattle.image.specs.Layout.{records_of}
use Rattle.check_typing.proofs.Root.{typing_refused, typing_plain}
use Rattle.check_typing.proofs.check_typing.Goals as goal

-- The tables of the terms and of the types, of all that are lent.
module _ {b ds ts ks : List ℕ} where
  terms_lent : Tables b ds ts ks → Terms b ts
  terms_lent T = record { laid_out = T.laid_out; offsets = T.terms }

  types_lent : Tables b ds ts ks → Types b ks
  types_lent T = record { laid_out = T.laid_out; enough = T.enough; descriptors = T.descriptors }

pub check_root-requires : goal.check_root-requires
check_root-requires c =
    let p = c.requires in
    (record { terms = terms_lent p.0; types = types_lent p.0 }, p.1.terms, omega (arith, p.1.terms, p.2.has_terms), c.set_masks.ensures, p.2, p.3)

pub returns-in_err-check_root : goal.returns-in_err-check_root
returns-in_err-check_root c =
    let r : c.from_residual.result ≡ c.check_root.result = search rules in
    r ∙ typing_refused (records_of c.args.image.now) c.check_root.result c.check_root.ensures (ap is_err c.in_err-check_root.was)

pub check_plain-requires : goal.check_plain-requires
check_plain-requires c =
    let p = c.requires in
    (terms_lent p.0, types_lent p.0, p.1.types, p.1.terms, omega (arith, p.1.terms, p.2.has_terms))

pub returns : goal.returns
returns c =
    c.check_plain.ensures ∙ typing_plain (records_of c.args.image.now) c.check_root.result c.check_root.ensures (ap is_err c.in_ok-check_root.was)
