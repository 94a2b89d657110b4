-- `check_scopes::matches::bind_entry` meets its contract: an entry of 0 binds nothing, any other one type.
use native.Mathlib.Omega.{arith}
use mathlib.Core.Path.{◌≡◌, sym, ap, subst, ◌∙◌}
use Prim.Native.Nat.{◌<◌}
use lib.ListN.{length, get_or}
use Rattle.image.specs.Layout.{records_of}
use Rattle.image.specs.Types.{type_no, type_field}
use Rattle.read_terms.specs.Lent.{IsType}
use Rattle.read_records.specs.Descriptors.{descriptor_field0}
use Rattle.check_scopes.proofs.ChildSettings.{part_is}
use Rattle.check_scopes.proofs.Bindings.{binds_one}
use Rattle.check_scopes.proofs.matches.bind_entry.Goals as goal

pub returns : goal.returns
returns c =
    let st = c.stated_type-pointcut in
    let en = c.entry_term in
    let b = c.args.image.now in
    let L = records_of b in
    let scope = c.args.scope.now in
    let h : IsType b (type_no L en.result.0) = subst (λ a. IsType b a) st.ensures.0 st.ensures.1 in
    let q : c.first_type.result.0 ≡ type_field L (type_no L en.result.0) 0 = c.first_type.ensures ∙ (ap descriptor_field0 (c.type_descriptor.ensures ∙ ap (λ a. get_or c.args.descriptors.now a 0) st.ensures.0) ∙ sym (part_is c.requires.0.types h 0)) in
    let g = c.requires.2 in
    let r = c.requires.3 in
    let l : c.args.len < length scope = omega arith in
    rw (en.ensures, c.bind.ensures, q) (binds_one scope c.args.len (type_field L (type_no L en.result.0) 0) l)
