-- `check_core::watches::labels_above` meets its contract.
use native.Mathlib.Omega.{arith}
use Rattle.std.specs.Prelude.{◌≡◌, get_or}
use mathlib.Core.Path.{sym, ◌∙◌}
use Rattle.image.specs.Kinds.{TermKind}
use Rattle.read_terms.specs.Fields.{types_in}
use Rattle.check_rules.specs.Judged.{label_above}
use Rattle.read_terms.proofs.Lists.{test_more, test_fails, test_ends}
use Rattle.check_rules.proofs.OnDescriptors.{labels_length, label_at}
use Rattle.check_core.proofs.watches.labels_above.Goals as goal

pub loop-i-preserved : goal.loop-i-preserved
loop-i-preserved c =
    let k = c.labels_in-i-end.ensures in
    let n = labels_length c.args.image.now c.args.fields.now in
    let l = label_at c.args.image.now c.args.fields.now c.loop-i.i (omega arith) in
    let e : label_above c.args.masks.now c.args.descriptors.now c.args.d.0 (get_or (types_in c.args.image.now c.args.fields.now TermKind.pcd) c.loop-i.i 0) ≡ c.leq.result = sym (c.leq.ensures ∙ simp (c.second_domain.ensures, c.descriptor_at_field-descriptor.ensures, ← l)) in
    test_more _ _ c.loop-i.i (omega arith) (e ∙ c.if-not-leq.false) ∙ c.loop-i.invariant

pub returns-then-not-leq : goal.returns-then-not-leq
returns-then-not-leq c =
    let k = c.labels_in-i-end.ensures in
    let n = labels_length c.args.image.now c.args.fields.now in
    let l = label_at c.args.image.now c.args.fields.now c.loop-i.i (omega arith) in
    let e : label_above c.args.masks.now c.args.descriptors.now c.args.d.0 (get_or (types_in c.args.image.now c.args.fields.now TermKind.pcd) c.loop-i.i 0) ≡ c.leq.result = sym (c.leq.ensures ∙ simp (c.second_domain.ensures, c.descriptor_at_field-descriptor.ensures, ← l)) in
    test_fails _ _ c.loop-i.i (omega arith) (e ∙ c.if-not-leq.true) ∙ c.loop-i.invariant

pub returns : goal.returns
returns c =
    let k = c.labels_in-i-end.ensures in
    let n = labels_length c.args.image.now c.args.fields.now in
    test_ends _ _ c.loop-i.i (omega arith) ∙ c.loop-i.invariant
