-- `check_core::watches::labels_fit` meets its contract.
use native.Mathlib.Omega.{arith}
use Rattle.std.specs.Prelude.{◌≡◌, get_or}
use mathlib.Core.Path.{sym, ◌∙◌}
use Rattle.image.specs.Kinds.{TermKind}
use Rattle.read_terms.specs.Fields.{types_in}
use Rattle.check_rules.specs.Judged.{label_of}
use Rattle.read_terms.proofs.Lists.{test_more, test_fails, test_ends}
use Rattle.check_rules.proofs.OnDescriptors.{labels_length, label_at}
use Rattle.check_core.proofs.watches.labels_fit.Goals as goal

pub loop-i-preserved : goal.loop-i-preserved
loop-i-preserved c =
    let k = c.labels_in-i-end.ensures in
    let n = labels_length c.args.image.now c.args.fields.now in
    let l = label_at c.args.image.now c.args.fields.now c.loop-i.i (omega arith) in
    let e : label_of c.args.descriptors.now c.args.a.0 (get_or (types_in c.args.image.now c.args.fields.now TermKind.pcd) c.loop-i.i 0) ≡ c.is_label_of.result = sym (c.is_label_of.ensures ∙ simp (c.descriptor_at_field-descriptor.ensures, ← l)) in
    test_more _ _ c.loop-i.i (omega arith) (e ∙ c.if-not-is_label_of.false) ∙ c.loop-i.invariant

pub returns-then-not-is_label_of : goal.returns-then-not-is_label_of
returns-then-not-is_label_of c =
    let k = c.labels_in-i-end.ensures in
    let n = labels_length c.args.image.now c.args.fields.now in
    let l = label_at c.args.image.now c.args.fields.now c.loop-i.i (omega arith) in
    let e : label_of c.args.descriptors.now c.args.a.0 (get_or (types_in c.args.image.now c.args.fields.now TermKind.pcd) c.loop-i.i 0) ≡ c.is_label_of.result = sym (c.is_label_of.ensures ∙ simp (c.descriptor_at_field-descriptor.ensures, ← l)) in
    test_fails _ _ c.loop-i.i (omega arith) (e ∙ c.if-not-is_label_of.true) ∙ c.loop-i.invariant

pub returns : goal.returns
returns c =
    let k = c.labels_in-i-end.ensures in
    let n = labels_length c.args.image.now c.args.fields.now in
    test_ends _ _ c.loop-i.i (omega arith) ∙ c.loop-i.invariant
