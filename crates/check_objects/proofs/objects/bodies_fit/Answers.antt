-- `check_objects::objects::bodies_fit` meets its contract: so far each body is of its method's type.
use native.Mathlib.Omega.{arith}
use mathlib.Core.Path.{refl, ◌≡◌, sym, ◌∙◌}
use Prim.Native.Nat.{◌+◌, ◌*◌}
use lib.ListN.{get_or}
use lib.Dec.{eqb}
use Rattle.image.specs.Kinds.{TermKind}
use Rattle.image.specs.Layout.{records_of}
use Rattle.image.specs.Types.{type_field}
use Rattle.verdict.specs.Check.{describe}
use Rattle.read_terms.specs.Fields.{types_in}
use Rattle.check_rules.proofs.Methods.{fit_more, fit_fails, fit_ends}
use Rattle.check_rules.proofs.OnDescriptors.{types_length, body_at}
use Rattle.check_objects.proofs.objects.bodies_fit.Goals as goal

pub loop-i-preserved : goal.loop-i-preserved
loop-i-preserved c =
    let a = c.args in
    let ts = types_in a.image.now a.fields.now TermKind.obj in
    let i = c.loop-i.i in
    let k = c.bodies_in-i-end.ensures in
    let n = types_length a.image.now a.fields.now TermKind.obj refl in
    let l = body_at a.image.now a.fields.now i (omega arith) in
    let e : eqb (type_field (records_of a.image.now) a.t.0 (2 * i + 1)) (get_or ts i 0) ≡ c.same_type.result = sym (c.same_type.ensures ∙ simp (c.method_type.ensures, c.type_at_field-body.ensures.0, ← l)) in
    fit_more (records_of a.image.now) (describe (records_of a.image.now) a.t.0) ts i (omega arith) (e ∙ c.if-not-same_type.false) ∙ c.loop-i.invariant

pub returns-then-not-same_type : goal.returns-then-not-same_type
returns-then-not-same_type c =
    let a = c.args in
    let ts = types_in a.image.now a.fields.now TermKind.obj in
    let i = c.loop-i.i in
    let k = c.bodies_in-i-end.ensures in
    let n = types_length a.image.now a.fields.now TermKind.obj refl in
    let l = body_at a.image.now a.fields.now i (omega arith) in
    let e : eqb (type_field (records_of a.image.now) a.t.0 (2 * i + 1)) (get_or ts i 0) ≡ c.same_type.result = sym (c.same_type.ensures ∙ simp (c.method_type.ensures, c.type_at_field-body.ensures.0, ← l)) in
    fit_fails (records_of a.image.now) (describe (records_of a.image.now) a.t.0) ts i (omega arith) (e ∙ c.if-not-same_type.true) ∙ c.loop-i.invariant

pub returns : goal.returns
returns c =
    let a = c.args in
    let ts = types_in a.image.now a.fields.now TermKind.obj in
    let k = c.bodies_in-i-end.ensures in
    let n = types_length a.image.now a.fields.now TermKind.obj refl in
    fit_ends (records_of a.image.now) (describe (records_of a.image.now) a.t.0) ts c.loop-i.i (omega arith) ∙ c.loop-i.invariant
