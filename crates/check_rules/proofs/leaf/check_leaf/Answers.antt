-- `check_rules::leaf::check_leaf` meets its contract.
use native.Mathlib.Omega.{arith}
use mathlib.Core.Path.{refl, ◌∙◌}
use Rattle.image.specs.Kinds.{TermKind}
use Rattle.image.specs.Layout.{records_of}
use Rattle.image.specs.Types.{term_kind}
use Rattle.check_rules.specs.Scopes.{setting_in}
use Rattle.read_terms.proofs.Located.{number_is, kind_read, number_from, typed_in, second_in}
use Rattle.check_rules.proofs.Verdict.{answered_in}
use Rattle.check_rules.proofs.leaf.check_leaf.Goals as goal

pub check_variable-requires : goal.check_variable-requires
check_variable-requires c =
    let e = kind_read c.requires.0.terms c.requires.1 _ c.term_kind-kind.ensures TermKind.var c.if-kind-eq-VARIABLE.true in
    rw c.term_fields-fields.ensures (typed_in c.requires.0.terms c.requires.1, second_in c.requires.0.terms c.requires.1 e refl, c.requires.3)

pub returns-then-kind-eq-VARIABLE : goal.returns-then-kind-eq-VARIABLE
returns-then-kind-eq-VARIABLE c =
    λ d.
    let e = kind_read c.requires.0.terms c.requires.1 _ c.term_kind-kind.ensures TermKind.var c.if-kind-eq-VARIABLE.true in
    answered_in c.requires.0.terms c.requires.1 e (setting_in c.args.scope.now c.args.len d) c.term_place-at.ensures.0 c.term_fields-fields.ensures (c.check_variable.ensures d)

pub check_constant-requires : goal.check_constant-requires
check_constant-requires c =
    let e = c.term_kind-kind.ensures in
    let f = number_from c.requires.0.terms c.requires.1 in
    rw c.term_fields-fields.ensures (c.requires.0.types, typed_in c.requires.0.terms c.requires.1, omega arith, omega arith)

pub returns : goal.returns
returns c =
    λ d.
    let k = term_kind (records_of c.args.image.now) c.args.n.0 in
    let e = c.term_kind-kind.ensures ∙ number_is c.requires.0.terms c.requires.1 in
    answered_in c.requires.0.terms c.requires.1 refl (setting_in c.args.scope.now c.args.len d) c.term_place-at.ensures.0 c.term_fields-fields.ensures (c.check_constant.ensures k e (setting_in c.args.scope.now c.args.len d))
