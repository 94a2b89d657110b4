-- `check_typing::check_root` meets its contract.
use native.Mathlib.Omega.{arith}
use mathlib.Core.Path.{refl, sym, ap, ◌∙◌}
use Prim.Native.Nat.{◌-◌}
use borrow.Author.Tests.{leb-true, leb-false}
use Rattle.image.specs.Layout.{records_of}
use Rattle.verdict.specs.Check.{checked}
use Rattle.check_rules.specs.Scopes.{setting_in}
use Rattle.check_typing.proofs.Root.{root_checked_lem}
use Rattle.check_typing.proofs.TermPass.{leaf_checked}
use Rattle.check_typing.proofs.ScopeCapacity.{root_capacity}
use Rattle.check_typing.proofs.check_root.Goals as goal

-- The root is a constant, and is the whole program, or a variable, which nothing binds.
pub returns-then-is_leaf : goal.returns-then-is_leaf
returns-then-is_leaf c =
    let e = c.requires.1 in
    let z = c.requires.2 in
    let L = records_of c.args.image.now in
    let small = leb-true _ _ (sym c.is_leaf.ensures ∙ c.if-is_leaf.true) in
    c.check_leaf.ensures 0 ∙ leaf_checked c.requires.0.terms (omega arith) (setting_in _ 0 0) small ∙ ap (λ n. checked L (setting_in _ 0 0) (n - 1)) e ∙ root_checked_lem L (omega arith) _

pub check_here-fault-requires : goal.check_here-fault-requires
check_here-fault-requires c =
    let e = c.requires.1 in
    let z = c.requires.2 in
    (c.requires.0, omega arith, c.requires.3, root_capacity c.requires.0.terms _ c.args.count c.requires.4 e refl, c.requires.5, leb-false _ _ (sym c.is_leaf.ensures ∙ c.if-is_leaf.false))

pub returns : goal.returns
returns c =
    let e = c.requires.1 in
    let z = c.requires.2 in
    let L = records_of c.args.image.now in
    c.verdict_of.ensures ∙ c.check_here-fault.ensures.0 ∙ ap (λ n. checked L (setting_in _ 0 0) (n - 1)) e ∙ root_checked_lem L (omega arith) _
