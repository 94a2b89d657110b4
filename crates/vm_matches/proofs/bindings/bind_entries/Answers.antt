use mathlib.Core.Path.{refl, ◌∙◌}
use native.Mathlib.Omega.{arith}
use Prim.Native.Nat.{◌≤◌, ◌<◌}
use Rattle.vm_code.specs.Words.{count_of}
use Rattle.vm_matches.specs.Matching.{entry_in}
use Rattle.vm_matches.proofs.Fields.{entry_of}
use Rattle.vm_matches.proofs.Binding.{frames_start, bound_start, bound_on, bound_done, frames_here, frames_on, frames_left}
use borrow.Author.Rules.{rules}
use Rattle.vm_matches.proofs.bindings.bind_entries.Goals as goal

pub loop-i-init : goal.loop-i-init
loop-i-init c =
    let a = c.args in
    let p = c.requires.2 in
    (refl, refl, c.requires.1, (p.0, p.1, frames_start p.0 a.w _ a.from.count refl p.2), (λ C e. bound_start C a.w _ a.v _ refl))

pub bind_entry-b-requires : goal.bind_entry-b-requires
bind_entry-b-requires c =
    let a = c.args in
    let l = c.loop-i in
    let p = c.loop-i.invariant.3 in
    let h : l.i < count_of a.w = omega (arith, c.loop-i-test.true, c.count_of-i-end.ensures) in
    let e = entry_of p.0 a.w a.fields.now p.1 l.i _ h refl in
    (search rules, omega arith, l.invariant.2, frames_here p.0 a.w _ l.i l.b.count p.2 (entry_in a.fields.now l.i) e h)

pub loop-i-preserved : goal.loop-i-preserved
loop-i-preserved c =
    let a = c.args in
    let l = c.loop-i in
    let p = c.loop-i.invariant.3 in
    let x = entry_in a.fields.now l.i in
    let h : l.i < count_of a.w = omega (arith, c.loop-i-test.true, c.count_of-i-end.ensures) in
    let m = c.bind_entry-b.ensures in (
      search rules,
      m.0.memory.rest ∙ l.invariant.1,
      m.1,
      (p.0, p.1, frames_on p.0 a.w _ l.i l.b.count p.2 x l.rest _ _ l.b _ (entry_of p.0 a.w a.fields.now p.1 l.i x h refl) h refl m.0),
      λ C e. l.invariant.4 C e ∙ bound_on C a.w _ l.i x l.rest _ _ _ l.b _ (entry_of C a.w a.fields.now e l.i x h refl) h c.rest_of-behind.ensures m.0,
    )

pub bind_rest-requires : goal.bind_rest-requires
bind_rest-requires c =
    let a = c.args in
    let l = c.loop-i in
    let p = c.loop-i.invariant.3 in
    let h : count_of a.w ≤ l.i = omega (arith, c.loop-i-test.false, c.count_of-i-end.ensures) in
    (search rules, l.invariant.2, (p.0, p.1, frames_left p.0 a.w _ l.i l.b.count p.2 h))

pub returns : goal.returns
returns c =
    let a = c.args in
    let l = c.loop-i in
    let m = c.bind_rest.ensures in
    let h : count_of a.w ≤ l.i = omega (arith, c.loop-i-test.false, c.count_of-i-end.ensures) in
    ((λ C e. bound_done C a.w _ l.i _ l.rest a.work.now _ _ l.b _ h (l.invariant.4 C e) l.invariant.1 (m.0 C e)), m.1)
