-- `read_terms::terms::child_of` meets its contract: the children of any kind but a match stand side by side.
use borrow.Author.Rules.{rules}
use Prim.Native.Nat.{ℕ, ◌<◌}
use native.Mathlib.Omega.{arith}
use mathlib.Core.Path.{◌≡◌, sym, ap, ◌∙◌}
use mathlib.Core.Logic.{⊎_elim}
use mathlib.Core.Bool.{true}
use mathlib.Core.List.{List}
use lib.ListN.{get_or}
use Rattle.image.specs.Kinds.{TermKind, term_row}
use Rattle.image.proofs.KindNumbers.{same_term_kind}
use Rattle.image.proofs.Offsets.{side_by_side, side_or_match}
use Rattle.read_terms.specs.Fields.{children_in, count_in, HasChild}
use Rattle.read_terms.proofs.Counts.{children_counted}
use Rattle.read_terms.proofs.terms.child_of.Goals as goal

among : (fs : List ℕ) (k : TermKind) (j : ℕ) → ((term_row k).number ≡ (term_row TermKind.match).number → ⊥) → HasChild fs k j → j < count_in fs k
among fs k j n H =
    let side : side_by_side k ≡ true = ⊎_elim (λ s. s) (λ m. absurd (n (ap (λ i. (term_row i).number) m))) (side_or_match k) in
    let c = children_counted fs k side in
    let t = H.there in
    omega arith

pub overflow_add-lead : goal.overflow_add-lead
overflow_add-lead c =
    let m = among c.args.fields.now c.requires.0 c.args.j (λ e. c.if-kind-eq-MATCH.false (c.requires.1.0 ∙ e)) c.requires.1.2 in
    let l = c.requires.1.2.long in
    let e = c.requires.1.1 in
    search rules

pub child_at_field-requires : goal.child_at_field-requires
child_at_field-requires c =
    let m = among c.args.fields.now c.requires.0 c.args.j (λ e. c.if-kind-eq-MATCH.false (c.requires.1.0 ∙ e)) c.requires.1.2 in
    let l = c.requires.1.2.long in
    let e = c.requires.1.1 in
    omega arith

pub returns : goal.returns
returns c =
    let fs = c.args.fields.now in
    let H = c.requires.1.2 in
    let m = among fs c.requires.0 c.args.j (λ e. c.if-kind-eq-MATCH.false (c.requires.1.0 ∙ e)) H in
    λ k e.
    rw c.requires.1.1 at c.child_at_field.ensures ∙ (H.side m ∙ ap (λ i. get_or (children_in fs i) c.args.j 0) (same_term_kind c.requires.0 k (sym c.requires.1.0 ∙ e)))
