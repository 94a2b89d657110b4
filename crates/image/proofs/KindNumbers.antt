-- Kinds by their numbers.
use mathlib.Core.Path.{◌≡◌, refl, sym, ap, ◌∙◌}
use mathlib.Core.Option.{some}
use Rattle.image.specs.Kinds.{TypeKind, TermKind, Kind, domain, type, term, term_row, row_of, kind_of, find}
use Rattle.image.specs.Types.{term_kind_of}

-- A kind is found by its number, so that it is the only one that has it.
pub found : (k : Kind) → kind_of (row_of k).number ≡ some k
unfolding find
found domain = refl
found (type TypeKind.unit) = refl
found (type TypeKind.truth) = refl
found (type TypeKind.number) = refl
found (type TypeKind.pair) = refl
found (type TypeKind.fun) = refl
found (type TypeKind.ref) = refl
found (type TypeKind.label) = refl
found (type TypeKind.pcd) = refl
found (type TypeKind.adv) = refl
found (type TypeKind.obj) = refl
found (type TypeKind.stack) = refl
found (term TermKind.unit) = refl
found (term TermKind.truth) = refl
found (term TermKind.number) = refl
found (term TermKind.var) = refl
found (term TermKind.seq) = refl
found (term TermKind.print) = refl
found (term TermKind.ite) = refl
found (term TermKind.pair) = refl
found (term TermKind.split) = refl
found (term TermKind.fun) = refl
found (term TermKind.app) = refl
found (term TermKind.arith) = refl
found (term TermKind.new_label) = refl
found (term TermKind.mark) = refl
found (term TermKind.pcd) = refl
found (term TermKind.adv) = refl
found (term TermKind.install) = refl
found (term TermKind.new_cell) = refl
found (term TermKind.read) = refl
found (term TermKind.store) = refl
found (term TermKind.lower) = refl
found (term TermKind.abort) = refl
found (term TermKind.byte) = refl
found (term TermKind.obj) = refl
found (term TermKind.call) = refl
found (term TermKind.stack) = refl
found (term TermKind.keep) = refl
found (term TermKind.match) = refl
found (term TermKind.takedown) = refl

pub same_kind : (j k : Kind) → (row_of j).number ≡ (row_of k).number → j ≡ k
same_kind j k e = let z : some j ≡ some k = sym (found j) ∙ ap (λ n. kind_of n) e ∙ found k in cc

pub same_term_kind : (j k : TermKind) → (term_row j).number ≡ (term_row k).number → j ≡ k
same_term_kind j k e = ap term_kind_of (same_kind (term j) (term k) e)
