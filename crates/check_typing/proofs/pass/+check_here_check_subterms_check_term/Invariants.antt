-- The recursion of the pass and its loops over the children of a term. The term number falls; or the same term is looked at, then its children.
-- In a loop the children before child j pass, and the first places of the scope are kept.
use Rattle.std.proofs.Common.{◌≡◌, ◌+◌, ◌*◌, length, take, Ok}
use Rattle.image.specs.Kinds.{TermKind, term_row}
use Rattle.check_rules.specs.Scopes.{setting_in}
use Rattle.read_terms.specs.Fields.{fields_of}
use Rattle.check_typing.proofs.TermPass.{front}
use Rattle.check_typing.proofs.pass.+check_here_check_subterms_check_term.Given as goal

abbrev pub decreases-check_subterms : goal.decreases-check_subterms
decreases-check_subterms l = 3 * l.n.0

abbrev pub decreases-check_here : goal.decreases-check_here
decreases-check_here l = 3 * l.n.0 + 1

abbrev pub decreases-check_term : goal.decreases-check_term
decreases-check_term l = 3 * l.n.0 + 2

abbrev pub invariant-check_here-loop-j : goal.invariant-check_here-loop-j
invariant-check_here-loop-j l =
    (length l.scope ≡ length l.initial.scope) × (take l.len l.scope ≡ take l.len l.initial.scope)
    × ((m : TermKind) → l.kind ≡ (term_row m).number → front l.image l.fields m (setting_in l.initial.scope l.len l.c.0) l.j ≡ Ok tt)

abbrev pub invariant-check_subterms-loop-j : goal.invariant-check_subterms-loop-j
invariant-check_subterms-loop-j l =
    (length l.scope ≡ length l.initial.scope) × (take l.here.len l.scope ≡ take l.here.len l.initial.scope)
    × ((m : TermKind) → l.kind ≡ (term_row m).number → front l.image (fields_of l.image l.n.0) m (setting_in l.initial.scope l.here.len l.here.dom.0) l.j ≡ Ok tt)
