-- Refusals 10, 11 and 12 (document 01, "Turned back at the gate") of a layout, each by itself, as the crate verdict defines them one after the other.
use Rattle.std.specs.Prelude.{not, [], ◌∷◌, length, get_or, leb}
use Rattle.image.specs.declared.Refusal.{Refusal}
use Rattle.image.specs.Limits.{depth_limit}
use Rattle.image.specs.Records.{Layout}
use Rattle.image.specs.Types.{domain_place, term_place, root_of}
use Rattle.verdict.specs.Answers.{require_from, in_turn, Verdict}
use Rattle.verdict.specs.Order.{at_fault}
use Rattle.verdict.specs.Shape.{used_once, depths}

module _ (L : Layout) where
  abbrev pub domains_ordered : Verdict
  domains_ordered = require_from (length L.domains) 0 Refusal.DomainOrder (λ d. domain_place L d) (λ d. not (at_fault L d))

  abbrev pub terms_used_once : Verdict
  terms_used_once = require_from (root_of L) 0 Refusal.UseCount (λ n. term_place L n) (λ n. used_once L n)

  abbrev pub no_term_deep : Verdict
  no_term_deep = require_from (length L.terms) 0 Refusal.TooDeep (λ n. term_place L n) (λ n. leb (get_or (depths L) n 0) depth_limit)

  -- The two of the terms in turn.
  abbrev pub terms_right : Verdict
  terms_right = in_turn ((λ u. terms_used_once) ∷ (λ u. no_term_deep) ∷ [])

  -- The three in turn.
  abbrev pub passes : Verdict
  passes = in_turn ((λ u. domains_ordered) ∷ (λ u. terms_used_once) ∷ (λ u. no_term_deep) ∷ [])
