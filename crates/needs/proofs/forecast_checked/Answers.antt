use borrow.Author.Rules.{rules}
use Prim.Native.Nat.{◌<◌}
use mathlib.Core.Path.{◌≡◌, sym, subst, ◌∙◌}
use Rattle.std.proofs.Common.{Err}
use Rattle.image_needs.specs.declared.Unforeseen.{Unforeseen}
use Rattle.needs.proofs.Told.{shallow_terms, refused_told, accepted_told, some_terms, lent_from}
use Rattle.needs.proofs.forecast_checked.Goals as goal

pub forecast_accepted-requires : goal.forecast_accepted-requires
forecast_accepted-requires c =
    let E = c.examine_image.ensures.0 in
    let t = c.in_ok-counts.was in
    let F = E.filled _ t in
    let n = F.counts.terms in
    (lent_from F, subst (λ c. 0 < c) (sym n) (some_terms c.args.image.now c.requires _ E.answer _ t), n, shallow_terms c.args.image.now c.requires _ E.answer _ t)

pub returns-in_err-counts : goal.returns-in_err-counts
returns-in_err-counts c =
    let u = c.in_err-counts.field-0.0 in
    let r : c.from_residual.result ≡ Err (Unforeseen.Refused u) = search rules in
    r ∙ refused_told c.args.image.now c.requires _ c.examine_image.ensures.0.answer u c.in_err-counts.was

pub returns : goal.returns
returns c =
    let t = c.in_ok-counts.was in
    accepted_told c.args.image.now c.requires _ c.examine_image.ensures.0.answer _ t c.forecast_accepted.result c.forecast_accepted.ensures
