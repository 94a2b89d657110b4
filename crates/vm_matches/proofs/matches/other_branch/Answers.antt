use mathlib.Core.Path.{refl}
use Rattle.vm_matches.proofs.Matching.{other_spent, other_made}
use Rattle.vm_matches.proofs.matches.other_branch.Goals as goal

pub returns-then-r-le-FUEL_BIAS : goal.returns-then-r-le-FUEL_BIAS
returns-then-r-le-FUEL_BIAS c =
    let a = c.args in
    λ image e. other_spent (record { code = a.code.now; image = image }) a.work.now a.work.now a.r _ a.w c.if-r-le-FUEL_BIAS.true c.halt.ensures

pub returns : goal.returns
returns c =
    let a = c.args in
    λ image e. other_made (record { code = a.code.now; image = image }) a.work.now _ a.r _ a.w c.if-r-le-FUEL_BIAS.false _ _ refl (c.branch_at-g.ensures image a.w e) (c.called-q.ensures image)
