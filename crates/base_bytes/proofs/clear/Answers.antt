use mathlib.Core.Path.{ap, ◌∙◌}
use mathlib.Core.List.{◌++◌}
use lib.ListN.{drop, replicate}
use Rattle.std.proofs.lemmas.List.{length-take-le}
use Rattle.base_bytes.specs.Bytes.{cleared}
use Rattle.base_bytes.proofs.clear.Goals as goal

pub returns : goal.returns
unfolding cleared
returns c =
    let a = c.args.area.now in
    ap (λ xs. xs ++ drop c.args.n a) (c.fill.ensures.after (λ y e. e) ∙ ap (λ k. replicate k 0) (length-take-le c.args.n a c.requires))
