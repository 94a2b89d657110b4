-- `read_terms::terms::term_place` meets its contract.
use native.Mathlib.Omega.{arith}
use mathlib.Core.Path.{◌∙◌}
use Rattle.read_terms.proofs.Located.{in_table, place_is, inside, long_enough_lem}
use Rattle.read_terms.proofs.terms.term_place.Goals as goal

pub returns : goal.returns
returns c =
    let e = c.term_offset.ensures ∙ place_is c.requires.0 c.requires.1 in
    let i = inside c.requires.0 c.requires.1 in
    let l = long_enough_lem c.requires.0 c.requires.1 in
    (e, omega arith)

pub term_offset-requires : goal.term_offset-requires
term_offset-requires c = in_table c.requires.0 c.requires.1
