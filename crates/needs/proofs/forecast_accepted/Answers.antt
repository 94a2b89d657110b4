use native.Mathlib.Omega.{arith}
use Rattle.image.specs.Layout.{records_of}
use Rattle.read_terms.proofs.Located.{good_of}
use Rattle.needs.proofs.Told.{outside_told, known_told}
use Rattle.needs.proofs.forecast_accepted.Goals as goal

pub overflow_cast-root : goal.overflow_cast-root
overflow_cast-root c =
    let few = (good_of c.args.image.now c.requires.0.terms.laid_out).few_terms in
    let some = c.requires.1 in
    let e = c.requires.2 in
    omega arith

pub overflow_cast-none : goal.overflow_cast-none
overflow_cast-none c =
    let few = (good_of c.args.image.now c.requires.0.terms.laid_out).few_terms in
    let some = c.requires.1 in
    let e = c.requires.2 in
    omega arith

pub term_place-requires : goal.term_place-requires
term_place-requires c =
    let e = c.requires.2 in
    let h = c.if-fault-none.true in
    (c.requires.0.terms, omega arith)

pub returns-then-fault-none : goal.returns-then-fault-none
returns-then-fault-none c =
    let few = (good_of c.args.image.now c.requires.0.terms.laid_out).few_terms in
    let some = c.requires.1 in
    let e = c.requires.2 in
    outside_told (records_of c.args.image.now) (omega arith) c.args.count c.lowest_fault-fault.result.0 e c.lowest_fault-fault.ensures c.if-fault-none.true c.term_place.result c.term_place.ensures.0

pub returns : goal.returns
returns c =
    let few = (good_of c.args.image.now c.requires.0.terms.laid_out).few_terms in
    let some = c.requires.1 in
    let e = c.requires.2 in
    known_told (records_of c.args.image.now) (omega arith) c.args.count c.lowest_fault-fault.result.0 e c.lowest_fault-fault.ensures c.if-fault-none.false c.program_needs.result c.program_needs.ensures
