-- `write_sections::write_types` meets its contract.
use borrow.Author.Rules.{rules}
use Prim.Native.Nat.{ℕ, ◌+◌, ◌≤◌, ◌<◌}
use native.Mathlib.Omega.{arith}
use mathlib.Core.Path.{◌≡◌, sym, ap, subst, ◌∙◌}
use mathlib.Core.List.{List, map}
use lib.ListN.{length, get_or}
use lib.Seq.{get_or-take, length-take-le}
use Rattle.image_written.specs.Records.{Record}
use Rattle.image_written.specs.Written.{type_record}
use Rattle.write_types.specs.declared.TypeTable.{TypeTable}
use Rattle.write_types.specs.Entries.{types_of}
use Rattle.write_types.proofs.Entering.{entries_placed}
use Rattle.write_sections.specs.Sections.{type_size, WroteType}
use Rattle.write_sections.proofs.Firsts.{firsts_none, record_fits, come_more, over_more, number_is, type_at, type_size_lem, parts_in}
use Rattle.write_sections.proofs.write_types.Goals as goal

-- The records of the types of the table.
abbrev records : List ℕ → TypeTable → List Record
records b T = map (λ t. type_record (types_of b T) t) (types_of b T)

pub loop-t-init : goal.loop-t-init
loop-t-init c = firsts_none (records c.args.image.now c.args.table.now) c.args.start c.args.out.now

pub write_type-at-requires : goal.write_type-at-requires
write_type-at-requires c =
    let i = c.loop-t in
    let E = c.requires.2 in
    let T = c.args.table.now in
    let s = length-take-le T.count T.order E.few in
    let n = ap length c.entries-t-items.ensures in
    let l : i.t-index < T.count = search rules in
    let e = type_at E i.t-index l in
    let z = type_size_lem E i.t-index l in
    let r = record_fits (records c.args.image.now T) c.args.start i.t-index i.at e.0 _ e.1 i.invariant.0 {n = length c.args.out.now} c.requires.3 in
    let m : i.at + type_size c.args.image.now (get_or T.order i.t-index 0) ≤ length i.out = omega arith in
    let t : get_or c.entries-t-items.result.now i.t-index 0 ≡ get_or T.order i.t-index 0 = ap (λ ts. get_or ts i.t-index 0) c.entries-t-items.ensures ∙ get_or-take T.count T.order i.t-index 0 l in
    (c.requires.0, c.requires.1, rw t (number_is E i.t-index l), E.enough_places, rw t m)

pub loop-t-preserved : goal.loop-t-preserved
loop-t-preserved c =
    let i = c.loop-t in
    let w = c.write_type-at in
    let E = c.requires.2 in
    let T = c.args.table.now in
    let s = length-take-le T.count T.order E.few in
    let n = ap length c.entries-t-items.ensures in
    let l : i.t-index < T.count = search rules in
    let rs : List Record = records c.args.image.now T in
    let e = type_at E i.t-index l in
    let z = type_size_lem E i.t-index l in
    let t : get_or c.entries-t-items.result.now i.t-index 0 ≡ get_or T.order i.t-index 0 = ap (λ ts. get_or ts i.t-index 0) c.entries-t-items.ensures ∙ get_or-take T.count T.order i.t-index 0 l in
    let W = subst (λ t. WroteType c.args.image.now T.places t i.at i.out c.write_type-at.new.out) t w.ensures.1 in (
      come_more rs c.args.start i.t-index i.at e.0 _ e.1 i.invariant.0 w.result (w.ensures.0 ∙ ap (λ t. i.at + type_size c.args.image.now t) t ∙ ap (λ q. i.at + q) (sym z)),
      over_more rs c.args.start i.t-index i.at e.0 _ e.1 i.invariant.0 c.args.out.now c.requires.3 i.invariant.1 (W.over_table (types_of c.args.image.now T) (entries_placed E) (parts_in E i.t-index l)),
    )
