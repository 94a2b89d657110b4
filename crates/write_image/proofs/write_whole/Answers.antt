-- `write_image::write_whole` meets its contract.
use Prim.Native.Nat.{ℕ, ◌+◌, ◌-◌}
use native.Mathlib.Omega.{arith}
use mathlib.Core.Path.{◌≡◌, refl, sym, ap, subst, ◌∙◌}
use mathlib.Core.List.{List, []}
use lib.ListN.{length}
use Rattle.image.specs.Layout.{records_of}
use Rattle.image.specs.Types.{root_of}
use Rattle.image.specs.Program.{program}
use Rattle.verdict.specs.Domains.{masks}
use Rattle.base_bytes.specs.Bytes.{over}
use Rattle.image_written.specs.Table.{entered, types_in, table_of}
use Rattle.image_written.proofs.Sums.{weight}
use Rattle.image_written.proofs.Sizes.{term_size}
use Rattle.image_written.proofs.Fronts.{tree_at}
use Rattle.write_types.specs.Entries.{TableOf, entries_of, types_of, Placed}
use Rattle.write_types.proofs.Entering.{entries_placed}
use Rattle.write_sections.specs.Sections.{domain_bytes, type_bytes}
use Rattle.write_program.specs.Writing.{Wrote}
use Rattle.write_image.proofs.Assembled.{few, no_entries, all_entries, domains_fit, types_fit, terms_fit, whole}
use Rattle.write_image.proofs.write_whole.Goals as goal

pub root_of-root-requires : goal.root_of-root-requires
root_of-root-requires c =
    let b : List ℕ = c.args.image.now in
    let A = c.requires.3.laid_out in
    let m = c.requires.5.has_terms in
    let k = c.requires.4.terms in
    let f = (few b A m).1 in
    (omega arith, omega arith)

pub enter_term-requires : goal.enter_term-requires
enter_term-requires c =
    let b : List ℕ = c.args.image.now in
    let A = c.requires.3.laid_out in
    let m = c.requires.5.has_terms in
    let k = c.requires.4.terms in
    let r : c.root_of-root.result.0 ≡ root_of (records_of b) = c.root_of-root.ensures ∙ ap (λ q. q - 1) k in
    (c.requires.0, c.requires.2, c.requires.3, subst (λ T. TableOf b T) (sym c.empty-table.ensures) (no_entries b A m _ _ refl refl), omega arith)

pub keep_domains-behind_domains-requires : goal.keep_domains-behind_domains-requires
keep_domains-behind_domains-requires c =
    let b : List ℕ = c.args.image.now in
    let A = c.requires.3.laid_out in
    let m = c.requires.5.has_terms in
    let k = c.requires.4.terms in
    (c.requires.1, c.requires.4.domains, domains_fit b A m (length c.args.out.now) c.requires.5.capacity)

pub write_types-behind_types-requires : goal.write_types-behind_types-requires
write_types-behind_types-requires c =
    let b : List ℕ = c.args.image.now in
    let A = c.requires.3.laid_out in
    let m = c.requires.5.has_terms in
    let k = c.requires.4.terms in
    let r : c.root_of-root.result.0 ≡ root_of (records_of b) = c.root_of-root.ensures ∙ ap (λ q. q - 1) k in
    let N = c.enter_term in
    let E : entries_of b N.result c.enter_term.new.order ≡ table_of (program (records_of b)) = all_entries b A m N.result c.enter_term.new.order (N.ensures.1 ∙ ap (λ T. entered (types_of b T) (types_in (tree_at (records_of b) c.root_of-root.result.0))) c.empty-table.ensures ∙ ap (λ j. entered [] (types_in (tree_at (records_of b) j))) r) in
    let w = c.keep_domains-behind_domains in
    let d = c.keep_domains-behind_domains.ensures.0 in
    let o = c.keep_domains-behind_domains.auto.out in
    let l = ap (λ X. length (type_bytes X)) E in
    let t = types_fit b A m (length c.args.out.now) c.requires.5.capacity in
    (c.requires.0, c.requires.2, N.ensures.0, omega arith)

pub write_term-requires : goal.write_term-requires
write_term-requires c =
    let b : List ℕ = c.args.image.now in
    let A = c.requires.3.laid_out in
    let m = c.requires.5.has_terms in
    let k = c.requires.4.terms in
    let r : c.root_of-root.result.0 ≡ root_of (records_of b) = c.root_of-root.ensures ∙ ap (λ q. q - 1) k in
    let N = c.enter_term in
    let E : entries_of b N.result c.enter_term.new.order ≡ table_of (program (records_of b)) = all_entries b A m N.result c.enter_term.new.order (N.ensures.1 ∙ ap (λ T. entered (types_of b T) (types_in (tree_at (records_of b) c.root_of-root.result.0))) c.empty-table.ensures ∙ ap (λ j. entered [] (types_in (tree_at (records_of b) j))) r) in
    let w = c.keep_domains-behind_domains in
    let v = c.write_types-behind_types in
    let d = c.keep_domains-behind_domains.ensures.0 in
    let l = ap (λ X. length (type_bytes X)) E in
    let e = c.write_types-behind_types.ensures.0 in
    let o = c.write_types-behind_types.auto.out ∙ c.keep_domains-behind_domains.auto.out in
    let R = terms_fit b A m (length c.args.out.now) c.requires.5.capacity c.requires.5.few_terms (record { at = v.result; terms = 0 }) (omega arith) refl in
    (c.requires.0, c.requires.3, omega arith, N.ensures.0.enough_places, rw (r, o) R)

pub returns : goal.returns
returns c =
    let b : List ℕ = c.args.image.now in
    let A = c.requires.3.laid_out in
    let m = c.requires.5.has_terms in
    let k = c.requires.4.terms in
    let r : c.root_of-root.result.0 ≡ root_of (records_of b) = c.root_of-root.ensures ∙ ap (λ q. q - 1) k in
    let N = c.enter_term in
    let E : entries_of b N.result c.enter_term.new.order ≡ table_of (program (records_of b)) = all_entries b A m N.result c.enter_term.new.order (N.ensures.1 ∙ ap (λ T. entered (types_of b T) (types_in (tree_at (records_of b) c.root_of-root.result.0))) c.empty-table.ensures ∙ ap (λ j. entered [] (types_in (tree_at (records_of b) j))) r) in
    let w = c.keep_domains-behind_domains in
    let v = c.write_types-behind_types in
    let u = c.write_term in
    let d = c.keep_domains-behind_domains.ensures.0 in
    let l = ap (λ X. length (type_bytes X)) E in
    let e = c.write_types-behind_types.ensures.0 in
    let g = v.ensures.1 ∙ ap (λ q. over q (type_bytes (entries_of b N.result c.enter_term.new.order)) c.keep_domains-behind_domains.new.out) d ∙ ap (λ X. over (length (domain_bytes (masks (records_of b)))) (type_bytes X) c.keep_domains-behind_domains.new.out) E in
    let P = subst (λ X. Placed b c.enter_term.new.places X) E (entries_placed N.ensures.0) in
    let W = subst (λ j. Wrote b c.enter_term.new.places j (record { at = v.result; terms = 0 }) c.write_types-behind_types.new.out c.write_term.new.out) r u.ensures.2 in
    let z = whole b A m c.args.out.now (record { at = v.result; terms = 0 }) c.requires.5.capacity P (omega arith) refl w.ensures.1 g W in
    (u.ensures.0 ∙ ap (λ j. v.result + weight term_size (tree_at (records_of b) j)) r ∙ z.0, z.1)
