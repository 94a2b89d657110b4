-- `write_load::put_head` meets its contract.
use native.Mathlib.Omega.{arith}
use mathlib.Core.Path.{◌≡◌, ap, ◌∙◌}
use mathlib.Core.List.{[], ◌∷◌, ◌++◌}
use Rattle.base_bytes.specs.Bytes.{over}
use Rattle.base_bytes.proofs.Over.{onward}
use Rattle.image_written.specs.Records.{little}
use Rattle.image_written.proofs.Reading.{little_length}
use Rattle.write_sections.specs.Sections.{domain_bytes}
use Rattle.write_load.proofs.Whole.{domain_length, head_parts, head_length, front_length}
use borrow.Author.Rules.{rules}
use Rattle.write_load.proofs.put_head.Goals as goal

pub write_domains-behind_domain-requires : goal.write_domains-behind_domain-requires
write_domains-behind_domain-requires c =
    let n = head_length in
    let d = domain_length in
    let p = c.requires in
    omega arith

pub put_record-behind_unit-requires : goal.put_record-behind_unit-requires
put_record-behind_unit-requires c =
    let n = head_length in
    let w = c.write_domains-behind_domain in
    let e : w.result ≡ 6 = w.ensures.0 ∙ domain_length in
    let k = c.write_domains-behind_domain.auto.out in
    let p = c.requires in
    (search rules, omega arith)

pub put_record-requires : goal.put_record-requires
put_record-requires c =
    let n = head_length in
    let u = c.put_record-behind_unit in
    let w = c.write_domains-behind_domain in
    let e : w.result ≡ 6 = w.ensures.0 ∙ domain_length in
    let f = c.put_record-behind_unit.ensures.0 in
    let k = c.write_domains-behind_domain.auto.out in
    let l = c.put_record-behind_unit.auto.out in
    let p = c.requires in
    (search rules, omega arith)

pub returns : goal.returns
returns c =
    let a = c.args in
    let n = head_length in
    let p = c.requires in
    let w = c.write_domains-behind_domain in
    let u = c.put_record-behind_unit in
    let v = c.put_record in
    let e : w.result ≡ 6 = w.ensures.0 ∙ domain_length in
    let d = domain_length in
    let f = c.put_record-behind_unit.ensures.0 in
    let g = c.put_record.ensures.0 in
    let h = front_length in
    let x = little_length (4 ∷ 16 ∷ []) in
    let y = little_length (4 ∷ 18 ∷ []) in
    let two = onward (domain_bytes (1 ∷ [])) (little (4 ∷ 16 ∷ [])) a.out.now 0 w.result w.ensures.1 u.ensures.1 (omega arith) (omega arith) in (
      omega arith,
      onward (domain_bytes (1 ∷ []) ++ little (4 ∷ 16 ∷ [])) (little (4 ∷ 18 ∷ [])) a.out.now 0 u.result two v.ensures.1 (omega arith) (omega arith)
          ∙ ap (λ bs. over 0 bs a.out.now) head_parts,
    )
