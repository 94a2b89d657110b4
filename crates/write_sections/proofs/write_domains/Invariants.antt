-- `write_sections::write_domains` meets its contract.
use Prim.Native.Nat.{◌+◌}
use mathlib.Core.Path.{◌≡◌}
use mathlib.Core.List.{List, map}
use lib.ListN.{length}
use Rattle.base_bytes.specs.Bytes.{over}
use Rattle.image_written.specs.Records.{Record}
use Rattle.image_written.specs.Written.{domain_record}
use Rattle.write_sections.proofs.Firsts.{firsts}
use Rattle.write_sections.proofs.write_domains.Given as goal

abbrev pub invariant-loop-mask : goal.invariant-loop-mask
invariant-loop-mask l =
    let rs : List Record = map (λ m. domain_record m) l.masks in
    (l.at ≡ 0 + length (firsts rs l.mask-index)) × (l.out ≡ over 0 (firsts rs l.mask-index) l.initial.out)
