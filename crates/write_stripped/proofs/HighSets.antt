-- Whether a mask is a set of high domains, by a table of the domains' masks.
use Prim.Native.Nat.{ℕ}
use mathlib.Core.Path.{◌≡◌, sym, ap, ◌∙◌}
use mathlib.Core.Bool.{not, ◌&&◌, ◌||◌}
use mathlib.Core.List.{List}
use lib.ListN.{length}
use lib.Dec.{leb}
use Rattle.calculus.specs.Syntax.{Dom}
use Rattle.image.specs.Limits.{domain_limit}
use Rattle.image.specs.Layout.{records_of}
use Rattle.verdict.specs.Domains.{leq}
use Rattle.read_terms.specs.Lent.{Masks}
use Rattle.read_terms.specs.Masks.{bit_of}
use Rattle.read_terms.proofs.Masks.{order_is}
use Rattle.laws.proofs.Tests.{any_same}
use Rattle.write_masks.specs.Masks.{in_mask}
use Rattle.write_masks.specs.Masks.{wrong_by}
use Rattle.write_stripped.specs.Calls.{wrong_set}

-- The table of masks tells the order of the domains.
pub wrong_is : (b table : List ℕ) → Masks b table → (mask count : ℕ) → count ≡ length (records_of b).domains → wrong_by (bit_of table) count mask ≡ wrong_set (records_of b) mask
wrong_is b table M mask count e =
    ap (λ n. wrong_by (bit_of table) n mask) e ∙
    ap (λ t. not (in_mask mask 0) || t)
    (any_same domain_limit _ _ (λ d. ap (λ t. in_mask mask d && (leb (length (records_of b).domains) d || t)) (any_same domain_limit _ _ (λ q. ap (λ t. t && not (in_mask mask q)) (bit d q)))))
  where
    bit : (d q : Dom) → bit_of table d q ≡ leq (records_of b) d q
    bit d q = sym (order_is b table M d q)
