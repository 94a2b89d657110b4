-- The domain that a type names is one of the image's, and so are those of its methods (card 3).
use Prim.Native.Nat.{ℕ, zero, suc, ◌<◌}
use native.Mathlib.Omega.{arith}
use mathlib.Core.Path.{◌≡◌, refl}
use mathlib.Core.List.{List, [], ◌∷◌}
use lib.ListN.{length, get_or}
use Rattle.calculus.specs.Syntax.{Ty}
use Rattle.calculus.specs.Plain.{dom_of, methods_of, method_dom}
use Rattle.image.specs.Limits.{domain_limit}
use Rattle.image.specs.Kinds.{a_domain, free, TypeKind, type_row_of}
use Rattle.image.specs.Bytes.{length_at}
use Rattle.image.specs.Records.{Layout, times, fields_at}
use Rattle.image.specs.Types.{type_place, type_kind, type_fields, methods_out, type_out, type_of}
use Rattle.image.proofs.Laid.{LayoutOk}
use Rattle.image.proofs.TypeNumbers.{method_fields, type_out_lem}
use Rattle.image.proofs.Words.{words_length}

out_domain : (m : ℕ) → 0 < m → (b : List ℕ) (o : ℕ) (k : TypeKind) (vs : List ℕ) (g : ℕ → Ty) → ((i : ℕ) → get_or (fields_at b o (type_row_of k)) i free ≡ a_domain → get_or vs i 0 < m) → dom_of (type_out k vs g) < m
unfolding type_out
out_domain m l b o TypeKind.unit vs g h = l
out_domain m l b o TypeKind.truth vs g h = l
out_domain m l b o TypeKind.number vs g h = l
out_domain m l b o TypeKind.pair vs g h = l
out_domain m l b o TypeKind.fun vs g h = h 1 refl
out_domain m l b o TypeKind.ref vs g h = h 1 refl
out_domain m l b o TypeKind.label vs g h = h 1 refl
out_domain m l b o TypeKind.pcd vs g h = h 1 refl
out_domain m l b o TypeKind.adv vs g h = h 0 refl
out_domain m l b o TypeKind.obj vs g h = l
out_domain m l b o TypeKind.stack vs g h = l

-- For a caller whose domains are numbers below 16.
pub type_domain : (L : Layout) → LayoutOk L → (t : ℕ) → t < length L.types → dom_of (type_of L t) < domain_limit
type_domain L good t l =
    let ok = good.types t l in
    let few = good.few_domains in
    rw (type_out_lem L good t l)
    (out_domain domain_limit (omega arith) L.image (type_place L t) (type_kind L t) (type_fields L t) (λ a. type_of L a) (λ i e. let z = ok.domained i e in omega arith))

methods_domain : (m : ℕ) → 0 < m → (c : ℕ) (vs : List ℕ) (g : ℕ → Ty) → length vs ≡ length (method_fields c) → ((i : ℕ) → get_or (method_fields c) i free ≡ a_domain → get_or vs i 0 < m)
    → (j : ℕ) → method_dom (methods_out vs g) j < m
methods_domain m l c [] g n h j = l
methods_domain m l c (p ∷ []) g n h j = l
methods_domain m l zero (p ∷ a ∷ vs) g n h j = absurd (omega arith)
methods_domain m l (suc c) (p ∷ a ∷ vs) g n h zero = h 0 refl
methods_domain m l (suc c) (p ∷ a ∷ vs) g n h (suc j) = methods_domain m l c vs g (omega arith) (λ i. h (suc (suc i))) j

out_methods : (m : ℕ) → 0 < m → (b : List ℕ) (o : ℕ) (k : TypeKind) (vs : List ℕ) (g : ℕ → Ty) → length vs ≡ length (fields_at b o (type_row_of k))
    → ((i : ℕ) → get_or (fields_at b o (type_row_of k)) i free ≡ a_domain → get_or vs i 0 < m) → (j : ℕ) → method_dom (methods_of (type_out k vs g)) j < m
unfolding type_out
out_methods m l b o TypeKind.unit vs g n h j = l
out_methods m l b o TypeKind.truth vs g n h j = l
out_methods m l b o TypeKind.number vs g n h j = l
out_methods m l b o TypeKind.pair vs g n h j = l
out_methods m l b o TypeKind.fun vs g n h j = l
out_methods m l b o TypeKind.ref vs g n h j = l
out_methods m l b o TypeKind.label vs g n h j = l
out_methods m l b o TypeKind.pcd vs g n h j = l
out_methods m l b o TypeKind.adv vs g n h j = l
out_methods m l b o TypeKind.obj vs g n h j = methods_domain m l (times (type_row_of TypeKind.obj) (length_at b o)) vs g n h j
out_methods m l b o TypeKind.stack vs g n h j = l

pub method_domain_lem : (L : Layout) → LayoutOk L → (t : ℕ) → t < length L.types → (j : ℕ) → method_dom (methods_of (type_of L t)) j < domain_limit
method_domain_lem L good t l j =
    let ok = good.types t l in
    let few = good.few_domains in
    rw (type_out_lem L good t l)
    (out_methods domain_limit (omega arith) L.image (type_place L t) (type_kind L t) (type_fields L t) (λ a. type_of L a) (words_length L.image _ _) (λ i e. let z = ok.domained i e in omega arith) j)
