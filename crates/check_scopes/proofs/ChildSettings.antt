-- Where the children of a term stand, from the numbers that are read.
use Prim.Native.Nat.{ℕ, zero, suc, ◌+◌, ◌*◌, ◌<◌}
use native.Mathlib.Omega.{arith}
use native.Mathlib.Numerals.{add-one}
use mathlib.Core.Path.{◌≡◌, refl, sym, ap, ◌∙◌}
use mathlib.Core.Bool.{true, false, ◌||◌}
use mathlib.Core.List.{List, [], ◌∷◌}
use lib.ListN.{length, get_or, set, length-set}
use lib.Seq.{get_or-set_same, take-set-le}
use lib.Dec.{lit<}
use Rattle.calculus.specs.Syntax.{no_method, Ty, Sigs, method}
use Rattle.calculus.specs.Typing.{Has, has_first, has_later}
use Rattle.calculus.specs.Plain.{dom_of, methods_of, method_dom}
use Rattle.image.specs.Bytes.{words}
use Rattle.image.specs.Kinds.{Body, here, function_body, advice_body, split_body, lower_body, object_body, match_body, TypeKind, TermKind, term_row, bodies, body_of}
use Rattle.image.specs.Layout.{records_of}
use Rattle.image.specs.Types.{type_fields, type_field, method_count, is_type, methods_out, type_out, type_of}
use Rattle.laws.proofs.Booleans.{no_path, or_false_l, or_false_r, eq_of}
use Rattle.laws.proofs.Tests.{each}
use Rattle.image.proofs.EveryKind.{every_of, at_term, or_else}
use Rattle.image.proofs.Offsets.{side_by_side}
use Rattle.image.proofs.TypeNumbers.{out_as}
use Rattle.verdict.specs.Settings.{Setting}
use Rattle.verdict.specs.Check.{described}
use Rattle.verdict.proofs.Methods.{has_method, method_fields_lem}
use Rattle.read_records.specs.Heads.{field_in}
use Rattle.read_records.specs.Descriptors.{descriptor_field0, descriptor_field1}
use Rattle.read_terms.specs.Lent.{Types, Lent, TypeOffsets, IsType, IsObject}
use Rattle.check_rules.specs.Scopes.{context_in, setting_in}
use Rattle.read_terms.specs.Fields.{count_in, types_in}
use Rattle.read_terms.proofs.Descriptors.{unpacked, describes}
use Rattle.read_terms.proofs.Located.{good_of}
use Rattle.check_rules.proofs.Scopes.{context_kept}
use Rattle.check_rules.proofs.Methods.{bodies_counted}
use Rattle.check_rules.proofs.OnDescriptors.{own_descriptor, type_at_field, descriptor_at_field, at_field_typed}
use Rattle.check_scopes.specs.Scopes.{elsewhere, any_elsewhere, moves_child, Passed, ChildAt}

-- One variable more.
pub bound_context : (scope : List ℕ) (len v : ℕ) → len < length scope → context_in (set scope len v) (len + 1) ≡ v ∷ context_in scope len
unfolding context_in
bound_context scope len v h =
    let a : get_or (set scope len v) len 0 ≡ v = get_or-set_same scope len v 0 h in
    let k : context_in (set scope len v) len ≡ context_in scope len = context_kept (set scope len v) scope len (take-set-le len scope len v (omega arith)) in
    rw (add-one len, a, k)

-- Where no child stands elsewhere, each stands where the term does, and they stand side by side.
all_here : (bs : List Body) (d : Body) (i : ℕ) → any_elsewhere bs ≡ false → d ≡ here → get_or bs i d ≡ here
all_here [] d i h e = e
all_here (b ∷ bs) d zero h e = stays b (or_false_l (elsewhere b) (any_elsewhere bs) h)
  where
    stays : (x : Body) → elsewhere x ≡ false → x ≡ here
    stays here q = refl
    stays function_body q = no_path q
    stays advice_body q = no_path q
    stays split_body q = no_path q
    stays lower_body q = no_path q
    stays object_body q = no_path q
    stays match_body q = no_path q
all_here (b ∷ bs) d (suc i) h e = all_here bs d i (or_false_r (elsewhere b) (any_elsewhere bs) h) e

pub stays_here : (k : TermKind) → moves_child k ≡ false → (i : ℕ) → body_of k i ≡ here
stays_here k h i =
    let first : List Body = bodies (term_row k).first in
    let group : List Body = bodies (term_row k).group in
    all_here first (get_or group 0 here) i (or_false_l (any_elsewhere first) (any_elsewhere group) h) (all_here group here 0 (or_false_r (any_elsewhere first) (any_elsewhere group) h) refl)

pub stays_side : (k : TermKind) → moves_child k ≡ false → side_by_side k ≡ true
unfolding every_of
stays_side k h = or_else (moves_child k) (side_by_side k) (at_term (λ k. moves_child k || side_by_side k) refl k) (λ e. no_path (sym e ∙ h))

module _ {b descriptors : List ℕ} (T : Types b descriptors) {t : ℕ} (h : IsType b t) where
  -- What its descriptor says of a type's fields.
  pub part_is : (i : ℕ) → type_field (records_of b) t i ≡ (unpacked (records_of b) t (get_or descriptors t 0)).part i
  part_is i = ap (λ d. d.part i) (describes T h)

  -- The domain that a function's type names, and an advice's.
  function_domain : is_type (records_of b) TypeKind.fun t ≡ true → dom_of (type_of (records_of b) t) ≡ type_field (records_of b) t 1
  unfolding type_out
  function_domain e = ap dom_of (out_as (records_of b) (good_of b T.laid_out) TypeKind.fun t h e)

  advice_domain : is_type (records_of b) TypeKind.adv t ≡ true → dom_of (type_of (records_of b) t) ≡ type_field (records_of b) t 0
  unfolding type_out
  advice_domain e = ap dom_of (out_as (records_of b) (good_of b T.laid_out) TypeKind.adv t h e)

settings_alike : {Γ Δ : List ℕ} {d e : ℕ} → Γ ≡ Δ → d ≡ e → ◌≡◌ {A = Setting ℕ} (record { context = Γ; dom = d }) (record { context = Δ; dom = e })
settings_alike p q = cc

-- The body of a function.
module _ {b descriptors fs scope : List ℕ} {len c : ℕ} (T : Types b descriptors) (P : Passed b fs TermKind.fun scope len c) where
  function_type : is_type (records_of b) TypeKind.fun (field_in fs 0) ≡ true
  function_type = (each _ P.fits).0

  pub function_at : ChildAt b fs TermKind.fun 0 scope (set scope len (descriptor_field0 (own_descriptor descriptors fs))) len c (len + 1) (descriptor_field1 (own_descriptor descriptors fs))
  function_at =
      let r = P.capacity in
      let l = P.places in
      let x : type_field (records_of b) (field_in fs 0) 0 ≡ descriptor_field0 (own_descriptor descriptors fs) = part_is T P.typed.type 0 in
      let y : type_field (records_of b) (field_in fs 0) 1 ≡ descriptor_field1 (own_descriptor descriptors fs) = part_is T P.typed.type 1 in
      let d = function_domain T P.typed.type function_type in
      record {
        stands = settings_alike (bound_context scope len (descriptor_field0 (own_descriptor descriptors fs)) (omega arith) ∙ ap (λ a. a ∷ context_in scope len) (sym x)) (sym y ∙ sym d);
        kept = take-set-le len scope len (descriptor_field0 (own_descriptor descriptors fs)) (omega arith);
        same = length-set scope len (descriptor_field0 (own_descriptor descriptors fs));
        grown = omega arith;
        little = omega arith;
      }

-- The body of an advice.
module _ {b terms descriptors fs scope : List ℕ} {len c : ℕ} (G : Lent b terms descriptors) (P : Passed b fs TermKind.adv scope len c) where
  advice_type : is_type (records_of b) TypeKind.adv (field_in fs 0) ≡ true
  advice_type = (each _ P.fits).0

  pub advice_at : ChildAt b fs TermKind.adv 1 scope (set scope len (descriptor_field0 (descriptor_at_field b descriptors fs 1))) len c (len + 1) (descriptor_field0 (own_descriptor descriptors fs))
  unfolding words
  advice_at =
      let r = P.capacity in
      let l = P.places in
      let x : type_field (records_of b) (type_at_field b fs 1) 0 ≡ descriptor_field0 (descriptor_at_field b descriptors fs 1) = part_is G.types (at_field_typed G (P.children 0 (lit< tt))) 0 in
      let y : type_field (records_of b) (field_in fs 0) 0 ≡ descriptor_field0 (own_descriptor descriptors fs) = part_is G.types P.typed.type 0 in
      let d = advice_domain G.types P.typed.type advice_type in
      record {
        stands = settings_alike (bound_context scope len (descriptor_field0 (descriptor_at_field b descriptors fs 1)) (omega arith) ∙ ap (λ a. a ∷ context_in scope len) (sym x)) (sym y ∙ sym d);
        kept = take-set-le len scope len (descriptor_field0 (descriptor_at_field b descriptors fs 1)) (omega arith);
        same = length-set scope len (descriptor_field0 (descriptor_at_field b descriptors fs 1));
        grown = omega arith;
        little = omega arith;
      }

-- The body of a split: the second part is the innermost variable.
module _ {b terms descriptors fs scope : List ℕ} {len c : ℕ} (G : Lent b terms descriptors) (P : Passed b fs TermKind.split scope len c) where
  pair_there : IsType b (type_at_field b fs 1)
  pair_there = at_field_typed G (P.children 0 (lit< tt))

  pub split_at : ChildAt b fs TermKind.split 1 scope (set (set scope len (descriptor_field0 (descriptor_at_field b descriptors fs 1))) (len + 1) (descriptor_field1 (descriptor_at_field b descriptors fs 1))) len c (len + 2) c
  unfolding words
  split_at =
      let r = P.capacity in
      let l = P.places in
      let first : ℕ = descriptor_field0 (descriptor_at_field b descriptors fs 1) in
      let second : ℕ = descriptor_field1 (descriptor_at_field b descriptors fs 1) in
      let s : List ℕ = set scope len first in
      let m = length-set scope len first in
      let x : type_field (records_of b) (type_at_field b fs 1) 0 ≡ first = part_is G.types pair_there 0 in
      let y : type_field (records_of b) (type_at_field b fs 1) 1 ≡ second = part_is G.types pair_there 1 in
      let two : len + 2 ≡ len + 1 + 1 = omega arith in
      let inner : context_in (set s (len + 1) second) (len + 1 + 1) ≡ second ∷ context_in s (len + 1) = bound_context s (len + 1) second (omega arith) in
      let outer : context_in s (len + 1) ≡ first ∷ context_in scope len = bound_context scope len first (omega arith) in
      record {
        stands = ap (λ n. setting_in (set s (len + 1) second) n c) two ∙ settings_alike (inner ∙ cc) refl;
        kept = take-set-le len s (len + 1) second (omega arith) ∙ take-set-le len scope len first (omega arith);
        same = length-set s (len + 1) second ∙ m;
        grown = omega arith;
        little = omega arith;
      }

-- The body of a method (card 3).
has_domain : {p : ℕ} {a : Ty} (ms : Sigs) (m : ℕ) → Has p a ms m → method_dom ms m ≡ p
has_domain no_method m h = elim h [ ]
has_domain (method p a ms) zero has_first = refl
has_domain (method q a ms) (suc m) (has_later h) = has_domain ms m h

module _ {b table fs scope : List ℕ} {len c i : ℕ} (T : TypeOffsets b table) (P : Passed b fs TermKind.obj scope len c) (l : i < count_in fs TermKind.obj) where
  abbrev own : ℕ
  own = field_in fs 0

  pub object_is : IsObject b own
  object_is = record { there = P.typed.type; object = (each _ P.fits).0 }

  pub method_there : i < method_count (records_of b) own
  method_there =
      let n : length (described (records_of b) (types_in b fs TermKind.obj)) ≡ method_count (records_of b) own = eq_of (each _ P.fits).1.0 in
      let m = bodies_counted b fs in
      omega arith

  pub object_small : own < 256
  object_small = let f = (good_of b T.laid_out).few_types in let h = P.typed.type in omega arith

  method_domain_lem : method_dom (methods_of (type_of (records_of b) own)) i ≡ type_field (records_of b) own (2 * i)
  unfolding type_out
  method_domain_lem =
      let L = records_of b in
      let good = good_of b T.laid_out in
      let O = object_is in
      ap (λ t. method_dom (methods_of t) i) (out_as L good TypeKind.obj own O.there O.object)
      ∙ has_domain (methods_out (type_fields L own) (λ a. type_of L a)) i (has_method (λ a. type_of L a) (method_count L own) (type_fields L own) (method_fields_lem L good own O.there O.object) i method_there)

  pub object_at : ChildAt b fs TermKind.obj i scope (set scope len own) len c (len + 1) (type_field (records_of b) own (2 * i))
  object_at =
      let r = P.capacity in
      let p = P.places in
      record {
        stands = settings_alike (bound_context scope len own (omega arith)) (sym method_domain_lem);
        kept = take-set-le len scope len own (omega arith);
        same = length-set scope len own;
        grown = omega arith;
        little = omega arith;
      }

-- The body of a lower.
pub lower_at : (b fs scope : List ℕ) (len c : ℕ) → ChildAt b fs TermKind.lower 0 scope scope len c len (field_in fs 1)
unfolding words
lower_at b fs scope len c = record { stands = refl; kept = refl; same = refl; grown = omega arith; little = omega arith }

-- Any other child stands where the term does.
module _ (b fs scope : List ℕ) (len c i : ℕ) where
  pub here_at : (k : TermKind) → body_of k i ≡ here → ChildAt b fs k i scope scope len c len c
  here_at k e = record { stands = rw e refl; kept = refl; same = refl; grown = omega arith; little = omega arith }
