-- Types bound one after another in a scope; and what the first branch of a match binds (card 6).
use Prim.Native.Nat.{ℕ, ◌+◌, ◌≤◌, ◌<◌}
use native.Mathlib.Omega.{arith}
use mathlib.Core.Path.{◌≡◌, refl, sym, ap, subst, ◌∙◌}
use mathlib.Core.Bool.{true, false}
use mathlib.Core.List.{List, [], ◌∷◌, ◌++◌, reverse_aux, append-nil}
use lib.ListN.{length, get_or, take, drop, set, length-set, length-append, length-map}
use lib.Seq.{take-take, take-set-le}
use lib.Dec.{ltb}
use Rattle.calculus.specs.Combinators.{choose}
use Rattle.image.specs.Limits.{entry_limit}
use Rattle.image.specs.Kinds.{an_entry, TermKind}
use Rattle.image.specs.Records.{Layout, as_child}
use Rattle.image.specs.Layout.{records_of}
use Rattle.image.specs.Program.{pattern_of}
use Rattle.image.specs.Types.{type_no, type_field}
use Rattle.verdict.specs.Settings.{match_binds}
use Rattle.verdict.specs.Check.{type_nos}
use Rattle.read_records.specs.Heads.{field_in}
use Rattle.read_records.proofs.Entries.{entries_left, next_left}
use Rattle.check_rules.specs.Scopes.{context_in, bind_limit}
use Rattle.read_terms.specs.Fields.{others_in, types_in, first_entry, entry_count, entry_terms}
use Rattle.read_terms.proofs.Matches.{match_children, close_told}
use Rattle.check_rules.proofs.OnDescriptors.{type_at_field}
use Rattle.check_scopes.specs.Scopes.{value_types, Binds, ChildAt}
use Rattle.check_scopes.proofs.ChildSettings.{bound_context}

-- What is kept of a scope is kept of its first places.
pub take_fewer : (m n : ℕ) (xs ys : List ℕ) → m ≤ n → take n xs ≡ take n ys → take m xs ≡ take m ys
take_fewer m n xs ys h e = sym (take-take m n xs h) ∙ ap (take m) e ∙ take-take m n ys h

reverse_append : (ts us Γ : List ℕ) → reverse_aux (ts ++ us) Γ ≡ reverse_aux us (reverse_aux ts Γ)
reverse_append [] us Γ = refl
reverse_append (t ∷ ts) us Γ = reverse_append ts us (t ∷ Γ)

pub values_append : (L : Layout) (es gs : List ℕ) → value_types L (es ++ gs) ≡ value_types L es ++ value_types L gs
values_append L [] gs = refl
values_append L (e ∷ es) gs = ap (λ ts. type_field L (type_no L e) 0 ∷ ts) (values_append L es gs)

pub values_length : (L : Layout) (es : List ℕ) → length (value_types L es) ≡ length es
values_length L es = length-map (type_nos L es) (λ a. type_field L a 0) ∙ length-map es (λ e. type_no L e)

-- None, one, and some behind others.
module _ (scope : List ℕ) (len : ℕ) where
  pub binds_none : Binds scope scope len len []
  binds_none = record { stands = refl; kept = refl; same = refl; used = omega arith }

  pub binds_one : (t : ℕ) → len < length scope → Binds scope (set scope len t) len (len + 1) (t ∷ [])
  binds_one t h = record { stands = bound_context scope len t h; kept = take-set-le len scope len t (omega arith); same = length-set scope len t; used = omega arith }

pub binds_more : {s₀ s₁ s₂ : List ℕ} {len m n : ℕ} {ts us : List ℕ} → Binds s₀ s₁ len m ts → Binds s₁ s₂ m n us → Binds s₀ s₂ len n (ts ++ us)
binds_more {s₀} {s₁} {s₂} {len} {m} {n} {ts} {us} B D =
    let b = B.used in
    let d = D.used in
    let a = length-append ts us in
    record {
      stands = D.stands ∙ (ap (λ Γ. reverse_aux us Γ) B.stands ∙ sym (reverse_append ts us (context_in s₀ len)));
      kept = take_fewer len m s₂ s₁ (omega arith) D.kept ∙ B.kept;
      same = D.same ∙ B.same;
      used = omega arith;
    }

-- The first branch of a match: what its entries bind, and the rest if its close says so.
module _ (b fs : List ℕ) where
  abbrev L : Layout
  L = records_of b

  abbrev values : List ℕ
  values = value_types L (entry_terms fs)

  pub match_binds_lem : match_binds (λ a. type_field L a 0) (pattern_of (others_in fs TermKind.match)) (get_or (types_in b fs TermKind.match) 0 (field_in fs 0)) (drop 3 (types_in b fs TermKind.match))
      ≡ values ++ choose (ltb 0 (field_in fs (first_entry + entry_count fs))) (type_at_field b fs 1 ∷ []) []
  match_binds_lem =
      ap (λ es. match_binds (λ a. type_field L a 0) (pattern_of (others_in fs TermKind.match)) (get_or (type_nos L es) 0 (field_in fs 0)) (drop 3 (type_nos L es))) (match_children fs)
      ∙ ap (λ x. values ++ choose x (type_at_field b fs 1 ∷ []) []) (close_told fs)

  abbrev close : ℕ
  close = field_in fs (first_entry + entry_count fs)

  -- It stands there, whatever the close is.
  branch_at : {before after : List ℕ} {len m c : ℕ} → Binds before after len m (values ++ choose (ltb 0 close) (type_at_field b fs 1 ∷ []) []) → m ≤ len + bind_limit → ChildAt b fs TermKind.match 1 before after len c m c
  branch_at {before} {after} {len} {m} {c} B l =
      let u = B.used in
      record {
        stands = ap (λ Γ. record { context = Γ; dom = c }) (B.stands ∙ ap (λ ts. reverse_aux ts (context_in before len)) (sym match_binds_lem));
        kept = B.kept;
        same = B.same;
        grown = omega arith;
        little = l;
      }

  module _ {before mid : List ℕ} {len used : ℕ} (c : ℕ) (B : Binds before mid len used values) (few : used ≤ len + entry_limit) where
    pub with_rest : ltb 0 close ≡ true → used < length mid → ChildAt b fs TermKind.match 1 before (set mid used (type_at_field b fs 1)) len c (used + 1) c
    with_rest h l = branch_at (rw h (binds_more B (binds_one mid used (type_at_field b fs 1) l))) (omega arith)

    pub without_rest : ltb 0 close ≡ false → ChildAt b fs TermKind.match 1 before mid len c used c
    without_rest h = branch_at (rw (h, append-nil) B) (omega arith)

-- One entry v before the others: who binds those binds all.
pub binds_entry : (L : Layout) (fs : List ℕ) (n i v : ℕ) → i < n → v ≡ field_in fs (first_entry + i) → {s₀ s₁ s₂ : List ℕ} {len m k : ℕ} → Binds s₀ s₁ len m (value_types L (as_child an_entry v)) → Binds s₁ s₂ m k (value_types L (entries_left fs first_entry n (i + 1)))
    → Binds s₀ s₂ len k (value_types L (entries_left fs first_entry n i))
binds_entry L fs n i v h e {s₀} {s₁} {s₂} {len} {m} {k} B D =
    let q = ap (λ es. value_types L es) (next_left fs first_entry n i v h e) ∙ values_append L (as_child an_entry v) (entries_left fs first_entry n (i + 1)) in
    subst (λ ts. Binds s₀ s₂ len k ts) (sym q) (binds_more B D)
