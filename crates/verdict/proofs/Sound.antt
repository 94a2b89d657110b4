-- A term that passes the typing pass is well typed.
use Rattle.std.specs.Prelude.{Ok, Err}
use Prim.Native.Nat.{ℕ, zero, suc, ◌≤◌, ◌<◌}
use native.Mathlib.Omega.{arith}
use mathlib.Core.Path.{◌≡◌, refl, ap, subst, fun_ext}
use mathlib.Core.Bool.{true}
use mathlib.Core.List.{List, [], ◌∷◌}
use mathlib.Core.Option.{Option, none, some}
use lib.ListN.{length, length-map}
use Rattle.calculus.specs.Syntax.{Ty}
use Rattle.image.specs.declared.Refusal.{Refusal}
use Rattle.laws.specs.Tests.{first_fault}
use Rattle.image.specs.Bytes.{length_at}
use Rattle.image.specs.Kinds.{term_row}
use Rattle.image.specs.Records.{Layout, times, numbers_at}
use Rattle.image.specs.Types.{term_place, term_kind, type_no, stated_type, others, children}
use Rattle.image.specs.Program.{subtrees, tree}
use Rattle.laws.proofs.Tests.{passed}
use Rattle.image.proofs.Words.{words_length}
use Rattle.image.proofs.Laid.{Below, LayoutOk}
use Rattle.image.proofs.Fitting.{Fitting}
use Rattle.image.proofs.Counts.{least_children, most_children, children_between}
use Rattle.verdict.specs.Answers.{Verdict, refused_at}
use Rattle.verdict.specs.Domains.{policy}
use Rattle.verdict.specs.Settings.{Setting}
use Rattle.verdict.specs.Rules.{rule_faults}
use Rattle.verdict.specs.Check.{type_nos, rule_at, setting_at, check_all, check}
use Rattle.verdict.specs.WellTyped.{stateds, child_setting, WellTyped, EachWellTyped}
use Rattle.verdict.proofs.Answered.{not_refused}
use Rattle.verdict.proofs.Local.{outs, local_sound}
use Rattle.verdict.proofs.Contexts.{contexts}

pub below_le : {m n : ℕ} (es : List ℕ) → m ≤ n → Below m es → Below n es
below_le [] h b = tt
below_le (e ∷ es) h b = (let z = b.0 in omega arith, below_le es h b.1)

-- A setting with every type written out.
abbrev pub setting_out : Layout → Setting ℕ → Setting Ty
setting_out L p = record { context = outs L p.context; dom = p.dom }

module _ (L : Layout) (good : LayoutOk L) where
  types_below : (es : List ℕ) → Below (length L.terms) es → Below (length L.types) (type_nos L es)
  types_below [] b = tt
  types_below (e ∷ es) b = ((good.terms e b.0).typed, types_below es b.1)

  -- What is known of term n.
  pub record TermFacts (n : ℕ) : Type 0 where
    pub own : type_no L n < length L.types
    pub least : least_children (term_row (term_kind L n)) ≤ length (type_nos L (children L n))
    pub most : length (type_nos L (children L n)) ≤ most_children (term_row (term_kind L n))
    pub fitting : Fitting (term_kind L n) (others L n) (length (type_nos L (children L n)))
    pub below : Below (length L.terms) (children L n)
    pub types : Below (length L.types) (type_nos L (children L n))

  pub term_facts : (n : ℕ) → n < length L.terms → TermFacts n
  term_facts n l =
      let t = good.terms n l in
      let m : length (type_nos L (children L n)) ≡ length (children L n) = length-map (children L n) (λ e. type_no L e) in
      let b : Below (length L.terms) (children L n) = below_le (children L n) (omega arith) t.below in
      let c = children_between (term_row (term_kind L n)) (times (term_row (term_kind L n)) (length_at L.image (term_place L n))) _ (words_length L.image _ _) t.is.stands.least t.is.stands.most in
      let f : Fitting (term_kind L n) (others L n) (length (type_nos L (children L n))) =
      record { times = times (term_row (term_kind L n)) (length_at L.image (term_place L n)); numbers = numbers_at L.image (term_place L n) (term_row (term_kind L n)); size = words_length L.image _ _; others = refl; children = m } in
      record { own = t.typed; fitting = f; least = rw m c.0; most = rw m c.1; below = b; types = types_below (children L n) b }

  -- The types that trees state.
  pub trees_stated : (f : ℕ) (es : List ℕ) → stateds (subtrees (λ e. tree L (suc f) e) es) ≡ outs L (type_nos L es)
  unfolding tree
  trees_stated f [] = refl
  trees_stated f (e ∷ es) = ap (λ ts. stated_type L e ∷ ts) (trees_stated f es)

  -- Where child i of term n stands, with types in full, is where the typing pass checks it.
  pub child_setting_lem : (p : Setting ℕ) (n : ℕ) → n < length L.terms → (rule_at L p n).typed ≡ true
      → (λ i. setting_out L (setting_at L p n i)) ≡ child_setting (setting_out L p) (term_kind L n) (stated_type L n) (others L n) (outs L (type_nos L (children L n)))
  child_setting_lem p n l h =
      let t = term_facts n l in
      fun_ext (λ i. ap (λ Γ. record { context = Γ; dom = (setting_at L p n i).dom })
      (contexts L good (term_kind L n) p.context p.dom (type_no L n) (others L n) (type_nos L (children L n)) t.least t.most t.own t.types h i).same)

  unfoldable pub ChildSound : ℕ → Type 0
  ChildSound f = (q : Setting ℕ) (e : ℕ) → e < length L.terms → check L f q e ≡ Ok tt → WellTyped (policy L) (setting_out L q) (tree L f e)

  children_sound : (f : ℕ) → ChildSound f → (at : ℕ → Setting ℕ) (i : ℕ) (es : List ℕ) → Below (length L.terms) es → check_all L (λ j e. check L f (at j) e) i es ≡ Ok tt
      → EachWellTyped (policy L) (λ j. setting_out L (at j)) i (subtrees (λ e. tree L f e) es)
  unfolding check_all ChildSound WellTyped
  children_sound f ih at i [] b h = tt
  children_sound f ih at i (e ∷ es) b h = go (λ k. children_sound f ih at (suc i) es b.1 k) (check L f (at i) e) refl
    where
      go : (check_all L (λ j e. check L f (at j) e) (suc i) es ≡ Ok tt → EachWellTyped (policy L) (λ j. setting_out L (at j)) (suc i) (subtrees (λ e. tree L f e) es))
          → (x : Verdict) → check L f (at i) e ≡ x → WellTyped (policy L) (setting_out L (at i)) (tree L f e) × EachWellTyped (policy L) (λ j. setting_out L (at j)) (suc i) (subtrees (λ e. tree L f e) es)
      go rest (Ok tt) q = (ih (at i) e b.0 q, rest (rw (q, check_all) at h))
      go rest (Err refusal) q = let z : ◌≡◌ {A = Verdict} (Err refusal) (Ok tt) = rw (q, check_all) at h in not_refused z

  -- Children that pass state the types of their records.
  children_stated : (f : ℕ) (at : ℕ → Setting ℕ) (i : ℕ) (es : List ℕ) → check_all L (λ j e. check L f (at j) e) i es ≡ Ok tt → stateds (subtrees (λ e. tree L f e) es) ≡ outs L (type_nos L es)
  unfolding check_all check
  children_stated zero at i [] h = refl
  children_stated zero at i (e ∷ es) h = not_refused h
  children_stated (suc f) at i es h = trees_stated f es

  -- A term that passes is well typed where it is checked.
  pub check_sound : (f : ℕ) → ChildSound f
  unfolding check tree ChildSound WellTyped
  check_sound zero p n l h = not_refused h
  check_sound (suc f) p n l h = go (check_sound f) (first_fault (rule_faults (rule_at L p n))) refl
    where
      go : ChildSound f → (x : Option Refusal) → first_fault (rule_faults (rule_at L p n)) ≡ x → WellTyped (policy L) (setting_out L p) (tree L (suc f) n)
      go ih (some r) e = let z : refused_at r (term_place L n) ≡ Ok tt = rw (e, check) at h in not_refused z
      go ih none e =
          let c : check_all L (λ i e. check L f (setting_at L p n i) e) 0 (children L n) ≡ Ok tt = rw (e, check) at h in
          let r13 = passed _ _ _ e in
          let r14 = passed _ _ _ r13.1 in
          let r15 = passed _ _ _ r14.1 in
          let t = term_facts n l in
          let s = children_stated f (λ i. setting_at L p n i) 0 (children L n) c in
          let d = local_sound L good (term_kind L n) p.context p.dom (type_no L n) (others L n) (type_nos L (children L n)) t.least t.most t.fitting t.own t.types r13.0 r14.0 r15.0 in
          let w = children_sound f ih (λ i. setting_at L p n i) 0 (children L n) t.below c in
          let w' = subst (λ at. EachWellTyped (policy L) at 0 (subtrees (λ e. tree L f e) (children L n))) (child_setting_lem p n l r14.0) w in
          rw s (d, w')
