-- A child of a term, wherever it stands: its number, the room that is left for it, and the verdict on the children up to it.
use Rattle.std.specs.Prelude.{Ok, is_err}
use Prim.Native.Nat.{ℕ, ◌+◌, ◌≤◌, ◌<◌}
use native.Mathlib.Omega.{arith}
use mathlib.Core.Path.{◌≡◌, refl, sym, ap, subst, ◌∙◌}
use mathlib.Core.Bool.{true}
use mathlib.Core.List.{List}
use lib.ListN.{length, get_or}
use Rattle.image.specs.Kinds.{TermKind, lead_of}
use Rattle.image.specs.Layout.{records_of}
use Rattle.image.specs.Types.{term_kind, children}
use Rattle.verdict.specs.Answers.{Verdict}
use Rattle.verdict.specs.Settings.{Setting}
use Rattle.verdict.specs.Check.{checked}
use Rattle.read_terms.specs.Lent.{Terms, IsTerm}
use Rattle.check_rules.specs.Scopes.{setting_in, bind_limit, scope_length}
use Rattle.read_terms.specs.Fields.{fields_of, children_in, count_in, Typed, AtField, HasChild, Entries}
use Rattle.check_rules.specs.Rules.{rule_in, setting_from}
use Rattle.check_rules.specs.Judged.{rule_verdict}
use Rattle.read_terms.proofs.Located.{typed_in, children_in_lem, child_lower, at_field_in, has_child, entries_in_lem}
use Rattle.check_rules.proofs.Verdict.{verdict_in}
use Rattle.check_scopes.specs.Scopes.{Passed}
use Rattle.check_typing.specs.Turns.{Capacity}
use Rattle.check_typing.proofs.TermPass.{types_fit, front, front_next, front_stops, front_whole}
use Rattle.check_typing.proofs.ScopeCapacity.{child_capacity}

-- What term n asks of its fields, which are fs.
module _ {b terms : List ℕ} (T : Terms b terms) {n : ℕ} (h : IsTerm b n) {fs : List ℕ} (f : fs ≡ fields_of b n) {k : TermKind} (e : term_kind (records_of b) n ≡ k) where
  pub has_there : (i : ℕ) → i < length (children_in fs k) → HasChild fs k i
  has_there i l = rw f (has_child T h e i (rw f at l))

  behind : (i : ℕ) → i < count_in fs k → AtField b fs (lead_of k + i)
  behind i l = rw f (at_field_in T h e i (rw f at l))

  entries_there : k ≡ TermKind.match → Entries b fs
  entries_there q = rw f (entries_in_lem T h (e ∙ q))

  types_there : Typed b fs
  types_there = rw f (typed_in T h)

  fits_there : (p : Setting ℕ) → rule_verdict (records_of b) p n ≡ Ok tt → (rule_in b fs k p).typed ≡ true
  fits_there p a = rw f (types_fit _ _ (verdict_in T h e p ∙ a))

  -- It has passed its rule.
  pub passed_there : {scope : List ℕ} {len c : ℕ} → rule_verdict (records_of b) (setting_in scope len c) n ≡ Ok tt → length scope ≡ scope_length → len + bind_limit ≤ scope_length → Passed b fs k scope len c
  passed_there {scope} {len} {c} a q r =
      record { typed = types_there; children = behind; entries = entries_there; fits = fits_there (setting_in scope len c) a; places = q; capacity = r }

-- Child i of term n, whose fields are fs, has the number e.
module _ {b terms : List ℕ} (T : Terms b terms) {n : ℕ} (h : IsTerm b n) {fs : List ℕ} (f : fs ≡ fields_of b n) {i e : ℕ} (l : i < length (children_in fs (term_kind (records_of b) n))) (g : e ≡ get_or (children_in fs (term_kind (records_of b) n)) i 0) where
  are_children : children_in fs (term_kind (records_of b) n) ≡ children (records_of b) n
  are_children = ap (λ x. children_in x (term_kind (records_of b) n)) f ∙ children_in_lem T h refl

  index_in : i < length (children (records_of b) n)
  index_in = subst (λ es. i < length es) are_children l

  number_in : e ≡ get_or (children (records_of b) n) i 0
  number_in = g ∙ ap (λ es. get_or es i 0) are_children

  pub below : e < n
  below = subst (λ x. x < n) (sym number_in) (child_lower T h {k = term_kind (records_of b) n} refl i index_in)

  pub there : IsTerm b e
  there = let q = below in omega arith

  pub capacity_there : {scope : List ℕ} {len : ℕ} → Capacity b scope len n → (s : List ℕ) (m : ℕ) → m ≤ len + bind_limit → length s ≡ length scope → Capacity b s m e
  capacity_there R s m q z = child_capacity T R h s i m e index_in number_in q z

-- The verdict on child i, behind those before it, which pass; and a refusal of it is the term's.
module _ (b fs : List ℕ) (k : TermKind) (p : Setting ℕ) where
  pub child_next : (i e : ℕ) → i < length (children_in fs k) → e ≡ get_or (children_in fs k) i 0 → (q : Setting ℕ) → q ≡ setting_from b fs k p i → front b fs k p i ≡ Ok tt → checked (records_of b) q e ≡ front b fs k p (i + 1)
  child_next i e l g q s a =
      ap (λ x. checked (records_of b) x e) s
      ∙ ap (checked (records_of b) (setting_from b fs k p i)) g
      ∙ sym (front_next b fs k p i l a)

module _ {b terms : List ℕ} (T : Terms b terms) {n : ℕ} (h : IsTerm b n) {fs : List ℕ} (f : fs ≡ fields_of b n) (p : Setting ℕ) (a : rule_verdict (records_of b) p n ≡ Ok tt) where
  pub all_passed : (j : ℕ) → length (children_in fs (term_kind (records_of b) n)) ≤ j → front b fs (term_kind (records_of b) n) p j ≡ checked (records_of b) p n
  all_passed j l = rw f (front_whole T h p a refl j (rw f at l))

  pub refused_there : (v : Verdict) (i : ℕ) → i ≤ length (children_in fs (term_kind (records_of b) n)) → v ≡ front b fs (term_kind (records_of b) n) p i → is_err v ≡ true → v ≡ checked (records_of b) p n
  refused_there v i l e r =
      let k = length (children_in fs (term_kind (records_of b) n)) in
      front_stops b fs (term_kind (records_of b) n) p v i k l e r ∙ all_passed k (omega arith)
