-- The loops of `check_typing::pass::check_here` and `check_subterms` over the children of a term: what is known at a turn, and what follows of its child.
use Rattle.std.specs.Prelude.{Ok, is_err}
use Prim.Native.Nat.{ℕ, ◌+◌, ◌*◌, ◌≤◌, ◌<◌}
use native.Mathlib.Omega.{arith}
use mathlib.Core.Path.{◌≡◌, sym, ap, subst, ◌∙◌}
use mathlib.Core.Bool.{Bool, true, false}
use mathlib.Core.List.{List}
use lib.ListN.{length, get_or, take}
use Rattle.image.specs.Bytes.{number_at}
use Rattle.image.specs.Kinds.{TermKind, term_row, lead_of}
use Rattle.image.specs.Layout.{records_of}
use Rattle.image.specs.Types.{term_place, term_kind}
use Rattle.verdict.specs.Answers.{Verdict}
use Rattle.verdict.specs.Settings.{Setting}
use Rattle.verdict.specs.Check.{checked}
use Rattle.verdict.proofs.Answered.{accepted_is}
use Rattle.read_records.specs.Heads.{field_in}
use Rattle.read_terms.specs.Lent.{Terms, IsTerm}
use Rattle.read_terms.specs.Fields.{fields_of, count_in, children_in, HasChild}
use Rattle.read_terms.proofs.Counts.{children_counted}
use Rattle.read_terms.proofs.Located.{number_is, kind_is}
use Rattle.check_rules.specs.Scopes.{context_in, setting_in, bind_limit}
use Rattle.check_rules.specs.Judged.{rule_verdict}
use Rattle.check_rules.specs.Rules.{setting_from}
use Rattle.check_scopes.specs.Scopes.{moves_child, Passed, ChildAt}
use Rattle.check_scopes.proofs.ChildSettings.{stays_here, stays_side, here_at}
use Rattle.check_scopes.proofs.Bindings.{take_fewer}
use Rattle.check_typing.specs.Turns.{Capacity}
use Rattle.check_typing.proofs.TermPass.{front, same_setting}
use Rattle.check_typing.proofs.Children.{has_there, passed_there, below, there, capacity_there, child_next, all_passed, refused_there}
use Rattle.check_typing.proofs.ScopeCapacity.{more_capacity}

-- A term that has passed its rule: the number of its kind is q, its fields are fs, it has k children, and is checked where p says.
pub record Parent (b : List ℕ) (n q k : ℕ) (fs : List ℕ) (p : Setting ℕ) : Type 0 where
  pub terms : List ℕ
  pub lent : Terms b terms
  pub there : IsTerm b n
  pub fields : fs ≡ fields_of b n
  pub read : q ≡ number_at b (term_place (records_of b) n)
  pub ruled : rule_verdict (records_of b) p n ≡ Ok tt
  pub counted : (m : TermKind) → q ≡ (term_row m).number → k ≡ length (children_in fs m)

module _ {b : List ℕ} {n q k : ℕ} {fs : List ℕ} {p : Setting ℕ} (P : Parent b n q k fs p) where
  abbrev kind : TermKind
  kind = term_kind (records_of b) n

  pub numbered : q ≡ (term_row kind).number
  numbered = P.read ∙ number_is P.lent P.there

  pub kinded : (m : TermKind) → q ≡ (term_row m).number → kind ≡ m
  kinded m e = kind_is P.lent P.there m (sym P.read ∙ e)

  -- Where all its children pass, the verdict on them is the one that is asked for.
  pub whole : (j : ℕ) → k ≤ j → ((m : TermKind) → q ≡ (term_row m).number → front b fs m p j ≡ Ok tt) → (Ok tt) ≡ checked (records_of b) p n
  whole j h F =
      let c = P.counted kind numbered in
      sym (F kind numbered) ∙ all_passed P.lent P.there P.fields p P.ruled j (omega arith)

  module _ (j : ℕ) (l : j < k) where
    pub indexed : (m : TermKind) → q ≡ (term_row m).number → j < length (children_in fs m)
    indexed m e = let c = P.counted m e in omega arith

    pub has : (m : TermKind) → q ≡ (term_row m).number → HasChild fs m j
    has m e = has_there P.lent P.there P.fields (kinded m e) j (indexed m e)

-- Child j of it has the number e, and is checked where s says; the children before it pass.
pub record Turn (b : List ℕ) (n q k : ℕ) (fs : List ℕ) (p s : Setting ℕ) (j e : ℕ) : Type 0 where
  pub parent : Parent b n q k fs p
  pub more : j < k
  pub number : (m : TermKind) → q ≡ (term_row m).number → e ≡ get_or (children_in fs m) j 0
  pub stands : (m : TermKind) → q ≡ (term_row m).number → s ≡ setting_from b fs m p j
  pub before : (m : TermKind) → q ≡ (term_row m).number → front b fs m p j ≡ Ok tt

module _ {b : List ℕ} {n q k : ℕ} {fs : List ℕ} {p s : Setting ℕ} {j e : ℕ} (t : Turn b n q k fs p s j e) where
  abbrev P : Parent b n q k fs p
  P = t.parent

  own_index : j < length (children_in fs (term_kind (records_of b) n))
  own_index = indexed P j t.more (term_kind (records_of b) n) (numbered P)

  own_number : e ≡ get_or (children_in fs (term_kind (records_of b) n)) j 0
  own_number = t.number (term_kind (records_of b) n) (numbered P)

  pub lower : e < n
  lower = below P.lent P.there P.fields own_index own_number

  pub inside : IsTerm b e
  inside = there P.lent P.there P.fields own_index own_number

  pub capacity : {scope : List ℕ} {len : ℕ} → Capacity b scope len n → (after : List ℕ) (m : ℕ) → m ≤ len + bind_limit → length after ≡ length scope → Capacity b after m e
  capacity R after m h z = capacity_there P.lent P.there P.fields own_index own_number R after m h z

  -- The child is checked where it stands, behind those before it.
  child_is : (m : TermKind) → q ≡ (term_row m).number → checked (records_of b) s e ≡ front b fs m p (j + 1)
  child_is m i = child_next b fs m p j e (indexed P j t.more m i) (t.number m i) s (t.stands m i) (t.before m i)

  -- A refusal of the child is the answer.
  pub stops : (v : Verdict) → v ≡ checked (records_of b) s e → is_err v ≡ true → v ≡ checked (records_of b) p n
  stops v h r =
      let i = own_index in
      refused_there P.lent P.there P.fields p P.ruled v (j + 1) (omega arith) (h ∙ child_is (term_kind (records_of b) n) (numbered P)) r

  -- All children up to one that passes pass.
  pub goes_on : (v : Verdict) → v ≡ checked (records_of b) s e → is_err v ≡ false → (m : TermKind) → q ≡ (term_row m).number → front b fs m p (j + 1) ≡ Ok tt
  goes_on v h r m i = sym (h ∙ child_is m i) ∙ accepted_is v r

-- The children of a term of a kind whose children all stand where it does.
module _ (scope₀ : List ℕ) (len : ℕ) {b : List ℕ} {n q k : ℕ} {fs : List ℕ} {c : ℕ} (P : Parent b n q k fs (setting_in scope₀ len c)) {moves : Bool} (M : (m : TermKind) → q ≡ (term_row m).number → moves ≡ moves_child m) (no : moves ≡ false)
    {lead : ℕ} (L : (m : TermKind) → q ≡ (term_row m).number → lead ≡ lead_of m) (j : ℕ) (l : j < k) where
  stays : (m : TermKind) → q ≡ (term_row m).number → moves_child m ≡ false
  stays m e = sym (M m e) ∙ no

  among : (m : TermKind) → q ≡ (term_row m).number → j < count_in fs m
  among m e =
      let n = children_counted fs m (stays_side m (stays m e)) in
      let i = indexed P j l m e in
      omega arith

  pub field_there : 2 * (lead + j) + 1 < length fs
  field_there =
      let m = term_kind (records_of b) n in
      let H = has P j l m (numbered P) in
      let e = L m (numbered P) in
      let a = among m (numbered P) in
      let g = H.long in
      omega arith

  pub here_turn : (scope : List ℕ) → take len scope ≡ take len scope₀ → ((m : TermKind) → q ≡ (term_row m).number → front b fs m (setting_in scope₀ len c) j ≡ Ok tt) → {e : ℕ} → e ≡ field_in fs (lead + j)
      → Turn b n q k fs (setting_in scope₀ len c) (setting_in scope len c) j e
  here_turn scope keep F d =
      record {
        parent = P;
        more = l;
        number = λ m i. d ∙ ap (λ x. field_in fs (x + j)) (L m i) ∙ (has P j l m i).side (among m i);
        stands = λ m i. same_setting scope₀ scope len c keep ∙ (here_at b fs scope₀ len c j m (stays_here m (stays m i) j)).stands;
        before = F;
      }

-- The children of a term that stand elsewhere. What is read of its fields gs is read of fs.
module _ (scope₀ : List ℕ) (len : ℕ) {b : List ℕ} {n q k : ℕ} {fs : List ℕ} {c : ℕ} (P : Parent b n q k fs (setting_in scope₀ len c)) {gs : List ℕ} (G : gs ≡ fs) (j : ℕ) (l : j < k) (scope : List ℕ) (keep : take len scope ≡ take len scope₀) (same : length scope ≡ length scope₀) where
  pub child_passed : ((Γ : List ℕ) → rule_verdict (records_of b) (record { context = Γ; dom = c }) n ≡ Ok tt) → Capacity b scope₀ len n → (m : TermKind) → q ≡ (term_row m).number → Passed b gs m scope len c × (j < length (children_in gs m))
  child_passed A R m e =
      subst (λ xs. Passed b xs m scope len c × (j < length (children_in xs m))) (sym G)
      (passed_there P.lent P.there P.fields (kinded P m e) (A (context_in scope len)) (same ∙ R.places) (more_capacity R P.there), indexed P j l m e)

  module _ {after : List ℕ} {len' d : ℕ} (C : (m : TermKind) → q ≡ (term_row m).number → ChildAt b gs m j scope after len c len' d) where
    at : (m : TermKind) → q ≡ (term_row m).number → ChildAt b fs m j scope after len c len' d
    at m e = subst (λ xs. ChildAt b xs m j scope after len c len' d) G (C m e)

    own : ChildAt b fs (term_kind (records_of b) n) j scope after len c len' d
    own = at (term_kind (records_of b) n) (numbered P)

    pub moved_turn : ((m : TermKind) → q ≡ (term_row m).number → front b fs m (setting_in scope₀ len c) j ≡ Ok tt) → {e : ℕ} → ((m : TermKind) → q ≡ (term_row m).number → e ≡ get_or (children_in gs m) j 0)
        → Turn b n q k fs (setting_in scope₀ len c) (setting_in after len' d) j e
    moved_turn F N =
        record {
          parent = P;
          more = l;
          number = λ m i. N m i ∙ ap (λ xs. get_or (children_in xs m) j 0) G;
          stands = λ m i. (at m i).stands ∙ ap (λ p. setting_from b fs m p j) (same_setting scope₀ scope len c keep);
          before = F;
        }

    pub little : len' ≤ len + bind_limit
    little = own.little

    pub same_length : length after ≡ length scope₀
    same_length = own.same ∙ same

    -- The places that the child's check keeps are the term's own.
    pub kept : (last : List ℕ) → take len' last ≡ take len' after → take len last ≡ take len scope₀
    kept last h = take_fewer len len' last after own.grown h ∙ own.kept ∙ keep

pub parent : {b ts : List ℕ} (n : ℕ) {q k : ℕ} {fs : List ℕ} (p : Setting ℕ) → Terms b ts → IsTerm b n → fs ≡ fields_of b n → q ≡ number_at b (term_place (records_of b) n) → rule_verdict (records_of b) p n ≡ Ok tt
    → ((m : TermKind) → q ≡ (term_row m).number → k ≡ length (children_in fs m)) → Parent b n q k fs p
parent n p T h f r A C = record { terms = _; lent = T; there = h; fields = f; read = r; ruled = A; counted = C }
