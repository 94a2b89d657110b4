-- A match looks at its entries (card 6): pointcuts that are atoms are taken in place, up to the first that is none.
use Prim.Native.Nat.{ℕ, zero, suc, ◌+◌, ◌-◌, ◌≤◌, ◌<◌}
use native.Mathlib.Omega.{arith}
use mathlib.Core.Path.{◌≡◌, refl, sym, ap, subst, ◌∙◌}
use mathlib.Core.Bool.{Bool, true, false, ◌&&◌}
use mathlib.Core.List.{List, [], ◌∷◌, ◌++◌, reverse}
use mathlib.Core.Option.{Option}
use lib.ListN.{length, drop, length-append}
use borrow.Author.Tests.{eq-eqb, ne_eqb}
use Rattle.calculus.specs.Combinators.{choose}
use Rattle.calculus.specs.Syntax.{Dom, Pattern, anything, pointcut, end}
use Rattle.calculus.specs.State.{Entry}
use Rattle.calculus.specs.Compose.{member}
use Rattle.image.specs.Bytes.{le16}
use Rattle.closure_machine.specs.Closure.{CVal, Env, CState, unload_val}
use Rattle.closure_machine.specs.Machine.{eval, ret, OpN, match_n, op_nf, Stack}
use Rattle.vm_theory.specs.Code.{Skel}
use Rattle.vm_theory.specs.Table.{many_n, match_m, In, there, terms_of, is_atom_at}
use Rattle.vm_theory.proofs.Reach.{Reach, reach_moves, reach_cut}
use Rattle.vm_theory.proofs.Leads.{atom_leads}
use Rattle.vm_theory.proofs.Bound.{bound_tm}
use Rattle.vm_theory.proofs.Located.{Located, l_listed}
use Rattle.vm_code.specs.Words.{count_of, entry_place, close_place}
use Rattle.vm_theory.specs.Says.{SaysPattern, says_end, says_rest, says_anything, says_cut}
use Rattle.vm_machine.specs.Memory.{Memory, is_kept, top_entry, rest_of, entry_label, has_bit, piece_second, piece_of, binding_places}
use Rattle.vm_machine.specs.Fetch.{Program, code_at, atom_value}
use Rattle.vm_machine.specs.Stacks.{entry_at, cut_term, rest_after, look_on}
use Rattle.vm_machine.specs.Stacks as machine
use Rattle.vm_machine_correct.proofs.Setup.{Setup}
use Rattle.vm_machine_correct.proofs.Relations.{Sizes, HasLabels, IsVal, IsEnv}
use Rattle.vm_machine_correct.proofs.Views.{AsKept, a_kept, no_kept, as_kept, AsPointcut, a_pointcut, no_pointcut, as_pointcut}
use Rattle.vm_machine_correct.proofs.Fetch.{atom_is}
use Rattle.vm_machine_correct.proofs.Entries.{word_atom}
use Rattle.vm_machine_correct.proofs.Labelling.{drop_at}
use Rattle.vm_machine_correct.proofs.Looking.{top_has, top_hits, behind, has_top, hits_top, rest_c, Looked, nothing_yet, past_anything, past_pointcut, one_operand_more}

module _ (Θ : Setup) (M : Memory) (z : Sizes) where
  abbrev Is : ℕ → CVal → Type 0
  Is v k = IsVal Θ M z v k

  -- Whether a stack has an entry, and what is behind it.
  pub kept_top : {v : ℕ} {k : CVal} → Is v k → is_kept v ≡ has_top k
  kept_top {v} i = by (as_kept Θ M z i)
    where
      by : {k : CVal} → AsKept Θ M z v k → is_kept v ≡ has_top k
      by (a_kept t lt l iu is) = rw t
      by (no_kept t n) = t ∙ sym (ap top_has n)

  pub rest_is : {v : ℕ} {k : CVal} → Is v k → Is (rest_of M v) (rest_c k)
  rest_is {v} i = by (as_kept Θ M z i) i
    where
      by : {k : CVal} → AsKept Θ M z v k → Is v k → Is (rest_of M v) (rest_c k)
      by (a_kept t lt l iu is) i = rw t is
      by {k} (no_kept t n) i = subst (λ (o : Option (Entry CVal × CVal)). Is (rest_of M v) (behind o k)) (sym n) (subst (λ (b : Bool). Is (choose b (piece_second M (piece_of v)) v) k) (sym t) i)

  after_last : (n v : ℕ) → rest_after M (suc n) v ≡ rest_of M (rest_after M n v)
  unfolding rest_after
  after_last zero v = refl
  after_last (suc n) v = after_last n (rest_of M v)

  pub rest_after_lem : {p : Pattern} {k₀ : CVal} {n : ℕ} {us : List CVal} {q : Pattern} {k : CVal} {b : Bool} → Looked p k₀ n us q k b → (v : ℕ) → Is v k₀ → Is (rest_after M n v) k
  unfolding rest_after
  rest_after_lem nothing_yet v i = i
  rest_after_lem (past_anything {n = n} {k = k} l) v i = subst (λ (x : ℕ). Is x (rest_c k)) (sym (after_last n v)) (rest_is (rest_after_lem l v i))
  rest_after_lem (past_pointcut {n = n} {k = k} u l) v i = subst (λ (x : ℕ). Is x (rest_c k)) (sym (after_last n v)) (rest_is (rest_after_lem l v i))

  -- Whether its label is among those of a pointcut.
  pub cut_hits : {v : ℕ} {k : CVal} (x : ℕ) (ls : List ℕ) → Is v k → HasLabels (piece_second M (piece_of x)) ls → (is_kept v && has_bit (piece_second M (piece_of x)) (entry_label (top_entry M v))) ≡ (has_top k && hits_top k (CVal.pointcut ls))
  unfolding unload_val
  cut_hits {v} x ls i h = by (as_kept Θ M z i)
    where
      hit : ℕ → Bool
      hit l = has_bit (piece_second M (piece_of x)) l

      by : {k : CVal} → AsKept Θ M z v k → (is_kept v && has_bit (piece_second M (piece_of x)) (entry_label (top_entry M v))) ≡ (has_top k && hits_top k (CVal.pointcut ls))
      by (a_kept t lt l iu is) = rw t (h.has (entry_label (top_entry M v)) (omega arith) ∙ ap (λ (y : ℕ). member y ls) l)
      by (no_kept t n) = ap (λ (b : Bool). b && has_bit (piece_second M (piece_of x)) (entry_label (top_entry M v))) t ∙ sym (ap (λ (o : Option (Entry CVal × CVal)). top_has o && top_hits o (CVal.pointcut ls)) n)

module _ (Θ : Setup) (M : Memory) (z : Sizes) (env : ℕ) (ρ : Env) (ie : IsEnv Θ M z env ρ) (fits : env < binding_places) (k : ℕ) (s : CState) (K : Stack) (m : ℕ) (p : Pattern) (f g x₀ : ℕ) (cuts : List ℕ)
    (node : Θ.table.node m ≡ many_n (match_m p f g) (x₀ ∷ cuts)) {σ : Skel} {c : Dom} (located : Located Θ.linked m σ c) (w : ℕ) (k₀ : CVal) where
  abbrev pub operator : OpN
  operator = match_n p (Θ.table.term f) (Θ.table.term g)

  -- Where the looking stops.
  pub data Stops (j : machine.Looked) : Type 0 where
    -- after the last entry
    all_looked : (us : List CVal) (q : Pattern) (kk u : CVal) (vs : List CVal) → Looked p k₀ (count_of w) us q kk j.fits → SaysPattern Θ.program.image (close_place w) 0 q [] → reverse (u ∷ vs) ≡ k₀ ∷ us
        → IsVal Θ M z j.rest kk → j.next ≡ count_of w → Reach Θ.sound k s (ret u) (op_nf operator vs end ρ ∷ K) → Stops j
    -- at a pointcut y that is no atom
    stopped_at : (us : List CVal) (q : Pattern) (kk u : CVal) (vs : List CVal) (y : ℕ) (ys : List ℕ) → Looked p k₀ j.next us (pointcut q) kk j.fits → reverse (u ∷ vs) ≡ k₀ ∷ us → j.next < count_of w
        → cut_term (entry_at Θ.program w j.next) ≡ y → is_atom_at Θ.table y ≡ false → In y cuts → drop (suc (length us)) cuts ≡ ys → Reach Θ.sound k s (eval (Θ.table.term y) ρ) (op_nf operator (u ∷ vs) (terms_of Θ.table ys) ρ ∷ K) → Stops j

  abbrev at : ℕ → ℕ → Bool → machine.Looked
  at i r b = record { next = i; rest = r; fits = b }

  closed_end : (o i : ℕ) (q : Pattern) → o ≡ entry_place w i → i ≡ count_of w → SaysPattern Θ.program.image o 0 q [] → SaysPattern Θ.program.image (close_place w) 0 q []
  closed_end o i q e c h = subst (λ (x : ℕ). SaysPattern Θ.program.image x 0 q []) (e ∙ ap (entry_place w) c) h

  pub looked_on : {o n : ℕ} {q : Pattern} {ys : List ℕ} → SaysPattern Θ.program.image o n q ys → (i : ℕ) → o ≡ entry_place w i → i + n ≡ count_of w → (us : List CVal) (kk : CVal) (b : Bool) (u : CVal) (vs : List CVal) (r : ℕ)
      → drop (length us) cuts ≡ ys → Looked p k₀ i us q kk b → reverse (u ∷ vs) ≡ k₀ ∷ us → IsVal Θ M z r kk → Reach Θ.sound k s (ret u) (op_nf operator vs (terms_of Θ.table ys) ρ ∷ K)
      → Stops (look_on Θ.program M env w n (at i r b))
  unfolding look_on
  looked_on {o} {q = q} (says_end e) i h n us kk b u vs r d l t ir reach =
      let c : i ≡ count_of w = omega arith in
      all_looked us q kk u vs (subst (λ (x : ℕ). Looked p k₀ x us q kk b) c l) (closed_end o i q h c (says_end e)) t ir c reach
  looked_on {o} {q = q} (says_rest e) i h n us kk b u vs r d l t ir reach =
      let c : i ≡ count_of w = omega arith in
      all_looked us q kk u vs (subst (λ (x : ℕ). Looked p k₀ x us q kk b) c l) (closed_end o i q h c (says_rest e)) t ir c reach
  looked_on {o} (says_anything {n = n} e more) i h c us kk b u vs r d l t ir reach =
      rw (eq-eqb (entry_at Θ.program w i) 0 (ap (le16 Θ.program.image) (sym h) ∙ e))
      (subst (λ (x : Bool). Stops (look_on Θ.program M env w n (at (suc i) (rest_of M r) (b && x)))) (sym (kept_top Θ M z ir))
      (looked_on more (suc i) (omega arith) (omega arith) us (rest_c kk) (b && has_top kk) u vs (rest_of M r) d (past_anything l) t (rest_is Θ M z ir) reach))
  looked_on {o} (says_cut {n = n} {x = y} {p = q} {xs = ys} e low more) i h c us kk b u vs r d l t ir reach =
      rw (ne_eqb (entry_at Θ.program w i) 0 (λ x. omega (arith, entry)), cut, word_atom Θ y low)
      (try (is_atom_at Θ.table y) refl (λ us' kk' b' u' vs' r'. looked_on more (suc i) (omega arith) (omega arith) us' kk' b' u' vs' r'))
    where
      Later : Type 0
      Later = (us' : List CVal) (kk' : CVal) (b' : Bool) (u' : CVal) (vs' : List CVal) (r' : ℕ) → drop (length us') cuts ≡ ys → Looked p k₀ (suc i) us' q kk' b' → reverse (u' ∷ vs') ≡ k₀ ∷ us' → IsVal Θ M z r' kk'
          → Reach Θ.sound k s (ret u') (op_nf operator vs' (terms_of Θ.table ys) ρ ∷ K) → Stops (look_on Θ.program M env w n (at (suc i) r' b'))

      entry : entry_at Θ.program w i ≡ suc y
      entry = ap (le16 Θ.program.image) (sym h) ∙ e

      cut : cut_term (entry_at Θ.program w i) ≡ y
      cut = omega (arith, entry)

      place : In y cuts × (drop (suc (length us)) cuts ≡ ys)
      place = let a = drop_at cuts (length us) y ys d in (a.3, a.1)

      next : Reach Θ.sound k s (eval (Θ.table.term y) ρ) (op_nf operator (u ∷ vs) (terms_of Θ.table ys) ρ ∷ K)
      next = reach_moves Θ.sound k s (ret u) (op_nf operator vs (terms_of Θ.table (y ∷ ys)) ρ ∷ K) reach (eval (Θ.table.term y) ρ) (op_nf operator (u ∷ vs) (terms_of Θ.table ys) ρ ∷ K) refl

      word : ℕ
      word = atom_value Θ.program M env (code_at Θ.program y)

      atom : is_atom_at Θ.table y ≡ true → Later → Stops (look_on Θ.program M env w n (machine.past_cut M word (at i r b)))
      atom a ih =
          view (as_pointcut Θ M z (atom_is Θ M z env ρ ie fits y low a (l_listed located node (there place.0)) (bound_tm Θ.sound k s (Θ.table.term y) ρ _ next))) ((atom_leads Θ.sound s (Θ.table.term y) ρ _ a).reached k next)
        where
          view : {v : CVal} → AsPointcut Θ M z word v → Reach Θ.sound k s (ret v) (op_nf operator (u ∷ vs) (terms_of Θ.table ys) ρ ∷ K) → Stops (look_on Θ.program M env w n (machine.past_cut M word (at i r b)))
          view (a_pointcut {ls = ls} tag lt has) reach' =
              let count : length (us ++ (CVal.pointcut ls ∷ [])) ≡ suc (length us) = length-append us (CVal.pointcut ls ∷ []) ∙ omega arith in
              subst (λ (x : Bool). Stops (look_on Θ.program M env w n (at (suc i) (rest_of M r) (b && x)))) (sym (cut_hits Θ M z word ls ir has))
              (ih (us ++ (CVal.pointcut ls ∷ [])) (rest_c kk) (b && (has_top kk && hits_top kk (CVal.pointcut ls))) (CVal.pointcut ls) (u ∷ vs) (rest_of M r)
              (ap (λ (x : ℕ). drop x cuts) count ∙ place.1) (past_pointcut (CVal.pointcut ls) l) (one_operand_more (CVal.pointcut ls) k₀ (u ∷ vs) us t) (rest_is Θ M z ir) reach')
          view (no_pointcut {v = v} nope) reach' = absurd (reach_cut Θ.sound k s v u vs p (Θ.table.term f) (Θ.table.term g) (terms_of Θ.table ys) ρ K reach' nope)

      try : (a : Bool) → is_atom_at Θ.table y ≡ a → Later → Stops (choose a (look_on Θ.program M env w n (machine.past_cut M word (at i r b))) (at i r b))
      try true a ih = atom a ih
      try false a ih = stopped_at us q kk u vs y ys l t (omega arith) cut a place.0 place.1 next

-- What is left of the pattern in the image.
pub looked_says : (C : Program) (w : ℕ) {p : Pattern} {cuts : List ℕ} → SaysPattern C.image (entry_place w 0) (count_of w) p cuts → {k₀ : CVal} {n : ℕ} {us : List CVal} {q : Pattern} {k : CVal} {b : Bool} → Looked p k₀ n us q k b
    → (n ≤ count_of w) × SaysPattern C.image (entry_place w n) (count_of w - n) q (drop (length us) cuts)
looked_says C w h nothing_yet = let e : count_of w - 0 ≡ count_of w = omega arith in (omega arith, rw e h)
looked_says C w {p} {cuts} h {us = us} (past_anything {n = n} {q = q} l) = by (looked_says C w h l).0 refl (looked_says C w h l).1
  where
    by : n ≤ count_of w → {i : ℕ} → i ≡ count_of w - n → SaysPattern C.image (entry_place w n) i (anything q) (drop (length us) cuts) → (suc n ≤ count_of w) × SaysPattern C.image (entry_place w (suc n)) (count_of w - suc n) q (drop (length us) cuts)
    by low e (says_anything {n = j} z r) =
        let c : count_of w - suc n ≡ j = omega arith in
        let o : entry_place w (suc n) ≡ entry_place w n + 2 = omega arith in
        (omega arith, rw (c, o) r)
looked_says C w {p} {cuts} h (past_pointcut {n = n} {us = us} {q = q} u l) = by (looked_says C w h l).0 refl refl (looked_says C w h l).1
  where
    by : n ≤ count_of w → {i : ℕ} → i ≡ count_of w - n → {ys : List ℕ} → drop (length us) cuts ≡ ys → SaysPattern C.image (entry_place w n) i (pointcut q) ys
        → (suc n ≤ count_of w) × SaysPattern C.image (entry_place w (suc n)) (count_of w - suc n) q (drop (length (us ++ (u ∷ []))) cuts)
    by low e d (says_cut {n = j} {x = y} {xs = ys} z lt r) =
        let c : count_of w - suc n ≡ j = omega arith in
        let o : entry_place w (suc n) ≡ entry_place w n + 2 = omega arith in
        let count : length (us ++ (u ∷ [])) ≡ suc (length us) = length-append us (u ∷ []) ∙ omega arith in
        let left : drop (length (us ++ (u ∷ []))) cuts ≡ ys = ap (λ (x : ℕ). drop x cuts) count ∙ (drop_at cuts (length us) y ys d).1 in
        (omega arith, rw (c, o, left) r)
