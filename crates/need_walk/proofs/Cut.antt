-- Numbers that stop at the largest 32-bit number: what the functions on them say is what the definition says, cut.
use Prim.Native.Nat.{ℕ, zero, suc, ◌+◌, ◌≤◌}
use native.Mathlib.Omega.{arith}
use mathlib.Core.Path.{◌≡◌, refl, sym, ap, ◌∙◌}
use mathlib.Core.Bool.{Bool, true, false}
use lib.Dec.{eqb}
use borrow.Author.Tests.{ne_eqb}
use Rattle.calculus.specs.Combinators.{choose}
use Rattle.calculus_needs.specs.Numbers.{Numbers, none, ◌⊕◌, dearer}
use Rattle.calculus_needs.specs.Needs.{once, uses, binds}
use Rattle.calculus_needs.proofs.Shift.{shift, raised}
use Rattle.image_needs.specs.declared.Needs.{Needs}
use Rattle.need_sums.specs.declared.shapes.Own.{Own}
use Rattle.need_sums.specs.declared.shapes.Role.{Role}
use Rattle.need_sums.specs.declared.positions.Position.{Position}
use Rattle.need_sums.specs.Sums.{cut, cut_needs, no_needs, add_needs, dearer_needs, raised_to, raise_needs}
use Rattle.need_sums.specs.Walks.{place_limit, step_needs, charged_needs, reduction_needs, advice_start, advice_needs, is_advised, binds_variables, branch_needs, is_branch, added_needs, chosen_needs}
use Rattle.need_walk.specs.Counted.{here_of}
use Rattle.need_walk.proofs.Shapes.{own_numbers, branch_numbers}
use Rattle.need_walk.proofs.Rounds.{round_numbers}
use Rattle.need_walk.proofs.Modes.{added, offered}

same : {m n : Needs} → m.steps ≡ n.steps → m.bindings ≡ n.bindings → m.other_bindings ≡ n.other_bindings → m.pieces ≡ n.pieces → m.other_pieces ≡ n.other_pieces → m.cells ≡ n.cells
    → m.other_cells ≡ n.other_cells → m.labels ≡ n.labels → m.advice ≡ n.advice → m.frames ≡ n.frames → m.log ≡ n.log → m ≡ n
same {m} {n} a b b' p p' c c' l v f g =
    let these : (k : Needs) → Needs = λ k. record { steps = k.steps; bindings = k.bindings; other_bindings = k.other_bindings; pieces = k.pieces; other_pieces = k.other_pieces; cells = k.cells; other_cells = k.other_cells; labels = k.labels; advice = k.advice; frames = k.frames; log = k.log } in
    let all : these m ≡ these n = cc in
    all

pub cut_plus : (m n : Numbers) → cut_needs (m ⊕ n) ≡ add_needs (cut_needs m) (cut_needs n)
unfolding ◌⊕◌ cut_needs add_needs
cut_plus m n = same (omega arith) (omega arith) (omega arith) (omega arith) (omega arith) (omega arith) (omega arith) (omega arith) (omega arith) (omega arith) (omega arith)

pub cut_dearer : (m n : Numbers) → cut_needs (dearer m n) ≡ dearer_needs (cut_needs m) (cut_needs n)
unfolding dearer cut_needs dearer_needs
cut_dearer m n = same (omega arith) (omega arith) (omega arith) (omega arith) (omega arith) (omega arith) (omega arith) (omega arith) (omega arith) (omega arith) (omega arith)

pub cut_none : cut_needs none ≡ no_needs
unfolding cut_needs
cut_none = refl

-- A number that is cut is 0 where it was, and only there.
raised_cut : (s d f : ℕ) → raised_to (cut s) d (cut f) ≡ cut (raised s d f)
raised_cut zero d f = refl
raised_cut (suc s) d f = look (cut (suc s)) (omega arith)
  where
    look : (n : ℕ) → 1 ≤ n → raised_to n d (cut f) ≡ cut (f + d)
    look zero h = absurd (omega arith)
    look (suc n) h = let z : cut (cut f + d) ≡ cut (f + d) = omega arith in rw (ne_eqb (suc n) 0 (λ e. absurd (omega arith))) z

pub cut_shift : (d : ℕ) (m : Numbers) → raise_needs d (cut_needs m) ≡ cut_needs (shift d m)
unfolding cut_needs raise_needs shift
cut_shift d m = same refl refl refl refl refl refl refl refl refl (raised_cut m.steps d m.frames) refl

-- What a term takes itself is small.
charged_cut : (d c b e g : ℕ) → d ≤ place_limit → b ≤ place_limit → e ≤ place_limit → g ≤ place_limit
    → charged_needs (step_needs d) c b e g ≡ cut_needs (once (record { dom = c; depth = d; kept = 0 }) ⊕ uses c (record { bindings = b; cells = e; pieces = g }))
unfolding ◌⊕◌ cut_needs
charged_cut d c b e g hd hb he hg = look (eqb c 0)
  where
    look : (t : Bool) → choose t
        (record { steps = 1; bindings = b; other_bindings = 0; pieces = g; other_pieces = 0; cells = e; other_cells = 0; labels = 0; advice = 0; frames = d; log = 0 })
        (record { steps = 1; bindings = 0; other_bindings = b; pieces = 0; other_pieces = g; cells = 0; other_cells = e; labels = 0; advice = 0; frames = d; log = 0 })
        ≡ cut_needs (once (record { dom = c; depth = d; kept = 0 })
        ⊕ record {
          steps = 0;
          used = record {
            mainline = choose t (record { bindings = b; cells = e; pieces = g }) (record { bindings = 0; cells = 0; pieces = 0 });
            others = choose t (record { bindings = 0; cells = 0; pieces = 0 }) (record { bindings = b; cells = e; pieces = g });
          };
          labels = 0;
          advices = 0;
          prints = 0;
          frames = 0;
        })
    look true = same refl (omega arith) refl (omega arith) refl (omega arith) refl refl refl (omega arith) refl
    look false = same refl refl (omega arith) refl (omega arith) refl (omega arith) refl refl (omega arith) refl

module _ (s : Position) (hd : s.depth ≤ place_limit) (hk : s.kept ≤ place_limit) where
  pub reduction_cut : (o : Own) (w : Numbers) → reduction_needs o s (cut_needs w) ≡ cut_needs (own_numbers o (here_of s) w)
  unfolding ◌⊕◌ cut_needs add_needs
  reduction_cut Own.Nothing w = refl
  reduction_cut Own.Step w = same refl refl refl refl refl refl refl refl refl (omega arith) refl
  reduction_cut Own.Label w = same refl refl refl refl refl refl refl refl refl (omega arith) refl
  reduction_cut Own.Print w = same refl refl refl refl refl refl refl refl refl (omega arith) refl
  reduction_cut Own.Advice w = same refl refl refl refl refl refl refl refl refl (omega arith) refl
  reduction_cut Own.Cell w = charged_cut s.depth s.dom.0 0 1 0 hd (omega arith) (omega arith) (omega arith)
  reduction_cut Own.Piece w = charged_cut s.depth s.dom.0 0 0 1 hd (omega arith) (omega arith) (omega arith)
  reduction_cut Own.Advised w = charged_cut s.depth s.dom.0 0 0 1 hd (omega arith) (omega arith) (omega arith)
  reduction_cut Own.Binding w = charged_cut s.depth s.dom.0 1 0 0 hd (omega arith) (omega arith) (omega arith)
  reduction_cut Own.TwoBindings w = charged_cut s.depth s.dom.0 2 0 0 hd (omega arith) (omega arith) (omega arith)
  reduction_cut Own.Stack w = charged_cut s.depth s.dom.0 0 0 s.kept hd (omega arith) (omega arith) hk
  reduction_cut Own.Mark w = same (omega arith) (omega arith) (omega arith) (omega arith) (omega arith) (omega arith) (omega arith) (omega arith) (omega arith) (omega arith) (omega arith)

  round_start : (p : ℕ) → advice_start s.depth p ≡ cut_needs (round_numbers true (here_of s) p)
  unfolding ◌⊕◌ cut_needs
  round_start p = look (eqb p 0)
    where
      look : (t : Bool) → choose t
          (record { steps = 2; bindings = 1; other_bindings = 0; pieces = 0; other_pieces = 0; cells = 0; other_cells = 0; labels = 0; advice = 0; frames = s.depth + 1; log = 0 })
          (record { steps = 2; bindings = 0; other_bindings = 1; pieces = 0; other_pieces = 0; cells = 0; other_cells = 0; labels = 0; advice = 0; frames = s.depth + 1; log = 0 })
          ≡ cut_needs (record {
            steps = 0;
            used = record {
              mainline = choose t (record { bindings = 1; cells = 0; pieces = 0 }) (record { bindings = 0; cells = 0; pieces = 0 });
              others = choose t (record { bindings = 0; cells = 0; pieces = 0 }) (record { bindings = 1; cells = 0; pieces = 0 });
            };
            labels = 0;
            advices = 0;
            prints = 0;
            frames = 0;
          }
          ⊕ (once (record { dom = s.dom.0; depth = suc s.depth; kept = s.kept }) ⊕ once (here_of s)))
      look true = same refl refl refl refl refl refl refl refl refl (omega arith) refl
      look false = same refl refl refl refl refl refl refl refl refl (omega arith) refl

  pub round_cut : (o : Own) (p : ℕ) → advice_needs o s p ≡ cut_needs (round_numbers (is_advised o) (here_of s) p)
  unfolding cut_needs
  round_cut o p = look (is_advised o)
    where
      look : (b : Bool) → choose b (advice_start s.depth p) no_needs ≡ cut_needs (round_numbers b (here_of s) p)
      look true = round_start p
      look false = refl

-- What a child adds, and what it offers.
pub added_cut : (s : Position) (role : Role) (x : Numbers) → added_needs s role (cut_needs x) ≡ cut_needs (added s role x)
added_cut s role x = look (is_branch s role)
  where
    look : (b : Bool) → choose b no_needs (cut_needs x) ≡ cut_needs (choose b none x)
    look true = sym cut_none
    look false = refl

bound_cut : (c v : ℕ) → v ≤ place_limit → charged_needs no_needs c v 0 0 ≡ cut_needs (binds c v)
unfolding cut_needs
bound_cut c v h = look (eqb c 0)
  where
    look : (t : Bool) → choose t
        (record { steps = 0; bindings = v; other_bindings = 0; pieces = 0; other_pieces = 0; cells = 0; other_cells = 0; labels = 0; advice = 0; frames = 0; log = 0 })
        (record { steps = 0; bindings = 0; other_bindings = v; pieces = 0; other_pieces = 0; cells = 0; other_cells = 0; labels = 0; advice = 0; frames = 0; log = 0 })
        ≡ cut_needs (record {
          steps = 0;
          used = record {
            mainline = choose t (record { bindings = v; cells = 0; pieces = 0 }) (record { bindings = 0; cells = 0; pieces = 0 });
            others = choose t (record { bindings = 0; cells = 0; pieces = 0 }) (record { bindings = v; cells = 0; pieces = 0 });
          };
          labels = 0;
          advices = 0;
          prints = 0;
          frames = 0;
        })
    look true = same refl (omega arith) refl refl refl refl refl refl refl refl refl
    look false = same refl refl (omega arith) refl refl refl refl refl refl refl refl

branch_cut : (s : Position) (role : Role) (v : ℕ) → v ≤ place_limit → branch_needs s role v ≡ cut_needs (branch_numbers s.dom.0 role v)
branch_cut s role v h = look (binds_variables role)
  where
    look : (b : Bool) → choose b (charged_needs no_needs s.dom.0 v 0 0) no_needs ≡ cut_needs (choose b (binds s.dom.0 v) none)
    look true = bound_cut s.dom.0 v h
    look false = sym cut_none

pub chosen_cut : (s : Position) (role : Role) (v : ℕ) (x : Numbers) → v ≤ place_limit → chosen_needs s role v (cut_needs x) ≡ cut_needs (offered s role v x)
chosen_cut s role v x h = look (is_branch s role)
  where
    look : (b : Bool) → choose b (add_needs (branch_needs s role v) (cut_needs x)) no_needs ≡ cut_needs (choose b (branch_numbers s.dom.0 role v ⊕ x) none)
    look true = ap (λ y. add_needs y (cut_needs x)) (branch_cut s role v h) ∙ sym (cut_plus (branch_numbers s.dom.0 role v) x)
    look false = sym cut_none
