-- What acceptance asks (document 01, "The image", "Typing" and "Turned back at the gate"), said without an order of checks, a place or a pass over the image: its records are laid out, its domains are partially ordered, its terms are a tree that is not too deep, its program is well typed by the calculus's rules, with a plain root, and the lent memory is long enough.
use Rattle.std.specs.Prelude.{ℕ, suc, ◌≤◌, ◌<◌, ◌≡◌, true, List, [], length, get_or}
use Rattle.calculus.specs.Syntax.{Dom, Ty, Tm}
use Rattle.calculus.specs.Typing.{Policy, no_store, ◌⨾◌⊢◌⦂◌ as TmTy}
use Rattle.calculus.specs.Plain.{is_plain}
use Rattle.image.specs.Limits.{image_limit, depth_limit, work_length, report_length}
use Rattle.image.specs.Records.{Layout}
use Rattle.image.specs.Types.{children, root_of, root_type}
use Rattle.image.specs.LaidOut.{LaidOut}
use Rattle.image.specs.Program.{program}
use Rattle.verdict.specs.Domains.{leq, policy}
use Rattle.verdict.specs.Ascribed.{ascribed}

-- Figure 3's judgement before a run, with the order of the domains in front: D ∣ Γ ⨾ c ⊢ e ⦂ t.
infix 4 ◌∣◌⨾◌⊢◌⦂◌
abbrev ◌∣◌⨾◌⊢◌⦂◌ : Policy → List Ty → Dom → Tm → Ty → Type 0
D ∣ Γ ⨾ c ⊢ e ⦂ t = TmTy D no_store Γ c e t

module _ (L : Layout) where
  -- Masks name no absent domain, and are a partial order.
  pub record PartialOrder : Type 0 where
    pub there : (d e : Dom) → leq L d e ≡ true → (d < length L.domains) × (e < length L.domains)
    pub reflexive : (d : Dom) → d < length L.domains → leq L d d ≡ true
    pub antisymmetric : (d e : Dom) → leq L d e ≡ true → leq L e d ≡ true → d ≡ e
    pub transitive : (d e f : Dom) → leq L d e ≡ true → leq L e f ≡ true → leq L d f ≡ true

  -- Term e is child i of term n.
  pub record IsChild (n i e : ℕ) : Type 0 where
    pub there : n < length L.terms
    pub place : i < length (children L n)
    pub is : get_or (children L n) i 0 ≡ e

  -- "Used exactly once": as one child of one term, and as no other.
  pub record UsedOnce (e : ℕ) : Type 0 where
    pub user : ℕ
    pub place : ℕ
    pub uses : IsChild user place e
    pub only : (n i : ℕ) → IsChild n i e → (n ≡ user) × (i ≡ place)

  -- Term e has depth d: "root 1", and a child one more than the term whose child it is. Where each term but the root is used once, each has one depth (the laws `depth_of_lem` and `depth_is`).
  pub data Depth : ℕ → ℕ → Type 0 where
    at_root : Depth (root_of L) 1
    at_child : {n d i e : ℕ} → Depth n d → IsChild n i e → Depth e (suc d)

-- All that acceptance asks of an image, a work area and a report of so many bytes. No other records of the image are laid out (the law `acceptable_records`).
pub record Acceptable (b : List ℕ) (work report : ℕ) : Type 0 where
  -- 1
  pub short : length b ≤ image_limit
  -- 2 to 8
  pub records : Layout
  pub image : records.image ≡ b
  pub laid_out : LaidOut records
  -- 9
  pub has_domains : 0 < length records.domains
  pub has_types : 0 < length records.types
  pub has_terms : 0 < length records.terms
  -- 10
  pub ordered : PartialOrder records
  -- 11
  pub used : (n : ℕ) → n < root_of records → UsedOnce records n
  -- 12
  pub shallow : (n d : ℕ) → Depth records n d → d ≤ depth_limit
  -- 13 to 15: "Type rules are figures 2 and 3", and "the root is checked at domain 0": one derivation by these rules, at domain 0 and under no variables, of the whole program with every stated type in it
  pub well_typed : policy records ∣ [] ⨾ 0 ⊢ ascribed (program records) ⦂ root_type records
  -- 16
  pub plain : is_plain (root_type records) ≡ true
  -- 17 and 18
  pub work_enough : work_length ≤ work
  pub report_enough : report_length ≤ report
