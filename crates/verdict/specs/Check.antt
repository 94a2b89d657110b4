-- Refusals 13 to 16: the typing pass (document 01, "Typing" and "Turned back at the gate").
use Rattle.std.specs.Prelude.{ℕ, zero, suc, List, [], ◌∷◌, map, length, Ok, Err}
use Rattle.std.proofs.Math.Option.{none, some}
use Rattle.calculus.specs.Syntax.{Dom}
use Rattle.calculus.specs.Plain.{is_plain}
use Rattle.image.specs.declared.Refusal.{Refusal}
use Rattle.laws.specs.Tests.{first_fault}
use Rattle.image.specs.Kinds.{TermKind, body_of}
use Rattle.image.specs.Records.{Layout}
use Rattle.image.specs.Types.{term_place, type_number, type_field, method_count, term_kind, type_no, type_of, others, children, root_of, root_type}
use Rattle.verdict.specs.Answers.{require, in_turn, Verdict, refused_at}
use Rattle.verdict.specs.Domains.{leq}
use Rattle.verdict.specs.Settings.{Setting, context_of, domain_of}
use Rattle.verdict.specs.Rules.{Descriptor, Rule, rule_faults, rule}

module _ (L : Layout) where
  -- The descriptor of type a, those of some types, and the type numbers that terms state.
  abbrev pub describe : ℕ → Descriptor
  describe a = record { number = a; kind = type_number L a; part = λ i. type_field L a i; methods = method_count L a }

  abbrev pub described : List ℕ → List Descriptor
  described ts = map describe ts

  abbrev pub type_nos : List ℕ → List ℕ
  type_nos es = map (λ e. type_no L e) es

  -- The rule of a term of kind k, of type number t, with children of the type numbers ts.
  abbrev pub rule_by : List ℕ → Dom → ℕ → List ℕ → List ℕ → TermKind → Rule
  rule_by Γ c t vs ts k = rule (leq L) Γ c (describe t) vs (described ts) k

  -- The rule of term n where it stands, and where its child i stands.
  abbrev pub rule_at : Setting ℕ → ℕ → Rule
  rule_at p n = rule_by p.context p.dom (type_no L n) (others L n) (type_nos (children L n)) (term_kind L n)

  abbrev pub setting_at : Setting ℕ → ℕ → ℕ → Setting ℕ
  setting_at p n i =
      record {
        context = context_of (λ a. type_field L a 0) (λ a. type_field L a 1) (body_of (term_kind L n) i) (type_no L n) (others L n) (type_nos (children L n)) p.context;
        dom = domain_of (body_of (term_kind L n) i) (type_of L (type_no L n)) (others L n) p.dom i;
      }

  -- Children, left first: check i e is of child i, which is term e.
  unfoldable pub check_all : (ℕ → ℕ → Verdict) → ℕ → List ℕ → Verdict
  check_all check i [] = Ok tt
  check_all check i (e ∷ es) = elim (check i e) [ Ok tt ↦ check_all check (suc i) es | Err refusal ↦ Err refusal ]

  -- "13, 14, 15 at each term, parent before children, left first." A term's children have lower numbers (7), so a fuel of n + 1 is enough: every fuel above n gives the same (the law `check_fuel`).
  unfoldable pub check : ℕ → Setting ℕ → ℕ → Verdict
  check zero p n = refused_at Refusal.FieldRange (term_place L n)
  check (suc f) p n =
      elim (first_fault (rule_faults (rule_at p n))) [
        | some r ↦ refused_at r (term_place L n)
        | none ↦ check_all (λ i e. check f (setting_at p n i) e) 0 (children L n)
      ]

  -- The same with no fuel to give: of a term and the terms below it.
  unfoldable pub checked : Setting ℕ → ℕ → Verdict
  checked p n = check (suc n) p n

  -- "The root is checked at domain 0."
  abbrev pub root_setting : Setting ℕ
  root_setting = record { context = []; dom = 0 }

  -- 13 to 16, in their order.
  unfoldable pub typing : Verdict
  typing =
      in_turn
      ((λ u. check (length L.terms) root_setting (root_of L))
      ∷ (λ u. require (is_plain (root_type L)) Refusal.RootNotPlain (term_place L (root_of L)))
      ∷ [])
