-- The rule of a term on its fields comes to the definition's verdict; and its children stand where the definition says.
use Prim.Native.Nat.{ℕ, ◌-◌, ◌≤◌, ◌<◌}
use mathlib.Core.Path.{◌≡◌, sym, ap, ◌∙◌}
use mathlib.Core.Bool.{true}
use mathlib.Core.List.{List}
use lib.ListN.{length, get_or}
use lib.Dec.{eqb, ltb}
use borrow.Author.Tests.{lt-ltb, le-ltb}
use Rattle.image.specs.declared.Refusal.{Refusal}
use Rattle.image.specs.Bytes.{words}
use Rattle.image.specs.Kinds.{TermKind}
use Rattle.image.specs.Layout.{records_of}
use Rattle.image.specs.Types.{term_place, term_kind}
use Rattle.verdict.specs.Answers.{Verdict, refused_at}
use Rattle.verdict.specs.Settings.{Setting}
use Rattle.verdict.specs.Check.{rule_at, setting_at}
use Rattle.read_records.specs.Heads.{field_in}
use Rattle.read_terms.specs.Lent.{Terms, IsTerm}
use Rattle.check_rules.specs.Scopes.{context_in, setting_in}
use Rattle.read_terms.specs.Fields.{fields_of}
use Rattle.check_rules.specs.Rules.{rule_in, setting_from}
use Rattle.check_rules.specs.Judged.{judged, rule_verdict}
use Rattle.check_rules.proofs.Small.{unbound}
use Rattle.check_rules.proofs.Scopes.{context_length, context_at}
use Rattle.read_terms.proofs.Located.{type_in_lem, children_in_lem, others_in_lem}

module _ {b table : List ℕ} (T : Terms b table) {n : ℕ} (h : IsTerm b n) {k : TermKind} (e : term_kind (records_of b) n ≡ k) (p : Setting ℕ) where
  rule_in_lem : rule_in b (fields_of b n) k p ≡ rule_at (records_of b) p n
  rule_in_lem =
      let t = type_in_lem T h in
      let v = others_in_lem T h e in
      let c = children_in_lem T h e in
      cc

  pub verdict_in : judged (term_place (records_of b) n) (rule_in b (fields_of b n) k p) ≡ rule_verdict (records_of b) p n
  unfolding rule_verdict
  verdict_in = ap (judged (term_place (records_of b) n)) rule_in_lem

  -- What a rule answers at the term's place, on its fields.
  pub answered_in : {at : ℕ} {fs : List ℕ} {r : Verdict} → at ≡ term_place (records_of b) n → fs ≡ fields_of b n → r ≡ judged at (rule_in b fs k p) → r ≡ rule_verdict (records_of b) p n
  answered_in {at} {fs} e f g = g ∙ ap (λ q. judged q (rule_in b fs k p)) e ∙ ap (λ q. judged (term_place (records_of b) n) (rule_in b q k p)) f ∙ verdict_in

  pub setting_in_lem : (i : ℕ) → setting_from b (fields_of b n) k p i ≡ setting_at (records_of b) p n i
  setting_in_lem i =
      let t = type_in_lem T h in
      let v = others_in_lem T h e in
      let c = children_in_lem T h e in
      cc

-- A variable, in a scope whose first places hold the context.
module _ (b fs scope : List ℕ) (len c place : ℕ) where
  pub variable_unbound : len ≤ field_in fs 1 → refused_at Refusal.UnboundVariable place ≡ judged place (rule_in b fs TermKind.var (setting_in scope len c))
  unfolding words
  variable_unbound l = unbound place _ _ _ (rw (context_length scope len) (le-ltb _ _ l))

  pub variable_bound : field_in fs 1 < len
      → judged place (record { bound = true; typed = eqb (get_or scope (len - 1 - field_in fs 1) 0) (field_in fs 0); allowed = true }) ≡ judged place (rule_in b fs TermKind.var (setting_in scope len c))
  unfolding words
  variable_bound l =
      let x : true ≡ ltb (field_in fs 1) (length (context_in scope len)) = rw (context_length scope len) (sym (lt-ltb _ _ l)) in
      let y : get_or scope (len - 1 - field_in fs 1) 0 ≡ get_or (context_in scope len) (field_in fs 1) 0 = sym (context_at scope len _ l) in
      cc
