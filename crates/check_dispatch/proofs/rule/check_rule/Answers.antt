-- Each arm: its rule is asked on the fields that its kind has, and its answer is the definition's.
use Rattle.std.specs.Prelude.{◌≡◌, ℕ, ◌+◌, ◌<◌, List, length, Ok}
use native.Mathlib.Omega.{arith}
use mathlib.Core.Path.{sym, subst, ◌∙◌}
use lib.Dec.{lit<}
use Rattle.image.specs.Bytes.{number_at}
use Rattle.image.specs.Kinds.{TermKind, term_row, lead_of}
use Rattle.image.specs.Layout.{records_of}
use Rattle.image.specs.Types.{term_place, term_kind}
use Rattle.verdict.specs.Answers.{Verdict}
use Rattle.verdict.specs.Settings.{Setting}
use Rattle.read_terms.specs.Lent.{Lent, TypeOffsets, Masks, IsTerm}
use Rattle.read_terms.specs.Fields.{fields_of, count_in, Typed, AtField, Labels, Bodies, Entries}
use Rattle.check_rules.specs.Rules.{rule_in}
use Rattle.check_rules.specs.Judged.{judged, rule_verdict}
use Rattle.read_terms.proofs.Elimination.{before_last, apart, last_kind}
use Rattle.read_terms.proofs.Located.{number_is, kind_read, typed_in, at_field_in, labels_in, bodies_in, call_long, takedown_long, entries_in_lem}
use Rattle.read_terms.proofs.Counts.{match_count}
use Rattle.check_rules.proofs.Verdict.{verdict_in, answered_in}
use Rattle.check_rules.proofs.OnDescriptors.{abort_right}
use Rattle.check_dispatch.proofs.rule.check_rule.Goals as goal

-- The place before the match: the term's place, its fields and its kind are read.
record Here (b types terms descriptors ms fs : List ℕ) (n at kind : ℕ) : Type 0 where
  lent : Lent b terms descriptors
  offsets : TypeOffsets b types
  there : IsTerm b n
  above : 35 < number_at b (term_place (records_of b) n)
  masks : Masks b ms
  place : at ≡ term_place (records_of b) n
  -- The fields that were read.
  fields : fs ≡ fields_of b n
  read : kind ≡ number_at b (term_place (records_of b) n)

here : {b types terms descriptors ms fs : List ℕ} {n at kind : ℕ}
    → Lent b terms descriptors × TypeOffsets b types × IsTerm b n × (35 < number_at b (term_place (records_of b) n)) × Masks b ms
    → at ≡ term_place (records_of b) n → fs ≡ fields_of b n → kind ≡ number_at b (term_place (records_of b) n) → Here b types terms descriptors ms fs n at kind
here p e f k = record { lent = p.0; offsets = p.1; there = p.2; above = p.3; masks = p.4; place = e; fields = f; read = k }

abbrev setting : ℕ → List ℕ → Setting ℕ
setting d Γ = record { context = Γ; dom = d }

module _ {b types terms descriptors ms fs : List ℕ} {n at kind : ℕ} (w : Here b types terms descriptors ms fs n at kind) where
  abbrev lent : Lent b terms descriptors
  lent = w.lent

  abbrev offsets : TypeOffsets b types
  offsets = w.offsets

  abbrev there : IsTerm b n
  there = w.there

  abbrev masks : Masks b ms
  masks = w.masks

  -- What holds of the term's fields holds of those that were read.
  of_read : (P : List ℕ → Type 0) → P (fields_of b n) → P fs
  of_read P h = subst P (sym w.fields) h

  typed : Typed b fs
  typed = of_read (Typed b) (typed_in lent.terms there)

  kind_of_lem : (k : TermKind) → kind ≡ (term_row k).number → term_kind (records_of b) n ≡ k
  kind_of_lem k e = kind_read lent.terms there _ w.read k e

  -- The last arm's kind.
  last_of : apart kind before_last → term_kind (records_of b) n ≡ TermKind.byte
  last_of h = last_kind _ h (term_kind (records_of b) n) (w.read ∙ number_is lent.terms there) (rw w.read w.above)

  labels : term_kind (records_of b) n ≡ TermKind.pcd → Labels b fs
  labels e = of_read (Labels b) (labels_in lent.terms there e)

  bodies : term_kind (records_of b) n ≡ TermKind.obj → Bodies b fs
  bodies e = of_read (Bodies b) (bodies_in lent.terms there e)

  call_fields : term_kind (records_of b) n ≡ TermKind.call → 5 < length fs
  call_fields e = of_read (λ q. 5 < length q) (call_long lent.terms there e)

  takedown_fields : term_kind (records_of b) n ≡ TermKind.takedown → 3 < length fs
  takedown_fields e = of_read (λ q. 3 < length q) (takedown_long lent.terms there e)

  entries : term_kind (records_of b) n ≡ TermKind.match → Entries b fs
  entries e = of_read (Entries b) (entries_in_lem lent.terms there e)

  module _ {k : TermKind} (e : term_kind (records_of b) n ≡ k) where
    child : (i : ℕ) → i < count_in (fields_of b n) k → AtField b fs (lead_of k + i)
    child i h = of_read (λ q. AtField b q (lead_of k + i)) (at_field_in lent.terms there e i h)

    -- What the rule of a term with one child asks, with two and with three; and where it looks at domains too.
    one_child : 0 < count_in (fields_of b n) k → Lent b terms descriptors × Typed b fs × AtField b fs (lead_of k + 0)
    one_child h = (lent, typed, child 0 h)

    two_children : 1 < count_in (fields_of b n) k → Lent b terms descriptors × Typed b fs × AtField b fs (lead_of k + 0) × AtField b fs (lead_of k + 1)
    two_children h = (lent, typed, child 0 (omega arith), child 1 h)

    three_children : 2 < count_in (fields_of b n) k → Lent b terms descriptors × Typed b fs × AtField b fs (lead_of k + 0) × AtField b fs (lead_of k + 1) × AtField b fs (lead_of k + 2)
    three_children h = (lent, typed, child 0 (omega arith), child 1 (omega arith), child 2 h)

    one_and_masks : 0 < count_in (fields_of b n) k → Lent b terms descriptors × Typed b fs × AtField b fs (lead_of k + 0) × Masks b ms
    one_and_masks h = (lent, typed, child 0 h, masks)

    two_and_masks : 1 < count_in (fields_of b n) k → Lent b terms descriptors × Typed b fs × AtField b fs (lead_of k + 0) × AtField b fs (lead_of k + 1) × Masks b ms
    two_and_masks h = (lent, typed, child 0 (omega arith), child 1 h, masks)

    answered : (d : ℕ) {r : Verdict} → ((Γ : List ℕ) → r ≡ judged at (rule_in b fs k (setting d Γ))) → (Γ : List ℕ) → r ≡ rule_verdict (records_of b) (setting d Γ) n
    answered d h Γ = answered_in lent.terms there e (setting d Γ) w.place w.fields (h Γ)

  answer : (k : TermKind) → kind ≡ (term_row k).number → (d : ℕ) {r : Verdict} → ((Γ : List ℕ) → r ≡ judged at (rule_in b fs k (setting d Γ)))
      → (Γ : List ℕ) → r ≡ rule_verdict (records_of b) (setting d Γ) n
  answer k e d h = answered (kind_of_lem k e) d h

  -- Besides its entries a match has three children.
  match_child : term_kind (records_of b) n ≡ TermKind.match → (i : ℕ) → i < 3 → AtField b fs (1 + i)
  match_child e i h = let m = match_count (fields_of b n) in child e i (omega arith)

  aborted : term_kind (records_of b) n ≡ TermKind.abort → (d : ℕ) (Γ : List ℕ) → (Ok tt) ≡ rule_verdict (records_of b) (setting d Γ) n
  aborted e d Γ = abort_right (term_place (records_of b) n) b (fields_of b n) (setting d Γ) ∙ verdict_in lent.terms there e (setting d Γ)

pub check_pointcut-requires : goal.check_pointcut-requires
check_pointcut-requires c =
    let w = here c.requires c.term_place-at.ensures.0 c.term_fields-fields.ensures c.term_kind.ensures in
    let e = kind_of_lem w TermKind.pcd c.in-46.is in
    (lent w, typed w, labels w e, masks w)

pub check_object-requires : goal.check_object-requires
check_object-requires c =
    let w = here c.requires c.term_place-at.ensures.0 c.term_fields-fields.ensures c.term_kind.ensures in
    let e = kind_of_lem w TermKind.obj c.in-54.is in
    (lent w, offsets w, typed w, bodies w e)

pub check_method_call-requires : goal.check_method_call-requires
check_method_call-requires c =
    let w = here c.requires c.term_place-at.ensures.0 c.term_fields-fields.ensures c.term_kind.ensures in
    let e = kind_of_lem w TermKind.call c.in-55.is in
    (lent w, offsets w, typed w, child w e 0 (lit< tt), call_fields w e)

pub check_match-requires : goal.check_match-requires
check_match-requires c =
    let w = here c.requires c.term_place-at.ensures.0 c.term_fields-fields.ensures c.term_kind.ensures in
    let e = kind_of_lem w TermKind.match c.in-58.is in
    (lent w, typed w, match_child w e 0 (lit< tt), match_child w e 1 (lit< tt), match_child w e 2 (lit< tt), entries w e)

pub check_takedown-requires : goal.check_takedown-requires
check_takedown-requires c =
    let w = here c.requires c.term_place-at.ensures.0 c.term_fields-fields.ensures c.term_kind.ensures in
    let e = kind_of_lem w TermKind.takedown c.in-59.is in
    ((lent w).types, typed w, takedown_fields w e, masks w)

pub check_sequence-requires : goal.check_sequence-requires
check_sequence-requires c =
    let w = here c.requires c.term_place-at.ensures.0 c.term_fields-fields.ensures c.term_kind.ensures in
    two_children w (kind_of_lem w TermKind.seq c.in-36.is) (lit< tt)

pub check_print-requires : goal.check_print-requires
check_print-requires c =
    let w = here c.requires c.term_place-at.ensures.0 c.term_fields-fields.ensures c.term_kind.ensures in
    one_child w (kind_of_lem w TermKind.print c.in-37.is) (lit< tt)

pub check_choice-requires : goal.check_choice-requires
check_choice-requires c =
    let w = here c.requires c.term_place-at.ensures.0 c.term_fields-fields.ensures c.term_kind.ensures in
    three_children w (kind_of_lem w TermKind.ite c.in-38.is) (lit< tt)

pub check_pair-requires : goal.check_pair-requires
check_pair-requires c =
    let w = here c.requires c.term_place-at.ensures.0 c.term_fields-fields.ensures c.term_kind.ensures in
    two_children w (kind_of_lem w TermKind.pair c.in-39.is) (lit< tt)

pub check_split-requires : goal.check_split-requires
check_split-requires c =
    let w = here c.requires c.term_place-at.ensures.0 c.term_fields-fields.ensures c.term_kind.ensures in
    two_children w (kind_of_lem w TermKind.split c.in-40.is) (lit< tt)

pub check_function-requires : goal.check_function-requires
check_function-requires c =
    let w = here c.requires c.term_place-at.ensures.0 c.term_fields-fields.ensures c.term_kind.ensures in
    one_child w (kind_of_lem w TermKind.fun c.in-41.is) (lit< tt)

pub check_apply-requires : goal.check_apply-requires
check_apply-requires c =
    let w = here c.requires c.term_place-at.ensures.0 c.term_fields-fields.ensures c.term_kind.ensures in
    two_children w (kind_of_lem w TermKind.app c.in-42.is) (lit< tt)

pub check_arithmetic-requires : goal.check_arithmetic-requires
check_arithmetic-requires c =
    let w = here c.requires c.term_place-at.ensures.0 c.term_fields-fields.ensures c.term_kind.ensures in
    two_children w (kind_of_lem w TermKind.arith c.in-43.is) (lit< tt)

pub check_new_label-requires : goal.check_new_label-requires
check_new_label-requires c =
    let w = here c.requires c.term_place-at.ensures.0 c.term_fields-fields.ensures c.term_kind.ensures in
    ((lent w).types, typed w, masks w)

pub check_mark-requires : goal.check_mark-requires
check_mark-requires c =
    let w = here c.requires c.term_place-at.ensures.0 c.term_fields-fields.ensures c.term_kind.ensures in
    two_children w (kind_of_lem w TermKind.mark c.in-45.is) (lit< tt)

pub check_advice-requires : goal.check_advice-requires
check_advice-requires c =
    let w = here c.requires c.term_place-at.ensures.0 c.term_fields-fields.ensures c.term_kind.ensures in
    two_and_masks w (kind_of_lem w TermKind.adv c.in-47.is) (lit< tt)

pub check_install-requires : goal.check_install-requires
check_install-requires c =
    let w = here c.requires c.term_place-at.ensures.0 c.term_fields-fields.ensures c.term_kind.ensures in
    one_and_masks w (kind_of_lem w TermKind.install c.in-48.is) (lit< tt)

pub check_new_cell-requires : goal.check_new_cell-requires
check_new_cell-requires c =
    let w = here c.requires c.term_place-at.ensures.0 c.term_fields-fields.ensures c.term_kind.ensures in
    one_and_masks w (kind_of_lem w TermKind.new_cell c.in-49.is) (lit< tt)

pub check_read-requires : goal.check_read-requires
check_read-requires c =
    let w = here c.requires c.term_place-at.ensures.0 c.term_fields-fields.ensures c.term_kind.ensures in
    one_and_masks w (kind_of_lem w TermKind.read c.in-50.is) (lit< tt)

pub check_store-requires : goal.check_store-requires
check_store-requires c =
    let w = here c.requires c.term_place-at.ensures.0 c.term_fields-fields.ensures c.term_kind.ensures in
    two_and_masks w (kind_of_lem w TermKind.store c.in-51.is) (lit< tt)

pub check_lower-requires : goal.check_lower-requires
check_lower-requires c =
    let w = here c.requires c.term_place-at.ensures.0 c.term_fields-fields.ensures c.term_kind.ensures in
    one_and_masks w (kind_of_lem w TermKind.lower c.in-52.is) (lit< tt)

pub check_stack-requires : goal.check_stack-requires
check_stack-requires c =
    let w = here c.requires c.term_place-at.ensures.0 c.term_fields-fields.ensures c.term_kind.ensures in
    ((lent w).types, typed w)

pub check_keep-requires : goal.check_keep-requires
check_keep-requires c =
    let w = here c.requires c.term_place-at.ensures.0 c.term_fields-fields.ensures c.term_kind.ensures in
    three_children w (kind_of_lem w TermKind.keep c.in-57.is) (lit< tt)

pub check_byte-requires : goal.check_byte-requires
check_byte-requires c =
    let w = here c.requires c.term_place-at.ensures.0 c.term_fields-fields.ensures c.term_kind.ensures in
    one_child w (last_of w c.in_default.in_default-own.rest) (lit< tt)

pub returns-in-36 : goal.returns-in-36
returns-in-36 c =
    let w = here c.requires c.term_place-at.ensures.0 c.term_fields-fields.ensures c.term_kind.ensures in
    answer w TermKind.seq c.in-36.is c.args.c.0 (λ Γ. c.check_sequence.ensures (setting c.args.c.0 Γ))

pub returns-in-37 : goal.returns-in-37
returns-in-37 c =
    let w = here c.requires c.term_place-at.ensures.0 c.term_fields-fields.ensures c.term_kind.ensures in
    answer w TermKind.print c.in-37.is c.args.c.0 (λ Γ. c.check_print.ensures (setting c.args.c.0 Γ))

pub returns-in-38 : goal.returns-in-38
returns-in-38 c =
    let w = here c.requires c.term_place-at.ensures.0 c.term_fields-fields.ensures c.term_kind.ensures in
    answer w TermKind.ite c.in-38.is c.args.c.0 (λ Γ. c.check_choice.ensures (setting c.args.c.0 Γ))

pub returns-in-39 : goal.returns-in-39
returns-in-39 c =
    let w = here c.requires c.term_place-at.ensures.0 c.term_fields-fields.ensures c.term_kind.ensures in
    answer w TermKind.pair c.in-39.is c.args.c.0 (λ Γ. c.check_pair.ensures (setting c.args.c.0 Γ))

pub returns-in-40 : goal.returns-in-40
returns-in-40 c =
    let w = here c.requires c.term_place-at.ensures.0 c.term_fields-fields.ensures c.term_kind.ensures in
    answer w TermKind.split c.in-40.is c.args.c.0 (λ Γ. c.check_split.ensures (setting c.args.c.0 Γ))

pub returns-in-41 : goal.returns-in-41
returns-in-41 c =
    let w = here c.requires c.term_place-at.ensures.0 c.term_fields-fields.ensures c.term_kind.ensures in
    answer w TermKind.fun c.in-41.is c.args.c.0 (λ Γ. c.check_function.ensures (setting c.args.c.0 Γ))

pub returns-in-42 : goal.returns-in-42
returns-in-42 c =
    let w = here c.requires c.term_place-at.ensures.0 c.term_fields-fields.ensures c.term_kind.ensures in
    answer w TermKind.app c.in-42.is c.args.c.0 c.check_apply.ensures

pub returns-in-43 : goal.returns-in-43
returns-in-43 c =
    let w = here c.requires c.term_place-at.ensures.0 c.term_fields-fields.ensures c.term_kind.ensures in
    answer w TermKind.arith c.in-43.is c.args.c.0 (λ Γ. c.check_arithmetic.ensures (setting c.args.c.0 Γ))

pub returns-in-44 : goal.returns-in-44
returns-in-44 c =
    let w = here c.requires c.term_place-at.ensures.0 c.term_fields-fields.ensures c.term_kind.ensures in
    answer w TermKind.new_label c.in-44.is c.args.c.0 c.check_new_label.ensures

pub returns-in-45 : goal.returns-in-45
returns-in-45 c =
    let w = here c.requires c.term_place-at.ensures.0 c.term_fields-fields.ensures c.term_kind.ensures in
    answer w TermKind.mark c.in-45.is c.args.c.0 c.check_mark.ensures

pub returns-in-46 : goal.returns-in-46
returns-in-46 c =
    let w = here c.requires c.term_place-at.ensures.0 c.term_fields-fields.ensures c.term_kind.ensures in
    answer w TermKind.pcd c.in-46.is c.args.c.0 (λ Γ. c.check_pointcut.ensures (setting c.args.c.0 Γ))

pub returns-in-47 : goal.returns-in-47
returns-in-47 c =
    let w = here c.requires c.term_place-at.ensures.0 c.term_fields-fields.ensures c.term_kind.ensures in
    answer w TermKind.adv c.in-47.is c.args.c.0 (λ Γ. c.check_advice.ensures (setting c.args.c.0 Γ))

pub returns-in-48 : goal.returns-in-48
returns-in-48 c =
    let w = here c.requires c.term_place-at.ensures.0 c.term_fields-fields.ensures c.term_kind.ensures in
    answer w TermKind.install c.in-48.is c.args.c.0 c.check_install.ensures

pub returns-in-49 : goal.returns-in-49
returns-in-49 c =
    let w = here c.requires c.term_place-at.ensures.0 c.term_fields-fields.ensures c.term_kind.ensures in
    answer w TermKind.new_cell c.in-49.is c.args.c.0 c.check_new_cell.ensures

pub returns-in-50 : goal.returns-in-50
returns-in-50 c =
    let w = here c.requires c.term_place-at.ensures.0 c.term_fields-fields.ensures c.term_kind.ensures in
    answer w TermKind.read c.in-50.is c.args.c.0 c.check_read.ensures

pub returns-in-51 : goal.returns-in-51
returns-in-51 c =
    let w = here c.requires c.term_place-at.ensures.0 c.term_fields-fields.ensures c.term_kind.ensures in
    answer w TermKind.store c.in-51.is c.args.c.0 c.check_store.ensures

pub returns-in-52 : goal.returns-in-52
returns-in-52 c =
    let w = here c.requires c.term_place-at.ensures.0 c.term_fields-fields.ensures c.term_kind.ensures in
    answer w TermKind.lower c.in-52.is c.args.c.0 c.check_lower.ensures

pub returns-in-53 : goal.returns-in-53
returns-in-53 c =
    let w = here c.requires c.term_place-at.ensures.0 c.term_fields-fields.ensures c.term_kind.ensures in
    aborted w (kind_of_lem w TermKind.abort c.in-53.is) c.args.c.0

pub returns-in-54 : goal.returns-in-54
returns-in-54 c =
    let w = here c.requires c.term_place-at.ensures.0 c.term_fields-fields.ensures c.term_kind.ensures in
    answer w TermKind.obj c.in-54.is c.args.c.0 (λ Γ. c.check_object.ensures (setting c.args.c.0 Γ))

pub returns-in-55 : goal.returns-in-55
returns-in-55 c =
    let w = here c.requires c.term_place-at.ensures.0 c.term_fields-fields.ensures c.term_kind.ensures in
    answer w TermKind.call c.in-55.is c.args.c.0 c.check_method_call.ensures

pub returns-in-56 : goal.returns-in-56
returns-in-56 c =
    let w = here c.requires c.term_place-at.ensures.0 c.term_fields-fields.ensures c.term_kind.ensures in
    answer w TermKind.stack c.in-56.is c.args.c.0 (λ Γ. c.check_stack.ensures (setting c.args.c.0 Γ))

pub returns-in-57 : goal.returns-in-57
returns-in-57 c =
    let w = here c.requires c.term_place-at.ensures.0 c.term_fields-fields.ensures c.term_kind.ensures in
    answer w TermKind.keep c.in-57.is c.args.c.0 c.check_keep.ensures

pub returns-in-58 : goal.returns-in-58
returns-in-58 c =
    let w = here c.requires c.term_place-at.ensures.0 c.term_fields-fields.ensures c.term_kind.ensures in
    answer w TermKind.match c.in-58.is c.args.c.0 (λ Γ. c.check_match.ensures (setting c.args.c.0 Γ))

pub returns-in-59 : goal.returns-in-59
returns-in-59 c =
    let w = here c.requires c.term_place-at.ensures.0 c.term_fields-fields.ensures c.term_kind.ensures in
    answer w TermKind.takedown c.in-59.is c.args.c.0 c.check_takedown.ensures

pub returns-in_default : goal.returns-in_default
returns-in_default c =
    let w = here c.requires c.term_place-at.ensures.0 c.term_fields-fields.ensures c.term_kind.ensures in
    answered w (last_of w c.in_default.in_default-own.rest) c.args.c.0 (λ Γ. c.check_byte.ensures (setting c.args.c.0 Γ))
