-- `check_layout::enter` meets its contract: what is known at each place goes to the laws of one record (`Entering`).
use Rattle.std.specs.Prelude.{Result}
use Prim.Native.Nat.{ℕ}
use native.Mathlib.Omega.{arith}
use mathlib.Core.Path.{◌≡◌, sym, ap, subst, ◌∙◌}
use mathlib.Core.Bool.{Bool, true, false}
use mathlib.Core.List.{List}
use lib.Dec.{eqb}
use Rattle.image.specs.declared.Refusal.{Refusal}
use Rattle.read_records.specs.declared.numbers.Counts.{Counts}
use Rattle.laws.specs.Tests.{first_fault}
use Rattle.laws.proofs.Booleans.{no_path, eq_of, of_eq}
use lib.ListN.{length}
use Rattle.read_records.specs.Codes.{section_of, code_at, Sized}
use Rattle.read_records.proofs.Codes.{code_sized}
use Rattle.read_records.proofs.Heads.{whole_of}
use Rattle.check_fields.specs.Fields.{type_count, DescriptorFrom}
use Rattle.check_ranges.specs.Numbers.{number_tests, told_of}
use Rattle.check_ranges.specs.Terms.{TermFields}
use Rattle.std.proofs.lemmas.Result.{err_from_is_err_and}
use Rattle.check_layout.proofs.Entering.{full, placed, unknown_entry, fault_entry, kind_narrow, fields_narrow, type_held, domain_capacity, type_capacity, domain_entry, repeated_entry, type_entry, marks_long, term_fields_lem, term_answer}
use Rattle.check_layout.proofs.enter.Goals as goal

-- A record that is a term's, and so has a known kind; one that is none.
section_is : {x y n : ℕ} {r : Bool} → x ≡ y → r ≡ eqb (section_of x) n → r ≡ true → section_of y ≡ n
section_is e h t = ap section_of (sym e) ∙ eq_of (sym h ∙ t)

known_term : {y : ℕ} → section_of y ≡ 3 → y ≡ 0 → ⊥
known_term s e = let z : ◌≡◌ {A = ℕ} 0 3 = ap section_of (sym e) ∙ s in absurd (omega arith)

no_term : {x y : ℕ} {r : Bool} → x ≡ y → r ≡ eqb (section_of x) 3 → r ≡ false → section_of y ≡ 3 → ⊥
no_term e h f s = no_path (sym (h ∙ of_eq (ap section_of e ∙ s)) ∙ f)

-- What 4 to 7 answer, by the kind's code.
told : (fs : List ℕ) (n : Counts) {t t' : Result (Unit {0}) Refusal} {x y : ℕ} → t ≡ t' → x ≡ y → told_of t ≡ first_fault (number_tests fs x n) → told_of t' ≡ first_fault (number_tests fs y n)
told fs n i e h = ap told_of (sym i) ∙ (h ∙ ap (λ z. first_fault (number_tests fs z n)) e)

-- A type's section and its descriptor.
typed : {x y s : ℕ} → x ≡ y → s ≡ section_of x → s ≡ 2 → section_of y ≡ 2
typed e h i = ap section_of (sym e) ∙ (sym h ∙ i)

untyped : {x y s : ℕ} → x ≡ y → s ≡ section_of x → (s ≡ 2 → ⊥) → section_of y ≡ 2 → ⊥
untyped e h other i = other (h ∙ (ap section_of e ∙ i))

described : {x y : ℕ} {fs : List ℕ} {k d : ℕ} → x ≡ y → DescriptorFrom fs (type_count x (length fs)) k d → DescriptorFrom fs (type_count y (length fs)) k d
described {fs = fs} {k = k} {d = d} e h = subst (λ z. DescriptorFrom fs (type_count z (length fs)) k d) e h

pub enter_term-requires : goal.enter_term-requires
enter_term-requires c =
    let a = c.args in
    let R = c.requires.is in
    let W = whole_of a.image.now a.at c.requires.len a.kind R.head in
    let h = R.short in
    let z = full R in
    let s = section_is c.code_of-code.ensures c.is_term.ensures c.if-is_term.true in
    (subst (λ y. TermFields a.fields.now y a.counts) (sym c.code_of-code.ensures) (term_fields_lem R (known_term s) s), omega arith, omega arith, R.tables.few, R.tables.long.terms, marks_long R)

pub returns-then-is_term : goal.returns-then-is_term
returns-then-is_term c =
    let s = section_is c.code_of-code.ensures c.is_term.ensures c.if-is_term.true in
    record { entered = λ q R. term_answer R (known_term s) s (rw c.code_of-code.ensures at c.enter_term.ensures) }

pub returns-then-code-eq0 : goal.returns-then-code-eq0
returns-then-code-eq0 c = record { entered = λ n R. unknown_entry R (sym c.code_of-code.ensures ∙ c.if-code-eq0.true) }

pub first_fault-requires : goal.first_fault-requires
first_fault-requires c =
    let a = c.args in
    let R = c.requires.is in
    let W = whole_of a.image.now a.at c.requires.len a.kind R.head in
    let h = R.short in
    let z = full R in
    (omega arith, subst Sized (sym c.code_of-code.ensures) (code_sized a.kind (λ e. c.if-code-eq0.false (c.code_of-code.ensures ∙ e))))

pub returns-in_err-first_fault : goal.returns-in_err-first_fault
returns-in_err-first_fault c =
    let p = err_from_is_err_and c.from_residual.result c.from_residual.ensures.1 in
    rw (p.1, p.2) (record { entered = λ n R. fault_entry R (λ e. c.if-code-eq0.false (c.code_of-code.ensures ∙ e)) _ (told _ _ c.in_err-first_fault.was c.code_of-code.ensures c.first_fault.ensures) })

pub descriptor_of-descriptor-requires : goal.descriptor_of-descriptor-requires
descriptor_of-descriptor-requires c =
    let e = c.code_of-code.ensures in
    let R = c.requires.is in
    let u : code_at c.args.kind ≡ 0 → ⊥ = λ z. c.if-code-eq0.false (e ∙ z) in
    let p = told _ _ c.in_ok-first_fault.was e c.first_fault.ensures in
    let s = typed e c.section_of.ensures c.if-section_of-eq-TYPES.true in
    (rw e (type_held R u p s), kind_narrow R u p, rw e (fields_narrow R u p s))

pub put_type-requires : goal.put_type-requires
put_type-requires c =
    let a = c.args in
    let e = c.code_of-code.ensures in
    let R = c.requires.is in
    let u : code_at c.args.kind ≡ 0 → ⊥ = λ z. c.if-code-eq0.false (e ∙ z) in
    let p = told _ _ c.in_ok-first_fault.was e c.first_fault.ensures in
    let W = whole_of a.image.now a.at c.requires.len a.kind R.head in
    let h = R.short in
    let r = type_capacity R u p (typed e c.section_of.ensures c.if-section_of-eq-TYPES.true) in
    let d = R.tables.long.types in
    let l = R.tables.long.descriptors in
    let n = c.next.ensures in
    (omega arith, rw n r, omega arith, omega arith, rw n R.filter, rw n (placed R))

pub returns-in_err-put_type : goal.returns-in_err-put_type
returns-in_err-put_type c =
    let e = c.code_of-code.ensures in
    let u : code_at c.args.kind ≡ 0 → ⊥ = λ z. c.if-code-eq0.false (e ∙ z) in
    let p = told _ _ c.in_ok-first_fault.was e c.first_fault.ensures in
    let s = typed e c.section_of.ensures c.if-section_of-eq-TYPES.true in
    let g = err_from_is_err_and c.from_residual-in_err-put_type.result c.from_residual-in_err-put_type.ensures.1 in
    rw (g.1, g.2) (record { entered = λ q R. repeated_entry R u p s (described e c.descriptor_of-descriptor.ensures) (rw c.next.ensures at c.put_type.ensures) c.in_err-put_type.was })

pub with_one-requires : goal.with_one-requires
with_one-requires c = c.requires.is.tables.few

pub returns-then-section_of-eq-TYPES : goal.returns-then-section_of-eq-TYPES
returns-then-section_of-eq-TYPES c =
    let e = c.code_of-code.ensures in
    let u : code_at c.args.kind ≡ 0 → ⊥ = λ z. c.if-code-eq0.false (e ∙ z) in
    let p = told _ _ c.in_ok-first_fault.was e c.first_fault.ensures in
    let s = typed e c.section_of.ensures c.if-section_of-eq-TYPES.true in
    record { entered = λ q R. rw c.with_one.ensures (type_entry R u p s (described e c.descriptor_of-descriptor.ensures) (rw c.next.ensures at c.put_type.ensures) c.in_ok-put_type.was) }

pub put_domain-requires : goal.put_domain-requires
put_domain-requires c =
    let a = c.args in
    let e = c.code_of-code.ensures in
    let R = c.requires.is in
    let u : code_at c.args.kind ≡ 0 → ⊥ = λ z. c.if-code-eq0.false (e ∙ z) in
    let p = told _ _ c.in_ok-first_fault.was e c.first_fault.ensures in
    let W = whole_of a.image.now a.at c.requires.len a.kind R.head in
    let h = R.short in
    let r = domain_capacity R u p (no_term e c.is_term.ensures c.if-is_term.false) (untyped e c.section_of.ensures c.if-section_of-eq-TYPES.false) in
    let d = R.tables.long.doms in
    let n = c.next-2.ensures in
    (omega arith, omega arith)

pub returns : goal.returns
returns c =
    let e = c.code_of-code.ensures in
    let u : code_at c.args.kind ≡ 0 → ⊥ = λ z. c.if-code-eq0.false (e ∙ z) in
    let p = told _ _ c.in_ok-first_fault.was e c.first_fault.ensures in
    record { entered = λ q R. rw (c.with_one-2.ensures, c.put_domain.ensures, c.next-2.ensures) (domain_entry R u p (no_term e c.is_term.ensures c.if-is_term.false) (untyped e c.section_of.ensures c.if-section_of-eq-TYPES.false)) }
