-- `check_layout::scan_with` meets its contract: a stage of the walk goes on to the next one, or ends.
use Rattle.std.specs.Prelude.{Option, None, Result, Ok, Err}
use Rattle.std.specs.Result.{MatchResult, IsErrAnd}
use Prim.Native.Nat.{ℕ, ◌<◌}
use native.Mathlib.Omega.{arith}
use mathlib.Core.Path.{◌≡◌, refl, sym, ap, subst, ◌∙◌}
use mathlib.Core.List.{List}
use lib.ListN.{length}
use Rattle.image.specs.declared.Refusal.{Refusal}
use Rattle.image.specs.declared.Refused.{Refused}
use Rattle.laws.proofs.Booleans.{no_path}
use Rattle.read_records.specs.declared.numbers.Counts.{Counts}
use Rattle.read_records.specs.declared.reader.Head.{Head}
use Rattle.read_records.specs.Heads.{a_record, head_at, field_bytes}
use Rattle.read_records.proofs.Heads.{whole_of, end_of}
use Rattle.check_layout.specs.Tables.{Lent, Entering}
use Rattle.check_layout.proofs.Stages.{Stage, start_stage, ends, stops, refuses, goes_on}
use borrow.Author.Rules.{rules}
use Rattle.std.proofs.lemmas.Result.{err_from_is_err_and}
use Rattle.check_layout.proofs.scan_with.Goals as goal

-- What is read of the walk's image is read of the image.
head_was : {b b' : List ℕ} (o : ℕ) {r r' : Result (Option Head) Refusal} → b ≡ b' → r ≡ head_at b o → r ≡ r' → head_at b' o ≡ r'
head_was o e h i = ap (λ x. head_at x o) (sym e) ∙ (sym h ∙ i)

fields_were : {b b' : List ℕ} (o q : ℕ) {fs : List ℕ} → b ≡ b' → fs ≡ field_bytes b o q → fs ≡ field_bytes b' o q
fields_were o q e h = h ∙ ap (λ x. field_bytes x o q) e

inside : (b : List ℕ) (o q k : ℕ) → head_at b o ≡ a_record q k → o < length b
inside b o q k h = let W = whole_of b o q k h in let l = W.long in let i = W.inside in omega arith

-- A record and its fields, in an image that is short.
entering : {b kinds fs ds ts ks rs es ms ds₀ ts₀ ks₀ es₀ : List ℕ} {o q k : ℕ} {n : Counts} → Lent b kinds ds₀ ts₀ ks₀ es₀ → Stage b o n ds ts ks rs es ms → head_at b o ≡ a_record q k → fs ≡ field_bytes b o q → Entering b fs kinds o q k n ds ts ks rs es ms
entering l S h f =
    record { head = h; fields = f; short = l.short; codes = l.codes; tables = S.holds.tables; filter = S.filter; reached = S.holds.reached; marks = S.marks }

-- What an answer was whose refusal has its place beside it.
mapped_ok : {T : Type 0} (P : Refusal → Refused → Type 0) (r : Result T Refusal) {q : Result T Refused} {x : T} → MatchResult r (λ y. q ≡ Ok y) (λ w. IsErrAnd q (P w)) → q ≡ Ok x → r ≡ Ok x
mapped_ok {T} P (Ok y) {q} {x} c e = let z : ◌≡◌ {A = Result T Refused} (Ok y) (Ok x) = sym c ∙ e in let same : y ≡ x = cc in ap Ok same
mapped_ok P (Err w) c e = absurd (subst (λ s. IsErrAnd s (P w)) e c)

mapped_err : {T : Type 0} (P : Refusal → Refused → Type 0) (r : Result T Refusal) {q : Result T Refused} {d : Refused} → MatchResult r (λ y. q ≡ Ok y) (λ w. IsErrAnd q (P w)) → q ≡ Err d → (w : Refusal) × (r ≡ Err w) × P w d
mapped_err {T} P (Ok y) {q} {d} c e = let z : ◌≡◌ {A = Result T Refused} (Ok y) (Err d) = sym c ∙ e in no_path cc
mapped_err P (Err w) c e = (w, refl, subst (λ s. IsErrAnd s (P w)) e c)

pub loop-head-init : goal.loop-head-init
loop-head-init c =
    (rw c.new-walk.ensures.0, rw (c.new-walk.ensures.1, c.none-counts.ensures) (start_stage c.requires.0 c.requires.1 c.requires.2))

pub fields-fields-requires : goal.fields-fields-requires
fields-fields-requires c =
    let e : c.next.result ≡ a_record c.in-Some.head.len c.in-Some.head.kind = mapped_ok _ c.next.result c.map_err.ensures.cases c.in_ok-head.was ∙ ap Ok c.in-Some.is in
    let W = whole_of c.loop-head.walk.image.now c.loop-head.walk.at c.in-Some.head.len c.in-Some.head.kind (sym c.next.ensures ∙ e) in
    (W.long, W.inside)

pub returns-in_err-head : goal.returns-in_err-head
returns-in_err-head c =
    let w = c.loop-head.invariant in
    let m = mapped_err _ c.next.result c.map_err.ensures.cases c.in_err-head.was in
    let p = err_from_is_err_and c.from_residual.result c.from_residual.ensures.1 in
    let z : c.in_err-head.field-0.0 ≡ record { why = m.0; place = c.loop-head.walk.at } = search rules in
    let e : c.from_residual.result ≡ Err (record { why = m.0; place = c.loop-head.walk.at }) = p.1 ∙ ap Err (p.2 ∙ z) in
    rw e (stops w.1 (head_was c.loop-head.walk.at w.0 c.next.ensures m.1))

pub returns-in_err-counts : goal.returns-in_err-counts
returns-in_err-counts c =
    let w = c.loop-head.invariant in
    let e : c.next.result ≡ a_record c.in-Some.head.len c.in-Some.head.kind = mapped_ok _ c.next.result c.map_err.ensures.cases c.in_ok-head.was ∙ ap Ok c.in-Some.is in
    let h = head_was c.loop-head.walk.at w.0 c.next.ensures e in
    let f = fields_were c.loop-head.walk.at c.in-Some.head.len w.0 c.fields-fields.ensures in
    let m = mapped_err _ c.enter.result c.map_err-in-Some.ensures.cases c.in_err-counts.was in
    let p = err_from_is_err_and c.from_residual-in_err-counts.result c.from_residual-in_err-counts.ensures.1 in
    let z : c.in_err-counts.field-0.0 ≡ record { why = m.0; place = c.loop-head.walk.at } = search rules in
    let d : c.from_residual-in_err-counts.result ≡ Err (record { why = m.0; place = c.loop-head.walk.at }) = p.1 ∙ ap Err (p.2 ∙ z) in
    rw d (refuses w.1 (inside _ _ _ _ h) (c.enter.ensures.entered c.in-Some.head.len (entering c.requires.0 w.1 h f)) m.1)

pub loop-head-smaller : goal.loop-head-smaller
loop-head-smaller c =
    let w = c.loop-head.invariant in
    let e : c.next.result ≡ a_record c.in-Some.head.len c.in-Some.head.kind = mapped_ok _ c.next.result c.map_err.ensures.cases c.in_ok-head.was ∙ ap Ok c.in-Some.is in
    let h = head_was c.loop-head.walk.at w.0 c.next.ensures e in
    let W = whole_of c.args.image.now c.loop-head.walk.at c.in-Some.head.len c.in-Some.head.kind h in
    let l = W.long in
    let i = W.inside in
    omega (arith, c.past-walk.ensures.1)

pub loop-head-preserved : goal.loop-head-preserved
loop-head-preserved c =
    let w = c.loop-head.invariant in
    let e : c.next.result ≡ a_record c.in-Some.head.len c.in-Some.head.kind = mapped_ok _ c.next.result c.map_err.ensures.cases c.in_ok-head.was ∙ ap Ok c.in-Some.is in
    let h = head_was c.loop-head.walk.at w.0 c.next.ensures e in
    let f = fields_were c.loop-head.walk.at c.in-Some.head.len w.0 c.fields-fields.ensures in
    let m = mapped_ok _ c.enter.result c.map_err-in-Some.ensures.cases c.in_ok-counts.was in
    (rw c.past-walk.ensures.0 w.0, rw c.past-walk.ensures.1 (goes_on w.1 (inside _ _ _ _ h) (c.enter.ensures.entered c.in-Some.head.len (entering c.requires.0 w.1 h f)) m h))

pub returns : goal.returns
returns c =
    let w = c.loop-head.invariant in
    let e : c.next.result ≡ Ok None = mapped_ok _ c.next.result c.map_err.ensures.cases c.in_ok-head.was ∙ ap Ok c.in_default.is in
    ends w.1 (end_of c.args.image.now c.loop-head.walk.at (head_was c.loop-head.walk.at w.0 c.next.ensures e))
