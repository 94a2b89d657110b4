-- The loop over the records: its stages, and how it ends.
use Rattle.std.specs.Prelude.{Option, None, Result, Ok, Err}
use Prim.Native.Nat.{ℕ, ◌+◌, ◌≤◌, ◌<◌}
use native.Mathlib.Omega.{arith}
use mathlib.Core.Path.{◌≡◌, sym, ap, ◌∙◌}
use lib.Dec.{ltb}
use mathlib.Core.List.{List}
use mathlib.Core.Option.{some}
use lib.ListN.{length, replicate}
use Rattle.image.specs.declared.Refusal.{Refusal}
use Rattle.image.specs.declared.Refused.{Refused}
use Rattle.image.specs.Limits.{term_limit}
use Rattle.image.specs.Records.{Layout}
use Rattle.image.specs.Layout.{layout}
use Rattle.laws.proofs.Booleans.{no_path, lt_of, ge_of, by_test}
use Rattle.read_records.specs.declared.numbers.Counts.{Counts}
use Rattle.read_records.specs.Counts.{no_records}
use Rattle.read_records.specs.declared.reader.Head.{Head}
use Rattle.read_records.specs.Heads.{a_record, head_at}
use Rattle.read_records.proofs.Heads.{at_end_lem, whole_of, broken_of}
use Rattle.check_uses.specs.Marks.{marks_of}
use Rattle.check_repeats.specs.Keys.{filter_length, Filters}
use Rattle.check_layout.specs.Tables.{layout_of, entry_of, counts_behind, Marks, Entered, Lent, Reached, scan_of, end_of, Holds, ScannedWith}
use Rattle.check_layout.proofs.Going.{Going, going_start, going_end, going_stop, going_on, broken, told_fault, told_none}

-- A refusal is told only before the end.
refused_inside : (b : List ℕ) (o : ℕ) (r : Refusal) → head_at b o ≡ Err r → o < length b
refused_inside b o r h = by_test (ltb o (length b)) (λ e. lt_of e) λ e. let z : ◌≡◌ {A = Result (Option Head) Refusal} (Ok None) (Err r) = at_end_lem b o (ge_of e) ∙ h in no_path cc

-- The records before o are in the tables, and the walk is as far.
pub record Stage (b : List ℕ) (o : ℕ) (n : Counts) (ds ts ks rs es ms : List ℕ) : Type 0 where
  pub inside : o ≤ length b
  pub holds : Holds b o n ds ts ks es
  pub filter : Filters b n.types ts ks rs
  pub marks : Marks b n ds ts es ms
  pub going : Going b o (layout_of b n ds ts es)

pub start_stage : {b kinds ds ts ks rs es ms : List ℕ} → Lent b kinds ds ts ks es → filter_length ≤ length rs → ms ≡ replicate term_limit 0 → Stage b 0 no_records ds ts ks rs es ms
unfolding marks_of
start_stage {b} l r m =
    record {
      inside = omega arith;
      holds =
          record {
            reached = Reached.start;
            tables =
                record {
                  few = record { domains = omega arith; types = omega arith; terms = omega arith };
                  long = l.long;
                  described = record { at = λ t h. absurd (omega arith) };
                };
          };
      filter = record { filled = record { places = r; few = omega arith; at = λ i h. absurd (omega arith) }; keys = λ i h. absurd (omega arith) };
      marks = m;
      going = going_start b;
    }

module _ {b : List ℕ} {o : ℕ} {n : Counts} {ds ts ks rs es ms : List ℕ} (S : Stage b o n ds ts ks rs es ms) where
  abbrev L : Layout
  L = layout_of b n ds ts es

  -- The scan ends here.
  scanned : (r : Result Counts Refused) → scan_of r b ds ts es ≡ layout b → ((m : Counts) → r ≡ Ok m → n ≡ m) → end_of (layout b) b ≡ o → ScannedWith r b ds ts ks rs es ms
  scanned r a c e = record { scanned = record { answer = a; counts = n; counted = c; holds = rw e S.holds; marks = S.marks }; filter = S.filter }

  pub ends : length b ≤ o → ScannedWith (Ok n) b ds ts ks rs es ms
  ends h =
      let i = S.inside in
      let e = going_end o L S.going (omega arith) in
      scanned (Ok n) (sym e) (λ m d. cc) (ap (λ x. end_of x b) e ∙ (omega arith))

  pub stops : {r : Refusal} → head_at b o ≡ Err r → ScannedWith (Err (record { why = r; place = o })) b ds ts ks rs es ms
  stops {r} h =
      let l = refused_inside b o r h in
      let z = broken_of b o r h in
      let e = going_stop o L S.going l r (broken o L z.0 ∙ ap some (sym z.1)) in
      scanned (Err (record { why = r; place = o })) (sym e) (λ m d. no_path cc) (ap (λ x. end_of x b) e)

  module _ (l : o < length b) {t : Result Counts Refusal} {ds' ts' ks' rs' es' ms' : List ℕ} (E : Entered t b o n ds ts es ds' ts' ks' rs' es' ms') where
    pub refuses : {r : Refusal} → t ≡ Err r → ScannedWith (Err (record { why = r; place = o })) b ds' ts' ks' rs' es' ms'
    refuses {r} d =
        let a = ap (λ x. entry_of x b o ds' ts' es') (sym d) ∙ E.answer in
        let e = going_stop o L S.going l r (told_fault r _ o _ a) in
        let c : counts_behind t n ≡ n = ap (λ x. counts_behind x n) d in
        record {
          scanned =
              record {
                answer = sym e;
                counts = n;
                counted = λ m f. no_path cc;
                holds = rw (ap (λ x. end_of x b) e) (record { reached = rw (E.kept r d) S.holds.reached; tables = rw c at E.tables });
                marks = rw c at E.marks;
              };
          filter = rw c at E.filter;
        }

    pub goes_on : {m : Counts} → t ≡ Ok m → {q k : ℕ} → head_at b o ≡ a_record q k → Stage b (o + q) m ds' ts' ks' rs' es' ms'
    goes_on {m} d {q} {k} h =
        let W = whole_of b o q k h in
        let a = ap (λ x. entry_of x b o ds' ts' es') (sym d) ∙ E.answer in
        let z = told_none _ o _ _ a in
        let g = going_on o L S.going l (omega arith) z.0 in
        let c : counts_behind t n ≡ m = ap (λ x. counts_behind x n) d in
        record {
          inside = W.inside;
          holds = record { reached = rw (W.len, z.1) (Reached.next S.holds.reached l z.0); tables = rw c at E.tables };
          filter = rw c at E.filter;
          marks = rw c at E.marks;
          going = rw (W.len, z.1) g;
        }
