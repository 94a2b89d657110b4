-- A tree that is drawn and written, record by record: what each branch of the draw writes is what the definition says.
use Prim.Native.Nat.{ℕ, suc, ◌+◌, ◌-◌, ◌*◌, ◌≤◌, ◌<◌}
use native.Mathlib.Omega.{arith}
use mathlib.Core.Path.{◌≡◌, sym, ap, subst, ◌∙◌}
use mathlib.Core.List.{List, [], ◌∷◌, ◌++◌, append-nil}
use lib.ListN.{length, length-append}
use Rattle.calculus.specs.Syntax.{Ty}
use Rattle.image.specs.Kinds.{TermKind}
use Rattle.image.specs.TermFields.{filled, term_fields}
use Rattle.image.specs.Program.{Program, node, end, more}
use Rattle.base_bytes.specs.Bytes.{over}
use Rattle.base_bytes.proofs.Over.{onward, length_over}
use Rattle.image_written.specs.TypeParts.{recur, same}
use Rattle.image_written.specs.Table.{place}
use Rattle.image_written.specs.Records.{little, Record, bytes, image}
use Rattle.image_written.specs.Written.{terms, term_records}
use Rattle.image_written.specs.Generated.{next, drawn, literal, sum, traced, Grown, both, grow, load_types}
use Rattle.image_written.proofs.Reading.{little_length}
use Rattle.image_written.proofs.Laying.{image_append, formed_some}
use Rattle.image_written.proofs.Load.{most, fit, tree_size}
use Rattle.write_load.specs.declared.Growth.{Growth}
use Rattle.write_load.specs.Growing.{print_fields, sequence_fields, sum_fields, Put, Grew}

-- The records of a number, of a sum over its two trees, of a print and of a sequence.
abbrev records : ℕ → Program → List Record
records m e = term_records load_types m e

abbrev written : ℕ → Program → List ℕ
written m e = image (records m e)

last_record : (A : List Record) (r : Record) → image (A ++ (r ∷ [])) ≡ image A ++ bytes r
unfolding image
last_record A r = image_append A (r ∷ []) ∙ ap (λ b. image A ++ b) (append-nil (bytes r))

number_bytes : (m n : ℕ) → written m (literal n) ≡ little (10 ∷ 34 ∷ 1 ∷ n ∷ 0 ∷ [])
unfolding term_records term_fields filled image bytes place same recur
number_bytes m n = append-nil _

sum_bytes : (m op : ℕ) (x y : Program) → written m (sum op x y) ≡ (written m x ++ written (m + terms x) y) ++ little (12 ∷ 43 ∷ 1 ∷ op ∷ (m + terms x - 1) ∷ (m + terms x + terms y - 1) ∷ [])
unfolding term_records term_fields filled bytes place same recur
sum_bytes m op x y =
    last_record (records m x ++ (records (m + terms x) y ++ [])) _
    ∙ ap (λ b. b ++ little (12 ∷ 43 ∷ 1 ∷ op ∷ (m + terms x - 1) ∷ (m + terms x + terms y - 1) ∷ []))
    (image_append (records m x) (records (m + terms x) y ++ []) ∙ ap (λ rs. written m x ++ image rs) (append-nil (records (m + terms x) y)))

abbrev printed : Program → Program
printed x = node TermKind.print Ty.unit [] (more x end)

print_bytes : (m : ℕ) (x : Program) → written m (printed x) ≡ written m x ++ little (8 ∷ 37 ∷ 0 ∷ (m + terms x - 1) ∷ [])
unfolding term_records term_fields filled bytes place same recur
print_bytes m x = last_record (records m x ++ []) _ ∙ ap (λ rs. image rs ++ little (8 ∷ 37 ∷ 0 ∷ (m + terms x - 1) ∷ [])) (append-nil (records m x))

trace_bytes : (m : ℕ) (x y : Program) → written m (traced x y) ≡ (written m (printed x) ++ written (m + suc (terms x)) y) ++ little (10 ∷ 36 ∷ 1 ∷ (m + suc (terms x) - 1) ∷ (m + suc (terms x) + terms y - 1) ∷ [])
unfolding term_records term_fields filled bytes place same recur terms
trace_bytes m x y =
    let z : suc (terms x + 0) ≡ suc (terms x) = omega arith in
    rw (← z)
    (last_record (records m (printed x) ++ (records (m + suc (terms x + 0)) y ++ [])) _
    ∙ ap (λ b. b ++ little (10 ∷ 36 ∷ 1 ∷ (m + suc (terms x + 0) - 1) ∷ (m + suc (terms x + 0) + terms y - 1) ∷ []))
    (image_append (records m (printed x)) (records (m + suc (terms x + 0)) y ++ []) ∙ ap (λ rs. written m (printed x) ++ image rs) (append-nil (records (m + suc (terms x + 0)) y))))

sum_terms : (op : ℕ) (x y : Program) → terms (sum op x y) ≡ terms x + terms y + 1
unfolding terms
sum_terms op x y = omega arith

trace_terms : (x y : Program) → terms (traced x y) ≡ suc (terms x) + terms y + 1
unfolding terms
trace_terms x y = omega arith

-- A number.
pub number_grew : {out out' : List ℕ} {done here r : Growth} → here.state ≡ next done.state → here.done.at ≡ done.done.at → here.done.terms ≡ done.done.terms
    → Put out here out' r 34 (1 ∷ drawn here.state ∷ 0 ∷ []) → Grew 0 out done out' r
unfolding grow terms
number_grew {out} {out'} {done} {here} {r} s a t Q =
    let n : ℕ = drawn (next done.state) in
    let P : Put out here out' r 34 (1 ∷ n ∷ 0 ∷ []) = subst (λ q. Put out here out' r 34 (1 ∷ drawn q ∷ 0 ∷ [])) s Q in
    let b = number_bytes done.done.terms n in
    let l : length (written done.done.terms (literal n)) ≡ 10 = ap length b ∙ little_length (10 ∷ 34 ∷ 1 ∷ n ∷ 0 ∷ []) in
    let pa = P.at in
    let pt = P.terms in
    record {
      bytes = P.bytes ∙ ap (λ o. over o (little (10 ∷ 34 ∷ 1 ∷ n ∷ 0 ∷ [])) out) a ∙ ap (λ bs. over done.done.at bs out) (sym b);
      at = omega arith;
      terms = omega arith;
      state = P.state ∙ s;
    }

-- The same tree from another state, or of another depth.
pub same_grew : {d d' : ℕ} {out out' : List ℕ} {done here r : Growth} → grow d done.state ≡ grow d' here.state → here.done.at ≡ done.done.at → here.done.terms ≡ done.done.terms → Grew d' out here out' r → Grew d out done out' r
same_grew {d} {d'} {out} {out'} {done} {here} {r} e a t G =
    let f : Grown → ℕ → ℕ → Type 0 = λ g o m. (out' ≡ over o (written m g.tree) out) × (r.done.at ≡ o + length (written m g.tree)) × (r.done.terms ≡ m + terms g.tree) × (r.state ≡ g.state) in
    let x : f (grow d' here.state) here.done.at here.done.terms = (G.bytes, G.at, G.terms, G.state) in
    let y = subst (λ g. f g done.done.at done.done.terms) (sym e) (subst (λ m. f (grow d' here.state) done.done.at m) t (subst (λ o. f (grow d' here.state) o here.done.terms) a x)) in
    record { bytes = y.0; at = y.1; terms = y.2; state = y.3 }

grew_length : {d : ℕ} {out out' : List ℕ} {done r : Growth} → done.done.at + 12 * most d ≤ length out → Grew d out done out' r → length out' ≡ length out
grew_length {d} {out} {out'} {done} {r} h G = let s = tree_size d done.state done.done.terms in ap length G.bytes ∙ length_over (written done.done.terms (grow d done.state).tree) out done.done.at (omega arith)

-- After a tree there is room for what comes behind it.
pub grew_capacity : {d : ℕ} {out out' : List ℕ} {done r : Growth} → Grew d out done out' r → done.done.at + 12 * most d ≤ length out
    → (r.done.at ≤ done.done.at + 12 * most d) × (r.done.terms ≤ done.done.terms + most d) × (done.done.terms < r.done.terms) × (length out' ≡ length out)
grew_capacity {d} {out} {out'} {done} {r} G h =
    let s = tree_size d done.state done.done.terms in
    let a = G.at in
    let t = G.terms in
    let f = fit d done.state in
    let m = f.few_terms in
    let p = formed_some 1 load_types (grow d done.state).tree f.formed in
    (omega arith, omega arith, omega arith, grew_length h G)

-- A sum or difference.
pub sum_grew : (d op : ℕ) {out out₁ out₂ out₃ : List ℕ} {done here left right r : Growth} → grow d done.state ≡ both (sum op) (grow (d - 1) here.state) (grow (d - 1)) → here.done.at ≡ done.done.at → here.done.terms ≡ done.done.terms
    → done.done.at + (12 * most (d - 1) + 12 * most (d - 1) + 12) ≤ length out → Grew (d - 1) out here out₁ left → Grew (d - 1) out₁ left out₂ right → Put out₂ right out₃ r 43 (sum_fields op (left.done.terms - 1) right.done.terms) → Grew d out done out₃ r
sum_grew d op {out} {out₁} {out₂} {out₃} {done} {here} {left} {right} {r} e a t capacity X Y P =
    let x : Program = (grow (d - 1) here.state).tree in
    let y : Program = (grow (d - 1) left.state).tree in
    let m : ℕ = done.done.terms in
    let sx = tree_size (d - 1) here.state here.done.terms in
    let sy = tree_size (d - 1) left.state left.done.terms in
    let lx = X.at in
    let ly = Y.at in
    let tx = X.terms in
    let ty = Y.terms in
    let pa = P.at in
    let pt = P.terms in
    let A : List ℕ = written here.done.terms x in
    let B : List ℕ = written left.done.terms y in
    let R : List ℕ = little (12 ∷ 43 ∷ 1 ∷ op ∷ (left.done.terms - 1) ∷ (right.done.terms - 1) ∷ []) in
    let lr : length R ≡ 12 = little_length (12 ∷ 43 ∷ 1 ∷ op ∷ (left.done.terms - 1) ∷ (right.done.terms - 1) ∷ []) in
    let one : out₁ ≡ over done.done.at A out = X.bytes ∙ ap (λ o. over o A out) a in
    let two : out₂ ≡ over done.done.at (A ++ B) out = onward A B out done.done.at left.done.at one Y.bytes (omega arith) (omega arith) in
    let three : out₃ ≡ over done.done.at ((A ++ B) ++ R) out = onward (A ++ B) R out done.done.at right.done.at two P.bytes (omega (arith, length-append A B)) (omega arith) in
    let st : (grow (d - 1) here.state).state ≡ left.state = sym X.state in
    let whole : (grow d done.state).tree ≡ sum op x y = ap (λ g. g.tree) e ∙ ap (λ s. sum op x (grow (d - 1) s).tree) st in
    let nl : left.done.terms ≡ m + terms x = omega arith in
    let nr : right.done.terms ≡ m + terms x + terms y = omega arith in
    let bs : (A ++ B) ++ R ≡ written m (grow d done.state).tree =
    ap (λ q. (written q x ++ B) ++ R) t
    ∙ ap (λ q. (written m x ++ written q y) ++ little (12 ∷ 43 ∷ 1 ∷ op ∷ (q - 1) ∷ (right.done.terms - 1) ∷ [])) nl
    ∙ ap (λ q. (written m x ++ written (m + terms x) y) ++ little (12 ∷ 43 ∷ 1 ∷ op ∷ (m + terms x - 1) ∷ (q - 1) ∷ [])) nr
    ∙ sym (sum_bytes m op x y) ∙ ap (λ z. written m z) (sym whole) in
    let lw : length (written m (grow d done.state).tree) ≡ length A + length B + 12 = ap length (sym bs) ∙ length-append (A ++ B) R ∙ omega (arith, length-append A B) in
    let tw : terms (grow d done.state).tree ≡ terms x + terms y + 1 = ap terms whole ∙ sum_terms op x y in
    record {
      bytes = three ∙ ap (λ b. over done.done.at b out) bs;
      at = omega arith;
      terms = omega arith;
      state = P.state ∙ Y.state ∙ ap (λ s. (grow (d - 1) s).state) (sym st) ∙ sym (ap (λ g. g.state) e);
    }

-- A print and what follows it.
pub trace_grew : (d : ℕ) {out out₁ out₂ out₃ out₄ : List ℕ} {done here inner first second r : Growth} → grow d done.state ≡ both traced (grow (d - 2) here.state) (grow (d - 1)) → here.done.at ≡ done.done.at → here.done.terms ≡ done.done.terms
    → done.done.at + (12 * most (d - 2) + 12 + 12 * most (d - 1) + 12) ≤ length out → Grew (d - 2) out here out₁ inner → Put out₁ inner out₂ first 37 (print_fields inner.done.terms) → Grew (d - 1) out₂ first out₃ second
    → Put out₃ second out₄ r 36 (sequence_fields (first.done.terms - 1) second.done.terms) → Grew d out done out₄ r
trace_grew d {out} {out₁} {out₂} {out₃} {out₄} {done} {here} {inner} {first} {second} {r} e a t capacity X Q Y P =
    let x : Program = (grow (d - 2) here.state).tree in
    let y : Program = (grow (d - 1) first.state).tree in
    let m : ℕ = done.done.terms in
    let sx = tree_size (d - 2) here.state here.done.terms in
    let sy = tree_size (d - 1) first.state first.done.terms in
    let lx = X.at in
    let ly = Y.at in
    let tx = X.terms in
    let ty = Y.terms in
    let qa = Q.at in
    let qt = Q.terms in
    let pa = P.at in
    let pt = P.terms in
    let A : List ℕ = written here.done.terms x in
    let S : List ℕ = little (8 ∷ 37 ∷ 0 ∷ (inner.done.terms - 1) ∷ []) in
    let B : List ℕ = written first.done.terms y in
    let R : List ℕ = little (10 ∷ 36 ∷ 1 ∷ (first.done.terms - 1) ∷ (second.done.terms - 1) ∷ []) in
    let ls : length S ≡ 8 = little_length (8 ∷ 37 ∷ 0 ∷ (inner.done.terms - 1) ∷ []) in
    let lr : length R ≡ 10 = little_length (10 ∷ 36 ∷ 1 ∷ (first.done.terms - 1) ∷ (second.done.terms - 1) ∷ []) in
    let one : out₁ ≡ over done.done.at A out = X.bytes ∙ ap (λ o. over o A out) a in
    let two : out₂ ≡ over done.done.at (A ++ S) out = onward A S out done.done.at inner.done.at one Q.bytes (omega arith) (omega arith) in
    let three : out₃ ≡ over done.done.at ((A ++ S) ++ B) out = onward (A ++ S) B out done.done.at first.done.at two Y.bytes (omega (arith, length-append A S)) (omega arith) in
    let four : out₄ ≡ over done.done.at (((A ++ S) ++ B) ++ R) out = onward ((A ++ S) ++ B) R out done.done.at second.done.at three P.bytes (omega (arith, length-append A S, length-append (A ++ S) B)) (omega arith) in
    let st : (grow (d - 2) here.state).state ≡ first.state = sym (Q.state ∙ X.state) in
    let whole : (grow d done.state).tree ≡ traced x y = ap (λ g. g.tree) e ∙ ap (λ s. traced x (grow (d - 1) s).tree) st in
    let ni : inner.done.terms ≡ m + terms x = omega arith in
    let nf : first.done.terms ≡ m + suc (terms x) = omega arith in
    let ns : second.done.terms ≡ m + suc (terms x) + terms y = omega arith in
    let bs : ((A ++ S) ++ B) ++ R ≡ written m (grow d done.state).tree =
    ap (λ q. ((written q x ++ S) ++ B) ++ R) t
    ∙ ap (λ q. ((written m x ++ little (8 ∷ 37 ∷ 0 ∷ (q - 1) ∷ [])) ++ B) ++ R) ni
    ∙ ap (λ z. (z ++ B) ++ R) (sym (print_bytes m x))
    ∙ ap (λ q. (written m (printed x) ++ written q y) ++ little (10 ∷ 36 ∷ 1 ∷ (q - 1) ∷ (second.done.terms - 1) ∷ [])) nf
    ∙ ap (λ q. (written m (printed x) ++ written (m + suc (terms x)) y) ++ little (10 ∷ 36 ∷ 1 ∷ (m + suc (terms x) - 1) ∷ (q - 1) ∷ [])) ns
    ∙ sym (trace_bytes m x y) ∙ ap (λ z. written m z) (sym whole) in
    let lw : length (written m (grow d done.state).tree) ≡ length A + 8 + length B + 10 = ap length (sym bs) ∙ length-append ((A ++ S) ++ B) R ∙ omega (arith, length-append A S, length-append (A ++ S) B) in
    let tw : terms (grow d done.state).tree ≡ suc (terms x) + terms y + 1 = ap terms whole ∙ trace_terms x y in
    record {
      bytes = four ∙ ap (λ b. over done.done.at b out) bs;
      at = omega arith;
      terms = omega arith;
      state = P.state ∙ Y.state ∙ ap (λ s. (grow (d - 1) s).state) (sym st) ∙ sym (ap (λ g. g.state) e);
    }
