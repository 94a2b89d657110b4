-- Each generated image is accepted.
use Prim.Native.Nat.{ℕ, zero, suc, ◌+◌, ◌-◌, ◌*◌, ◌%◌, ◌≤◌, ◌<◌}
use native.Mathlib.Omega.{arith}
use mathlib.Core.Path.{◌≡◌, refl, ap, ◌∙◌}
use mathlib.Core.Bool.{true, false}
use mathlib.Core.List.{List, [], ◌∷◌, ◌++◌, map}
use lib.ListN.{length}
use Rattle.calculus.specs.Syntax.{Dom, Ty}
use Rattle.calculus.specs.Plain.{is_plain}
use Rattle.calculus.specs.Typing.{Policy, is_val, is_op0, is_op1, is_op2, is_seq, v_number, t_abort, t_print, t_plus, t_minus}
use Rattle.image.specs.Limits.{depth_limit, work_length, report_length}
use Rattle.laws.specs.Tests.{any_below}
use Rattle.image.specs.Kinds.{TermKind, Row, fields_of}
use Rattle.image.specs.Records.{Layout}
use Rattle.image.specs.Program.{Program, Programs, node, blank, end, more, assemble}
use Rattle.verdict.specs.Domains.{bits, order, leq, policy}
use Rattle.verdict.specs.Order.{at_fault}
use Rattle.verdict.specs.Settings.{Setting}
use Rattle.verdict.specs.WellTyped.{mainline, WellTyped, stated}
use Rattle.image_written.specs.TypeParts.{recur, same}
use Rattle.image_written.specs.Table.{place, has}
use Rattle.image_written.specs.Records.{Record, image, bytes, little}
use Rattle.image_written.specs.Written.{terms, domain_record, type_record, term_records, records_over, written_over}
use Rattle.image_written.specs.Generated.{next, drawn, literal, sum, traced, Form, a_literal, a_sum, a_trace, form_of, by_form, grow, load_depth_limit, load_types, generated}
use Rattle.image_written.proofs.Reading.{Sized}
use Rattle.image_written.proofs.Writable.{TableFrom, Fielded, Formed, Shallow, ShallowAll}
use Rattle.image_written.proofs.Sums.{weight}
use Rattle.image_written.proofs.Sizes.{term_size, append_size, terms_size}
use Rattle.image_written.proofs.Accepted.{Holds, written_holds}

-- Domain 0 alone.
abbrev pub alone : Layout
alone = record { image = 0 ∷ 0 ∷ 0 ∷ 0 ∷ 1 ∷ 0 ∷ []; domains = 0 ∷ []; types = []; terms = [] }

-- The most terms, and bytes of terms, of a tree of depth d + 1.
unfoldable pub most : ℕ → ℕ
most zero = 1
most (suc d) = 1 + (most d + most d)

pub most_some : (d : ℕ) → 0 < most d
unfolding most
most_some zero = omega arith
most_some (suc d) = omega arith

pub few : (d : ℕ) → d ≤ 8 → most d ≤ 511
unfolding most
few zero h = omega arith
few (suc zero) h = omega arith
few (suc (suc zero)) h = omega arith
few (suc (suc (suc zero))) h = omega arith
few (suc (suc (suc (suc zero)))) h = omega arith
few (suc (suc (suc (suc (suc zero))))) h = omega arith
few (suc (suc (suc (suc (suc (suc zero)))))) h = omega arith
few (suc (suc (suc (suc (suc (suc (suc zero))))))) h = omega arith
few (suc (suc (suc (suc (suc (suc (suc (suc zero)))))))) h = omega arith
few (suc (suc (suc (suc (suc (suc (suc (suc (suc d))))))))) h = absurd (omega arith)

-- What is so of a tree of depth d + 1.
pub record Fit (d : ℕ) (e : Program) : Type 0 where
  pub type : stated e ≡ Ty.number
  pub formed : Formed 1 load_types e
  pub few_terms : terms e ≤ most d
  pub few_bytes : weight term_size e ≤ 12 * most d
  pub shallow : Shallow e (suc d)
  pub typed : (p : Setting Ty) → WellTyped (policy alone) p e

-- What is shallow is shallow for a greater depth.
mutual
  unfolding Shallow

  deeper : (e : Program) (d d' : ℕ) → d ≤ d' → Shallow e d → Shallow e d'
  deeper (node k t vs es) zero d' l h = absurd h
  deeper (node k t vs es) (suc d) zero l h = absurd (omega arith)
  deeper (node k t vs es) (suc d) (suc d') l h = deeper_all es d d' (omega arith) h
  deeper blank d d' l h = tt

  deeper_all : (es : Programs) (d d' : ℕ) → d ≤ d' → ShallowAll es d → ShallowAll es d'
  deeper_all end d d' l h = tt
  deeper_all (more e es) d d' l h = (deeper e d d' l h.0, deeper_all es d d' l h.1)

has_unit : has load_types Ty.unit ≡ true
unfolding place same recur
has_unit = refl

has_number : has load_types Ty.number ≡ true
unfolding place same recur
has_number = refl

-- The records of the four kinds.
exactly : {w : Row} {n : ℕ} → n ≡ length (fields_of w 0) → w.least ≡ 0 → Sized w 0 n
exactly {w} {n} h l = record { count = h; none = λ q. refl; least = omega arith; most = omega arith }

literal_fielded : (n : ℕ) → Fielded 1 TermKind.number (n ∷ 0 ∷ []) 0
literal_fielded n = record { groups = 0; numbers = 0 ∷ n ∷ 0 ∷ []; sized = exactly refl refl; others = refl; children = refl; ranged = (tt, (tt, tt)) }

sum_fielded : (op : ℕ) → op ≤ 1 → Fielded 1 TermKind.arith (op ∷ []) 2
sum_fielded op l = record { groups = 0; numbers = 0 ∷ op ∷ 0 ∷ 0 ∷ []; sized = exactly refl refl; others = refl; children = refl; ranged = (omega arith, tt) }

trace_fielded : Fielded 1 TermKind.seq [] 2
trace_fielded = record { groups = 0; numbers = 0 ∷ 0 ∷ 0 ∷ []; sized = exactly refl refl; others = refl; children = refl; ranged = tt }

print_fielded : Fielded 1 TermKind.print [] 1
print_fielded = record { groups = 0; numbers = 0 ∷ 0 ∷ []; sized = exactly refl refl; others = refl; children = refl; ranged = tt }

fit_literal : (d n : ℕ) → Fit d (literal n)
unfolding Formed terms weight Shallow WellTyped assemble
fit_literal d n =
    let m = most_some d in
    record {
      type = refl;
      formed = (has_number, literal_fielded n, tt);
      few_terms = omega arith;
      few_bytes = omega arith;
      shallow = tt;
      typed = λ p. (is_val v_number, tt);
    }

-- Children that state what is asked.
same_sum : (D : Policy) (p : Setting Ty) (op : ℕ) (x y : Program) → op ≤ 1 → stated x ≡ Ty.number → stated y ≡ Ty.number → ((q : Setting Ty) → WellTyped D q x) → ((q : Setting Ty) → WellTyped D q y) → WellTyped D p (sum op x y)
unfolding WellTyped assemble
same_sum D p zero x y l ex ey wx wy = (rw (ex, ey) (is_op2 t_plus (is_op0 t_abort) (is_op0 t_abort)), (wx _, (wy _, tt)))
same_sum D p (suc zero) x y l ex ey wx wy = (rw (ex, ey) (is_op2 t_minus (is_op0 t_abort) (is_op0 t_abort)), (wx _, (wy _, tt)))
same_sum D p (suc (suc op)) x y l ex ey wx wy = absurd (omega arith)

same_trace : (D : Policy) (p : Setting Ty) (x y : Program) → stated x ≡ Ty.number → stated y ≡ Ty.number → ((q : Setting Ty) → WellTyped D q x) → ((q : Setting Ty) → WellTyped D q y) → WellTyped D p (traced x y)
unfolding WellTyped assemble
same_trace D p x y ex ey wx wy = (rw ey (is_seq (is_op0 t_abort) (is_op0 t_abort)), ((rw ex (is_op1 t_print (is_op0 t_abort)), (wx _, tt)), (wy _, tt)))

fit_sum : (d op : ℕ) (x y : Program) → op ≤ 1 → Fit d x → Fit d y → Fit (suc d) (sum op x y)
unfolding Formed terms weight Shallow most
fit_sum d op x y l X Y =
    let a = X.few_terms in
    let b = Y.few_terms in
    let c = X.few_bytes in
    let e = Y.few_bytes in
    record {
      type = refl;
      formed = (has_number, sum_fielded op l, (X.formed, (Y.formed, tt)));
      few_terms = omega arith;
      few_bytes = omega arith;
      shallow = (X.shallow, (Y.shallow, tt));
      typed = λ p. same_sum (policy alone) p op x y l X.type Y.type X.typed Y.typed;
    }

fit_trace : (d : ℕ) (x y : Program) → Fit d x → Fit (suc d) y → Fit (suc (suc d)) (traced x y)
unfolding Formed terms weight Shallow most
fit_trace d x y X Y =
    let a = X.few_terms in
    let b = Y.few_terms in
    let c = X.few_bytes in
    let e = Y.few_bytes in
    let m = most_some d in
    record {
      type = refl;
      formed = (has_number, trace_fielded, ((has_unit, print_fielded, (X.formed, tt)), (Y.formed, tt)));
      few_terms = omega arith;
      few_bytes = omega arith;
      shallow = ((X.shallow, tt), (Y.shallow, tt));
      typed = λ p. same_trace (policy alone) p x y X.type Y.type X.typed Y.typed;
    }

sum_op : (n op : ℕ) → form_of n ≡ a_sum op → op ≤ 1
unfolding form_of
sum_op zero op h = let z : ◌≡◌ {A = ℕ} 0 1 = cc in absurd (omega arith)
sum_op (suc zero) op h = let z : 0 ≡ op = cc in omega arith
sum_op (suc (suc zero)) op h = let z : 1 ≡ op = cc in omega arith
sum_op (suc (suc (suc n))) op h = let z : ◌≡◌ {A = ℕ} 0 1 = cc in absurd (omega arith)

-- Every tree is fit.
pub fit : (d s : ℕ) → Fit d (grow d s).tree
unfolding grow by_form
fit zero s = fit_literal 0 (drawn (next s))
fit (suc zero) s = go (form_of (drawn (next s) % 4)) refl (fit zero)
  where
    go : (f : Form) → form_of (drawn (next s) % 4) ≡ f → ((r : ℕ) → Fit 0 (grow 0 r).tree) → Fit 1 (grow 1 s).tree
    go a_literal e ih = rw e (fit_literal 1 (drawn (next (next s))))
    go (a_sum op) e ih = rw e (fit_sum 0 op _ _ (sum_op (drawn (next s) % 4) op e) (ih (next s)) (ih (grow 0 (next s)).state))
    go a_trace e ih = rw e (fit_literal 1 (drawn (next (next s))))
fit (suc (suc d)) s = go (form_of (drawn (next s) % 4)) refl (fit d) (fit (suc d))
  where
    go : (f : Form) → form_of (drawn (next s) % 4) ≡ f → ((r : ℕ) → Fit d (grow d r).tree) → ((r : ℕ) → Fit (suc d) (grow (suc d) r).tree) → Fit (suc (suc d)) (grow (suc (suc d)) s).tree
    go a_literal e ih jh = rw e (fit_literal (suc (suc d)) (drawn (next (next s))))
    go (a_sum op) e ih jh = rw e (fit_sum (suc d) op _ _ (sum_op (drawn (next s) % 4) op e) (jh (next s)) (jh (grow (suc d) (next s)).state))
    go a_trace e ih jh = rw e (fit_trace d _ _ (ih (next s)) (jh (grow d (next s)).state))

one_domain : (d : Dom) → d < 1 → at_fault alone d ≡ false
unfolding at_fault leq order bits any_below
one_domain zero l = refl
one_domain (suc d) l = absurd (omega arith)

fixed_part : length (image (domain_record 1 ∷ [])) ≡ 6
unfolding image bytes little
fixed_part = refl

types_part : length (image (map (λ t. type_record load_types t) load_types)) ≡ 8
unfolding image bytes little
types_part = refl

two_types : TableFrom 1 [] load_types
unfolding place same recur
two_types = (refl, (omega arith, omega arith), tt, (refl, (omega arith, omega arith), tt, tt))

-- Fewer bytes than the longest image has.
generated_length : (e : Program) (d : ℕ) → d ≤ 8 → Formed 1 load_types e → weight term_size e ≤ 12 * most d → length (written_over load_types (1 ∷ []) e) ≤ 6146
unfolding written_over records_over
generated_length e d l f h =
    let ds : List Record = map (λ m. domain_record m) (1 ∷ []) in
    let ts : List Record = map (λ t. type_record load_types t) load_types in
    let es : List Record = term_records load_types 0 e in
    let a : length (image (ds ++ (ts ++ es))) ≡ length (image ds) + (length (image ts) + length (image es)) = append_size ds (ts ++ es) ∙ ap (λ q. length (image ds) + q) (append_size ts es) in
    let b = terms_size 1 load_types load_types 0 e f in
    let c = few d l in
    let x : length (image ds) ≡ 6 = fixed_part in
    let y : length (image ts) ≡ 8 = types_part in
    omega arith

-- The bytes of its terms are few.
pub tree_size : (d s m : ℕ) → length (image (term_records load_types m (grow d s).tree)) ≤ 12 * most d
tree_size d s m = let F = fit d s in let e = terms_size 1 load_types load_types m (grow d s).tree F.formed in let b = F.few_bytes in omega arith

-- It has at most 6,146 bytes.
pub generated_short : (depth seed : ℕ) → depth ≤ load_depth_limit → length (generated depth seed) ≤ 6146
unfolding generated
generated_short depth seed m = let F = fit (depth - 1) seed in generated_length (grow (depth - 1) seed).tree (depth - 1) (omega arith) F.formed F.few_bytes

-- Every generated image is accepted, and its program is the tree.
pub generated_holds : (depth seed work report : ℕ) → depth ≤ load_depth_limit → work_length ≤ work → report_length ≤ report → Holds (generated depth seed) alone (grow (depth - 1) seed).tree work report
unfolding generated
generated_holds depth seed work report m w r =
    let d : ℕ = depth - 1 in
    let e : Program = (grow d seed).tree in
    let F : Fit d e = fit d seed in
    let ft = F.few_terms in
    let k : d ≤ 8 = omega arith in
    let c = few d k in
    let s = generated_length e d k F.formed F.few_bytes in
    written_holds alone load_types e work report
    (record {
      has_domains = omega arith;
      few_domains = omega arith;
      ordered = one_domain;
      table = two_types;
      few_types = omega arith;
      formed = F.formed;
      few_terms = omega arith;
      shallow = deeper e (suc d) depth_limit (omega arith) F.shallow;
      well_typed = F.typed mainline;
      plain = ap is_plain F.type;
      short = omega arith;
    })
    w r
