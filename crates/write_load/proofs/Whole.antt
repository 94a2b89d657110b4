-- The whole image, and what a call answers and leaves.
use Rattle.std.specs.Prelude.{Ok, Err}
use Prim.Native.Nat.{ℕ, ◌-◌, ◌≤◌, ◌<◌}
use native.Mathlib.Omega.{arith}
use mathlib.Core.Path.{◌≡◌, refl, sym, ap, ◌∙◌}
use mathlib.Core.Bool.{true, false}
use mathlib.Core.List.{List, [], ◌∷◌, ◌++◌, append_assoc, map}
use lib.ListN.{length, length-append}
use lib.Dec.{leb}
use Rattle.laws.proofs.Booleans.{le_of, of_le, by_test}
use Rattle.image.specs.Program.{Program}
use Rattle.base_bytes.specs.Bytes.{over}
use Rattle.base_bytes.proofs.Over.{onward}
use Rattle.image_written.specs.TypeParts.{recur, same}
use Rattle.image_written.specs.Table.{place}
use Rattle.image_written.specs.Records.{little, Record, bytes, image}
use Rattle.image_written.specs.Written.{domain_record, type_record, term_records, records_over, written_over}
use Rattle.image_written.specs.Generated.{grow, load_depth_limit, load_length, load_types, generated}
use Rattle.image_written.proofs.Laying.{image_append}
use Rattle.image_written.proofs.Load.{few, tree_size}
use Rattle.write_sections.specs.Sections.{domain_bytes}
use Rattle.write_load.specs.declared.Growth.{Growth}
use Rattle.write_load.specs.declared.LoadError.{LoadError}
use Rattle.write_load.specs.Loads.{Call, loaded}
use Rattle.write_load.specs.Growing.{head_bytes, Grew}

-- The whole image.
pub head_length : length head_bytes ≡ 14
unfolding head_bytes image bytes little
head_length = refl

-- Its parts as they are written.
pub domain_length : length (domain_bytes (1 ∷ [])) ≡ 6
unfolding image bytes little
domain_length = refl

pub front_length : length (domain_bytes (1 ∷ []) ++ little (4 ∷ 16 ∷ [])) ≡ 10
unfolding image bytes little
front_length = refl

pub head_parts : (domain_bytes (1 ∷ []) ++ little (4 ∷ 16 ∷ [])) ++ little (4 ∷ 18 ∷ []) ≡ head_bytes
unfolding head_bytes image bytes little place same recur
head_parts = refl

pub whole_image : (depth seed : ℕ) (out : List ℕ) {out₁ out₂ : List ℕ} {start r : Growth} → start.done.at ≡ length head_bytes → start.done.terms ≡ 0 → start.state ≡ seed → load_length ≤ length out → depth ≤ load_depth_limit
    → out₁ ≡ over 0 head_bytes out → Grew (depth - 1) out₁ start out₂ r → (r.done.at ≡ length (generated depth seed)) × (out₂ ≡ over 0 (generated depth seed) out)
unfolding generated written_over records_over head_bytes
whole_image depth seed out {out₁} {out₂} {start} {r} a t s capacity l e G =
    let g : Program = (grow (depth - 1) seed).tree in
    let ds : List Record = map (λ m. domain_record m) (1 ∷ []) in
    let ts : List Record = map (λ t. type_record load_types t) load_types in
    let es : List Record = term_records load_types 0 g in
    let B : List ℕ = image es in
    let n = head_length in
    let z = tree_size (depth - 1) seed 0 in
    let f = few (depth - 1) (omega arith) in
    let b : out₂ ≡ over 14 B out₁ =
    G.bytes
    ∙ ap (λ o. over o (image (term_records load_types start.done.terms (grow (depth - 1) start.state).tree)) out₁) (a ∙ n)
    ∙ ap (λ m. over 14 (image (term_records load_types m (grow (depth - 1) start.state).tree)) out₁) t
    ∙ ap (λ q. over 14 (image (term_records load_types 0 (grow (depth - 1) q).tree)) out₁) s in
    let x : length (image (term_records load_types start.done.terms (grow (depth - 1) start.state).tree)) ≡ length B = ap (λ m. length (image (term_records load_types m (grow (depth - 1) start.state).tree))) t ∙ ap (λ q. length (image (term_records load_types 0 (grow (depth - 1) q).tree))) s in
    let w : image (ds ++ (ts ++ es)) ≡ head_bytes ++ B = image_append ds (ts ++ es) ∙ ap (λ bs. image ds ++ bs) (image_append ts es) ∙ sym (append_assoc (image ds) (image ts) B) in
    let ra = G.at in
    (omega (arith, ap length w, length-append head_bytes B), onward head_bytes B out 0 14 e b (omega arith) (omega arith) ∙ ap (λ c. over 0 c out) (sym w))

past : (m n : ℕ) → n < m → leb m n ≡ false
past m n h = by_test (leb m n) (λ w. let z : m ≤ n = le_of w in absurd (omega arith)) λ w. w

-- What a call answers and leaves.
module _ (seed depth : ℕ) (out : List ℕ) where
  pub loaded_none : depth ≡ 0 → ◌≡◌ {A = Call} (record { answer = Err LoadError.WrongDepth; output = out }) (loaded seed depth out)
  unfolding loaded
  loaded_none e = rw e refl

  pub loaded_deep : load_depth_limit < depth → ◌≡◌ {A = Call} (record { answer = Err LoadError.WrongDepth; output = out }) (loaded seed depth out)
  unfolding loaded
  loaded_deep h = let x : leb 1 depth ≡ true = of_le {m = 1} {n = depth} (omega arith) in rw (x, past depth load_depth_limit h) refl

  pub loaded_short : 1 ≤ depth → depth ≤ load_depth_limit → length out < load_length → ◌≡◌ {A = Call} (record { answer = Err LoadError.ShortOutput; output = out }) (loaded seed depth out)
  unfolding loaded
  loaded_short h l n = rw (of_le h, of_le l, past load_length (length out) n) refl

  pub loaded_written : 1 ≤ depth → depth ≤ load_depth_limit → load_length ≤ length out → {n : ℕ} {o : List ℕ} → n ≡ length (generated depth seed) → o ≡ over 0 (generated depth seed) out → ◌≡◌ {A = Call} (record { answer = Ok n; output = o }) (loaded seed depth out)
  unfolding loaded
  loaded_written h l m {n} {o} e f =
      let x : ◌≡◌ {A = Call} (record { answer = Ok n; output = o }) (record { answer = Ok (length (generated depth seed)); output = over 0 (generated depth seed) out }) = cc in
      rw (of_le h, of_le l, of_le m) x
