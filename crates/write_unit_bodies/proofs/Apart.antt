-- Records that stand end to end do not share a byte; bytes that are the same give the same numbers.
use Prim.Native.Nat.{ℕ, zero, suc, ◌+◌, ◌*◌, ◌≤◌, ◌<◌}
use native.Mathlib.Omega.{arith}
use mathlib.Core.Path.{◌≡◌, refl, sym, ap, subst, ◌∙◌}
use mathlib.Core.Bool.{Bool, true, false}
use mathlib.Core.List.{List, [], ◌∷◌}
use lib.ListN.{length, get_or}
use lib.Dec.{ltb}
use Rattle.image.specs.Bytes.{le16, words, length_at, number_at}
use Rattle.image.specs.Kinds.{free, Row, fields_of}
use Rattle.image.specs.Records.{times, known_length, fields_at, numbers_at}
use Rattle.image.specs.LaidOut.{EndToEnd, Stands, Within, IsRecord}
use Rattle.laws.proofs.Booleans.{lt_of, ge_of}
use Rattle.image.proofs.EndToEnd.{ends_before}

-- A byte is in one record only.
abbrev pub Inside : List ℕ → ℕ → ℕ → Type 0
Inside b o j = (o ≤ j) × (j < o + length_at b o)

pub one_record : (b xs : List ℕ) → EndToEnd b 0 xs → (i k j : ℕ) → i < length xs → k < length xs → Inside b (get_or xs i 0) j → Inside b (get_or xs k 0) j → i ≡ k
one_record b xs e i k j li lk x y = go (ltb i k) refl (ltb k i) refl
  where
    go : (s : Bool) → ltb i k ≡ s → (t : Bool) → ltb k i ≡ t → i ≡ k
    go true q t r = let z = ends_before b 0 xs e i k (lt_of q) lk in let u = x.1 in let v = y.0 in absurd (omega arith)
    go false q true r = let z = ends_before b 0 xs e k i (lt_of r) li in let u = y.1 in let v = x.0 in absurd (omega arith)
    go false q false r = let u : k ≤ i = ge_of q in let v : i ≤ k = ge_of r in omega arith

-- The bytes from o on, up to e, are the same.
abbrev pub Same : List ℕ → List ℕ → ℕ → ℕ → Type 0
Same b c o e = (j : ℕ) → o ≤ j → j < e → get_or c j 0 ≡ get_or b j 0

pub le16_same : (b c : List ℕ) (o e p : ℕ) → Same b c o e → o ≤ p → p + 1 < e → le16 c p ≡ le16 b p
le16_same b c o e p s l h =
    let x = s p l (omega arith) in
    let y = s (p + 1) (omega arith) h in
    omega arith

pub words_same : (b c : List ℕ) (o e p n : ℕ) → Same b c o e → o ≤ p → p + 2 * n ≤ e → words c p n ≡ words b p n
unfolding words
words_same b c o e p zero s l h = refl
words_same b c o e p (suc n) s l h =
    let x = le16_same b c o e p s l (omega arith) in
    let y = words_same b c o e (p + 2) n s (omega arith) (omega arith) in
    cc

-- Records of the same lengths stand end to end alike.
pub ends_same : (b c : List ℕ) → length c ≡ length b → (o : ℕ) (xs : List ℕ) → ((i : ℕ) → i < length xs → length_at c (get_or xs i 0) ≡ length_at b (get_or xs i 0)) → EndToEnd b o xs → EndToEnd c o xs
ends_same b c e o [] h t = t ∙ sym e
ends_same b c e o (p ∷ ps) h t =
    let l : length_at c o ≡ length_at b o = subst (λ q. length_at c q ≡ length_at b q) t.0 (h 0 (omega arith)) in
    (t.0, subst (λ n. EndToEnd c (o + n) ps) (sym l) (ends_same b c e (o + length_at b o) ps (λ i k. h (suc i) (omega arith)) t.1))

-- A record with the same head and the same fields is as good.
module _ (b c : List ℕ) (long : length c ≡ length b) (r : Row) (o : ℕ) (len : length_at c o ≡ length_at b o) (num : number_at c o ≡ number_at b o) where
  pub stands_same : Stands b r o → Stands c r o
  stands_same s =
      let i = s.inside in
      record {
        number = num ∙ s.number;
        inside = omega arith;
        size = subst (λ n. known_length r n ≤ n) (sym len) s.size;
        exact = subst (λ n. 0 < length r.group → n ≡ known_length r n) (sym len) s.exact;
        least = subst (λ n. r.least ≤ times r n) (sym len) s.least;
        most = subst (λ n. times r n ≤ r.most) (sym len) s.most;
      }

  pub fields_same : fields_at c o r ≡ fields_at b o r
  fields_same = ap (λ n. fields_of r (times r n)) len

  pub record_same : (domains types terms : ℕ) → numbers_at c o r ≡ numbers_at b o r → IsRecord b r o domains types terms → IsRecord c r o domains types terms
  record_same domains types terms ws R = record { stands = stands_same R.stands; fields = told }
    where
      told : (i : ℕ) → i < length (fields_at c o r) → Within domains types terms (get_or (fields_at c o r) i free) (get_or (numbers_at c o r) i 0)
      told i l =
          subst (λ vs. Within domains types terms (get_or (fields_at c o r) i free) (get_or vs i 0)) (sym ws)
          (subst (λ fs. Within domains types terms (get_or fs i free) (get_or (numbers_at b o r) i 0)) (sym fields_same) (R.fields i (subst (λ fs. i < length fs) fields_same l)))
