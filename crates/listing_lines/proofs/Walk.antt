-- The texts of records that stand end to end, one record after another.
use Prim.Native.Nat.{ℕ, ◌+◌, ◌-◌, ◌≤◌, ◌<◌}
use native.Mathlib.Omega.{arith}
use mathlib.Core.Path.{◌≡◌, refl, sym, ap, ap₂, ◌∙◌}
use mathlib.Core.Bool.{Bool, true, false, ◌&&◌}
use mathlib.Core.List.{List, [], ◌∷◌, ◌++◌, append-nil, append_assoc}
use mathlib.Core.Option.{Option, none, some}
use lib.ListN.{length, take, drop}
use lib.Seq.{drop-drop}
use lib.Dec.{leb}
use borrow.Author.Tests.{leb-true}
use Rattle.calculus.specs.Combinators.{choose}
use Rattle.calculus.specs.State.{cons_option, picked}
use Rattle.base_bytes.specs.Bytes.{number_of, number_at}
use Rattle.base_bytes.specs.Records.{Record}
use Rattle.report.specs.Records.{length_of, is_whole, first_record, records_in}
use Rattle.report.proofs.ReadRecords.{read_none, read_whole}
use Rattle.listing_lines.specs.Text.{texts}
use Rattle.listing_lines.specs.Puts.{Puts}
use Rattle.listing_lines.specs.Offsets.{size_at, text_if}
use Rattle.listing_lines.proofs.Puts.{puts_nothing, then, as_text}
use Rattle.listing_lines.proofs.Sizes.{size_within}

-- A record's size says whether it is whole, and if so how long it is.
sized : (w : Bool) (n : ℕ) → choose w n 0 ≡ 0 → (w ≡ true → 4 ≤ n) → w ≡ false
sized true n e h = absurd (let m = h refl in omega arith)
sized false n e h = refl

pub whole_long : (s t : Bool) (n : ℕ) → leb 4 n ≡ s → (s && t) ≡ true → 4 ≤ n
whole_long true t n e h = leb-true 4 n e
whole_long false t n e h = let z : ◌≡◌ {A = ℕ} 0 1 = cc in absurd (omega arith)

pub whole_within : (s t : Bool) (n m : ℕ) → leb n m ≡ t → (s && t) ≡ true → n ≤ m
whole_within true true n m e h = leb-true n m e
whole_within true false n m e h = let z : ◌≡◌ {A = ℕ} 0 1 = cc in absurd (omega arith)
whole_within false t n m e h = let z : ◌≡◌ {A = ℕ} 0 1 = cc in absurd (omega arith)

whole_if : (w : Bool) (n : ℕ) → 0 < choose w n 0 → w ≡ true
whole_if true n h = refl
whole_if false n h = absurd (omega arith)

module _ {A : Type 0} (f : A → List ℕ) (g : Record → Option A) where
  -- The text of all that the records in some bytes say.
  abbrev pub text_in : List ℕ → List ℕ
  text_in b = texts f (picked g (records_in b))

  text_first : (o : Option A) (x : List A) → texts f (cons_option o x) ≡ text_if f o ++ texts f x
  unfolding texts
  text_first none x = refl
  text_first (some a) x = refl

  pub text_record : (r : Record) (rs : List Record) → texts f (picked g (r ∷ rs)) ≡ text_if f (g r) ++ texts f (picked g rs)
  unfolding picked
  text_record r rs = text_first (g r) (picked g rs)

  -- The text of bytes put into xs from at on, up to the record at i of s, whose size is given: so far the buffer holds ys, and the text ends at o.
  pub record Walked (xs : List ℕ) (at : ℕ) (s ys : List ℕ) (o i size : ℕ) : Type 0 where
    pub sized : size ≡ size_at s i
    pub within : i + size ≤ length s
    pub done : List ℕ
    pub put : Puts xs at done ys o
    pub whole : text_in s ≡ done ++ text_in (drop i s)

  pub walk_starts : (xs : List ℕ) (at : ℕ) (s : List ℕ) (size : ℕ) → size ≡ size_at s 0 → Walked xs at s xs at 0 size
  walk_starts xs at s size e = record { sized = e; within = size_within s 0 size e (omega arith); done = []; put = puts_nothing xs at; whole = refl }

  module _ {xs s ys : List ℕ} {at o i size : ℕ} (W : Walked xs at s ys o i size) where
    pub walk_ends : size ≤ 0 → Puts xs at (text_in s) ys o
    unfolding picked texts
    walk_ends h =
        let n : ℕ = length_of (drop i s) in
        let z : choose (is_whole (drop i s)) n 0 ≡ 0 = omega (arith, W.sized) in
        let w : is_whole (drop i s) ≡ false = sized (is_whole (drop i s)) n z (whole_long (leb 4 n) (leb n (length (drop i s))) n refl) in
        as_text (sym (W.whole ∙ ap (λ rs. W.done ++ texts f (picked g rs)) (read_none (drop i s) w) ∙ append-nil W.done)) W.put

    -- A record has a length and a kind.
    pub walk_long : 0 < size → 4 ≤ size
    walk_long h =
        let b : List ℕ = drop i s in
        let n : ℕ = length_of b in
        let w : is_whole b ≡ true = whole_if (is_whole b) n (omega (arith, W.sized)) in
        let m : size ≡ n = W.sized ∙ ap (λ x. choose x n 0) w in
        let l = whole_long (leb 4 n) (leb n (length b)) n refl w in
        omega arith

    -- A record of kind k that ends at e, put where the text ended.
    pub walk_on : (k e next : ℕ) {zs : List ℕ} {r : ℕ} → 0 < size → e ≡ i + size → k ≡ number_at 2 (i + 2) s
        → Puts ys o (text_if f (g (record { kind = k; fields = take (e - (i + 4)) (drop (i + 4) s) }))) zs r → next ≡ size_at s e → Walked xs at s zs r e next
    unfolding number_at
    walk_on k e next {zs} {r} h p q put t =
        let b : List ℕ = drop i s in
        let n : ℕ = length_of b in
        let w : is_whole b ≡ true = whole_if (is_whole b) n (omega (arith, W.sized)) in
        let m : size ≡ n = W.sized ∙ ap (λ x. choose x n 0) w in
        let l4 = whole_long (leb 4 n) (leb n (length b)) n refl w in
        let ln = whole_within (leb 4 n) (leb n (length b)) n (length b) refl w in
        let kind : k ≡ number_at 2 2 b = q ∙ ap (λ x. number_of (take 2 x)) (sym (drop-drop 2 i s)) in
        let len : e - (i + 4) ≡ n - 4 = omega arith in
        let fields : take (e - (i + 4)) (drop (i + 4) s) ≡ take (n - 4) (drop 4 b) = ap₂ (λ x y. take x y) len (sym (drop-drop 4 i s)) in
        let first : record { kind = k; fields = take (e - (i + 4)) (drop (i + 4) s) } ≡ first_record b = λ j. record { kind = kind j; fields = fields j } in
        let past : i + n ≡ e = omega arith in
        let rest : drop n b ≡ drop e s = drop-drop n i s ∙ ap (λ x. drop x s) past in
        let on : text_in b ≡ text_if f (g (first_record b)) ++ text_in (drop e s) = ap (λ rs. texts f (picked g rs)) (read_whole b l4 ln) ∙ text_record (first_record b) (records_in (drop n b)) ∙ ap (λ x. text_if f (g (first_record b)) ++ text_in x) rest in
        record {
          sized = t;
          within = size_within s e next t (omega (arith, W.within));
          done = W.done ++ text_if f (g (first_record b));
          put = then W.put (as_text (ap (λ x. text_if f (g x)) first) put);
          whole = W.whole ∙ ap (W.done ++◌) on ∙ sym (append_assoc W.done (text_if f (g (first_record b))) (text_in (drop e s)));
        }
