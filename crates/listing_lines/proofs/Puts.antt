-- Laws of text put into a buffer: nothing, a byte, one text after another, and text that fits.
use Prim.Native.Nat.{ℕ, zero, suc, ◌+◌, ◌-◌, ◌≤◌, ◌<◌}
use native.Mathlib.Omega.{arith}
use native.Mathlib.Numerals.{add-one}
use mathlib.Core.Path.{◌≡◌, refl, sym, ap, ◌∙◌}
use mathlib.Core.Bool.{Bool, true, false}
use mathlib.Core.List.{List, [], ◌∷◌, ◌++◌}
use lib.ListN.{length, get_or, take, set, length-take, length-append}
use lib.Seq.{length-take-le, take_all, take-nil, take-suc, sets-eq}
use lib.Dec.{leb}
use borrow.Author.Tests.{leb-true, leb-false}
use Rattle.base_bytes.specs.Bytes.{over}
use Rattle.base_bytes.proofs.Over.{length_over, over_nothing, over_over}
use Rattle.listing_lines.specs.Puts.{fitting, Puts, PutsWithin}

-- A text of which nothing fits.
puts_none : (xs : List ℕ) (o : ℕ) (text : List ℕ) → fitting xs o text ≡ [] → Puts xs o text xs o
puts_none xs o text e = record { bytes = sym (ap (λ t. over o t xs) e ∙ over_nothing xs o); past = rw e (omega arith) }

full : (xs : List ℕ) (o : ℕ) (text : List ℕ) → length xs ≤ o → fitting xs o text ≡ []
full xs o text h = let z : length xs - o ≡ 0 = omega arith in ap (λ n. take n text) z

pub puts_nothing : (xs : List ℕ) (o : ℕ) → Puts xs o [] xs o
puts_nothing xs o = puts_none xs o [] (take-nil (length xs - o))

pub byte_left_out : (xs : List ℕ) (o b : ℕ) → length xs ≤ o → Puts xs o (b ∷ []) xs o
byte_left_out xs o b h = puts_none xs o (b ∷ []) (full xs o (b ∷ []) h)

pub byte_put : (xs : List ℕ) (o b : ℕ) → o < length xs → Puts xs o (b ∷ []) (set xs o b) (o + 1)
unfolding over
byte_put xs o b h =
    let e : fitting xs o (b ∷ []) ≡ b ∷ [] = take_all (length xs - o) (b ∷ []) (omega arith) in
    record { bytes = sets-eq (b ∷ []) xs o (omega arith) ∙ ap (λ t. over o t xs) (sym e); past = rw e refl }

-- The front of two texts end to end.
take_append : (n : ℕ) (p q : List ℕ) → take n (p ++ q) ≡ take n p ++ take (n - length p) q
take_append zero p q = let z : 0 - length p ≡ 0 = omega arith in rw z refl
take_append (suc n) [] q = let z : suc n - 0 ≡ suc n = omega arith in rw z refl
take_append (suc n) (a ∷ p) q = let z : suc n - suc (length p) ≡ n - length p = omega arith in rw z (ap (a ∷◌) (take_append n p q))

-- The buffer keeps its length.
pub kept : {xs text ys : List ℕ} {o end : ℕ} → Puts xs o text ys end → length ys ≡ length xs
kept {xs} {text} {ys} {o} h = look (leb o (length xs)) refl
  where
    look : (b : Bool) → leb o (length xs) ≡ b → length ys ≡ length xs
    look true e =
        let l = leb-true o (length xs) e in
        let n = length-take (length xs - o) text in
        ap length h.bytes ∙ length_over (fitting xs o text) xs o (omega arith)
    look false e =
        let l = leb-false o (length xs) e in
        ap length (h.bytes ∙ ap (λ t. over o t xs) (full xs o text (omega arith)) ∙ over_nothing xs o)

-- One text, and another right after it.
pub then : {xs ys zs p q : List ℕ} {o j end : ℕ} → Puts xs o p ys j → Puts ys j q zs end → Puts xs o (p ++ q) zs end
then {xs} {ys} {zs} {p} {q} {o} {j} {end} a b = record { bytes = written (leb o (length xs)) refl; past = passed }
  where
    capacity : length ys - j ≡ length xs - o - length p
    capacity = let n = length-take (length xs - o) p in let k = kept a in omega (arith, a.past)

    both : fitting xs o (p ++ q) ≡ fitting xs o p ++ fitting ys j q
    both = take_append (length xs - o) p q ∙ ap (λ n. fitting xs o p ++ take n q) (sym capacity)

    passed : end ≡ o + length (fitting xs o (p ++ q))
    passed = rw (both, length-append (fitting xs o p) (fitting ys j q)) (omega (arith, a.past, b.past))

    written : (t : Bool) → leb o (length xs) ≡ t → zs ≡ over o (fitting xs o (p ++ q)) xs
    written true e =
        let l = leb-true o (length xs) e in
        let n = length-take (length xs - o) p in
        let m = length-take (length ys - j) q in
        let k = kept a in
        b.bytes ∙ ap (over j (fitting ys j q)) a.bytes ∙ over_over (fitting xs o p) (fitting ys j q) xs o j a.past (omega (arith, a.past)) ∙ ap (λ t. over o t xs) (sym both)
    written false e =
        let l = leb-false o (length xs) e in
        let n = length-take (length xs - o) p in
        let k = kept a in
        let y : ys ≡ xs = a.bytes ∙ ap (λ t. over o t xs) (full xs o p (omega arith)) ∙ over_nothing xs o in
        let z : zs ≡ ys = b.bytes ∙ ap (λ t. over j t ys) (full ys j q (omega (arith, a.past))) ∙ over_nothing ys j in
        z ∙ y ∙ sym (ap (λ t. over o t xs) (full xs o (p ++ q) (omega arith)) ∙ over_nothing xs o)

-- The same text.
pub as_text : {xs ys p q : List ℕ} {o end : ℕ} → p ≡ q → Puts xs o p ys end → Puts xs o q ys end
as_text e h = rw e at h

-- One byte more of a text.
pub one_more : {xs ys zs : List ℕ} {o j end : ℕ} (text : List ℕ) (i : ℕ) → i < length text → Puts xs o (take i text) ys j → Puts ys j (get_or text i 0 ∷ []) zs end → Puts xs o (take (i + 1) text) zs end
one_more text i h a b = as_text (sym (ap (λ n. take n text) (add-one i) ∙ take-suc text i 0 h)) (then a b)

-- From the front on, the text ends within the buffer.
pub within_limit : {limit end : ℕ} {xs text ys : List ℕ} → Puts xs 0 text ys end → length text ≤ limit → PutsWithin limit xs text ys end
within_limit {end = end} {xs = xs} {text = text} {ys = ys} h l =
    let k = kept h in
    let n = length-take (length xs - 0) text in
    let m : end ≤ length ys = omega (arith, h.past) in
    record { put = h; short = l; front = record { within = m; size = sym (length-take-le end ys m) } }

pub as_short : {limit end : ℕ} {xs ys p q : List ℕ} → p ≡ q → PutsWithin limit xs p ys end → PutsWithin limit xs q ys end
as_short e h = rw e at h

pub longer : {limit more end : ℕ} {xs ys p : List ℕ} → limit ≤ more → PutsWithin limit xs p ys end → PutsWithin more xs p ys end
longer h w = record { put = w.put; short = omega (arith, w.short); front = w.front }

-- A text that fits is put whole.
pub fits_whole : {xs text ys : List ℕ} {o end : ℕ} → Puts xs o text ys end → o + length text ≤ length xs → (ys ≡ over o text xs) × (end ≡ o + length text)
fits_whole {xs} {text} {o = o} h l =
    let e : fitting xs o text ≡ text = take_all (length xs - o) text (omega arith) in
    (h.bytes ∙ ap (λ t. over o t xs) e, h.past ∙ ap (λ t. o + length t) e)
