-- Laws of bytes written over others: what stands before and after them, and writes end to end.
use Prim.Native.Nat.{ℕ, zero, suc, ◌+◌, ◌≤◌, ◌<◌}
use native.Mathlib.Omega.{arith}
use native.Mathlib.Nat.{add-zero, suc-add, zero-add}
use mathlib.Core.Path.{◌≡◌, refl, sym, ap, ap₂, ◌∙◌}
use mathlib.Core.List.{List, [], ◌∷◌, ◌++◌, append-nil, append_assoc}
use lib.ListN.{length, take, drop, set, length-append, take-append-drop}
use lib.Seq.{sets, sets-eq, length-sets, take-set-le, drop-set-lt, drop-drop}
use Rattle.base_bytes.specs.Bytes.{over}

-- A write that fits is a run of stores.
over_sets : (bs xs : List ℕ) (o : ℕ) → o + length bs ≤ length xs → over o bs xs ≡ sets xs o bs
unfolding over
over_sets bs xs o h = sym (sets-eq bs xs o h)

pub length_over : (bs xs : List ℕ) (o : ℕ) → o + length bs ≤ length xs → length (over o bs xs) ≡ length xs
length_over bs xs o h = ap length (over_sets bs xs o h) ∙ length-sets xs o bs

sets_append : (ps bs xs : List ℕ) (o : ℕ) → sets (sets xs o ps) (o + length ps) bs ≡ sets xs o (ps ++ bs)
sets_append [] bs xs o = rw add-zero
sets_append (a ∷ ps) bs xs o =
    let e : o + suc (length ps) ≡ suc o + length ps = omega arith in
    rw e (sets_append ps bs (set xs o a) (suc o))

-- A write of nothing.
pub over_nothing : (xs : List ℕ) (o : ℕ) → over o [] xs ≡ xs
unfolding over
over_nothing xs o = rw (append-nil, add-zero) (take-append-drop o xs)

-- Writes end to end are one write.
pub over_over : (ps bs xs : List ℕ) (o j : ℕ) → j ≡ o + length ps → j + length bs ≤ length xs → over j bs (over o ps xs) ≡ over o (ps ++ bs) xs
over_over ps bs xs o j e h =
    let n = length-sets xs o ps in
    let m = length-append ps bs in
    ap (over j bs) (over_sets ps xs o (omega arith))
    ∙ over_sets bs (sets xs o ps) j (omega arith)
    ∙ ap (λ i. sets (sets xs o ps) i bs) e
    ∙ sets_append ps bs xs o
    ∙ sym (over_sets (ps ++ bs) xs o (omega arith))

-- The same of two writes that code made one after the other.
pub onward : (ps bs xs : List ℕ) (o j : ℕ) {ys zs : List ℕ} → ys ≡ over o ps xs → zs ≡ over j bs ys → j ≡ o + length ps → j + length bs ≤ length xs → zs ≡ over o (ps ++ bs) xs
onward ps bs xs o j a b e h = b ∙ ap (over j bs) a ∙ over_over ps bs xs o j e h

-- What stands before a write, and after it, is as it was.
take_sets : (bs xs : List ℕ) (o n : ℕ) → n ≤ o → take n (sets xs o bs) ≡ take n xs
take_sets [] xs o n h = refl
take_sets (a ∷ bs) xs o n h = take_sets bs (set xs o a) (suc o) n (omega arith) ∙ take-set-le n xs o a h

pub take_over : (bs xs : List ℕ) (o n : ℕ) → o + length bs ≤ length xs → n ≤ o → take n (over o bs xs) ≡ take n xs
take_over bs xs o n h l = ap (take n) (over_sets bs xs o h) ∙ take_sets bs xs o n l

drop_sets : (bs xs : List ℕ) (o n : ℕ) → o + length bs ≤ n → drop n (sets xs o bs) ≡ drop n xs
drop_sets [] xs o n h = refl
drop_sets (a ∷ bs) xs o n h =
    let l : o < n = omega arith in
    drop_sets bs (set xs o a) (suc o) n (omega arith) ∙ drop-set-lt n xs o a l

pub drop_over : (bs xs : List ℕ) (o n : ℕ) → o + length bs ≤ length xs → o + length bs ≤ n → drop n (over o bs xs) ≡ drop n xs
drop_over bs xs o n h l = ap (drop n) (over_sets bs xs o h) ∙ drop_sets bs xs o n l

-- A write at o is a write at the front of what stands from o on.
pub over_front : (bs xs : List ℕ) → over 0 bs xs ≡ bs ++ drop (length bs) xs
unfolding over
over_front bs xs = rw zero-add

pub over_more : (bs : List ℕ) (x : ℕ) (xs : List ℕ) (o : ℕ) → over (suc o) bs (x ∷ xs) ≡ x ∷ over o bs xs
unfolding over
over_more bs x xs o = rw suc-add

pub drop_front : (bs xs : List ℕ) (n o : ℕ) → n ≤ length xs → drop n (over (n + o) bs xs) ≡ over o bs (drop n xs)
drop_front bs xs zero o h = rw zero-add
drop_front bs [] (suc n) o h = absurd (omega arith)
drop_front bs (x ∷ xs) (suc n) o h = rw (suc-add, over_more bs x xs (n + o)) (drop_front bs xs n o (omega arith))

-- A write right before an earlier write makes one write with it.
pub over_before : (ps bs xs : List ℕ) (o j : ℕ) → j ≡ o + length ps → j + length bs ≤ length xs → over o ps (over j bs xs) ≡ over o (ps ++ bs) xs
unfolding over
over_before ps bs xs o j e h =
    let n = length-append ps bs in
    let t : take o (over j bs xs) ≡ take o xs = take_over bs xs j o h (omega arith) in
    let f : drop j (over j bs xs) ≡ over 0 bs (drop j xs) = rw add-zero at (drop_front bs xs j 0 (omega arith)) in
    let i : j + length bs ≡ o + length (ps ++ bs) = omega arith in
    let r : drop j (over j bs xs) ≡ bs ++ drop (o + length (ps ++ bs)) xs = f ∙ over_front bs (drop j xs) ∙ ap (bs ++◌) (drop-drop (length bs) j xs ∙ ap (λ k. drop k xs) i) in
    ap₂ (λ x y. x ++ ps ++ y) t (ap (λ k. drop k (over j bs xs)) (sym e) ∙ r)
    ∙ sym (append_assoc (take o xs ++ ps) bs (drop (o + length (ps ++ bs)) xs))
    ∙ ap (◌++ drop (o + length (ps ++ bs)) xs) (append_assoc (take o xs) ps bs)
