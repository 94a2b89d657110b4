-- Card 4: where links stand among the bytes of the work area, and that writing one changes no byte beside its two.
use Prim.Native.Nat.{ℕ, zero, suc, ◌+◌, ◌-◌, ◌*◌, ◌/◌, ◌%◌, ◌^◌, ◌≤◌, ◌<◌}
use native.Mathlib.Omega.{arith}
use mathlib.Core.Path.{◌≡◌, refl, sym, ap, ◌∙◌}
use mathlib.Core.Bool.{Bool, true, false}
use mathlib.Core.List.{List, [], ◌∷◌, ◌++◌}
use lib.ListN.{length, get_or, set, take, drop, length-drop, get_or-eq_default}
use lib.Dec.{eqb, ltb}
use lib.Seq.{set-get_or, get_or-take, get_or-drop, get_or-set_same, get_or-set_other, take-take, drop-drop, take_at, drop_at, length-take-le}
use borrow.Author.Tests.{ltb-true, ltb-false, eqb-true, eqb-false}
use Rattle.base_bytes.specs.Bytes.{AreBytes, bytes_of, number_of, number_at}
use Rattle.base_bytes.specs.Memory.{word_count, beside_count, beside_base, memory_length}
use Rattle.base_bytes.specs.Memory as area
use Rattle.base_bytes.proofs.Bytes.{length_bytes, number_back, bytes_parts, bytes_back, bytes8}
use Rattle.base_bytes.proofs.Memory.{length_words, beside_at, take_of_drop}
use Rattle.vm_machine.specs.Memory.{Memory, word_at, put_word}
use Rattle.vm_memory.specs.View.{memory_of, Holds}
use Rattle.vm_links.specs.Links.{Link, outer, frame, next, end, closure, advice, link_byte, link_size, read_link, LinkWord, a_binding, a_frame, a_next, an_end, a_function, an_object, one_advice, link_at, SameBeside, Card4}
use Rattle.vm_memory.proofs.Stored.{load_word}

byte_low : (k : Link) → link_byte k ≤ 6
byte_low outer = omega arith
byte_low frame = omega arith
byte_low next = omega arith
byte_low end = omega arith
byte_low closure = omega arith
byte_low advice = omega arith

-- A word with a link in it: what stands below the link and above it does not depend on it.
record Around (k : Link) (f : ℕ → ℕ) : Type 0 where
  low : ℕ
  high : ℕ
  below : low < 256 ^ link_byte k
  is : (l : ℕ) → f l ≡ low + 256 ^ link_byte k * (l + 256 ^ 2 * high)

around : {k : Link} {f : ℕ → ℕ} → LinkWord k f → Around k f
around (a_binding v t) = record { low = 0; high = t + 4096 * (v / 268435456); below = omega arith; is = λ l. omega arith }
around (a_frame kind pc held) = record { low = 0; high = pc + 1024 * kind + 4096 * held; below = omega arith; is = λ l. omega arith }
around (a_next pc env m h g) = record { low = env + 65536 * pc + 67108864; high = m; below = omega arith; is = λ l. omega arith }
around (an_end pc env n h g j) = record { low = env + 65536 * pc + 67108864 + 4294967296 * n; high = 0; below = omega arith; is = λ l. omega arith }
around (a_function t x h g) = record { low = x + 805306368 + 4294967296 * t; high = 0; below = omega arith; is = λ l. omega arith }
around (an_object t x h g) = record { low = x + 2415919104 + 4294967296 * t; high = 0; below = omega arith; is = λ l. omega arith }
around (one_advice t d h) = record { low = t; high = d; below = omega arith; is = λ l. omega arith }

-- Its eight bytes: those below, the link's two, those above.
word_bytes : {k : Link} {f : ℕ → ℕ} (A : Around k f) (l : ℕ) → l < link_size → bytes_of 8 (f l) ≡ bytes_of (link_byte k) A.low ++ (bytes_of 2 l ++ bytes_of (6 - link_byte k) A.high)
word_bytes {k} A l h =
    let b : ℕ = link_byte k in
    let e : 8 ≡ b + (2 + (6 - b)) = omega (arith, byte_low k) in
    ap (bytes_of 8) (A.is l)
    ∙ ap (λ (n : ℕ). bytes_of n (A.low + 256 ^ b * (l + 256 ^ 2 * A.high))) e
    ∙ bytes_parts b (2 + (6 - b)) A.low (l + 256 ^ 2 * A.high) A.below
    ∙ ap (λ (x : List ℕ). bytes_of b A.low ++ x) (bytes_parts 2 (6 - b) l A.high h)

-- What the machine reads of a word is the number in two of its bytes.
read_bytes : (k : Link) (v : ℕ) → read_link k v ≡ number_of (take 2 (drop (link_byte k) (bytes_of 8 v)))
unfolding number_of
read_bytes outer v = rw (← bytes8 v) (omega arith)
read_bytes frame v = rw (← bytes8 v) (omega arith)
read_bytes next v = rw (← bytes8 v) (omega arith)
read_bytes end v = rw (← bytes8 v) (omega arith)
read_bytes closure v = rw (← bytes8 v) (omega arith)
read_bytes advice v = rw (← bytes8 v) (omega arith)

-- Two bytes b on in the eight from offset o on.
two_of_eight : (o b : ℕ) (w : List ℕ) → b ≤ 6 → take 2 (drop b (take 8 (drop o w))) ≡ take 2 (drop (o + b) w)
two_of_eight o b w h =
    let e : 8 ≡ b + (8 - b) = omega arith in
    ap (λ (n : ℕ). take 2 (drop b (take n (drop o w)))) e
    ∙ ap (take 2) (sym (take_of_drop b (8 - b) (drop o w)))
    ∙ take-take 2 (8 - b) (drop b (drop o w)) (omega arith)
    ∙ ap (take 2) (drop-drop b o w)

-- Bytes beside two.
beside_two : (xs : List ℕ) (a b a' b' : ℕ) (zs : List ℕ) (c : ℕ) → (c ≡ length xs → ⊥) → (c ≡ length xs + 1 → ⊥) → get_or (xs ++ (a ∷ b ∷ zs)) c 0 ≡ get_or (xs ++ (a' ∷ b' ∷ zs)) c 0
beside_two [] a b a' b' zs zero h g = absurd (h refl)
beside_two [] a b a' b' zs (suc zero) h g = absurd (g refl)
beside_two [] a b a' b' zs (suc (suc c)) h g = refl
beside_two (x ∷ xs) a b a' b' zs zero h g = refl
beside_two (x ∷ xs) a b a' b' zs (suc c) h g = beside_two xs a b a' b' zs c (λ e. h (omega arith)) (λ e. g (omega arith))

-- Words that differ in a link alone have the same bytes beside it.
words_beside : {k : Link} {f : ℕ → ℕ} → Around k f → (l l' : ℕ) → l < link_size → l' < link_size → (c : ℕ) → (c ≡ link_byte k → ⊥) → (c ≡ link_byte k + 1 → ⊥) → get_or (bytes_of 8 (f l)) c 0 ≡ get_or (bytes_of 8 (f l')) c 0
unfolding bytes_of
words_beside {k} A l l' h h' c n m =
    let e : length (bytes_of (link_byte k) A.low) ≡ link_byte k = length_bytes (link_byte k) A.low in
    ap (λ (x : List ℕ). get_or x c 0) (word_bytes A l h)
    ∙ beside_two (bytes_of (link_byte k) A.low) _ _ _ _ (bytes_of (6 - link_byte k) A.high) c (λ q. n (q ∙ e)) (λ q. m (q ∙ ap (λ (i : ℕ). i + 1) e))
    ∙ sym (ap (λ (x : List ℕ). get_or x c 0) (word_bytes A l' h'))

-- A work area of bytes.
module _ (w : List ℕ) (bytes : AreBytes w) (long : memory_length ≤ length w) where
  -- Word i is the number in its eight bytes, and they are its bytes.
  bytes_of_word : (i : ℕ) → i < word_count → bytes_of 8 (word_at (memory_of w) i) ≡ take 8 (drop (8 * i) w)
  unfolding number_at
  bytes_of_word i h =
      let n : length (take 8 (drop (8 * i) w)) ≡ 8 = length-take-le 8 (drop (8 * i) w) (omega (arith, length-drop (8 * i) w)) in
      ap (bytes_of 8) (sym (load_word w i h)) ∙ ap (λ (k : ℕ). bytes_of k (area.word_at w i)) (sym n) ∙ bytes_back (take 8 (drop (8 * i) w)) small
    where
      small : AreBytes (take 8 (drop (8 * i) w))
      small j = try (ltb j 8) refl
        where
          try : (b : Bool) → ltb j 8 ≡ b → get_or (take 8 (drop (8 * i) w)) j 0 < 256
          try true e = rw (get_or-take 8 (drop (8 * i) w) j 0 (ltb-true j 8 e), get_or-drop (8 * i) w j 0) (bytes (8 * i + j))
          try false e = rw (get_or-eq_default (take 8 (drop (8 * i) w)) 0 {n = j} (omega (arith, ltb-false j 8 e, length-take-le 8 (drop (8 * i) w) (omega (arith, length-drop (8 * i) w))))) (omega arith)

  byte_of_word : (i c : ℕ) → i < word_count → c < 8 → get_or w (8 * i + c) 0 ≡ get_or (bytes_of 8 (word_at (memory_of w) i)) c 0
  byte_of_word i c h g = sym (ap (λ (x : List ℕ). get_or x c 0) (bytes_of_word i h) ∙ get_or-take 8 (drop (8 * i) w) c 0 g ∙ get_or-drop (8 * i) w c 0)

  -- Card 4: a link takes two whole bytes: what the machine reads of a word is the number in them.
  pub card4_read : (k : Link) (i : ℕ) → i < word_count → read_link k (word_at (memory_of w) i) ≡ link_at k i w
  unfolding number_at
  card4_read k i h =
      read_bytes k (word_at (memory_of w) i) ∙ ap (λ (x : List ℕ). number_of (take 2 (drop (link_byte k) x))) (bytes_of_word i h) ∙ ap number_of (two_of_eight (8 * i) (link_byte k) w (byte_low k))

-- Word i of a work area w was written, with a link l in it: w became w'.
module _ {k : Link} {f : ℕ → ℕ} (F : LinkWord k f) (w : List ℕ) (i : ℕ) (at : i < word_count) where
  written_word : (w' : List ℕ) (l : ℕ) → Holds (put_word i (f l) (memory_of w)) w w' → word_at (memory_of w') i ≡ f l
  written_word w' l H = ap (λ (M : Memory). word_at M i) H.memory ∙ get_or-set_same (memory_of w).words i (f l) 0 (omega (arith, length_words word_count w))

  other_word : (w' : List ℕ) (l j : ℕ) → (j ≡ i → ⊥) → Holds (put_word i (f l) (memory_of w)) w w' → word_at (memory_of w') j ≡ word_at (memory_of w) j
  other_word w' l j n H = ap (λ (M : Memory). word_at M j) H.memory ∙ get_or-set_other (memory_of w).words i j (f l) 0 n

  -- Card 4: "A link that is written reads back as the place it named": its two bytes hold it, and the machine reads it.
  pub card4_written : (w' : List ℕ) → AreBytes w' → memory_length ≤ length w' → (l : ℕ) → l < link_size → Holds (put_word i (f l) (memory_of w)) w w'
      → (link_at k i w' ≡ l) × (read_link k (word_at (memory_of w') i) ≡ l)
  card4_written w' bytes long l h H =
      let A : Around k f = around F in
      let b : ℕ = link_byte k in
      let r : read_link k (word_at (memory_of w') i) ≡ l =
      ap (read_link k) (written_word w' l H)
      ∙ read_bytes k (f l)
      ∙ ap (λ (x : List ℕ). number_of (take 2 (drop b x))) (word_bytes A l h)
      ∙ ap (λ (x : List ℕ). number_of (take 2 x)) (drop_at (bytes_of b A.low) (bytes_of 2 l ++ bytes_of (6 - b) A.high) b (length_bytes b A.low))
      ∙ ap number_of (take_at (bytes_of 2 l) (bytes_of (6 - b) A.high) 2 (length_bytes 2 l))
      ∙ number_back 2 l h in (
        sym (card4_read w' bytes long k i at) ∙ r,
        r,
      )

  -- Card 4: "no byte beside its two changes": whatever the link is, the work area has the same bytes beside it.
  module _ (w' w'' : List ℕ) (bytes' : AreBytes w') (bytes'' : AreBytes w'') (long' : memory_length ≤ length w') (long'' : memory_length ≤ length w'') (l l' : ℕ) (h : l < link_size) (h' : l' < link_size)
      (H : Holds (put_word i (f l) (memory_of w)) w w') (H' : Holds (put_word i (f l') (memory_of w)) w w'') where
    in_word : (j c : ℕ) → j < word_count → c < 8 → (8 * j + c ≡ 8 * i + link_byte k → ⊥) → (8 * j + c ≡ 8 * i + link_byte k + 1 → ⊥) → get_or w' (8 * j + c) 0 ≡ get_or w'' (8 * j + c) 0
    in_word j c g d n m = byte_of_word w' bytes' long' j c g d ∙ try (eqb j i) refl ∙ sym (byte_of_word w'' bytes'' long'' j c g d)
      where
        try : (b : Bool) → eqb j i ≡ b → get_or (bytes_of 8 (word_at (memory_of w') j)) c 0 ≡ get_or (bytes_of 8 (word_at (memory_of w'') j)) c 0
        try true e =
            let q : j ≡ i = eqb-true j i e in
            ap (λ (x : ℕ). get_or (bytes_of 8 x) c 0) (ap (word_at (memory_of w')) q ∙ written_word w' l H)
            ∙ words_beside (around F) l l' h h' c (λ z. n (omega arith)) (λ z. m (omega arith))
            ∙ sym (ap (λ (x : ℕ). get_or (bytes_of 8 x) c 0) (ap (word_at (memory_of w'')) q ∙ written_word w'' l' H'))
        try false e = let q = eqb-false j i e in ap (λ (x : ℕ). get_or (bytes_of 8 x) c 0) (other_word w' l j q H ∙ sym (other_word w'' l' j q H'))

    past_words : (j : ℕ) → j < beside_count → get_or w' (beside_base + j) 0 ≡ get_or w'' (beside_base + j) 0
    past_words j g = sym (beside_at w' long' j g) ∙ ap (λ (M : Memory). get_or M.beside j 0) H.memory ∙ sym (ap (λ (M : Memory). get_or M.beside j 0) H'.memory) ∙ beside_at w'' long'' j g

    past_all : (j : ℕ) → get_or w' (memory_length + j) 0 ≡ get_or w'' (memory_length + j) 0
    past_all j = sym (get_or-drop memory_length w' j 0) ∙ ap (λ (x : List ℕ). get_or x j 0) (H.rest ∙ sym H'.rest) ∙ get_or-drop memory_length w'' j 0

    pub card4_beside : SameBeside k i w' w''
    card4_beside j n m = try (ltb j beside_base) refl (ltb j memory_length) refl
      where
        try : (b : Bool) → ltb j beside_base ≡ b → (c : Bool) → ltb j memory_length ≡ c → get_or w' j 0 ≡ get_or w'' j 0
        try true e c g =
            let q : 8 * (j / 8) + j % 8 ≡ j = omega arith in
            rw (← q) (in_word (j / 8) (j % 8) (omega (arith, ltb-true j beside_base e)) (omega arith) (λ z. n (sym q ∙ z)) (λ z. m (sym q ∙ z)))
        try false e true g =
            let q : beside_base + (j - beside_base) ≡ j = omega (arith, ltb-false j beside_base e) in
            rw (← q) (past_words (j - beside_base) (omega (arith, ltb-true j memory_length g, ltb-false j beside_base e)))
        try false e false g =
            let q : memory_length + (j - memory_length) ≡ j = omega (arith, ltb-false j memory_length g) in
            rw (← q) (past_all (j - memory_length))

-- Card 4, before and after: to write a word as it stands changes nothing, so a word that is written with another link differs from it in the link alone.
stays : (f : ℕ → ℕ) (w : List ℕ) (i l : ℕ) → word_at (memory_of w) i ≡ f l → Holds (put_word i (f l) (memory_of w)) w w
stays f w i l was = record {
  memory = ap (λ (x : List ℕ). record { words = x; beside = (memory_of w).beside }) (sym (ap (λ (v : ℕ). set (memory_of w).words i v) (sym was) ∙ set-get_or (memory_of w).words i 0));
  rest = refl;
}

pub card4 : Card4
card4 k f F w w' bytes bytes' long long' i l l' at h h' was H =
    let r = card4_written F w i at w' bytes' long' l' h' H in
    record { bytes = r.0; reads = r.1; beside = card4_beside F w i at w w' bytes bytes' long long' l l' h h' (stays f w i l was) H }
