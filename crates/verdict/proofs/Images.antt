-- The images of the bench sheet's cases, record by record (document 01, "Bench sheet").
use Prim.Native.Nat.{ℕ, zero, suc, ◌+◌, ◌*◌, ◌/◌, ◌%◌}
use mathlib.Core.List.{List, [], ◌∷◌, ◌++◌}
use lib.ListN.{length}

-- 16-bit numbers, little-endian.
unfoldable pub little : List ℕ → List ℕ
little [] = []
little (n ∷ ns) = (n % 256) ∷ (n / 256) ∷ little ns

-- A record of a kind with some fields, and records end to end.
unfoldable pub rec : ℕ → List ℕ → List ℕ
rec k fs = little ((4 + 2 * length fs) ∷ k ∷ fs)

unfoldable pub image : List (List ℕ) → List ℕ
image [] = []
image (r ∷ rs) = r ++ image rs

-- A record with bytes behind its fields (card 1).
unfoldable pub longer : List ℕ → ℕ → List ℕ → List ℕ
longer skipped k fs = little ((4 + 2 * length fs + length skipped) ∷ k ∷ fs) ++ skipped

-- One domain; domain 1 below domain 0; so many domains, each ordered with itself alone, from bit m on.
unfoldable pub one_domain : List ℕ
one_domain = rec 1 (1 ∷ [])

unfoldable pub two_domains : List ℕ
two_domains = image (rec 1 (1 ∷ []) ∷ rec 1 (3 ∷ []) ∷ [])

unfoldable pub domains : ℕ → ℕ → List ℕ
domains zero m = []
domains (suc n) m = rec 1 (m ∷ []) ++ domains n (2 * m)

-- Types and terms that need no telling apart.
unfoldable pub unit : List ℕ
unit = rec 16 []

unfoldable pub number : List ℕ
number = rec 18 []

-- The number n, of type 0.
unfoldable pub literal : ℕ → List ℕ
literal n = rec 34 (0 ∷ n ∷ 0 ∷ [])

-- Frame bytes of frame bytes: from term m on, n terms, each the child of the next.
unfoldable pub chain : ℕ → ℕ → List ℕ
chain zero m = []
chain (suc n) m = rec 60 (0 ∷ m ∷ []) ++ chain n (suc m)

-- A number under n frame bytes.
unfoldable pub deep : ℕ → List ℕ
deep n = image (one_domain ∷ number ∷ literal 5 ∷ chain n 0 ∷ [])

-- P2, as the sheet has it.
unfoldable pub p2_image : List ℕ
p2_image = 6 ∷ 0 ∷ 1 ∷ 0 ∷ 1 ∷ 0 ∷ 4 ∷ 0 ∷ 18 ∷ 0 ∷ 10 ∷ 0 ∷ 34 ∷ 0 ∷ 0 ∷ 0 ∷ 5 ∷ 0 ∷ 0 ∷ 0 ∷ []

-- Frame byte 5, every record longer than its kind's fields; and the same with those alone.
unfoldable pub longer_image : List ℕ
longer_image = image (longer (9 ∷ []) 1 (1 ∷ []) ∷ longer (7 ∷ 7 ∷ []) 18 [] ∷ longer (3 ∷ 0 ∷ 1 ∷ []) 34 (0 ∷ 5 ∷ 0 ∷ []) ∷ longer (0 ∷ 0 ∷ 0 ∷ 0 ∷ []) 60 (0 ∷ 0 ∷ []) ∷ [])

unfoldable pub trimmed_image : List ℕ
trimmed_image = image (one_domain ∷ number ∷ literal 5 ∷ rec 60 (0 ∷ 0 ∷ []) ∷ [])

-- P6 and P7: a function of a label, applied to a new label, that installs "print x", then "print 7", then marks with 3, all at domain 0.
unfoldable pub p6_image : List ℕ
p6_image =
    image
    (one_domain
    ∷ number
    ∷ unit
    ∷ rec 22 (0 ∷ 0 ∷ [])
    ∷ rec 20 (2 ∷ 0 ∷ 1 ∷ [])
    ∷ rec 23 (0 ∷ 0 ∷ [])
    ∷ rec 24 (0 ∷ [])
    ∷ rec 35 (2 ∷ 0 ∷ [])
    ∷ rec 46 (4 ∷ 0 ∷ [])
    ∷ rec 35 (0 ∷ 0 ∷ [])
    ∷ rec 37 (1 ∷ 2 ∷ [])
    ∷ rec 47 (5 ∷ 1 ∷ 3 ∷ [])
    ∷ rec 48 (1 ∷ 4 ∷ [])
    ∷ rec 35 (2 ∷ 0 ∷ [])
    ∷ rec 46 (4 ∷ 6 ∷ [])
    ∷ literal 7
    ∷ rec 37 (1 ∷ 8 ∷ [])
    ∷ rec 47 (5 ∷ 7 ∷ 9 ∷ [])
    ∷ rec 48 (1 ∷ 10 ∷ [])
    ∷ rec 35 (2 ∷ 0 ∷ [])
    ∷ literal 3
    ∷ rec 45 (1 ∷ 12 ∷ 13 ∷ [])
    ∷ rec 36 (1 ∷ 11 ∷ 14 ∷ [])
    ∷ rec 36 (1 ∷ 5 ∷ 15 ∷ [])
    ∷ rec 41 (3 ∷ 16 ∷ [])
    ∷ rec 44 (2 ∷ [])
    ∷ rec 42 (1 ∷ 17 ∷ 18 ∷ [])
    ∷ [])

-- P8: a cell of domain 1, made at domain 0, then the rest.
unfoldable pub p8_image : List (List ℕ) → List ℕ
p8_image rest = image (two_domains ∷ number ∷ rec 21 (0 ∷ 1 ∷ []) ∷ unit ∷ literal 5 ∷ rec 49 (1 ∷ 0 ∷ []) ∷ image rest ∷ [])

-- A pointcut of n new labels, which an advice that does nothing has, installed.
unfoldable pub new_labels : ℕ → List ℕ
new_labels zero = []
new_labels (suc n) = rec 44 (2 ∷ []) ++ new_labels n

unfoldable pub up_to : ℕ → List ℕ
up_to zero = []
up_to (suc n) = up_to n ++ (n ∷ [])

unfoldable pub labelled : ℕ → List ℕ
labelled n =
    image
    (one_domain ∷ number ∷ unit ∷ rec 22 (0 ∷ 0 ∷ []) ∷ rec 23 (0 ∷ 0 ∷ []) ∷ rec 24 (0 ∷ [])
    ∷ new_labels n ∷ rec 46 (3 ∷ up_to n) ∷ rec 32 (1 ∷ []) ∷ rec 47 (4 ∷ n ∷ suc n ∷ []) ∷ rec 48 (1 ∷ suc (suc n) ∷ [])
    ∷ [])
