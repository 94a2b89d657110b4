-- The keys of types, and the filter that holds them. Nothing is asked of a key but that equal types have equal ones: so no reader need believe a number here.
use Rattle.std.specs.Prelude.{ℕ, zero, suc, ◌+◌, ◌*◌, ◌/◌, ◌%◌, ◌^◌, ◌≤◌, ◌<◌, ◌≡◌, Bool, true, not, List, length, get_or, set, eqb}
use Rattle.std.specs.Int.Bits.{bit_or}
use Rattle.laws.specs.Tests.{all_below}
use Rattle.calculus.specs.Combinators.{choose}
use Rattle.image.specs.Limits.{type_limit}
use Rattle.read_records.specs.Heads.{fields_at, field_in}
use Rattle.check_repeats.specs.NewTypes.{is_object}

-- Keys are numbers below 2 ^ 32; the factor is the golden section of that range.
abbrev pub key_range : ℕ
key_range = 4294967296

abbrev pub key_factor : ℕ
key_factor = 1640531527

-- The hash h with one field more, v; the hash of the first n fields; of all.
abbrev pub mixed : ℕ → ℕ → ℕ
mixed h v = (h + v) * key_factor / 65536 % key_range

unfoldable pub hash_to : ℕ → List ℕ → ℕ
hash_to zero fs = 1
hash_to (suc n) fs = mixed (hash_to n fs) (field_in fs n)

abbrev pub hash_of : List ℕ → ℕ
hash_of fs = hash_to (length fs / 2) fs

-- The key of the type with the descriptor x and the fields fs.
abbrev pub key_of : ℕ → List ℕ → ℕ
key_of x fs = choose (is_object x) (hash_of fs) x

-- The filter: the keys of the types by their numbers, then 1,024 bits in words of 32. The place of a key's bit among them, the word that it stands in, and its place in the word.
abbrev pub key_count : ℕ
key_count = type_limit

abbrev pub filter_length : ℕ
filter_length = key_count + 32

abbrev pub place_of : ℕ → ℕ
place_of k = k * key_factor % key_range / 4194304

abbrev pub word_of : ℕ → ℕ
word_of k = key_count + place_of k / 32

abbrev pub bit_of : ℕ → ℕ
bit_of k = place_of k % 32

abbrev pub has_bit : ℕ → ℕ → Bool
has_bit w l = eqb (w / 2 ^ l % 2) 1

abbrev pub with_bit : ℕ → ℕ → ℕ
with_bit w l = bit_or w (2 ^ l)

abbrev pub marked : List ℕ → ℕ → Bool
marked rs k = has_bit (get_or rs (word_of k) 0) (bit_of k)

abbrev pub with_mark : List ℕ → ℕ → List ℕ
with_mark rs k = set rs (word_of k) (with_bit (get_or rs (word_of k) 0) (bit_of k))

-- The key k is none of the first n; the filter with the key k of type n.
abbrev pub new_key : ℕ → List ℕ → ℕ → Bool
new_key n rs k = all_below n (λ i. not (eqb k (get_or rs i 0)))

abbrev pub with_key : List ℕ → ℕ → ℕ → List ℕ
with_key rs n k = with_mark (set rs n k) k

-- The bit of each of the first n keys is there.
pub record Filled (n : ℕ) (rs : List ℕ) : Type 0 where
  pub places : filter_length ≤ length rs
  pub few : n ≤ key_count
  pub at : (i : ℕ) → i < n → marked rs (get_or rs i 0) ≡ true

-- The filter holds the keys of the first n types of the image b, of those with the offsets ts and the descriptors ks.
pub record Filters (b : List ℕ) (n : ℕ) (ts ks rs : List ℕ) : Type 0 where
  pub filled : Filled n rs
  pub keys : (i : ℕ) → i < n → get_or rs i 0 ≡ key_of (get_or ks i 0) (fields_at b (get_or ts i 0))
