-- Document 02, card 4, on the bytes of the work area: "Inside the work area, every link between frames and bindings, however wide it is now, takes 16 bits".
use Rattle.std.specs.Prelude.{ℕ, ◌+◌, ◌*◌, ◌≤◌, ◌<◌, ◌≡◌, List, length, get_or, set}
use Rattle.base_bytes.specs.Bytes.{AreBytes, number_at}
use Rattle.base_bytes.specs.Memory.{word_count, memory_length}
use Rattle.vm_code.specs.Values.{function_value, object_value}
use Rattle.vm_code.specs.Words.{return_pc}
use Rattle.vm_machine.specs.Memory.{Memory, word_at, put_word, above, binding, bound_link, advice_word, advice_env, closure_env, slot_word, slot_env, advice_frame, bindings_left, next_binding, end_binding}
use Rattle.vm_memory.specs.View.{memory_of, Holds}

-- The links. (None leads from frame to frame: a frame's slot follows from the unfinished terms around it.)
pub data Link : Type 0 where
  -- of a binding: the one outside of it
  outer : Link
  -- of an activation frame, a keep's and a match's among them (card 6): its environment
  frame : Link
  -- of a mark's frame: the bindings that are left, the next one and where they end
  next : Link
  end : Link
  -- of a function or an object, in each word that holds it, a kept value's among them (card 6): its environment
  closure : Link
  -- of an advice, in the first word of its piece: its environment
  advice : Link

-- The first of its two bytes, in its word of 8.
abbrev pub link_byte : Link → ℕ
link_byte outer = 0
link_byte frame = 0
link_byte next = 4
link_byte end = 6
link_byte closure = 6
link_byte advice = 2

-- Its bytes, and how many numbers they hold.
abbrev pub link_length : ℕ
link_length = 2

abbrev pub link_size : ℕ
link_size = 65536

-- What the machine reads of the word.
abbrev pub read_link : Link → ℕ → ℕ
read_link outer = bound_link
read_link frame = slot_env
read_link next = next_binding
read_link end = end_binding
read_link closure = closure_env
read_link advice = advice_env

-- The words that the machine writes, each as a function of its link; the parts below the link have their widths.
pub data LinkWord : Link → (ℕ → ℕ) → Type 0 where
  a_binding : (v target : ℕ) → LinkWord outer (λ l. binding v target l)
  a_frame : (kind pc held : ℕ) → LinkWord frame (λ l. slot_word kind pc l held)
  a_next : (pc env m : ℕ) → pc ≤ return_pc → env < link_size → LinkWord next (λ l. slot_word advice_frame pc env (bindings_left l m))
  an_end : (pc env n : ℕ) → pc ≤ return_pc → env < link_size → n < link_size → LinkWord end (λ l. slot_word advice_frame pc env (bindings_left n l))
  a_function : (target x : ℕ) → target < 65536 → x < 268435456 → LinkWord closure (λ l. above (function_value l target) x)
  an_object : (term x : ℕ) → term < 65536 → x < 268435456 → LinkWord closure (λ l. above (object_value l term) x)
  one_advice : (target dom : ℕ) → target < 65536 → LinkWord advice (λ l. advice_word target l dom)

-- The offset of a link in the work area, if its word is number i; and the number in its two bytes there.
abbrev pub link_offset : Link → ℕ → ℕ
link_offset k i = 8 * i + link_byte k

abbrev pub link_at : Link → ℕ → List ℕ → ℕ
link_at k i w = number_at link_length (link_offset k i) w

-- Every other byte of two work areas is the same, past the published length too.
abbrev pub SameBeside : Link → ℕ → List ℕ → List ℕ → Type 0
SameBeside k i w w' = (j : ℕ) → (j ≡ link_offset k i → ⊥) → (j ≡ link_offset k i + 1 → ⊥) → get_or w j 0 ≡ get_or w' j 0

-- "A link that is written reads back as the place it named, and no byte beside its two changes": word i of the work area w had a link of kind k in it, and has the link l in its place now, in w'.
pub record Replacement (k : Link) (i l : ℕ) (w w' : List ℕ) : Type 0 where
  pub bytes : link_at k i w' ≡ l
  pub reads : read_link k (word_at (memory_of w') i) ≡ l
  pub beside : SameBeside k i w w'

-- Of every word that the machine writes with a link, wherever it stands in a work area of bytes that is long enough.
abbrev pub Card4 : Type 0
Card4 =
    (k : Link) (f : ℕ → ℕ) → LinkWord k f → (w w' : List ℕ) → AreBytes w → AreBytes w' → memory_length ≤ length w → memory_length ≤ length w'
    → (i l l' : ℕ) → i < word_count → l < link_size → l' < link_size → word_at (memory_of w) i ≡ f l → Holds (put_word i (f l') (memory_of w)) w w' → Replacement k i l' w w'

-- A store into the tables M leaves N, and puts the link l of kind k into a word: that word is one of the `LinkWord`s. (Of a pointcut's and a match's frame the byte beside changes too; it holds no link.)
pub record PutsLink (k : Link) (l : ℕ) (M N : Memory) : Type 0 where
  pub word : ℕ
  pub around : ℕ → ℕ
  pub is_word : LinkWord k around
  pub words : N.words ≡ set M.words word (around l)
