-- The words that the machine's stores write with links are those of card 4: what each store of crate vm_memory leaves by its contract (`Holds`), link by link.
use Prim.Native.Nat.{ℕ, ◌+◌, ◌*◌, ◌%◌, ◌/◌, ◌≤◌, ◌<◌}
use mathlib.Core.Path.{refl}
use Rattle.vm_code.specs.Values.{function_value, object_value}
use Rattle.vm_code.specs.Words.{return_pc}
use Rattle.vm_machine.specs.Memory.{Memory, binding_base, piece_base, put_word, above, binding, put_binding, advice_word, slot_held, slot_at, slot_in, call_frame, advice_frame, pointcut_frame, keep_frame, bindings_left, put_return, put_advice, put_digits, put_match, put_keep, held_size}
use Rattle.vm_links.specs.Links.{outer, frame, next, end, closure, advice, link_size, a_binding, a_frame, a_next, an_end, a_function, an_object, one_advice, PutsLink}

module _ (M : Memory) where
  -- `bind`: the link to the binding outside.
  pub bind_links : (i v target l : ℕ) → PutsLink outer l M (put_binding i (binding v target l) M)
  bind_links i v target l = record { word = binding_base + i; around = λ l. binding v target l; is_word = a_binding v target; words = refl }

  -- A value that is a function or an object, in any word that holds a value above 28 bits x of its own: a binding's, a cell's, that of a value that waits or is kept.
  module _ (i x env : ℕ) (few : x < 268435456) where
    pub function_links : (body : ℕ) → body < 65536 → PutsLink closure env M (put_word i (above (function_value env body) x) M)
    function_links body h = record { word = i; around = _; is_word = a_function body x h few; words = refl }

    pub object_links : (term : ℕ) → term < 65536 → PutsLink closure env M (put_word i (above (object_value env term) x) M)
    object_links term h = record { word = i; around = _; is_word = an_object term x h few; words = refl }

  -- The first word of an advice's piece: its environment.
  pub piece_links : (p target env dom : ℕ) → target < 65536 → PutsLink advice env M (put_word (piece_base + 2 * p) (advice_word target env dom) M)
  piece_links p target env dom h = record { word = piece_base + 2 * p; around = _; is_word = one_advice target dom h; words = refl }

  module _ (frames d pc env : ℕ) where
    -- `put_return`: the environment of a call's frame.
    pub return_links : PutsLink frame env M (put_return frames d pc env M)
    return_links = record { word = slot_in frames d; around = _; is_word = a_frame call_frame pc (slot_held (slot_at M frames d)); words = refl }

    -- `put_advice`: the environment of a mark's frame, and the two ends of the bindings that are left.
    module _ (m n : ℕ) where
      pub advice_links : PutsLink frame env M (put_advice frames d pc env m n M)
      advice_links = record { word = slot_in frames d; around = _; is_word = a_frame advice_frame pc (bindings_left m n); words = refl }

      pub advice_next : pc ≤ return_pc → env < link_size → PutsLink next m M (put_advice frames d pc env m n M)
      advice_next h g = record { word = slot_in frames d; around = _; is_word = a_next pc env n h g; words = refl }

      pub advice_end : pc ≤ return_pc → env < link_size → m < link_size → PutsLink end n M (put_advice frames d pc env m n M)
      advice_end h g k = record { word = slot_in frames d; around = _; is_word = an_end pc env m h g k; words = refl }

    -- `put_digits`, `put_match`, `put_keep`: the environment of a pointcut's frame, a match's and a keep's.
    pub digits_links : (digits : ℕ) → PutsLink frame env M (put_digits frames d pc env digits M)
    digits_links digits = record { word = slot_in frames d; around = _; is_word = a_frame pointcut_frame pc (digits % held_size); words = refl }

    pub match_links : (v byte : ℕ) → PutsLink frame env M (put_match frames d pc env v byte M)
    match_links v byte = record { word = slot_in frames d; around = _; is_word = a_frame pointcut_frame pc (v / 268435456); words = refl }

    pub keep_links : PutsLink frame env M (put_keep frames d pc env M)
    keep_links = record { word = slot_in frames d; around = _; is_word = a_frame keep_frame pc 0; words = refl }
