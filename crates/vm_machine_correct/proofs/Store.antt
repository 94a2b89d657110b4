-- Which state of the closure machine the tables and the log stand for.
use Prim.Native.Nat.{ℕ, suc, ◌+◌, ◌*◌, ◌%◌, ◌≤◌, ◌<◌}
use native.Mathlib.Omega.{arith}
use mathlib.Core.Path.{◌≡◌, refl, sym, ap, ◌∙◌}
use mathlib.Core.Bool.{Bool, false}
use mathlib.Core.List.{List, [], ◌∷◌, ◌++◌, append_assoc}
use mathlib.Core.Option.{some}
use lib.ListN.{length, get_elem?, drop, length-append, length-drop, length-set}
use Rattle.laws.proofs.Lookup.{place_below}
use Rattle.calculus.specs.Combinators.{choose}
use Rattle.calculus.specs.State.{Cell, Advice, Counts, Uses, Event, Said, prints, branched, Print, picked, log_of, with_uses, add_event}
use Rattle.calculus.specs.Compose.{member}
use Rattle.calculus.specs.Limits.{label_limit, advice_limit}
use Rattle.image.specs.Limits.{domain_limit}
use Rattle.closure_machine.specs.Closure.{CVal, Body, CState}
use Rattle.base_bytes.specs.Bytes.{bytes_of}
use Rattle.base_bytes.specs.Records.{log_record}
use Rattle.base_bytes.specs.Memory.{word_count, beside_count}
use Rattle.vm_machine.specs.Memory.{Memory, word_at, put_word, cell_base, installed_base, kept_base, installed_at, cell_at, cell_note, has_bit, binding_places, piece_places, cell_places}
use Rattle.vm_machine_correct.proofs.Setup.{Setup}
use Rattle.vm_machine_correct.proofs.Relations.{Sizes, IsVal, IsAdvice, Grows, val_grows, advice_grows}
use Rattle.vm_machine_correct.proofs.Tables.{word_other, grows_put, Above}

-- The log's bytes.
unfoldable pub log_bytes : List Print → List ℕ
log_bytes [] = []
log_bytes (p ∷ ps) = log_record p.dom p.shown ++ log_bytes ps

-- As many cells, labels and installed advices as the state has, and no more of anything than there are places.
pub record Counted (z : Sizes) (s : CState) : Type 0 where
  pub bindings_fit : z.nb ≤ binding_places
  pub pieces_fit : z.np ≤ piece_places
  pub cells_count : z.nc ≡ length s.cells
  pub cells_fit : z.nc ≤ cell_places
  pub labels : z.nl ≡ length s.labels
  pub labels_fit : z.nl ≤ label_limit
  pub advices : z.ni ≡ length s.advices
  pub advices_fit : z.ni ≤ advice_limit

module _ (Θ : Setup) where
  module _ (M : Memory) (z : Sizes) where
    -- The cell that a word stands for.
    pub record IsCell (w : ℕ) (c : Cell CVal) : Type 0 where
      pub value : IsVal Θ M z w c.held
      pub note : cell_note w ≡ c.dom + choose c.plain domain_limit 0
      pub low : c.dom < domain_limit

    -- The installed advice, from place i on; each label that one names is named.
    pub data AreAdvices : ℕ → List (Advice Body) → Type 0 where
      none_installed : {i : ℕ} → AreAdvices i []
      one_installed : {i : ℕ} {a : Advice Body} {x : List (Advice Body)} → IsAdvice Θ M z (installed_at M i) a.dom a.labels a.body.term a.body.env
          → ((l : ℕ) → l < label_limit → has_bit z.named l ≡ false → member l a.labels ≡ false) → AreAdvices (suc i) x → AreAdvices i (a ∷ x)

    pub install_more : (i : ℕ) {x : List (Advice Body)} {a : Advice Body} → AreAdvices i x → IsAdvice Θ M z (installed_at M (i + length x)) a.dom a.labels a.body.term a.body.env
        → ((l : ℕ) → l < label_limit → has_bit z.named l ≡ false → member l a.labels ≡ false) → AreAdvices i (x ++ (a ∷ []))
    install_more i none_installed h n = let e : i + 0 ≡ i = omega arith in one_installed (rw e at h) n none_installed
    install_more i (one_installed {x = x} g m r) h n = let e : i + suc (length x) ≡ suc i + length x = omega arith in one_installed g m (install_more (suc i) r (rw e at h) n)

  pub advices_change : (M : Memory) (z : Sizes) (M' : Memory) (z' : Sizes) → Grows M z M' z' → ((l : ℕ) → l < label_limit → has_bit z'.named l ≡ false → has_bit z.named l ≡ false)
      → {i : ℕ} {x : List (Advice Body)} → AreAdvices M z i x → ((q : ℕ) → q < i + length x → word_at M' (installed_base + q) ≡ word_at M (installed_base + q)) → AreAdvices M' z' i x
  advices_change M z M' z' g s none_installed h = none_installed
  advices_change M z M' z' g s (one_installed {i = i} {a = a} {x = x} k n r) h =
      one_installed (at (ap (λ (w : ℕ). w % piece_places) (h i (omega arith))) (advice_grows Θ M z M' z' g k)) (λ l j q. n l j (s l j q)) (advices_change M z M' z' g s r (λ q p. h q (omega arith)))
    where
      at : {p q : ℕ} → p ≡ q → IsAdvice Θ M' z' q a.dom a.labels a.body.term a.body.env → IsAdvice Θ M' z' p a.dom a.labels a.body.term a.body.env
      at e k = rw e k

  -- The log's bytes are those of what was printed, before the rest of the log as it was.
  pub record Written (log : List ℕ) (at : ℕ) (ps : List Print) : Type 0 where
    pub logged : log ≡ log_bytes ps ++ drop at Θ.log
    pub log_at : at ≡ 10 * length ps
    pub log_fits : at ≤ length Θ.log

  -- The tables and the log stand for the state s.
  pub record Store (M : Memory) (log : List ℕ) (z : Sizes) (s : CState) : Type 0 where
    pub words : word_count ≤ length M.words
    pub beside : beside_count ≤ length M.beside
    pub counts : Counted z s
    pub are_cells : (i : ℕ) (c : Cell CVal) → get_elem? s.cells i ≡ some c → IsCell M z (cell_at M i) c
    pub are_advices : AreAdvices M z 0 s.advices
    pub written : Written log z.at (log_of s.trace)

  -- The sizes with other numbers of bindings and pieces.
  abbrev pub resized : ℕ → ℕ → Sizes → Sizes
  resized b p z = record { nb = b; np = p; nc = z.nc; nl = z.nl; ni = z.ni; named = z.named; at = z.at }

  pub cell_change : (M : Memory) (z : Sizes) (M' : Memory) (z' : Sizes) → Grows M z M' z' → {w w' : ℕ} {c : Cell CVal} → w' ≡ w → IsCell M z w c → IsCell M' z' w' c
  cell_change M z M' z' g {w} {w'} {c} p h =
      let h' : IsCell M' z' w c = record { value = val_grows Θ M z M' z' g h.value; note = h.note; low = h.low } in
      rw p h'

  -- Bindings and pieces are added, or slots written.
  pub store_charged : (M : Memory) (log : List ℕ) (z : Sizes) (s : CState) → Store M log z s → (M' : Memory) (b p : ℕ) (u : Uses) → Grows M z M' (resized b p z)
      → Above cell_base M M' → beside_count ≤ length M'.beside → b ≤ binding_places → p ≤ piece_places → Store M' log (resized b p z) (with_uses u s)
  store_charged M log z s h M' b p u g a by fb fp =
      record {
        words = rw a.words h.words;
        beside = by;
        counts = omega (arith, h.counts);
        are_cells = λ q c e. cell_change M z M' (resized b p z) g (a.kept (cell_base + q) (omega arith)) (h.are_cells q c e);
        are_advices = advices_change M z M' (resized b p z) g (λ l i q. q) h.are_advices (λ q lt. a.kept (installed_base + q) (omega arith));
        written = h.written;
      }

  -- A place of the table of kept values is written (card 6).
  pub store_kept : (M : Memory) (log : List ℕ) (z : Sizes) (s : CState) → Store M log z s → (i v : ℕ) → Store (put_word (kept_base + i) v M) log z s
  store_kept M log z s h i v =
      let M' : Memory = put_word (kept_base + i) v M in
      let g : Grows M z M' z = grows_put M z (kept_base + i) v (omega (arith, h.counts.bindings_fit)) (λ j l e. omega (arith, h.counts.pieces_fit)) in
      record {
        words = rw (length-set M.words (kept_base + i) v) h.words;
        beside = h.beside;
        counts = omega (arith, h.counts);
        are_cells = λ q c e. cell_change M z M' z g (word_other M (kept_base + i) v (cell_base + q) (λ x. omega (arith, place_below s.cells q e, h.counts.cells_count, h.counts.cells_fit))) (h.are_cells q c e);
        are_advices = advices_change M z M' z g (λ l j q. q) h.are_advices (λ q lt. word_other M (kept_base + i) v (installed_base + q) (λ x. omega (arith, h.counts.advices, h.counts.advices_fit)));
        written = h.written;
      }

-- One more record in the log.
pub log_one : (t : List Event) (d n : ℕ) (u : Counts) → log_of (t ++ (record { dom = d; said = prints n u } ∷ [])) ≡ log_of t ++ (record { dom = d; shown = n } ∷ [])
unfolding picked
log_one [] d n u = refl
log_one (e ∷ t) d n u = try e.said (log_one t d n u)
  where
    try : (a : Said) → log_of (t ++ (record { dom = d; said = prints n u } ∷ [])) ≡ log_of t ++ (record { dom = d; shown = n } ∷ [])
        → log_of (record { dom = e.dom; said = a } ∷ (t ++ (record { dom = d; said = prints n u } ∷ []))) ≡ log_of (record { dom = e.dom; said = a } ∷ t) ++ (record { dom = d; shown = n } ∷ [])
    try (prints m y) h = ap (λ x. record { dom = e.dom; shown = m } ∷ x) h
    try (branched b) h = h

-- The turns of matches are no records.
pub log_turn : (t : List Event) (d : ℕ) (b : Bool) → log_of (t ++ (record { dom = d; said = branched b } ∷ [])) ≡ log_of t
unfolding picked
log_turn [] d b = refl
log_turn (e ∷ t) d b = try e.said (log_turn t d b)
  where
    try : (a : Said) → log_of (t ++ (record { dom = d; said = branched b } ∷ [])) ≡ log_of t
        → log_of (record { dom = e.dom; said = a } ∷ (t ++ (record { dom = d; said = branched b } ∷ []))) ≡ log_of (record { dom = e.dom; said = a } ∷ t)
    try (prints m y) h = ap (λ x. record { dom = e.dom; shown = m } ∷ x) h
    try (branched c) h = h

pub store_told : (Θ : Setup) (M : Memory) (log : List ℕ) (z : Sizes) (s : CState) (d : ℕ) (b : Bool) → Store Θ M log z s
    → Store Θ M log z (add_event (record { dom = d; said = branched b }) s)
store_told Θ M log z s d b h =
    record {
      words = h.words;
      beside = h.beside;
      counts = omega (arith, h.counts);
      are_cells = h.are_cells;
      are_advices = h.are_advices;
      written =
          record {
            logged = rw (log_turn s.trace d b) h.written.logged;
            log_at = rw (log_turn s.trace d b) h.written.log_at;
            log_fits = h.written.log_fits;
          };
    }

pub bytes_one : (ps : List Print) (p : Print) → log_bytes (ps ++ (p ∷ [])) ≡ log_bytes ps ++ log_record p.dom p.shown
unfolding log_bytes bytes_of
bytes_one [] p = refl
bytes_one (q ∷ ps) p = ap (λ x. log_record q.dom q.shown ++ x) (bytes_one ps p) ∙ sym (append_assoc (log_record q.dom q.shown) (log_bytes ps) (log_record p.dom p.shown))

pub bytes_length : (ps : List Print) → length (log_bytes ps) ≡ 10 * length ps
unfolding log_bytes bytes_of
bytes_length [] = refl
bytes_length (p ∷ ps) = omega (arith, bytes_length ps)

-- The log keeps its length.
pub log_kept : (Θ : Setup) (M : Memory) (log : List ℕ) (z : Sizes) (s : CState) → Store Θ M log z s → length log ≡ length Θ.log
log_kept Θ M log z s st =
    ap length st.written.logged ∙ length-append (log_bytes (log_of s.trace)) (drop z.at Θ.log)
    ∙ omega (arith, bytes_length (log_of s.trace), length-drop z.at Θ.log, st.written.log_at, st.written.log_fits)
