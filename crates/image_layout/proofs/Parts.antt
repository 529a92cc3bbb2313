-- The parts of an image, written one after another.
use Prim.Native.Nat.{ℕ, ◌+◌, ◌*◌, ◌-◌, ◌≤◌}
use mathlib.Core.Path.{◌≡◌, refl, sym, ap, ◌∙◌}
use mathlib.Core.List.{List, [], ◌∷◌, ◌++◌, map, append_assoc}
use native.Mathlib.Omega.{arith}
use native.Mathlib.Nat.{mul-le-mul}
use lib.IntN.{ℤ}
use lib.ListN.{length, get_or, length-append, length-map, length-replicate}
use lib.Seq.{sets}
use Rattle.image_words.specs.Words.{digits, bytes_of, twos}
use Rattle.basics.proofs.Stores.{sets-append, sets-whole}
use Rattle.image_words.proofs.Laws.{length-bytes}
use Rattle.config.specs.Configuration.{states}
use Rattle.config.specs.declared.MicroPriceConfig.{MicroPriceConfig}
use Rattle.tally.specs.Entries.{Tables, tables}
use Rattle.tally.specs.Events.{Counts}
use Rattle.calibrator.specs.Record.{counts_of, memory, Previous}
use Rattle.calibrator.specs.declared.Counters.{Counters}
use Rattle.std.specs.Prelude.{Some, None}
use Rattle.calibrator.specs.declared.Record.{Record}
use Rattle.calibrator.proofs.Lengths.{RightLengths}
use Rattle.image_layout.specs.Layout.{oldest, header_length, cells, image_length, previous_words, further, header, image}

pub squares : (n : ℕ) → n ≤ 256 → n * n ≤ 65536
squares n h = mul-le-mul h h

pub bytes-append : (xs ys : List ℕ) → bytes_of (xs ++ ys) ≡ bytes_of xs ++ bytes_of ys
bytes-append [] ys = refl
bytes-append (x ∷ xs) ys =
    ap (λ (r : List ℕ). digits 8 x ++ r) (bytes-append xs ys) ∙ sym (append_assoc (digits 8 x) (bytes_of xs) (bytes_of ys))

-- a part of words, then the rest
then : (o xs ys : List ℕ) (i j : ℕ) → j ≡ i + 8 * length xs → sets (sets o i (bytes_of xs)) j (bytes_of ys) ≡ sets o i (bytes_of (xs ++ ys))
then o xs ys i j e =
    let f : j ≡ i + length (bytes_of xs) = omega (arith, length-bytes xs) in
    ap (λ (k : ℕ). sets (sets o i (bytes_of xs)) k (bytes_of ys)) f
    ∙ sym (sets-append (bytes_of xs) (bytes_of ys) o i)
    ∙ sym (ap (λ (r : List ℕ). sets o i r) (bytes-append xs ys))

-- four parts, each where the one before it ends, are one list
four-parts : (form : ℕ) (o h s m t : List ℕ) (C N : ℕ) → length h ≡ form → length s ≡ C → length m ≡ C → length t ≡ N
    → length o ≡ header_length form + 16 * C + 8 * N
    → sets (sets (sets (sets o 0 (bytes_of h)) (header_length form) (bytes_of s)) (header_length form + 8 * C) (bytes_of m)) (header_length form + 16 * C)
    (bytes_of t)
    ≡ bytes_of (h ++ (s ++ (m ++ t)))
four-parts form o h s m t C N eh es em et eo =
    let start = header_length form in
    then (sets (sets o 0 (bytes_of h)) start (bytes_of s)) m t (start + 8 * C) (start + 16 * C) (omega arith)
    ∙ then (sets o 0 (bytes_of h)) s (m ++ t) start (start + 8 * C) (omega arith)
    ∙ then o h (s ++ (m ++ t)) 0 start (omega arith)
    ∙ sets-whole (bytes_of (h ++ (s ++ (m ++ t)))) o
    (length-bytes (h ++ (s ++ (m ++ t))) ∙ omega (arith, length-append h (s ++ (m ++ t)), length-append s (m ++ t), length-append m t))

-- a header has the words of its form
pub length-header : (form : ℕ) → oldest ≤ form → (c : MicroPriceConfig) (l : Previous) (k : Counts) → length (header form c l k) ≡ form
unfolding header
length-header form least c None k = omega (arith, length-replicate {A = ℕ} (form - oldest) 0)
length-header form least c (Some q) k = omega (arith, length-replicate {A = ℕ} (form - oldest) 0)

six : (l : Previous) (q rest : List ℕ) → q ≡ previous_words l
    → get_or q 0 0 ∷ get_or q 1 0 ∷ get_or q 2 0 ∷ get_or q 3 0 ∷ get_or q 4 0 ∷ get_or q 5 0 ∷ rest ≡ previous_words l ++ rest
six None q rest e = rw e
six (Some p) q rest e = rw e

-- the header's words as code lists them
pub header_is : (form : ℕ) (c : MicroPriceConfig) (l : Previous) (k : Counters) (t : Tables) (n C : ℕ) (q : List ℕ) → n ≡ states c → C ≡ cells c
    → q ≡ previous_words l
    → n ∷ c.imbalance_buckets ∷ c.spread_states ∷ c.tick_size ∷ c.min_state_observations ∷ c.max_quote_gap_ms ∷ header_length form
    ∷ (header_length form + 8 * C) ∷ (header_length form + 16 * C) ∷ get_or q 0 0 ∷ get_or q 1 0 ∷ get_or q 2 0 ∷ get_or q 3 0 ∷ get_or q 4 0 ∷ get_or q 5 0 ∷
    k.pairs
    ∷ k.skipped_spread_pairs ∷ k.skipped_gap_pairs ∷ k.largest_move_half_ticks ∷ (header_length form + 16 * C + 8 * n) ∷ further form
    ≡ header form c l (counts_of k t)
unfolding header
header_is form c l k t n C q en ec e =
    rw (en, ec)
    (ap (λ (x : List ℕ). states c ∷ c.imbalance_buckets ∷ c.spread_states ∷ c.tick_size ∷ c.min_state_observations ∷ c.max_quote_gap_ms
    ∷ header_length form ∷ (header_length form + 8 * cells c) ∷ (header_length form + 16 * cells c) ∷ x)
    (six l q
    (k.pairs ∷ k.skipped_spread_pairs ∷ k.skipped_gap_pairs ∷ k.largest_move_half_ticks ∷ image_length form c ∷ further form) e))

-- the four writes of an image
pub image-is : (form : ℕ) → oldest ≤ form → (c : MicroPriceConfig) (r : Record) (s m : List ℕ) (t : List ℤ) (h o o₁ o₂ o₃ o₄ : List ℕ)
    → RightLengths (states c) (length s) (length m) (length t) → length o ≡ image_length form c
    → h ≡ header form c r.previous (counts_of r.counters (tables s m t)) → (C : ℕ) → C ≡ cells c → o₁ ≡ sets o 0 (bytes_of h)
    → o₂ ≡ sets o₁ (header_length form) (bytes_of s) → o₃ ≡ sets o₂ (header_length form + 8 * C) (bytes_of m)
    → o₄ ≡ sets o₃ (header_length form + 16 * C) (bytes_of (map twos t)) → o₄ ≡ image form c (memory r s m t)
image-is form least c r s m t h o o₁ o₂ o₃ o₄ z l eh C ec e₁ e₂ f₃ f₄ =
    let start = header_length form in
    let e₃ : o₃ ≡ sets o₂ (start + 8 * cells c) (bytes_of m) = rw ec at f₃ in
    let e₄ : o₄ ≡ sets o₃ (start + 16 * cells c) (bytes_of (map twos t)) = rw ec at f₄ in
    e₄
    ∙ ap (λ (x : List ℕ). sets x (start + 16 * cells c) (bytes_of (map twos t)))
    (e₃
    ∙ ap (λ (x : List ℕ). sets x (start + 8 * cells c) (bytes_of m))
    (e₂ ∙ ap (λ (x : List ℕ). sets x start (bytes_of s)) (e₁ ∙ ap (λ (x : List ℕ). sets o 0 (bytes_of x)) eh)))
    ∙ four-parts form o (header form c r.previous (counts_of r.counters (tables s m t))) s m (map twos t) (cells c) (states c)
    (length-header form least c r.previous (counts_of r.counters (tables s m t))) z.stay-cells z.moved-cells (length-map t twos ∙ z.totals-cells) l
