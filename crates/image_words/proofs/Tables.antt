-- Tables written and read word by word: what holds before word i, what one more word makes of it, and what holds after the last.
use mathlib.Core.Path.{◌≡◌, sym, ◌∙◌, ap}
use mathlib.Core.List.{List, map}
use Prim.Native.Nat.{ℕ, ◌+◌, ◌*◌, ◌<◌, ◌≤◌}
use native.Mathlib.Omega.{arith}
use lib.ListN.{length, get_or, take, drop, set, length-map, get_or-map}
use lib.Seq.{sets}
use Rattle.std.proofs.lemmas.List.{get_or_default}
use Rattle.image_words.specs.Words.{digits, bytes_of, words_of, word_at}
use Rattle.image_words.proofs.Laws.{table_step, table-end, words-from, length-words, agree-step, agree-end}

-- ---- writing the words of t from a place on: the words from i on, stored in the output, make all of them stored
module _ {A : Type 0} (word : A → ℕ) (out₀ : List ℕ) (at : ℕ) (t : List A) where
  abbrev words : List ℕ
  words = map word t

  abbrev pub PutTo : List ℕ → ℕ → Type 0
  PutTo out i = sets out (at + 8 * i) (bytes_of (drop i words)) ≡ sets out₀ at (bytes_of words)

  pub put-to-first : PutTo out₀ 0
  put-to-first = ap (λ (j : ℕ). sets out₀ j (bytes_of words)) (let e : at + 8 * 0 ≡ at = omega arith in e)

  pub put-to-next : (out : List ℕ) (i : ℕ) (x : A) {out' : List ℕ} {w : ℕ} → PutTo out i → i < length t → x ≡ get_or t i x → w ≡ word x
      → out' ≡ sets out (at + 8 * i) (digits 8 w) → PutTo out' (i + 1)
  put-to-next out i x p h ex ew e =
      let n : i < length words = rw length-map h in
      let f : _ ≡ get_or words i 0 = ew ∙ ap word ex ∙ sym (get_or-map word t i x) ∙ get_or_default words i (word x) 0 n in
      let g : _ ≡ sets out (at + 8 * i) (digits 8 (get_or words i 0)) = e ∙ ap (λ (v : ℕ). sets out (at + 8 * i) (digits 8 v)) f in
      ap (λ (r : List ℕ). sets r (at + 8 * (i + 1)) (bytes_of (drop (i + 1) words))) g ∙ table_step out at i words n ∙ p

  pub put-to-last : (out : List ℕ) (i : ℕ) → PutTo out i → length t ≤ i → out ≡ sets out₀ at (bytes_of words)
  put-to-last out i p h = sym (table-end out at i words (rw length-map h)) ∙ p

-- ---- reading n numbers from a place on, each made of its word: the first i numbers of the table are read
module _ {A : Type 0} (number : ℕ → A) (bytes : List ℕ) (at n : ℕ) where
  abbrev numbers : List A
  numbers = map number (words_of n (drop at bytes))

  abbrev pub ReadTo : List A → ℕ → Type 0
  ReadTo t i = take i t ≡ take i numbers

  length-numbers : length numbers ≡ n
  length-numbers = length-map (words_of n (drop at bytes)) number ∙ length-words n (drop at bytes)

  pub read-to-next : (t : List A) (i : ℕ) {x : A} {w : ℕ} → ReadTo t i → i < n → length t ≡ n → w ≡ word_at bytes (at + 8 * i) → x ≡ number w
      → ReadTo (set t i x) (i + 1)
  read-to-next t i {x = x} p h l ew ex =
      let e : x ≡ get_or numbers i (number 0) =
      ex ∙ ap number (ew ∙ sym (words-from n i at bytes h)) ∙ sym (get_or-map number (words_of n (drop at bytes)) i 0) in
      ap (λ (y : A). take (i + 1) (set t i y)) e ∙ agree-step (number 0) t numbers i (omega arith) (omega (arith, length-numbers)) p

  pub read-to-last : (t : List A) (i : ℕ) → ReadTo t i → n ≤ i → length t ≡ n → t ≡ numbers
  read-to-last t i p h l = agree-end t numbers i (omega arith) (omega (arith, length-numbers)) p
