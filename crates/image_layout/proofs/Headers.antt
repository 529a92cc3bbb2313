-- The words of a header that is read, and the judgement of the layout.
use Prim.Native.Nat.{ℕ, ◌/◌, ◌<◌}
use mathlib.Core.Path.{◌≡◌, refl, sym, ap, ◌∙◌}
use mathlib.Core.Bool.{Bool, true, false, ◌&&◌, true≢false}
use mathlib.Core.List.{List, [], ◌∷◌}
use native.Mathlib.Omega.{arith}
use lib.Dec.{eqb}
use lib.ListN.{length, get_or}
use borrow.Author.Tests.{eqb-true, eq-eqb}
use Rattle.basics.proofs.Lists.{same-equal}
use Rattle.basics.proofs.Tests.{fails}
use Rattle.basics.specs.Lists.{same_words}
use Rattle.image_words.specs.Words.{words_of}
use Rattle.image_words.proofs.Laws.{words-at}
use Rattle.config.specs.declared.MicroPriceConfig.{MicroPriceConfig}
use Rattle.tally.specs.Entries.{tables}
use Rattle.tally.specs.Events.{Counts}
use Rattle.calibrator.specs.Record.{counts_of, Previous}
use Rattle.calibrator.specs.declared.Record.{Record}
use Rattle.image_layout.specs.Layout.{newest, is_read, image_length, header, form_in, config_in, record_in, header_in, laid_out, oldest, word}
use lib.Pointwise.{pointwise}
use Rattle.std.specs.Prelude.{nat_eq, cond, Some, None}
use Rattle.std.specs.Bool.{then_some}

-- ---- the words of a header

-- word k of the words that are read is word k of the bytes
pub word-read : (b ws : List ℕ) → ws ≡ header_in oldest b → (k : ℕ) → k < oldest → get_or ws k 0 ≡ word b k
unfolding header_in
word-read b ws read k h = ap (λ (l : List ℕ). get_or l k 0) read ∙ words-at oldest k b h

-- code's last quote is the definition's
pub some-if : {A : Type 0} (t : Bool) (x : A) → then_some t x ≡ cond t (Some x) None
some-if true x = refl
some-if false x = refl

-- the library's test of two lists of numbers
pub same-pointwise : (xs ys : List ℕ) → pointwise nat_eq xs ys ≡ same_words xs ys
same-pointwise [] [] = refl
same-pointwise [] (y ∷ ys) = refl
same-pointwise (x ∷ xs) [] = refl
same-pointwise (x ∷ xs) (y ∷ ys) = ap (λ t. nat_eq x y && t) (same-pointwise xs ys)

-- ---- the test of the layout

-- of a form that is read
laid-out-at : (form : ℕ) (b : List ℕ) (c : MicroPriceConfig) (r : Record) (h : List ℕ) (s : Bool) (long : ℕ) → is_read form ≡ true → c ≡ config_in form b
    → r ≡ record_in form b → h ≡ header form c r.previous (counts_of r.counters (tables [] [] [])) → s ≡ same_words (header_in form b) h
    → long ≡ image_length form c → (s && eqb (length b) long) ≡ laid_out form b
unfolding header
laid-out-at form b c r h s long read ec er eh es el = rw (read, es, eh, el, ec, er)

-- an image whose words are those of the newest header has that form
same-form : (b : List ℕ) (c : MicroPriceConfig) (l : Previous) (k : Counts) → same_words (header_in newest b) (header newest c l k) ≡ true → form_in b ≡ newest
unfolding header header_in
same-form b c l k e =
    ap (λ (w : ℕ). w / 8)
    (sym (words-at newest 6 b (omega arith)) ∙ ap (λ (ws : List ℕ). get_or ws 6 0) (same-equal (words_of newest b) (header newest c l k) e))

-- as code makes it: it compares with the newest header, as no other form is read
pub laid-out-is : (b : List ℕ) (c : MicroPriceConfig) (r : Record) (h : List ℕ) (s : Bool) (long : ℕ) → c ≡ config_in (form_in b) b
    → r ≡ record_in (form_in b) b
    → h ≡ header newest c r.previous (counts_of r.counters (tables [] [] [])) → s ≡ same_words (header_in newest b) h → long ≡ image_length newest c
    → (s && eqb (length b) long) ≡ laid_out (form_in b) b
laid-out-is b c r h s long ec er eh es el = go (is_read (form_in b)) refl
  where
    go : (t : Bool) → is_read (form_in b) ≡ t → (s && eqb (length b) long) ≡ laid_out (form_in b) b
    go true e =
        let read : form_in b ≡ newest = eqb-true (form_in b) newest e in
        laid-out-at newest b c r h s long refl (ec ∙ ap (λ (form : ℕ). config_in form b) read) (er ∙ ap (λ (form : ℕ). record_in form b) read) eh es el
        ∙ ap (λ (form : ℕ). laid_out form b) (sym read)
    go false e =
        let differs : s ≡ false =
        fails s
        (λ same.
        true≢false
        (sym (eq-eqb (form_in b) newest
        (same-form b c r.previous (counts_of r.counters (tables [] [] [])) (ap (same_words (header_in newest b)) (sym eh) ∙ sym es ∙ same)))
        ∙ e)) in
        rw (differs, e)
