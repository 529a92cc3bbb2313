-- What reading a call says of its words, and that the call that is read is the call of the list.
use Prim.Native.Nat.{ℕ, ◌+◌, ◌-◌, ◌*◌, ◌≤◌, ◌<◌}
use mathlib.Core.Path.{◌≡◌, refl, sym, ap, ◌∙◌}
use mathlib.Core.Bool.{Bool, true, false, cond, and-false, true≢false}
use mathlib.Core.List.{List}
use native.Mathlib.Omega.{arith}
use lib.Dec.{eqb}
use lib.ListN.{length, take, drop}
use borrow.Author.Tests.{eqb-true}
use Rattle.std.specs.Prelude.{Result, Ok, Err}
use Rattle.basics.specs.Lists.{all_from}
use Rattle.basics.proofs.Tests.{both, fails}
use Rattle.count_check.proofs.Walks.{all-at}
use Rattle.config.specs.declared.MicroPriceConfig.{MicroPriceConfig}
use Rattle.history.specs.Calls.{Call, quote, save, restore, act}
use Rattle.history_replay.specs.declared.BadEncoding.{BadEncoding}
use Rattle.history_replay.specs.declared.inner.CodedCall.{CodedCall}
use Rattle.history_replay.specs.declared.inner.CodedCall.TheVariants.{Quote, Save, Restore}
use Rattle.history_replay.specs.Replay.{Site, badly_coded, word_in, start_at, long_at, call_quote, is_call, well_coded, is_left_out, Stepped, stepped_unless, stepped}
use Rattle.history_replay.specs.Inner.{part_at, coded, decoded, coding, stepped_by}

-- ---- what reading a call says

module _ {A : Type 0} where
  is_ok : (b : Bool) {x l : A} → Ok l ≡ cond b (Ok x) (Err badly_coded) → (b ≡ true) × (l ≡ x)
  is_ok true e = grind arith
  is_ok false e = grind arith

  is_err : (b : Bool) (x : A) {d : BadEncoding} → Err d ≡ cond b (Ok x) (Err badly_coded) → b ≡ false
  is_err true x e = grind arith
  is_err false x e = refl

module _ (room : ℕ) (w : List ℕ) (k : ℕ) where
  pub read-ok : {r : Result CodedCall BadEncoding} → r ≡ decoded room w k → {l : CodedCall} → r ≡ Ok l → (is_call room w k ≡ true) × (l ≡ coded w k)
  read-ok read e = is_ok (is_call room w k) (sym e ∙ read)

  pub read-err : {r : Result CodedCall BadEncoding} → r ≡ decoded room w k → {d : BadEncoding} → r ≡ Err d → is_call room w k ≡ false
  read-err read e = is_err (is_call room w k) (coded w k) (sym e ∙ read)

  -- a list that is well coded has each call whole, and it is one
  pub coded-call : (answers : ℕ) → well_coded room answers w ≡ true → k < answers → (6 * k + 6 ≤ length w) × (is_call room w k ≡ true)
  coded-call answers e h =
      let p = both (eqb (length w) (6 * answers)) (all_from (is_call room w) 0 answers) e in
      let l = eqb-true (length w) (6 * answers) p.0 in
      (omega arith, all-at (is_call room w) 0 answers k p.1 (omega arith) (omega arith))

-- a list that is well coded has six words for each answer
pub coded-long : (room answers : ℕ) (w : List ℕ) → well_coded room answers w ≡ true → length w ≡ 6 * answers
coded-long room answers w e = eqb-true (length w) (6 * answers) (both (eqb (length w) (6 * answers)) (all_from (is_call room w) 0 answers) e).0

-- a list with a call that is none is badly coded
pub coding-bad : (room answers : ℕ) (w : List ℕ) (k : ℕ) (d : BadEncoding) → k < answers → is_call room w k ≡ false → Err d ≡ coding room answers w
coding-bad room answers w k d h n =
    let all = all_from (is_call room w) 0 answers in
    let e : all ≡ false =
    fails all (λ t. true≢false (sym (all-at (is_call room w) 0 answers k t (omega arith) (omega arith)) ∙ n)) in
    rw (e, and-false)

-- ---- the call that is read is call k of the list

module _ (w : List ℕ) (k : ℕ) (c : MicroPriceConfig) (s : Site) where
  abbrev steps : Call → Stepped
  steps l = stepped_unless (is_left_out c l) (act c s.memory l) (start_at w k) s

  part-is : take (start_at w k + long_at w k - start_at w k) (drop (start_at w k) s.room) ≡ take (long_at w k) (drop (start_at w k) s.room)
  part-is = ap (λ (j : ℕ). take j (drop (start_at w k) s.room)) (let z : start_at w k + long_at w k - start_at w k ≡ long_at w k = omega arith in z)

  by-kind : (isQuote isSave : Bool) → let b = take (long_at w k) (drop (start_at w k) s.room) in
      stepped_by c (cond isQuote (Quote (call_quote w k)) (cond isSave (Save (part_at w k)) (Restore (part_at w k)))) s
      ≡ steps (cond isQuote (quote (call_quote w k)) (cond isSave (save b) (restore b s.memory)))
  by-kind true isSave = refl
  by-kind false true = ap (λ (b : List ℕ). steps (save b)) part-is
  by-kind false false = ap (λ (b : List ℕ). steps (restore b s.memory)) part-is

  pub coded-steps : stepped_by c (coded w k) s ≡ stepped c w k s
  coded-steps = by-kind (eqb (word_in w k 0) 0) (eqb (word_in w k 0) 1)
