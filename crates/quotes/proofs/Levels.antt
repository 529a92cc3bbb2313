-- Laws of spread levels: a walk over the states knows the level of each, and with it the bucket and the mirror, without a division.
use Prim.Native.Nat.{ℕ, ◌+◌, ◌-◌, ◌*◌, ◌/◌, ◌≤◌, ◌<◌}
use mathlib.Core.Path.{◌≡◌, sym, ap, ◌∙◌}
use native.Mathlib.Omega.{arith}
use native.Mathlib.Nat.{zero-mod, zero-div, add-mod_right, add-div_right, div-add-mod', div-le_self}
use Rattle.basics.proofs.Lists.{flat-row, flat-column}
use Rattle.quotes.specs.States.{bucket_in, mirror_of}
use Rattle.quotes.specs.Inner.{InLevel, HasLevel}
use Rattle.quotes.specs.declared.inner.Level.{Level}
use Rattle.quotes.proofs.States.{mirror-row}

-- the first level begins at state 0, and each further one n states after the one before it
pub begins-at-zero : (n : ℕ) → bucket_in n 0 ≡ 0
begins-at-zero n = zero-mod n

pub begins-next : (n first : ℕ) → bucket_in n first ≡ 0 → bucket_in n (first + n) ≡ 0
begins-next n first e = add-mod_right first n ∙ e

-- a state of the level that begins at first
module _ (n first i : ℕ) (l : InLevel n first i) where
  row : first ≡ first / n * n
  row = omega (arith, div-add-mod' first n, l.begins)

  less : i - first < n
  less = omega (arith, l.at_least, l.before)

  placed : i ≡ first / n * n + (i - first)
  placed = omega (arith, row, l.at_least)

  -- its bucket is how far it is from the first, its spread that of the first
  pub level-bucket : i - first ≡ bucket_in n i
  level-bucket = sym (flat-column n (first / n) (i - first) less) ∙ sym (ap (bucket_in n) placed)

  level-row : i / n ≡ first / n
  level-row = ap (λ (k : ℕ). k / n) placed ∙ flat-row n (first / n) (i - first) less

  -- its mirror is as far from the level's last state as it is from the first
  pub level-mirror : first + (n - 1 - (i - first)) ≡ mirror_of n i
  level-mirror =
      ap (λ (f : ℕ). f + (n - 1 - (i - first))) row
      ∙ sym (mirror-row n (first / n) (i - first) less)
      ∙ sym (ap (mirror_of n) placed)

-- ---- the walk

pub level-start : (n : ℕ) → 1 ≤ n → HasLevel n (record { spread = 1; first = 0 }) 0
level-start n h =
    record {
      spread-is = ap (λ (k : ℕ). k + 1) (sym (zero-div n));
      within = record { begins = begins-at-zero n; at_least = omega arith; before = omega arith };
    }

module _ (n : ℕ) (level : Level) (i : ℕ) (l : HasLevel n level i) where
  pub level-spread-most : level.spread ≤ i + 1
  level-spread-most = omega (arith, l.spread-is, div-le_self i n)

  -- the next state is of the same level
  pub level-same : i + 1 < level.first + n → HasLevel n level (i + 1)
  level-same h =
      let same : InLevel n level.first (i + 1) = record { begins = l.within.begins; at_least = omega (arith, l.within.at_least); before = h } in
      record {
        spread-is =
            l.spread-is ∙ ap (λ (k : ℕ). k + 1) (level-row n level.first i l.within ∙ sym (level-row n level.first (i + 1) same));
        within = same;
      }

  -- or the first of the next
  pub level-next : level.first + n ≤ i + 1 → HasLevel n (record { spread = level.spread + 1; first = level.first + n }) (i + 1)
  level-next h =
      let first = level.first in
      let some : 1 ≤ n = omega (arith, l.within.at_least, l.within.before) in
      let next : first + n ≡ i + 1 = omega (arith, l.within.before) in
      record {
        spread-is =
            ap (λ (k : ℕ). k + 1)
            (l.spread-is
            ∙ ap (λ (k : ℕ). k + 1) (level-row n first i l.within)
            ∙ sym (add-div_right first some)
            ∙ ap (λ (k : ℕ). k / n) next);
        within = record { begins = begins-next n first l.within.begins; at_least = h; before = omega (arith, next, some) };
      }
