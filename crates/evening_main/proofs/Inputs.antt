-- What stands in front of the buffer after a further read.
use borrow.Rule.Slice.PartMut.{put_mid}
use Prim.Native.Nat.{ℕ, ◌+◌, ◌-◌, ◌≤◌}
use mathlib.Core.Path.{◌≡◌, sym, ◌∙◌, ap}
use mathlib.Core.List.{List, ◌++◌}
use lib.ListN.{length, take, drop}
use lib.Seq.{take_at, drop_at, take-add, take-append-le, length-take-le}

-- what was in front, and then the first n bytes of what the part from `at` on now holds
pub front_more : (at n : ℕ) (buffer part : List ℕ) → at ≤ length buffer → n ≤ length part
    → take at buffer ++ take n part ≡ take (at + n) (put_mid at (length buffer - at) buffer part)
front_more at n buffer part h g =
    let rest = drop (length buffer - at) (drop at buffer) in
    let front = length-take-le at buffer h in
    let first = take_at (take at buffer) (part ++ rest) at front in
    let second = ap (take n) (drop_at (take at buffer) (part ++ rest) at front) ∙ take-append-le n part rest g in
    sym (take-add at n (take at buffer ++ (part ++ rest)) ∙ (λ i. first i ++ second i))
