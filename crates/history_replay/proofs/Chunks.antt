-- The words of a call in their list of six are those of the whole list.
use Prim.Native.Nat.{ℕ, zero, suc, ◌+◌, ◌*◌, ◌/◌, ◌<◌}
use mathlib.Core.Path.{◌≡◌, refl, ap, ◌∙◌}
use mathlib.Core.List.{List, []}
use native.Mathlib.Omega.{arith}
use lib.ListN.{length, get_or, take, drop}
use Rattle.std.proofs.lemmas.List.{drop-drop, get_or-drop, get_or-take}
use Rattle.std.specs.Prelude.{Result}
use Rattle.std.specs.Simd.{first_chunks}
use Rattle.history_replay.specs.declared.BadEncoding.{BadEncoding}
use Rattle.history_replay.specs.declared.inner.CodedCall.{CodedCall}
use Rattle.history_replay.specs.Replay.{word_in}
use Rattle.history_replay.specs.Inner.{decoded}

chunk_at : (n k : ℕ) (w : List ℕ) → k < n → get_or (first_chunks 6 n w) k [] ≡ take 6 (drop (6 * k) w)
chunk_at zero k w h = absurd (omega arith)
chunk_at (suc n) zero w h = refl
chunk_at (suc n) (suc k) w h =
    chunk_at n k (drop 6 w) (omega arith) ∙ ap (take 6) (drop-drop (6 * k) 6 w ∙ ap (λ (j : ℕ). drop j w) (let z : 6 + 6 * k ≡ 6 * suc k = omega arith in z))

word-in-chunk : (w : List ℕ) (k f : ℕ) → f < 6 → get_or (take 6 (drop (6 * k) w)) f 0 ≡ word_in w k f
word-in-chunk w k f h = get_or-take 6 (drop (6 * k) w) f 0 h ∙ get_or-drop (6 * k) w f 0

by-words : (room : ℕ) (c w : List ℕ) (k : ℕ) → ((f : ℕ) → f < 6 → get_or c f 0 ≡ word_in w k f) → decoded room c 0 ≡ decoded room w k
by-words room c w k e =
    let e0 = e 0 (omega arith) in
    let e1 = e 1 (omega arith) in
    let e2 = e 2 (omega arith) in
    let e3 = e 3 (omega arith) in
    let e4 = e 4 (omega arith) in
    let e5 = e 5 (omega arith) in
    rw (e0, e1, e2, e3, e4, e5) refl

-- what is read of the k-th list of six is what is read of call k
pub read-chunk : (room k : ℕ) (w : List ℕ) {cs : List (List ℕ)} {r : Result CodedCall BadEncoding} → cs ≡ first_chunks 6 (length w / 6) w
    → k < length w / 6 → r ≡ decoded room (get_or cs k []) 0 → r ≡ decoded room w k
read-chunk room k w e h read =
    read
    ∙ ap (λ (cs : List (List ℕ)). decoded room (get_or cs k []) 0) e
    ∙ ap (λ (c : List ℕ). decoded room c 0) (chunk_at (length w / 6) k w h)
    ∙ by-words room (take 6 (drop (6 * k) w)) w k (λ f b. word-in-chunk w k f b)
