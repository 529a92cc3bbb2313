use Rattle.std.proofs.Common.{◌+◌, List, ℕ, get_or, sym, ◌∙◌, subst, arith}
use Rattle.program_text.proofs.Walks.{Reached, reached-on, count-on}
use Rattle.program_text.proofs.read_numbers.Goals as goal

pub loop-b-preserved : goal.loop-b-preserved
loop-b-preserved c =
    let l = c.loop-b in
    let a = c.args in
    let t = c.in_ok-t.t in
    let e = sym c.take_byte.ensures ∙ c.in_ok-t.was in
    let k = c.keep.ensures in
    let n = count-on l.s (get_or a.text.now l.b-index 0) t e in (
      omega arith,
      subst (λ (o : List ℕ). Reached a.text.now a.first a.out.now o t (l.b-index + 1)) (sym k)
          (reached-on a.text.now a.first a.out.now l.out l.s l.b-index l.invariant.1 t (omega arith) e),
    )
