-- `fit_linear::inner::Rows::reduce_column` meets its contract: column c is solved by its pivot. No loop. The ways out: the pivot's size is below 1e-12, and
-- nothing is written (`column-singular`); or rows c and `best` change places, row c is divided by the pivot and all others are cleared by it, which makes the
-- reduced matrix (`column-solved`). The rows below row c lie in the n rows (`rows-below`).
use Rattle.std.proofs.Common.{◌≡◌, ◌∙◌, ◌++◌, refl, ap, length, arith}
use Rattle.fit_linear.proofs.Parts.{rows-below}
use Rattle.fit_linear.proofs.Rows.{column-becomes}
use Rattle.fit_linear.proofs.Columns.{column-singular, column-solved}
use Rattle.fit_linear.proofs.inner.Rows.reduce_column.Goals as goal

pub returns-then-size : goal.returns-then-size
returns-then-size c =
    let m = c.args.self.now in
    record {
      number = refl;
      width = refl;
      slice = refl;
      eliminated = column-singular m.n m.w c.args.c c.find_pivot-best.result c.find_pivot-best.ensures c.size.ensures c.if-size.true;
    }

pub clear_rows-requires-2 : goal.clear_rows-requires-2
clear_rows-requires-2 c =
    let m = c.args.self.now in
    let wide : length c.divide.new.row ≡ m.w = omega arith in
    rw wide (omega arith, omega (arith, rows-below m.n m.w c.args.c c.requires))

pub returns : goal.returns
returns c =
    let m = c.args.self.now in
    let i = c.args.c in
    let pivot = c.find_pivot-best in
    let above = c.split_at_mut-above.ensures in
    let row = c.split_at_mut-top.ensures in
    let wide : length c.divide.new.row ≡ m.w = omega arith in
    record {
      number = refl;
      width = refl;
      slice = refl;
      eliminated =
          column-solved m.n m.w i pivot.result pivot.ensures c.size.ensures c.if-size.false
          (column-becomes m.n m.w i pivot.result (omega arith) (omega arith) (omega arith) c.split_at_mut-top.result.0.now c.divide.new.row c.swap_rows.ensures
          (above.value ∙ ap (λ x. c.split_at_mut-above.result.0.now ++ x) row.value)
          above.front_len
          row.front_len
          (omega arith)
          wide
          c.divide.ensures
          (rw wide at c.clear_rows.ensures)
          (rw wide at c.clear_rows-2.ensures));
    }
