use Rattle.std.proofs.Common.{arith}
use Rattle.program_text.proofs.Decimals.{length_more}
use Rattle.program_text.proofs.Puts.{digit-inside, more-inside, one_digit, more_digits}
use Rattle.program_text.proofs.Out.+number.Goals as goal
use Rattle.program_text.proofs.Out.+number.Goals.{then-n-ge10, else-n-ge10}

pub number-requires : goal.number-requires
number-requires t c = (omega arith, omega (arith, length_more c.args.n c.if-n-ge10.true))

pub byte-requires : goal.byte-requires
byte-requires t c =
    elim c.if-n-ge10.branch [
      | then-n-ge10 w ↦ rw w.self-is (more-inside w.if-n-ge10.true c.requires w.number.ensures)
      | else-n-ge10 w ↦ rw w.self-is (digit-inside _ _ c.args.n w.if-n-ge10.false c.requires)
    ]

pub returns : goal.returns
returns t c =
    elim c.if-n-ge10.branch [
      | then-n-ge10 w ↦ more_digits c.args.n w.if-n-ge10.true w.number.ensures (rw w.self-is at c.byte.ensures)
      | else-n-ge10 w ↦ one_digit c.args.n w.if-n-ge10.false (rw w.self-is at c.byte.ensures)
    ]
