-- `program_text::Out::hex` meets its contract: `hex16` of a word is by definition its last 16 hexadecimal digits, which `digits` writes.
use Rattle.program_text.specs.Written.{hex16}
use Rattle.program_text.proofs.Out.hex.Goals as goal

pub returns : goal.returns
unfolding hex16
returns c = c.digits.ensures
