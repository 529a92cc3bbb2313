use Rattle.std.proofs.Common.{arith}
use Rattle.program_text.proofs.Puts.{hex-inside, more_hex}
use Rattle.program_text.proofs.Out.+digits.Goals as goal

pub byte-requires : goal.byte-requires
byte-requires t c = hex-inside c.args.w c.args.k (omega arith) c.requires c.digits.ensures

pub returns-then-k-ne0 : goal.returns-then-k-ne0
returns-then-k-ne0 t c = more_hex c.args.w c.args.k (omega arith) c.digits.ensures c.hex_digit.ensures c.byte.ensures
