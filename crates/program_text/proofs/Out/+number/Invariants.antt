-- `program_text::Out::number` meets its contract: the decimal digits of n are written. It calls itself; the measure is n, of which the call gets a tenth. Below
-- 10 there is one digit (`one_digit`, `digit-inside`); else the call has written the digits of n / 10, and the digit of n % 10 goes behind them
-- (`more_digits`). There is room for it since n has one digit more than n / 10 and the call left the output as long as it was (`more-inside`).
use Rattle.program_text.proofs.Out.+number.Given as goal

abbrev pub decreases-number : goal.decreases-number
decreases-number l = l.n
