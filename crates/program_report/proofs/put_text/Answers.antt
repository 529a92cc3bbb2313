-- `program_report::put_text` meets its contract. The ways out: bad input, whose line is written (`bad-text`); a request, whose evening is written
-- (`request-text`). No loop. A request is for at most 1,000 quotes, so their words lie in the recording's 5,000.
use Rattle.program_report.proofs.Texts.{bad-text, request-text}
use Rattle.program_report.proofs.put_text.Goals as goal

pub returns-in-None : goal.returns-in-None
returns-in-None c = bad-text c.args.input.now c.read_text.ensures.read c.in-None.is c.text.ensures

pub returns-in-Some : goal.returns-in-Some
returns-in-Some c = request-text c.args.input.now c.read_text.ensures.read c.in-Some.is c.requires.1 c.put_request.ensures
