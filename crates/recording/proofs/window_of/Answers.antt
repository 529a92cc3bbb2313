-- `recording::window_of` meets its contract: 7, 14 and 15 are judged in the definition's order. The two ends are the numbers of quotes before the two times,
-- and the part would end before it begins exactly where the definition says 15. The ways out: words that are no multiple of five, times not in
-- order, a backward window with a quote in it (`way-backward`), and the part (`way-part`).
use mathlib.Core.Path.{sym, ◌∙◌}
use Rattle.recording.proofs.Windows.{way-backward, way-part}
use Rattle.recording.proofs.window_of.Goals as goal

pub returns-then-past-first : goal.returns-then-past-first
returns-then-past-first c =
    way-backward c.args.recording.now c.args.start c.args.end c.if-recording-ne0.false _ _
    (sym c.is_sorted.ensures ∙ c.if-not-is_sorted.false) c.quotes_before-first.ensures
    c.quotes_before-past.ensures c.if-past-first.true

pub returns : goal.returns
returns c =
    way-part c.args.recording.now c.args.start c.args.end c.if-recording-ne0.false _ _
    (sym c.is_sorted.ensures ∙ c.if-not-is_sorted.false) c.quotes_before-first.ensures
    c.quotes_before-past.ensures c.if-past-first.false
