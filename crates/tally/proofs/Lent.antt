-- The same slices, call after call.
use mathlib.Core.Path.{◌∙◌}
use Rattle.tally.specs.Lent.{SameSlices}
use Rattle.tally.specs.declared.LentTables.{LentTables}

pub same-again : {a b c : LentTables} → SameSlices a b → SameSlices b c → SameSlices a c
same-again f g =
    record {
      stay-same = g.stay-same ∙ f.stay-same;
      moved-same = g.moved-same ∙ f.moved-same;
      totals-same = g.totals-same ∙ f.totals-same;
      stay-long = g.stay-long ∙ f.stay-long;
      moved-long = g.moved-long ∙ f.moved-long;
      totals-long = g.totals-long ∙ f.totals-long;
    }
