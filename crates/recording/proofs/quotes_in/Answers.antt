-- `recording::quotes_in` meets its contract: the ends of any window lie in order in the recording (`ends-known`), which `part_of` asks, and its part at the
-- ends that were found, or at none (`ends-or`), is the part of the definition.
use Rattle.recording.proofs.Windows.{ends-known, ends-or}
use Rattle.recording.proofs.quotes_in.Goals as goal

pub part_of-requires : goal.part_of-requires
part_of-requires c =
    let a = c.args in
    ends-known a.recording.now a.start a.end _ _ c.window_of.ensures (ends-or c.window_of.result _ c.unwrap_or_default-ends.ensures)
