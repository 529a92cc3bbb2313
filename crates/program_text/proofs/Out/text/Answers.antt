-- `program_text::Out::text` meets its contract: what is copied into a part of the output is stored there (`put-part`), and the output stays as long as it was
-- (`put-length`).
use Rattle.std.proofs.Common.{refl}
use Rattle.program_text.proofs.Puts.{put-part, put-length}
use Rattle.program_text.proofs.Out.text.Goals as goal

pub returns : goal.returns
returns c =
    let p = put-part c.args.self.now.bytes.now c.args.text.now _ c.args.self.now.at c.requires c.copy_from_slice.ensures.after in
    record { put = p; same = refl; long = put-length _ _ _ _ _ p }
