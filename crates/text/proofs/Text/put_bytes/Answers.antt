-- `text::Text::put_bytes` meets its contract. Assumes nothing.
use mathlib.Core.Path.{refl, ◌∙◌}
use native.Mathlib.Omega.{arith}
use lib.ListN.{length}
use Rattle.std.proofs.lemmas.Slice.{put_mid-paste}
use Rattle.text.proofs.Written.{copied, piece}
use Rattle.text.proofs.Text.put_bytes.Goals as goal

pub returns : goal.returns
returns c =
    let t = c.args.self.now in
    let copy = c.copy_from_slice in
    let bytes = c.args.bytes.now in
    piece t _ bytes c.requires (put_mid-paste t.len _ t.bytes.now copy.new.self bytes (length bytes) copy.ensures.after (omega arith) refl ∙ copied t.bytes.now t.len bytes) refl refl
