-- `text::Text::put_byte` meets its contract. Assumes nothing.
use mathlib.Core.Path.{refl}
use mathlib.Core.List.{[], ◌∷◌}
use Rattle.text.proofs.Written.{stored, piece}
use Rattle.text.proofs.Text.put_byte.Goals as goal

pub returns : goal.returns
returns c =
    let t = c.args.self.now in
    piece t _ (c.args.byte ∷ []) c.requires (stored t.bytes.now t.len c.args.byte c.requires) refl refl
