-- Document 01, Program `sheet`: it prints lines, one after the other. Text that is written into a lent buffer: the room that is left, and
-- a text that gained a piece.
use Rattle.std.specs.Prelude.{◌≡◌, List, ℕ, ◌+◌, ◌≤◌, length}
use Rattle.lists.specs.Lists.{put}
use Rattle.text.specs.declared.Text.{Text}

-- n bytes more have room
abbrev pub HasRoom : Text → ℕ → Type 0
HasRoom t n = t.len + n ≤ length t.bytes.now

-- behind what was written a text gained the piece xs; the rest of its buffer is as before
pub record Gained (before after : Text) (xs : List ℕ) : Type 0 where
  pub bytes : after.bytes.now ≡ put before.bytes.now before.len xs
  pub ends : after.len ≡ before.len + length xs
  pub same_length : length after.bytes.now ≡ length before.bytes.now
  pub within : after.len ≤ length after.bytes.now
  pub same_reference : after.bytes.ghost_name ≡ before.bytes.ghost_name
