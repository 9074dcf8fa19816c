-- What is known of a text once all of it was written.
-- Assumes nothing.
use Rattle.std.proofs.Common.{Bool, true, false, ◌≡◌, refl}
use Rattle.std.specs.Bool.{OnTrue}

pub on_true : (b : Bool) (P Q : Type 0) → (b ≡ true → P → Q) → OnTrue b P → OnTrue b Q
on_true true P Q f p = f refl p
on_true false P Q f p = tt

pub anyway : (b : Bool) (P : Type 0) → P → OnTrue b P
anyway true P p = p
anyway false P p = tt
