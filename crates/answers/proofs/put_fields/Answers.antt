-- `answers::put_fields` meets its contract: each field behind the one before. Assumes nothing.
use Prim.Native.Nat.{◌+◌, ◌≤◌}
use mathlib.Core.List.{◌++◌}
use mathlib.Core.Path.{◌≡◌, refl}
use lib.ListN.{length}
use native.Mathlib.Omega.{arith}
use Rattle.lists.specs.Lists.{put}
use Rattle.lists.proofs.Put.{next}
use Rattle.little_endian.specs.Bytes.{bytes4}
use Rattle.answers.specs.Answers.{field_bytes}
use Rattle.answers.proofs.put_fields.Goals as goal

pub returns : goal.returns
unfolding field_bytes bytes4
returns c =
    let x = c.args in
    let s = x.out.now in
    let i = x.at in
    let h : i + 36 ≤ length s = c.requires in
    let o1 = c.put_u32.new.out in
    let o2 = c.put_u32-2.new.out in
    let o3 = c.put_u32-3.new.out in
    let o4 = c.put_u32-4.new.out in
    let o5 = c.put_u32-5.new.out in
    let o6 = c.put_u32-6.new.out in
    let o7 = c.put_u32-7.new.out in
    let o8 = c.put_u32-8.new.out in
    let o9 = c.put_u32-9.new.out in
    let b1 = bytes4 x.status in
    let b2 = b1 ++ bytes4 x.c.n320 in
    let b3 = b2 ++ bytes4 x.c.n300 in
    let b4 = b3 ++ bytes4 x.c.n200 in
    let b5 = b4 ++ bytes4 x.c.n100 in
    let b6 = b5 ++ bytes4 x.c.n50 in
    let b7 = b6 ++ bytes4 x.c.misses in
    let b8 = b7 ++ bytes4 x.tried in
    let b9 = b8 ++ bytes4 x.left in
    let e1 : o1 ≡ put s i b1 = c.put_u32.ensures in
    let e2 : o2 ≡ put s i b2 = next s o1 o2 i (i + 4) b1 (bytes4 x.c.n320) refl (omega arith) e1 c.put_u32-2.ensures in
    let e3 : o3 ≡ put s i b3 = next s o2 o3 i (i + 8) b2 (bytes4 x.c.n300) refl (omega arith) e2 c.put_u32-3.ensures in
    let e4 : o4 ≡ put s i b4 = next s o3 o4 i (i + 12) b3 (bytes4 x.c.n200) refl (omega arith) e3 c.put_u32-4.ensures in
    let e5 : o5 ≡ put s i b5 = next s o4 o5 i (i + 16) b4 (bytes4 x.c.n100) refl (omega arith) e4 c.put_u32-5.ensures in
    let e6 : o6 ≡ put s i b6 = next s o5 o6 i (i + 20) b5 (bytes4 x.c.n50) refl (omega arith) e5 c.put_u32-6.ensures in
    let e7 : o7 ≡ put s i b7 = next s o6 o7 i (i + 24) b6 (bytes4 x.c.misses) refl (omega arith) e6 c.put_u32-7.ensures in
    let e8 : o8 ≡ put s i b8 = next s o7 o8 i (i + 28) b7 (bytes4 x.tried) refl (omega arith) e7 c.put_u32-8.ensures in
    let e9 : o9 ≡ put s i b9 = next s o8 o9 i (i + 32) b8 (bytes4 x.left) refl (omega arith) e8 c.put_u32-9.ensures in
    e9

pub overflow_add-at-8 : goal.overflow_add-at-8
overflow_add-at-8 c = record { fits = omega (arith, c.requires, c.well_formed.0.0) }
