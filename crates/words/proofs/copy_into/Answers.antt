-- `copy_into` overwrites: the part from `at` on is what `src` holds, or nothing where that has no words.
use native.Mathlib.Omega.{arith}
use Prim.Native.Nat.{◌+◌, ◌-◌}
use mathlib.Core.Path.{refl, ◌∙◌}
use lib.ListN.{length}
use Rattle.std.proofs.lemmas.Slice.{put_mid-paste}
use Rattle.words.proofs.Overwrite.{overwrite_done, overwrite_none}
use Rattle.words.proofs.copy_into.Goals as goal

pub returns-then-not-is_empty : goal.returns-then-not-is_empty
returns-then-not-is_empty c =
    let a = c.args in
    let n = length a.src.now in
    put_mid-paste a.at (a.at + n - a.at) a.dst.now _ a.src.now n c.copy_from_slice.ensures.after (omega arith) refl
    ∙ overwrite_done a.at a.src.now a.dst.now c.requires n refl

pub returns-else-not-is_empty : goal.returns-else-not-is_empty
returns-else-not-is_empty c = overwrite_none c.args.at c.args.src.now c.args.dst.now (grind arith)
