-- `read_file` has the words staged behind 1 and 0.
use native.Mathlib.Omega.{arith}
use mathlib.Core.Path.{refl}
use Rattle.files.proofs.read_file.Goals as goal

pub read_staged-requires : goal.read_staged-requires
read_staged-requires c =
    record {
      room = omega arith;
      front = refl;
    }
