-- `write_bytes` writes the bytes of the words: after k turns those of the first k.
use Prim.Native.Nat.{◌*◌}
use lib.ListN.{take}
use Rattle.append.specs.Appended.{Appended}
use Rattle.word_bytes.specs.Bytes.{bytes_of}
use Rattle.word_bytes.proofs.write_bytes.Given as goal

abbrev pub invariant-loop-k : goal.invariant-loop-k
invariant-loop-k l = Appended (bytes_of (take l.k l.words)) l.initial.bytes l.bytes 0 (4 * l.k)
