-- `read_full` is safe: what it has read is within the buffer.
use Rattle.std.proofs.Common.{◌≤◌, length}
use Rattle.print_file.proofs.read_full.Given as goal

abbrev pub invariant-loop : goal.invariant-loop
invariant-loop g l = l.done ≤ length l.bytes
