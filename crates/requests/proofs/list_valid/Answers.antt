-- `list_valid` begins with no index marked.
use Rattle.requests.proofs.Lists.{seen_none}
use Rattle.requests.proofs.list_valid.Goals as goal

pub indexes_distinct-requires-clause-unmarked : goal.indexes_distinct-requires-clause-unmarked
indexes_distinct-requires-clause-unmarked c = seen_none _
