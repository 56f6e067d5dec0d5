-- `stored` answers and leaves what `store_calls::operate` does.
use Rattle.exports.proofs.stored.Goals as goal

pub returns : goal.returns
returns c =
    record {
      fact_1 = record { answer = _; packed_is = c.pack.ensures; done = rw c.options_of-options.ensures at c.operate.ensures.0 };
      fact_2 = c.operate.ensures.1;
    }
