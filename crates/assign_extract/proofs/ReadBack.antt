-- The theorem.
use Rattle.calls.proofs.operate.Met as operate_met
use Rattle.calls.proofs.operate.Reads as operate_reads
use Rattle.assign_extract.specs.ReadBack.{ReadBack}
use Rattle.assign_extract.proofs.Lent as lent
use Rattle.assign_extract.proofs.Store as store

pub read_back : ReadBack
read_back = record {
  met = operate_met.met;
  known = operate_reads.known;
  free = λ κs a b m is js c w o verb. tt;
  lent_back = lent.lent_back;
  store_back = store.store_back;
}
