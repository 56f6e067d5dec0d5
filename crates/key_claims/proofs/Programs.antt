-- The claims of specs/Programs.antt: both contracts say the same of every call.
use Rattle.key_marks.proofs.Steps.{doors_equal}
use Rattle.key_calls.proofs.open_doors.Met as open_doors_met
use Rattle.key_calls.proofs.open_doors.Reads as open_doors_reads
use Rattle.key_calls.proofs.ask_doors.Met as ask_doors_met
use Rattle.key_calls.proofs.ask_doors.Reads as ask_doors_reads
use Rattle.key_claims.specs.Programs.{Programs}
use Rattle.key_claims.proofs.Alike.{alike_same, alike_beyond}

pub programs : Programs
programs = record {
  open_met = open_doors_met.met;
  ask_met = ask_doors_met.met;
  open_known = open_doors_reads.known;
  ask_known = ask_doors_reads.known;
  open_free = λ κs n locks cabinets hand out work. tt;
  ask_free = λ κs n locks cabinets hand out work. tt;
  equal = λ κs λs p q n a b c d e d₁ e₁ d₂ e₂ r₁ r₂ x y. alike_same x y;
  equal_marks = λ κs λs p q r s t u v w n a b keys doors keys₁ doors₁ keys₂ doors₂ x y. doors_equal x y;
  beyond = λ κs λs p q n m a b c d e d₁ e₁ d₂ e₂ r₁ r₂ u l v k x y.
      alike_beyond n m a b c d e u l v k x y;
}
