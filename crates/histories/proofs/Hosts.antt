-- The calls that hosts make, for any words: the reply that an answer is packed from.
use Prim.Native.Nat.{ℕ}
use mathlib.Core.List.{List}
use Rattle.model.specs.Effects as effects
use Rattle.model.specs.Calls.{StoreCall}
use Rattle.exports.specs.Exported.{StorePerformed}
use Rattle.exports.proofs.Unpacking.{store_unpacked, store_read_unpacked, store_total_unpacked}
use Rattle.histories.specs.Hosts.{HostStep, Tells, wrote, operated, read, totalled, tells}
use Rattle.histories.specs.Lists.{HostTold}
use Rattle.histories.proofs.Functions.{read_performed, total_performed}

performed : {s s' : List ℕ} {c : StoreCall} {r : ℕ} → StorePerformed s c r s' → HostTold s c r s'
performed {s} {s'} {c} {r} h =
    record { reply = effects.wrote h.answer; apart = (h.packed_is, store_unpacked s c r s' h); performed = h.done }

told : {s s' : List ℕ} {c : StoreCall} {r : ℕ} → Tells s c r s' → HostTold s c r s'
told (wrote h) = performed h
told (operated w w' h z) = performed h
told (read h) = record {
  reply = effects.found h.answer;
  apart = (h.packed_is, store_read_unpacked _ _ _ _ _ h);
  performed = read_performed _ _ _ _ _ h.done;
}
told (totalled h) = record {
  reply = effects.totalled h.answer;
  apart = (h.packed_is, store_total_unpacked _ _ _ h);
  performed = total_performed _ _ _ _ h.done;
}

pub host_told : {s s' : List ℕ} {c : StoreCall} {r : ℕ} → HostStep s c r s' → HostTold s c r s'
host_told t = told (tells t)
