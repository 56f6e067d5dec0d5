-- A number of entries, a total and a number of bytes are packed alike.
use Rattle.std.proofs.Common.{ℕ, ◌≡◌, refl, Result, Ok, Err}
use Rattle.answers.specs.declared.Refusal.{Refusal}
use Rattle.answers.specs.Results.{answer, total_answer}
use Rattle.exports.specs.Packing.{packed, packed_number}

pub packed_total : (r : Result ℕ Refusal) → packed (answer r) ≡ packed_number (total_answer r)
packed_total (Ok v) = refl
packed_total (Err r) = refl
