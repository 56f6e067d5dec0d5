-- The model over a list of calls, on a store of n words.
use Rattle.std.specs.Prelude.{ℕ, List, [], ◌∷◌}
use Rattle.model.specs.Model.{Model}
use Rattle.model.specs.Effects.{Reply, reply_of, next_of}
use Rattle.model.specs.Calls.{StoreCall, effect}

-- one call: its reply, and the model afterwards
abbrev pub reply : ℕ → Model → StoreCall → Reply
reply n m c = reply_of (effect c) n m

abbrev pub next : ℕ → Model → StoreCall → Model
next n m c = next_of (effect c) n m

abbrev pub replies : ℕ → Model → List StoreCall → List Reply
replies n m [] = []
replies n m (c ∷ cs) = reply n m c ∷ replies n (next n m c) cs

abbrev pub model_after : ℕ → Model → List StoreCall → Model
model_after n m [] = m
model_after n m (c ∷ cs) = model_after n (next n m c) cs
