-- The writing of a model: a store, whose model agrees with it.
use Prim.Native.Nat.{ℕ, zero, suc, ◌+◌, ◌-◌, ◌≤◌, ◌<◌}
use native.Mathlib.Omega.{arith}
use native.Mathlib.Decide.{ℕ_discrete}
use mathlib.Core.Path.{◌≡◌, refl, sym, ap, ◌∙◌}
use mathlib.Core.Bool.{Bool, true, false, cond}
use mathlib.Core.List.{List, [], ◌∷◌, ◌++◌, append-nil, map}
use lib.ListN.{length, get_or, replicate, length-append, length-map, length-replicate, get_or-map}
use lib.Dec.{eqb}
use borrow.Author.Tests.{eq-eqb, ne_eqb}
use Rattle.limits.specs.Limits.{slot_count, max_store_words}
use Rattle.grid.specs.Grid.{Grid, Same}
use Rattle.grid.specs.Entries.{entry_count}
use Rattle.matrix.specs.Layout.{grid_of, entries, size, size_of}
use Rattle.matrix.specs.Valid.{valid}
use Rattle.matrix.proofs.Facts.{matrix_facts, matrix_made}
use Rattle.encoding.specs.Encode.{encode_revised, Within}
use Rattle.encoding.proofs.Canonical.{
  encode_length,
  encode_revision,
  encode_entries,
  encode_valid,
  encode_same,
  encode_ext,
  valid_within,
}
use Rattle.encoding.proofs.Encoded.{encode_rows}
use Rattle.slots.specs.Sections.{Slots, total, written, writing, slots_of}
use Rattle.slots.specs.Valid.{contents_valid, store_valid}
use Rattle.slots.specs.Facts.{Store}
use Rattle.slots.proofs.Facts.{empty_valid, held_made, held_facts}
use Rattle.slots.proofs.Sections.{slot_count_lem, rewritten}
use Rattle.slots.proofs.Written.{written_length}
use Rattle.slots.proofs.ReadBack.{writing_slots, writing_length, writing_valid}
use Rattle.slots.proofs.Stored.{fresh_writing}
use Rattle.model.specs.Model.{Slot, vacant, holding, Model, fresh, slot_of, words_needed}
use Rattle.model.proofs.Alike.{Alike, AlikeSlots}
use Rattle.model.proofs.Fitting.{WithinSlot, Fitting}
use Rattle.store_encoding.specs.Writing.{contents, all_contents, model_writing}
use Rattle.store_encoding.specs.Stores.{slot_held, model_of}
use Rattle.store_encoding.proofs.Held.{sizes_total, model_contents}

-- the size of a writing, as its words say it
encode_size : (v : ℕ) (g : Grid) → size (encode_revised v g) ≡ length (encode_revised v g)
encode_size v g =
    ap size (sym (append-nil (encode_revised v g)))
    ∙ ap (λ (r : ℕ). size_of r (entries (encode_revised v g ++ []))) (encode_rows v g [])
    ∙ ap (size_of g.rows) (encode_entries v g []) ∙ sym (encode_length v g)

-- contents of a slot
slot_valid : (x : Slot) → WithinSlot x → contents_valid (contents x) ≡ true
slot_valid vacant w = empty_valid [] refl
slot_valid (holding v g) w =
    let x = encode_revised v g in
    held_made x (record {
      matrix = matrix_facts x (ap valid (sym (append-nil x)) ∙ encode_valid v g [] w);
      whole = encode_size v g;
    })

-- what they hold agrees with the slot
slot_alike : (x : Slot) → AlikeSlots (slot_held (contents x)) x
slot_alike vacant = tt
slot_alike (holding v g) =
    let l = encode_length v g in
    let e = ne_eqb (length (encode_revised v g)) 0 (λ z. omega arith) in
    let n = append-nil (encode_revised v g) in
    rw e (rw n at (encode_revision v g []), rw n at (encode_same v g []))

all_alike : (m : Model) → Alike (map slot_held (all_contents m)) m
all_alike [] = tt
all_alike (x ∷ m) = (slot_alike x, all_alike m)

-- a store of n words that is the writing of m
pub record Written (n : ℕ) (m : Model) (s : List ℕ) : Type 0 where
  pub valid : store_valid s ≡ true
  pub long : length s ≡ n
  pub alike : Alike (model_of s) m

pub written_model : (n : ℕ) (m : Model) → slot_count ≤ n → n ≤ max_store_words → Fitting n m
    → Written n m (model_writing n m)
unfolding model_writing model_of
written_model n m a b f =
    let w = all_contents m in
    let c : length w ≡ slot_count = length-map m contents ∙ f.slots in
    let l = written_length w in
    let t = sizes_total m in
    let r = f.room in
    let fits : length (written w) ≤ n = omega arith in
    record {
      valid = writing_valid n w c fits a b
          (λ k i. ap contents_valid (get_or-map contents m k vacant) ∙ slot_valid (slot_of m k) (f.within k));
      long = writing_length n w c fits;
      alike = rw (writing_slots n w c) (all_alike m);
    }

-- the fresh store
fresh_within : (n k : ℕ) → WithinSlot (slot_of (replicate n vacant) k)
fresh_within zero k = tt
fresh_within (suc n) zero = tt
fresh_within (suc n) (suc k) = fresh_within n k

pub fresh_fits : (n : ℕ) → slot_count ≤ n → Fitting n fresh
fresh_fits n a = record {
  slots = length-replicate {A = Slot} slot_count vacant;
  within = fresh_within slot_count;
  room = a;
}

pub fresh_written : (n : ℕ) → slot_count ≤ n → replicate n 0 ≡ model_writing n fresh
unfolding model_writing
fresh_written n a = sym (fresh_writing n a)

-- the model that a store holds fits it: each slot is within the limits
held_within : (x : List ℕ) → contents_valid x ≡ true → WithinSlot (slot_held x)
held_within x v = go (ℕ_discrete (length x) 0)
  where
    go : Dec (length x ≡ 0) → WithinSlot (slot_held x)
    go (yes e) = rw (eq-eqb _ _ e) tt
    go (no n) = rw (ne_eqb _ _ n) (valid_within x (matrix_made x (held_facts x v n).matrix))

all_within : (w : Slots) → ((k : ℕ) → k < length w → contents_valid (get_or w k []) ≡ true)
    → (k : ℕ) → WithinSlot (slot_of (map slot_held w) k)
all_within [] f k = tt
all_within (x ∷ w) f zero = held_within x (f 0 (omega arith))
all_within (x ∷ w) f (suc k) = all_within w (λ j l. f (suc j) (omega arith)) k

-- and its writing is as long as the store
held_room : (s : List ℕ) → Store s → words_needed (model_of s) ≤ length s
unfolding writing
held_room s h =
    let w = slots_of s in
    let c = slot_count_lem s in
    let l = written_length w in
    let t = sizes_total (model_of s) ∙ ap total (model_contents s h) in
    let e = length-append (written w) (replicate (length s - length (written w)) 0) in
    let z = length-replicate {A = ℕ} (length s - length (written w)) 0 in
    let r = ap length (rewritten s h.sections) in
    omega (arith, c, l, t, e, z, r)

pub held_fits : (s : List ℕ) → Store s → Fitting (length s) (model_of s)
unfolding model_of
held_fits s h =
    let c = slot_count_lem s in
    record {
      slots = length-map (slots_of s) slot_held ∙ c;
      within = all_within (slots_of s) (λ k l. h.contents k (omega arith));
      room = held_room s h;
    }

-- models that agree have one writing
alike_contents : (m m' : Model) → Alike m m' → all_contents m ≡ all_contents m'
alike_contents [] [] a = refl
alike_contents [] (y ∷ m') a = absurd a
alike_contents (x ∷ m) [] a = absurd a
alike_contents (x ∷ m) (y ∷ m') a =
    let e = one x y a.0 in let f = alike_contents m m' a.1 in rw (e, f)
  where
    one : (x y : Slot) → AlikeSlots x y → contents x ≡ contents y
    one vacant vacant s = refl
    one vacant (holding u h) s = absurd s
    one (holding v g) vacant s = absurd s
    one (holding v g) (holding u h) s = ap (λ (n : ℕ). encode_revised n g) s.0 ∙ encode_ext u g h s.1

pub alike_written : (n : ℕ) (m m' : Model) → Alike m m' → model_writing n m ≡ model_writing n m'
unfolding model_writing
alike_written n m m' a = ap (writing n) (alike_contents m m' a)
