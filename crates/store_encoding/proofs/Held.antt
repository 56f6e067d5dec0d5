-- A store's words and the model that they hold: the one is the writing of the other.
use Prim.Native.Nat.{ℕ, zero, suc, ◌+◌, ◌-◌, ◌<◌}
use native.Mathlib.Omega.{arith}
use native.Mathlib.Decide.{ℕ_discrete}
use mathlib.Core.Path.{◌≡◌, refl, sym, ap, ◌∙◌}
use mathlib.Core.Bool.{Bool, true, false, cond}
use mathlib.Core.List.{List, [], ◌∷◌, ◌++◌, append-nil, map}
use lib.ListN.{length, drop, set, get_or, length-map, get_or-map}
use lib.Seq.{drop-length}
use lib.Dec.{eqb}
use borrow.Author.Tests.{eq-eqb, ne_eqb}
use Rattle.limits.specs.Limits.{slot_count}
use Rattle.grid.specs.Grid.{Grid}
use Rattle.matrix.specs.Layout.{revision, size, grid_of}
use Rattle.matrix.proofs.Facts.{matrix_made}
use Rattle.encoding.specs.Encode.{encode_revised}
use Rattle.encoding.proofs.Canonical.{encode_length, valid_encoded}
use Rattle.slots.specs.Sections.{Slots, total, writing, end_from, slots_of, slot_at, count_at}
use Rattle.slots.specs.Valid.{contents_valid}
use Rattle.slots.specs.Facts.{Held, Store}
use Rattle.slots.proofs.Facts.{held_facts}
use Rattle.slots.proofs.Sections.{slot_count_lem, rewritten}
use Rattle.slots.proofs.Slot.{room_needed}
use Rattle.model.specs.Model.{Slot, vacant, holding, Model, slot_of, put, grid_at, revision_at, is_vacant}
use Rattle.model.specs.Model.{slot_size, sizes, words_needed}
use Rattle.store_encoding.specs.Writing.{contents, all_contents, model_writing}
use Rattle.store_encoding.specs.Stores.{slot_held, model_of}

-- a matrix that fills its words is the writing of its grid with its revision
pub held_encoded : (x : List ℕ) → Held x → encode_revised (revision x) (grid_of x) ≡ x
held_encoded x h =
    let v = valid_encoded x (matrix_made x h.matrix) in
    let w = encode_revised (revision x) (grid_of x) in
    sym (v ∙ ap (λ (k : ℕ). w ++ drop k x) h.whole ∙ ap (λ (t : List ℕ). w ++ t) (drop-length x) ∙ append-nil w)

no_words : (x : List ℕ) → length x ≡ 0 → [] ≡ x
no_words [] h = refl
no_words (y ∷ x) h = absurd (omega arith)

-- what valid words hold is written as these words
pub held_contents : (x : List ℕ) → contents_valid x ≡ true → contents (slot_held x) ≡ x
held_contents x v = go (ℕ_discrete (length x) 0)
  where
    go : Dec (length x ≡ 0) → contents (slot_held x) ≡ x
    go (yes e) = ap (λ (b : Bool). contents (cond b vacant (holding (revision x) (grid_of x)))) (eq-eqb _ _ e) ∙ no_words x e
    go (no n) =
        ap (λ (b : Bool). contents (cond b vacant (holding (revision x) (grid_of x)))) (ne_eqb _ _ n)
        ∙ held_encoded x (held_facts x v n)

all_held : (w : Slots) → ((k : ℕ) → k < length w → contents_valid (get_or w k []) ≡ true)
    → map contents (map slot_held w) ≡ w
all_held [] f = refl
all_held (x ∷ w) f =
    let h = held_contents x (f 0 (omega arith)) in
    let t = all_held w (λ k l. f (suc k) (omega arith)) in
    ap (λ (y : List ℕ). y ∷ map contents (map slot_held w)) h ∙ ap (λ (v : Slots). x ∷ v) t

-- the contents of the model are the store's
pub model_contents : (s : List ℕ) → Store s → all_contents (model_of s) ≡ slots_of s
unfolding model_of
model_contents s h = let c = slot_count_lem s in all_held (slots_of s) (λ k l. h.contents k (omega arith))

-- and the words of a store are the writing of its model
pub model_written : (s : List ℕ) → Store s → model_writing (length s) (model_of s) ≡ s
unfolding model_writing
model_written s h = ap (writing (length s)) (model_contents s h) ∙ rewritten s h.sections

map_set : (m : Model) (k : ℕ) (x : Slot) → all_contents (set m k x) ≡ set (all_contents m) k (contents x)
map_set [] k x = refl
map_set (y ∷ m) zero x = refl
map_set (y ∷ m) (suc k) x = ap (λ (w : Slots). contents y ∷ w) (map_set m k x)

-- one slot changed in the words is that slot changed in the model
pub slot_written : (s : List ℕ) (k : ℕ) (x : Slot) → Store s
    → writing (length s) (set (slots_of s) k (contents x)) ≡ model_writing (length s) (put (model_of s) k x)
unfolding model_writing
slot_written s k x h =
    ap (writing (length s)) (sym (map_set (model_of s) k x ∙ ap (λ (w : Slots). set w k (contents x)) (model_contents s h)))

-- a slot of the model is what the slot's words hold
pub slot_model : (s : List ℕ) (k : ℕ) → slot_of (model_of s) k ≡ slot_held (slot_at s k)
unfolding model_of
slot_model s k = get_or-map slot_held (slots_of s) k []

-- empty or not
pub vacant_model : (s : List ℕ) (k : ℕ) → length (slot_at s k) ≡ 0 → is_vacant (slot_of (model_of s) k) ≡ true
vacant_model s k e = ap is_vacant (slot_model s k) ∙ rw (eq-eqb _ _ e)

pub holding_model : (s : List ℕ) (k : ℕ) → (length (slot_at s k) ≡ 0 → ⊥)
    → slot_of (model_of s) k ≡ holding (revision (slot_at s k)) (grid_of (slot_at s k))
holding_model s k n = slot_model s k ∙ rw (ne_eqb _ _ n)

pub grid_model : (s : List ℕ) (k : ℕ) → (length (slot_at s k) ≡ 0 → ⊥) → grid_at (model_of s) k ≡ grid_of (slot_at s k)
grid_model s k n = rw (holding_model s k n)

pub revision_model : (s : List ℕ) (k : ℕ) → (length (slot_at s k) ≡ 0 → ⊥)
    → revision_at (model_of s) k ≡ revision (slot_at s k)
revision_model s k n = rw (holding_model s k n)

-- the sizes are those of the contents
size_contents : (x : Slot) → slot_size x ≡ length (contents x)
size_contents vacant = refl
size_contents (holding v g) = sym (encode_length v g)

pub sizes_total : (m : Model) → sizes m ≡ total (all_contents m)
sizes_total [] = refl
sizes_total (x ∷ m) = let a = size_contents x in let b = sizes_total m in omega arith

-- "room is needed for 8 plus the sizes of all sheets as they are after the call"
pub needed_model : (s : List ℕ) (k : ℕ) (x : Slot) → Store s → k < slot_count
    → words_needed (put (model_of s) k x) ≡ end_from slot_count s - count_at s k + length (contents x)
needed_model s k x h l =
    ap (λ (n : ℕ). slot_count + n)
    (sizes_total (set (model_of s) k x)
    ∙ ap total (map_set (model_of s) k x ∙ ap (λ (w : Slots). set w k (contents x)) (model_contents s h)))
    ∙ room_needed s k h.sections l (contents x)
