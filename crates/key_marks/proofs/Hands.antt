-- The keys in hand: the row of the vector, stamped over zeros, and the rounds that start there.
use Prim.Native.Nat.{ℕ, zero, suc, ◌<◌}
use native.Mathlib.Omega.{arith}
use mathlib.Core.Path.{◌≡◌, refl, sym, ap, ◌∙◌}
use mathlib.Core.List.{List}
use lib.ListN.{length, replicate, length-replicate}
use Rattle.words.specs.Words.{at}
use Rattle.matrix.specs.Layout.{rows, row_columns, row_values, cell_of, grid_of}
use Rattle.matrix.specs.Facts.{RowSpan}
use Rattle.matrix.proofs.Facts.{row_span}
use Rattle.matrix.proofs.Rows.{row_even}
use Rattle.key_rounds.specs.Rounds.{◌or◌, in_hand}
use Rattle.key_rounds.proofs.Rounds.{keys_same, first_same}
use Rattle.key_marks.specs.Marks.{
  mark,
  held,
  has,
  Below,
  Stamped,
  Lent,
  Asked,
  HandVector,
  HandMarked,
  door_word,
  Rounds,
}
use Rattle.key_marks.proofs.Stamps.{mark_zero, mark_stamped, has_lookup}
use Rattle.key_marks.proofs.Rows.{row_below}

zeros_at : (n j : ℕ) → at (replicate n 0) j ≡ 0
zeros_at zero j = refl
zeros_at (suc n) zero = refl
zeros_at (suc n) (suc j) = zeros_at n j

-- the vector's row
module _ {vector keys : List ℕ} (a : HandVector vector keys) where
  pub vector_span : RowSpan vector 0
  vector_span = row_span vector a.valid.starts 0 (omega (arith, a.one_row))

  -- from what the code was told: the cleared buffer, and the part of the vector
  module _ {keys₁ row : List ℕ} (ek : keys₁ ≡ replicate (length keys) 0) (er : row ≡ row_columns vector 0) where
    cleared_size : length keys₁ ≡ length keys
    cleared_size = ap length ek ∙ length-replicate {A = ℕ} (length keys) 0

    pub vector_below : Below (length keys₁) row
    vector_below = rw er (row_below a.valid (cleared_size ∙ sym a.vector_keys) 0 (omega (arith, a.one_row)))

    -- the marked keys are those in hand
    pub hand_marked : (doors : List ℕ) {doors₁ keys' : List ℕ} → doors₁ ≡ replicate (length doors) 0
        → Stamped 1 (has row) keys₁ keys' → HandMarked vector keys doors keys' doors₁
    unfolding cell_of ◌or◌
    hand_marked doors {doors₁} {keys'} ed s = record {
      keys_size = s.size ∙ cleared_size;
      doors_size = ap length ed ∙ length-replicate {A = ℕ} (length doors) 0;
      held_in_hand = λ k l.
          ap mark (s.word k (omega (arith, cleared_size)))
          ∙ mark_stamped 1 (at keys₁ k) (has row k) (omega arith)
          ∙ rw (mark_zero (at keys₁ k) (ap (λ (x : List ℕ). at x k) ek ∙ zeros_at (length keys) k), er)
          (has_lookup (row_columns vector 0) (row_values vector 0) k (row_even vector 0 a.valid.header vector_span));
      shut = λ d. ap (λ (x : List ℕ). at x d) ed ∙ zeros_at (length doors) d;
    }

module _ {locks cabinets vector keys doors : List ℕ} (a : Asked locks cabinets vector keys doors) where
  pub asked_vector : HandVector vector keys
  asked_vector = record {
    valid = a.vector_valid;
    one_row = a.one_row;
    vector_keys = a.vector_keys ∙ sym a.keys_size;
  }

  module _ {keys' doors' : List ℕ} (t : HandMarked vector keys doors keys' doors') where
    -- the rounds may start
    pub marked_lent : Lent locks cabinets keys' doors'
    marked_lent = record {
      locks_valid = a.locks_valid;
      cabinets_valid = a.cabinets_valid;
      same_doors = a.same_doors;
      same_keys = a.same_keys;
      keys_size = t.keys_size ∙ a.keys_size;
      doors_size = t.doors_size ∙ a.doors_size;
      shut = λ d l. t.shut d;
    }

    held_in_hand : (k : ℕ) → k < rows locks → held keys' k ≡ in_hand (grid_of vector) k
    held_in_hand k l = t.held_in_hand k (omega (arith, a.keys_size))

    -- and what they say of the marked keys they say of the vector
    pub marked_rounds : {n m : ℕ} {keys'' doors'' : List ℕ}
        → Rounds (grid_of locks) (grid_of cabinets) (held keys') n m keys'' doors''
        → Rounds (grid_of locks) (grid_of cabinets) (in_hand (grid_of vector)) n m keys'' doors''
    marked_rounds {n} {m} h = record {
      keys_size = h.keys_size;
      doors_size = h.doors_size;
      holds = λ k l.
          h.holds k l
          ∙ keys_same (grid_of locks) (grid_of cabinets) (held keys') (in_hand (grid_of vector)) held_in_hand n k l;
      opens = λ d l.
          h.opens d l
          ∙ ap door_word
          (first_same (grid_of locks) (grid_of cabinets) (held keys') (in_hand (grid_of vector)) held_in_hand m d);
    }
