-- Marks in words: keys that are held, doors with the first round that they open in.
use Rattle.std.specs.Prelude.{ℕ, ◌+◌, ◌≤◌, ◌<◌, ◌≡◌, List, [], ◌∷◌, Bool, false, cond, not, length, eqb, None, Some}
use Rattle.words.specs.Words.{at}
use Rattle.grid.specs.Cell.{Cell}
use Rattle.grid.specs.Grid.{Grid}
use Rattle.matrix.specs.Layout.{rows, cols, grid_of}
use Rattle.matrix.specs.Facts.{Matrix}
use Rattle.key_rounds.specs.Rounds.{◌or◌, keys_after, first_before, in_hand}

-- a word that is not 0 is a mark
unfoldable pub mark : ℕ → Bool
mark w = not (eqb w 0)

abbrev pub held : List ℕ → ℕ → Bool
held words j = mark (at words j)

-- a marked word stays, another takes the stamp
unfoldable pub once : ℕ → ℕ → ℕ
once stamp w = cond (eqb w 0) stamp w

-- whether a number is in a list
unfoldable pub has : List ℕ → ℕ → Bool
has [] j = false
has (c ∷ l) j = eqb c j or has l j

-- column numbers below n
pub record Below (n : ℕ) (columns : List ℕ) : Type 0 where
  pub below : (p : ℕ) → p < length columns → at columns p < n

-- the words after the places that are hit were stamped
pub record Stamped (stamp : ℕ) (hit : ℕ → Bool) (old new : List ℕ) : Type 0 where
  pub size : length new ≡ length old
  pub word : (j : ℕ) → j < length old → at new j ≡ cond (hit j) (once stamp (at old j)) (at old j)

-- a matrix, a word for each of its rows, a word for each of its columns, and a stamp that marks
pub record Stampable (m from : List ℕ) (stamp : ℕ) (marks : List ℕ) : Type 0 where
  pub valid : Matrix m
  pub from_size : length from ≡ rows m
  pub marks_size : length marks ≡ cols m
  pub marking : 1 ≤ stamp

-- a door's word: one more than its first round, or 0
unfoldable pub door_word : Cell → ℕ
door_word None = 0
door_word (Some r) = r + 1

-- the keys after round n, and the doors' first rounds before round m
pub record Rounds (locks cabinets : Grid) (hand : ℕ → Bool) (n m : ℕ) (keys doors : List ℕ) : Type 0 where
  pub keys_size : length keys ≡ locks.rows
  pub doors_size : length doors ≡ locks.cols
  pub holds : (k : ℕ) → k < locks.rows → held keys k ≡ keys_after locks cabinets hand n k
  pub opens : (d : ℕ) → d < locks.cols → at doors d ≡ door_word (first_before locks cabinets hand m d)

-- two matrices that fit, a word for each key, marked where it is in hand, and a word for each door, all 0
pub record Lent (locks cabinets keys doors : List ℕ) : Type 0 where
  pub locks_valid : Matrix locks
  pub cabinets_valid : Matrix cabinets
  pub same_doors : rows cabinets ≡ cols locks
  pub same_keys : cols cabinets ≡ rows locks
  pub keys_size : length keys ≡ rows locks
  pub doors_size : length doors ≡ cols locks
  pub shut : (d : ℕ) → d < cols locks → at doors d ≡ 0

-- three matrices that fit, the last a vector of the keys in hand, and two buffers with a word for each key and each
-- door
pub record Asked (locks cabinets vector keys doors : List ℕ) : Type 0 where
  pub locks_valid : Matrix locks
  pub cabinets_valid : Matrix cabinets
  pub vector_valid : Matrix vector
  pub same_doors : rows cabinets ≡ cols locks
  pub same_keys : cols cabinets ≡ rows locks
  pub one_row : rows vector ≡ 1
  pub vector_keys : cols vector ≡ rows locks
  pub keys_size : length keys ≡ rows locks
  pub doors_size : length doors ≡ cols locks

-- a vector of the keys in hand, and a buffer with a word for each key
pub record HandVector (vector keys : List ℕ) : Type 0 where
  pub valid : Matrix vector
  pub one_row : rows vector ≡ 1
  pub vector_keys : cols vector ≡ length keys

-- two buffers after the vector's keys are marked and the doors shut
pub record HandMarked (vector keys₀ doors₀ keys doors : List ℕ) : Type 0 where
  pub keys_size : length keys ≡ length keys₀
  pub doors_size : length doors ≡ length doors₀
  pub held_in_hand : (k : ℕ) → k < length keys₀ → held keys k ≡ in_hand (grid_of vector) k
  pub shut : (d : ℕ) → at doors d ≡ 0
