-- `commit`: the grid at the front of the stack put into a slot.
use Prim.Native.Nat.{ℕ, ◌≤◌}
use native.Mathlib.Omega.{arith}
use mathlib.Core.Path.{◌≡◌, sym, ap, subst, ◌∙◌}
use mathlib.Core.Bool.{Bool, true, false, cond}
use mathlib.Core.List.{List, ◌++◌}
use lib.ListN.{length, take, drop, take-append-drop, length-take}
use lib.Dec.{leb}
use Rattle.limits.specs.Sizes.{size_of, max_matrix_words}
use Rattle.answers.specs.Answers.{Answer}
use Rattle.answers.specs.Refusals.{accepted, refused, insufficient_space}
use Rattle.grid.specs.Grid.{Grid}
use Rattle.grid.specs.Entries.{entry_count}
use Rattle.matrix.specs.Layout.{rows, entries}
use Rattle.matrix.specs.Facts.{Header}
use Rattle.encoding.specs.Encode.{encode, grid_size}
use Rattle.encoding.proofs.Canonical.{encode_length}
use Rattle.encoding.proofs.Encoded.{encode_matrix, encode_rows, encode_entries}
use Rattle.slots.specs.Room.{slot_put, words_with, Filled}
use Rattle.formula_evaluation.specs.Evaluating.{Standing}
use Rattle.store_formulas.specs.Attempts.{Committed}

-- ---- what is read of the grid at the front
module _ {g : Grid} {w : List ℕ} (s : Standing g w) where
  -- its words, and others behind them
  words_are : w ≡ encode g ++ drop (grid_size g) w
  words_are =
      sym (take-append-drop (grid_size g) w) ∙ ap (λ (x : List ℕ). x ++ drop (grid_size g) w) s.words

  -- the counts are there
  pub standing_header : Header w
  standing_header =
      subst Header (sym words_are) (encode_matrix 0 g (drop (grid_size g) w) s.within).header

  -- they are the grid's
  pub rows_are : rows w ≡ g.rows
  rows_are = ap rows words_are ∙ encode_rows 0 g (drop (grid_size g) w)

  pub entries_are : entries w ≡ entry_count g
  entries_are = ap entries words_are ∙ encode_entries 0 g (drop (grid_size g) w)

  -- so is the size
  pub size_is : size_of (rows w) (entries w) ≡ grid_size g
  size_is = ap (λ (r : ℕ). size_of r (entries w)) rows_are ∙ ap (size_of g.rows) entries_are

  -- which is that of a matrix
  pub size_small : size_of (rows w) (entries w) ≤ max_matrix_words
  size_small =
      let r = s.within.row_range.most in
      let f = s.within.few in
      omega (arith, rows_are, entries_are)

  -- and so many words are there
  pub size_there : size_of (rows w) (entries w) ≤ length w
  size_there =
      omega (arith, size_is, sym (length-take (grid_size g) w) ∙ ap length s.words, encode_length 0 g)

-- ---- after `slots::put`
module _ (s : List ℕ) (k size : ℕ) (w : List ℕ) (e : size ≡ size_of (rows w) (entries w)) where
  -- the words that are put are the writing of the grid
  put_words : {g : Grid} → Standing g w → take size w ≡ encode g
  put_words h = ap (λ (i : ℕ). take i w) (e ∙ size_is h) ∙ h.words

  module _ {b : Bool} {s' : List ℕ} (f : Filled s k (take size w) b s') where
    -- its answer tells whether they fit
    room_is : {g : Grid} → Standing g w → leb (words_with s k (grid_size g)) (length s) ≡ b
    room_is {g} h =
        ap (λ (n : ℕ). leb (words_with s k n) (length s)) (sym (ap length (put_words h) ∙ encode_length 0 g))
        ∙ sym f.room_is

    -- there is no room
    pub committed_refused : (answer : Answer) → b ≡ false → answer ≡ refused insufficient_space
        → Committed s k w answer s'
    committed_refused answer t i = record {
      answer_is = λ g h.
          i ∙ sym (ap (λ (c : Bool). cond c (accepted (entry_count g)) (refused insufficient_space)) (room_is h ∙ t));
      words_are = λ g h. f.words_are ∙ rw (t, i);
    }

    -- the words are in the slot
    pub committed : (n : ℕ) → n ≡ entries w → b ≡ true → Committed s k w (accepted n) s'
    committed n q t = record {
      answer_is = λ g h.
          ap accepted (q ∙ entries_are h)
          ∙ sym (ap (λ (c : Bool). cond c (accepted (entry_count g)) (refused insufficient_space)) (room_is h ∙ t));
      words_are = λ g h. f.words_are ∙ ap (λ (c : Bool). cond c (slot_put s k (take size w)) s) t
          ∙ ap (slot_put s k) (put_words h);
    }
