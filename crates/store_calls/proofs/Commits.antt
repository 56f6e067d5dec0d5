-- `commit`: the words of the final C put into its slot.
use Prim.Native.Nat.{ℕ, ◌+◌, ◌≤◌}
use native.Mathlib.Omega.{arith}
use mathlib.Core.Path.{◌≡◌, sym, ap, ◌∙◌}
use mathlib.Core.Bool.{Bool, true, false, cond}
use mathlib.Core.List.{List}
use lib.ListN.{length, take}
use lib.Seq.{length-take-le}
use lib.Dec.{leb}
use Rattle.limits.specs.Limits.{max_entries}
use Rattle.limits.specs.Sizes.{size_of, max_matrix_words}
use Rattle.answers.specs.Answers.{Answer}
use Rattle.answers.specs.Refusals.{accepted, refused, insufficient_space}
use Rattle.matrix.specs.Layout.{rows}
use Rattle.slots.specs.Sections.{slot_at}
use Rattle.slots.specs.Facts.{Held}
use Rattle.slots.specs.Room.{words_with, Filled}
use Rattle.store_calls.specs.Attempts.{Committed}

-- the size that is counted: of the rows r of a slot's words x
pub size_counted : (n r k : ℕ) (s x : List ℕ) → r ≡ rows x → x ≡ slot_at s k
    → size_of r n ≡ size_of (rows (slot_at s k)) n
size_counted n r k s x e f = ap (λ (z : ℕ). size_of z n) (e ∙ ap rows f)

-- so many words are there
pub size_there : (n r k : ℕ) (s x w : List ℕ) → r ≡ rows x → x ≡ slot_at s k
    → size_of (rows (slot_at s k)) n ≤ length w → size_of r n ≤ length w
size_there n r k s x w e f l = let q = size_counted n r k s x e f in omega arith

-- the size of a matrix with the rows of another is within what `put` takes
pub size_most : (x : List ℕ) (n size : ℕ) → Held x → n ≤ max_entries → size ≡ size_of (rows x) n
    → size ≤ max_matrix_words + 2
size_most x n size h l e = let r = h.matrix.header in omega arith

module _ (s : List ℕ) (k n size : ℕ) (w : List ℕ) (e : size ≡ size_of (rows (slot_at s k)) n) (j : size ≤ length w) where
  -- the room, by the words that are put and by their size
  room_test : leb (words_with s k (length (take size w))) (length s)
      ≡ leb (words_with s k (size_of (rows (slot_at s k)) n)) (length s)
  room_test = ap (λ (x : ℕ). leb (words_with s k x) (length s)) (length-take-le size w j ∙ e)

  module _ {b : Bool} {s' : List ℕ} (f : Filled s k (take size w) b s') where
    -- there is no room
    pub committed_refused : (answer : Answer) → b ≡ false → answer ≡ refused insufficient_space → Committed s k w n answer s'
    committed_refused answer t i = record {
      answer_is =
          i ∙ sym (ap (λ (c : Bool). cond c (accepted n) (refused insufficient_space))
          (sym room_test ∙ sym f.room_is ∙ t));
      words_are = f.words_are ∙ rw (t, i);
    }

    -- the words are in the slot
    pub committed : b ≡ true → Committed s k w n (accepted n) s'
    committed t = record {
      answer_is =
          sym (ap (λ (c : Bool). cond c (accepted n) (refused insufficient_space))
          (sym room_test ∙ sym f.room_is ∙ t));
      words_are = f.words_are ∙ rw (t, ← e);
    }
