-- A cell of a slot cleared: its words are changed in place, and then the slot gives two of them up.
use Rattle.std.proofs.Common.{None}
use Prim.Native.Nat.{ℕ, ◌+◌, ◌-◌, ◌≤◌}
use native.Mathlib.Omega.{arith}
use mathlib.Core.Path.{◌≡◌, sym, ap, ◌∙◌}
use mathlib.Core.List.{List, ◌++◌, append-nil}
use lib.ListN.{length, take, drop, length-append, length-drop, length-set}
use lib.Seq.{take_at, drop-length}
use borrow.Rule.Slice.PartMut.{put_mid}
use Rattle.limits.specs.Limits.{slot_count}
use Rattle.answers.specs.Answers.{Answer}
use Rattle.answers.specs.Refusals.{accepted}
use Rattle.words.specs.Words.{part}
use Rattle.grid.specs.Grid.{Grid}
use Rattle.grid.specs.Position.{AbsentAt, PresentAt}
use Rattle.matrix.specs.Layout.{entries}
use Rattle.matrix.specs.HeaderWords.{touched}
use Rattle.matrix.proofs.Facts.{matrix_made}
use Rattle.encoding.specs.Encode.{encode_revised, grid_size, written_revised}
use Rattle.encoding.proofs.Canonical.{encode_length, valid_touched}
use Rattle.slots.specs.Sections.{end_from, slot_at, count_at}
use Rattle.slots.specs.Facts.{Fits}
use Rattle.slots.specs.Room.{slot_put, resized}
use Rattle.edits.specs.Changes.{updated}
use Rattle.store_cells.specs.Slots.{CellOf, slot_grid, slot_with, slot_next, grid_put, CellCleared}
use Rattle.store_cells.proofs.Counts.{taken_count, cleared_count, cleared_same}
use Rattle.store_cells.proofs.Rewritten.{smaller_fits, smaller_words}
use Rattle.store_cells.proofs.Edited.{slot_in, slot, slot_lent, slot_back}

-- the entry is removed from the slot's words, which start at a: x are the words that came back
pub record Removed (s : List ℕ) (k i j p end n a : ℕ) (x : List ℕ) : Type 0 where
  pub cell : CellOf s k i j
  pub present : PresentAt (slot_grid s k) i j p
  pub ends : end ≡ end_from slot_count s
  pub long : n ≡ length (slot_at s k)
  pub from : a ≡ end_from k s + 1
  pub words : x ≡ updated (part a (a + n) s) i j None

pub removed : {s : List ℕ} {k i j p end n b : ℕ} {x : List ℕ} → CellOf s k i j → PresentAt (slot_grid s k) i j p
    → end ≡ end_from slot_count s → n ≡ length (slot_at s k) → b ≡ end_from k s
    → x ≡ updated (part (b + 1) (b + 1 + n) s) i j None → Removed s k i j p end n (b + 1) x
removed h p e l f w =
    record { cell = h; present = p; ends = e; long = l; from = ap (λ (a : ℕ). a + 1) f; words = w }

module _ {s : List ℕ} {k i j p end n a : ℕ} {x : List ℕ} (r : Removed s k i j p end n a x) where
  abbrev g : Grid
  g = slot_with s k i j None

  taken_size : grid_size g + 2 ≡ length (slot_at s k)
  taken_size = let l = r.cell.held.whole in omega (arith, taken_count (slot_in r.cell) p r.present)

  abbrev v : ℕ
  v = slot_next s k

  taken_is : x ≡ written_revised v g (slot_at s k)
  taken_is =
      r.words ∙ ap (λ (z : List ℕ). updated z i j None) (slot_lent r.cell a n r.from r.long)

  taken_long : length x ≡ length (slot_at s k)
  taken_long =
      let t = taken_size in
      ap length taken_is ∙ length-append (encode_revised v g) (drop (grid_size g) (slot_at s k))
      ∙ omega (arith, encode_length v g, length-drop (grid_size g) (slot_at s k))

  -- the store with these words, and where its sections end
  back : put_mid a (a + n - a) s x ≡ slot_put s k x
  back = slot_back r.cell a n x r.from r.long taken_long

  room : end_from slot_count s - count_at s k + length x ≤ length s
  room = let o = slot r.cell in omega (arith, taken_long)

  end_is : end ≡ end_from slot_count s - count_at s k + length x
  end_is = let o = slot r.cell in let e = r.ends in omega (arith, taken_long)

  smaller : n - 2 ≤ length x
  smaller = let l = r.long in omega (arith, taken_long)

  -- two words can be given up
  pub taken_fits : Fits (put_mid a (a + n - a) s x) k end (n - 2)
  taken_fits =
      let h = r.cell in
      smaller_fits h.store.sections h.slot h.store.most x _ back room end (n - 2) end_is smaller

  -- and the rest is the writing of the grid
  pub taken_put : resized (put_mid a (a + n - a) s x) k (n - 2) ≡ grid_put s k v g
  taken_put =
      let h = r.cell in
      let z = taken_size in
      let l = r.long in
      smaller_words h.store.sections h.slot h.store.most x _ back room end (n - 2) end_is smaller
      ∙ ap (λ (t : List ℕ). slot_put s k (take (n - 2) t)) taken_is
      ∙ ap (slot_put s k) (take_at (encode_revised v g) _ (n - 2) (encode_length v g ∙ omega arith))

-- ---- no entry to remove: only the revision changes. x are the words of the slot, from a on, when they are back
pub cleared_put : {s : List ℕ} {k i j : ℕ} {answer : Answer} → CellOf s k i j → (p m a n : ℕ) (x : List ℕ)
    → AbsentAt (slot_grid s k) i j p → answer ≡ accepted m → m ≡ entries (slot_at s k)
    → a ≡ end_from k s + 1 → n ≡ length (slot_at s k) → x ≡ touched (part a (a + n) s)
    → CellCleared s k i j answer (put_mid a (a + n - a) s x)
cleared_put {s} {k} {i} {j} h p m a n x e q c b d w =
    let y = slot_at s k in
    let v = slot_next s k in
    let t : x ≡ touched y = w ∙ ap touched (slot_lent h a n b d) in
    let o : touched y ≡ encode_revised v (slot_grid s k) =
    valid_touched y (matrix_made y h.held.matrix)
    ∙ ap (λ (z : ℕ). encode_revised v (slot_grid s k) ++ drop z y) h.held.whole
    ∙ ap (λ (z : List ℕ). encode_revised v (slot_grid s k) ++ z) (drop-length y)
    ∙ append-nil (encode_revised v (slot_grid s k)) in
    let l : length x ≡ length y = ap length t ∙ simp length-set in
    record {
      answer_is = q ∙ ap accepted (c ∙ sym (cleared_count (slot_in h) p e));
      words_are = slot_back h a n x b d l ∙ ap (slot_put s k) (t ∙ o ∙ sym (cleared_same v (slot_grid s k) i j p e));
    }
