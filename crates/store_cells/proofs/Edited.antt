-- A cell of a slot changed in place: the words that are lent, and the store when they are back.
use Rattle.std.proofs.Common.{Some}
use Prim.Native.Nat.{ℕ, ◌+◌, ◌-◌, ◌≤◌, ◌<◌}
use native.Mathlib.Omega.{arith}
use mathlib.Core.Path.{◌≡◌, refl, sym, ap, ◌∙◌}
use mathlib.Core.List.{List, ◌++◌}
use mathlib.Core.Bool.{Bool, true}
use lib.Dec.{leb}
use lib.ListN.{length, length-append}
use borrow.Rule.Slice.PartMut.{put_mid}
use Rattle.limits.specs.Limits.{slot_count, max_entries}
use Rattle.answers.specs.Refusals.{accepted, refused, too_many_entries, insufficient_space}
use Rattle.words.specs.Words.{part}
use Rattle.grid.specs.declared.EntryAt.{EntryAt}
use Rattle.grid.specs.declared.EntryAt.TheVariants as entry
use Rattle.grid.specs.Grid.{Grid}
use Rattle.grid.specs.Entries.{entry_count}
use Rattle.grid.specs.Position.{position_of, entry_at, AbsentAt, PresentAt}
use Rattle.grid.proofs.Position.{absent_at, present_at}
use Rattle.matrix.specs.Layout.{entries, grid_of}
use Rattle.encoding.specs.Encode.{encode_revised, grid_size}
use Rattle.encoding.proofs.Canonical.{encode_length}
use Rattle.slots.specs.Sections.{end_from, slot_at, count_at}
use Rattle.slots.specs.Facts.{Fits}
use Rattle.slots.specs.Room.{slot_put, resized}
use Rattle.slots.proofs.Sections.{end_rises}
use Rattle.slots.proofs.Slot.{slot_length}
use Rattle.slots.proofs.Resized.{new_length, new_grown}
use Rattle.edits.specs.Changes.{InMatrix, HasSpace, updated}
use Rattle.store_encoding.specs.Placing.{Placed}
use Rattle.store_cells.specs.Slots.{CellOf, slot_grid, slot_with, slot_next}
use Rattle.store_cells.proofs.Counts.{replaced_count, added_count, whole}
use Rattle.store_cells.proofs.Rewritten.{put_same, part_lent, part_back}
use Rattle.store_cells.proofs.Grown.{held_in, grown_in, grown_absent, grown_space, grown_written}
use Rattle.store_cells.proofs.Checks.{fit}
use Rattle.store_cells.proofs.Outcomes.{placed_many, placed_no_room, placed_written}

-- ---- what is known of a slot
module _ {s : List ℕ} {k i j : ℕ} (h : CellOf s k i j) where
  -- its words are a matrix with that row and that column
  pub slot_in : InMatrix (slot_at s k) i j
  slot_in = held_in h.held h.row h.col

  -- and what a search in them found is known of its grid
  entry_in : {x : List ℕ} {r e : EntryAt} → x ≡ slot_at s k → r ≡ entry_at (grid_of x) i j → r ≡ e
      → entry_at (slot_grid s k) i j ≡ e
  entry_in w f t = ap (λ (z : List ℕ). entry_at (grid_of z) i j) (sym w) ∙ sym f ∙ t

  pub absent_in : {x : List ℕ} {r : EntryAt} {p : ℕ} → x ≡ slot_at s k → r ≡ entry_at (grid_of x) i j
      → r ≡ entry.Absent p → AbsentAt (slot_grid s k) i j p
  absent_in w f t = absent_at (entry_in w f t)

  -- the same by the position that was read off the entry
  pub absent_found : {x : List ℕ} {r : EntryAt} {p q : ℕ} → x ≡ slot_at s k → r ≡ entry_at (grid_of x) i j
      → r ≡ entry.Absent p → q ≡ position_of r → AbsentAt (slot_grid s k) i j q
  absent_found w f t e =
      let a = absent_in w f t in
      record { cell = a.cell; position = e ∙ ap position_of t ∙ a.position }

  pub present_in : {x : List ℕ} {r : EntryAt} {v p : ℕ} → x ≡ slot_at s k → r ≡ entry_at (grid_of x) i j
      → r ≡ entry.Present v p → PresentAt (slot_grid s k) i j p
  present_in w f t = present_at (entry_in w f t)

  -- where they are
  pub record Slot : Type 0 where
    pub long : length (slot_at s k) ≡ count_at s k
    pub first : end_from k s + 1 + count_at s k ≤ end_from slot_count s
    pub inside : end_from slot_count s ≤ length s

  pub slot : Slot
  slot = record {
    long = slot_length s k h.store.sections h.slot;
    first = end_rises k slot_count s h.slot;
    inside = h.store.sections.within;
  }

  pub slot_inside : (a n : ℕ) → a ≡ end_from k s → n ≡ length (slot_at s k) → a + 1 + n ≤ length s
  slot_inside a n b m = let o = slot in omega arith

  -- lent
  pub slot_lent : (a n : ℕ) → a ≡ end_from k s + 1 → n ≡ length (slot_at s k) → part a (a + n) s ≡ slot_at s k
  slot_lent a n b m =
      let z = h.store.sections in
      part_lent z h.slot a b (slot_at s k) s (put_same z h.slot) (a + n) (ap (λ (l : ℕ). a + l) m)

  -- and when x is back in their place
  pub slot_back : (a n : ℕ) (x : List ℕ) → a ≡ end_from k s + 1 → n ≡ length (slot_at s k)
      → length x ≡ length (slot_at s k) → put_mid a (a + n - a) s x ≡ slot_put s k x
  slot_back a n x b m l =
      let z = h.store.sections in
      part_back z h.slot a b (slot_at s k) s (put_same z h.slot) (a + n) x (ap (λ (l : ℕ). a + l) m) l

-- ---- a value replaced: the size stays
module _ {s : List ℕ} {k i j : ℕ} (h : CellOf s k i j) (p v : ℕ)
    (e : PresentAt (slot_grid s k) i j p) where
  abbrev g₁ : Grid
  g₁ = slot_with s k i j (Some v)

  pub replaced_placed : (a n m : ℕ) (x : List ℕ) → a ≡ end_from k s + 1 → n ≡ length (slot_at s k)
      → m ≡ entries (slot_at s k)
      → x ≡ updated (part a (a + n) s) i j (Some v)
      → Placed s k (slot_next s k) g₁ (accepted m) (put_mid a (a + n - a) s x)
  replaced_placed a n m x b d q w =
      let y = slot_at s k in
      let c = replaced_count (slot_in h) p e v in
      let o = slot h in
      let f = h.held.matrix.header.few in
      let l = h.held.whole in
      let r : grid_size g₁ ≡ length y = omega arith in
      let u = slot_next s k in
      let t : x ≡ encode_revised u g₁ =
      w ∙ ap (λ (z : List ℕ). updated z i j (Some v)) (slot_lent h a n b d) ∙ whole u g₁ y r in
      let z = ap length t ∙ encode_length u g₁ in
      placed_written h.store h.slot u g₁ (omega arith) m _ (omega arith) (q ∙ sym c)
      (slot_back h a n x b d (z ∙ r) ∙ ap (slot_put s k) t)

-- ---- an entry more: two words more
module _ {s : List ℕ} {k i j : ℕ} (h : CellOf s k i j) (p v : ℕ)
    (e : AbsentAt (slot_grid s k) i j p) where
  abbrev g₂ : Grid
  g₂ = slot_with s k i j (Some v)

  -- the size of the grid with the cell
  added_size : grid_size g₂ ≡ length (slot_at s k) + 2
  added_size = let l = h.held.whole in omega (arith, added_count (slot_in h) p e v)

  -- 10
  pub add_many : entries (slot_at s k) ≡ max_entries → Placed s k (slot_next s k) g₂ (refused too_many_entries) s
  add_many f = placed_many h.store h.slot _ g₂ (omega (arith, added_count (slot_in h) p e v))

  few_enough : entries (slot_at s k) < max_entries → entry_count g₂ ≤ max_entries
  few_enough f = omega (arith, added_count (slot_in h) p e v)

  -- 11
  pub add_no_room : (end n : ℕ) → entries (slot_at s k) < max_entries → end ≡ end_from slot_count s
      → n ≡ length (slot_at s k) → length s < end - count_at s k + (n + 2) → Placed s k (slot_next s k) g₂ (refused insufficient_space) s
  add_no_room end n f d m r =
      let z = added_size in
      placed_no_room h.store h.slot _ g₂ (few_enough f) (omega arith)

-- the slot is resized for it: u are the words of the store, and a is where those of the slot start
pub record Adding (s : List ℕ) (k i j p end n a : ℕ) (u : List ℕ) : Type 0 where
  pub cell : CellOf s k i j
  pub absent : AbsentAt (slot_grid s k) i j p
  pub few : entries (slot_at s k) < max_entries
  pub long : n ≡ length (slot_at s k)
  pub fits : Fits s k end (n + 2)
  pub from : a ≡ end_from k s + 1
  pub words : u ≡ resized s k (n + 2)

pub adding : {s : List ℕ} {k i j p end n b : ℕ} {u : List ℕ} → CellOf s k i j → AbsentAt (slot_grid s k) i j p
    → entries (slot_at s k) < max_entries → n ≡ length (slot_at s k) → Fits s k end (n + 2) → b ≡ end_from k s
    → u ≡ resized s k (n + 2) → Adding s k i j p end n (b + 1) u
adding h e m l f q w =
    record { cell = h; absent = e; few = m; long = l; fits = f; from = ap (λ (a : ℕ). a + 1) q; words = w }

-- by what the code has found: m entries, which are not the most, and that the words fit
pub adding_fits : {s : List ℕ} {k i j end size : ℕ} {b : Bool} → CellOf s k i j → end ≡ end_from slot_count s
    → b ≡ leb (end - count_at s k + size) (length s) → b ≡ true → Fits s k end size
adding_fits {s} {k} {i} {j} {end} {size} h e f t = record {
  sections = h.store.sections;
  most = h.store.most;
  slot = h.slot;
  ends = e;
  room = fit s k end size f t;
}

pub few_yet : {s : List ℕ} {k i j m : ℕ} → CellOf s k i j → m ≡ entries (slot_at s k) → (m ≡ max_entries → ⊥)
    → entries (slot_at s k) < max_entries
few_yet h e f = let m = h.held.matrix.header.few in omega arith

module _ {s : List ℕ} {k i j p end n a : ℕ} {u : List ℕ} (r : Adding s k i j p end n a u) where
  abbrev new : List ℕ
  new = part (end_from k s + 1) (end_from k s + 1 + (n + 2)) s

  abbrev behind : List ℕ
  behind = part (end_from k s + 1 + count_at s k) (end_from k s + 1 + (n + 2)) s

  -- the words that are lent: what the slot holds, and two words behind it
  new_is : new ≡ slot_at s k ++ behind
  new_is =
      let o = slot r.cell in
      let l = r.long in
      new_grown s k end (n + 2) (end_from k s) r.fits refl (omega arith)

  new_long : length new ≡ n + 2
  new_long = new_length s k end (n + 2) (end_from k s) r.fits refl

  two : length behind ≡ 2
  two =
      let o = ap length new_is ∙ length-append (slot_at s k) behind in
      let l = r.long in
      omega (arith, new_long)

  lent_is : part a (a + (n + 2)) u ≡ slot_at s k ++ behind
  lent_is =
      part_lent r.cell.store.sections r.cell.slot a r.from new u r.words (a + (n + 2))
      (omega (arith, new_long)) ∙ new_is

  -- what `insert_entry` requires of them
  pub add_in : InMatrix (part a (a + (n + 2)) u) i j
  add_in = let h = r.cell in rw lent_is (grown_in h.held h.row h.col behind)

  pub add_absent : AbsentAt (grid_of (part a (a + (n + 2)) u)) i j p
  add_absent = let h = r.cell in rw lent_is (grown_absent h.held h.row h.col behind r.absent)

  pub add_space : HasSpace (part a (a + (n + 2)) u)
  add_space = let h = r.cell in rw lent_is (grown_space h.held h.row h.col behind two r.few)

  -- the store when they are back
  pub added_placed : (v m : ℕ) (x : List ℕ) → m ≡ entries (slot_at s k) + 1
      → x ≡ updated (part a (a + (n + 2)) u) i j (Some v)
      → Placed s k (slot_next s k) (slot_with s k i j (Some v)) (accepted m) (put_mid a (a + (n + 2) - a) u x)
  added_placed v m x d w =
      let h = r.cell in
      let e = r.absent in
      let g = slot_with s k i j (Some v) in
      let f = slot_next s k in
      let t : x ≡ encode_revised f g =
      w ∙ ap (λ (z : List ℕ). updated z i j (Some v)) lent_is
      ∙ grown_written h.held h.row h.col behind two p v e in
      let l = r.long in
      let y = added_size h p v e in
      let z : length x ≡ length new = ap length t ∙ encode_length f g ∙ omega (arith, new_long) in
      let o = r.fits.ends in
      let q = r.fits.room in
      placed_written h.store h.slot f g (few_enough h p v e r.few) m _ (omega arith)
      (d ∙ sym (added_count (slot_in h) p e v))
      (part_back h.store.sections h.slot a r.from new u r.words (a + (n + 2)) x (omega (arith, new_long)) z
      ∙ ap (slot_put s k) t)
