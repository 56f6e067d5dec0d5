-- `lay` writes an empty matrix into words of its own, and puts these into the slot.
use native.Mathlib.Omega.{arith}
use Prim.Native.Nat.{ℕ, ◌+◌}
use mathlib.Core.Path.{◌≡◌, sym, ap, ◌∙◌}
use lib.ListN.{length, take}
use Rattle.limits.specs.Sizes.{fixed_words, size_of}
use Rattle.grid.specs.Grid.{empty_grid}
use Rattle.encoding.specs.Encode.{encode}
use Rattle.store_cells.proofs.Shapes.{empty_size, empty_front, filled_by}
use Rattle.store_cells.proofs.lay.Goals as goal

-- the words that are put are those of the empty matrix
held_2 : (c : goal.After-empty-3-1) → let p = c.args in
    take (p.rows + fixed_words) c.write_empty.new.buffer ≡ encode (empty_grid p.rows p.cols)
held_2 c =
    let p = c.args in
    let e : p.rows + fixed_words ≡ size_of p.rows 0 = omega arith in
    ap (λ (n : ℕ). take n c.write_empty.new.buffer) e
    ∙ ap (take (size_of p.rows 0)) c.write_empty.ensures
    ∙ empty_front p.rows p.cols _

held_size : (c : goal.After-empty-3-1) → let p = c.args in
    length (take (p.rows + fixed_words) c.write_empty.new.buffer) ≡ p.rows + fixed_words
held_size c = let p = c.args in omega (arith, ap length (held_2 c), empty_size p.rows p.cols)

-- the words that are put are those of the empty matrix
held : (c : goal.After-slice_known-2-1) → let p = c.args in
    take (p.rows + fixed_words) c.write_empty.new.buffer ≡ encode (empty_grid p.rows p.cols)
held c =
    let p = c.args in
    let e : p.rows + fixed_words ≡ size_of p.rows 0 = omega arith in
    ap (λ (n : ℕ). take n c.write_empty.new.buffer) e
    ∙ ap (take (size_of p.rows 0)) c.write_empty.ensures
    ∙ empty_front p.rows p.cols _

pub slice_bounds-put-end : goal.slice_bounds-put-end
slice_bounds-put-end c = sym (held_size c)

pub put-requires : goal.put-requires
put-requires c =
    let l = held_size c in
    let r = c.requires.rows in
    record {
      sections_1 = c.requires.store.sections;
      sections_2 = c.requires.slot;
      end_value_1 = c.requires.ends;
      end_value_2 = c.requires.store.most;
      end_value_3 = omega arith;
    }

pub returns : goal.returns
returns c = filled_by (held c) c.put.ensures
