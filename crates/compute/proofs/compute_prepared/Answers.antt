-- `compute_prepared` brings the inputs into place and works through the rows.
use native.Mathlib.Omega.{arith}
use Prim.Native.Nat.{ℕ, ◌*◌}
use borrow.Rule.Slice.PartMut.{put_mid}
use mathlib.Core.Path.{◌≡◌, ◌∙◌}
use mathlib.Core.List.{List}
use lib.ListN.{length, take, drop}
use Rattle.matrix.specs.Layout.{max_matrix_words}
use Rattle.sources.proofs.Sources.{region_long, length₁, regions_length, sources_made}
use Rattle.compute.proofs.compute_prepared.Goals as goal

-- the workspace at the start, and the two regions as `orient` leaves them
abbrev work : goal.After-compute_rows-arg-1 → List ℕ
work o = o.args.work.now

abbrev first : goal.After-compute_rows-arg-1 → List ℕ
first o = o.orient.new.out

abbrev second : goal.After-compute_rows-arg-1 → List ℕ
second q = q.orient-2.new.out

-- the regions keep their lengths
first_long : (o : goal.After-compute_rows-arg-1) → length (first o) ≡ max_matrix_words
first_long o =
    o.orient.auto.out ∙ region_long max_matrix_words (work o) (omega arith)

-- the workspace with the first region in place, and with both
abbrev one : goal.After-compute_rows-arg-1 → List ℕ
one o = put_mid max_matrix_words max_matrix_words (work o) (first o)

second_lent : (o : goal.After-compute_rows-arg-1) → length (take max_matrix_words (drop (2 * max_matrix_words) (one o))) ≡ max_matrix_words
second_lent o =
    let e = first_long o in
    region_long (2 * max_matrix_words) (one o) (omega (arith, length₁ (work o) (first o) (first o) o.requires.space e e))

second_long : (q : goal.After-compute_rows-arg-1) → length (second q) ≡ max_matrix_words
second_long q = q.orient-2.auto.out ∙ second_lent q

abbrev both : goal.After-compute_rows-arg-1 → List ℕ
both q = put_mid (2 * max_matrix_words) max_matrix_words (one q) (second q)

-- and so does the workspace
both_long : (q : goal.After-compute_rows-arg-1) → length (both q) ≡ length (work q)
both_long q =
    regions_length (work q) (first q) (second q) q.requires.space (first_long q) (second_long q)

pub compute_rows-requires : goal.compute_rows-requires
compute_rows-requires c =
    let i = c.requires.prepared.inputs in
    let d = both_long c in
    record {
      prepared = c.requires.prepared;
      sources = sources_made (work c) (first c) (second c) c.requires.space (first_long c) (second_long c) _ _ _ _ _ _ _
          c.transpose_first-first.ensures c.second_flag-second.ensures i.first i.second c.orient.ensures c.orient-2.ensures;
      flags = (c.transpose_first-first.ensures, c.second_flag-second.ensures);
      space = omega arith;
    }
