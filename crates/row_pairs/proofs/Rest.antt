-- The end of a walk over two rows: from some column on only one of them has entries, or none, and the rest of that row
-- is copied. Cited by `intersect_rows`, `unite_rows` and `copy_row`.
use Prim.Native.Nat.{ℕ, zero, suc, ◌+◌, ◌-◌, ◌≤◌, ◌<◌}
use native.Mathlib.Omega.{arith}
use native.Mathlib.Nat.{add-zero, add-suc}
use mathlib.Core.Path.{◌≡◌, refl, sym, ap}
use mathlib.Core.List.{List, ◌++◌, append-nil, append_assoc}
use lib.ListN.{length, take, drop, length-append, length-drop, drop_of_length-le}
use lib.Seq.{drop-append-le, take_at, take_all, length-take-le}
use Rattle.words.specs.Words.{part, overwrite}
use Rattle.words.proofs.Parts.{length_part}
use Rattle.grid.specs.Cell.{Cell}
use Rattle.grid.specs.Entries.{column, value, one, gather}
use Rattle.rows.specs.Row.{lookup, position, Row, Holds}
use Rattle.grid.proofs.Gather.{gather_most}
use Rattle.rows.proofs.Position.{stands}
use Rattle.rows.proofs.Lookup.{gathered, gather_lookup_columns, gather_lookup_values}
use Rattle.row_pairs.specs.Steps.{Rest, Copied}

-- rows that agree from column q on gather the same there
module _ (emit : ℕ → ℕ → ℕ) (f g : ℕ → Cell) (q : ℕ) where
  -- the items of q columns stand in front of those of more
  longer : (d : ℕ) → length (gather emit q g) ≤ length (gather emit (q + d) g)
  unfolding gather
  longer zero = rw add-zero (omega arith)
  longer (suc d) = rw (add-suc, length-append) (omega (arith, longer d))

  tail : (d : ℕ) → ((j : ℕ) → q ≤ j → j < q + d → f j ≡ g j)
      → gather emit (q + d) f ≡ gather emit q f ++ drop (length (gather emit q g)) (gather emit (q + d) g)
  unfolding gather
  tail zero s =
      rw (add-zero, drop_of_length-le (gather emit q g) {i = length (gather emit q g)} (omega arith))
      (sym (append-nil (gather emit q f)))
  tail (suc d) s =
      let l = longer d in
      rw (
        add-suc,
        s (q + d) (omega arith) (omega arith),
        drop-append-le (length (gather emit q g)) (gather emit (q + d) g) (one emit (q + d) (g (q + d))) l,
        tail d (λ j a b. s j a (omega arith)),
      )
      (append_assoc (gather emit q f) _ _)

-- the front of a list that was overwritten behind e words
overwritten : (e : ℕ) (x s : List ℕ) (m : ℕ) → e ≤ length s → length x ≡ m
    → take (e + m) (overwrite e x s) ≡ take e s ++ x
unfolding overwrite
overwritten e x s m l k =
    take_at (take e s ++ x) (drop (e + length x) s) (e + m) (rw (length-append, length-take-le e s l, k))

-- the part up to the end
part_rest : (i : ℕ) (s : List ℕ) → part i (length s) s ≡ drop i s
part_rest i s = take_all (length s - i) (drop i s) (omega (arith, length-drop i s))

-- the rest of a row, whose index i is the position of column q
module _ {n q e i : ℕ} {f : ℕ → Cell} {cols vals oc ov : List ℕ} (w : Row n cols vals) (h : Holds q f e oc ov)
    (l : q ≤ n) (p : i ≡ position q cols) (same : (j : ℕ) → q ≤ j → j < n → f j ≡ lookup cols vals j) where
  gather_rest : (emit : ℕ → ℕ → ℕ) (items : List ℕ) → gather emit q (lookup cols vals) ≡ take i items
      → gather emit n (lookup cols vals) ≡ items → i ≤ length items
      → gather emit n f ≡ gather emit q f ++ drop i items
  gather_rest emit items a b c =
      let z : q + (n - q) ≡ n = omega arith in
      let t = tail emit f (lookup cols vals) q (n - q) (λ j u v. same j u (omega arith)) in
      rw (z, a, b, length-take-le i items c) at t

  -- the index is within the row
  rest_within : i ≤ length cols
  rest_within = rw p (stands q cols w.rises).within

  rest_columns : gather column n f ≡ gather column q f ++ part i (length cols) cols
  rest_columns =
      rw (part_rest i cols)
      (gather_rest column cols (rw p (gathered w column cols refl (λ k. refl) q)) (gather_lookup_columns w) rest_within)

  rest_values : gather value n f ≡ gather value q f ++ part i (length vals) vals
  rest_values =
      rw (part_rest i vals)
      (gather_rest value vals (rw p (gathered w value vals w.even (λ k. refl) q)) (gather_lookup_values w)
      (omega (arith, rest_within, w.even)))

  -- there is room for it
  pub rest_room : n ≤ length oc → n ≤ length ov → Rest cols vals i oc ov e
  rest_room a b =
      let u = gather_most column f n in
      let v = rw (length-append, length_part i (length cols) cols (omega arith)) at (ap length rest_columns) in
      record {
        even = w.even;
        within = rest_within;
        columns_room = omega (arith, h.count);
        values_room = omega (arith, h.count);
      }

  -- and once it is written the row is whole
  pub rest_done : n ≤ length oc → n ≤ length ov → {oc' ov' : List ℕ} {r : ℕ} → Copied cols vals i oc ov e oc' ov' r
      → Holds n f r oc' ov'
  rest_done a b c =
      let room = rest_room a b in
      let k = length_part i (length cols) cols (omega arith) in
      let m = length_part i (length vals) vals (omega arith) in
      record {
        count = rw (rest_columns, length-append, k) (omega (arith, c.count, h.count));
        columns = rw (c.count, c.columns, rest_columns, ← h.columns) (overwritten e _ oc _ (omega arith) k);
        values = rw (c.count, c.values, rest_values, ← h.values)
            (overwritten e _ ov _ (omega arith) (omega (arith, m, w.even)));
      }
