-- The loop of `extract_row`: the entries before p that the list names stand at their places; and the row collected from
-- there.
use Rattle.std.proofs.Common.{None}
use Prim.Native.Nat.{ℕ, zero, suc, ◌+◌, ◌≤◌, ◌<◌}
use native.Mathlib.Omega.{arith}
use native.Mathlib.Numerals.{add-one}
use mathlib.Core.Path.{◌≡◌, refl, sym, ap, ◌∙◌}
use mathlib.Core.List.{List}
use lib.ListN.{length, set, length-set}
use Rattle.limits.specs.Limits.{max_cols}
use Rattle.words.specs.Words.{at}
use Rattle.grid.specs.Cell.{Cell}
use Rattle.grid.specs.Entries.{column, value}
use Rattle.grid.proofs.Gather.{gather_skip}
use Rattle.rows.specs.Row.{lookup, Row, Holds}
use Rattle.rows.proofs.Holds.{holds_same}
use Rattle.rows.proofs.Walk.{lookup_entry}
use Rattle.dense_rows.proofs.Sweep.{Swept, swept_start, swept_step, swept_done}
use Rattle.bit_rows.specs.Bits.{map_places, flagged, Tracked, Carries, Marking, Room}
use Rattle.bit_rows.proofs.Marks.{marked_here, marked_other, carries_room}
use Rattle.extract_rows.specs.Indices.{Indices, Inverse, Placed}

-- what is known of column k: the cell at its place, and without a place the cell itself
unfoldable pub pick : ℕ → Cell → (ℕ → Cell) → Cell
pick zero c f = c
pick (suc j) c f = f j

pick_same : (n : ℕ) (c : Cell) (f g : ℕ → Cell) → ((j : ℕ) → n ≡ suc j → f j ≡ g j) → pick n c f ≡ pick n c g
unfolding pick
pick_same zero c f g h = refl
pick_same (suc j) c f g h = h j refl

pick_none : (n : ℕ) (c : Cell) → c ≡ None → c ≡ pick n c (λ j. None)
unfolding pick
pick_none zero c e = refl
pick_none (suc j) c e = e

unfoldable pub seen : List ℕ → (ℕ → Cell) → (ℕ → Cell) → ℕ → Cell
seen inv row cells k = pick (at inv k) (row k) cells

-- The entries before p stand at their places; places behind the list have none, and the buffer is as long as it was.
pub record Extracting (list inv cols vals : List ℕ) (ov₀ : List ℕ) (top : ℕ) (map ov : List ℕ) (p : ℕ) : Type 0 where
  pub tracked : Tracked top map
  pub long : length ov ≡ length ov₀
  pub swept : Swept max_cols cols (seen inv (lookup cols vals) (λ j. None)) (lookup cols vals)
      (seen inv (lookup cols vals) (flagged map ov)) p
  pub beyond : (j : ℕ) → length list ≤ j → flagged map ov j ≡ None

module _ {list inv cols vals : List ℕ} (w : Row max_cols cols vals) (ix : Indices list) (iv : Inverse list inv) where
  -- a column without an entry keeps none
  keeps : (k : ℕ) → lookup cols vals k ≡ None → lookup cols vals k ≡ seen inv (lookup cols vals) (λ j. None) k
  unfolding seen
  keeps k e = pick_none (at inv k) (lookup cols vals k) e

  pub extracting_start : (ov : List ℕ) {top : ℕ} {map : List ℕ} → Carries (λ j. None) top map ov
      → Extracting list inv cols vals ov top map ov 0
  unfolding seen
  extracting_start ov h = record {
    tracked = h.tracked;
    long = refl;
    swept = swept_start w keeps (λ k. pick_same (at inv k) (lookup cols vals k) _ _ (λ j e. h.cell j));
    beyond = λ j l. h.cell j;
  }

  module _ {ov₀ : List ℕ} {top : ℕ} {map ov : List ℕ} {p : ℕ} (h : Extracting list inv cols vals ov₀ top map ov p)
      (l : p < length cols) where
    -- the place of entry p is one of the list, or 0
    pub extracting_place : (at inv (at cols p) ≤ length list)
    extracting_place = go (at inv (at cols p)) refl
      where
        go : (n : ℕ) → at inv (at cols p) ≡ n → n ≤ length list
        go zero e = omega arith
        go (suc j) e = omega (arith, (iv.only (at cols p) j (rw (add-one j) e)).0)

    -- where it has no place, nothing is to be done
    unplaced : (cells : ℕ → Cell) → at inv (at cols p) ≡ zero
        → seen inv (lookup cols vals) cells (at cols p) ≡ lookup cols vals (at cols p)
    unfolding seen pick
    unplaced cells e = rw e

    -- at place j its value is marked
    module _ {j top' : ℕ} {map' : List ℕ} (u : Marking j map top' map') where
      placed : at inv (at cols p) ≡ suc j → j < length ov
          → seen inv (lookup cols vals) (flagged map' (set ov j (at vals p))) (at cols p) ≡ lookup cols vals (at cols p)
      unfolding seen pick
      placed e m = rw e (marked_here u ov (at vals p) m ∙ sym (lookup_entry w p l))

      -- and the other columns have other places
      others : at list j ≡ at cols p → (k : ℕ) → (k ≡ at cols p → ⊥)
          → seen inv (lookup cols vals) (flagged map' (set ov j (at vals p))) k
          ≡ seen inv (lookup cols vals) (flagged map ov) k
      unfolding seen
      others o k n =
          pick_same (at inv k) (lookup cols vals k) _ _
          (λ i s. marked_other u ov (at vals p) i
          (λ z. n (sym (iv.only k i (rw (add-one i) s)).1 ∙ ap (at list) z ∙ o)))

    -- entry p is put at its place
    pub extracting_step : {top' : ℕ} {map' ov' : List ℕ} → length list ≤ length ov₀
        → Placed (at inv (at cols p)) (at vals p) top map ov top' map' ov'
        → Extracting list inv cols vals ov₀ top' map' ov' (p + 1)
    extracting_step {top'} {map'} {ov'} room g = go (at inv (at cols p)) refl
      where
        go : (n : ℕ) → at inv (at cols p) ≡ n → Extracting list inv cols vals ov₀ top' map' ov' (p + 1)
        go zero e =
            let u = g.none e in
            rw (u.0, u.1, u.2) (record {
              tracked = h.tracked;
              long = h.long;
              swept = swept_step w keeps h.swept l (unplaced _ e) (λ k n. refl);
              beyond = h.beyond;
            })
        go (suc j) e =
            let s : at inv (at cols p) ≡ j + 1 = rw (add-one j) e in
            let o = iv.only (at cols p) j s in
            let u = g.here j s in
            rw u.1 (record {
              tracked = u.0.tracked;
              long = length-set ov j (at vals p) ∙ h.long;
              swept = swept_step w keeps h.swept l (placed u.0 e (omega (arith, o.0, h.long)))
                  (others u.0 o.1);
              beyond = λ i m. marked_other u.0 ov (at vals p) i (λ z. omega (arith, o.0)) ∙ h.beyond i m;
            })

  -- all entries are at their places
  module _ {ov₀ : List ℕ} {top : ℕ} {map ov : List ℕ} {p : ℕ} (h : Extracting list inv cols vals ov₀ top map ov p) where
    pub extracting_room : {a b : ℕ} → length list ≤ a → length list ≤ b → Room map a b
    extracting_room a b =
        carries_room {f = flagged map ov} (record { tracked = h.tracked; cell = λ j. refl }) (length list) h.beyond
        a b

    extracted_cell : length cols ≤ p → (j : ℕ) → j < length list → flagged map ov j ≡ lookup cols vals (at list j)
    unfolding seen pick
    extracted_cell m j l = rw (iv.named j l, add-one j) at (swept_done w keeps h.swept m (at list j))

    pub extracting_done : length cols ≤ p → {e : ℕ} {oc' ov' : List ℕ} → Holds map_places (flagged map ov) e oc' ov'
        → Holds (length list) (λ j. lookup cols vals (at list j)) e oc' ov'
    extracting_done m c =
        let l : length list ≤ map_places = omega (arith, ix.few) in
        let none : (j : ℕ) → length list ≤ j → j < map_places → flagged map ov j ≡ None = λ j u v. h.beyond j u in
        let front : Holds (length list) (flagged map ov) _ _ _ = record {
          count = c.count ∙ ap length (gather_skip column (flagged map ov) (length list) map_places l none);
          columns = c.columns ∙ gather_skip column (flagged map ov) (length list) map_places l none;
          values = c.values ∙ gather_skip value (flagged map ov) (length list) map_places l none;
        } in
        holds_same front _ (extracted_cell m)
