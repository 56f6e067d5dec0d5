-- Laws of the map: a new map, a column more, and what a place holds by its mark.
use Rattle.std.proofs.Common.{None, Some}
use Prim.Native.Nat.{ℕ, zero, suc, ◌/◌, ◌%◌, ◌≤◌, ◌<◌}
use native.Mathlib.Omega.{arith}
use native.Mathlib.Decide.{dec_lt, ℕ_discrete}
use mathlib.Core.Path.{◌≡◌, refl, sym, ap, ◌∙◌}
use mathlib.Core.List.{List}
use lib.ListN.{length, set, replicate, length-set, length-replicate}
use lib.Seq.{get_or-set_same, get_or-set_other}
use borrow.Author.Tests.{eq-eqb, ne_eqb}
use Rattle.limits.specs.Limits.{max_cols}
use Rattle.words.specs.Words.{at}
use Rattle.grid.specs.Cell.{Cell}
use Rattle.bit_rows.specs.Bits.{bit, SetBit, map_words, mark, flagged, Tracked, Carries, Marking, Room}
use Rattle.bit_rows.proofs.Bits.{bit_none}

-- ---- cells

-- how many entries a cell has
abbrev entries : Cell → ℕ
entries None = 0
entries (Some v) = 1

module _ (map cells : List ℕ) (j : ℕ) where
  pub flagged_unmarked : mark map j ≡ 0 → flagged map cells j ≡ None
  unfolding flagged
  flagged_unmarked e = rw (eq-eqb (mark map j) 0 e)

  pub flagged_marked : (mark map j ≡ 0 → ⊥) → flagged map cells j ≡ Some (at cells j)
  unfolding flagged
  flagged_marked e = rw (ne_eqb (mark map j) 0 e)

  -- an absent cell is not marked
  unmarked_absent : flagged map cells j ≡ None → mark map j ≡ 0
  unmarked_absent e = go (ℕ_discrete (mark map j) 0)
    where
      go : Dec (mark map j ≡ 0) → mark map j ≡ 0
      go (yes d) = d
      go (no d) = absurd (omega (arith, ap entries (sym e ∙ flagged_marked d)))

-- a row without entries from column n on has room in n places and more
pub carries_room : {f : ℕ → Cell} {top : ℕ} {map cells : List ℕ} → Carries f top map cells → (n : ℕ)
    → ((j : ℕ) → n ≤ j → f j ≡ None) → {a b : ℕ} → n ≤ a → n ≤ b → Room map a b
carries_room {f} {top} {map} {cells} h n none {a} {b} l m = record {
  in_cols = λ j e. omega (arith, below j e);
  in_vals = λ j e. omega (arith, below j e);
}
  where
    below : (j : ℕ) → mark map j ≡ 1 → j < n
    below j e = go (dec_lt j n)
      where
        go : Dec (j < n) → j < n
        go (yes d) = d
        go (no d) = absurd (omega (arith, unmarked_absent map cells j (h.cell j ∙ none j (omega arith))))

-- ---- a new map

zeros_at : (n j : ℕ) → at (replicate n 0) j ≡ 0
zeros_at zero j = refl
zeros_at (suc n) zero = refl
zeros_at (suc n) (suc j) = zeros_at n j

pub tracked_none : Tracked 0 (replicate map_words 0)
tracked_none = record {
  size = length-replicate {A = ℕ} map_words 0;
  within = λ w l. bit_none w;
  unused = λ w e. zeros_at map_words w;
}

-- it marks no column
pub mark_none : (j : ℕ) → mark (replicate map_words 0) j ≡ 0
mark_none j = rw (zeros_at map_words (j / 64)) (bit_none (j % 64))

-- and holds no entries, whatever the values are
pub carries_none : (cells : List ℕ) → Carries (λ j. None) 0 (replicate map_words 0) cells
carries_none cells = record {
  tracked = tracked_none;
  cell = λ j. flagged_unmarked (replicate map_words 0) cells j (mark_none j);
}

-- ---- a column more

pub marking_made : {top : ℕ} {map : List ℕ} {j x top' : ℕ} → Tracked top map → j < max_cols
    → SetBit (at map (j / 64)) (j % 64) x → SetBit top (j / 64) top' → Marking j map top' (set map (j / 64) x)
marking_made {top} {map} {j} {x} {top'} t l h k =
    let in_map : j / 64 < length map = omega (arith, t.size) in
    record {
      tracked = record {
        size = length-set map (j / 64) x ∙ t.size;
        within = λ w m. k.other w (λ e. omega arith) ∙ t.within w m;
        unused = λ w e. go w e (ℕ_discrete w (j / 64));
      };
      here = rw (get_or-set_same map (j / 64) x 0 in_map) h.here;
      other = λ i n. elsewhere i n in_map (ℕ_discrete (i / 64) (j / 64));
    }
  where
    go : (w : ℕ) → bit top' w ≡ 0 → Dec (w ≡ j / 64) → at (set map (j / 64) x) w ≡ 0
    go w e (yes d) = absurd (omega (arith, ap (bit top') d, k.here))
    go w e (no d) = get_or-set_other map (j / 64) w x 0 d ∙ t.unused w (sym (k.other w d) ∙ e)

    elsewhere : (i : ℕ) → (i ≡ j → ⊥) → j / 64 < length map → Dec (i / 64 ≡ j / 64)
        → mark (set map (j / 64) x) i ≡ mark map i
    elsewhere i n m (yes d) =
        rw (d, get_or-set_same map (j / 64) x 0 m) (h.other (i % 64) (λ z. n (omega arith)))
    elsewhere i n m (no d) = rw (get_or-set_other map (j / 64) (i / 64) x 0 d)

-- a value v is stored at a column that is marked: its cell, and the others
module _ {map : List ℕ} {j top' : ℕ} {map' : List ℕ} (h : Marking j map top' map') (cells : List ℕ) (v : ℕ) where
  pub marked_here : j < length cells → flagged map' (set cells j v) j ≡ Some v
  marked_here l =
      flagged_marked map' (set cells j v) j (λ e. omega (arith, h.here)) ∙ rw (get_or-set_same cells j v 0 l)

  pub marked_other : (i : ℕ) → (i ≡ j → ⊥) → flagged map' (set cells j v) i ≡ flagged map cells i
  unfolding flagged
  marked_other i n = rw (h.other i n, get_or-set_other cells j i v 0 n)
