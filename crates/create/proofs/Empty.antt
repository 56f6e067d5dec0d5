-- The words of the empty grid: zeros, and its header.
use Prim.Native.Nat.{ℕ, ◌+◌, ◌<◌}
use native.Mathlib.Omega.{arith}
use mathlib.Core.Path.{◌≡◌, sym, ap, ◌∙◌}
use mathlib.Core.List.{List, [], ◌++◌}
use lib.ListN.{length, replicate, length-replicate, get_or-replicate, length-append, get_or-append}
use lib.Seq.{drop_at}
use Rattle.words.specs.Words.{at, part}
use Rattle.words.proofs.Parts.{part_empty}
use Rattle.grid.specs.Grid.{empty_grid}
use Rattle.grid.specs.Entries.{column, value}
use Rattle.grid.proofs.Counts.{flatten_absent, empty_count}
use Rattle.matrix.specs.Layout.{starts_at, columns_at, count_again_at, values_at, size_of}
use Rattle.matrix.specs.HeaderWords.{headed}
use Rattle.encoding.specs.Encode.{encode}
use Rattle.encoding.proofs.Assembled.{InPlace, headed_written}

-- a part that ends where it begins
part_none : (a e : ℕ) (s : List ℕ) → e ≡ a → part a e s ≡ []
part_none a e s q = rw q (part_empty a s)

-- as many zeros as the empty grid has words, and then the words t
module _ (r c : ℕ) (t : List ℕ) where
  abbrev zeros : List ℕ
  zeros = replicate (size_of r 0) 0 ++ t

  zeros_at : (k : ℕ) → k < size_of r 0 → at zeros k ≡ 0
  zeros_at k l =
      get_or-append (replicate (size_of r 0) 0) t 0 k (simp length-replicate l) ∙ get_or-replicate (size_of r 0) k 0 0 l

  -- the sections of the empty grid stand there: its row starts are 0, and it has no columns and no values
  zeros_in_place : InPlace (empty_grid r c) zeros
  zeros_in_place =
      let n = empty_count r c in
      record {
        fits = rw n (simp (length-append, length-replicate) (omega arith));
        starts = λ i l. zeros_at (i + starts_at) (omega arith) ∙ sym (ap length (flatten_absent column c i));
        columns = rw (n, flatten_absent column c r) (part_none (columns_at r) (count_again_at r 0) zeros (omega arith));
        values = rw (n, flatten_absent value c r) (part_none (values_at r 0) (size_of r 0) zeros (omega arith));
      }

  -- with its header they are its writing
  pub empty_written : headed r c 0 zeros ≡ encode (empty_grid r c) ++ t
  empty_written =
      let behind = drop_at (replicate (size_of r 0) 0) t (size_of r 0) (length-replicate (size_of r 0) 0) in
      rw (empty_count r c) at (headed_written zeros_in_place) ∙ ap (λ (l : List ℕ). encode (empty_grid r c) ++ l) behind
