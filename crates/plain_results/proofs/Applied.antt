-- T of apply by an operator that looks at the value alone: the entries of A, with the operator's values.
use Prim.Native.Nat.{ℕ, zero, suc, ◌+◌, ◌-◌, ◌≤◌, ◌<◌}
use native.Mathlib.Omega.{arith}
use mathlib.Core.Path.{◌≡◌, refl, sym, ap, subst, ◌∙◌}
use mathlib.Core.List.{List, [], ◌∷◌, map, map-append}
use mathlib.Core.Bool.{true, false≢true}
use lib.ListN.{length, take, length-map}
use lib.Seq.{take_at}
use Rattle.std.specs.Prelude.{Result, Ok, None, Some}
use Rattle.limits.specs.Limits.{max_entries}
use Rattle.answers.specs.declared.Refusal.{Refusal}
use Rattle.words.specs.Words.{at, part, overwrite}
use Rattle.words.proofs.Parts.{length_part, part_at}
use Rattle.words.proofs.Overwrite.{
  part_same,
  overwrite_length,
  overwrite_before,
  overwrite_at,
  overwrite_part_before,
  overwrite_here,
}
use Rattle.operators.specs.declared.ApplyOp.{ApplyOp}
use Rattle.operators.specs.declared.ApplyOp.TheVariants.{Unary, BinaryScalarFirst, BinaryScalarSecond, IndexUnary}
use Rattle.operators.specs.Operators.{entry_word}
use Rattle.grid.specs.Cell.{Cell}
use Rattle.grid.specs.Grid.{Grid}
use Rattle.grid.specs.Entries.{column, value, one, gather, flatten, entry_count}
use Rattle.operations.specs.declared.Operation.{Operation}
use Rattle.operations.specs.CellOperations.{apply_cell}
use Rattle.operations.specs.GridOperations.{result_grid}
use Rattle.matrix.specs.Layout.{starts_at, columns_at, count_again_at, values_at, size_of, rows, cols, entries, grid_of, workspace_words}
use Rattle.matrix.specs.Facts.{Matrix}
use Rattle.matrix.specs.HeaderWords.{headed}
use Rattle.matrix.proofs.Facts.{matrix_made}
use Rattle.encoding.specs.Encode.{encode, grid_size}
use Rattle.encoding.proofs.Assembled.{InPlace, headed_written}
use Rattle.encoding.proofs.Canonical.{encode_length}
use Rattle.encoding.proofs.Decoded.{valid_before, valid_entries, valid_columns, valid_values}
use Rattle.apply_rows.specs.Values.{by_value, value_word}
use Rattle.plain_results.specs.Applied.{applied_grid}
use Rattle.plain_results.specs.Rows.{Inputs, Written}

module _ (op : ApplyOp) (v : by_value op ≡ true) where
  -- row and column numbers do not matter
  value_word_lem : (x i j : ℕ) → entry_word op x i j ≡ value_word op x
  unfolding entry_word
  value_word_lem x i j = go op v
    where
      go : (o : ApplyOp) → by_value o ≡ true → entry_word o x i j ≡ value_word o x
      go (Unary u) e = refl
      go (BinaryScalarFirst b s) e = refl
      go (BinaryScalarSecond b s) e = refl
      go (IndexUnary k s) e = absurd (false≢true e)

  -- the entries of a cell, of a row, of several rows: the same columns
  one_columns : (i j : ℕ) (c : Cell) → one column j (apply_cell op i j c) ≡ one column j c
  unfolding one
  one_columns i j None = refl
  one_columns i j (Some x) = refl

  gather_columns : (i n : ℕ) (row : ℕ → Cell) → gather column n (λ j. apply_cell op i j (row j)) ≡ gather column n row
  unfolding gather
  gather_columns i zero row = refl
  gather_columns i (suc n) row = rw (gather_columns i n row, one_columns i n (row n))

  flatten_columns : (n : ℕ) (cell : ℕ → ℕ → Cell) (r : ℕ)
      → flatten column n (λ i j. apply_cell op i j (cell i j)) r ≡ flatten column n cell r
  unfolding flatten
  flatten_columns n cell zero = refl
  flatten_columns n cell (suc r) = rw (flatten_columns n cell r, gather_columns r n (cell r))

  -- and the operator's values
  one_values : (i j : ℕ) (c : Cell) → one value j (apply_cell op i j c) ≡ map (value_word op) (one value j c)
  unfolding one
  one_values i j None = refl
  one_values i j (Some x) = ap (λ (y : ℕ). y ∷ []) (value_word_lem x i j)

  gather_values : (i n : ℕ) (row : ℕ → Cell)
      → gather value n (λ j. apply_cell op i j (row j)) ≡ map (value_word op) (gather value n row)
  unfolding gather
  gather_values i zero row = refl
  gather_values i (suc n) row =
      rw (gather_values i n row, one_values i n (row n))
      (sym (map-append (value_word op) (gather value n row) (one value n (row n))))

  flatten_values : (n : ℕ) (cell : ℕ → ℕ → Cell) (r : ℕ)
      → flatten value n (λ i j. apply_cell op i j (cell i j)) r ≡ map (value_word op) (flatten value n cell r)
  unfolding flatten
  flatten_values n cell zero = refl
  flatten_values n cell (suc r) =
      rw (flatten_values n cell r, gather_values r n (cell r))
      (sym (map-append (value_word op) (flatten value n cell r) (gather value n (cell r))))

  -- the words: starts and columns as they stand in a, then the values
  module _ (a w : List ℕ) (m : Matrix a) (space : workspace_words ≤ length w) where
    abbrev r : ℕ
    r = rows a

    abbrev n : ℕ
    n = entries a

    abbrev T : Grid
    T = applied_grid op (grid_of a)

    abbrev pattern : List ℕ
    pattern = part starts_at (count_again_at r n) a

    abbrev vals : List ℕ
    vals = part (values_at r n) (values_at r n + n) a

    abbrev w₁ : List ℕ
    w₁ = overwrite starts_at pattern w

    abbrev w₂ : List ℕ
    w₂ = overwrite (values_at r n) (map (value_word op) vals) w₁

    fits : size_of r n ≤ length a
    fits = m.header.fits

    few : n ≤ max_entries
    few = m.header.few

    top : rows a + n + n ≤ rows a + max_entries + max_entries
    top = omega (arith, few)

    pattern_length : length pattern ≡ count_again_at r n - starts_at
    pattern_length = length_part starts_at (count_again_at r n) a (omega (arith, fits))

    vals_length : length (map (value_word op) vals) ≡ n
    vals_length = length-map vals (value_word op) ∙ length_part (values_at r n) (values_at r n + n) a (omega (arith, fits)) ∙ omega arith

    room₁ : starts_at + length pattern ≤ length w
    room₁ = omega (arith, pattern_length, m.header.row_range.most, few)

    length₁ : length w₁ ≡ length w
    length₁ = overwrite_length starts_at pattern w room₁

    room₂ : values_at r n + length (map (value_word op) vals) ≤ length w₁
    room₂ = omega (arith, vals_length, length₁, m.header.row_range.most, few)

    length₂ : length w₂ ≡ length w
    length₂ = overwrite_length (values_at r n) (map (value_word op) vals) w₁ room₂ ∙ length₁

    -- a word of the pattern
    same : (k : ℕ) → starts_at ≤ k → k < count_again_at r n → at w₁ k ≡ at a k
    same k p q =
        let e : starts_at + (k - starts_at) ≡ k = omega arith in
        rw e at (overwrite_at starts_at pattern w room₁ (k - starts_at) (omega (arith, pattern_length))
        ∙ part_at starts_at (count_again_at r n) (k - starts_at) a (omega arith))

    applied_in_place : InPlace T w₂
    applied_in_place =
        let o = matrix_made a m in
        let q : entry_count T ≡ n = ap length (flatten_columns (cols a) (grid_of a).cell r) ∙ valid_entries a o in
        let e : size_of r n ≡ values_at r n + length (map (value_word op) vals) = omega (arith, vals_length) in
        record {
          fits = omega (arith, length₂, q, m.header.row_range.most, few);
          starts = λ i l. overwrite_before (values_at r n) (map (value_word op) vals) w₁ room₂ (i + starts_at) (omega arith)
              ∙ same (i + starts_at) (omega arith) (omega arith)
              ∙ sym (ap length (flatten_columns (cols a) (grid_of a).cell i) ∙ valid_before a o i l);
          columns = rw q (overwrite_part_before (values_at r n) (map (value_word op) vals) w₁ room₂ (columns_at r)
              (count_again_at r n) (omega arith)
              ∙ part_same (columns_at r) (count_again_at r n) w₁ a (omega (arith, length₁, m.header.row_range.most, few))
              (omega (arith, fits)) (λ k p l. same k (omega arith) l)
              ∙ sym (flatten_columns (cols a) (grid_of a).cell r ∙ valid_columns a o));
          values = rw (q, e) (overwrite_here (values_at r n) (map (value_word op) vals) w₁ room₂
              ∙ ap (λ (k : ℕ). map (value_word op) (part (values_at r n) k a)) (omega arith)
              ∙ sym (flatten_values (cols a) (grid_of a).cell r ∙ ap (map (value_word op)) (valid_values a o)));
        }

    -- with the header, they are the writing of T
    pub written_applied : (w' : List ℕ) → w' ≡ headed r (cols a) n w₂ → Written T (Ok n) w'
    written_applied w' e =
        let q : n ≡ entry_count T =
        sym (ap length (flatten_columns (cols a) (grid_of a).cell r) ∙ valid_entries a (matrix_made a m)) in (
          q,
          few,
          ap (take (grid_size T)) (e ∙ ap (λ (k : ℕ). headed r (cols a) k w₂) q ∙ headed_written applied_in_place)
              ∙ take_at (encode T) _ (grid_size T) (encode_length 0 T),
        )

    -- by the numbers that the code has read
    module _ (r' n' k' : ℕ) (r-is : r' ≡ r) (n-is : n' ≡ n) (k-is : k' ≡ cols a) where
      abbrev made : ℕ → ℕ → ℕ → List ℕ
      made x y z =
          headed x z y
          (overwrite (values_at x y) (map (value_word op) (part (values_at x y) (values_at x y + y) a))
          (overwrite starts_at (part starts_at (count_again_at x y) a) w))

      pub written_made : (w₁' w₂' w' : List ℕ) → w₁' ≡ overwrite starts_at (part starts_at (count_again_at r' n') a) w
          → w₂' ≡ overwrite (values_at r' n') (map (value_word op) (part (values_at r' n') (values_at r' n' + n') a)) w₁'
          → w' ≡ headed r' k' n' w₂' → Written T (Ok n') w'
      written_made w₁' w₂' w' e f h =
          subst (λ (x : ℕ). Written T (Ok x) w') (sym n-is)
          (written_applied w' (h ∙ ap (headed r' k' n') (f ∙ ap (overwrite (values_at r' n') (map (value_word op)
          (part (values_at r' n') (values_at r' n' + n') a))) e)
          ∙ ap (λ (x : ℕ). made x n' k') r-is ∙ ap (λ (x : ℕ). made r x k') n-is ∙ ap (made r n) k-is))

-- what is needed and left goes by the operation that was matched
module _ {o p : Operation} (e : o ≡ p) (a b c is js : List ℕ) where
  pub inputs_matched : Inputs o a b c is js → Inputs p a b c is js
  inputs_matched h = subst (λ (x : Operation). Inputs x a b c is js) e h

  pub written_matched : (n : Result ℕ Refusal) (w : List ℕ) → Written (result_grid p (grid_of a) (grid_of b) (grid_of c) is js) n w
      → Written (result_grid o (grid_of a) (grid_of b) (grid_of c) is js) n w
  written_matched n w h =
      subst (λ (x : Operation). Written (result_grid x (grid_of a) (grid_of b) (grid_of c) is js) n w) (sym e) h

-- the first input is there
pub first_valid : {o : Operation} {a b c is js : List ℕ} → Inputs o a b c is js → Matrix a
first_valid h = (h.row 0 (omega (arith, h.output.header.row_range.least))).first
