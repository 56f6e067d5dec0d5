-- One merge, by the contract of `calls::operate`: it is accepted, and C's grid is that of the definition.
use Rattle.std.proofs.Common.{Some}
use Prim.Native.Nat.{ℕ, zero, suc, ◌+◌, ◌-◌, ◌^◌, ◌≤◌, ◌<◌}
use native.Mathlib.Omega.{arith}
use mathlib.Core.Path.{◌≡◌, refl, ap, ◌∙◌}
use mathlib.Core.Bool.{Bool, true, false, cond}
use mathlib.Core.List.{List, [], ◌∷◌}
use lib.ListN.{length, take, drop, length-append, length-drop}
use lib.Seq.{get_or-drop}
use lib.Dec.{eqb}
use borrow.Author.Tests.{eq-eqb, le-ltb}
use Rattle.limits.specs.Limits.{max_entries}
use Rattle.answers.specs.Answers.{Answer}
use Rattle.answers.specs.Refusals.{accepted, unless_refused}
use Rattle.words.specs.Words.{at, part}
use Rattle.conditions.specs.Tests.{◌and◌}
use Rattle.grid.specs.Grid.{Grid, Same}
use Rattle.grid.specs.Entries.{entry_count}
use Rattle.grid.proofs.Same.{same_trans, same_count}
use Rattle.rows.specs.Row.{lookup}
use Rattle.operators.specs.declared.BinaryOp.TheVariants.{Max}
use Rattle.operator_codes.specs.Codes.{binary_numbered, unary_numbered, apply_numbered}
use Rattle.operations.specs.declared.Call.{Call}
use Rattle.operations.specs.CellOperations.{unite}
use Rattle.operations.specs.WriteBacks.{write_back}
use Rattle.operations.specs.Calls.{call_final, indexes_valid, shapes_agree}
use Rattle.grid.specs.Revision.{updating, revision_after}
use Rattle.matrix.specs.Layout.{revision, rows, cols, values_from, row_columns, row_values, cell_of, grid_of, workspace_words}
use Rattle.matrix.specs.Valid.{valid}
use Rattle.encoding.specs.Encode.{encode_revised, grid_size, Within, updated_to}
use Rattle.encoding.proofs.Canonical.{encode_length, encode_valid, encode_same, valid_within}
use Rattle.call_codes.specs.Decoding.{decoded}
use Rattle.refusals.specs.Cases.{answer_for}
use Rattle.requests.specs.Refusal.{input_refusal, lent_refusal, lent_final}
use Rattle.calls.specs.Completion.{Attempted}
use Rattle.merging.specs.Merging.{join, Word, Worded}
use Rattle.merging.specs.AnyOrder.{by_max, identity, Words}
use Rattle.merging.proofs.Cells.{identity_cell}
use Rattle.merging.proofs.Grids.{Suits, suits_word}

-- the cells of words are words
take_words : (n : ℕ) (l : List ℕ) (k : ℕ) → Words l → at (take n l) k < 2 ^ 32
take_words zero l k w = omega arith
take_words (suc n) [] k w = omega arith
take_words (suc n) (x ∷ l) zero w = w.small 0
take_words (suc n) (x ∷ l) (suc k) w = take_words n l k (record { small = λ i. w.small (suc i) })

pub drop_words : (a : ℕ) (s : List ℕ) → Words s → Words (drop a s)
drop_words a s w = record { small = λ i. rw (get_or-drop a s i 0) (w.small (a + i)) }

pub part_words : (a e : ℕ) (s : List ℕ) → Words s → Words (part a e s)
part_words a e s w = record { small = λ k. take_words (e - a) (drop a s) k (drop_words a s w) }

lookup_word : (cs vs : List ℕ) (j : ℕ) → Words vs → Word (lookup cs vs j)
unfolding lookup
lookup_word [] vs j w = tt
lookup_word (c ∷ cs) [] j w = tt
lookup_word (c ∷ cs) (v ∷ vs) j w =
    go (eqb c j) (w.small 0) (lookup_word cs vs j (record { small = λ i. w.small (suc i) }))
  where
    go : (b : Bool) → v < 2 ^ 32 → Word (lookup cs vs j) → Word (cond b (Some v) (lookup cs vs j))
    go true p q = p
    go false p q = q

pub words_worded : (s : List ℕ) → Words s → Worded (grid_of s)
unfolding cell_of
words_worded s w = record {
  word = λ i j l m.
      lookup_word (row_columns s i) (row_values s i) j (part_words (values_from s i) (values_from s (i + 1)) s w);
}

-- the call of a merge
abbrev pub max_call : ℕ → Call
max_call scalar = decoded by_max (identity scalar)

-- the final C of the call is the definition's
pub final_join : (scalar : ℕ) (a b m c : Grid) (is js : List ℕ) → Suits c.rows c.cols a
    → Same (call_final (max_call scalar) a b m c is js) (join c a)
unfolding call_final write_back binary_numbered unary_numbered apply_numbered
final_join scalar a b m c is js s = record {
  rows = refl;
  cols = refl;
  cell = λ i j l n. ap (unite Max (c.cell i j)) (identity_cell i j (a.cell i j) (suits_word s i j l n));
}

-- what a merge leaves
pub record Merged (c a : List ℕ) (answer : Answer) (c' : List ℕ) : Type 0 where
  pub code : answer.code ≡ 0
  pub valid_c : valid c' ≡ true
  pub long : length c' ≡ length c
  pub grid : Same (grid_of c') (join (grid_of c) (grid_of a))

module _ (scalar : ℕ) (c a b m is js : List ℕ) (vc : valid c ≡ true) (va : valid a ≡ true)
    (s : Suits (rows c) (cols c) (grid_of a)) where
  abbrev final : Grid
  final = lent_final (max_call scalar) a b m c is js

  final_same : Same final (join (grid_of c) (grid_of a))
  final_same = final_join scalar (grid_of a) (grid_of b) (grid_of m) (grid_of c) is js s

  -- 1 to 9 do not apply
  inputs_taken : (work : ℕ) → workspace_words ≤ work → input_refusal (max_call scalar) a b m c is js work ≡ 0
  unfolding input_refusal indexes_valid shapes_agree ◌and◌ binary_numbered unary_numbered apply_numbered
  inputs_taken work h =
      rw (
        va,
        vc,
        eq-eqb (rows a) (rows a) refl,
        eq-eqb (cols a) (cols a) refl,
        eq-eqb (rows a) (rows c) s.rows,
        eq-eqb (cols a) (cols c) s.cols,
        le-ltb work workspace_words h,
      )

  module _ (few : entry_count (join (grid_of c) (grid_of a)) ≤ max_entries)
      (fits : grid_size (join (grid_of c) (grid_of a)) ≤ length c) where
    few_final : entry_count final ≤ max_entries
    few_final = omega (arith, same_count final _ final_same)

    fits_final : grid_size final ≤ length c
    unfolding call_final
    fits_final = let e = same_count final _ final_same in omega arith

    -- nor do 10 and 11
    taken : (work : ℕ) → workspace_words ≤ work → lent_refusal (max_call scalar) a b m c is js work ≡ 0
    unfolding lent_refusal
    taken work h = rw (inputs_taken work h, le-ltb _ _ few_final, le-ltb _ _ fits_final)

    within_final : Within final
    unfolding call_final
    within_final =
        let w = valid_within c vc in
        record { row_range = w.row_range; col_range = w.col_range; few = few_final }

    pub merged : (work : ℕ) (answer : Answer) (c' : List ℕ) → workspace_words ≤ work
        → Attempted (max_call scalar) a b m c is js work answer c' → Merged c a answer c'
    merged work answer c' h t =
        let e : answer ≡ accepted (entry_count final) =
        t.answer_is ∙ ap (λ (x : ℕ). answer_for x final) (taken work h) in
        let v = revision_after updating (revision c) in
        let d : c' ≡ updated_to final c =
        t.words_are ∙ ap (λ (x : Answer). unless_refused x c (updated_to final c)) e in
        record {
          code = ap (λ (x : Answer). x.code) e;
          valid_c = rw d (encode_valid v final (drop (grid_size final) c) within_final);
          long = ap length d ∙ length-append (encode_revised v final) (drop (grid_size final) c)
              ∙ (let l = length-drop (grid_size final) c in let k = encode_length v final in omega (arith, fits_final));
          grid = same_trans (rw d (encode_same v final (drop (grid_size final) c))) final_same;
        }
