-- The cases of an attempt, as the code reaches them.
use Prim.Native.Nat.{ℕ, ◌+◌, ◌≤◌, ◌<◌}
use native.Mathlib.Omega.{arith}
use native.Mathlib.Decide.{dec_le}
use native.Mathlib.Nat.{zero-add}
use mathlib.Core.Path.{◌≡◌, refl, sym, ap, ◌∙◌}
use mathlib.Core.List.{List, ◌++◌}
use mathlib.Core.Bool.{cond}
use lib.ListN.{length, take, drop, length-take}
use lib.Dec.{eqb}
use borrow.Author.Tests.{eq-eqb, ne_eqb, le-leb, lt-leb, lt-ltb, le-ltb}
use Rattle.limits.specs.Limits.{max_entries}
use Rattle.answers.specs.Answers.{Answer}
use Rattle.answers.specs.Refusals.{accepted, refused, too_many_entries, insufficient_space}
use Rattle.words.specs.Words.{overwrite}
use Rattle.grid.specs.Grid.{Grid}
use Rattle.grid.specs.Entries.{entry_count}
use Rattle.grid.specs.Revision.{updating, revision_after}
use Rattle.matrix.specs.Layout.{revision, rows, size_of}
use Rattle.matrix.specs.HeaderWords.{with_revision}
use Rattle.encoding.specs.Encode.{encode, grid_size, updated_to}
use Rattle.encoding.proofs.Canonical.{encode_length, encode_revised_lem}
use Rattle.operations.specs.declared.Call.{Call}
use Rattle.requests.specs.Refusal.{input_refusal, lent_refusal, lent_final}
use Rattle.compute.proofs.Progress.{final_rows}
use Rattle.calls.specs.Completion.{Attempted, Committed}

-- the writing of a grid over the front of words, with the revision after theirs
over_front : (g : Grid) (c : List ℕ)
    → with_revision (revision_after updating (revision c)) (overwrite 0 (encode g) c) ≡ updated_to g c
unfolding overwrite
over_front g c =
    let v = revision_after updating (revision c) in
    ap (λ (k : ℕ). with_revision v (encode g ++ drop k c)) (zero-add (length (encode g)) ∙ encode_length 0 g)
    ∙ encode_revised_lem 0 v g (drop (grid_size g) c)

-- the words that `commit` leaves, from what its calls did
pub copied_revised : {v u k l : ℕ} {x c' : List ℕ} (w c : List ℕ) → c' ≡ with_revision v x → v ≡ u → x ≡ overwrite 0 (take k w) c
    → k ≡ l → c' ≡ with_revision u (overwrite 0 (take l w) c)
copied_revised w c p q r s = p ∙ rw (q, r, s)

module _ (call : Call) (a b m c is js : List ℕ) (n : ℕ) (e : n ≡ entry_count (lent_final call a b m c is js)) where
  -- the rows of the final C are those of old C, so its size is known from its entries
  size_of_lem : size_of (rows c) n ≡ grid_size (lent_final call a b m c is js)
  size_of_lem =
      ap (λ (x : ℕ). size_of x n) (sym (final_rows call a b m c is js))
      ∙ ap (size_of (lent_final call a b m c is js).rows) e

  -- and words that hold its writing are as long
  pub size_fits : (w : List ℕ) → take (grid_size (lent_final call a b m c is js)) w ≡ encode (lent_final call a b m c is js)
      → size_of (rows c) n ≤ length w
  size_fits w t =
      let l = encode_length 0 (lent_final call a b m c is js) in
      let k = sym (length-take (grid_size (lent_final call a b m c is js)) w) ∙ ap length t in
      let s = size_of_lem in omega arith

module _ (call : Call) (a b m c is js : List ℕ) (work : ℕ) where
  abbrev g : Grid
  g = lent_final call a b m c is js

  -- refused before it is worked out
  pub attempted_input : (code : ℕ) → code ≡ input_refusal call a b m c is js work → (code ≡ 0 → ⊥)
      → Attempted call a b m c is js work (refused code) c
  unfolding lent_refusal
  attempted_input code e h =
      let f = ne_eqb code 0 h in record { answer_is = rw (← e, f, f); words_are = rw f }

  module _ (z : input_refusal call a b m c is js work ≡ 0) where
    -- too many entries
    pub attempted_full : max_entries < entry_count g → Attempted call a b m c is js work (refused too_many_entries) c
    unfolding lent_refusal
    attempted_full h = record { answer_is = rw (z, lt-ltb _ _ h); words_are = refl }

    -- the final C is committed
    pub attempted_done : (n : ℕ) (w : List ℕ) (answer : Answer) (c' : List ℕ) → n ≡ entry_count g → n ≤ max_entries
        → take (grid_size g) w ≡ encode g → Committed c w n answer c' → Attempted call a b m c is js work answer c'
    unfolding lent_refusal
    attempted_done n w answer c' e l t k = go (dec_le (grid_size g) (length c))
      where
        -- words copied over the front of C
        copied : List ℕ → List ℕ
        copied x = with_revision (revision_after updating (revision c)) (overwrite 0 x c)

        size : size_of (rows c) n ≡ grid_size g
        size = size_of_lem call a b m c is js n e

        few : entry_count g ≤ max_entries
        few = omega arith

        go : Dec (grid_size g ≤ length c) → Attempted call a b m c is js work answer c'
        go (yes f) =
            let q : answer ≡ accepted n = k.answer_is ∙ rw (size, le-leb _ _ f) in
            record {
              answer_is = q ∙ rw (z, le-ltb _ _ few, le-ltb _ _ f, e);
              words_are = k.words_are ∙ ap (λ (x : List ℕ). cond (eqb answer.code 0) x c)
                  (ap (λ (x : ℕ). copied (take x w)) size ∙ ap copied t ∙ over_front g c);
            }
        go (no f) =
            let o : length c < grid_size g = omega arith in
            let q : answer ≡ refused insufficient_space = k.answer_is ∙ rw (size, lt-leb _ _ o) in
            record {
              answer_is = q ∙ rw (z, le-ltb _ _ few, lt-ltb _ _ o);
              words_are = k.words_are ∙ rw q;
            }
