-- The cases of an attempt, as the code reaches them.
use Prim.Native.Nat.{ℕ, ◌≤◌, ◌<◌}
use native.Mathlib.Omega.{arith}
use native.Mathlib.Decide.{dec_le}
use native.Mathlib.Nat.{zero-add}
use mathlib.Core.Path.{◌≡◌, refl, sym, ap, ◌∙◌}
use mathlib.Core.List.{List, ◌++◌}
use mathlib.Core.Bool.{cond}
use lib.ListN.{length, take, drop, length-append}
use lib.Seq.{take-append_seam}
use lib.Dec.{eqb, ltb}
use borrow.Author.Tests.{ne_eqb, le-leb, lt-leb, lt-ltb, le-ltb}
use Rattle.std.specs.Prelude.{Err}
use Rattle.limits.specs.Limits.{max_cols}
use Rattle.answers.specs.Answers.{Answer}
use Rattle.answers.specs.declared.Refusal.{Refusal}
use Rattle.answers.specs.Refusals.{accepted, refused, insufficient_space}
use Rattle.answers.specs.Results.{number, answer}
use Rattle.answers.proofs.Numbers.{number_not_0}
use Rattle.words.specs.Words.{overwrite}
use Rattle.grid.specs.Grid.{Grid}
use Rattle.grid.specs.Entries.{column, flatten, entry_count}
use Rattle.grid.proofs.Gather.{gather_most}
use Rattle.matrix.specs.Layout.{grid_of, size_of}
use Rattle.encoding.specs.Encode.{encode, grid_size, written_over}
use Rattle.encoding.proofs.Canonical.{encode_length}
use Rattle.refusals.proofs.Cases.{applying_first, applying_rest, Numbered}
use Rattle.key_rounds.specs.Rounds.{door_vector}
use Rattle.door_vectors.specs.Vectors.{Written}
use Rattle.key_requests.specs.Refusal.{input_cases, output_cases, input_refusal, lent_doors, doors_refusal}
use Rattle.key_requests.specs.Ready.{Ready}
use Rattle.key_calls.specs.Doors.{Attempted, Committed}

-- the writing of a grid over the front of words
over_front : (g : Grid) (w : List ℕ) → overwrite 0 (encode g) w ≡ written_over g w
unfolding overwrite
over_front g w = ap (λ (k : ℕ). encode g ++ drop k w) (zero-add (length (encode g)) ∙ encode_length 0 g)

-- the words at the front of what holds a grid's writing
front : (g : Grid) (w : List ℕ) → w ≡ written_over g w → take (grid_size g) w ≡ encode g
front g w e =
    ap (take (grid_size g)) e
    ∙ ap (λ (k : ℕ). take k (written_over g w)) (sym (encode_length 0 g))
    ∙ take-append_seam (encode g) (drop (grid_size g) w)

-- no more entries than doors
vector_few : (locks cabinets hand : Grid) (allowance : ℕ)
    → entry_count (door_vector locks cabinets hand allowance) ≤ locks.cols
unfolding flatten
vector_few locks cabinets hand allowance =
    gather_most column ((door_vector locks cabinets hand allowance).cell 0) locks.cols

module _ (allowance : ℕ) (locks cabinets hand : List ℕ) where
  abbrev g : Grid
  g = lent_doors allowance locks cabinets hand

  -- what was written is as long as the vector
  pub size_fits : (n : ℕ) (w : List ℕ) → Written g n w → size_of 1 n ≤ length w
  size_fits n w h =
      let k = ap length h.words ∙ length-append (encode g) (drop (grid_size g) w) in
      let l = encode_length 0 g in
      let s = ap (size_of 1) h.count in
      omega arith

  -- and has no more entries than a row
  pub entries_few : (n : ℕ) (w : List ℕ) → Written g n w → Ready allowance locks cabinets hand → n ≤ max_cols
  entries_few n w h r =
      let k = vector_few (grid_of locks) (grid_of cabinets) (grid_of hand) allowance in
      omega (arith, h.count, k, r.locks_valid.header.col_range.most)

  module _ (out : List ℕ) (work : ℕ) where
    numbered : Numbered (input_cases allowance locks cabinets hand work)
    numbered = (refl, (refl, (refl, (refl, (refl, (refl, tt))))))

    -- refused before it is worked out
    pub attempted_input : (r : Refusal) → number r ≡ input_refusal allowance locks cabinets hand work
        → Attempted allowance locks cabinets hand out work (answer (Err r)) out
    unfolding doors_refusal input_refusal
    attempted_input r e =
        let f = ne_eqb (number r) 0 (number_not_0 r) in
        let x = applying_first (input_cases allowance locks cabinets hand work) (output_cases g (length out)) (number r)
        e (number_not_0 r) in
        record { answer_is = rw (← x, f); words_are = rw f }

    -- the vector is committed
    pub attempted_done : input_refusal allowance locks cabinets hand work ≡ 0 → (n : ℕ) (w : List ℕ) (a : Answer)
        (out' : List ℕ) → Written g n w → Committed out w n a out'
        → Attempted allowance locks cabinets hand out work a out'
    unfolding doors_refusal input_refusal
    attempted_done z n w a out' h k = go (dec_le (grid_size g) (length out))
      where
        size : size_of 1 n ≡ grid_size g
        size = ap (size_of 1) h.count

        rest : doors_refusal allowance locks cabinets hand work (length out)
            ≡ cond (ltb (length out) (grid_size g)) insufficient_space 0
        rest = applying_rest (input_cases allowance locks cabinets hand work) (output_cases g (length out)) numbered z

        go : Dec (grid_size g ≤ length out) → Attempted allowance locks cabinets hand out work a out'
        go (yes f) =
            let q : a ≡ accepted n = k.answer_is ∙ rw (size, le-leb _ _ f) in
            record {
              answer_is = q ∙ rw (rest, le-ltb _ _ f, h.count);
              words_are = k.words_are ∙ ap (λ (x : List ℕ). cond (eqb a.code 0) x out)
                  (ap (λ (x : ℕ). overwrite 0 (take x w) out) size
                  ∙ ap (λ (x : List ℕ). overwrite 0 x out) (front g w h.words) ∙ over_front g out);
            }
        go (no f) =
            let o : length out < grid_size g = omega arith in
            let q : a ≡ refused insufficient_space = k.answer_is ∙ rw (size, lt-leb _ _ o) in
            record {
              answer_is = q ∙ rw (rest, lt-ltb _ _ o);
              words_are = k.words_are ∙ rw q;
            }
