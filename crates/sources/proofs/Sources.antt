-- The inputs as their flags ask: the lent words, or the transpose in a region of the workspace.
use Prim.Native.Nat.{ℕ, ◌+◌, ◌*◌, ◌≤◌}
use native.Mathlib.Omega.{arith}
use mathlib.Core.Path.{◌≡◌, refl, sym, ap, ◌∙◌}
use mathlib.Core.List.{List, ◌++◌, append_assoc}
use mathlib.Core.Bool.{Bool, true, false, cond, false≢true}
use lib.ListN.{length, take, drop, length-take, length-drop}
use lib.Seq.{drop-drop}
use borrow.Rule.Slice.PartMut.{put_mid}
use Rattle.words.specs.Words.{part, overwrite}
use Rattle.words.proofs.Overwrite.{overwrite_length, overwrite_part_before, overwrite_here}
use Rattle.matrix.specs.Layout.{grid_of, max_matrix_words, workspace_words}
use Rattle.matrix.specs.Facts.{Matrix}
use Rattle.matrix.proofs.Facts.{matrix_facts, matrix_made}
use Rattle.encoding.specs.Encode.{grid_size, written_over}
use Rattle.encoding.proofs.Canonical.{valid_within, encode_valid, encode_same}
use Rattle.operations.specs.declared.Call.{Call}
use Rattle.operations.specs.GridOperations.{transposed}
use Rattle.operations.specs.Calls.{transpose_first, transpose_second, has_second}
use Rattle.transpose.proofs.Transposed.{transposed_within}
use Rattle.sources.specs.Sources.{second_flag, first_region, second_region, source, Source, Sources}

-- the region after `orient`, or the lent words
pub source_made : (flag : Bool) (s old new : List ℕ) → Matrix s
    → new ≡ cond flag (written_over (transposed (grid_of s)) old) old → Source flag s (source flag new s)
source_made true s old new m e =
    let g = transposed (grid_of s) in
    let w = transposed_within (valid_within s (matrix_made s m)) in
    rw e (record {
      matrix = matrix_facts _ (encode_valid 0 g (drop (grid_size g) old) w);
      same = encode_same 0 g (drop (grid_size g) old);
    })
source_made false s old new m e =
    record { matrix = m; same = record { rows = refl; cols = refl; cell = λ i j l k. refl } }

-- an input as it is read, by a flag in a variable
pub first_read : (flag flag' : Bool) (s region x : List ℕ) → x ≡ cond flag' region s → flag' ≡ flag
    → Source flag s (source flag region s) → Source flag s x
first_read flag flag' s region x e f h = rw (e, f) h

pub second_read : (call : Call) (flag : Bool) (b region y : List ℕ) → y ≡ cond flag region b → flag ≡ second_flag call
    → (has_second call.operation ≡ true → Source (transpose_second call) b (source (transpose_second call) region b))
    → has_second call.operation ≡ true → Source (transpose_second call) b y
second_read call flag b region y e f s h = rw (e, f, h) (s h)

-- the regions lie behind the result
regions_kept : (w w' : List ℕ) → drop max_matrix_words w ≡ drop max_matrix_words w'
    → (first_region w ≡ first_region w') × (second_region w ≡ second_region w')
regions_kept w w' e = (
  ap (take max_matrix_words) e,
  ap (take max_matrix_words) (sym (drop-drop max_matrix_words max_matrix_words w) ∙ ap (drop max_matrix_words) e
      ∙ drop-drop max_matrix_words max_matrix_words w'),
)

-- so what is written in front of them leaves the inputs alone
pub sources_kept : (call : Call) (a b w w' : List ℕ) → drop max_matrix_words w ≡ drop max_matrix_words w'
    → Sources call a b w → Sources call a b w'
sources_kept call a b w w' e s =
    let r = regions_kept w w' e in
    record { first = rw (← r.0) s.first; second = λ h. rw (← r.1) (s.second h) }

-- the words of a region
pub region_long : (a : ℕ) (w : List ℕ) → a + max_matrix_words ≤ length w
    → length (take max_matrix_words (drop a w)) ≡ max_matrix_words
region_long a w h = simp (length-take, length-drop) (omega arith)

-- both regions after their transposes were written, one after the other
module _ (w y₁ y₂ : List ℕ) (l : workspace_words ≤ length w) (p : length y₁ ≡ max_matrix_words)
    (q : length y₂ ≡ max_matrix_words) where
  abbrev w₁ : List ℕ
  w₁ = put_mid max_matrix_words max_matrix_words w y₁

  abbrev w₂ : List ℕ
  w₂ = put_mid (2 * max_matrix_words) max_matrix_words w₁ y₂

  room₁ : max_matrix_words + length y₁ ≤ length w
  room₁ = omega arith

  over₁ : w₁ ≡ overwrite max_matrix_words y₁ w
  unfolding overwrite
  over₁ =
      sym (append_assoc (take max_matrix_words w) y₁ (drop (max_matrix_words + length y₁) w)
      ∙ ap (λ (k : ℕ). take max_matrix_words w ++ (y₁ ++ drop k w)) (ap (λ (k : ℕ). max_matrix_words + k) p)
      ∙ ap (λ (t : List ℕ). take max_matrix_words w ++ (y₁ ++ t)) (sym (drop-drop max_matrix_words max_matrix_words w)))

  pub length₁ : length w₁ ≡ length w
  length₁ = ap length over₁ ∙ overwrite_length max_matrix_words y₁ w room₁

  room₂ : 2 * max_matrix_words + length y₂ ≤ length w₁
  room₂ = omega (arith, length₁)

  over₂ : w₂ ≡ overwrite (2 * max_matrix_words) y₂ w₁
  unfolding overwrite
  over₂ =
      sym (append_assoc (take (2 * max_matrix_words) w₁) y₂ (drop (2 * max_matrix_words + length y₂) w₁)
      ∙ ap (λ (k : ℕ). take (2 * max_matrix_words) w₁ ++ (y₂ ++ drop k w₁)) (ap (λ (k : ℕ). 2 * max_matrix_words + k) q)
      ∙ ap (λ (t : List ℕ). take (2 * max_matrix_words) w₁ ++ (y₂ ++ t))
      (sym (drop-drop max_matrix_words (2 * max_matrix_words) w₁)))

  pub regions_length : length w₂ ≡ length w
  regions_length = ap length over₂ ∙ overwrite_length (2 * max_matrix_words) y₂ w₁ room₂ ∙ length₁

  first_region_lem : first_region w₂ ≡ y₁
  first_region_lem =
      ap first_region over₂
      ∙ overwrite_part_before (2 * max_matrix_words) y₂ w₁ room₂ max_matrix_words (2 * max_matrix_words) (omega arith)
      ∙ ap first_region over₁ ∙ ap (λ (e : ℕ). part max_matrix_words e (overwrite max_matrix_words y₁ w))
      (sym (ap (λ (k : ℕ). max_matrix_words + k) p)) ∙ overwrite_here max_matrix_words y₁ w room₁

  second_region_lem : second_region w₂ ≡ y₂
  second_region_lem =
      ap second_region over₂
      ∙ ap (λ (e : ℕ). part (2 * max_matrix_words) e (overwrite (2 * max_matrix_words) y₂ w₁))
      (sym (ap (λ (k : ℕ). 2 * max_matrix_words + k) q)) ∙ overwrite_here (2 * max_matrix_words) y₂ w₁ room₂

  -- the inputs are there as their flags ask
  pub sources_made : (call : Call) (flag₁ flag₂ : Bool) (a b old₁ old₂ : List ℕ) → flag₁ ≡ transpose_first call
      → flag₂ ≡ second_flag call → Matrix a → (has_second call.operation ≡ true → Matrix b)
      → y₁ ≡ cond flag₁ (written_over (transposed (grid_of a)) old₁) old₁
      → y₂ ≡ cond flag₂ (written_over (transposed (grid_of b)) old₂) old₂ → Sources call a b w₂
  sources_made call flag₁ flag₂ a b old₁ old₂ f g m n e d = record {
    first = rw first_region_lem (source_made (transpose_first call) a old₁ y₁ m (rw f at e));
    second = λ h. rw second_region_lem (source_made (transpose_second call) b old₂ y₂ (n h) (rw (g, h) at d));
  }

-- a second input that is transposed is there
pub second_there : (call : Call) (flag : Bool) → flag ≡ second_flag call → flag ≡ true
    → has_second call.operation ≡ true
second_there call flag e t = go (has_second call.operation) refl (sym e ∙ t)
  where
    go : (b : Bool) → has_second call.operation ≡ b → cond b (transpose_second call) false ≡ true
        → has_second call.operation ≡ true
    go true h k = h
    go false h k = absurd (false≢true k)
