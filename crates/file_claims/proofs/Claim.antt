-- The theorem of specs/Claim: files carry matrices.
use Prim.Native.Nat.{ℕ, ◌+◌, ◌*◌, ◌/◌, ◌≤◌}
use native.Mathlib.Omega.{arith}
use mathlib.Core.Path.{◌≡◌, sym, ap, ◌∙◌}
use mathlib.Core.Bool.{Bool, true, false, cond}
use mathlib.Core.List.{List, [], ◌∷◌, ◌++◌}
use lib.ListN.{length, take, drop}
use lib.Dec.{eqb}
use lib.Seq.{take_at}
use borrow.Author.Tests.{eqb-true}
use Rattle.conditions.specs.Tests.{◌and◌}
use Rattle.conditions.proofs.Tests.{and_left, and_right}
use Rattle.words.specs.Words.{at}
use Rattle.answers.specs.Answers.{Answer}
use Rattle.answers.specs.Refusals.{accepted}
use Rattle.grid.specs.Grid.{Same}
use Rattle.matrix.specs.Layout.{revision, size, entries, grid_of}
use Rattle.matrix.specs.Valid.{valid}
use Rattle.matrix.proofs.Facts.{matrix_facts}
use Rattle.encoding.specs.OneWriting.{AreWords, matrix_words}
use Rattle.encoding.proofs.OneWriting.{one_writing}
use Rattle.word_bytes.specs.Bytes.{bytes_of, words_of, AreBytes}
use Rattle.word_bytes.proofs.RoundTrips as trips
use Rattle.files.specs.File.{old_form, form_words, form_bytes, file_of, Taken, FileRead, FileWritten, file_bytes}
use Rattle.files.proofs.Writing.{file_length}
use Rattle.files.proofs.read_file.Met as read_file_met
use Rattle.files.proofs.read_file.Reads as read_file_reads
use Rattle.files.proofs.write_file.Met as write_file_met
use Rattle.files.proofs.write_file.Reads as write_file_reads
use Rattle.file_claims.specs.OldRule.{old_valid, old_file}
use Rattle.file_claims.specs.Claim.{Reading, reading, Writing, writing, written, OldForm, NewForm, OneFile}
use Rattle.file_claims.proofs.Fronts.{
  entries_front,
  size_front,
  valid_front,
  words_front,
  matrix_valid,
  entries_of,
  size_of_lem,
  words_of_lem,
}
use Rattle.file_claims.proofs.Accepted.{Read, read_accepted, file_read, Wrote, write_accepted, file_written}
use Rattle.file_claims.proofs.OldFiles.{file_taken}

-- what the contracts tell
read_told : {f w w' : List ℕ} {x : Answer} → Reading f w x w' → FileRead f w x w'
read_told (reading p q κs r t) = t

write_told : {s b b' : List ℕ} {x : Answer} → Writing s b x b' → FileWritten s b x b'
write_told (writing p q κs r t) = t

-- ---- a file that was written
wrote : {s b b' : List ℕ} {x : Answer} → Writing s b x b' → x.code ≡ 0 → Wrote s b x b'
wrote {s} {b} {b'} {x} t e = write_accepted s b x b' (write_told t) e

-- it is the bytes of the matrix's words
written_is : {s b b' : List ℕ} {x : Answer} → Writing s b x b' → x.code ≡ 0 → written s b' ≡ file_bytes s
written_is {s} {b} t e =
    let k = wrote t e in
    ap (take (size s * 4)) k.bytes_are
    ∙ take_at (file_bytes s) (drop (size s * 4) b) (size s * 4) (file_length s k.valid_words)

-- and its words are the matrix's
written_words : {s b b' : List ℕ} {x : Answer} → AreWords s → Writing s b x b' → x.code ≡ 0
    → words_of (written s b') ≡ matrix_words s
written_words {s} ws t e =
    ap words_of (written_is t e) ∙ trips.words_back (matrix_words s) (words_of_lem s (size s) ws)

-- a valid matrix begins with 1, so it is a file of the new form
first_new : (h : List ℕ) → valid h ≡ true → old_form h ≡ false
first_new h v = let k : at h 0 ≡ 1 = (matrix_facts h v).header.one in rw k

written_new : {s b b' : List ℕ} {x : Answer} → AreWords s → Writing s b x b' → x.code ≡ 0 → NewForm (written s b')
written_new {s} ws t e =
    ap old_form (written_words ws t e) ∙ first_new (matrix_words s) (matrix_valid s (wrote t e).valid_words)

words_back : {s b b' w w' : List ℕ} {x y : Answer} → AreWords s → Writing s b x b' → x.code ≡ 0
    → Reading (written s b') w y w' → size s ≤ length w
    → (y ≡ x) × (w' ≡ matrix_words s ++ drop (size s) w)
words_back {s} {b} {b'} {w} {w'} {x} {y} ws t e u l =
    let k = wrote t e in
    let v = k.valid_words in
    let f = written_is t e in
    let h = written_words ws t e in
    let n : length (written s b') ≡ size s * 4 = ap length f ∙ file_length s v in
    let z = size_of_lem s v in
    let o : old_form (matrix_words s) ≡ false = first_new (matrix_words s) (matrix_valid s v) in
    let g : FileRead (written s b') w y w' = read_told u in
    let r : Taken (size s * 4) (matrix_words s) w y w' = rw (h, n, o) at g in
    let d = file_read (size s * 4) (matrix_words s) w y w' (matrix_valid s v) (omega arith) (omega arith) r in
    (d.0 ∙ ap accepted (entries_of s v) ∙ sym k.answer_is, d.1 ∙ ap (λ (i : ℕ). matrix_words s ++ drop i w) z)

-- ---- a file that was read

-- the bytes and the words of its new form
abbrev bytes_in : List ℕ → ℕ
bytes_in f = form_bytes (length f) (words_of f)

abbrev words_in : List ℕ → List ℕ
words_in f = form_words (words_of f)

read_of : {f w w' : List ℕ} {x : Answer} → Reading f w x w' → x.code ≡ 0 → Read (bytes_in f) (words_in f) w x w'
read_of {f} {w} {w'} {x} t e = read_accepted (bytes_in f) (words_in f) w x w' (read_told t) e

-- the new form has a word for each four bytes
form_words_lem : (f : List ℕ) → length (words_in f) ≡ bytes_in f / 4
form_words_lem f = go (old_form (words_of f))
  where
    go : (old : Bool) → length (cond old (1 ∷ 0 ∷ words_of f) (words_of f)) ≡ cond old (length f + 8) (length f) / 4
    go true = let n = trips.length_words f in omega arith
    go false = trips.length_words f

-- its words are a matrix and nothing more
exact : {f w w' : List ℕ} {x : Answer} → Reading f w x w' → x.code ≡ 0 → length (words_in f) ≡ size (words_in f)
exact {f} t e = let k = read_of t e in let n = form_words_lem f in omega (arith, k.bytes)

valid_read : {f w w' : List ℕ} {x : Answer} → Reading f w x w' → x.code ≡ 0
    → (valid w' ≡ true) × (x.entries ≡ entries w') × (bytes_in f ≡ size w' * 4)
valid_read {f} {w} t e =
    let k = read_of t e in
    let n = exact t e in
    let h = words_in f in
    let r = drop (size h) w in
    let c = ap (λ (a : Answer). a.entries) k.answer_is in
    rw k.words_are (
      valid_front h r k.valid_words n,
      c ∙ sym (entries_front h r (omega arith)),
      k.bytes ∙ ap (λ (i : ℕ). i * 4) (sym (size_front h r (omega arith))),
    )

-- the words that were read, without what lies behind them
words_read : {f w w' : List ℕ} {x : Answer} → Reading f w x w' → x.code ≡ 0 → matrix_words w' ≡ words_in f
words_read {f} {w} t e =
    let k = read_of t e in
    ap matrix_words k.words_are ∙ words_front (words_in f) (drop (size (words_in f)) w) k.valid_words (exact t e)

-- their bytes are the file, if it has the new form
bytes_read : {f w w' : List ℕ} {x : Answer} → AreBytes f → NewForm f → Reading f w x w' → x.code ≡ 0 → file_bytes w' ≡ f
bytes_read {f} bs o t e =
    let k = read_of t e in
    let n : length (words_of f) ≡ size (words_of f) = rw o at (exact t e) in
    let p : words_in f ≡ words_of f = rw o in
    let q : length f ≡ size (words_of f) * 4 = rw o at k.bytes in
    ap bytes_of (words_read t e ∙ p) ∙ trips.bytes_back f bs (omega arith)

file_back : {f w w' b b' : List ℕ} {x y : Answer} → AreBytes f → NewForm f → Reading f w x w' → x.code ≡ 0
    → Writing w' b y b' → length f ≤ length b
    → (y ≡ x) × (b' ≡ f ++ drop (length f) b)
file_back {f} {w} {w'} {b} {b'} {x} {y} bs o t e u l =
    let v = valid_read t e in
    let k = read_of t e in
    let h = words_in f in
    let n = exact t e in
    let z : length f ≡ size w' * 4 = rw o at v.2 in
    let d = file_written w' b y b' v.0 (omega arith) (write_told u) in
    let c : entries w' ≡ entries h =
    ap entries k.words_are ∙ entries_front h (drop (size h) w) (omega arith) in (
      d.0 ∙ ap accepted c ∙ sym k.answer_is,
      d.1 ∙ ap (λ (i : List ℕ). i ++ drop (size w' * 4) b) (bytes_read bs o t e)
          ∙ ap (λ (i : ℕ). f ++ drop i b) (sym z),
    )

-- ---- one file
one_file : {f g w w' v v' : List ℕ} {x y : Answer} → AreBytes f → AreBytes g → NewForm f → NewForm g
    → Reading f w x w' → x.code ≡ 0 → Reading g v y v' → y.code ≡ 0
    → Same (grid_of w') (grid_of v') → revision w' ≡ revision v' → f ≡ g
one_file {w' = w'} {v' = v'} bs cs o p t e u d s r =
    sym (bytes_read bs o t e)
    ∙ ap bytes_of (one_writing.unique w' v' (valid_read t e).0 (valid_read u d).0 s r)
    ∙ bytes_read cs p u d

one_written : {s t b b' c c' : List ℕ} {x y : Answer} → Writing s b x b' → x.code ≡ 0
    → Writing t c y c' → y.code ≡ 0 → Same (grid_of s) (grid_of t) → revision s ≡ revision t
    → written s b' ≡ written t c'
one_written {s} {t} p e q d same r =
    written_is p e
    ∙ ap bytes_of (one_writing.unique s t (wrote p e).valid_words (wrote q d).valid_words same r)
    ∙ sym (written_is q d)

-- ---- a file of before A12
old_taken : {f w w' : List ℕ} {x : Answer} → OldForm f → old_file (length f) (words_of f) ≡ true
    → length f + 8 ≤ length w * 4 → Reading f w x w' → x.code ≡ 0
unfolding file_of
old_taken {f} {w} {w'} {x} o g l t =
    let v = file_taken f o ∙ g in
    let b : bytes_in f ≡ length f + 8 = rw o in
    let n = eqb-true _ _ (and_right (valid (words_in f)) (eqb (bytes_in f) (size (words_in f) * 4)) v) in
    let m = and_left (valid (words_in f)) (eqb (bytes_in f) (size (words_in f) * 4)) v in
    let d = file_read (bytes_in f) (words_in f) w x w' m n (omega arith) (read_told t) in
    ap (λ (a : Answer). a.code) d.0

old_read : {f w w' : List ℕ} {x : Answer} → OldForm f → Reading f w x w' → x.code ≡ 0
    → (revision w' ≡ 0) × (matrix_words w' ≡ 1 ∷ 0 ∷ words_of f)
old_read {f} {w} {w'} o t e =
    let p : words_in f ≡ 1 ∷ 0 ∷ words_of f = rw o in
    let k = (read_of t e).words_are ∙ ap (λ (h : List ℕ). h ++ drop (size (words_in f)) w) p in
    (ap revision k, words_read t e ∙ p)

old_back : {f w w' b b' v v' : List ℕ} {x y z : Answer} → AreWords w' → OldForm f → Reading f w x w' → x.code ≡ 0
    → Writing w' b y b' → y.code ≡ 0 → Reading (written w' b') v z v' → z.code ≡ 0
    → NewForm (written w' b') × (matrix_words v' ≡ matrix_words w') × Same (grid_of v') (grid_of w')
old_back {w' = w'} {b' = b'} {v' = v'} ws o t e u d r c =
    let n = written_new ws u d in
    let p : words_in (written w' b') ≡ words_of (written w' b') = rw n in
    let m : matrix_words v' ≡ matrix_words w' = words_read r c ∙ p ∙ written_words ws u d in
    let h = sym (one_writing.one v' (valid_read r c).0) ∙ m ∙ one_writing.one w' (valid_read t e).0 in
    let s = one_writing.same_grid_lem (revision v') (revision w') (grid_of v') (grid_of w') [] []
    (ap (λ (l : List ℕ). l ++ []) h) in
    (n, m, s)

old_refuses : {f w w' : List ℕ} {x : Answer} → NewForm f → Reading f w x w' → x.code ≡ 0
    → old_file (length f) (words_of f) ≡ false
unfolding old_file old_valid ◌and◌
old_refuses {f} o t e =
    let v : valid (words_of f) ≡ true = rw o at (read_of t e).valid_words in
    let k : at (words_of f) 0 ≡ 1 = (matrix_facts (words_of f) v).header.one in
    rw k

pub one_file_claim : OneFile
one_file_claim = record {
  read_met = read_file_met.met;
  read_known = read_file_reads.known;
  read_free = λ κs f w. tt;
  write_met = write_file_met.met;
  write_known = write_file_reads.known;
  write_free = λ κs s b. tt;
  words_back = words_back;
  valid_read = valid_read;
  file_back = file_back;
  one_file = one_file;
  one_written = one_written;
  old_taken = old_taken;
  old_read = old_read;
  old_back = old_back;
  old_refuses = old_refuses;
}
