-- The theorem that the order of merges does not matter, by induction over the list.
use Prim.Native.Nat.{ℕ, ◌≤◌}
use native.Mathlib.Omega.{arith}
use native.Mathlib.Nat.{le_refl}
use mathlib.Core.Path.{◌≡◌, refl, sym, ap, subst, ◌∙◌}
use mathlib.Core.Bool.{true}
use mathlib.Core.List.{List, [], ◌∷◌, ◌++◌, map}
use lib.ListN.{length, take, drop, replicate, length-replicate}
use lib.Seq.{take_at}
use contract.Lifetimes.{Lfts}
use denote.Ref.{Bor}
use Rattle.limits.specs.Limits.{max_entries}
use Rattle.answers.specs.Answers.{Answer}
use Rattle.answers.specs.Refusals.{unless_refused}
use Rattle.answers.specs.Results.{answer as answer_by}
use Rattle.words.specs.Lent.{Address, lent}
use Rattle.grid.specs.Grid.{Grid, Same}
use Rattle.grid.specs.Entries.{entry_count}
use Rattle.grid.proofs.Same.{same_refl, same_sym, same_trans, same_count}
use Rattle.matrix.specs.Layout.{revision, rows, cols, size, grid_of, workspace_words}
use Rattle.matrix.specs.HeaderWords.{with_revision}
use Rattle.matrix.specs.Valid.{valid}
use Rattle.encoding.specs.Encode.{encode, grid_size, updated_to}
use Rattle.encoding.proofs.Canonical.{encode_ext, encode_revised_lem, valid_encoded, valid_size}
use Rattle.requests.specs.Refusal.{lent_final}
use Rattle.calls.specs.Completion.{lent_answer}
use Rattle.calls.proofs.operate.Met as operate_met
use Rattle.calls.proofs.operate.Reads as operate_reads
use Rattle.merging.specs.Merging.{join, join_all, ◌∈◌, here, there, Rearranged, Worded}
use Rattle.merging.specs.AnyOrder.{
  Merge,
  merge,
  Merges,
  end,
  then,
  Input,
  Mergeable,
  AllAccepted,
  matrix_words,
  SameC,
  Run,
  AnyOrder,
}
use Rattle.merging.proofs.Grids.{
  worded_same,
  Suits,
  All,
  join_worded,
  join_same,
  join_all_same,
  join_all_rows,
  join_all_cols,
  member_rearranged,
  rearranged_map,
  member_map,
  all_map,
  join_all_rearranged,
  join_all_again,
  join_all_members,
  join_all_grows,
  join_all_append,
  member_append,
}
use Rattle.merging.proofs.Results.{lent_answered}
use Rattle.merging.proofs.Steps.{words_worded, max_call, Merged, merged}

-- a valid matrix of r rows and c columns
record Shaped (r c : ℕ) (a : List ℕ) : Type 0 where
  valid_matrix : valid a ≡ true
  suits : Suits r c (grid_of a)

-- what is known before each merge: of C's words and of the list that is still to come
record Stage (c : List ℕ) (xs : List (List ℕ)) : Type 0 where
  valid_c : valid c ≡ true
  worded : Worded (grid_of c)
  each : (a : List ℕ) → a ∈ xs → Shaped (rows c) (cols c) a
  entries : entry_count (join_all (grid_of c) (map grid_of xs)) ≤ max_entries
  buffer : grid_size (join_all (grid_of c) (map grid_of xs)) ≤ length c

shaped : {c a : List ℕ} → Input c a → Shaped (rows c) (cols c) a
shaped {c} {a} p = record {
  valid_matrix = p.valid_matrix;
  suits = record { rows = p.same_rows; cols = p.same_cols; worded = words_worded a p.words };
}

stage : {c : List ℕ} {xs : List (List ℕ)} → Mergeable c xs → Stage c xs
stage {c} p = record {
  valid_c = p.valid_c;
  worded = words_worded c p.words;
  each = λ a m. shaped (p.each a m);
  entries = p.entries;
  buffer = p.buffer;
}

-- one merge: what its contract tells
told : {c a c' : List ℕ} {answer : Answer} → valid c ≡ true → Shaped (rows c) (cols c) a
    → entry_count (join (grid_of c) (grid_of a)) ≤ max_entries → grid_size (join (grid_of c) (grid_of a)) ≤ length c
    → Merge c a answer c' → Merged c a answer c'
told {c} {a} {c'} {answer} v s few fits (merge scalar b mask is js work work' p q r κs enough result t e) =
    subst (λ (x : Answer). Merged c a x c') (sym e)
    (merged scalar c a b.now mask.now is.now js.now v s.valid_matrix s.suits few fits (length work) (answer_by result)
    c' enough t.attempted)

-- the first merge of a list: entries only grow, so that C on the way is within the bounds of the final one
once : {c a c' : List ℕ} {xs : List (List ℕ)} {answer : Answer} → Stage c (a ∷ xs) → Merge c a answer c'
    → Merged c a answer c'
once {c} {a} {xs = xs} g t =
    let k = join_all_grows (join (grid_of c) (grid_of a)) (map grid_of xs) in
    let r = join_all_rows (join (grid_of c) (grid_of a)) (map grid_of xs) in
    let e = g.entries in
    let b = g.buffer in
    told g.valid_c (g.each a here) (omega arith) (omega arith) t

-- and what is known before the next one
onward : {c a c' : List ℕ} {xs : List (List ℕ)} {answer : Answer} → Stage c (a ∷ xs) → Merged c a answer c'
    → Stage c' xs
onward {c} {a} {c'} {xs} g t =
    let n = join_all_same (map grid_of xs) t.grid in
    let k = same_count _ _ n in
    let r = n.rows in
    let l = t.long in
    let e = g.entries in
    let b = g.buffer in
    record {
      valid_c = t.valid_c;
      worded = worded_same t.grid (join_worded g.worded (g.each a here).suits);
      each = λ x m. rw (t.grid.rows, t.grid.cols) (g.each x (there m));
      entries = omega arith;
      buffer = omega arith;
    }

-- what a list of merges leaves
record Done (c : List ℕ) (xs : List (List ℕ)) (answers : List Answer) (c' : List ℕ) : Type 0 where
  codes : AllAccepted answers
  last : Stage c' []
  long : length c' ≡ length c
  grid : Same (grid_of c') (join_all (grid_of c) (map grid_of xs))

done : {c c' : List ℕ} {xs : List (List ℕ)} {answers : List Answer} → Stage c xs → Merges c xs answers c'
    → Done c xs answers c'
done {c} g end = record { codes = tt; last = g; long = refl; grid = same_refl (grid_of c) }
done g (then {xs = xs} t ts) =
    let m = once g t in
    let d = done (onward g m) ts in
    record {
      codes = (m.code, d.codes);
      last = d.last;
      long = d.long ∙ m.long;
      grid = same_trans d.grid (join_all_same (map grid_of xs) m.grid);
    }

-- valid words with the same cells are the same matrix words
matrix_words_lem : (s : List ℕ) → valid s ≡ true → matrix_words s ≡ encode (grid_of s)
matrix_words_lem s v =
    ap (λ (x : List ℕ). take (size s) (with_revision 0 x)) (valid_encoded s v)
    ∙ ap (take (size s)) (encode_revised_lem (revision s) 0 (grid_of s) (drop (size s) s))
    ∙ take_at (encode (grid_of s)) (drop (size s) s) (size s) (valid_size 0 s v)

same_c : {c d : List ℕ} → valid c ≡ true → valid d ≡ true → Same (grid_of c) (grid_of d) → SameC c d
same_c {c} {d} v w s = record {
  grid = s;
  words = matrix_words_lem c v ∙ encode_ext 0 (grid_of c) (grid_of d) s ∙ sym (matrix_words_lem d w);
}

suiting : {c : List ℕ} {xs : List (List ℕ)} → Stage c xs → All (rows c) (cols c) (map grid_of xs)
suiting {c} {xs} g = all_map grid_of (Suits (rows c) (cols c)) xs (λ a m. (g.each a m).suits)

-- what is assumed of a list holds of each beginning of it: entries only grow
beginning : {c : List ℕ} (xs ys : List (List ℕ)) → Mergeable c (xs ++ ys) → Mergeable c xs
beginning {c} xs ys p =
    let e = p.entries in
    let b = p.buffer in
    let a = join_all_append grid_of (grid_of c) xs ys in
    let n = ap entry_count a in
    let r = ap (λ (g : Grid). g.rows) a in
    let k = join_all_grows (join_all (grid_of c) (map grid_of xs)) (map grid_of ys) in
    let l = join_all_rows (join_all (grid_of c) (map grid_of xs)) (map grid_of ys) in
    record {
      valid_c = p.valid_c;
      words = p.words;
      each = λ x m. p.each x (member_append ys m);
      entries = omega arith;
      buffer = omega arith;
    }

-- a list of the same matrices, in another order or with repetitions
module _ {c : List ℕ} {xs ys : List (List ℕ)} (h : (a : List ℕ) → a ∈ ys → a ∈ xs) (p : Mergeable c xs)
    (s : Same (join_all (grid_of c) (map grid_of xs)) (join_all (grid_of c) (map grid_of ys))) where
  other_list : Mergeable c ys
  other_list =
      let k = same_count _ _ s in
      let n = s.rows in
      let e = p.entries in
      let b = p.buffer in
      record {
        valid_c = p.valid_c;
        words = p.words;
        each = λ a m. p.each a (h a m);
        entries = omega arith;
        buffer = omega arith;
      }

  same_left : {c' c'' : List ℕ} {answers others : List Answer} → Merges c xs answers c' → Merges c ys others c''
      → SameC c' c''
  same_left t u =
      let d = done (stage p) t in
      let f = done (stage other_list) u in
      same_c d.last.valid_c f.last.valid_c (same_trans d.grid (same_trans s (same_sym f.grid)))

join_all_order : {c : List ℕ} {xs ys : List (List ℕ)} → Rearranged xs ys → Mergeable c xs
    → Same (join_all (grid_of c) (map grid_of xs)) (join_all (grid_of c) (map grid_of ys))
join_all_order r p = let g = stage p in join_all_rearranged (rearranged_map grid_of r) g.worded (suiting g)

join_all_list : {c : List ℕ} {xs ys : List (List ℕ)} → ((a : List ℕ) → a ∈ xs → a ∈ ys)
    → ((a : List ℕ) → a ∈ ys → a ∈ xs) → Mergeable c xs
    → Same (join_all (grid_of c) (map grid_of xs)) (join_all (grid_of c) (map grid_of ys))
join_all_list {c} {xs} {ys} f h p =
    let g = stage p in
    join_all_members (members f) (members h) g.worded (suiting g)
  where
    members : {us vs : List (List ℕ)} → ((a : List ℕ) → a ∈ us → a ∈ vs)
        → (b : Grid) → b ∈ map grid_of us → b ∈ map grid_of vs
    members {us} {vs} e = all_map grid_of (λ b. b ∈ map grid_of vs) us (λ a m. member_map grid_of (e a m))

-- one of them again
repeated : {c c' c'' a : List ℕ} {xs : List (List ℕ)} {answers : List Answer} {answer : Answer}
    → a ∈ xs → Mergeable c xs → Merges c xs answers c' → Merge c' a answer c'' → Merged c' a answer c''
repeated {c} {c'} {a = a} {xs = xs} m p t u =
    let g = stage p in
    let d = done g t in
    let again = join_all_again (member_map grid_of m) g.worded (suiting g) in
    let s = same_trans (join_same (grid_of a) d.grid) again in
    let k = same_count _ _ s in
    let n = s.rows in
    let l = d.long in
    let e = p.entries in
    let b = p.buffer in
    let r = d.grid.rows ∙ join_all_rows (grid_of c) (map grid_of xs) in
    let q = d.grid.cols ∙ join_all_cols (grid_of c) (map grid_of xs) in
    told d.last.valid_c (rw (r, q) (g.each a m)) (omega arith) (omega arith) u

again : {c c' c'' a : List ℕ} {xs : List (List ℕ)} {answers : List Answer} {answer : Answer}
    → a ∈ xs → Mergeable c xs → Merges c xs answers c' → Merge c' a answer c'' → SameC c'' c'
again {a = a} m p t u =
    let g = stage p in
    let d = done g t in
    let n = repeated m p t u in
    same_c n.valid_c d.last.valid_c
    (same_trans n.grid
    (same_trans (join_same (grid_of a) d.grid)
    (same_trans (join_all_again (member_map grid_of m) g.worded (suiting g)) (same_sym d.grid))))

-- there is a merge of any words: what the contract names, with a workspace of n zeros
abbrev somewhere : Address
somewhere = record { pointer = (0, 0); name = 0 }

abbrev nothing : Bor (List ℕ)
nothing = lent somewhere []

abbrev zeros : ℕ → List ℕ
zeros n = replicate n 0

abbrev answer_of : List ℕ → List ℕ → ℕ → Answer
answer_of c a n = lent_answer (max_call 0) a [] [] c [] [] n

abbrev left_by : List ℕ → List ℕ → ℕ → List ℕ
left_by c a n = unless_refused (answer_of c a n) c (updated_to (lent_final (max_call 0) a [] [] c [] []) c)

possible_merge : Lfts 6 → (c a : List ℕ) (n : ℕ) → workspace_words ≤ n
    → Merge c a (answer_of c a (length (zeros n))) (left_by c a (length (zeros n)))
possible_merge κs c a n h =
    let r = lent_answered (max_call 0) a [] [] c [] [] (length (zeros n)) in
    merge 0 nothing nothing nothing nothing (zeros n) (zeros (length (zeros n))) somewhere somewhere somewhere κs
    (let l = length-replicate {A = ℕ} n 0 in omega arith) r.result
    (record {
      attempted = record {
        answer_is = r.result_is;
        words_are =
            ap (λ (x : Answer). unless_refused x c (updated_to (lent_final (max_call 0) a [] [] c [] []) c))
            (sym r.result_is);
      };
      cleared = refl;
    }) (sym r.result_is)

possible_from : Lfts 6 → (n : ℕ) → workspace_words ≤ n → (c : List ℕ) (xs : List (List ℕ)) → Run c xs
possible_from κs n h c [] = record { answers = []; left = c; merges = end }
possible_from κs n h c (a ∷ xs) =
    let t = possible_merge κs c a n h in
    let r = possible_from κs n h (left_by c a (length (zeros n))) xs in
    record { answers = answer_of c a (length (zeros n)) ∷ r.answers; left = r.left; merges = then t r.merges }

pub any_order_holds : AnyOrder
any_order_holds = record {
  met = operate_met.met;
  known = operate_reads.known;
  free = λ κs a b m is js c w o verb. tt;
  possible = λ κs c xs. possible_from κs workspace_words (le_refl workspace_words) c xs;
  on_the_way = beginning;
  accepted = λ p t. (done (stage p) t).codes;
  valid_left = λ p t. (done (stage p) t).last.valid_c;
  grid_left = λ p t. (done (stage p) t).grid;
  other_order = λ r p. other_list (λ a m. member_rearranged r m) p (join_all_order r p);
  any_order = λ r p t u. same_left (λ a m. member_rearranged r m) p (join_all_order r p) t u;
  again_accepted = λ m p t u. (repeated m p t u).code;
  again = again;
  any_list = λ f h p t u. same_left h p (join_all_list f h p) t u;
}
