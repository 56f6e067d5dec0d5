-- The theorem on a store: on the model, by induction over the list, and from there by the claim over every list of
-- calls.
use Prim.Native.Nat.{ℕ, zero, suc, ◌+◌, ◌≤◌, ◌<◌}
use native.Mathlib.Omega.{arith}
use mathlib.Core.Path.{◌≡◌, refl, sym, ap, ◌∙◌}
use mathlib.Core.Bool.{Bool, true, false, cond, false≢true}
use mathlib.Core.List.{List, [], ◌∷◌, ◌++◌, map}
use lib.ListN.{length, get_or, drop, set, length-map}
use lib.Seq.{get_or-set_same, get_or-set_other, set-set, set-get_or}
use lib.Dec.{leb, ltb, eqb}
use borrow.Author.Tests.{eq-eqb, le-ltb, lt-leb}
use Rattle.conditions.specs.Tests.{◌and◌}
use Rattle.limits.specs.Limits.{slot_count, max_entries}
use Rattle.limits.specs.Sizes.{workspace_words}
use Rattle.words.specs.Words.{at}
use Rattle.grid.specs.Grid.{Grid, Same}
use Rattle.grid.specs.Entries.{entry_count}
use Rattle.grid.specs.Revision.{next_revision}
use Rattle.grid.proofs.Same.{same_refl, same_trans, same_count, same_size}
use Rattle.operator_codes.specs.Codes.{binary_numbered, unary_numbered, apply_numbered}
use Rattle.operations.specs.Calls.{indexes_valid, shapes_agree}
use Rattle.matrix.specs.Layout.{revision, grid_of}
use Rattle.slots.specs.Sections.{slots_from, slots_of, slot_at}
use Rattle.slots.proofs.Facts.{store_facts}
use Rattle.model.specs.Model.{Slot, vacant, holding, Model, slot_of, put, is_vacant, grid_in, grid_at}
use Rattle.model.specs.Model.{revision_in, revision_at, sizes, needed_with}
use Rattle.model.specs.Effects.{Reply, code_of}
use Rattle.model.specs.Calls.{Operate, operate_of, operated, operation, operation_cases, effect}
use Rattle.model.specs.Histories.{reply, next, replies, model_after}
use Rattle.model.proofs.Alike.{alike_refl, alike_put}
use Rattle.model.proofs.Fitting.{sizes_more}
use Rattle.model.proofs.Effects.{reply_code, next_accepted, effect_sound}
use Rattle.refusals.specs.Cases.{first_applying}
use Rattle.store_encoding.specs.Writing.{model_writing}
use Rattle.store_encoding.specs.Stores.{model_of}
use Rattle.store_encoding.proofs.Held.{slot_model}
use Rattle.histories.specs.Functions.{Step}
use Rattle.histories.specs.Lists.{Runs, end, call}
use Rattle.histories.proofs.Claim.{resumed, every_run}
use Rattle.histories.proofs.Stored.{held_fits, alike_written}
use Rattle.merging.specs.Merging.{join, join_all, ◌∈◌, here, there, Worded}
use Rattle.merging.specs.Merging.{Rearranged, none, after, exchanged, twice}
use Rattle.merging.specs.AnyOrder.{Words}
use Rattle.merging.proofs.Grids.{
  Suits,
  All,
  join_all_same,
  join_all_rows,
  join_all_grows,
  join_all_append,
  join_all_rearranged,
  join_all_members,
  rearranged_map,
  member_rearranged,
  member_append,
  member_map,
  all_map,
}
use Rattle.merging.proofs.Steps.{drop_words, part_words, words_worded, final_join}
use Rattle.store_merging.specs.AnyOrder.{
  SlotMerge,
  call_of,
  merge_calls,
  slots_in,
  joined_in,
  joined_model,
  next_times,
  SameBut,
  Input,
  Mergeable,
  AllAccepted,
  StoreAnyOrder,
}

-- the cells of a store's grids are words
slots_words : (k : ℕ) (s : List ℕ) → Words s → (i : ℕ) → Words (get_or (slots_from k s) i [])
unfolding slots_from
slots_words zero s w i = record { small = λ j. omega arith }
slots_words (suc k) s w zero = part_words 1 (1 + at s 0) s w
slots_words (suc k) s w (suc i) = slots_words k (drop (1 + at s 0) s) (drop_words (1 + at s 0) s w) i

model_worded : (s : List ℕ) → Words s → (k : ℕ) → Worded (grid_at (model_of s) k)
unfolding slots_of
model_worded s w k =
    rw (slot_model s k) (go (eqb (length (slot_at s k)) 0) (words_worded (slot_at s k) (slots_words slot_count s w k)))
  where
    go : (b : Bool) → Worded (grid_of (slot_at s k)) → Worded (grid_in (cond b vacant
        (holding (revision (slot_at s k)) (grid_of (slot_at s k)))))
    go true h = record { word = λ i j l m. tt }
    go false h = h

-- ---- on the model
module _ (n d : ℕ) where
  abbrev op : SlotMerge → Operate
  op x = operate_of (call_of d x)

  -- none of the refusals applies
  none_applies : (m : Model) (x : SlotMerge) → leb slot_count x.slot ≡ false → leb slot_count d ≡ false
      → is_vacant (slot_of m x.slot) ≡ false → is_vacant (slot_of m d) ≡ false
      → (grid_at m x.slot).rows ≡ (grid_at m d).rows → (grid_at m x.slot).cols ≡ (grid_at m d).cols
      → ltb max_entries (entry_count (operated m (op x))) ≡ false
      → ltb n (needed_with m d (operated m (op x))) ≡ false
      → first_applying (operation_cases n m (op x)) ≡ 0
  unfolding indexes_valid shapes_agree ◌and◌ binary_numbered unary_numbered apply_numbered
  none_applies m x a b p q r c e f =
      rw (
        a,
        b,
        p,
        q,
        eq-eqb (grid_at m x.slot).rows (grid_at m x.slot).rows refl,
        eq-eqb (grid_at m x.slot).cols (grid_at m x.slot).cols refl,
        eq-eqb (grid_at m x.slot).rows (grid_at m d).rows r,
        eq-eqb (grid_at m x.slot).cols (grid_at m d).cols c,
        le-ltb x.work workspace_words x.suffices,
        e,
        f,
      )

  module _ (m : Model) (long : length m ≡ slot_count) (td : d < slot_count) (worded : (k : ℕ) → Worded (grid_at m k)) where
    -- slot d holds h with revision v, every other one what it held
    abbrev with : ℕ → Grid → Model
    with v h = put m d (holding v h)

    here_is : (v : ℕ) (h : Grid) → slot_of (with v h) d ≡ holding v h
    here_is v h = get_or-set_same m d (holding v h) vacant (omega arith)

    other_is : (v : ℕ) (h : Grid) (k : ℕ) → (k ≡ d → ⊥) → slot_of (with v h) k ≡ slot_of m k
    other_is v h k f = get_or-set_other m d k (holding v h) vacant f

    -- one merge
    record Once (v : ℕ) (h : Grid) (x : SlotMerge) : Type 0 where
      final : Grid
      same : Same final (join h (grid_at m x.slot))
      model : next n (with v h) (operation (call_of d x)) ≡ with (next_revision v) final
      code : code_of (reply n (with v h) (operation (call_of d x))) ≡ 0

    once : (v : ℕ) (h : Grid) (x : SlotMerge) → Input m d x.slot → h.rows ≡ (grid_at m d).rows
        → h.cols ≡ (grid_at m d).cols → entry_count (join h (grid_at m x.slot)) ≤ max_entries
        → needed_with m d (join h (grid_at m x.slot)) ≤ n → Once v h x
    unfolding effect
    once v h x p er ec few room =
        let k = x.slot in
        let u : revision_at (with v h) d ≡ v = ap revision_in (here_is v h) in
        let gd : grid_at (with v h) d ≡ h = ap grid_in (here_is v h) in
        let gk : grid_at (with v h) k ≡ grid_at m k = ap grid_in (other_is v h k p.apart) in
        let s : Suits h.rows h.cols (grid_at m k) =
        record { rows = p.same_rows ∙ sym er; cols = p.same_cols ∙ sym ec; worded = worded k } in
        let o = operated (with v h) (op x) in
        let f : Same o (join h (grid_at m k)) =
        rw (gd, gk) (final_join x.scalar (grid_at m k) (grid_at m k) h h x.is x.js s) in
        let c = same_count _ _ f in
        let g = same_size _ _ f in
        let z = sizes_more m d (holding 0 o) (holding 0 (join h (grid_at m k))) (omega arith) in
        let t = ap sizes (set-set m d (holding v h) (holding 0 o)) in
        let w = set-set m d (holding v h) (holding (next_revision (revision_at (with v h) d)) o) in
        let taken =
        none_applies (with v h) x (lt-leb slot_count k p.slot) (lt-leb slot_count d td)
        (ap is_vacant (other_is v h k p.apart) ∙ p.holds) (ap is_vacant (here_is v h))
        (ap (λ (y : Grid). y.rows) gk ∙ s.rows ∙ sym (ap (λ (y : Grid). y.rows) gd))
        (ap (λ (y : Grid). y.cols) gk ∙ s.cols ∙ sym (ap (λ (y : Grid). y.cols) gd))
        (le-ltb max_entries (entry_count o) (omega arith))
        (le-ltb n (needed_with (with v h) d o) (omega arith)) in
        let e = effect (operation (call_of d x)) in
        record {
          final = o;
          same = f;
          model = next_accepted e n (with v h) taken ∙ w ∙ ap (λ (i : ℕ). with (next_revision i) o) u;
          code = reply_code e n (with v h) (effect_sound (operation (call_of d x))) ∙ taken;
        }

    -- a list of them
    record Ended (v : ℕ) (h : Grid) (xs : List SlotMerge) : Type 0 where
      final : Grid
      same : Same final (join_all h (map (grid_at m) (slots_in xs)))
      model : model_after n (with v h) (merge_calls d xs) ≡ with (next_times (length xs) v) final
      codes : AllAccepted (replies n (with v h) (merge_calls d xs))

    one_more : (v : ℕ) (h : Grid) (x : SlotMerge) (xs : List SlotMerge) (o : Once v h x)
        → Ended (next_revision v) o.final xs → Ended v h (x ∷ xs)
    one_more v h x xs o i = record {
      final = i.final;
      same = same_trans i.same (join_all_same (map (grid_at m) (slots_in xs)) o.same);
      model = ap (λ (w : Model). model_after n w (merge_calls d xs)) o.model ∙ i.model;
      codes = (o.code, rw o.model i.codes);
    }

    ended : (xs : List SlotMerge) (v : ℕ) (h : Grid) → ((k : ℕ) → k ∈ slots_in xs → Input m d k)
        → h.rows ≡ (grid_at m d).rows → h.cols ≡ (grid_at m d).cols
        → entry_count (join_all h (map (grid_at m) (slots_in xs))) ≤ max_entries
        → needed_with m d (join_all h (map (grid_at m) (slots_in xs))) ≤ n → Ended v h xs
    ended [] v h p er ec few room = record { final = h; same = same_refl h; model = refl; codes = tt }
    ended (x ∷ xs) v h p er ec few room =
        let gs = map (grid_at m) (slots_in xs) in
        let j = join h (grid_at m x.slot) in
        let g = join_all_grows j gs in
        let r = join_all_rows j gs in
        let z = sizes_more m d (holding 0 j) (holding 0 (join_all j gs)) (omega arith) in
        let o = once v h x (p x.slot here) er ec (omega arith) (omega arith) in
        let s = join_all_same gs o.same in
        let c = same_count _ _ s in
        let q = same_size _ _ s in
        let y = sizes_more m d (holding 0 (join_all o.final gs)) (holding 0 (join_all j gs)) (omega arith) in
        one_more v h x xs o
        (ended xs (next_revision v) o.final (λ k l. p k (there l)) (o.same.rows ∙ er) (o.same.cols ∙ ec) (omega arith)
        (omega arith))

-- ---- on a store
holding_grid : (x : Slot) → is_vacant x ≡ false → holding (revision_in x) (grid_in x) ≡ x
holding_grid vacant e = absurd (false≢true (sym e))
holding_grid (holding v g) e = refl

-- two joined grids that agree are written as one
joined_written : (s : List ℕ) (d v : ℕ) (g h : Grid) → Same g h
    → model_writing (length s) (put (model_of s) d (holding v g)) ≡ model_writing (length s) (put (model_of s) d (holding v h))
joined_written s d v g h e =
    alike_written (length s) _ _
    (alike_put (model_of s) (model_of s) d (holding v g) (holding v h) (alike_refl (model_of s)) (refl, e))

-- what a list leaves
abbrev left_revision : List ℕ → ℕ → List SlotMerge → ℕ
left_revision s d xs = next_times (length xs) (revision_at (model_of s) d)

record Left (s : List ℕ) (d : ℕ) (xs : List SlotMerge) (rs : List Reply) (s' : List ℕ) : Type 0 where
  codes : AllAccepted rs
  words : s' ≡ model_writing (length s) (joined_model (model_of s) d (left_revision s d xs) (slots_in xs))

left : {s s' : List ℕ} {d : ℕ} (xs : List SlotMerge) {rs : List Reply} → Mergeable s d (slots_in xs)
    → Runs s (merge_calls d xs) rs s' → Left s d xs rs s'
left {s} {s'} {d} xs {rs} p t =
    let m = model_of s in
    let f = held_fits s (store_facts s p.store) in
    let o = resumed s p.store _ _ _ t in
    let e =
    ended (length s) d m f.slots p.target (model_worded s p.words) xs (revision_at m d) (grid_at m d)
    p.each refl refl
    p.entries p.room in
    let b : put m d (holding (revision_at m d) (grid_at m d)) ≡ m =
    ap (set m d) (holding_grid (slot_of m d) p.holds) ∙ set-get_or m d vacant in
    record {
      codes = rw (o.answers, ← b) e.codes;
      words = o.words ∙ ap (λ (w : Model). model_writing (length s) (model_after (length s) w (merge_calls d xs))) (sym b)
          ∙ ap (model_writing (length s)) e.model ∙ joined_written s d (left_revision s d xs) e.final _ e.same;
    }

suiting : {s : List ℕ} {d : ℕ} {ks : List ℕ} → Mergeable s d ks
    → All (grid_at (model_of s) d).rows (grid_at (model_of s) d).cols (map (grid_at (model_of s)) ks)
suiting {s} {d} {ks} p =
    all_map (grid_at (model_of s)) (Suits (grid_at (model_of s) d).rows (grid_at (model_of s) d).cols) ks
    (λ k l.
    let q = p.each k l in record { rows = q.same_rows; cols = q.same_cols; worded = model_worded s p.words k })

-- what is assumed of one list holds of another one of some of its slots, if that joins no more
some_of : {s : List ℕ} {d : ℕ} {ks js : List ℕ} → Mergeable s d ks → ((k : ℕ) → k ∈ js → k ∈ ks)
    → entry_count (joined_in (model_of s) d js) ≤ entry_count (joined_in (model_of s) d ks)
    → (joined_in (model_of s) d js).rows ≡ (joined_in (model_of s) d ks).rows → Mergeable s d js
some_of {s} {d} {ks} {js} p h c r =
    let z =
    sizes_more (model_of s) d (holding 0 (joined_in (model_of s) d js)) (holding 0 (joined_in (model_of s) d ks))
    (omega arith) in
    let f = p.entries in
    let g = p.room in
    record {
      store = p.store;
      words = p.words;
      target = p.target;
      holds = p.holds;
      each = λ k l. p.each k (h k l);
      entries = omega arith;
      room = omega arith;
    }

beginning : {s : List ℕ} {d : ℕ} (ks js : List ℕ) → Mergeable s d (ks ++ js) → Mergeable s d ks
beginning {s} {d} ks js p =
    let a = join_all_append (grid_at (model_of s)) (grid_at (model_of s) d) ks js in
    let n = ap entry_count a in
    let r = ap (λ (g : Grid). g.rows) a in
    let k = join_all_grows (joined_in (model_of s) d ks) (map (grid_at (model_of s)) js) in
    let l = join_all_rows (joined_in (model_of s) d ks) (map (grid_at (model_of s)) js) in
    some_of {js = ks} p (λ x m. member_append js m) (omega arith) (omega arith)

-- another list with the same newest reports
module _ {s : List ℕ} {d : ℕ} {ks js : List ℕ} (h : (k : ℕ) → k ∈ js → k ∈ ks) (p : Mergeable s d ks)
    (e : Same (joined_in (model_of s) d ks) (joined_in (model_of s) d js)) where
  other_list : Mergeable s d js
  other_list =
      let c = same_count _ _ e in
      some_of p h (omega arith) (sym e.rows)

same_left : {s s' s'' : List ℕ} {d : ℕ} (xs ys : List SlotMerge) {rs qs : List Reply}
    → ((k : ℕ) → k ∈ slots_in ys → k ∈ slots_in xs) → Mergeable s d (slots_in xs)
    → Same (joined_in (model_of s) d (slots_in xs)) (joined_in (model_of s) d (slots_in ys))
    → Runs s (merge_calls d xs) rs s' → Runs s (merge_calls d ys) qs s'' → SameBut s d s' s''
same_left {s} {d = d} xs ys h p e t u = record {
  grid = joined_in (model_of s) d (slots_in ys);
  first = left_revision s d xs;
  second = left_revision s d ys;
  first_words = (left xs p t).words ∙ joined_written s d (left_revision s d xs) _ _ e;
  second_words = (left ys (other_list h p e) u).words;
}

-- as many merges leave one revision, and so the same words
same_words : {s s' s'' : List ℕ} {d : ℕ} (b : SameBut s d s' s'') → b.first ≡ b.second → s' ≡ s''
same_words {s} {d = d} b e =
    b.first_words ∙ ap (λ (v : ℕ). model_writing (length s) (put (model_of s) d (holding v b.grid))) e
    ∙ sym b.second_words

rearranged_length : {ks js : List ℕ} → Rearranged ks js → length ks ≡ length js
rearranged_length none = refl
rearranged_length (after r) = ap suc (rearranged_length r)
rearranged_length exchanged = refl
rearranged_length (twice r q) = rearranged_length r ∙ rearranged_length q

same_number : (xs ys : List SlotMerge) → Rearranged (slots_in xs) (slots_in ys) → length xs ≡ length ys
same_number xs ys r =
    sym (length-map xs (λ x. x.slot)) ∙ rearranged_length r ∙ length-map ys (λ x. x.slot)

joined_order : {s : List ℕ} {d : ℕ} {ks js : List ℕ} → Rearranged ks js → Mergeable s d ks
    → Same (joined_in (model_of s) d ks) (joined_in (model_of s) d js)
joined_order {s} r p =
    join_all_rearranged (rearranged_map (grid_at (model_of s)) r) (model_worded s p.words _) (suiting p)

joined_list : {s : List ℕ} {d : ℕ} {ks js : List ℕ} → ((k : ℕ) → k ∈ ks → k ∈ js) → ((k : ℕ) → k ∈ js → k ∈ ks)
    → Mergeable s d ks → Same (joined_in (model_of s) d ks) (joined_in (model_of s) d js)
joined_list {s} f h p = join_all_members (members f) (members h) (model_worded s p.words _) (suiting p)
  where
    members : {us vs : List ℕ} → ((a : ℕ) → a ∈ us → a ∈ vs)
        → (b : Grid) → b ∈ map (grid_at (model_of s)) us → b ∈ map (grid_at (model_of s)) vs
    members {us} {vs} e =
        all_map (grid_at (model_of s)) (λ b. b ∈ map (grid_at (model_of s)) vs) us
        (λ a m. member_map (grid_at (model_of s)) (e a m))

-- one of them again: the list with it at its end
run_then : {s s' s'' : List ℕ} {d : ℕ} (xs : List SlotMerge) (y : SlotMerge) {rs : List Reply} {r : Reply}
    → Runs s (merge_calls d xs) rs s' → Step s' (operation (call_of d y)) r s''
    → Runs s (merge_calls d (xs ++ (y ∷ []))) (rs ++ (r ∷ [])) s''
run_then [] y end t = call t end
run_then (x ∷ xs) y (call u us) t = call u (run_then xs y us t)

last_accepted : (rs : List Reply) (r : Reply) → AllAccepted (rs ++ (r ∷ [])) → code_of r ≡ 0
last_accepted [] r h = h.0
last_accepted (q ∷ rs) r h = last_accepted rs r h.1

slots_then : (xs : List SlotMerge) (y : SlotMerge) → slots_in (xs ++ (y ∷ [])) ≡ slots_in xs ++ (y.slot ∷ [])
slots_then [] y = refl
slots_then (x ∷ xs) y = ap (λ (ks : List ℕ). x.slot ∷ ks) (slots_then xs y)

-- a list with one of its members at its end has the same members
member_then : {k a : ℕ} {ks : List ℕ} (js : List ℕ) → a ∈ ks → ((j : ℕ) → j ∈ js → j ∈ ks) → k ∈ (js ++ (a ∷ []))
    → k ∈ ks
member_then [] i f here = i
member_then [] i f (there m) = elim m [ ]
member_then (j ∷ js) i f here = f j here
member_then (j ∷ js) i f (there m) = member_then js i (λ h l. f h (there l)) m

module _ (xs : List SlotMerge) (y : SlotMerge) where
  longer : (k : ℕ) → k ∈ slots_in xs → k ∈ slots_in (xs ++ (y ∷ []))
  longer k m = rw (slots_then xs y) (member_append (y.slot ∷ []) m)

  no_other : y.slot ∈ slots_in xs → (k : ℕ) → k ∈ slots_in (xs ++ (y ∷ [])) → k ∈ slots_in xs
  no_other i k m = member_then (slots_in xs) i (λ j l. l) (rw (slots_then xs y) at m)

  module _ {s s' s'' : List ℕ} {d : ℕ} {rs : List Reply} {r : Reply} (i : y.slot ∈ slots_in xs)
      (p : Mergeable s d (slots_in xs)) (t : Runs s (merge_calls d xs) rs s')
      (u : Step s' (operation (call_of d y)) r s'') where
    same : Same (joined_in (model_of s) d (slots_in xs)) (joined_in (model_of s) d (slots_in (xs ++ (y ∷ []))))
    same = joined_list longer (no_other i) p

    repeated_accepted : code_of r ≡ 0
    repeated_accepted =
        last_accepted rs r (left (xs ++ (y ∷ [])) (other_list (no_other i) p same) (run_then xs y t u)).codes

    repeated : SameBut s d s' s''
    repeated = same_left xs (xs ++ (y ∷ [])) (no_other i) p same t (run_then xs y t u)

pub store_any_order : StoreAnyOrder
unfolding same_left
store_any_order = record {
  possible = λ κ₁ κ₄ s d xs. every_run κ₁ κ₄ s (merge_calls d xs);
  on_the_way = beginning;
  accepted = λ xs p t. (left xs p t).codes;
  words_left = λ xs p t. (left xs p t).words;
  other_order = λ r p. other_list (λ k m. member_rearranged r m) p (joined_order r p);
  any_order = λ {s} {d = d} xs ys r p t u.
      same_words (same_left xs ys (λ k m. member_rearranged r m) p (joined_order r p) t u)
      (ap (λ (n : ℕ). next_times n (revision_at (model_of s) d)) (same_number xs ys r));
  again_accepted = λ xs y i p t u. repeated_accepted xs y i p t u;
  again = λ xs y i p t u. repeated xs y i p t u;
  any_list = λ xs ys f h p t u. same_left xs ys h p (joined_list f h p) t u;
}
