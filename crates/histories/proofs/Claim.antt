-- The claim over every list of calls, from the contracts of the functions.
use Prim.Native.Nat.{ℕ, ◌≤◌}
use mathlib.Core.Path.{◌≡◌, refl, sym, ap, subst, ◌∙◌}
use mathlib.Core.Bool.{Bool, true, false, cond}
use mathlib.Core.List.{List, [], ◌∷◌}
use lib.ListN.{length, replicate}
use contract.Lifetimes.{Lfts}
use Rattle.limits.specs.Limits.{slot_count, max_store_words}
use Rattle.answers.specs.Refusals.{invalid_store}
use Rattle.slots.specs.Valid.{store_valid}
use Rattle.slots.proofs.Facts.{store_facts}
use Rattle.model.specs.Model.{Model, fresh}
use Rattle.model.specs.Effects.{Reply, code_of, refused_as, reply_of, next_of}
use Rattle.model.specs.Calls.{StoreCall, effect}
use Rattle.model.specs.Histories.{reply, next, replies, model_after}
use Rattle.grid.proofs.Same.{same_sym, same_trans}
use Rattle.refusals.specs.Cases.{Case}
use Rattle.model.proofs.Alike.{Alike, grid_same, revision_same, no_grid_lem}
use Rattle.model.proofs.Fitting.{Fitting}
use Rattle.model.proofs.Effects.{
  reply_same,
  next_same,
  next_fits,
  refused_keeps,
  effect_same,
  effect_fits,
  effect_sound,
}
use Rattle.store_encoding.specs.Writing.{model_writing}
use Rattle.store_encoding.specs.Stores.{model_of, effect_reply, effect_words, Performed}
use Rattle.store_encoding.proofs.Held.{model_written}
use Rattle.histories.specs.Lists.{
  Runs,
  end,
  call,
  Follows,
  Claim,
  Resumed,
  EqualWords,
  HostRuns,
  end as host-end,
  call as host-call,
  AllTakenApart,
  HostFollows,
  HostClaim,
  HostResumed,
}
use Rattle.histories.specs.Promise.{PossibleRun}
use Rattle.histories.proofs.Functions.{told, possible}
use Rattle.histories.proofs.Hosts.{host_told}
use Rattle.histories.proofs.Stored.{Written, written_model, alike_written, fresh_fits, fresh_written, held_fits}

-- ---- one call

-- it goes as the model goes
record Once (n : ℕ) (m : Model) (c : StoreCall) (r : Reply) (s : List ℕ) : Type 0 where
  answer : r ≡ reply n m c
  words : s ≡ model_writing n (next n m c)

once : {n : ℕ} {m : Model} {c : StoreCall} {s s' : List ℕ} {r : Reply} → Written n m s → Performed s c r s' → Once n m c r s'
unfolding effect_reply effect_words
once {n} {m} {c} {s} {s'} {r} w t =
    let e = effect_same n (model_of s) m w.alike c in
    record {
      answer =
          t.answer_is
          ∙ ap (λ (b : Bool). cond b (reply (length s) (model_of s) c) (refused_as (effect c).kind invalid_store)) w.valid
          ∙ ap (λ (k : ℕ). reply k (model_of s) c) w.long ∙ reply_same (effect c) n (model_of s) e;
      words =
          t.words_are ∙ ap (λ (b : Bool). cond b (model_writing (length s) (next (length s) (model_of s) c)) s) w.valid
          ∙ ap (λ (k : ℕ). model_writing k (next k (model_of s) c)) w.long
          ∙ alike_written n (next n (model_of s) c) (next n m c) (next_same (effect c) n (model_of s) e w.alike);
    }

-- a refused call leaves the words as they were
pub kept : {s s' : List ℕ} (c : StoreCall) {r : Reply} → Performed s c r s' → (code_of r ≡ 0 → ⊥) → s' ≡ s
unfolding effect_reply effect_words
kept {s} {s'} c {r} t h = go (store_valid s) refl t.answer_is t.words_are
  where
    go : (b : Bool) → store_valid s ≡ b
        → r ≡ cond b (reply_of (effect c) (length s) (model_of s)) (refused_as (effect c).kind invalid_store)
        → s' ≡ cond b (model_writing (length s) (next_of (effect c) (length s) (model_of s))) s → s' ≡ s
    go true v e f =
        f
        ∙ ap (model_writing (length s))
        (refused_keeps (effect c) (length s) (model_of s) (effect_sound c) (λ z. h (ap code_of e ∙ z)))
        ∙ model_written s (store_facts s v)
    go false v e f = f

-- ---- every list

cons_same : {r r' : Reply} {rs rs' : List Reply} → r ≡ r' → rs ≡ rs' → r ∷ rs ≡ r' ∷ rs'
cons_same {r} {r'} {rs} {rs'} e f = ap (λ (x : Reply). x ∷ rs) e ∙ ap (λ (xs : List Reply). r' ∷ xs) f

-- a model that fits the length, and words that are its writing
record Begun (n : ℕ) (m : Model) (s : List ℕ) : Type 0 where
  least : slot_count ≤ n
  most : n ≤ max_store_words
  fits : Fitting n m
  words : s ≡ model_writing n m

-- after one call more
onward : {n : ℕ} {m : Model} {c : StoreCall} {s s' : List ℕ} {r : Reply} → Begun n m s → Once n m c r s'
    → Begun n (next n m c) s'
onward {n} {m} {c} b o = record {
  least = b.least;
  most = b.most;
  fits = next_fits (effect c) n m b.fits (effect_fits n m b.fits c);
  words = o.words;
}

begun_once : {n : ℕ} {m : Model} {c : StoreCall} {s s' : List ℕ} {r : Reply} → Begun n m s → Performed s c r s'
    → Once n m c r s'
begun_once {n} {m} {c} b t = once (rw (← b.words) at (written_model n m b.least b.most b.fits)) t

follows : {n : ℕ} {m : Model} {cs : List StoreCall} {rs : List Reply} {s s' : List ℕ} → Begun n m s → Runs s cs rs s'
    → Follows n m cs rs s'
follows {n = n} {m = m} b end = record { answers = refl; words = b.words }
follows {n = n} {m = m} b (call {c = c} t ts) =
    let o = begun_once {n = n} {m = m} {c = c} b (told t) in
    let i = follows {n = n} {m = next n m c} (onward b o) ts in
    record { answers = cons_same o.answer i.answers; words = i.words }

host_follows : {n : ℕ} {m : Model} {cs : List StoreCall} {rs : List ℕ} {s s' : List ℕ} → Begun n m s → HostRuns s cs rs s'
    → HostFollows n m cs rs s'
host_follows {n = n} {m = m} b host-end = record { answers = tt; words = b.words }
host_follows {n = n} {m = m} b (host-call {c = c} t ts) =
    let h = host_told t in
    let o = begun_once {n = n} {m = m} {c = c} b h.performed in
    let i = host_follows {n = n} {m = next n m c} (onward b o) ts in
    record { answers = (rw (← o.answer) h.apart, i.answers); words = i.words }

begun_fresh : (n : ℕ) → slot_count ≤ n → n ≤ max_store_words → Begun n fresh (replicate n 0)
begun_fresh n a b = record { least = a; most = b; fits = fresh_fits n a; words = fresh_written n a }

begun_stored : (s : List ℕ) → store_valid s ≡ true → Begun (length s) (model_of s) s
begun_stored s v =
    let h = store_facts s v in
    record { least = h.least; most = h.most; fits = held_fits s h; words = sym (model_written s h) }

pub claim : Claim
claim n a b cs rs s r = follows (begun_fresh n a b) r

pub resumed : Resumed
resumed s v cs rs s' r = follows (begun_stored s v) r

pub host_claim : HostClaim
host_claim n a b cs rs s r = host_follows (begun_fresh n a b) r

pub host_resumed : HostResumed
host_resumed s v cs rs s' r = host_follows (begun_stored s v) r

-- ---- equal words

-- the words after a list are the writing of a model that fits
ended : {n : ℕ} {m : Model} {cs : List StoreCall} {rs : List Reply} {s s' : List ℕ} → Begun n m s → Runs s cs rs s'
    → Begun n (model_after n m cs) s'
ended {n = n} {m = m} b end = b
ended {n = n} {m = m} b (call {c = c} t ts) =
    ended {n = n} {m = next n m c} (onward b (begun_once {n = n} {m = m} {c = c} b (told t))) ts

-- so they hold that model
holds : {n : ℕ} {m : Model} {s : List ℕ} → Begun n m s → Alike (model_of s) m
holds {n} {m} b = (rw (← b.words) at (written_model n m b.least b.most b.fits)).alike

pub equal_words : EqualWords
equal_words n a b cs ds rs qs s r q =
    let x = holds (ended (begun_fresh n a b) r) in
    let y = holds (ended (begun_fresh n a b) q) in
    let m = model_after n fresh cs in
    let o = model_after n fresh ds in
    record {
      vacancy = λ k.
          sym (ap (λ (c : Case). c.applies) (no_grid_lem n (model_of s) m x k))
          ∙ ap (λ (c : Case). c.applies) (no_grid_lem n (model_of s) o y k);
      revisions = λ k. sym (revision_same n (model_of s) m x k) ∙ revision_same n (model_of s) o y k;
      grids = λ k. same_trans (same_sym (grid_same n (model_of s) m x k)) (grid_same n (model_of s) o y k);
    }

-- a run of every list, on any words
pub every_run : Lfts 1 → Lfts 4 → (s : List ℕ) (cs : List StoreCall) → PossibleRun s cs
every_run κ₁ κ₄ s [] = record { answers = []; after = s; runs = end }
every_run κ₁ κ₄ s (c ∷ cs) =
    let p = possible κ₁ κ₄ s c in
    let i = every_run κ₁ κ₄ p.after cs in
    record { answers = p.answer ∷ i.answers; after = i.after; runs = call p.step i.runs }
