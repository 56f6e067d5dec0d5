-- Document 02, A10, at whole calls: for every call, any numbers and any words, the answer, every word of C's buffer or
-- of the store, spare words included, and every word of the workspace are the same with either engine.
--
-- What a call does is taken from the contract of `calls::operate_with` and `store_calls::operate_with`, by name, at
-- `Engine::ByPlaces` and at `Engine::ByEntries`; and from that of `calls::operate` and `store_calls::operate`, the
-- calls of hosts.
use Rattle.std.specs.Prelude.{ℕ, ◌≡◌, List, Result}
use contract.Lifetimes.{Lfts}
use Rattle.std.specs.Borrow.{Bor, MutBor}
use borrow.Fn.Picked.{KnownAs}
use Rattle.answers.specs.Answers.{Answer}
use Rattle.answers.specs.declared.Refusal.{Refusal}
use Rattle.answers.specs.Results.{answer}
use Rattle.words.specs.Lent.{Address, lent, lent_mut}
use Rattle.call_codes.specs.declared.Options.{Options}
use Rattle.call_codes.specs.declared.Verb.{Verb}
use Rattle.model.specs.declared.Roles.{Roles}
use Rattle.products.specs.declared.Engine.{Engine}
use Rattle.products.specs.declared.Engine.TheVariants.{ByPlaces, ByEntries}
use Rattle.calls.proofs.operate.Reads as operate
use Rattle.calls.proofs.operate_with.Reads as with
use Rattle.calls.proofs.operate_with.Statement as with_statement
use Rattle.calls.proofs.operate_with.Kinds as with_kinds
use Rattle.store_calls.proofs.operate.Reads as store_operate
use Rattle.store_calls.proofs.operate_with.Reads as store_with
use Rattle.store_calls.proofs.operate_with.Statement as store_with_statement
use Rattle.store_calls.proofs.operate_with.Kinds as store_with_kinds

-- the seven slices of a call on lent matrices
pub record CallAddresses : Type 0 where
  pub first : Address
  pub second : Address
  pub mask : Address
  pub rows : Address
  pub columns : Address
  pub c : Address
  pub work : Address

-- the words that a call is lent: the inputs, the mask, the lists, C and the workspace
pub record CallWords : Type 0 where
  pub first : List ℕ
  pub second : List ℕ
  pub mask : List ℕ
  pub rows : List ℕ
  pub columns : List ℕ
  pub c : List ℕ
  pub work : List ℕ

-- A call of `calls::operate_with` with an engine: its answer, and the words of C's buffer and of the workspace after.
abbrev pub CallWith : Engine → CallAddresses → Lfts 6 → Options → Verb → CallWords → Result ℕ Refusal → List ℕ
    → List ℕ → Type 0
CallWith engine p κs o verb s result c' w' =
    with.Learnt κs (
      o,
      (
        verb,
        (
          lent p.first s.first,
          (
            lent p.second s.second,
            (
              lent p.mask s.mask,
              (
                lent p.rows s.rows,
                (
                  lent p.columns s.columns,
                  (lent_mut p.c s.c, (lent_mut p.work s.work, (engine, tt))),
                ),
              ),
            ),
          ),
        ),
      ),
    ) result (
      o,
      (
        verb,
        (
          lent p.first s.first,
          (
            lent p.second s.second,
            (
              lent p.mask s.mask,
              (
                lent p.rows s.rows,
                (
                  lent p.columns s.columns,
                  (lent_mut p.c c', (lent_mut p.work w', (engine, tt))),
                ),
              ),
            ),
          ),
        ),
      ),
    )

-- the same of `calls::operate`, which is given no engine
abbrev pub PublicCall : CallAddresses → Lfts 6 → Options → Verb → CallWords → Result ℕ Refusal → List ℕ
    → List ℕ → Type 0
PublicCall p κs o verb s result c' w' =
    operate.Learnt κs (
      o,
      (
        verb,
        (
          lent p.first s.first,
          (
            lent p.second s.second,
            (
              lent p.mask s.mask,
              (
                lent p.rows s.rows,
                (
                  lent p.columns s.columns,
                  (lent_mut p.c s.c, (lent_mut p.work s.work, tt)),
                ),
              ),
            ),
          ),
        ),
      ),
    ) result (
      o,
      (
        verb,
        (
          lent p.first s.first,
          (
            lent p.second s.second,
            (
              lent p.mask s.mask,
              (
                lent p.rows s.rows,
                (
                  lent p.columns s.columns,
                  (lent_mut p.c c', (lent_mut p.work w', tt)),
                ),
              ),
            ),
          ),
        ),
      ),
    )

-- where the slices of a call on a store lie, and their words: the store, the lists and the workspace
pub record StoreAddresses : Type 0 where
  pub store : Address
  pub rows : Address
  pub columns : Address
  pub work : Address

pub record StoreWords : Type 0 where
  pub store : List ℕ
  pub rows : List ℕ
  pub columns : List ℕ
  pub work : List ℕ

abbrev pub StoreCallWith : Engine → StoreAddresses → Lfts 4 → Options → Verb → Roles → StoreWords → Result ℕ Refusal
    → List ℕ → List ℕ → Type 0
StoreCallWith engine p κs o verb named s result s' w' =
    store_with.Learnt κs (
      lent_mut p.store s.store,
      (
        o,
        (
          verb,
          (
            named,
            (
              lent p.rows s.rows,
              (
                lent p.columns s.columns,
                (lent_mut p.work s.work, (engine, tt)),
              ),
            ),
          ),
        ),
      ),
    ) result (
      lent_mut p.store s',
      (
        o,
        (
          verb,
          (
            named,
            (
              lent p.rows s.rows,
              (
                lent p.columns s.columns,
                (lent_mut p.work w', (engine, tt)),
              ),
            ),
          ),
        ),
      ),
    )

abbrev pub PublicStoreCall : StoreAddresses → Lfts 4 → Options → Verb → Roles → StoreWords → Result ℕ Refusal → List ℕ
    → List ℕ → Type 0
PublicStoreCall p κs o verb named s result s' w' =
    store_operate.Learnt κs (
      lent_mut p.store s.store,
      (
        o,
        (
          verb,
          (
            named,
            (
              lent p.rows s.rows,
              (
                lent p.columns s.columns,
                (lent_mut p.work s.work, tt),
              ),
            ),
          ),
        ),
      ),
    ) result (
      lent_mut p.store s',
      (
        o,
        (
          verb,
          (
            named,
            (
              lent p.rows s.rows,
              (
                lent p.columns s.columns,
                (lent_mut p.work w', tt),
              ),
            ),
          ),
        ),
      ),
    )

-- two answers, and the words of two buffers after each
pub record SameCall (a a' : Answer) (c c' work work' : List ℕ) : Type 0 where
  pub answers : a' ≡ a
  pub written : c' ≡ c
  pub workspace : work' ≡ work

pub record Calls : Type 3 where
  -- the code of both meets its contract, a caller learns what that says, and has nothing to show
  pub met : {M : Type 1} → with_statement.statement M
  pub known : KnownAs 6 with_kinds.ps with_kinds.r with.Ghost with.requires with.ensures with.Asked with.Learnt
  pub free : (κs : Lfts 6) (a b m is js : Bor (List ℕ)) (c w : MutBor (List ℕ)) (o : Options) (verb : Verb) (engine : Engine)
      → with.Asked κs (o, (verb, (a, (b, (m, (is, (js, (c, (w, (engine, tt))))))))))
  pub store_met : {M : Type 1} → store_with_statement.statement M
  pub store_known : KnownAs 4 store_with_kinds.ps store_with_kinds.r store_with.Ghost store_with.requires
      store_with.ensures store_with.Asked store_with.Learnt
  pub store_free : (κs : Lfts 4) (s w : MutBor (List ℕ)) (is js : Bor (List ℕ)) (o : Options) (verb : Verb) (named : Roles)
      (engine : Engine) → store_with.Asked κs (s, (o, (verb, (named, (is, (js, (w, (engine, tt))))))))
  -- on lent matrices, by places and by entries
  pub same : (p q : CallAddresses) (κs κs' : Lfts 6) (o : Options) (verb : Verb) (s : CallWords)
      (c₁ c₂ w₁ w₂ : List ℕ) (result result' : Result ℕ Refusal)
      → CallWith ByPlaces p κs o verb s result c₁ w₁ → CallWith ByEntries q κs' o verb s result' c₂ w₂
      → SameCall (answer result) (answer result') c₁ c₂ w₁ w₂
  -- and the call of hosts
  pub public_same : (p q : CallAddresses) (κs κs' : Lfts 6) (o : Options) (verb : Verb) (s : CallWords)
      (c₁ c₂ w₁ w₂ : List ℕ) (result result' : Result ℕ Refusal)
      → CallWith ByPlaces p κs o verb s result c₁ w₁ → PublicCall q κs' o verb s result' c₂ w₂
      → SameCall (answer result) (answer result') c₁ c₂ w₁ w₂
  -- on a store, by places and by entries
  pub store_same : (p q : StoreAddresses) (κs κs' : Lfts 4) (o : Options) (verb : Verb) (named : Roles) (s : StoreWords)
      (s₁ s₂ w₁ w₂ : List ℕ) (result result' : Result ℕ Refusal)
      → StoreCallWith ByPlaces p κs o verb named s result s₁ w₁
      → StoreCallWith ByEntries q κs' o verb named s result' s₂ w₂
      → SameCall (answer result) (answer result') s₁ s₂ w₁ w₂
  -- and the call of hosts
  pub public_store_same : (p q : StoreAddresses) (κs κs' : Lfts 4) (o : Options) (verb : Verb) (named : Roles)
      (s : StoreWords) (s₁ s₂ w₁ w₂ : List ℕ) (result result' : Result ℕ Refusal)
      → StoreCallWith ByPlaces p κs o verb named s result s₁ w₁
      → PublicStoreCall q κs' o verb named s result' s₂ w₂
      → SameCall (answer result) (answer result') s₁ s₂ w₁ w₂
