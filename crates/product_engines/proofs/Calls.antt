-- The contracts of the calls leave no choice: each is an equation for the answer and one for every buffer.
use Prim.Native.Nat.{ℕ}
use mathlib.Core.Path.{◌≡◌, sym, ap, ◌∙◌}
use mathlib.Core.List.{List}
use lib.ListN.{length, replicate}
use Rattle.answers.specs.Answers.{Answer}
use Rattle.answers.specs.Refusals.{unless_refused}
use Rattle.operations.specs.declared.Call.{Call}
use Rattle.requests.specs.Refusal.{lent_final}
use Rattle.calls.specs.Completion.{Completed}
use Rattle.encoding.specs.Encode.{updated_to}
use Rattle.calls.proofs.operate_with.Met as with_met
use Rattle.calls.proofs.operate_with.Reads as with
use Rattle.model.specs.Effects.{Reply, wrote, found, totalled}
use Rattle.model.specs.Calls.{StoreCall, operate}
use Rattle.store_encoding.specs.Stores.{Performed}
use Rattle.store_calls.proofs.operate_with.Met as store_with_met
use Rattle.store_calls.proofs.operate_with.Reads as store_with
use Rattle.product_engines.specs.Calls.{SameCall, Calls}

completed_unique : {call : Call} {a b m c is js w : List ℕ} {r r' : Answer} {c₁ c₂ w₁ w₂ : List ℕ}
    → Completed call a b m c is js w r c₁ w₁ → Completed call a b m c is js w r' c₂ w₂ → SameCall r r' c₁ c₂ w₁ w₂
completed_unique {call} {a} {b} {m} {c} {is} {js} {w} {r} {r'} h k =
    let e : r' ≡ r = k.attempted.answer_is ∙ sym h.attempted.answer_is in
    record {
      answers = e;
      written =
          k.attempted.words_are
          ∙ ap (λ (x : Answer). unless_refused x c (updated_to (lent_final call a b m c is js) c)) e
          ∙ sym h.attempted.words_are;
      workspace = k.cleared ∙ sym h.cleared;
    }

-- the answer in a reply, or the one given
abbrev answer_in : Answer → Reply → Answer
answer_in d (wrote r) = r
answer_in d (found r) = d
answer_in d (totalled r) = d

performed_unique : (call : StoreCall) {s : List ℕ} {r r' : Answer} {s₁ s₂ w₁ w₂ : List ℕ} (w : List ℕ)
    → Performed s call (wrote r) s₁ × (w₁ ≡ replicate (length w) 0)
    → Performed s call (wrote r') s₂ × (w₂ ≡ replicate (length w) 0) → SameCall r r' s₁ s₂ w₁ w₂
performed_unique call {s} {r} {r'} w h k = record {
  answers = ap (answer_in r) (k.0.answer_is ∙ sym h.0.answer_is);
  written = k.0.words_are ∙ sym h.0.words_are;
  workspace = k.1 ∙ sym h.1;
}

pub calls : Calls
calls = record {
  met = with_met.met;
  known = with.known;
  free = λ κs a b m is js c w o verb engine. tt;
  store_met = store_with_met.met;
  store_known = store_with.known;
  store_free = λ κs s w is js o verb named engine. tt;
  same = λ p q κs κs' o verb s c₁ c₂ w₁ w₂ r r' h k. completed_unique h k;
  public_same = λ p q κs κs' o verb s c₁ c₂ w₁ w₂ r r' h k. completed_unique h k;
  store_same = λ p q κs κs' o verb named s s₁ s₂ w₁ w₂ r r' h k.
      performed_unique (operate o verb named s.rows s.columns (length s.work)) s.work h k;
  public_store_same = λ p q κs κs' o verb named s s₁ s₂ w₁ w₂ r r' h k.
      performed_unique (operate o verb named s.rows s.columns (length s.work)) s.work h k;
}
