-- `contents` takes the part of a slot's section after its count.
use native.Mathlib.Omega.{arith}
use Prim.Native.Nat.{ℕ, ◌+◌}
use mathlib.Core.Path.{◌≡◌, refl, sym, ap}
use mathlib.Core.List.{List}
use Rattle.words.specs.Words.{part}
use Rattle.slots.proofs.Sections.{section_at, slot_words}
use Rattle.slots.proofs.contents.Goals as goal

-- a part by other names of its bounds
by_bounds : (s : List ℕ) {a b e f : ℕ} → a ≡ b → e ≡ f → part a e s ≡ part b f s
by_bounds s p q = rw (p, q)

pub overflow_add-from : goal.overflow_add-from
overflow_add-from c =
    let f = section_at _ _ _ c.requires.fact_1.within c.requires.fact_2 c.find-at.ensures in omega arith

pub offset_bounds-store-at : goal.offset_bounds-store-at
offset_bounds-store-at c =
    let f = section_at _ _ _ c.requires.fact_1.within c.requires.fact_2 c.find-at.ensures in omega arith

pub bounds-store-at : goal.bounds-store-at
bounds-store-at c =
    let f = section_at _ _ _ c.requires.fact_1.within c.requires.fact_2 c.find-at.ensures in omega arith

pub overflow_add-to : goal.overflow_add-to
overflow_add-to c =
    let f = section_at _ _ _ c.requires.fact_1.within c.requires.fact_2 c.find-at.ensures in omega arith

pub offset_bounds-store-from : goal.offset_bounds-store-from
offset_bounds-store-from c =
    let f = section_at _ _ _ c.requires.fact_1.within c.requires.fact_2 c.find-at.ensures in omega arith

pub slice_bounds-result-end : goal.slice_bounds-result-end
slice_bounds-result-end c =
    let f = section_at _ _ _ c.requires.fact_1.within c.requires.fact_2 c.find-at.ensures in omega arith

pub returns : goal.returns
returns c =
    let f = section_at _ _ _ c.requires.fact_1.within c.requires.fact_2 c.find-at.ensures in
    record {
      place = record {
        memory = refl;
        offset = omega arith;
        words = by_bounds c.args.store.now (ap (λ (a : ℕ). a + 1) c.find-at.ensures) f.next;
      };
      words = sym (slot_words c.args.store.now c.find-at.result c.args.slot c.requires.fact_2 c.find-at.ensures);
    }
