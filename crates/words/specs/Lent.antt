-- Lent slices, as the contracts of functions speak of them: where one is and what it holds, and parts of one.
use Rattle.std.specs.Prelude.{ℕ, ◌+◌, ◌*◌, ◌≡◌, List}
use Rattle.std.specs.Borrow.{Bor, MutBor}
use Rattle.words.specs.Words.{part}

-- a lent slice: where it is, and the words that it holds. It is at the same address when the call returns.
pub record Address : Type 0 where
  pub pointer : ℕ × ℕ
  pub name : ℕ

-- lent by `&`, which has no name, and lent by `&mut`
abbrev pub lent : Address → List ℕ → Bor (List ℕ)
lent p s = record { ref_ptr = p.pointer; now = s }

abbrev pub lent_mut : Address → List ℕ → MutBor (List ℕ)
lent_mut p s = record { ref_ptr = p.pointer; ghost_name = p.name; now = s }

-- Of a function that returns a part, the contract says which words of which slice it is:
-- r is the part of the lent slice s from word a up to, and not including, word e: it lies in the same memory, a words
-- of 4 bytes further on, and holds those words
pub record PartOf (r s : Bor (List ℕ)) (a e : ℕ) : Type 0 where
  pub memory : r.ref_ptr.0 ≡ s.ref_ptr.0
  pub offset : r.ref_ptr.1 ≡ s.ref_ptr.1 + a * 4
  pub words : r.now ≡ part a e s.now
