-- Document 02, A10, at one row: "a second engine that takes time by entries rather than by places, and prove it equal
-- to the present one, answers and buffers, for every input".
--
-- What an engine does is taken from its own contract, by name: `Reads.Learnt` is what a caller learns when it returns.
-- The words behind the row are scratch to both engines, and no caller reads them.
use Rattle.std.specs.Prelude.{ℕ, ◌≡◌, List, take}
use contract.Lifetimes.{Lfts}
use Rattle.std.specs.Borrow.{Bor, MutBor}
use Rattle.words.specs.Lent.{Address, lent, lent_mut}
use Rattle.operators.specs.declared.BinaryOp.{BinaryOp}
use Rattle.operators.specs.declared.Monoid.{Monoid}
use Rattle.products.proofs.product_row.Reads as by_places
use Rattle.products.proofs.product_row.Statement as by_places_statement
use Rattle.products.proofs.by_entries.product_row_by_entries.Reads as by_entries
use Rattle.products.proofs.by_entries.product_row_by_entries.Statement as by_entries_statement

-- the five slices of a call of an engine
pub record Addresses : Type 0 where
  pub columns : Address
  pub values : Address
  pub matrix : Address
  pub oc : Address
  pub ov : Address

-- two rows that were left at the front of two pairs of buffers: as many entries, the same columns, the same values
pub record SameRow (r r' : ℕ) (oc oc' ov ov' : List ℕ) : Type 0 where
  pub count : r' ≡ r
  pub columns : take r' oc' ≡ take r oc
  pub values : take r' ov' ≡ take r ov

pub record Engines : Type 3 where
  -- the code of each meets its contract
  pub by_places_met : {M : Type 1} → by_places_statement.statement M
  pub by_entries_met : {M : Type 1} → by_entries_statement.statement M
  -- the one asks of its caller what the other asks
  pub asked : (κs : Lfts 5) (monoid : Monoid) (op : BinaryOp) (columns values b : Bor (List ℕ)) (oc ov : MutBor (List ℕ))
      → by_places.Asked κs (monoid, (op, (columns, (values, (b, (oc, (ov, tt)))))))
      → by_entries.Asked κs (monoid, (op, (columns, (values, (b, (oc, (ov, tt)))))))
  pub asked_back : (κs : Lfts 5) (monoid : Monoid) (op : BinaryOp) (columns values b : Bor (List ℕ)) (oc ov : MutBor (List ℕ))
      → by_entries.Asked κs (monoid, (op, (columns, (values, (b, (oc, (ov, tt)))))))
      → by_places.Asked κs (monoid, (op, (columns, (values, (b, (oc, (ov, tt)))))))
  -- for the same monoid, operator, row and matrix both leave the same row, wherever the slices lie and whatever the
  -- buffers held
  pub same : (p q : Addresses) (κs κs' : Lfts 5) (monoid : Monoid) (op : BinaryOp) (columns values b : List ℕ)
      (oc ov oc₁ ov₁ oc' ov' oc₁' ov₁' : List ℕ) (r r' : ℕ)
      → by_places.Learnt κs (
        monoid,
        (
          op,
          (
            lent p.columns columns,
            (
              lent p.values values,
              (
                lent p.matrix b,
                (lent_mut p.oc oc, (lent_mut p.ov ov, tt)),
              ),
            ),
          ),
        ),
      ) r (
        monoid,
        (
          op,
          (
            lent p.columns columns,
            (
              lent p.values values,
              (
                lent p.matrix b,
                (lent_mut p.oc oc₁, (lent_mut p.ov ov₁, tt)),
              ),
            ),
          ),
        ),
      )
      → by_entries.Learnt κs' (
        monoid,
        (
          op,
          (
            lent q.columns columns,
            (
              lent q.values values,
              (
                lent q.matrix b,
                (lent_mut q.oc oc', (lent_mut q.ov ov', tt)),
              ),
            ),
          ),
        ),
      ) r' (
        monoid,
        (
          op,
          (
            lent q.columns columns,
            (
              lent q.values values,
              (
                lent q.matrix b,
                (lent_mut q.oc oc₁', (lent_mut q.ov ov₁', tt)),
              ),
            ),
          ),
        ),
      )
      → SameRow r r' oc₁ oc₁' ov₁ ov₁'
