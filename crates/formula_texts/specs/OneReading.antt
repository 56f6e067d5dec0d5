-- "Show that each accepted text has one reading": one statement over every text, proved in proofs/OneReading.
-- `formula_texts::accepts` tells exactly whether a text is in the language.
use Rattle.std.specs.Prelude.{◌≡◌, List, ℕ}
use Rattle.formula_texts.specs.Trees.{Formula, text, Reading, InLanguage}
use Rattle.formula_texts.specs.Reader.{read_as, unreadable, reading}
use Rattle.formula_texts.specs.Grouped.{Sum, sum_text, grouped}
use Rattle.formula_texts.specs.Values.{value, sum_value}

pub record OneReading : Type 1 where
  -- a text has at most one tree
  pub one : (s : List ℕ) (f g : Formula) → Reading s f → Reading s g → f ≡ g
  -- trees with one text are one tree, however deep and however long
  pub one_tree : (f g : Formula) → text f ≡ text g → f ≡ g
  -- the computed reading is that tree, and where it is none the text is not in the language
  pub computed : (s : List ℕ) (f : Formula) → Reading s f → reading s ≡ read_as f
  pub sound : (s : List ℕ) (f : Formula) → reading s ≡ read_as f → Reading s f
  pub unread : (s : List ℕ) → reading s ≡ unreadable → InLanguage s → ⊥
  -- grouped from left to right it has the same text, no other grouped tree has it, and its value is the same
  pub grouped_text : (f : Formula) → sum_text (grouped f) ≡ text f
  pub one_grouping : (s u : Sum) → sum_text s ≡ sum_text u → s ≡ u
  pub grouped_value : {A : Type 0} (slot : ℕ → A) (add multiply : A → A → A) (f : Formula)
      → sum_value slot add multiply (grouped f) ≡ value slot add multiply f
