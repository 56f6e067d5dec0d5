-- What the functions that work out a formula leave.
use Rattle.std.specs.Prelude.{
  ℕ,
  ◌+◌,
  ◌-◌,
  ◌*◌,
  ◌≤◌,
  ◌<◌,
  ◌≡◌,
  cond,
  List,
  ◌∷◌,
  length,
  get_or,
  take,
  drop,
  eqb,
  Result,
  Ok,
  Err,
}
use Rattle.answers.specs.declared.Refusal.{Refusal}
use Rattle.answers.specs.Results.{number}
use Rattle.operators.specs.declared.BinaryOp.{BinaryOp}
use Rattle.operators.specs.declared.Monoid.{Monoid}
use Rattle.grid.specs.Grid.{Grid}
use Rattle.matrix.specs.Layout.{grid_of, max_matrix_words}
use Rattle.encoding.specs.Encode.{encode, grid_size, Within}
use Rattle.slots.specs.Sections.{slot_at}
use Rattle.slots.specs.Facts.{Held, Store}
use Rattle.formula_texts.specs.Trees.{Formula, Term, Factor}
use Rattle.formula_texts.specs.Values.{value, value_onto, term_value, term_value_onto, factor_value}
use Rattle.formula_values.specs.Values.{Value, worth, fails, disagree, value_code, step, sum_of, product_of}

-- ---- values

-- what the words of a slot are worth. Of no words it is never used: 13 comes before.
abbrev pub held_value : List ℕ → Value
held_value x = cond (eqb (length x) 0) (fails disagree) (worth (grid_of x))

-- of slot n of a store's words
abbrev pub slot_worth : List ℕ → ℕ → Value
slot_worth s n = held_value (slot_at s n)

-- of each phrase, and of one that is joined on to a value
abbrev pub formula_worth : Monoid → BinaryOp → List ℕ → Formula → Value
formula_worth monoid op s f = value (slot_worth s) (step (sum_of monoid)) (step (product_of monoid op)) f

abbrev pub formula_onto : Monoid → BinaryOp → List ℕ → Formula → Value → Value
formula_onto monoid op s f v = value_onto (slot_worth s) (step (sum_of monoid)) (step (product_of monoid op)) f v

abbrev pub term_worth : Monoid → BinaryOp → List ℕ → Term → Value
term_worth monoid op s t = term_value (slot_worth s) (step (sum_of monoid)) (step (product_of monoid op)) t

abbrev pub term_onto : Monoid → BinaryOp → List ℕ → Term → Value → Value
term_onto monoid op s t v = term_value_onto (slot_worth s) (step (sum_of monoid)) (step (product_of monoid op)) t v

abbrev pub factor_worth : Monoid → BinaryOp → List ℕ → Factor → Value
factor_worth monoid op s x = factor_value (slot_worth s) (step (sum_of monoid)) (step (product_of monoid op)) x

-- ---- what follows a first phrase: nothing, or the joining byte and more
pub data More (T : Type 0) : Type 0 where
  done : More T
  more : T → More T

-- it is within the limits
abbrev pub MoreWithin : {T : Type 0} → (T → ℕ → Type 0) → More T → ℕ → Type 0
MoreWithin In done d = Unit {0}
MoreWithin In (more t) d = In t d

-- its bytes, and then r
abbrev pub more_before : {T : Type 0} → ℕ → (T → List ℕ → List ℕ) → More T → List ℕ → List ℕ
more_before b text done r = r
more_before b text (more t) r = b ∷ text t r

-- joined on to a value
abbrev pub more_onto : {T : Type 0} → (T → Value → Value) → More T → Value → Value
more_onto onto done v = v
more_onto onto (more t) v = onto t v

-- ---- words

-- the writing of g at the front
pub record Standing (g : Grid) (w : List ℕ) : Type 0 where
  pub within : Within g
  pub words : take (grid_size g) w ≡ encode g

-- what is lent: k regions, and two for each bracket that may be opened; every slot that a byte of the whole text names
-- holds a matrix
pub record Lent (k : ℕ) (text : List ℕ) (at d : ℕ) (s w : List ℕ) : Type 0 where
  pub place : at ≤ length text
  pub room : k * max_matrix_words + d * (2 * max_matrix_words) ≤ length w
  pub store : Store s
  pub held : (p : ℕ) → p < length text → 48 ≤ get_or text p 0 → get_or text p 0 ≤ 55
      → Held (slot_at s (get_or text p 0 - 48))

-- and some grid stands at the front
pub record LentOn (k : ℕ) (text : List ℕ) (at d : ℕ) (s w : List ℕ) : Type 0 where
  pub lent : Lent k text at d s w
  pub some_grid : (g : Grid) × Standing g w

-- a value that is a grid, at the front, and the bytes that follow the phrase
pub record Worked (v : Value) (text r : List ℕ) (q : ℕ) (w : List ℕ) : Type 0 where
  pub grid : Grid
  pub value_is : v ≡ worth grid
  pub standing : Standing grid w
  pub rest : drop q text ≡ r

-- the result for a value: the value itself, or its refusal. So it is not InvalidFormula, whose 14 is no value's code.
abbrev pub ResultOf : Value → List ℕ → List ℕ → List ℕ → Result ℕ Refusal → Type 0
ResultOf v text r w (Ok q) = Worked v text r q w
ResultOf v text r w (Err e) = number e ≡ value_code v

-- a phrase ends further on, within the text
abbrev pub Ahead : ℕ → ℕ → Result ℕ Refusal → Type 0
Ahead at n (Ok q) = (at ≤ q) × (q ≤ n)
Ahead at n (Err e) = Unit {0}

-- where a phrase ends, some grid stands at the front
abbrev pub SomeGrid : List ℕ → Result ℕ Refusal → Type 0
SomeGrid w (Ok q) = (g : Grid) × Standing g w
SomeGrid w (Err e) = Unit {0}

-- where a phrase that cannot go on stands in the text, the answer is of its value
pub record Evaluates {T : Type 0} (In : T → ℕ → Type 0) (Stops : List ℕ → Type 0) (bytes : T → List ℕ → List ℕ)
    (worthOf : T → Value) (text : List ℕ) (at d : ℕ) (w : List ℕ) (o : Result ℕ Refusal) : Type 0 where
  pub ahead : Ahead at (length text) o
  pub some_grid : SomeGrid w o
  pub result : (t : T) (r : List ℕ) → In t d → Stops r → drop at text ≡ bytes t r → ResultOf (worthOf t) text r w o

-- the same where a grid stands at the front, and what follows is joined on to it
pub record Continues {T : Type 0} (b : ℕ) (In : T → ℕ → Type 0) (Stops : List ℕ → Type 0)
    (bytes : T → List ℕ → List ℕ) (onto : T → Value → Value) (text : List ℕ) (at d : ℕ) (w₀ w : List ℕ)
    (o : Result ℕ Refusal) : Type 0 where
  pub ahead : Ahead at (length text) o
  pub some_grid : SomeGrid w o
  pub result : (g : Grid) → Standing g w₀ → (m : More T) (r : List ℕ) → MoreWithin In m d → Stops r
      → drop at text ≡ more_before b bytes m r → ResultOf (more_onto onto m (worth g)) text r w o
