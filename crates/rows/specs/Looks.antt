-- How many column numbers a search for a column looks at (document 02, A2: "halve the range instead"). The code counts its
-- looks, and its contracts say that the count is this one.
use Rattle.std.specs.Prelude.{ℕ, zero, suc, ◌+◌, ◌-◌, ◌/◌, ◌≡◌, refl, List, [], ◌∷◌, cond, length, ltb}
use Rattle.words.specs.Words.{at}
use Rattle.rows.specs.Row.{position}

-- the middle of the columns from `low` up to, and not including, `high`
abbrev pub middle : ℕ → ℕ → ℕ
middle low high = low + (high - low) / 2

-- the looks that find the position of column j in that range: one in its middle, then those in the half where j belongs.
-- `turns` is only there to be counted down; as many as there are columns are enough
unfoldable pub halving_looks : ℕ → ℕ → List ℕ → ℕ → ℕ → ℕ
halving_looks zero j cols low high = 0
halving_looks (suc turns) j cols low high =
    cond (ltb low high)
    (1 + cond (ltb (at cols (middle low high)) j) (halving_looks turns j cols (middle low high + 1) high)
    (halving_looks turns j cols low (middle low high)))
    0

-- in all columns
abbrev pub position_looks : ℕ → List ℕ → ℕ
position_looks j cols = halving_looks (length cols) j cols 0 (length cols)

-- the look at position p of n columns, if there is a column
abbrev pub look_there : ℕ → ℕ → ℕ
look_there p n = cond (ltb p n) 1 0

-- the looks that find out whether column j is present: those for its position, and the one there
unfoldable pub looks_for : ℕ → List ℕ → ℕ
looks_for j cols = position_looks j cols + look_there (position j cols) (length cols)

-- "no more than eleven column numbers"
abbrev pub most_looks : ℕ
most_looks = 11

no_column : looks_for 0 [] ≡ 0
unfolding looks_for halving_looks position
no_column = refl

-- of one column, and behind it
one_column : looks_for 5 (5 ∷ []) ≡ 2
unfolding looks_for halving_looks position
one_column = refl

behind_one : looks_for 6 (5 ∷ []) ≡ 1
unfolding looks_for halving_looks position
behind_one = refl

-- of seven, the first takes three halvings and a look; one after the other the last would take seven
first_of_seven : looks_for 1 (1 ∷ 2 ∷ 3 ∷ 4 ∷ 5 ∷ 6 ∷ 7 ∷ []) ≡ 4
unfolding looks_for halving_looks position
first_of_seven = refl

last_of_seven : looks_for 7 (1 ∷ 2 ∷ 3 ∷ 4 ∷ 5 ∷ 6 ∷ 7 ∷ []) ≡ 4
unfolding looks_for halving_looks position
last_of_seven = refl
