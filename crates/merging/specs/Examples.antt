-- Three phones, computed in all six orders: a tie, negative time stamps and the smallest value.
use Rattle.std.specs.Prelude.{ℕ, ◌≡◌, refl, List, [], ◌∷◌, map}
use Rattle.twos_complement.specs.TwosComplement.{signed, word}
use Rattle.grid.specs.Entries.{one, gather, flatten}
use Rattle.rows.specs.Row.{lookup}
use Rattle.operators.specs.declared.BinaryOp.TheVariants.{Plus}
use Rattle.operators.specs.Operators.{binary_word}
use Rattle.matrix.specs.Layout.{cell_of, grid_of}
use Rattle.encoding.specs.Encode.{tabulate, encode_revised, encode}
use Rattle.merging.specs.Merging.{join_all}

-- C: 1 by 3, without entries, with six spare words
abbrev pub board : List ℕ
board = 1 ∷ 0 ∷ 2 ∷ 1 ∷ 3 ∷ 2 ∷ 0 ∷ 0 ∷ 0 ∷ 0 ∷ 0 ∷ 0 ∷ 0 ∷ 0 ∷ 0 ∷ 0 ∷ []

-- -5 at column 0, and 7 at column 2
abbrev pub first : List ℕ
first = 1 ∷ 0 ∷ 2 ∷ 1 ∷ 3 ∷ 2 ∷ 0 ∷ 2 ∷ 2 ∷ 0 ∷ 2 ∷ 2 ∷ 4294967291 ∷ 7 ∷ []

-- 10 at column 0, and the smallest value, -2147483648, at column 1
abbrev pub second : List ℕ
second = 1 ∷ 0 ∷ 2 ∷ 1 ∷ 3 ∷ 2 ∷ 0 ∷ 2 ∷ 2 ∷ 0 ∷ 1 ∷ 2 ∷ 10 ∷ 2147483648 ∷ []

-- 10 at column 0 again, and -1 at column 2
abbrev pub third : List ℕ
third = 1 ∷ 0 ∷ 2 ∷ 1 ∷ 3 ∷ 2 ∷ 0 ∷ 2 ∷ 2 ∷ 0 ∷ 2 ∷ 2 ∷ 10 ∷ 4294967295 ∷ []

-- 10, -2147483648, 7
abbrev pub joined_words : List ℕ
joined_words = 1 ∷ 0 ∷ 2 ∷ 1 ∷ 3 ∷ 2 ∷ 0 ∷ 3 ∷ 3 ∷ 0 ∷ 1 ∷ 2 ∷ 3 ∷ 10 ∷ 2147483648 ∷ 7 ∷ []

abbrev merged : List (List ℕ) → List ℕ
merged xs = encode (join_all (grid_of board) (map grid_of xs))

in_order : merged (first ∷ second ∷ third ∷ []) ≡ joined_words
unfolding encode_revised tabulate flatten gather one cell_of lookup binary_word signed word
in_order = refl

second_late : merged (first ∷ third ∷ second ∷ []) ≡ joined_words
unfolding encode_revised tabulate flatten gather one cell_of lookup binary_word signed word
second_late = refl

second_early : merged (second ∷ first ∷ third ∷ []) ≡ joined_words
unfolding encode_revised tabulate flatten gather one cell_of lookup binary_word signed word
second_early = refl

first_late : merged (second ∷ third ∷ first ∷ []) ≡ joined_words
unfolding encode_revised tabulate flatten gather one cell_of lookup binary_word signed word
first_late = refl

third_early : merged (third ∷ first ∷ second ∷ []) ≡ joined_words
unfolding encode_revised tabulate flatten gather one cell_of lookup binary_word signed word
third_early = refl

backwards : merged (third ∷ second ∷ first ∷ []) ≡ joined_words
unfolding encode_revised tabulate flatten gather one cell_of lookup binary_word signed word
backwards = refl

-- one of them again
first_again : merged (first ∷ second ∷ third ∷ first ∷ []) ≡ joined_words
unfolding encode_revised tabulate flatten gather one cell_of lookup binary_word signed word
first_again = refl

-- under PLUS a report merged again would count again
plus_counts : binary_word Plus (binary_word Plus 1 1) 1 ≡ 3
unfolding binary_word signed word
plus_counts = refl
