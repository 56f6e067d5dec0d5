-- What a caller takes out of an answer: the code is the remainder by 256, the entries, the value or the number are the
-- upper word; of a read bit 8 says whether the cell is present, and the upper half of the lower word is the position; of a
-- place the lowest bit says which matrix, the three bytes above the lowest how many words, and the upper word from where on.
use Rattle.std.specs.Prelude.{ℕ, ◌%◌, ◌/◌, ◌≡◌, cond}
use Rattle.answers.specs.Answers.{Answer}
use Rattle.answers.specs.Answers.{CellAnswer}
use Rattle.answers.specs.Answers.{NumberAnswer}
use Rattle.row_view.specs.declared.Place.{Place}
use Rattle.exports.specs.Packing.{code_limit, upper_word, position_unit, count_limit, second_bit}

-- r is taken apart into the answer a
pub record Unpacked (r : ℕ) (a : Answer) : Type 0 where
  pub code : r % code_limit ≡ a.code
  pub entries : r / upper_word ≡ a.entries

pub record UnpackedCell (r : ℕ) (a : CellAnswer) : Type 0 where
  pub code : r % code_limit ≡ a.code
  pub present : r / code_limit % 2 ≡ cond a.present 1 0
  pub position : r / position_unit % position_unit ≡ a.position
  pub value : r / upper_word ≡ a.value

pub record UnpackedNumber (r : ℕ) (a : NumberAnswer) : Type 0 where
  pub code : r % code_limit ≡ a.code
  pub value : r / upper_word ≡ a.value

pub record UnpackedPlace (r : ℕ) (p : Place) : Type 0 where
  pub in_second : r % 2 ≡ second_bit p.in_second
  pub count : r / code_limit % count_limit ≡ p.count
  pub from : r / upper_word ≡ p.from
