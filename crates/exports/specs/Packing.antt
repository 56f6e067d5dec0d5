-- An answer in one number of 64 bits: the code in the lower word, the entries or the value in the upper; of a read the
-- position too is in the lower.
use Rattle.std.specs.Prelude.{ℕ, ◌+◌, ◌*◌, ◌^◌, ◌<◌, ◌≡◌, refl, Bool, true, false, cond}
use Rattle.answers.specs.Answers.{Answer}
use Rattle.answers.specs.Refusals.{accepted, refused}
pub use Rattle.answers.specs.Refusals.{code_limit}
use Rattle.grid.specs.declared.EntryAt.TheVariants as entry
use Rattle.answers.specs.Answers.{CellAnswer}
use Rattle.answers.specs.Reads.{found_answer, refused_read}
use Rattle.answers.specs.Answers.{NumberAnswer}
use Rattle.answers.specs.Numbers.{number_answer, refused_number}
use Rattle.row_view.specs.declared.Place.{Place}
use Rattle.row_view.specs.View.{first, second, place_of}

abbrev pub upper_word : ℕ
upper_word = 4294967296

-- an answer of a call that writes or checks
abbrev pub packed : Answer → ℕ
packed a = a.code + a.entries * upper_word

-- a cell that is present: the first bit past the codes
abbrev pub present_bit : Bool → ℕ
present_bit present = cond present code_limit 0

-- a position: the upper half of the lower word
abbrev pub position_unit : ℕ
position_unit = 65536

two_halves : position_unit * position_unit ≡ upper_word
two_halves = refl

-- an answer of a read
abbrev pub packed_cell : CellAnswer → ℕ
packed_cell a = a.code + present_bit a.present + a.position * position_unit + a.value * upper_word

-- an answer that fits: the code in a byte, the position in two
pub record SmallRead (a : CellAnswer) : Type 0 where
  pub code : a.code < code_limit
  pub position : a.position < position_unit

-- an answer of a reduction to a number
abbrev pub packed_number : NumberAnswer → ℕ
packed_number a = a.code + a.value * upper_word

-- the place of a part: whether it lies in the second matrix, how many words it has, from which word on
abbrev pub second_bit : Bool → ℕ
second_bit inSecond = cond inSecond 1 0

abbrev pub packed_place : Place → ℕ
packed_place p = second_bit p.in_second + p.count * code_limit + p.from * upper_word

-- what three bytes hold: the lower word without its lowest byte
abbrev pub count_limit : ℕ
count_limit = 16777216

three_bytes : count_limit * code_limit ≡ upper_word
three_bytes = refl

-- a place that fits: the count in three bytes, the beginning in a word
pub record SmallPlace (p : Place) : Type 0 where
  pub count : p.count * code_limit < upper_word
  pub from : p.from < upper_word

two_words : upper_word ≡ 2 ^ 32
two_words = refl

accepted_three : packed (accepted 3) ≡ 12884901888
accepted_three = refl

refused_twelve : packed (refused 12) ≡ 12
refused_twelve = refl

-- the first entry: as it was packed before a read had a position
present_five : packed_cell (found_answer (entry.Present 5 0)) ≡ 21474836736
present_five = refl

present_zero : packed_cell (found_answer (entry.Present 0 0)) ≡ 256
present_zero = refl

absent_cell : packed_cell (found_answer (entry.Absent 0)) ≡ 0
absent_cell = refl

-- the fourth entry, and an entry that would be put at the end of a full matrix
present_fourth : packed_cell (found_answer (entry.Present 5 3)) ≡ 21475033344
present_fourth = refl

absent_end : packed_cell (found_answer (entry.Absent 2048)) ≡ 134217728
absent_end = refl

refused_seven : packed_cell (refused_read 7) ≡ 7
refused_seven = refl

-- the number -5, and a refusal
number_minus_five : packed_number (number_answer 4294967291) ≡ 18446744052234715136
number_minus_five = refl

number_refused : packed_number (refused_number 2) ≡ 2
number_refused = refl

-- three words of the second matrix, from word 20 on
second_part : packed_place (place_of (second 20 23)) ≡ 85899346689
second_part = refl

no_part : packed_place (place_of (first 0 0)) ≡ 0
no_part = refl
