-- Computed examples of the refusals' order. Each call has one thing more right than the one before, and
-- what comes behind it is wrong: it gets the next number.
use Rattle.std.specs.Prelude.{ℕ, ◌≡◌, refl, List, []}
use Rattle.conditions.specs.Tests.{◌and◌, all}
use Rattle.grid.specs.Grid.{empty_grid}
use Rattle.grid.specs.Entries.{one, gather, flatten}
use Rattle.rows.specs.Row.{lookup}
use Rattle.matrix.specs.Layout.{cell_of}
use Rattle.matrix.specs.Valid.{in_range, valid, header_valid, starts_valid, rows_valid}
use Rattle.encoding.specs.Encode.{encode_revised, encode, tabulate}
use Rattle.key_rounds.specs.Rounds.{filled, ◌or◌, some, reached, keys_after, doors_after, first_before}
use Rattle.key_requests.specs.Refusal.{shapes_fit, doors_refusal}

-- one key and one door; and two rows, where a vector has one
sound : List ℕ
sound = encode (empty_grid 1 1)

tall : List ℕ
tall = encode (empty_grid 2 1)

-- "3 to 5 (the strip is third)"
order_locks : doors_refusal 1001 [] [] [] 0 0 ≡ 3
unfolding doors_refusal valid header_valid starts_valid rows_valid in_range shapes_fit ◌and◌ all
    encode_revised tabulate flatten gather one sound tall
order_locks = refl

-- the second
order_cabinets : doors_refusal 1001 sound [] [] 0 0 ≡ 4
unfolding doors_refusal valid header_valid starts_valid rows_valid in_range shapes_fit ◌and◌ all
    encode_revised tabulate flatten gather one sound tall
order_cabinets = refl

-- a damaged vector comes before the allowance
order_hand : doors_refusal 1001 sound sound [] 0 0 ≡ 5
unfolding doors_refusal valid header_valid starts_valid rows_valid in_range shapes_fit ◌and◌ all
    encode_revised tabulate flatten gather one sound tall
order_hand = refl

-- "an allowance above 1,000 is 7", before the shapes
order_allowance : doors_refusal 1001 sound sound tall 0 0 ≡ 7
unfolding doors_refusal valid header_valid starts_valid rows_valid in_range shapes_fit ◌and◌ all
    encode_revised tabulate flatten gather one sound tall
order_allowance = refl

-- 1,000 is allowed; a vector has one row
order_shapes : doors_refusal 1000 sound sound tall 0 0 ≡ 8
unfolding doors_refusal valid header_valid starts_valid rows_valid in_range shapes_fit ◌and◌ all
    encode_revised tabulate flatten gather one sound tall
order_shapes = refl

-- doors by keys, and not keys by doors again
order_turned : doors_refusal 1000 tall tall sound 0 0 ≡ 8
unfolding doors_refusal valid header_valid starts_valid rows_valid in_range shapes_fit ◌and◌ all
    encode_revised tabulate flatten gather one sound tall
order_turned = refl

-- one word too few
order_workspace : doors_refusal 1000 sound sound sound 15314 0 ≡ 9
unfolding doors_refusal valid header_valid starts_valid rows_valid in_range shapes_fit ◌and◌ all
    encode_revised tabulate flatten gather one sound tall
order_workspace = refl

-- an empty vector takes 10 words
order_room : doors_refusal 0 sound sound sound 15315 9 ≡ 11
unfolding doors_refusal valid header_valid starts_valid rows_valid in_range shapes_fit ◌and◌ all
    encode_revised tabulate flatten gather one sound tall
    first_before doors_after keys_after reached some filled ◌or◌ cell_of lookup
order_room = refl

-- and then none applies
order_none : doors_refusal 0 sound sound sound 15315 10 ≡ 0
unfolding doors_refusal valid header_valid starts_valid rows_valid in_range shapes_fit ◌and◌ all
    encode_revised tabulate flatten gather one sound tall
    first_before doors_after keys_after reached some filled ◌or◌ cell_of lookup
order_none = refl
