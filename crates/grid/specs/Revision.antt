-- The revision that stands beside a grid (document 02, A12): "Support wants to know whether a sheet was touched."
use Rattle.std.specs.Prelude.{ℕ, ◌+◌, ◌≡◌, refl, cond, eqb}
use Rattle.limits.specs.Limits.{max_revision}

-- "adds one to that sheet's revision, .. and after 4294967295 the revision wraps to 0"
unfoldable pub next_revision : ℕ → ℕ
next_revision v = cond (eqb v max_revision) 0 (v + 1)

-- how an accepted call leaves the matrix that it gives: "Each accepted call that writes into a sheet", or one that makes
-- it anew: "Laying starts at 0", and "Sheets made by recipes or folding start at 0"
pub data Writing : Type 0 where
  updating : Writing
  making : Writing

-- the revision after such a call, from the one before it
abbrev pub revision_after : Writing → ℕ → ℕ
revision_after updating v = next_revision v
revision_after making v = 0

-- one is added, once
updated : revision_after updating 7 ≡ 8
unfolding next_revision
updated = refl

-- the last but one has a next, and the last wraps
last : revision_after updating 4294967294 ≡ 4294967295
unfolding next_revision
last = refl

wrapped : revision_after updating 4294967295 ≡ 0
unfolding next_revision
wrapped = refl

-- what a place held before has no say in what is made there
made : revision_after making 7 ≡ 0
made = refl
