-- A line, and a line in a buffer.
use Rattle.std.specs.Prelude.{◌≡◌, ℕ, ◌<◌, ◌≤◌, List, ◌++◌, length, drop, Ok, Err, Result}

-- the most bytes that a line has room for
abbrev pub most : ℕ
most = 1290

-- a line goes into a buffer: where it fits, it stands in front and the bytes behind it stay; else it is refused and every byte stays
pub record Writes {E : Type 0} (refusal : E) (line before : List ℕ) (r : Result ℕ E) (after : List ℕ) : Type 0 where
  pub fits : length line ≤ length before → (r ≡ Ok (length line)) × (after ≡ line ++ drop (length line) before)
  pub short : length before < length line → (r ≡ Err refusal) × (after ≡ before)
