-- The Identifier of a new request (document 01, "Messages", as document 02, M-101, has it): one more than the counter, as its octet wraps, and over 0 to
-- 1. So the first is 1, since the counter starts at 0, and 1 follows 255.
use Rattle.std.specs.Prelude.{ℕ, ◌+◌, ◌%◌, cond, ◌==◌}

-- The octet's one more: 0 after 255
abbrev pub wrapped : ℕ → ℕ
wrapped counter = (counter + 1) % 256

abbrev pub next_identifier_of : ℕ → ℕ
next_identifier_of counter = cond (wrapped counter == 0) 1 (wrapped counter)
