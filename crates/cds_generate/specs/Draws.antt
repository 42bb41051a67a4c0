-- Draws of numbers: a linear congruential generator of 64 bits, of which the upper 31 bits are used (this project's profile).
use Rattle.std.specs.Prelude.{ℕ, ◌+◌, ◌*◌, ◌/◌, ◌%◌, ◌^◌}

-- the generator's number after one draw
abbrev pub next_number : ℕ → ℕ
next_number number = (number * 6364136223846793005 + 1442695040888963407) % 2 ^ 64

-- what a draw gives below n, by the number after it
abbrev pub drawn_below : ℕ → ℕ → ℕ
drawn_below n number = (number / 2 ^ 33) % n
