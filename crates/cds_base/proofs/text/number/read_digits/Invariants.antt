-- The bytes so far are digits, and this is their value.
use Rattle.std.proofs.Common.{◌≡◌, ◌<◌, ◌^◌, true, take}
use Rattle.std.specs.List.{list_all}
use Rattle.std.specs.Char.{is_digit}
use Rattle.cds_base.specs.Number.{value_in}
use Rattle.cds_base.proofs.text.number.read_digits.Given as goal

abbrev pub invariant-loop-byte : goal.invariant-loop-byte
invariant-loop-byte l =
    (l.value ≡ value_in l.base (take l.byte-index l.digits))
    × (list_all (λ byte. is_digit byte l.base) (take l.byte-index l.digits) ≡ true)
    × (l.value < 2 ^ 64)
