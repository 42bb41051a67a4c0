use Rattle.std.proofs.Common.{◌≡◌, ◌<◌, ◌∙◌, ℕ, List, [], ◌∷◌, length, refl, arith}
use Rattle.std.specs.List.{list_all}
use Rattle.std.specs.Char.{is_digit}
use Rattle.cds_base.specs.Number.{is_number_in}
use Rattle.cds_media.proofs.range.is_number.Goals as goal

some_digits : (bytes : List ℕ) → 0 < length bytes → list_all (λ byte. is_digit byte 10) bytes ≡ is_number_in 10 bytes
some_digits [] some = absurd (omega arith)
some_digits (first ∷ rest) some = refl

pub returns-then-bytes-gt0 : goal.returns-then-bytes-gt0
returns-then-bytes-gt0 c = c.all_digits.ensures ∙ some_digits c.args.bytes.now (omega arith)
