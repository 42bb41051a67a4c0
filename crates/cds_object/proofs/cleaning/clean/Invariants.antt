-- What is kept so far, and what fits of the characters that are left, is the cleaned text.
use Rattle.std.proofs.Common.{◌≡◌, ◌-◌, ◌≤◌, ◌++◌, length, drop, map, string_bytes}
use Rattle.std.specs.Str.{chars, encode_utf8_all}
use Rattle.cds_object.specs.Clean.{clean_character, fitting, cleaned}
use Rattle.cds_object.proofs.cleaning.clean.Given as goal

abbrev pub invariant-loop-c : goal.invariant-loop-c
invariant-loop-c l =
    (length (string_bytes l.kept) ≤ 255)
    × (string_bytes l.kept ++ encode_utf8_all (fitting (255 - length (string_bytes l.kept)) (map clean_character (drop (length l.yielded) (chars l.text)))) ≡ cleaned l.text)
