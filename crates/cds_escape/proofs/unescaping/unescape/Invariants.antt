-- The text is what was read, as pieces that say the characters so far, and what is left.
use Rattle.std.proofs.Common.{◌≡◌, ◌++◌, List, ℕ, length, string_bytes}
use denote.Text.{Utf8}
use denote.Shadow.{shadow}
use Rattle.cds_escape.specs.Unescape.{Says}
use Rattle.cds_escape.proofs.unescaping.unescape.Given as goal

abbrev pub invariant-loop-rest : goal.invariant-loop-rest
invariant-loop-rest l = shadow (Utf8 l.rest) × ((front : List ℕ) × (l.text ≡ front ++ l.rest) × Says front (string_bytes l.read))

abbrev pub decreases-loop-rest : goal.decreases-loop-rest
decreases-loop-rest l = length l.rest
