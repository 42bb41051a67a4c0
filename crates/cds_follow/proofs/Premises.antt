-- The premises of the laws on honest servers hold of a replica that is given notes out of order.
use Rattle.std.proofs.Common.{◌≡◌, ◌+◌, ℕ, ◌∷◌, refl, arith}
use Rattle.cds_catalog.specs.Laws.{IsLibrary}
use Rattle.cds_follow.specs.Given.{Asks, Gets, IsGiven, grants_of}
use Rattle.cds_follow.specs.Named.{TellApart}
use Rattle.cds_commands.specs.Commands.{AreAccepted}
use Rattle.cds_commands.specs.Names.{names_of, name_of}
use Rattle.cds_commands.specs.Examples.{one, two, added, added_other}
use Rattle.cds_follow.specs.Examples.{prepared, tracks_come, a_token, a_start}

one-is : IsLibrary one
one-is = record { ascending = tt; rootless = (refl, tt); held = (refl, tt) }

two-is : IsLibrary two
two-is = record { ascending = (refl, tt); rootless = (refl, (refl, tt)); held = (refl, (refl, tt)) }

pub accepted : AreAccepted 0 tracks_come
accepted = record {
  libraries = (two-is, (one-is, tt));
  few = (omega arith, (omega arith, tt));
  numbers = omega arith;
}

pub given : IsGiven a_token 0 tracks_come (Asks 5 ∷ Asks 5 ∷ Gets 5 added ∷ Gets 5 added_other ∷ prepared)
given =
    (omega arith, tt, (omega arith, tt, (omega arith, (1, omega arith, refl), (omega arith, (2, omega arith, refl), (omega arith, (0, omega arith, refl), (omega arith, (refl, omega arith, omega arith), (omega arith, tt, (omega arith, tt, (omega arith, tt, (omega arith, tt, (omega arith, tt, (omega arith, tt, (omega arith, tt, (omega arith, tt, tt))))))))))))))

plus-apart : (k m n : ℕ) → k + m ≡ k + n → m ≡ n
plus-apart k m n e = omega (arith, e)

pub apart : TellApart (name_of a_start) (grants_of tracks_come)
apart m n has also e = plus-apart (names_of a_start) m n e
