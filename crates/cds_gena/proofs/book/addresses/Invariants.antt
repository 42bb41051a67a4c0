use Rattle.std.proofs.Common.{◌≡◌, map}
use Rattle.cds_gena.specs.Subscribed.{address_of, alive}
use Rattle.cds_gena.proofs.book.addresses.Given as goal

abbrev pub invariant-loop-number : goal.invariant-loop-number
invariant-loop-number l =
    (goal.iterator-loop-number).can_next l.number-iterator × (goal.iterator-loop-number).is_finite l.number-iterator
    × (l.all.items ≡ map (address_of l.names) (alive l.now (map (λ p. (p.0.now, p.1.now)) l.yielded)))
