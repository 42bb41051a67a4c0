use Rattle.std.proofs.Common.{rules, ◌≡◌, ◌∙◌, nat_le, true, false, leb-true, leb-false}
use Rattle.cds_server.proofs.Ticked.{untold}
use Rattle.cds_server.proofs.ticking.tell.Goals as goal

pub returns-then-is_empty : goal.returns-then-is_empty
returns-then-is_empty c first commands library stands is =
    let empty : nat_le c.args.span.to c.args.span.from ≡ true = search rules in
    stands ∙ untold first commands library c.args.span is (leb-true c.args.span.to c.args.span.from empty)

pub changed-requires : goal.changed-requires
changed-requires c =
    let some : nat_le c.args.span.to c.args.span.from ≡ false = search rules in
    let follows = c.requires.follows (leb-false c.args.span.to c.args.span.from some) in
    record { spare = c.requires.spare; changes = (leb-false c.args.span.to c.args.span.from some, follows.0); goes_on = follows.1 }

pub returns : goal.returns
returns c first commands library stands is = c.changed.ensures.stands first commands library stands is
