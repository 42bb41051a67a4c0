-- A fault names a child that is there.
use Rattle.std.proofs.Common.{◌<◌, subst, sym}
use Rattle.cds_didl.specs.declared.error.Fault.{Fault}
use Rattle.cds_didl.specs.declared.error.Fault.TheVariants.{NotRow, BadRow}
use Rattle.cds_didl.specs.Didl.{rows_said, IsFaultOf}
use Rattle.cds_didl.proofs.OneByOne.{said-inside}
use Rattle.cds_didl.proofs.read.refusal_of.Goals as goal

pub child_place-requires : goal.child_place-requires
child_place-requires c =
    subst (λ n. c.in-NotRow.number < n) (sym c.requires.places.many)
    (said-inside c.args.placed.now.element (NotRow c.in-NotRow.number) (subst (λ (f : Fault). IsFaultOf (rows_said c.args.placed.now.element) f) c.in-NotRow.is c.requires.faulty))

pub child_place-requires-in-BadRow : goal.child_place-requires-in-BadRow
child_place-requires-in-BadRow c =
    subst (λ n. c.in-BadRow.number < n) (sym c.requires.places.many)
    (said-inside c.args.placed.now.element (BadRow c.in-BadRow.number) (subst (λ (f : Fault). IsFaultOf (rows_said c.args.placed.now.element) f) c.in-BadRow.is c.requires.faulty))

pub returns-in-NotRow : goal.returns-in-NotRow
returns-in-NotRow c = rw c.in-NotRow.is (c.requires.places.each c.in-NotRow.number c.child_place.result c.child_place.ensures)

pub returns-in-BadRow : goal.returns-in-BadRow
returns-in-BadRow c = rw c.in-BadRow.is (c.requires.places.each c.in-BadRow.number c.child_place-in-BadRow.result c.child_place-in-BadRow.ensures)
