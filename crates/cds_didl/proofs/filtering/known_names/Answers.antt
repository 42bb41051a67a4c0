-- What was found has the known names of the text.
use Rattle.std.proofs.Common.{◌≡◌, IfOk, subst, ap, ◌∙◌}
use Rattle.cds_didl.specs.Filter.{names_of, known_in}
use Rattle.cds_didl.proofs.KnownNames.{same-known}
use Rattle.cds_didl.proofs.filtering.known_names.Goals as goal

pub returns : goal.returns
returns c =
    subst (λ names. IfOk c.in_order.result (λ kept. kept ≡ names))
    (ap known_in c.as_slice.ensures ∙ same-known c.in_ok-found.found (names_of c.args.text.now) c.in_ok-found.ensures) c.in_order.ensures
