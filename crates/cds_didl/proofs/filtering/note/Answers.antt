-- A name that is not new adds nothing.
use Rattle.std.proofs.Common.{not, ◌&&◌, ap, sym, ◌∙◌}
use Rattle.cds_didl.specs.Filter.{has_name, is_known}
use Rattle.cds_didl.proofs.KnownNames.{not-new}
use Rattle.cds_didl.proofs.filtering.note.Goals as goal

pub returns-else-is_new : goal.returns-else-is_new
returns-else-is_new c =
    let name = c.args.name.now in
    not-new c.args.found.now name
    (ap (λ found. is_known name && not (has_name found name)) (sym c.as_slice.ensures) ∙ sym c.is_new.ensures ∙ c.if-is_new.false)
