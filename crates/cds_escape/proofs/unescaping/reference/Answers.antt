-- What stands before the first `;` decides.
use Rattle.std.proofs.Common.{sym, ◌∙◌}
use Rattle.cds_escape.proofs.Semicolons.{no_end, no_name, read_reference}
use Rattle.cds_escape.proofs.unescaping.reference.Goals as goal

pub returns-in_err-name : goal.returns-in_err-name
returns-in_err-name c = rw c.from_residual.ensures (no_end c.args.text.now c.split_once.result c.split_once.ensures.cases c.in_err-name.was)

pub returns-in_err-says : goal.returns-in_err-says
returns-in_err-says c =
    rw c.from_residual-in_err-says.ensures (no_name c.args.text.now c.split_once.result c.in_ok-name.name c.in_ok-name.after c.split_once.ensures.cases c.in_ok-name.was (sym c.named.ensures ∙ c.in_err-says.was))

pub returns : goal.returns
returns c =
    read_reference c.args.text.now c.split_once.result c.in_ok-name.name c.in_ok-name.after c.in_ok-says.says c.split_once.ensures.cases c.in_ok-name.was (sym c.named.ensures ∙ c.in_ok-says.was)
