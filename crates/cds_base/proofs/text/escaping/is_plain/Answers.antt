-- A text without a byte that is replaced stays.
use Rattle.std.proofs.Common.{◌≡◌, length, sym, ap, ◌∙◌, arith}
use Rattle.std.proofs.lemmas.Bool.Decides.{nat_tests}
use Rattle.cds_base.specs.Escape.{plain_run_of}
use Rattle.cds_base.proofs.Escapes.{kept_text}
use Rattle.cds_base.proofs.text.escaping.is_plain.Goals as goal

pub returns : goal.returns
returns c e =
    let same : c.plain_run.result ≡ length c.args.text.now = grind (arith, nat_tests) in
    kept_text c.args.text.now (ap plain_run_of (sym c.as_bytes.ensures.value) ∙ sym c.plain_run.ensures ∙ same)
