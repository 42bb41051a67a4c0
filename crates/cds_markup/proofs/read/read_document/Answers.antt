use Rattle.std.proofs.Common.{sym, ◌∙◌}
use Rattle.cds_markup.specs.Building.{builds}
use Rattle.cds_markup.specs.Decided.{Decides}
use Rattle.cds_markup.proofs.Readings.{err_is, told-refused, document_read}
use Rattle.cds_markup.proofs.read.read_document.Goals as goal

pub returns-in_err-give_parts : goal.returns-in_err-give_parts
returns-in_err-give_parts c =
    err_is (Decides c.args.bytes.now) c.from_residual.result c.in_err-give_parts.field-0.0 c.from_residual.ensures.1
    (told-refused builds c.args.bytes.now c.new-builder.result c.give_parts.new.to c.in_err-give_parts.field-0.0 c.in_err-give_parts.ensures.told)

pub unreachable-requires : goal.unreachable-requires
unreachable-requires c = rw (sym c.into_element.ensures ∙ c.in-None.is) at (document_read c.args.bytes.now c.new-builder.result c.give_parts.new.to c.in_ok-give_parts.ensures.told c.new-builder.ensures)

pub returns : goal.returns
returns c = rw (sym c.into_element.ensures ∙ c.in-Some.is) at (document_read c.args.bytes.now c.new-builder.result c.give_parts.new.to c.in_ok-give_parts.ensures.told c.new-builder.ensures)
