use Rattle.std.proofs.Common.{sym, ◌∙◌}
use Rattle.cds_markup.specs.Outline.{DecidesOutline}
use Rattle.cds_markup.specs.Outlining.{outlines}
use Rattle.cds_markup.proofs.Outlines.{outline_read}
use Rattle.cds_markup.proofs.Readings.{err_is, told-refused}
use Rattle.cds_markup.proofs.outline.read_outline.Goals as goal

pub returns-in_err-give_parts : goal.returns-in_err-give_parts
returns-in_err-give_parts c =
    err_is (DecidesOutline c.args.width c.args.levels c.args.bytes.now) c.from_residual.result c.in_err-give_parts.field-0.0 c.from_residual.ensures.1
    (told-refused outlines c.args.bytes.now c.new-builder.result c.give_parts.new.to c.in_err-give_parts.field-0.0 c.in_err-give_parts.ensures.told)

pub unreachable-requires : goal.unreachable-requires
unreachable-requires c =
    rw (sym c.into_outline.ensures ∙ c.in-None.is) at (outline_read c.args.width c.args.levels c.args.bytes.now c.new-builder.result c.give_parts.new.to c.requires c.in_ok-give_parts.ensures.told c.new-builder.ensures)

pub returns : goal.returns
returns c =
    rw (sym c.into_outline.ensures ∙ c.in-Some.is) at (outline_read c.args.width c.args.levels c.args.bytes.now c.new-builder.result c.give_parts.new.to c.requires c.in_ok-give_parts.ensures.told c.new-builder.ensures)
