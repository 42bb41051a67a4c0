use Rattle.std.proofs.Common.{sym, ◌∙◌}
use Rattle.cds_markup.specs.Placed.{places, DecidesPlaced}
use Rattle.cds_markup.proofs.Readings.{err_is, told-refused, placed_read}
use Rattle.cds_markup.proofs.read.read_placed.Goals as goal

pub returns-in_err-give_parts : goal.returns-in_err-give_parts
returns-in_err-give_parts c =
    err_is (DecidesPlaced c.args.bytes.now) c.from_residual.result c.in_err-give_parts.field-0.0 c.from_residual.ensures.1
    (told-refused places c.args.bytes.now c.new-builder.result c.give_parts.new.to c.in_err-give_parts.field-0.0 c.in_err-give_parts.ensures.told)

pub unreachable-requires : goal.unreachable-requires
unreachable-requires c = rw (sym c.into_placed.ensures ∙ c.in-None.is) at (placed_read c.args.bytes.now c.new-builder.result c.give_parts.new.to c.in_ok-give_parts.ensures.told c.new-builder.ensures)

pub returns : goal.returns
returns c = rw (sym c.into_placed.ensures ∙ c.in-Some.is) at (placed_read c.args.bytes.now c.new-builder.result c.give_parts.new.to c.in_ok-give_parts.ensures.told c.new-builder.ensures)
