use Rattle.std.proofs.Common.{sym}
use Rattle.cds_markup.proofs.Readings.{listed_told, on_ok}
use Rattle.cds_markup.proofs.read.read_parts.Goals as goal

pub returns : goal.returns
returns c = record {
  told = listed_told c.args.bytes.now c.give_parts-answer.result c.give_parts-answer.new.to c.args.out.now c.append.new.out c.new-found.result c.new-found.ensures c.give_parts-answer.ensures.told (sym c.if-ran_out.ensures)
      (on_ok c.append.result c.if-is_err.ensures.value c.append.ensures.ok);
}
