use Rattle.std.proofs.Common.{sym, ◌∙◌}
use Rattle.cds_markup.proofs.Quiet.{name_is}
use Rattle.cds_markup.proofs.plain.part_at.Goals as goal

pub returns-then-begins_plain_name : goal.returns-then-begins_plain_name
returns-then-begins_plain_name c =
    name_is c.in-Some.first.now c.run.result c.in-Some._rest.now c.args.bytes.now c.split_at.result.0.now c.split_at.result.1.now (sym c.begins_plain_name.ensures ∙ c.if-begins_plain_name.true) c.in-Some.ensures.cases.0
    c.run.ensures c.split_at.ensures.front c.split_at.ensures.back
