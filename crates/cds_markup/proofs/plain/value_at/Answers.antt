use Rattle.cds_markup.proofs.Quiet.{value_is}
use Rattle.cds_markup.proofs.plain.value_at.Goals as goal

pub returns-in-Some-behind : goal.returns-in-Some-behind
returns-in-Some-behind c =
    value_is c.letters_run.result c.args.bytes.now c.in-Some.text.now c.split_at.result.0.now c.split_at.result.1.now c.in-Some-behind.rest.now c.in-Some.ensures c.letters_run.ensures c.split_at.ensures.front c.split_at.ensures.back
    c.in-Some-behind.ensures
