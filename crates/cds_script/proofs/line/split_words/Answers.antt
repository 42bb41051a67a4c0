use Rattle.std.proofs.Common.{nat_eq, rules}
use Rattle.std.proofs.lemmas.Iterator.Splits.{YieldsList-from_slice_split}
use Rattle.std.proofs.lemmas.Iterator.Consumers.{map_from_collect}
use Rattle.cds_script.proofs.line.split_words.Goals as goal

pub returns : goal.returns
returns c =
    let all = map_from_collect c.collect.result c.collect.ensures.ran
    (YieldsList-from_slice_split _ (λ b. nat_eq b 32) c.args.line.now c.split.ensures.rest c.split.ensures.done c.split.ensures.closure
    (λ x b q h. search rules)) in
    rw c.in_ok-words.was at all
