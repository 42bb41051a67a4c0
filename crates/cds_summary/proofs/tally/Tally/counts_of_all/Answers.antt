use Rattle.std.proofs.Common.{◌≡◌, ◌==◌, length, sym, ap, ◌∙◌}
use Rattle.std.specs.Vec.{vec_len}
use Rattle.std.proofs.lemmas.Bool.{false≢true}
use Rattle.cds_summary.specs.Tally.{and_line}
use Rattle.cds_summary.proofs.Counting.{tally-last}
use Rattle.cds_summary.proofs.tally.Tally.counts_of_all.Goals as goal

pub returns-else-is_empty : goal.returns-else-is_empty
returns-else-is_empty c = λ report is.
    c.and_line.ensures
    ∙ ap (λ bytes. and_line bytes c.args.self.now.counts) c.as_slice.ensures.value
    ∙ tally-last c.args.self.now report is
    (λ none.
    let size : vec_len c.args.self.now.partial ≡ 0 = sym c.as_slice.ensures.len ∙ ap length (c.as_slice.ensures.value ∙ none) in
    false≢true (sym c.if-is_empty.false ∙ c.is_empty.ensures ∙ ap (λ n. n == 0) size))
