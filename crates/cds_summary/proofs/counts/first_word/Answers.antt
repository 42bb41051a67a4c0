-- The search for the first space, as the word before it.
use Rattle.std.proofs.Common.{arith, ◌∙◌}
use Rattle.cds_summary.proofs.Cuts.{first-none, first-at}
use Rattle.cds_summary.proofs.counts.first_word.Goals as goal

pub returns-in-None : goal.returns-in-None
returns-in-None c = first-none c.args.line.now (λ k low. c.in-None.ensures k (omega arith) low)

pub returns-in-Some : goal.returns-in-Some
returns-in-Some c =
    let found = c.in-Some.ensures in
    c.split_at.ensures.front ∙ first-at c.args.line.now c.in-Some.at found.0.high (λ k low. found.0.before k (omega arith) low) found.1
