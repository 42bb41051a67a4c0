use Rattle.std.proofs.Common.{ap, sym, subst, ◌∙◌}
use Rattle.cds_markup.proofs.Terms.{telling_of, telling_in, StandsFor}
use Rattle.cds_markup.proofs.Readings.{finish_ends}
use Rattle.cds_markup.proofs.part_reader.PartReader.finish.Goals as goal

pub returns-clause-ends : goal.returns-clause-ends
returns-clause-ends c = λ came given stands.
    finish_ends (telling_of c.in-Some.spot) c.end.result (rw c.in-Some.is at c.end.ensures) came given (subst (λ x. StandsFor x came given) (sym (ap telling_in (sym c.in-Some.is) ∙ c.self.view_is)) stands)
