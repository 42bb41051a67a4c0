use Rattle.std.proofs.Common.{Some, ◌∙◌, refl}
use Rattle.cds_load.specs.Stages.{HasPage, after_page, Loads}
use Rattle.cds_replica.specs.Ended.{end_count, whole_rows}
use Rattle.cds_replica.specs.Holding.{listing_in}
use Rattle.cds_replica.specs.Steps.{leads_to}
use Rattle.cds_replica.specs.Phases.{phase_in}
use Rattle.cds_replica.proofs.Listings.{end-taken, end-refused}
use Rattle.cds_replica.proofs.taking.end_load.Goals as goal
use Rattle.cds_load.specs.Outcome.{Goes}
use Rattle.cds_replica.specs.State.{NoCopy}

pub returns-in-Ok-clause-outcome : goal.returns-in-Ok-clause-outcome
returns-in-Ok-clause-outcome c =
    end-taken c.args.number (listing_in c.args.listing) c.args.page c.into_vec.result.items c.args.changes.now (Goes c.in-Ok.copy) c.requires.ends c.into_vec.ensures c.in-Ok.ensures.ok

pub returns-in-Err-clause-outcome : goal.returns-in-Err-clause-outcome
returns-in-Err-clause-outcome c =
    let err = c.in-Err.ensures.err in
    let count = end_count (whole_rows (listing_in c.args.listing) c.into_vec.result.items) c.args.number c.args.changes.now in
    end-refused c.args.number (leads_to c.args.changes.now (after_page c.args.number (listing_in c.args.listing) c.args.page)) count
    (NoCopy (Loads (HasPage c.args.number (listing_in c.args.listing) (Some c.args.page)))) (phase_in c.with_page.result) c.in-Err.refusal c.answer_of.result
    (end-taken c.args.number (listing_in c.args.listing) c.args.page c.into_vec.result.items c.args.changes.now count c.requires.ends c.into_vec.ensures refl)
    err.2 (c.with_page.ensures ∙ (λ i. NoCopy (Loads (HasPage c.args.number (err.0 i) (Some ((c.from.ensures ∙ err.1 ∙ c.into_vec.ensures) i)))))) c.answer_of.ensures
