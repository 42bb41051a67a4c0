-- A range outside the file is refused. What is planned otherwise is sent.
use Rattle.std.proofs.Common.{sym, ◌∙◌}
use Rattle.cds_media.specs.declared.slice.Plan.TheVariants as plans
use Rattle.cds_serve.specs.Fetched.{Beyond}
use Rattle.cds_serve.proofs.Fetches.{planned, refused, slice-fetched}
use Rattle.cds_serve.proofs.fetching.fetch_planned.Goals as goal

pub returns-in-None-clause-fetched : goal.returns-in-None-clause-fetched
returns-in-None-clause-fetched g c =
    refused c.args.message.now _ (Beyond c.args.media.now.size) c.beyond_text.result _ _ _ _
    (planned c.args.media.now c.args.message.now plans.None c.requires.takes (sym c.in-None.is ∙ c.plan.ensures.plan)) c.beyond_text.ensures
    c.answer_with.ensures.answered c.answer_with.ensures.starved

pub returns-in-Whole-clause-fetched : goal.returns-in-Whole-clause-fetched
returns-in-Whole-clause-fetched g c =
    slice-fetched c.args.media.now _ plans.Whole _ _ c.args.message.now _ _ _ _ _ c.slice_of-slice.ensures.media c.slice_of-slice.ensures.plan
    c.slice_of-slice.ensures.has_body (planned c.args.media.now c.args.message.now plans.Whole c.requires.takes (sym c.in-Whole.is ∙ c.plan.ensures.plan))
    c.send_slice.ensures.fetched

pub returns-in-Part-clause-fetched : goal.returns-in-Part-clause-fetched
returns-in-Part-clause-fetched g c =
    slice-fetched c.args.media.now _ (plans.Part c.in-Part.from c.in-Part.to) _ _ c.args.message.now _ _ _ _ _ c.slice_of-slice-in-Part.ensures.media
    c.slice_of-slice-in-Part.ensures.plan c.slice_of-slice-in-Part.ensures.has_body
    (planned c.args.media.now c.args.message.now _ c.requires.takes (sym c.in-Part.is ∙ c.plan.ensures.plan)) c.send_slice-in-Part.ensures.fetched
