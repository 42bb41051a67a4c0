-- A note that was sent is recent by the place that it has.
use Rattle.std.proofs.Common.{◌≡◌, ◌-◌, Some, sym, ap, ◌∙◌}
use Rattle.std.specs.Prelude.{option_map, slice_get}
use Rattle.cds_script.specs.Report.{first_of}
use Rattle.cds_replay.specs.Sending.{name_on, named_before}
use Rattle.cds_replay.specs.Session.{Playing, is_near_to, near_in}
use Rattle.cds_replay.specs.Wired.{played_by, turns_in}
use Rattle.cds_replay.proofs.NotePlaces.{sent-recent}
use Rattle.cds_replay.proofs.session.Session.is_recent.Goals as goal

pub returns-in-Some : goal.returns-in-Some
returns-in-Some c = λ steps after.
    let named : option_map name_on (slice_get c.args.self.now.sent (c.args.number - 1)) ≡ Some c.in-Some.sid =
    ap (λ (p : Playing). option_map name_on (slice_get p.sent (c.args.number - 1))) (sym c.self.view_is) ∙ sym c.name.ensures ∙ c.in-Some.is in
    c.is_near.ensures
    ∙ (λ i. is_near_to (after.wrap i) (named_before c.in-Some.sid.0 c.args.number c.args.self.now.sent) (near_in (after.replica i).inbox c.in-Some.sid.0))
    ∙ sent-recent (played_by steps).wrap (first_of (turns_in steps)) c.args.number c.in-Some.sid (played_by steps).commands c.args.self.now.sent (played_by steps).replica
    after.sent c.requires.some named
