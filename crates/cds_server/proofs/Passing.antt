-- A control request whose checks all pass is answered with status 200.
use Rattle.std.proofs.Common.{sym, subst}
use Rattle.cds_control.specs.Laws.{passed_checks_get_200 as passed_control, what_is_asked_is_answered as control_answered}
use Rattle.cds_server.specs.Route.{Route}
use Rattle.cds_server.specs.Published.{published_by}
use Rattle.cds_server.specs.Replies.{IsReplyOf}
use Rattle.cds_server.specs.Laws.{passed_checks_get_200, what_is_asked_is_answered}

pub answers-it : control_answered → what_is_asked_is_answered
answers-it control start commands now m host asked text way reading =
    let both = control (published_by start commands) host m asked text reading in (
      λ is. both.0 (subst (λ (r : Route). IsReplyOf start commands now m r text) way is),
      λ e. subst (λ (r : Route). IsReplyOf start commands now m r text) (sym way) (both.1 e),
    )

pub passed : passed_control → passed_checks_get_200
passed control start commands now m host asked version text way asks passes is =
    control (published_by start commands) host m asked version text asks passes (subst (λ (r : Route). IsReplyOf start commands now m r text) way is)
