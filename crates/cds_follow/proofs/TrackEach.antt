-- Each container of a copy counts each change under it once, over every list of turns that shows rows.
use Rattle.std.proofs.Common.{sym, ◌∙◌}
use Rattle.cds_follow.specs.Follow.{known_by}
use Rattle.cds_follow.specs.LoadTurns.{load_turns}
use Rattle.cds_follow.specs.TrackerLaws.{trackers_count_each_change_once}
use Rattle.cds_follow.proofs.LoadTurns.{loads-are-of-turns, loads-show-rows}
use Rattle.cds_follow.proofs.LoadCounts.{copies-counted}
use Rattle.cds_follow.proofs.PossibleTurns.{copies-possible}
use Rattle.cds_follow.proofs.Tracked.{counts-each}

pub each-tracked : trackers_count_each_change_once
each-tracked turns number rows id row now shows copy known tracks =
    counts-each id rows (copies-counted (load_turns turns) number rows (loads-show-rows turns shows) (sym (loads-are-of-turns turns) ∙ copy)) (known_by turns).happenings
    (copies-possible turns number rows copy) row now known tracks
