-- The comments so far, and the definition's of what is left behind them, are the definition's of all.
use Rattle.std.proofs.Common.{◌≡◌, ◌+◌, ◌-◌, ◌≤◌, Some, List, ℕ}
use Rattle.cds_outside.specs.Outside.{Told}
use Rattle.cds_flac.specs.Reading.{comments_from}
use Rattle.cds_flac.proofs.Fronts.{with_front}
use Rattle.cds_flac.proofs.comments.read_comments.Given as goal

abbrev pub invariant-loop-more : goal.invariant-loop-more
invariant-loop-more g l =
    (l.place ≤ l.end)
    × (l.at ≤ l.place)
    × ((g.S.Source.told l.source).moved ≤ (g.S.Source.told l.initial.source).moved + (l.place - l.at))
    × Told (g.S.Source.told l.initial.source).left (λ bytes.
    (rest : List ℕ)
    × ((g.S.Source.told l.source).left ≡ Some rest)
    × (comments_from l.count l.at l.end bytes ≡ with_front l.comments (comments_from l.more l.place l.end rest)))
    × ((g.S.Source.told l.initial.source).faults ≤ (g.S.Source.told l.source).faults)

abbrev pub decreases-loop-more : goal.decreases-loop-more
decreases-loop-more g l = l.more
