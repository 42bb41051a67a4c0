-- What stands after the dash is the rest without its first byte.
use Rattle.std.proofs.Common.{◌≡◌, ◌+◌, drop, take, ap, ◌∙◌}
use Rattle.std.proofs.lemmas.List.{drop-drop}
use Rattle.cds_media.specs.Ranges.{range_around, range_by}
use Rattle.cds_media.proofs.range.one_range.Goals as goal

pub returns-in-Some : goal.returns-in-Some
returns-in-Some c =
    let text = c.args.text.now in
    let at = c.in-Some.at in
    let after : c.split_at-in-Some.result.1.now ≡ drop (at + 1) text =
    c.split_at-in-Some.ensures.back ∙ ap (drop 1) c.split_at.ensures.back ∙ drop-drop 1 at text in
    c.range_by.ensures
    ∙ ap (λ before. range_by before c.split_at-in-Some.result.1.now) c.split_at.ensures.front
    ∙ ap (λ rest. range_by (take at text) rest) after
    ∙ ap (range_around text) c.in-Some.ensures.exact
