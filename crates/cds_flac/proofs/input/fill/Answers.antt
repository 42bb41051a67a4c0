-- Each read fills a piece more.
use Rattle.std.proofs.Common.{◌-◌, Some, length, drop, ap, ◌∙◌, arith}
use Rattle.std.proofs.lemmas.List.{drop-drop}
use borrow.Rule.Slice.PartMut.{same_len_mid}
use Rattle.cds_flac.proofs.Takes.{filled_more, filled-taken, within_more}
use Rattle.cds_flac.proofs.input.fill.Goals as goal

pub loop-got-preserved : goal.loop-got-preserved
loop-got-preserved g c =
    let got = c.loop-got.got in
    let n = c.in_ok-count.count in
    let into = c.loop-got.into in
    let room = length into - got in
    let kept = same_len_mid got room into c.read.new.into c.read.auto.into in (
      omega (arith, c.in_ok-count.ensures.room),
      λ bytes told.
          let before = c.loop-got.invariant.1 bytes told in
          let left = before.2 in (
            within_more got n bytes before.0 (c.in_ok-count.ensures.enough _ left),
            filled_more into c.read.new.into bytes got n room (omega arith) (omega (arith, c.in_ok-count.ensures.room, c.read.auto.into)) before.1 (c.in_ok-count.ensures.content _ left),
            c.in_ok-count.ensures.rest _ left ∙ ap Some (drop-drop n got bytes),
          ),
      omega arith,
      omega (arith, c.in_ok-count.ensures.count),
    )

pub returns-clause-told : goal.returns-clause-told
returns-clause-told g c = λ bytes told.
    let now = c.loop-got.invariant.1 bytes told in (
      drop c.loop-got.got bytes,
      filled-taken c.args.at (length c.args.into.now) c.loop-got.got c.loop-got.into bytes c.loop-got.auto.into c.loop-got-test.false c.loop-got.invariant.0 now.0 now.1,
      now.2,
    )
