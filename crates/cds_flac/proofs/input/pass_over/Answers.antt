-- Each read passes over a piece more.
use Rattle.std.proofs.Common.{◌≡◌, Some, take, drop, ap, ◌∙◌, arith, length-take}
use Rattle.std.proofs.lemmas.List.{drop-drop}
use Rattle.cds_flac.proofs.Takes.{taken-enough, taken-ended, at_end, within_more, length-take-most}
use Rattle.cds_flac.proofs.input.pass_over.Goals as goal

pub returns-then-count-eq0-clause-told : goal.returns-then-count-eq0-clause-told
returns-then-count-eq0-clause-told g c = λ bytes told.
    let before = c.loop-passed.invariant.1 bytes told in
    let none = at_end _ (drop c.loop-passed.passed bytes) (omega (arith, length-take c.min-want.result c.loop-passed.piece)) (c.in_ok-count.ensures.end c.if-count-eq0.true _ before.1) in
    taken-ended c.args.at c.args.n c.loop-passed.passed bytes before.0 none c.loop-passed-test.true

pub loop-passed-preserved : goal.loop-passed-preserved
loop-passed-preserved g c =
    let passed = c.loop-passed.passed in
    let n = c.in_ok-count.count in (
      omega (arith, c.in_ok-count.ensures.room, c.loop-passed-test.true, length-take-most c.min-want.result c.loop-passed.piece),
      λ bytes told.
          let before = c.loop-passed.invariant.1 bytes told in (
            within_more passed n bytes before.0 (c.in_ok-count.ensures.enough _ before.1),
            c.in_ok-count.ensures.rest _ before.1 ∙ ap Some (drop-drop n passed bytes),
          ),
      omega arith,
      omega (arith, c.in_ok-count.ensures.count),
    )

pub returns-clause-told : goal.returns-clause-told
returns-clause-told g c = λ bytes told.
    let now = c.loop-passed.invariant.1 bytes told in
    let all : c.loop-passed.passed ≡ c.args.n = omega (arith, c.loop-passed-test.false, c.loop-passed.invariant.0) in (
      take c.args.n bytes,
      (
        drop c.args.n bytes,
        taken-enough c.args.at c.args.n bytes (omega (arith, now.0)),
        now.1 ∙ ap (λ m. Some (drop m bytes)) all,
      ),
    )
