-- Each piece is taken where the last one ended.
use Rattle.std.proofs.Common.{◌≡◌, ◌+◌, ◌-◌, Some, drop, ap, ◌∙◌, arith}
use Rattle.std.proofs.lemmas.Result.{on_ok_weaker, IfErr-weaker, err_from_is_err_and}
use Rattle.cds_outside.specs.Outside.{raised}
use Rattle.cds_replay.specs.Script.{left_in}
use Rattle.cds_replay.proofs.Playing.{under-begin, under-piece, under-stops, under-last, under-well, on-ok-any, moved-by, raised-twice}
use Rattle.cds_replay.proofs.play.play_on.Goals as goal

pub loop-script-init : goal.loop-script-init
loop-script-init g c = (
  c.requires.sound,
  omega arith,
  λ n.
      let none : n ≡ (left_in c.args.script.now - left_in c.args.script.now) + n = omega arith in
      ap (raised (g.S.Source.told c.args.source.now).moved) none,
  λ bytes goes told. under-begin (g.W.Wire.carried c.args.wire.now) c.args.script.now _ _ bytes goes told,
  omega arith,
  omega arith,
  omega arith,
)

pub loop-script-preserved : goal.loop-script-preserved
loop-script-preserved g c =
    let kept = c.loop-script.invariant in
    let left = c.in_ok-take_piece-in-Ok.ensures.left in
    let size = c.split_at.ensures.front_len in
    let moved = moved-by _ _ _ c.in-Ok.ensures.count in (
      c.in_ok-take_piece-in-Ok.ensures.sound,
      omega (arith, kept.1, left),
      λ n.
          let more : (left_in c.args.script.now - left_in c.loop-script.script) + (c.in-Ok.count + n) ≡ (left_in c.args.script.now - left_in c.take_piece.new.script) + n =
          omega (arith, kept.1, left, size) in
          ap (λ m. raised m n) c.in-Ok.ensures.count
          ∙ raised-twice (g.S.Source.told c.loop-script.source).moved c.in-Ok.count n
          ∙ kept.2 (c.in-Ok.count + n)
          ∙ ap (raised (g.S.Source.told c.args.source.now).moved) more,
      λ bytes goes told.
          let under = kept.3 bytes goes told in
          under-piece (g.W.Wire.carried c.args.wire.now) bytes _ _ _ _ _ c.loop-script.script c.take_piece.new.script c.split_at.result.0.now c.in-Ok.count under
          (c.split_at.ensures.front ∙ c.in-Ok.ensures.content under.bytes under.left)
          (c.in-Ok.ensures.rest under.bytes under.left)
          (c.in_ok-take_piece-in-Ok.ensures.goes under.front under.written under.goes),
      omega (arith, kept.4, c.in-Ok.ensures.never_falls),
      omega (arith, kept.5, c.in_ok-take_piece-in-Ok.ensures.never_falls),
      omega (arith, kept.1, kept.6, moved, left, size),
    )

pub returns-in-Err-clause-taken : goal.returns-in-Err-clause-taken
returns-in-Err-clause-taken g c = omega (arith, c.loop-script.invariant.1, c.loop-script.invariant.6, c.in-Err.ensures.stays)

pub returns-in-Ok-eq0-clause-well : goal.returns-in-Ok-eq0-clause-well
returns-in-Ok-eq0-clause-well g c = λ bytes goes told.
    let under = c.loop-script.invariant.3 bytes goes told in
    let zero : c.in-Ok-eq0.field-0 ≡ 0 = omega (arith, c.in-Ok-eq0.field-0-test) in
    on_ok_weaker c.finish.result
    (under-well (g.W.Wire.carried c.args.wire.now) bytes _ _ _ _ c.loop-script.script under (c.in-Ok-eq0.ensures.end zero under.bytes under.left))
    (c.finish.ensures.well under.front under.written under.goes)

pub returns-in-Ok-eq0-clause-end : goal.returns-in-Ok-eq0-clause-end
returns-in-Ok-eq0-clause-end g c = λ bytes goes told.
    let under = c.loop-script.invariant.3 bytes goes told in
    let zero : c.in-Ok-eq0.field-0 ≡ 0 = omega (arith, c.in-Ok-eq0.field-0-test) in
    on-ok-any c.finish.result _
    (c.in-Ok-eq0.ensures.rest under.bytes under.left
    ∙ ap (λ n. Some (drop n under.bytes)) zero
    ∙ ap Some (c.in-Ok-eq0.ensures.end zero under.bytes under.left))

pub returns-in-Ok-eq0-clause-stops : goal.returns-in-Ok-eq0-clause-stops
returns-in-Ok-eq0-clause-stops g c = λ bytes goes told.
    let under = c.loop-script.invariant.3 bytes goes told in
    let zero : c.in-Ok-eq0.field-0 ≡ 0 = omega (arith, c.in-Ok-eq0.field-0-test) in
    IfErr-weaker c.finish.result
    _ _
    (λ e. under-last e (g.W.Wire.carried c.args.wire.now) bytes _ _ _ _ c.loop-script.script under (c.in-Ok-eq0.ensures.end zero under.bytes under.left))
    (c.finish.ensures.stops under.front under.written under.goes)

pub returns-in_err-take_piece-in-Ok-clause-stops : goal.returns-in_err-take_piece-in-Ok-clause-stops
returns-in_err-take_piece-in-Ok-clause-stops g c = λ bytes goes told.
    let under = c.loop-script.invariant.3 bytes goes told in
    let error = err_from_is_err_and c.from_residual.result c.from_residual.ensures.1 in
    rw (error.1, error.2)
    (under-stops c.in_err-take_piece-in-Ok.field-0.0 (g.W.Wire.carried c.args.wire.now) bytes _ _ _ _ c.loop-script.script c.split_at.result.0.now c.in-Ok.count under
    (c.split_at.ensures.front ∙ c.in-Ok.ensures.content under.bytes under.left)
    (c.in_err-take_piece-in-Ok.ensures.stops under.front under.written (drop c.in-Ok.count under.bytes) under.goes))
