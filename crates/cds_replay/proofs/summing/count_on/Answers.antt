-- Each piece is taken where the last one ended.
use Rattle.std.proofs.Common.{◌≡◌, ◌+◌, ◌-◌, Some, drop, ap, ◌∙◌, arith}
use Rattle.std.proofs.lemmas.Result.{on_ok_weaker, IfErr-weaker, err_from_is_err_and}
use Rattle.cds_outside.specs.Outside.{raised}
use Rattle.cds_replay.specs.Script.{left_in}
use Rattle.cds_replay.specs.Summing.{Counted, Halted}
use Rattle.cds_replay.proofs.Playing.{ok-told, on-ok-any, moved-by, raised-twice}
use Rattle.cds_replay.proofs.Tallied.{err-told, midway-begin, midway-on, midway-stops, midway-last, midway-well, of-reading}
use Rattle.cds_replay.proofs.summing.count_on.Goals as goal

pub loop-script-init : goal.loop-script-init
loop-script-init g c = (
  c.requires.sound,
  omega arith,
  λ n.
      let none : n ≡ (left_in c.args.script.now - left_in c.args.script.now) + n = omega arith in
      ap (raised (g.S.Source.told c.args.source.now).moved) none,
  λ bytes told. midway-begin c.args.script.now c.args.tally.now bytes (g.S.Source.told c.args.source.now).left c.requires.fresh told,
  omega arith,
  omega arith,
)

pub loop-script-preserved : goal.loop-script-preserved
loop-script-preserved g c =
    let kept = c.loop-script.invariant in
    let left = c.in_ok-count_piece-in-Ok.ensures.left in
    let size = c.split_at.ensures.front_len in
    let moved = moved-by _ _ _ c.in-Ok.ensures.count in (
      c.in_ok-count_piece-in-Ok.ensures.sound,
      omega (arith, kept.1, left),
      λ n.
          let more : (left_in c.args.script.now - left_in c.loop-script.script) + (c.in-Ok.count + n) ≡ (left_in c.args.script.now - left_in c.count_piece.new.script) + n =
          omega (arith, kept.1, left, size) in
          ap (λ m. raised m n) c.in-Ok.ensures.count
          ∙ raised-twice (g.S.Source.told c.loop-script.source).moved c.in-Ok.count n
          ∙ kept.2 (c.in-Ok.count + n)
          ∙ ap (raised (g.S.Source.told c.args.source.now).moved) more,
      λ bytes told.
          let mid = kept.3 bytes told in
          midway-on c.loop-script.script c.count_piece.new.script c.loop-script.tally c.count_piece.new.tally bytes _ _ c.split_at.result.0.now c.in-Ok.count mid
          (c.split_at.ensures.front ∙ c.in-Ok.ensures.content mid.bytes mid.left)
          (c.in-Ok.ensures.rest mid.bytes mid.left)
          (c.in_ok-count_piece-in-Ok.ensures.goes mid.front mid.counting),
      omega (arith, kept.4, c.in-Ok.ensures.never_falls),
      omega (arith, kept.1, kept.5, moved, left, size),
    )

pub returns-in-Err-clause-taken : goal.returns-in-Err-clause-taken
returns-in-Err-clause-taken g c = omega (arith, c.loop-script.invariant.1, c.loop-script.invariant.5, c.in-Err.ensures.stays)

pub returns-in-Ok-eq0-clause-counted : goal.returns-in-Ok-eq0-clause-counted
returns-in-Ok-eq0-clause-counted g c =
    let zero : c.in-Ok-eq0.field-0 ≡ 0 = omega (arith, c.in-Ok-eq0.field-0-test) in
    ok-told c.count_end.result (g.S.Source.told c.args.source.now).left (Counted c.count_end.new.tally)
    (λ bytes told.
    let mid = c.loop-script.invariant.3 bytes told in
    on_ok_weaker c.count_end.result
    (midway-well c.loop-script.script c.loop-script.tally c.count_end.new.tally bytes _ mid (c.in-Ok-eq0.ensures.end zero mid.bytes mid.left))
    (c.count_end.ensures.ends mid.front mid.counting))

pub returns-in-Ok-eq0-clause-end : goal.returns-in-Ok-eq0-clause-end
returns-in-Ok-eq0-clause-end g c =
    let zero : c.in-Ok-eq0.field-0 ≡ 0 = omega (arith, c.in-Ok-eq0.field-0-test) in
    on-ok-any c.count_end.result _
    (λ bytes told.
    let mid = c.loop-script.invariant.3 bytes told in
    c.in-Ok-eq0.ensures.rest mid.bytes mid.left
    ∙ ap (λ n. Some (drop n mid.bytes)) zero
    ∙ ap Some (c.in-Ok-eq0.ensures.end zero mid.bytes mid.left))

pub returns-in-Ok-eq0-clause-halted : goal.returns-in-Ok-eq0-clause-halted
returns-in-Ok-eq0-clause-halted g c =
    let zero : c.in-Ok-eq0.field-0 ≡ 0 = omega (arith, c.in-Ok-eq0.field-0-test) in
    err-told c.count_end.result (g.S.Source.told c.args.source.now).left Halted
    (λ bytes told.
    let mid = c.loop-script.invariant.3 bytes told in
    IfErr-weaker c.count_end.result
    _ _
    (λ e. midway-last e c.loop-script.script c.loop-script.tally bytes _ mid (c.in-Ok-eq0.ensures.end zero mid.bytes mid.left))
    (c.count_end.ensures.stops mid.front mid.counting))

pub returns-in-Ok-eq0-clause-own : goal.returns-in-Ok-eq0-clause-own
returns-in-Ok-eq0-clause-own g c = IfErr-weaker c.count_end.result _ _ of-reading c.count_end.ensures.own

pub returns-in_err-count_piece-in-Ok-clause-halted : goal.returns-in_err-count_piece-in-Ok-clause-halted
returns-in_err-count_piece-in-Ok-clause-halted g c =
    let error = err_from_is_err_and c.from_residual.result c.from_residual.ensures.1 in
    rw (error.1, error.2)
    (λ bytes told.
    let mid = c.loop-script.invariant.3 bytes told in
    midway-stops c.in_err-count_piece-in-Ok.field-0.0 c.loop-script.script c.loop-script.tally bytes _ c.split_at.result.0.now c.in-Ok.count mid
    (c.split_at.ensures.front ∙ c.in-Ok.ensures.content mid.bytes mid.left)
    (c.in_err-count_piece-in-Ok.ensures.stops mid.front (drop c.in-Ok.count mid.bytes) mid.counting))
