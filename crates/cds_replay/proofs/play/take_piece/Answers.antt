-- Each line of a piece is played where the last one ended, and what is left is kept.
use Rattle.std.proofs.Common.{◌≡◌, ◌+◌, ◌++◌, ◌∷◌, [], length, length-append, append_assoc, refl, ap, sym, subst, ◌∙◌, arith}
use Rattle.std.proofs.lemmas.Result.{on_ok_weaker, IfErr-weaker, err_from_is_err_and}
use Rattle.cds_replay.specs.Replay.{Stopped}
use Rattle.cds_replay.proofs.Playing.{played-begin, played-on, played-stops}
use Rattle.cds_replay.proofs.play.take_piece.Goals as goal

pub loop-line-init : goal.loop-line-init
loop-line-init g c = (
  c.requires,
  omega arith,
  ([], refl, λ before written goes. played-begin (g.W.Wire.carried c.args.wire.now) before written c.args.script.now _ goes),
  omega arith,
)

pub loop-line-preserved : goal.loop-line-preserved
loop-line-preserved g c =
    let kept = c.loop-line.invariant in
    let line = c.in-Some.line.now in
    let after = c.in-Some.after.now in
    let front = kept.2.0 in
    let taken = c.in_ok-take_line.ensures in
    let size : length c.loop-line.rest.now ≡ length line + (length after + 1) = ap length c.in-Some.ensures.1 ∙ length-append line (10 ∷ after) ∙ omega arith in
    let cut : c.args.piece.now ≡ (front ++ (line ++ 10 ∷ [])) ++ after =
    kept.2.1 ∙ ap (λ bytes. front ++ bytes) (c.in-Some.ensures.1 ∙ sym (append_assoc line (10 ∷ []) after)) ∙ sym (append_assoc front (line ++ 10 ∷ []) after) in (
      taken.sound,
      omega (arith, kept.1, taken.left, size),
      (
        front ++ (line ++ 10 ∷ []),
        cut,
        λ before written goes.
            let played = kept.2.2 before written goes in
            played-on (g.W.Wire.carried c.args.wire.now) before written front (line ++ 10 ∷ []) (front ++ (line ++ 10 ∷ [])) _ _ _ c.loop-line.script c.take_line.new.script refl played
            (taken.goes (before ++ front) (written ++ played.added) played.goes),
      ),
      omega (arith, kept.3, taken.never_falls),
    )

pub returns-in_err-take_line-clause-stops : goal.returns-in_err-take_line-clause-stops
returns-in_err-take_line-clause-stops g c = λ before written more goes.
    let kept = c.loop-line.invariant in
    let line = c.in-Some.line.now in
    let after = c.in-Some.after.now in
    let front = kept.2.0 in
    let played = kept.2.2 before written goes in
    let error = err_from_is_err_and c.from_residual.result c.from_residual.ensures.1 in
    let cut : ((before ++ front) ++ (line ++ 10 ∷ [])) ++ (after ++ more) ≡ (before ++ c.args.piece.now) ++ more =
    sym (append_assoc ((before ++ front) ++ (line ++ 10 ∷ [])) after more)
    ∙ ap (λ bytes. bytes ++ more)
    (append_assoc (before ++ front) (line ++ 10 ∷ []) after ∙ append_assoc before front ((line ++ 10 ∷ []) ++ after)
    ∙ ap (λ bytes. before ++ bytes) (sym (kept.2.1 ∙ ap (λ bytes. front ++ bytes) (c.in-Some.ensures.1 ∙ sym (append_assoc line (10 ∷ []) after))))) in
    rw (error.1, error.2)
    (played-stops c.in_err-take_line.field-0.0 (g.W.Wire.carried c.args.wire.now) before written front ((line ++ 10 ∷ []) ++ (after ++ more)) ((before ++ c.args.piece.now) ++ more) _ _ _ c.loop-line.script
    (sym (append_assoc (before ++ front) (line ++ 10 ∷ []) (after ++ more)) ∙ cut) played
    (subst (λ bytes. Stopped (g.W.Wire.carried c.args.wire.now) c.in_err-take_line.field-0.0 bytes (written ++ played.added) (g.K.Sink.told c.loop-line.sink).holds (g.K.Sink.told c.take_line.new.sink).holds)
    (append_assoc (before ++ front) (line ++ 10 ∷ []) (after ++ more))
    (c.in_err-take_line.ensures.stops (before ++ front) (written ++ played.added) (after ++ more) played.goes)))

pub returns-clause-goes : goal.returns-clause-goes
returns-clause-goes g c = λ before written goes.
    let kept = c.loop-line.invariant in
    let played = kept.2.2 before written goes in
    on_ok_weaker c.keep_rest.result
    (played-on (g.W.Wire.carried c.args.wire.now) before written kept.2.0 c.loop-line.rest.now c.args.piece.now _ _ _ c.loop-line.script c.keep_rest.new.script kept.2.1 played)
    (c.keep_rest.ensures.goes (before ++ kept.2.0) (written ++ played.added) played.goes)

pub returns-clause-stops : goal.returns-clause-stops
returns-clause-stops g c = λ before written more goes.
    let kept = c.loop-line.invariant in
    let played = kept.2.2 before written goes in
    let rest = c.loop-line.rest.now in
    let cut : (before ++ kept.2.0) ++ (rest ++ more) ≡ (before ++ c.args.piece.now) ++ more =
    sym (append_assoc (before ++ kept.2.0) rest more) ∙ ap (λ bytes. bytes ++ more) (append_assoc before kept.2.0 rest ∙ ap (λ bytes. before ++ bytes) (sym kept.2.1)) in
    IfErr-weaker c.keep_rest.result
    _ _
    (λ e stops. played-stops e (g.W.Wire.carried c.args.wire.now) before written kept.2.0 (rest ++ more) ((before ++ c.args.piece.now) ++ more) _ _ _ c.loop-line.script cut played
    (subst (λ bytes. Stopped (g.W.Wire.carried c.args.wire.now) e bytes (written ++ played.added) (g.K.Sink.told c.loop-line.sink).holds (g.K.Sink.told c.keep_rest.new.sink).holds)
    (append_assoc (before ++ kept.2.0) rest more) stops))
    (c.keep_rest.ensures.stops (before ++ kept.2.0) (written ++ played.added) more played.goes)
