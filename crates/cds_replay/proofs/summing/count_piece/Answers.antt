-- Each line of a piece is counted where the last one ended, and what is left is kept.
use Rattle.std.proofs.Common.{◌≡◌, ◌+◌, ◌++◌, ◌∷◌, [], length, length-append, append_assoc, refl, ap, sym, ◌∙◌, arith}
use Rattle.std.proofs.lemmas.List.{append-nil}
use Rattle.std.proofs.lemmas.Result.{on_ok_weaker, IfErr-weaker, err_from_is_err_and}
use Rattle.cds_replay.proofs.Tallied.{counting-as, halted-as}
use Rattle.cds_replay.proofs.summing.count_piece.Goals as goal

pub loop-line-init : goal.loop-line-init
loop-line-init c = (
  c.requires,
  omega arith,
  ([], refl, λ before counting. counting-as c.args.script.now c.args.tally.now before (before ++ []) (sym (append-nil before)) counting),
)

pub loop-line-preserved : goal.loop-line-preserved
loop-line-preserved c =
    let kept = c.loop-line.invariant in
    let line = c.in-Some.line.now in
    let after = c.in-Some.after.now in
    let front = kept.2.0 in
    let taken = c.in_ok-count_line.ensures in
    let size : length c.loop-line.rest.now ≡ length line + (length after + 1) = ap length c.in-Some.ensures.1 ∙ length-append line (10 ∷ after) ∙ omega arith in
    let cut : c.args.piece.now ≡ (front ++ (line ++ 10 ∷ [])) ++ after =
    kept.2.1 ∙ ap (λ bytes. front ++ bytes) (c.in-Some.ensures.1 ∙ sym (append_assoc line (10 ∷ []) after)) ∙ sym (append_assoc front (line ++ 10 ∷ []) after) in (
      taken.sound,
      omega (arith, kept.1, taken.left, size),
      (
        front ++ (line ++ 10 ∷ []),
        cut,
        λ before counting.
            counting-as c.count_line.new.script c.count_line.new.tally ((before ++ front) ++ (line ++ 10 ∷ [])) (before ++ (front ++ (line ++ 10 ∷ []))) (append_assoc before front (line ++ 10 ∷ []))
            (taken.goes (before ++ front) (kept.2.2 before counting)),
      ),
    )

pub returns-in_err-count_line-clause-stops : goal.returns-in_err-count_line-clause-stops
returns-in_err-count_line-clause-stops c = λ before more counting.
    let kept = c.loop-line.invariant in
    let line = c.in-Some.line.now in
    let after = c.in-Some.after.now in
    let front = kept.2.0 in
    let error = err_from_is_err_and c.from_residual.result c.from_residual.ensures.1 in
    let cut : ((before ++ front) ++ (line ++ 10 ∷ [])) ++ (after ++ more) ≡ (before ++ c.args.piece.now) ++ more =
    sym (append_assoc ((before ++ front) ++ (line ++ 10 ∷ [])) after more)
    ∙ ap (λ bytes. bytes ++ more)
    (append_assoc (before ++ front) (line ++ 10 ∷ []) after ∙ append_assoc before front ((line ++ 10 ∷ []) ++ after)
    ∙ ap (λ bytes. before ++ bytes) (sym (kept.2.1 ∙ ap (λ bytes. front ++ bytes) (c.in-Some.ensures.1 ∙ sym (append_assoc line (10 ∷ []) after))))) in
    rw (error.1, error.2)
    (halted-as c.in_err-count_line.field-0.0 _ _ cut (c.in_err-count_line.ensures.stops (before ++ front) (after ++ more) (kept.2.2 before counting)))

pub returns-clause-goes : goal.returns-clause-goes
returns-clause-goes c = λ before counting.
    let kept = c.loop-line.invariant in
    on_ok_weaker c.count_rest.result
    (counting-as c.count_rest.new.script c.count_rest.new.tally ((before ++ kept.2.0) ++ c.loop-line.rest.now) (before ++ c.args.piece.now)
    (append_assoc before kept.2.0 c.loop-line.rest.now ∙ ap (λ bytes. before ++ bytes) (sym kept.2.1)))
    (c.count_rest.ensures.goes (before ++ kept.2.0) (kept.2.2 before counting))

pub returns-clause-stops : goal.returns-clause-stops
returns-clause-stops c = λ before more counting.
    let kept = c.loop-line.invariant in
    let rest = c.loop-line.rest.now in
    let cut : ((before ++ kept.2.0) ++ rest) ++ more ≡ (before ++ c.args.piece.now) ++ more =
    ap (λ bytes. bytes ++ more) (append_assoc before kept.2.0 rest ∙ ap (λ bytes. before ++ bytes) (sym kept.2.1)) in
    IfErr-weaker c.count_rest.result
    _ _
    (λ e. halted-as e (((before ++ kept.2.0) ++ rest) ++ more) ((before ++ c.args.piece.now) ++ more) cut)
    (c.count_rest.ensures.stops (before ++ kept.2.0) more (kept.2.2 before counting))
