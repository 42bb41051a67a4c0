-- Each line of a part is counted where the last one ended, and what is left is kept.
use Rattle.std.proofs.Common.{◌++◌, ◌∷◌, [], append_assoc, refl, ap, sym, subst, ◌∙◌}
use Rattle.std.proofs.lemmas.List.{append-nil}
use Rattle.std.proofs.lemmas.Result.{on_ok_weaker}
use Rattle.cds_summary.specs.Tally.{IsTally}
use Rattle.cds_summary.proofs.tally.Tally.feed.Goals as goal

pub loop-line-init : goal.loop-line-init
loop-line-init c = ([], refl, λ report is. subst (IsTally c.args.self.now) (sym (append-nil report)) is)

pub loop-line-preserved : goal.loop-line-preserved
loop-line-preserved c =
    let kept = c.loop-line.invariant in
    let line = c.in-Some.line.now in
    let after = c.in-Some.after.now in (
      kept.0 ++ (line ++ 10 ∷ []),
      kept.1 ∙ ap (λ bytes. kept.0 ++ bytes) (c.in-Some.ensures.1 ∙ sym (append_assoc line (10 ∷ []) after)) ∙ sym (append_assoc kept.0 (line ++ 10 ∷ []) after),
      λ report is. subst (IsTally c.end_line.new.self) (append_assoc report kept.0 (line ++ 10 ∷ [])) (c.in_ok-end_line.ensures (report ++ kept.0) (kept.2 report is)),
    )

pub returns : goal.returns
returns c = λ report is.
    let kept = c.loop-line.invariant in
    on_ok_weaker c.keep.result
    (subst (IsTally c.keep.new.self) (append_assoc report kept.0 c.loop-line.rest.now ∙ ap (λ bytes. report ++ bytes) (sym kept.1)))
    (c.keep.ensures (report ++ kept.0) (kept.2 report is))
