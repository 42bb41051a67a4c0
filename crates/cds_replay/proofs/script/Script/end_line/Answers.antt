-- A line that came in two parts is answered as one.
use Rattle.std.proofs.Common.{◌≡◌, ℕ, List, [], ◌++◌, ◌∷◌, ap, refl, ◌∙◌}
use Rattle.std.proofs.lemmas.Result.{IfOk-weaker}
use Rattle.cds_replay.proofs.Scripts.{aside-goes, aside-same, fed-from}
use Rattle.cds_replay.proofs.script.Script.end_line.Goals as goal

pub returns-in_ok-extend_from_slice-clause-meaning : goal.returns-in_ok-extend_from_slice-clause-meaning
returns-in_ok-extend_from_slice-clause-meaning g c = λ before written goes.
    let carried : List ℕ → List ℕ = g.W.Wire.carried c.args.wire.now in
    let script = c.args.self.now in
    let line = c.args.line.now in
    let whole : c.as_slice.result.now ≡ script.partial.items ++ line =
    c.as_slice.ensures.value ∙ c.in_ok-extend_from_slice.ensures.items ∙ ap (λ v. v.items ++ line) c.replace-whole.ensures.value in
    let mid = aside-goes carried script _ before written goes refl refl refl (ap (λ v. v.items) c.replace-whole.ensures.after ∙ c.new.ensures.items) in
    IfOk-weaker c.take_line-else-is_empty.result
    _ _
    (λ stop. fed-from carried stop before goes.front written (line ++ 10 ∷ []) (c.as_slice.result.now ++ 10 ∷ []) _ _ _
    (ap (λ bytes. goes.front ++ (bytes ++ 10 ∷ [])) whole ∙ aside-same before goes.front script.partial.items line goes.parts))
    (c.take_line-else-is_empty.ensures.meaning goes.front written mid)
