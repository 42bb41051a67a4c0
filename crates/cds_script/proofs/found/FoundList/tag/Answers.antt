use Rattle.std.proofs.Common.{◌≡◌, List, [], ◌∷◌, ◌++◌, refl, sym, ap, ◌∙◌}
use Rattle.cds_object.specs.declared.info.Comment.{Comment}
use Rattle.cds_script.specs.declared.found.Found.{Found}
use Rattle.cds_script.specs.Report.{commented, last_commented}
use Rattle.cds_script.proofs.found.FoundList.tag.Goals as goal

last-of : (comment : Comment) (before : List Found) (one : Found) → last_commented comment (before ++ one ∷ []) ≡ before ++ commented comment one ∷ []
last-of comment [] one = refl
last-of comment (first ∷ []) one = refl
last-of comment (first ∷ next ∷ others) one = ap (λ (l : List Found). first ∷ l) (last-of comment (next ∷ others) one)

pub returns-in_ok-push-in-Some : goal.returns-in_ok-push-in-Some
returns-in_ok-push-in-Some c =
    c.in_ok-push-in-Some.ensures.items
    ∙ ap (λ (o : Found). c.pop.new.self.items ++ o ∷ []) c.in_ok-one-in-Some.ensures
    ∙ sym (last-of c.args.comment c.pop.new.self.items c.in-Some.one)
    ∙ ap (last_commented c.args.comment) (sym c.in-Some.ensures.items ∙ c.self.view_is)
