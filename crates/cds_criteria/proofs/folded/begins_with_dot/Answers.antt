use Rattle.std.proofs.Common.{cond, length, drop, false, sym, ap, ◌∙◌}
use Rattle.cds_criteria.specs.Meaning.{folded}
use Rattle.cds_criteria.specs.Folds.{first_is}
use Rattle.cds_criteria.proofs.Folds.{has_room, dot_after}
use Rattle.cds_criteria.proofs.folded.begins_with_dot.Goals as goal

pub split_at-requires : goal.split_at-requires
split_at-requires c = has_room c.args.value.now c.args.text.now (sym c.begins_with.ensures ∙ c.if-begins_with.true)

pub returns-then-begins_with : goal.returns-then-begins_with
returns-then-begins_with c =
    c.first_is.ensures ∙ ap (λ t. first_is 46 (folded t)) c.split_at.ensures.back
    ∙ sym (dot_after c.args.value.now c.args.text.now
    ∙ ap (λ v. cond v (first_is 46 (folded (drop (length c.args.value.now) c.args.text.now))) false) (sym c.begins_with.ensures ∙ c.if-begins_with.true))

pub returns-else-begins_with : goal.returns-else-begins_with
returns-else-begins_with c =
    sym (dot_after c.args.value.now c.args.text.now
    ∙ ap (λ v. cond v (first_is 46 (folded (drop (length c.args.value.now) c.args.text.now))) false) (sym c.begins_with.ensures ∙ c.if-begins_with.false))
