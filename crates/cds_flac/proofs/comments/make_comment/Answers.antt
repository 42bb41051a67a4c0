-- The tests on the name and the value decide.
use Rattle.std.proofs.Common.{◌≡◌, List, ℕ, Some, ap, sym, ◌∙◌}
use Rattle.cds_object.specs.declared.info.Comment.{Comment}
use Rattle.cds_flac.proofs.Names.{named-made, named-no_text, name-is_text}
use Rattle.cds_flac.proofs.comments.make_comment.Goals as goal

pub returns-in_default : goal.returns-in_default
returns-in_default c =
    sym (named-no_text c.args.name.now c.args.value.now (sym c.if-not-is_comment_name.ensures) c.in_default.ensures.cases.0)

pub returns-in_default-from_utf8 : goal.returns-in_default-from_utf8
returns-in_default-from_utf8 c =
    absurd (c.in_default-from_utf8.ensures.cases.0 (name-is_text c.args.name.now (sym c.if-not-is_comment_name.ensures)))

same_fields : (n v m w : List ℕ) → n ≡ m → v ≡ w → ◌≡◌ {A = Comment} record { name = n; value = v } record { name = m; value = w }
same_fields n v m w e f = cc

pub returns : goal.returns
returns c =
    ap Some (same_fields _ _ c.args.name.now c.args.value.now (c.in_ok-name.ensures ∙ c.in-Ok-from_utf8.ensures.cases.0) (c.in_ok-value.ensures ∙ c.in-Ok.ensures.cases.0))
    ∙ sym (named-made c.args.name.now c.args.value.now (sym c.if-not-is_comment_name.ensures) c.in-Ok.ensures.cases.1)
