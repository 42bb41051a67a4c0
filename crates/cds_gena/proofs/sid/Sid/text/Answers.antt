use Rattle.std.proofs.Common.{codes, ◌++◌, ap, ◌∙◌}
use Rattle.uuid.specs.Text.{hyphenated_text, lower}
use Rattle.cds_gena.proofs.sid.Sid.text.Goals as goal

pub returns : goal.returns
returns c =
    c.from.ensures ∙ c.in_ok-push_str.ensures.bytes ∙ ap (λ t. t ++ c.encode_lower.result.now) c.in_ok-text.ensures.ok
    ∙ ap (λ t. codes "uuid:" ++ t) (c.encode_lower.ensures.text ∙ ap (hyphenated_text lower) (c.hyphenated.ensures ∙ c.from_u128-id.ensures))
