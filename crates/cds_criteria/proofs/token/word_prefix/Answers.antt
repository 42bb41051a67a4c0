use Rattle.std.proofs.Common.{sym, ap, ◌∙◌, take}
use Rattle.cds_criteria.proofs.Values.{word_taken}
use Rattle.cds_criteria.proofs.token.word_prefix.Goals as goal

pub returns : goal.returns
returns c = c.split_at.ensures.front ∙ ap (λ n. take n c.args.text.now) c.word_length.ensures.exact ∙ sym (word_taken c.args.text.now)
