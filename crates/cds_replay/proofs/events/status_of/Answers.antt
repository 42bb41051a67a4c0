use Rattle.std.proofs.Common.{sym, ap, ◌∙◌}
use Rattle.cds_http.specs.declared.message.Message.{Message}
use Rattle.cds_http.specs.declared.message.Start.TheVariants.{Reply as of_reply}
use Rattle.cds_replay.proofs.events.status_of.Goals as goal

pub reply_of-requires : goal.reply_of-requires
reply_of-requires c = (c.requires.1.0, c.requires.1.1)

pub status_in-requires : goal.status_in-requires
status_in-requires c = (c.requires.0, ap (λ (n : Message). n.start) (c.in_ok-message.ensures c.requires.1.0 c.requires.1.1) ∙ c.requires.1.2)

pub returns : goal.returns
returns c =
    let has = c.requires.1 in
    let at = ap (λ (n : Message). n.start) (c.in_ok-message.ensures has.0 has.1) ∙ has.2 in
    (has.0, has.1, has.2 ∙ ap of_reply (sym (c.status_in.ensures c.requires.0 at)))
