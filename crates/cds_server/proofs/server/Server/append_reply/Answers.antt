use Rattle.std.proofs.Common.{◌++◌, ap, ◌∙◌}
use Rattle.cds_server.proofs.server.Server.append_reply.Goals as goal

pub returns-clause-replied : goal.returns-clause-replied
returns-clause-replied c start commands stands =
    c.in_ok-extend_from_slice.ensures.items
    ∙ ap (λ l. c.args.out.now.items ++ l) (c.as_slice.ensures ∙ c.in_ok-text.ensures.text ∙ c.in_ok-answered.ensures.replied start commands stands)
