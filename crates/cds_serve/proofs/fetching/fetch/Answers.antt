-- A request for a file is refused if no track has the id, or the method is another. Otherwise the file is sent.
use Rattle.std.proofs.Common.{Option, sym, ap, subst, ◌∙◌}
use Rattle.cds_server.specs.declared.media.Media.{Media}
use Rattle.cds_serve.specs.Fetched.{Bare, Fetches, answer_for}
use Rattle.cds_serve.proofs.Fetches.{refused, untaken}
use Rattle.cds_serve.proofs.fetching.fetch.Goals as goal

pub returns-in-None-clause-fetched : goal.returns-in-None-clause-fetched
returns-in-None-clause-fetched g c =
    refused c.args.message.now _ (Bare 404) c.empty_text.result _ _ _ _ (ap (λ (o : Option Media). answer_for o c.args.message.now) c.in-None.is)
    c.empty_text.ensures c.answer_with.ensures.answered c.answer_with.ensures.starved

pub returns-then-takes_file-clause-fetched : goal.returns-then-takes_file-clause-fetched
returns-then-takes_file-clause-fetched g c =
    subst (λ (o : Option Media). Fetches c.args.message.now o c.fetch_planned.result (g.F.Folder.told c.args.folder.now)
    (g.F.Folder.told c.fetch_planned.new.folder) (g.C.Sink.told c.args.conn.now) (g.C.Sink.told c.fetch_planned.new.conn))
    (sym c.in-Some.is) c.fetch_planned.ensures.fetched

pub returns-else-takes_file-clause-fetched : goal.returns-else-takes_file-clause-fetched
returns-else-takes_file-clause-fetched g c =
    refused c.args.message.now _ (Bare 405) c.empty_text-else-takes_file.result _ _ _ _
    (ap (λ (o : Option Media). answer_for o c.args.message.now) c.in-Some.is
    ∙ untaken _ c.args.message.now (sym c.takes_file.ensures ∙ c.if-takes_file.false)) c.empty_text-else-takes_file.ensures c.answer_with-else-takes_file.ensures.answered
    c.answer_with-else-takes_file.ensures.starved
