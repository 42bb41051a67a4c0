use Rattle.std.proofs.Common.{◌≡◌, ap, ◌∙◌}
use Rattle.std.proofs.lemmas.Result.{IfOk-weaker}
use Rattle.uuid.specs.Text.{hyphenated_text, lower}
use Rattle.cds_store.specs.Rows.{rows_of}
use Rattle.cds_control.specs.Making.{made_to}
use Rattle.cds_server.specs.Published.{token_of}
use Rattle.cds_server.specs.Serving.{Serving}
use Rattle.cds_server.proofs.server.Server.act.Goals as goal

pub returns : goal.returns
returns c =
    let token : c.encode_lower-token.result.now ≡ token_of c.args.self.now.book.names =
    c.encode_lower-token.ensures.text ∙ ap (hyphenated_text lower) (c.hyphenated.ensures ∙ c.from_u128-id.ensures)
    ∙ ap token_of (c.names.ensures ∙ ap (λ (s : Serving). s.book.names) c.self.view_is) in
    IfOk-weaker c.made_to.result _ _
    (λ made is.
    is ∙ (λ i. made_to (record {
      token = token i;
      number = (c.self.view_is i).store.standing.number;
      rows = rows_of (c.self.view_is i).store.standing.rows;
    }) c.args.action.now))
    c.made_to.ensures
