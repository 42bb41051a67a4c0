use Rattle.std.proofs.Common.{◌++◌, sym, ap, ◌∙◌, string_bytes}
use Rattle.std.proofs.lemmas.Result.{on_ok_weaker}
use Rattle.cds_replay.specs.Lines.{known_text, known_rows}
use Rattle.cds_replay.proofs.report.put_known.Goals as goal

pub returns-in-BehindVersion : goal.returns-in-BehindVersion
returns-in-BehindVersion c =
    on_ok_weaker c.put_numbered_line-in-BehindVersion.result
    (λ written.
    written ∙ ap (λ n. string_bytes c.args.out.now ++ known_text (Rattle.cds_follow.specs.declared.says.Says.TheVariants.BehindVersion n) (known_rows c.args.rows.now)) c.from-in-BehindVersion.ensures
    ∙ sym (ap (λ s. string_bytes c.args.out.now ++ known_text s (known_rows c.args.rows.now)) c.in-BehindVersion.is))
    c.put_numbered_line-in-BehindVersion.ensures
