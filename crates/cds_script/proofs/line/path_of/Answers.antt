use Rattle.std.proofs.Common.{None, cond, sym, ap, ◌∙◌}
use Rattle.std.specs.Result.{result_ok}
use Rattle.std.proofs.lemmas.Str.{is_utf8-from_IsUtf8}
use Rattle.cds_object.specs.Path.{path_read}
use Rattle.cds_script.proofs.Words.{no-text}
use Rattle.cds_script.proofs.line.path_of.Goals as goal

pub returns-in_default : goal.returns-in_default
returns-in_default c =
    sym (ap (λ b. cond b (result_ok (path_read c.args.word.now)) None) (no-text c.args.word.now c.in_default.ensures.cases.0))

pub returns-in-Ok-read : goal.returns-in-Ok-read
returns-in-Ok-read c =
    sym (ap (λ b. cond b (result_ok (path_read c.args.word.now)) None) (is_utf8-from_IsUtf8 c.args.word.now c.in-Ok.ensures.cases.1)
    ∙ ap (λ word. result_ok (path_read word)) (sym c.in-Ok.ensures.cases.0) ∙ ap result_ok c.in-Ok-read.ensures)
