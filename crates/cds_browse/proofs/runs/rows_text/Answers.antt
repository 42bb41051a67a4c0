use Rattle.std.proofs.Common.{◌≡◌, ◌++◌, ◌∷◌, [], ◌<◌, List, ℕ, Some, length, string_bytes, ap, sym, ◌∙◌, arith}
use Rattle.std.specs.Prelude.{slice_get}
use Rattle.cds_object.specs.Fragment.{full_text}
use Rattle.cds_browse.proofs.Texts.{text_more, some_row}
use Rattle.cds_browse.proofs.runs.rows_text.Goals.{in-Some+in_ok-put_row, in_default}
use Rattle.cds_browse.proofs.runs.rows_text.Goals as goal

pub loop-at-preserved : goal.loop-at-preserved
loop-at-preserved g c =
    let rows = g.V.View.rows c.args.view.now in
    let k = c.loop-at.at in
    elim c.match-row.branch [
      | in-Some+in_ok-put_row w ↦
          let row = w.in-Some.row.now in
          let is : slice_get rows k ≡ Some row = sym w.in-Some.ensures in
          ap string_bytes w.text-is ∙ w.in_ok-put_row.ensures ∙ ap (λ (t : List ℕ). t ++ full_text (row ∷ [])) c.loop-at.invariant ∙ text_more rows k row is
      | in_default w ↦
          let within : k < length rows = omega (arith, c.loop-at-test.true, c.len-at-end.ensures.exact) in
          some_row rows k _ within (sym w.in_default.ensures)
    ]
