use Rattle.std.proofs.Common.{inr, ◌+◌, ◌++◌, drop, sym, ap, ◌∙◌, arith, string_bytes, append_assoc}
use Rattle.cds_replay.specs.Lines.{note_line, sent_lines}
use Rattle.cds_replay.proofs.Noticed.{next-line-one, no-line-one}
use Rattle.cds_replay.proofs.report.put_notes.Goals as goal
use Rattle.cds_replay.proofs.report.put_notes.Goals.{in-Some+in_ok-put_note, in_default}

pub loop-at-preserved : goal.loop-at-preserved
loop-at-preserved c = record {
  told =
      elim c.match-head.branch [
        | in-Some+in_ok-put_note w ↦
            ap (λ o. string_bytes o ++ sent_lines (c.loop-at.at + 1 + 1) (drop (c.loop-at.at + 1) c.args.sent.now)) w.out-is
            ∙ ap (λ v. v ++ sent_lines (c.loop-at.at + 1 + 1) (drop (c.loop-at.at + 1) c.args.sent.now)) w.in_ok-put_note.ensures
            ∙ append_assoc (string_bytes c.loop-at.out) (note_line (c.loop-at.at + 1) w.in-Some.head) (sent_lines (c.loop-at.at + 1 + 1) (drop (c.loop-at.at + 1) c.args.sent.now))
            ∙ ap (λ v. string_bytes c.loop-at.out ++ v) (sym (next-line-one c.loop-at.at c.args.sent.now w.in-Some.head (sym w.in-Some.is ∙ c.head.ensures)))
            ∙ c.loop-at.invariant.told
        | in_default w ↦
            ap (λ o. string_bytes o ++ sent_lines (c.loop-at.at + 1 + 1) (drop (c.loop-at.at + 1) c.args.sent.now)) w.out-is
            ∙ ap (λ v. string_bytes c.loop-at.out ++ v) (no-line-one c.loop-at.at c.args.sent.now (sym w.in_default.is ∙ c.head.ensures))
            ∙ c.loop-at.invariant.told
      ];
  within = inr (omega (arith, c.loop-at-test.true, c.len-at-end.ensures));
}
