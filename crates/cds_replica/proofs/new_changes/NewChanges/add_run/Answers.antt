use Rattle.std.proofs.Common.{inl, inr, ◌∙◌, sym, ap, refl, arith}
use Rattle.std.specs.Prelude.{option_copied}
use Rattle.cds_replica.specs.Inboxed.{of_name}
use Rattle.cds_replica.proofs.NewOnes.{tells-run_none, tells-run_some, tells-run_all, tells-run_start}
use Rattle.cds_replica.proofs.new_changes.NewChanges.add_run.Goals as goal
use Rattle.cds_replica.proofs.new_changes.NewChanges.add_run.Goals.{in-Some+in_ok-add, in_default}

pub loop-place-init : goal.loop-place-init
loop-place-init c = record {
  told = tells-run_start c.args.from (of_name c.args.sid.0 c.args.notes.now) c.args.self.now;
  within = inl refl;
}

pub loop-place-preserved : goal.loop-place-preserved
loop-place-preserved c = record {
  told =
      elim c.match-note_of.branch [
        | in-Some+in_ok-add w ↦
            w.self-is ∙ w.in_ok-add.ensures
            ∙ tells-run_some c.args.from c.loop-place.place (of_name c.args.sid.0 c.args.notes.now) w.in-Some.note.now c.args.self.now c.loop-place.self c.loop-place.auto.place c.loop-place.invariant.told
            (sym c.note_of.ensures.note ∙ ap option_copied w.in-Some.is)
        | in_default w ↦
            w.self-is
            ∙ tells-run_none c.args.from c.loop-place.place (of_name c.args.sid.0 c.args.notes.now) c.args.self.now c.loop-place.self c.loop-place.auto.place c.loop-place.invariant.told
            (sym c.note_of.ensures.note ∙ ap option_copied w.in_default.is)
      ];
  within = inr (omega (arith, c.loop-place-test.true));
}

pub returns : goal.returns
returns c =
    tells-run_all c.args.from c.args.to c.loop-place.place (of_name c.args.sid.0 c.args.notes.now) c.args.self.now c.loop-place.self c.loop-place-test.false
    c.loop-place.invariant.within c.loop-place.invariant.told
