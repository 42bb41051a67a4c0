use Rattle.std.proofs.Common.{◌++◌, ℕ, List, Ok, subst}
use Rattle.cds_generate.specs.Generated.{deliver_line}
use Rattle.cds_generate.specs.Writing.{Took}
use Rattle.cds_generate.proofs.Notes.{note-renewed, note-twice, note-late, note-once}
use Rattle.cds_generate.proofs.Pieces.{took_none}
use Rattle.cds_generate.proofs.writing.write_note.Goals as goal

pub returns-then-kind-eq0 : goal.returns-then-kind-eq0
returns-then-kind-eq0 g c =
    subst (λ (t : List ℕ). Took c.write_renewed.result (g.K.Sink.told c.args.sink.now) t (g.K.Sink.told c.write_renewed.new.sink))
    (note-renewed c.args.reads c.args.kind c.args.note c.if-kind-eq0.true) c.write_renewed.ensures

pub returns-then-kind-eq1 : goal.returns-then-kind-eq1
returns-then-kind-eq1 g c =
    subst (λ (t : List ℕ). Took c.write_text.result (g.K.Sink.told c.args.sink.now) t (g.K.Sink.told c.write_text.new.sink))
    (note-twice c.args.reads c.args.kind c.args.note c.if-kind-eq1.true)
    (c.write_text.ensures (deliver_line c.args.note ++ deliver_line c.args.note) c.twice_text.ensures)

pub returns-then-kind-eq2 : goal.returns-then-kind-eq2
returns-then-kind-eq2 g c =
    subst (λ (t : List ℕ). Took (Ok tt) (g.K.Sink.told c.args.sink.now) t (g.K.Sink.told c.args.sink.now))
    (note-late c.args.reads c.args.kind c.args.note c.if-kind-eq2.true) (took_none (g.K.Sink.told c.args.sink.now))

pub returns-else-kind-eq2 : goal.returns-else-kind-eq2
returns-else-kind-eq2 g c =
    subst (λ (t : List ℕ). Took c.write_deliver.result (g.K.Sink.told c.args.sink.now) t (g.K.Sink.told c.write_deliver.new.sink))
    (note-once c.args.reads c.args.kind c.args.note c.if-kind-eq0.false c.if-kind-eq1.false c.if-kind-eq2.false) c.write_deliver.ensures
