use Rattle.std.proofs.Common.{◌-◌, nat_eq, List, filter, length, take, ap, ◌∙◌}
use Rattle.cds_replay.specs.declared.sent.KeptNote.{KeptNote}
use Rattle.cds_replay.specs.Sending.{named_before}
use Rattle.cds_replay.proofs.NotePlaces.{kept-named}
use Rattle.cds_replay.proofs.sent.Sent.before.Goals as goal

pub returns : goal.returns
returns c =
    c.named_in.ensures
    ∙ ap (λ (notes : List KeptNote). length (filter (λ (note : KeptNote). nat_eq note.to.sid.0 c.args.sid.0) notes))
    (c.split_at.ensures.front ∙ ap (λ (notes : List KeptNote). take (c.args.number - 1) notes) c.as_slice.ensures.value)
    ∙ kept-named c.args.sid.0 (c.args.number - 1) c.self.inside.bodies.items c.self.inside.notes.items
    ∙ ap (named_before c.args.sid.0 c.args.number) c.self.view_is
