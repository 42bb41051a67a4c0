use Rattle.std.proofs.Common.{ap, sym, ◌∙◌}
use Rattle.cds_memory.specs.Memory.{SourceState}
use Rattle.cds_memory.proofs.Items.{source_is_fresh}
use Rattle.cds_memory.proofs.folder.MemFolderFolder.open_at.Goals as goal

pub returns-in-Some-clause-no_faults : goal.returns-in-Some-clause-no_faults
returns-in-Some-clause-no_faults c =
    ap (λ (source : SourceState). source.faults) c.from_place.ensures
    ∙ (source_is_fresh c.as_slice-2.result.now c.args.path.now c.in-Some.source (sym c.in_ok-opened.ensures ∙ c.in-Some.is)).0

pub returns-in-Some-clause-unread : goal.returns-in-Some-clause-unread
returns-in-Some-clause-unread c =
    ap (λ (source : SourceState). source.moved) c.from_place.ensures
    ∙ (source_is_fresh c.as_slice-2.result.now c.args.path.now c.in-Some.source (sym c.in_ok-opened.ensures ∙ c.in-Some.is)).1
