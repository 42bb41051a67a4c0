use Rattle.std.proofs.Common.{◌≡◌, ◌∙◌, ℕ, true, false, Option, sym, subst, refl, ap}
use Rattle.cds_outside.specs.Entries.{FolderTold, Contents}
use Rattle.cds_scan.specs.Walking.{IsEntryFault, IsStepFault, TakesEntry, is_the_end}
use Rattle.cds_scan.proofs.Steps.{back_from, ended, ended_whole, err_exit, given_now, next_of, now_given, step_left}
use Rattle.cds_scan.proofs.walk.take_next.Goals as goal

pub returns-then-is_end-clause-ok : goal.returns-then-is_end-clause-ok
returns-then-is_end-clause-ok g c =
    let tree = (g.F.Folder.told c.args.folder.now).tree in
    let given = (g.F.Folder.told c.args.folder.now).given in
    let over : is_the_end c.in_ok-entry.entry ≡ true = sym c.is_end.ensures ∙ c.if-is_end.true in
    record {
      whole = ended_whole tree given c.in_ok-entry.entry _ c.in_ok-entry.ensures.new over;
      told = ended tree given c.in_ok-entry.entry c.in_ok-entry.ensures.next over;
      same = refl;
    }

pub take_entry-requires : goal.take_entry-requires
take_entry-requires g c =
    let going : is_the_end c.in_ok-entry.entry ≡ false = sym c.is_end.ensures ∙ c.if-is_end.false in
    given_now (g.F.Folder.told c.args.folder.now).tree (g.F.Folder.told c.args.folder.now).given c.in_ok-entry.entry (g.F.Folder.told c.entry.new.self).given c.in_ok-entry.ensures.given going

pub returns-in_err-take_entry-clause-err : goal.returns-in_err-take_entry-clause-err
returns-in_err-take_entry-clause-err g c =
    let tree = (g.F.Folder.told c.args.folder.now).tree in
    let given = (g.F.Folder.told c.args.folder.now).given in
    let going : is_the_end c.in_ok-entry.entry ≡ false = sym c.is_end.ensures ∙ c.if-is_end.false in
    let told = next_of tree given c.in_ok-entry.entry c.in_ok-entry.ensures.next going in
    err_exit (IsStepFault tree (g.F.Folder.told c.args.folder.now).contents given c.args.found.now _ _)
    c.from_residual-in_err-take_entry.result c.in_err-take_entry.field-0.0 c.from_residual-in_err-take_entry.ensures.1
    (step_left tree given (g.F.Folder.told c.args.folder.now).contents c.in_ok-entry.entry c.args.found.now _ _ c.in_err-take_entry.field-0.0 told
    (subst (λ k. IsEntryFault k c.in_ok-entry.entry c.args.found.now c.in_err-take_entry.field-0.0) (ap (λ (t : FolderTold). t.contents) c.in_ok-entry.ensures.others_stay) c.in_err-take_entry.ensures.err))

pub returns-clause-ok : goal.returns-clause-ok
returns-clause-ok g c =
    let tree = (g.F.Folder.told c.args.folder.now).tree in
    let given = (g.F.Folder.told c.args.folder.now).given in
    let going : is_the_end c.in_ok-entry.entry ≡ false = sym c.is_end.ensures ∙ c.if-is_end.false in
    let mid = c.entry.new.self in
    let after = c.take_entry.new.folder in
    let K : Option Contents → Type 0 = λ k. TakesEntry k c.in_ok-entry.entry c.args.found.now c.take_entry.new.found (g.F.Folder.told mid).file_faults (g.F.Folder.told after).file_faults in
    let N : ℕ → Type 0 = λ n. TakesEntry (g.F.Folder.told c.args.folder.now).contents c.in_ok-entry.entry c.args.found.now c.take_entry.new.found n (g.F.Folder.told after).file_faults in
    let takes = subst N (ap (λ (t : FolderTold). t.file_faults) c.in_ok-entry.ensures.others_stay) (subst K (ap (λ (t : FolderTold). t.contents) c.in_ok-entry.ensures.others_stay) c.in_ok-take_entry.ensures.ok) in
    record {
      entry = c.in_ok-entry.entry;
      given = (ap (λ (t : FolderTold). t.given) c.in_ok-take_entry.ensures.others_stay) ∙ now_given tree given c.in_ok-entry.entry (g.F.Folder.told c.entry.new.self).given c.in_ok-entry.ensures.given going;
      told = next_of tree given c.in_ok-entry.entry c.in_ok-entry.ensures.next going;
      takes = takes;
    }

pub returns-in_err-take_entry-clause-back : goal.returns-in_err-take_entry-clause-back
returns-in_err-take_entry-clause-back g c = back_from _ _ _ _ _ _ (ap (λ (t : FolderTold). t.opened) c.in_ok-entry.ensures.others_stay) (ap (λ (t : FolderTold). t.returned) c.in_ok-entry.ensures.others_stay) c.in_err-take_entry.ensures.back

pub returns-clause-back : goal.returns-clause-back
returns-clause-back g c = back_from _ _ _ _ _ _ (ap (λ (t : FolderTold). t.opened) c.in_ok-entry.ensures.others_stay) (ap (λ (t : FolderTold). t.returned) c.in_ok-entry.ensures.others_stay) c.in_ok-take_entry.ensures.back
