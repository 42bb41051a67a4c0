-- One entry more, until the tree ends or there are too many.
use Rattle.std.proofs.Common.{◌≡◌, Bool, true, false, Option, List, [], ◌∷◌, ◌++◌, length, refl, sym, ap, subst, ◌∙◌, arith, length-append}
use Rattle.cds_outside.specs.declared.folder.Entry.{Entry}
use Rattle.cds_outside.specs.Entries.{FolderTold, Contents}
use Rattle.cds_scan.specs.Scanning.{IsRefused}
use Rattle.cds_scan.specs.Walking.{Ends, IsOver, IsStep, Reached, TakesEntry, TakesNext}
use Rattle.cds_scan.proofs.Reaching.{reached_later, reached_more, reached_none}
use Rattle.cds_scan.proofs.Steps.{err_exit}
use Rattle.cds_scan.proofs.Stops.{back_on, back_then, refused_at, refused_folder, stop_many, told_on}
use Rattle.cds_scan.proofs.walk.walk.Goals as goal

pub entries-init : goal.entries-init
entries-init g c =
    let folder = c.args.folder.now in
    let start = (g.F.Folder.told folder).file_faults in
    let R : List Entry → Type 0 = λ given. Reached (g.F.Folder.told folder).contents given c.new-found.result start start in
    record {
      counted = ap length c.requires;
      few = omega arith;
      reached = subst R (sym c.requires) (reached_none (g.F.Folder.told folder).contents c.new-found.result start c.new-found.ensures);
      never_falls = omega arith;
      ends = omega arith;
      back = (0, refl, refl);
      tree_stays = refl;
      contents_stay = refl;
      entry_faults_stay = refl;
    }

pub entries-preserved : goal.entries-preserved
entries-preserved g c =
    let first = c.args.folder.now in
    let folder = c.entries.folder in
    let after = c.take_next.new.folder in
    let inv = c.entries.invariant in
    let step = c.in_ok-ended.ensures in
    let start = (g.F.Folder.told first).file_faults in
    let before = (g.F.Folder.told folder).file_faults in
    let now = (g.F.Folder.told after).file_faults in
    let given = (g.F.Folder.told folder).given in
    let contents = (g.F.Folder.told first).contents in
    let S : Bool → Type 0 = λ b. IsStep b (g.F.Folder.told folder).tree (g.F.Folder.told folder).contents given (g.F.Folder.told after).given c.entries.found c.take_next.new.found before now in
    let next : TakesNext (g.F.Folder.told folder).tree (g.F.Folder.told folder).contents given (g.F.Folder.told after).given c.entries.found c.take_next.new.found before now = subst S c.if-ended.false step.ok in
    let T : Option Contents → Type 0 = λ k. TakesEntry k next.entry c.entries.found c.take_next.new.found before now in
    let takes : TakesEntry contents next.entry c.entries.found c.take_next.new.found before now = subst T inv.contents_stay next.takes in
    let R : List Entry → Type 0 = λ seen. Reached contents seen c.take_next.new.found start now in
    record {
      counted = omega (arith, ap length next.given, length-append given (next.entry ∷ []), inv.counted);
      few = omega (arith, c.entries-test.true);
      reached = subst R (sym next.given) (reached_more contents given next.entry c.entries.found c.take_next.new.found start before now inv.reached step.never_falls takes);
      never_falls = omega (arith, inv.never_falls, step.never_falls);
      ends = omega (arith, inv.ends, step.ends);
      back = back_then _ _ _ _ _ _ inv.back step.back;
      tree_stays = step.tree_stays ∙ inv.tree_stays;
      contents_stay = step.contents_stay ∙ inv.contents_stay;
      entry_faults_stay = step.entry_faults_stay ∙ inv.entry_faults_stay;
    }

pub returns-in_err-ended-clause-refused : goal.returns-in_err-ended-clause-refused
returns-in_err-ended-clause-refused g c =
    let first = c.args.folder.now in
    let folder = c.entries.folder in
    let inv = c.entries.invariant in
    err_exit (IsRefused (g.F.Folder.told first).tree (g.F.Folder.told first).contents (g.F.Folder.told first).entry_faults (g.F.Folder.told c.take_next.new.folder).entry_faults (g.F.Folder.told first).file_faults (g.F.Folder.told c.take_next.new.folder).file_faults)
    c.from_residual.result c.in_err-ended.field-0.0 c.from_residual.ensures.1
    (refused_at (g.F.Folder.told first).tree (g.F.Folder.told folder).tree (g.F.Folder.told first).contents (g.F.Folder.told folder).contents (g.F.Folder.told folder).given c.entries.found
    (g.F.Folder.told first).file_faults (g.F.Folder.told folder).file_faults (g.F.Folder.told c.take_next.new.folder).file_faults (g.F.Folder.told first).entry_faults (g.F.Folder.told folder).entry_faults (g.F.Folder.told c.take_next.new.folder).entry_faults
    c.in_err-ended.field-0.0 inv.tree_stays inv.contents_stay inv.entry_faults_stay inv.reached c.in_err-ended.ensures.never_falls (omega (arith, inv.counted, c.entries-test.true)) c.in_err-ended.ensures.err)

pub returns-in_err-ended-clause-goes : goal.returns-in_err-ended-clause-goes
returns-in_err-ended-clause-goes g c =
    let inv = c.entries.invariant in
    let step = c.in_err-ended.ensures in (
      step.tree_stays ∙ inv.tree_stays,
      step.contents_stay ∙ inv.contents_stay,
      omega (arith, inv.ends, step.ends, c.entries-test.true),
      back_then _ _ _ _ _ _ inv.back step.back,
      omega (arith, inv.entry_faults_stay, step.entry_faults_rise),
      omega (arith, inv.never_falls, step.never_falls),
    )

pub returns-then-ended-clause-walked : goal.returns-then-ended-clause-walked
returns-then-ended-clause-walked g c =
    let first = c.args.folder.now in
    let folder = c.entries.folder in
    let after = c.take_next.new.folder in
    let inv = c.entries.invariant in
    let step = c.in_ok-ended.ensures in
    let before = (g.F.Folder.told folder).file_faults in
    let now = (g.F.Folder.told after).file_faults in
    let given = (g.F.Folder.told folder).given in
    let S : Bool → Type 0 = λ b. IsStep b (g.F.Folder.told folder).tree (g.F.Folder.told folder).contents given (g.F.Folder.told after).given c.entries.found c.take_next.new.found before now in
    let end : Ends (g.F.Folder.told folder).tree given c.entries.found c.take_next.new.found = subst S c.if-ended.true step.ok in
    record {
      seen = given;
      whole = end.whole;
      told = told_on (g.F.Folder.told first).tree (g.F.Folder.told folder).tree (λ entries. entries ≡ given) inv.tree_stays end.told;
      few = omega (arith, inv.counted, inv.few);
      reached = reached_later (g.F.Folder.told first).contents given c.entries.found c.take_next.new.found (g.F.Folder.told first).file_faults before now inv.reached end.same step.never_falls;
    }

pub returns-then-ended-clause-goes : goal.returns-then-ended-clause-goes
returns-then-ended-clause-goes g c =
    let inv = c.entries.invariant in
    let step = c.in_ok-ended.ensures in (
      step.tree_stays ∙ inv.tree_stays,
      step.contents_stay ∙ inv.contents_stay,
      omega (arith, inv.ends, step.ends, c.entries-test.true),
      back_then _ _ _ _ _ _ inv.back step.back,
      omega (arith, inv.entry_faults_stay, step.entry_faults_rise),
      omega (arith, inv.never_falls, step.never_falls),
    )

pub returns-in_err-over-clause-refused : goal.returns-in_err-over-clause-refused
returns-in_err-over-clause-refused g c =
    let first = c.args.folder.now in
    let inv = c.entries.invariant in
    err_exit (IsRefused (g.F.Folder.told first).tree (g.F.Folder.told first).contents (g.F.Folder.told first).entry_faults (g.F.Folder.told c.is_over.new.folder).entry_faults (g.F.Folder.told first).file_faults (g.F.Folder.told c.is_over.new.folder).file_faults)
    c.from_residual-in_err-over.result c.in_err-over.field-0.0 c.from_residual-in_err-over.ensures.1
    (refused_folder (g.F.Folder.told first).tree (g.F.Folder.told first).contents (g.F.Folder.told first).entry_faults (g.F.Folder.told c.entries.folder).entry_faults (g.F.Folder.told c.is_over.new.folder).entry_faults (g.F.Folder.told first).file_faults (g.F.Folder.told c.is_over.new.folder).file_faults
    c.in_err-over.field-0.0 inv.entry_faults_stay c.in_err-over.ensures.err)

pub returns-in_err-over-clause-goes : goal.returns-in_err-over-clause-goes
returns-in_err-over-clause-goes g c =
    let inv = c.entries.invariant in
    let step = c.in_err-over.ensures in
    let told = step.others_stay in (
      ap (λ (t : FolderTold). t.tree) told ∙ inv.tree_stays,
      ap (λ (t : FolderTold). t.contents) told ∙ inv.contents_stay,
      omega (arith, inv.ends, inv.few, step.ends),
      back_on _ _ _ _ _ _ inv.back (ap (λ (t : FolderTold). t.opened) told) (ap (λ (t : FolderTold). t.returned) told),
      omega (arith, inv.entry_faults_stay, step.entry_faults_rise),
      omega (arith, inv.never_falls, ap (λ (t : FolderTold). t.file_faults) told),
    )

pub returns-then-over-clause-walked : goal.returns-then-over-clause-walked
returns-then-over-clause-walked g c =
    let first = c.args.folder.now in
    let folder = c.entries.folder in
    let after = c.is_over.new.folder in
    let inv = c.entries.invariant in
    let step = c.in_ok-over.ensures in
    let before = (g.F.Folder.told folder).file_faults in
    let now = (g.F.Folder.told after).file_faults in
    let given = (g.F.Folder.told folder).given in
    let S : Bool → Type 0 = λ b. IsOver b (g.F.Folder.told folder).tree given in
    let end : IsOver true (g.F.Folder.told folder).tree given = subst S c.if-over.true step.ok in
    record {
      seen = given;
      whole = end.0;
      told = told_on (g.F.Folder.told first).tree (g.F.Folder.told folder).tree (λ entries. entries ≡ given) inv.tree_stays end.1;
      few = omega (arith, inv.counted, inv.few);
      reached = reached_later (g.F.Folder.told first).contents given c.entries.found c.entries.found (g.F.Folder.told first).file_faults before now inv.reached refl (omega (arith, ap (λ (t : FolderTold). t.file_faults) step.others_stay));
    }

pub returns-then-over-clause-goes : goal.returns-then-over-clause-goes
returns-then-over-clause-goes g c =
    let inv = c.entries.invariant in
    let step = c.in_ok-over.ensures in
    let told = step.others_stay in (
      ap (λ (t : FolderTold). t.tree) told ∙ inv.tree_stays,
      ap (λ (t : FolderTold). t.contents) told ∙ inv.contents_stay,
      omega (arith, inv.ends, inv.few, step.ends),
      back_on _ _ _ _ _ _ inv.back (ap (λ (t : FolderTold). t.opened) told) (ap (λ (t : FolderTold). t.returned) told),
      omega (arith, inv.entry_faults_stay, step.entry_faults_rise),
      omega (arith, inv.never_falls, ap (λ (t : FolderTold). t.file_faults) told),
    )

pub returns-clause-refused : goal.returns-clause-refused
returns-clause-refused g c =
    let first = c.args.folder.now in
    let folder = c.entries.folder in
    let inv = c.entries.invariant in
    let given = (g.F.Folder.told folder).given in
    let S : Bool → Type 0 = λ b. IsOver b (g.F.Folder.told folder).tree given in
    let more : IsOver false (g.F.Folder.told folder).tree given = subst S c.if-over.false c.in_ok-over.ensures.ok in
    let now = (g.F.Folder.told c.is_over.new.folder).file_faults in
    let reached : Reached (g.F.Folder.told first).contents given c.entries.found (g.F.Folder.told first).file_faults now =
    reached_later (g.F.Folder.told first).contents given c.entries.found c.entries.found (g.F.Folder.told first).file_faults (g.F.Folder.told folder).file_faults now inv.reached refl (omega (arith, (ap (λ (t : FolderTold). t.file_faults) c.in_ok-over.ensures.others_stay))) in
    stop_many (g.F.Folder.told first).tree (g.F.Folder.told first).contents given c.entries.found (g.F.Folder.told first).file_faults now reached more.0
    (omega (arith, inv.counted, inv.few, c.entries-test.false))
    (told_on (g.F.Folder.told first).tree (g.F.Folder.told folder).tree (λ entries. (rest : List Entry) × (entries ≡ given ++ more.0 ∷ rest)) inv.tree_stays more.1)

pub returns-clause-goes : goal.returns-clause-goes
returns-clause-goes g c =
    let inv = c.entries.invariant in
    let step = c.in_ok-over.ensures in
    let told = step.others_stay in (
      ap (λ (t : FolderTold). t.tree) told ∙ inv.tree_stays,
      ap (λ (t : FolderTold). t.contents) told ∙ inv.contents_stay,
      omega (arith, inv.ends, inv.few, step.ends),
      back_on _ _ _ _ _ _ inv.back (ap (λ (t : FolderTold). t.opened) told) (ap (λ (t : FolderTold). t.returned) told),
      omega (arith, inv.entry_faults_stay, step.entry_faults_rise),
      omega (arith, inv.never_falls, ap (λ (t : FolderTold). t.file_faults) told),
    )
