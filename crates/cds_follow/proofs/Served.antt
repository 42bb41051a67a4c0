-- What a server has at two lengths of the list of its commands, and what it tells between.
use Rattle.std.proofs.Common.{◌≡◌, ◌⊎◌, inl, inr, ◌+◌, ◌-◌, ◌<◌, ◌≤◌, ℕ, true, false, nat_eq, List, [], ◌∷◌, ◌++◌, map, filter, length, Some, sym, ap, ◌∙◌, subst, arith, length-append}
use Rattle.std.specs.List.{AllByRecursion, list_any, filter_map}
use Rattle.std.proofs.lemmas.Bool.{cases_lt}
use Rattle.std.proofs.lemmas.List.{length-reverse}
use Rattle.std.proofs.lemmas.List.FromFn.{length-range_with_len}
use Rattle.cds_object.specs.Object.{ObjectRow, is_folder}
use Rattle.cds_object.specs.Tree.{row_of, IsTree}
use Rattle.cds_object.specs.declared.event.Event.{Event}
use Rattle.cds_catalog.specs.Library.{FolderMap, found}
use Rattle.cds_catalog.specs.History.{History, latest, changes_of, end_of}
use Rattle.cds_catalog.specs.Catalog.{catalog}
use Rattle.cds_catalog.specs.Laws.{AreLibraries}
use Rattle.cds_catalog.specs.Replay.{IsLegal}
use Rattle.cds_catalog.proofs.Maps.{older_are_libraries}
use Rattle.cds_catalog.proofs.Found.{history_is_legal}
use Rattle.cds_catalog.proofs.Numbers.{ends_rise, changes_since, changes_of_more, equal_ends_equal_catalogs}
use Rattle.cds_catalog.proofs.StepsTree.{catalogs_are_trees-proof}
use Rattle.cds_catalog.proofs.StepsWithin.{length-map}
use Rattle.cds_catalog.proofs.StepsRows.{rows_over}
use Rattle.cds_catalog.proofs.Versions.{versions_determine}
use Rattle.cds_load.specs.Loads.{IsServer}
use Rattle.cds_changes.specs.Events.{events_between}
use Rattle.cds_changes.proofs.Spans.{spans-stay}
use Rattle.cds_changes.proofs.Numbers.{scan-numbers}
use Rattle.cds_commands.specs.Commands.{Command, scans_of, oldest}
use Rattle.cds_follow.specs.Copy.{Happening, Changes, deletes, marks, since_deletion, KnownRow}
use Rattle.cds_follow.specs.StepLaws.{AreLike}
use Rattle.cds_follow.specs.ServerLaws.{served, befalling, commands_are_servers, versions_have_one_content, versions_are_settled, versions_are_told}
use Rattle.cds_commands.specs.Notes.{told_between}
use Rattle.cds_follow.proofs.Like.{unplaced}
use Rattle.cds_follow.proofs.LeadsSpan.{LeadsTo, told, scan_told, nothing-told, told-more, catalog-over, spans-lead}
use Rattle.cds_follow.proofs.Settled.{settled-rows, one-id-rows, told-rows, span-tells}
use Rattle.cds_commands.proofs.Scanned.{scans-first, dropped-grows, oldest-grows}
use Rattle.cds_object.specs.Events.{is_change, update_of}

-- ---- how many changes are told

length-scan : (first : ℕ) (library : FolderMap) (older : List FolderMap) → length (scan_told first library older) ≡ length (found (latest older) library)
length-scan first library older =
    sym (length-map update_of (scan_told first library older))
    ∙ ap length (scan-numbers first (changes_of older) (found (latest older) library) (found (latest older) library))
    ∙ length-range_with_len (first + length (changes_of older) + 1) (length (found (latest older) library))

pub length-told : (first : ℕ) (newer older : List FolderMap) → length (told first newer older) + length (changes_of older) ≡ length (changes_of (newer ++ older))
length-told first [] older = let none = ap length (nothing-told first older) in omega (arith, none)
length-told first (library ∷ newer) older =
    let more = ap length (told-more first library newer older) in
    let parts = length-append (told first newer older) (scan_told first library (newer ++ older)) in
    let scan = length-scan first library (newer ++ older) in
    let rest = length-told first newer older in
    let both = length-append (found (latest (newer ++ older)) library) (changes_of (newer ++ older)) in
    omega (arith, more, parts, scan, rest, both)

-- ---- a server at two lengths

pub record Pair (token : List ℕ) (first : ℕ) (commands : List Command) (j k : ℕ) : Type 0 where
  pub newer : List FolderMap
  pub older : List FolderMap
  pub early : scans_of first (oldest j commands) ≡ record { first = first; maps = older }
  pub late : scans_of first (oldest k commands) ≡ record { first = first; maps = newer ++ older }
  pub libraries : AreLibraries (newer ++ older)
  pub tells : told_between first commands (served token first commands j).number (served token first commands k).number ≡ told first newer older

module _ (token : List ℕ) (first : ℕ) (commands : List Command) (are-libraries : AreLibraries (scans_of first commands).maps) where
  pub pair : (j k : ℕ) → j ≤ k → Pair token first commands j k
  pair j k l =
      let grows = oldest-grows first commands j k l in
      let whole = dropped-grows first (length commands - k) commands in
      let older : List FolderMap = (scans_of first (oldest j commands)).maps in
      let all : (scans_of first commands).maps ≡ whole.0 ++ (grows.0 ++ older) = whole.1 ∙ ap (λ (l : List FolderMap). whole.0 ++ l) grows.1 in
      let early : scans_of first (oldest j commands) ≡ record { first = first; maps = older } = scans-first first (oldest j commands) in
      let late : scans_of first (oldest k commands) ≡ record { first = first; maps = grows.0 ++ older } =
      scans-first first (oldest k commands) ∙ ap (λ (l : List FolderMap). record { first = first; maps = l }) grows.1 in
      let history : scans_of first commands ≡ record { first = first; maps = whole.0 ++ (grows.0 ++ older) } =
      scans-first first commands ∙ ap (λ (l : List FolderMap). record { first = first; maps = l }) all in
      record {
        newer = grows.0;
        older = older;
        early = early;
        late = late;
        libraries = older_are_libraries whole.0 (grows.0 ++ older) (subst AreLibraries all are-libraries);
        tells = (λ i. filter is_change (events_between (history i) (end_of (early i)) (end_of (late i))))
            ∙ ap (filter is_change) (spans-stay first whole.0 (grows.0 ++ older) (end_of (record { first = first; maps = older }))
            (end_of (record { first = first; maps = grows.0 ++ older })) (omega arith));
      }

  pub rows-late : (j k : ℕ) (p : Pair token first commands j k) → (served token first commands k).rows ≡ unplaced (rows_over first (changes_of (p.newer ++ p.older)))
  rows-late j k p = ap catalog p.late ∙ catalog-over first (p.newer ++ p.older) p.libraries

  pub rows-early : (j k : ℕ) (p : Pair token first commands j k) → (served token first commands j).rows ≡ unplaced (rows_over first (changes_of p.older))
  rows-early j k p = ap catalog p.early ∙ catalog-over first p.older (older_are_libraries p.newer p.older p.libraries)

  rows-split : (j k : ℕ) (p : Pair token first commands j k)
      → (served token first commands k).rows ≡ unplaced (rows_over first (changes_since p.newer p.older ++ changes_of p.older))
  rows-split j k p = rows-late j k p ∙ ap (λ (l : List _). unplaced (rows_over first l)) (changes_of_more p.newer p.older)

  legal-split : (j k : ℕ) (p : Pair token first commands j k) → IsLegal (changes_since p.newer p.older ++ changes_of p.older)
  legal-split j k p = subst IsLegal (changes_of_more p.newer p.older) (history_is_legal (p.newer ++ p.older) p.libraries).0

  pub risen : (j k : ℕ) → j ≤ k → (served token first commands j).number ≤ (served token first commands k).number
  risen j k l =
      let p = pair j k l in
      let rise = ends_rise first p.newer p.older in
      let early = ap end_of p.early in
      let late = ap end_of p.late in
      omega (arith, rise, early, late)

  same-rows : (j k : ℕ) → j ≤ k → (served token first commands j).number ≡ (served token first commands k).number → (served token first commands k).rows ≡ (served token first commands j).rows
  same-rows j k l e =
      let p = pair j k l in
      ap catalog p.late ∙ equal_ends_equal_catalogs first p.newer p.older p.libraries (sym (ap end_of p.late) ∙ sym e ∙ ap end_of p.early)
      ∙ sym (ap catalog p.early)

  pub serves : IsServer (served token first commands)
  serves = record {
    trees = λ k. let p = pair k k (omega arith) in
        subst (λ (h : History). IsTree (catalog h)) (sym p.early)
        (catalogs_are_trees-proof (record { first = first; maps = p.older }) (older_are_libraries p.newer p.older p.libraries));
    rising = risen;
    same = same;
  }
    where
      same : (j k : ℕ) → (served token first commands j).number ≡ (served token first commands k).number → (served token first commands j).rows ≡ (served token first commands k).rows
      same j k e = by (cases_lt j k)
        where
          by : (j < k) ⊎ (k ≤ j) → (served token first commands j).rows ≡ (served token first commands k).rows
          by (inl l) = sym (same-rows j k (omega (arith, l)) e)
          by (inr l) = same-rows k j l (sym e)

  -- no number passes the last
  room-by : end_of (scans_of first commands) ≤ 4294967295 → (j k : ℕ) (p : Pair token first commands j k) → end_of (record { first = first; maps = p.newer ++ p.older }) ≤ 4294967295
  room-by room j k p =
      let whole = dropped-grows first (length commands - k) commands in
      let rise = ends_rise first whole.0 (scans_of first (oldest k commands)).maps in
      let most : end_of (scans_of first commands) ≡ end_of (record { first = first; maps = whole.0 ++ (scans_of first (oldest k commands)).maps }) =
      ap end_of (scans-first first commands ∙ ap (λ (l : List FolderMap). record { first = first; maps = l }) whole.1) in
      let some : end_of (scans_of first (oldest k commands)) ≡ end_of (record { first = first; maps = (scans_of first (oldest k commands)).maps }) = ap end_of (scans-first first (oldest k commands)) in
      let late = ap end_of p.late in
      omega (arith, room, rise, most, some, late)

  -- what is known at one length goes on to another with what was told between
  pub served-leads : end_of (scans_of first commands) ≤ 4294967295 → (j k : ℕ) → j ≤ k → (known : List KnownRow) → AreLike known (served token first commands j).rows
      → LeadsTo known (told_between first commands (served token first commands j).number (served token first commands k).number) (served token first commands k).rows
  served-leads room j k l known like =
      let p = pair j k l in
      subst (λ (rows : List ObjectRow). LeadsTo known (told_between first commands (served token first commands j).number (served token first commands k).number) rows) (sym (ap catalog p.late))
      (subst (λ (events : List Event). LeadsTo known events (catalog (record { first = first; maps = p.newer ++ p.older }))) (sym p.tells)
      (spans-lead first p.newer p.older known p.libraries (room-by room j k p) (subst (AreLike known) (ap catalog p.early) like)))

  pub settled : (j k id : ℕ) (row : ObjectRow) → j ≤ k → row_of id (served token first commands k).rows ≡ Some row → row.object_update ≤ (served token first commands j).number
      → (before : ObjectRow) × (row_of id (served token first commands j).rows ≡ Some before) × (before.content ≡ row.content) × (before.object_update ≡ row.object_update)
  settled j k id row l f low =
      let p = pair j k l in
      let early = ap end_of p.early in
      let found = settled-rows first (changes_since p.newer p.older) (changes_of p.older) (legal-split j k p) id row
      (subst (λ (rows : List ObjectRow). row_of id rows ≡ Some row) (rows-split j k p) f) (omega (arith, low, early)) in
      (found.0, subst (λ (rows : List ObjectRow). row_of id rows ≡ Some found.0) (sym (rows-early j k p)) found.1, found.2, found.3)

  -- of one id: the same parent and kind, and, with one objectUpdateID, the same content
  pub one-id : (j k id : ℕ) (row before : ObjectRow) → j ≤ k → row_of id (served token first commands k).rows ≡ Some row → row_of id (served token first commands j).rows ≡ Some before
      → (before.parent ≡ row.parent) × (is_folder before.content ≡ is_folder row.content) × (before.object_update ≡ row.object_update → before.content ≡ row.content)
  one-id j k id row before l f g =
      let p = pair j k l in
      let same = one-id-rows first (changes_since p.newer p.older) (changes_of p.older) (legal-split j k p) id row before
      (subst (λ (rows : List ObjectRow). row_of id rows ≡ Some row) (rows-split j k p) f)
      (subst (λ (rows : List ObjectRow). row_of id rows ≡ Some before) (rows-early j k p) g) in (
        same.0,
        same.1,
        (λ e. sym (versions_determine first p.newer p.older id row before p.libraries
            (subst (λ (h : History). row_of id (catalog h) ≡ Some row) p.late f)
            (subst (λ (h : History). row_of id (catalog h) ≡ Some before) p.early g) (sym e))),
      )

  length-befalling : (events : List Event) → length (befalling events) ≡ length events
  length-befalling events = length-reverse (map Changes events) ∙ length-map Changes events

  pub told-of : (j k id : ℕ) (row : ObjectRow) → j ≤ k → row_of id (served token first commands k).rows ≡ Some row
      → (row.object_update ≤ (served token first commands j).number → AllByRecursion (λ (h : Happening). deletes id h ≡ false)
      (befalling (told_between first commands (served token first commands j).number (served token first commands k).number)))
      × ((served token first commands j).number < row.object_update → list_any (nat_eq row.object_update) (filter_map (marks id) (since_deletion id
      (befalling (told_between first commands (served token first commands j).number (served token first commands k).number)))) ≡ true)
  told-of j k id row l f =
      let p = pair j k l in
      let early = ap end_of p.early in
      let many = length-told first p.newer p.older in
      let long = length-befalling (told first p.newer p.older) in
      let is = told-rows first (befalling (told first p.newer p.older)) (changes_of (p.newer ++ p.older)) (span-tells first p.newer p.older)
      (history_is_legal (p.newer ++ p.older) p.libraries).0 id row (subst (λ (rows : List ObjectRow). row_of id rows ≡ Some row) (rows-late j k p) f) in (
        (λ low. subst (λ (events : List Event). AllByRecursion (λ (h : Happening). deletes id h ≡ false) (befalling events)) (sym p.tells)
            (is.0 (omega (arith, low, early, many, long)))),
        (λ high. subst (λ (events : List Event). list_any (nat_eq row.object_update) (filter_map (marks id) (since_deletion id (befalling events))) ≡ true) (sym p.tells)
            (is.1 (omega (arith, high, early, many, long)))),
      )

pub commands-serve : commands_are_servers
commands-serve token first commands libraries = serves token first commands libraries

pub one-content : versions_have_one_content
one-content token first commands j k id row other libraries f g = by (cases_lt j k)
  where
    by : (j < k) ⊎ (k ≤ j) → (row.parent ≡ other.parent) × (is_folder row.content ≡ is_folder other.content) × (row.object_update ≡ other.object_update → row.content ≡ other.content)
    by (inl l) = one-id token first commands libraries j k id other row (omega (arith, l)) g f
    by (inr l) =
        let same = one-id token first commands libraries k j id row other l f g in
        (sym same.0, sym same.1, (λ e. sym (same.2 (sym e))))

pub versions-settled : versions_are_settled
versions-settled token first commands j k id row libraries l f low = settled token first commands libraries j k id row l f low

pub versions-told : versions_are_told
versions-told token first commands j k id row libraries l f = told-of token first commands libraries j k id row l f
