-- Each place has its own row, and an id names one place for the whole history.
use Rattle.std.proofs.Common.{◌≡◌, ◌+◌, ◌<◌, ◌≤◌, ℕ, Bool, true, false, cond, nat_eq, filter, map, List, [], ◌∷◌, ◌++◌, Option, Some, None, refl, sym, ◌∙◌, ap, subst, arith}
use Rattle.std.specs.List.{AllByRecursion, count_by}
use Rattle.std.specs.Option.{option_to_list}
use Rattle.std.proofs.lemmas.Bool.Decides.{nat_tests}
use Rattle.std.proofs.lemmas.Option.{same_Some}
use Rattle.cds_object.specs.Path.{same_path}
use Rattle.cds_object.specs.declared.content.Content.{Content}
use Rattle.cds_catalog.specs.Library.{FolderMap, content_at}
use Rattle.cds_catalog.specs.History.{latest, changes_of, is_addition}
use Rattle.cds_catalog.specs.Catalog.{PlacedRow, id_of, placed_rows}
use Rattle.cds_catalog.specs.Laws.{AreLibraries}
use Rattle.cds_catalog.specs.Replay.{IsLegal}
use Rattle.cds_catalog.specs.RowLaws.{standing_at, said_at, places_have_their_rows, HaveOnePlace, ids_name_one_place}
use Rattle.cds_catalog.specs.declared.change.Change.{Change}
use Rattle.cds_catalog.specs.declared.change.Change.TheVariants.{Deletion, Addition, Modification}
use Rattle.cds_catalog.proofs.Paths.{same_path_is}
use Rattle.cds_catalog.proofs.Maps.{older_are_libraries}
use Rattle.cds_catalog.proofs.Found.{history_is_legal}
use Rattle.cds_catalog.proofs.Numbers.{changes_since, changes_of_more}
use Rattle.cds_catalog.proofs.StepsPaths.{Place}
use Rattle.cds_catalog.proofs.StepsFind.{Entry, find_in, Apart, each-weaker, each-map, count_by-cons, Apart_from_Rising}
use Rattle.cds_catalog.proofs.StepsLive.{shown, find_live}
use Rattle.cds_catalog.proofs.StepsIds.{id_drawn, id_root, ids_rise, id_kept, id_new}
use Rattle.cds_catalog.proofs.StepsRows.{row_over, rows_over}
use Rattle.cds_catalog.proofs.StepsCatalog.{placed_rows_over}
use Rattle.cds_catalog.proofs.StepsScan.{entry_of, entries_of_rows}
use Rattle.cds_catalog.proofs.Live.{live}

-- ---- own rows

-- the entries at a place
abbrev at_place : Place → FolderMap → List Content
at_place p es = map (λ (e : Entry). e.1) (filter (λ e. same_path p e.0) es)

none_away : (es : FolderMap) (p : Place) → AllByRecursion (λ o. same_path p o.0 ≡ false) es → at_place p es ≡ []
none_away [] p away = refl
none_away (e ∷ es) p away =
    (λ i. map (λ (e : Entry). e.1) (cond (away.0 i) (e ∷ filter (λ e. same_path p e.0) es) (filter (λ e. same_path p e.0) es))) ∙ none_away es p away.1

at_place_found : (es : FolderMap) (p : Place) → Apart es → at_place p es ≡ option_to_list (find_in es p)
at_place_found [] p apart = refl
at_place_found (e ∷ es) p apart = by (same_path p e.0) refl (at_place_found es p apart.1)
  where
    by : (b : Bool) → same_path p e.0 ≡ b → at_place p es ≡ option_to_list (find_in es p)
        → map (λ (e : Entry). e.1) (cond b (e ∷ filter (λ e. same_path p e.0) es) (filter (λ e. same_path p e.0) es)) ≡ option_to_list (cond b (Some e.1) (find_in es p))
    by true x r = ap (λ (l : List Content). e.1 ∷ l) (none_away es p (subst (λ q. AllByRecursion (λ o. same_path q o.0 ≡ false) es) (sym (same_path_is p e.0 x)) apart.0))
    by false x r = r

said_entries : (path : Place) (rows : List PlacedRow) → said_at path rows ≡ at_place path (map entry_of rows)
said_entries path [] = refl
said_entries path (placed ∷ rows) = by (same_path path placed.0) (said_entries path rows)
  where
    by : (b : Bool) → said_at path rows ≡ at_place path (map entry_of rows)
        → map (λ (placed : PlacedRow). placed.1.content) (cond b (placed ∷ filter (λ placed. same_path path placed.0) rows) (filter (λ placed. same_path path placed.0) rows))
        ≡ map (λ (e : Entry). e.1) (cond b (entry_of placed ∷ filter (λ e. same_path path e.0) (map entry_of rows)) (filter (λ e. same_path path e.0) (map entry_of rows)))
    by true r = ap (λ (l : List Content). placed.1.content ∷ l) r
    by false r = r

shown_at : (changes : List Change) → IsLegal changes → (library : FolderMap) → ((p : Place) → find_in (live changes) p ≡ content_at library p)
    → (path : Place) → find_in (shown changes) path ≡ standing_at library path
shown_at changes legal library same [] = refl
shown_at changes legal library same (name ∷ names) = same (name ∷ names)

pub places_have_their_rows-proof : places_have_their_rows
places_have_their_rows-proof history all path =
    let legal = history_is_legal history.maps all in
    let changes : List Change = changes_of history.maps in
    said_entries path (placed_rows history) ∙ ap (at_place path) (entries_of_rows history all)
    ∙ at_place_found (shown changes) path (Apart_from_Rising (id_of changes) (shown changes) (ids_rise changes legal.0))
    ∙ ap option_to_list (shown_at changes legal.0 (latest history.maps) (λ p. find_live changes legal.0 p ∙ legal.1 p) path)

-- ---- one place for an id

-- the place for which an id was drawn; the root's for 0
abbrev drawn_for : ℕ → List Change → Option Place
drawn_for id [] = cond (nat_eq id 0) (Some []) None
drawn_for id (change ∷ older) = by change (drawn_for id older)
  where
    by : Change → Option Place → Option Place
    by (Deletion at) earlier = earlier
    by (Addition at content) earlier = cond (nat_eq id (1 + count_by is_addition older)) (Some at) earlier
    by (Modification at content) earlier = earlier

not_last : (n m : ℕ) → n ≤ m → nat_eq n (1 + m) ≡ false
not_last n m h = grind (arith, nat_tests)

is_last : (n m : ℕ) → n ≡ 1 + m → nat_eq n (1 + m) ≡ true
is_last n m h = grind (arith, nat_tests)

drawn_before : (id : ℕ) (change : Change) (older : List Change) → id ≤ count_by is_addition older → drawn_for id (change ∷ older) ≡ drawn_for id older
drawn_before id (Deletion at) older low = refl
drawn_before id (Addition at content) older low = ap (λ b. cond b (Some at) (drawn_for id older)) (not_last id (count_by is_addition older) low)
drawn_before id (Modification at content) older low = refl

more_drawn : (newer older : List Change) → count_by is_addition older ≤ count_by is_addition (newer ++ older)
more_drawn [] older = omega arith
more_drawn (change ∷ newer) older =
    let one = count_by-cons is_addition change (newer ++ older) in
    let rest = more_drawn newer older in
    omega arith

drawn_stays : (id : ℕ) (newer older : List Change) → id ≤ count_by is_addition older → drawn_for id (newer ++ older) ≡ drawn_for id older
drawn_stays id [] older low = refl
drawn_stays id (change ∷ newer) older low =
    let more = more_drawn newer older in
    drawn_before id change (newer ++ older) (omega arith) ∙ drawn_stays id newer older low

drawn_root : (changes : List Change) → drawn_for 0 changes ≡ Some []
drawn_root [] = refl
drawn_root (change ∷ older) = drawn_before 0 change older (omega arith) ∙ drawn_root older

-- what was ever added has its id drawn for its place
drawn_here : (changes : List Change) (p : Place) → 0 < id_of changes p → drawn_for (id_of changes p) changes ≡ Some p
drawn_here [] p some = absurd (omega arith)
drawn_here (Deletion at ∷ older) p some = drawn_here older p some
drawn_here (Addition at content ∷ older) p some = by (same_path p at) refl (drawn_here older p)
  where
    by : (b : Bool) → same_path p at ≡ b → (0 < id_of older p → drawn_for (id_of older p) older ≡ Some p)
        → drawn_for (id_of (Addition at content ∷ older) p) (Addition at content ∷ older) ≡ Some p
    by true x r =
        ap (λ b. cond b (Some at) (drawn_for (id_of (Addition at content ∷ older) p) older))
        (is_last (id_of (Addition at content ∷ older) p) (count_by is_addition older) (id_new at content older p x))
        ∙ ap (λ q. Some q) (sym (same_path_is p at x))
    by false x r =
        let kept : id_of (Addition at content ∷ older) p ≡ id_of older p = id_kept at content older p x in
        let low = id_drawn older p in
        drawn_before (id_of (Addition at content ∷ older) p) (Addition at content) older (omega arith)
        ∙ ap (λ n. drawn_for n older) kept ∙ r (omega arith)
drawn_here (Modification at content ∷ older) p some = drawn_here older p some

-- a row whose id was drawn for its place
record IsDrawn (changes : List Change) (placed : PlacedRow) : Type 0 where
  low : placed.1.id ≤ count_by is_addition changes
  place : drawn_for placed.1.id changes ≡ Some placed.0

rows_drawn : (first : ℕ) (changes : List Change) → IsLegal changes → AllByRecursion (IsDrawn changes) (rows_over first changes)
rows_drawn first changes legal =
    each-map (IsDrawn changes) (row_over first changes) (shown changes) (
      record { low = id_drawn changes []; place = ap (λ n. drawn_for n changes) (id_root changes legal) ∙ drawn_root changes },
      each-weaker (λ (o : Entry). id_of changes [] < id_of changes o.0) (λ (o : Entry). IsDrawn changes (row_over first changes o))
          (λ o above. record { low = id_drawn changes o.0; place = drawn_here changes o.0 (omega arith) })
          (live changes) (ids_rise changes legal).0,
    )

catalog_drawn : (first : ℕ) (maps : List FolderMap) → AreLibraries maps → AllByRecursion (IsDrawn (changes_of maps)) (placed_rows (record { first = first; maps = maps }))
catalog_drawn first maps all =
    subst (AllByRecursion (IsDrawn (changes_of maps))) (sym (placed_rows_over first maps all)) (rows_drawn first (changes_of maps) (history_is_legal maps all).0)

one_place : (newer older : List Change) (now before : PlacedRow) → IsDrawn (newer ++ older) now → IsDrawn older before → HaveOnePlace now before
one_place newer older now before drawn was same =
    let stays = drawn_stays before.1.id newer older was.low in
    same_Some now.0 before.0 (sym drawn.place ∙ ap (λ n. drawn_for n (newer ++ older)) same ∙ stays ∙ was.place)

pub ids_name_one_place-proof : ids_name_one_place
ids_name_one_place-proof first newer older all =
    let more = changes_of_more newer older in
    each-weaker (IsDrawn (changes_of (newer ++ older)))
    (λ now. AllByRecursion (HaveOnePlace now) (placed_rows (record { first = first; maps = older })))
    (λ now drawn.
    each-weaker (IsDrawn (changes_of older)) (HaveOnePlace now)
    (λ before was. one_place (changes_since newer older) (changes_of older) now before (subst (λ l. IsDrawn l now) more drawn) was)
    (placed_rows (record { first = first; maps = older })) (catalog_drawn first older (older_are_libraries newer older all)))
    (placed_rows (record { first = first; maps = newer ++ older })) (catalog_drawn first (newer ++ older) all)
