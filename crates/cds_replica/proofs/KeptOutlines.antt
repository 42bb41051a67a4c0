-- Whether changes can be is told by the rows in outline.
use Rattle.std.proofs.Common.{◌≡◌, ℕ, Bool, true, false, cond, not, ◌&&◌, ◌||◌, nat_eq, nat_lt, List, [], ◌∷◌, map, filter, Option, Some, refl, sym, ap, ◌∙◌}
use Rattle.std.specs.Option.{option_map, option_eq}
use Rattle.cds_object.specs.declared.row.Trackers.{Trackers}
use Rattle.cds_object.specs.declared.event.Event.{Event}
use Rattle.cds_object.specs.declared.event.Event.TheVariants.{ObjAdd, ObjMod, ObjDel, StDone}
use Rattle.cds_load.specs.Stages.{put_by}
use Rattle.cds_follow.specs.Copy.{KnownRow, knows, knows_container, knows_child, counted, parent_in, added_row, put_known, changed, counts_addition, counts_modification, counts_deletion}
use Rattle.cds_replica.specs.CopyState.{KeptRow}
use Rattle.cds_replica.specs.CopySteps.{cannot_come, first_cannot}
use Rattle.cds_replica.specs.Outlines.{outline_of, outlines_of, outline_id, has_object, has_container, has_child, outline_cannot, outlines_changed, outlines_cannot}
use Rattle.cds_replica.specs.declared.outline.Outline.{Outline}
use Rattle.cds_object.specs.Events.{object_of}

has-object : (id : ℕ) (rows : List KnownRow) → has_object id (map outline_of rows) ≡ knows id rows
has-object id [] = refl
has-object id (row ∷ rows) = ap (λ (b : Bool). nat_eq row.id id || b) (has-object id rows)

has-container : (id : ℕ) (rows : List KnownRow) → has_container id (map outline_of rows) ≡ knows_container id rows
has-container id [] = refl
has-container id (row ∷ rows) = ap (λ (b : Bool). nat_eq row.id id && row.folder || b) (has-container id rows)

has-child : (id : ℕ) (rows : List KnownRow) → has_child id (map outline_of rows) ≡ knows_child id rows
has-child id [] = refl
has-child id (row ∷ rows) = ap (λ (b : Bool). option_eq nat_eq row.parent (Some id) || b) (has-child id rows)

outline-cannot : (rows : List KnownRow) (event : Event) → outline_cannot (map outline_of rows) event ≡ cannot_come rows event
outline-cannot rows (ObjAdd id number st parent class) = λ i. nat_eq id 0 || (has-object id rows i || not (has-container parent rows i))
outline-cannot rows (ObjMod id number st) = λ i. nat_eq id 0 || not (has-object id rows i)
outline-cannot rows (ObjDel id number st) = λ i. nat_eq id 0 || not (has-object id rows i) || has-child id rows i
outline-cannot rows (StDone id number) = refl

outlines-counted : (f : Trackers → Trackers) (parent : Option ℕ) (rows : List KnownRow) → map outline_of (counted f parent rows) ≡ map outline_of rows
outlines-counted f parent [] = refl
outlines-counted f parent (row ∷ rows) = λ i. one (option_eq nat_eq (Some row.id) parent) i ∷ outlines-counted f parent rows i
  where
    one : (b : Bool) → outline_of (cond b (record row { trackers = option_map f row.trackers }) row) ≡ outline_of row
    one true = refl
    one false = refl

outlines-put : (new : KnownRow) (rows : List KnownRow) → map outline_of (put_known new rows) ≡ put_by outline_id (outline_of new) (map outline_of rows)
outlines-put new [] = refl
outlines-put new (next ∷ rows) = by (nat_lt new.id next.id) (outlines-put new rows)
  where
    by : (b : Bool) → map outline_of (put_known new rows) ≡ put_by outline_id (outline_of new) (map outline_of rows)
        → map outline_of (cond b (new ∷ next ∷ rows) (next ∷ put_known new rows))
        ≡ cond b (outline_of new ∷ outline_of next ∷ map outline_of rows) (outline_of next ∷ put_by outline_id (outline_of new) (map outline_of rows))
    by true r = refl
    by false r = ap (λ (rest : List Outline). outline_of next ∷ rest) r

outlines-without : (id : ℕ) (rows : List KnownRow)
    → map outline_of (filter (λ (row : KnownRow). not (nat_eq row.id id)) rows) ≡ filter (λ (outline : Outline). not (nat_eq outline.id id)) (map outline_of rows)
outlines-without id [] = refl
outlines-without id (row ∷ rows) = by (not (nat_eq row.id id)) (outlines-without id rows)
  where
    by : (b : Bool)
        → map outline_of (filter (λ (r : KnownRow). not (nat_eq r.id id)) rows) ≡ filter (λ (o : Outline). not (nat_eq o.id id)) (map outline_of rows)
        → map outline_of (cond b (row ∷ filter (λ (r : KnownRow). not (nat_eq r.id id)) rows) (filter (λ (r : KnownRow). not (nat_eq r.id id)) rows))
        ≡ cond b (outline_of row ∷ filter (λ (o : Outline). not (nat_eq o.id id)) (map outline_of rows)) (filter (λ (o : Outline). not (nat_eq o.id id)) (map outline_of rows))
    by true r = ap (λ (rest : List Outline). outline_of row ∷ rest) r
    by false r = r

outlines-changed : (rows : List KnownRow) (event : Event) → outlines_changed (map outline_of rows) event ≡ map outline_of (changed rows event)
outlines-changed rows (ObjAdd id number st parent class) =
    ap (put_by outline_id (outline_of (added_row id number parent class))) (sym (outlines-counted (counts_addition number) (Some parent) rows))
    ∙ sym (outlines-put (added_row id number parent class) (counted (counts_addition number) (Some parent) rows))
outlines-changed rows (ObjMod id number st) = sym (outlines-counted (counts_modification number) (parent_in id rows) rows)
outlines-changed rows (ObjDel id number st) =
    sym (outlines-counted (counts_deletion number) (parent_in id rows) (filter (λ (row : KnownRow). not (nat_eq row.id id)) rows) ∙ outlines-without id rows)
outlines-changed rows (StDone id number) = refl

pub outlines-cannot : (rows : List KnownRow) (events : List Event) → outlines_cannot (map outline_of rows) events ≡ first_cannot rows events
outlines-cannot rows [] = refl
outlines-cannot rows (event ∷ events) =
    λ i. cond (outline-cannot rows event i) (Some (object_of event)) ((ap (λ (l : List Outline). outlines_cannot l events) (outlines-changed rows event) ∙ outlines-cannot (changed rows event) events) i)

pub outlines-known : (rows : List KeptRow) → outlines_of rows ≡ map outline_of (map (λ (kept : KeptRow). kept.row) rows)
outlines-known [] = refl
outlines-known (kept ∷ rows) = ap (λ (rest : List Outline). outline_of kept.row ∷ rest) (outlines-known rows)

pub outlined-cannot : (rows : List KeptRow) (events : List Event) → outlines_cannot (outlines_of rows) events ≡ first_cannot (map (λ (kept : KeptRow). kept.row) rows) events
outlined-cannot rows events =
    ap (λ (l : List Outline). outlines_cannot l events) (outlines-known rows) ∙ outlines-cannot (map (λ (kept : KeptRow). kept.row) rows) events
