-- The rows of a copy in outline: what decides whether a change can be.
use Rattle.std.specs.Prelude.{◌&&◌, ◌||◌, ℕ, Bool, false, cond, not, nat_eq, List, [], ◌∷◌, map, filter, Option, Some, None}
use Rattle.std.specs.List.{list_any}
use Rattle.std.specs.Option.{option_eq}
use Rattle.cds_object.specs.Object.{ObjectRow, is_folder}
use Rattle.cds_object.specs.declared.event.Event.{Event}
use Rattle.cds_object.specs.declared.event.Event.TheVariants.{ObjAdd, ObjMod, ObjDel, StDone}
use Rattle.cds_load.specs.Stages.{put_by}
use Rattle.cds_follow.specs.Copy.{KnownRow}
use Rattle.cds_replica.specs.CopyState.{KeptRow}
use Rattle.cds_replica.specs.declared.outline.Outline.{Outline}
use Rattle.cds_object.specs.Events.{is_container, object_of}

-- the outline of a row
abbrev pub outline_of : KnownRow → Outline
outline_of row = record { id = row.id; parent = row.parent; folder = row.folder }

abbrev pub outlines_of : List KeptRow → List Outline
outlines_of rows = map (λ (kept : KeptRow). outline_of kept.row) rows

abbrev pub shown_outline : ObjectRow → Outline
shown_outline row = record { id = row.id; parent = row.parent; folder = is_folder row.content }

abbrev pub outline_id : Outline → ℕ
outline_id outline = outline.id

-- whether a row of an id stands, whether it is a container's, and whether a row has it as parent
abbrev pub has_object : ℕ → List Outline → Bool
has_object id outlines = list_any (λ (outline : Outline). nat_eq outline.id id) outlines

abbrev pub has_container : ℕ → List Outline → Bool
has_container id outlines = list_any (λ (outline : Outline). nat_eq outline.id id && outline.folder) outlines

abbrev pub has_child : ℕ → List Outline → Bool
has_child id outlines = list_any (λ (outline : Outline). option_eq nat_eq outline.parent (Some id)) outlines

-- whether a change cannot be
abbrev pub outline_cannot : List Outline → Event → Bool
outline_cannot outlines (ObjAdd id number st parent class) = nat_eq id 0 || (has_object id outlines || not (has_container parent outlines))
outline_cannot outlines (ObjMod id number st) = nat_eq id 0 || not (has_object id outlines)
outline_cannot outlines (ObjDel id number st) = nat_eq id 0 || not (has_object id outlines) || has_child id outlines
outline_cannot outlines (StDone id number) = false

-- the outlines after a change
abbrev pub outlines_changed : List Outline → Event → List Outline
outlines_changed outlines (ObjAdd id number st parent class) = put_by outline_id (record { id = id; parent = Some parent; folder = is_container class }) outlines
outlines_changed outlines (ObjMod id number st) = outlines
outlines_changed outlines (ObjDel id number st) = filter (λ (outline : Outline). not (nat_eq outline.id id)) outlines
outlines_changed outlines (StDone id number) = outlines

-- the first change that cannot be, one by one, by its object
abbrev pub outlines_cannot : List Outline → List Event → Option ℕ
outlines_cannot outlines [] = None
outlines_cannot outlines (event ∷ events) =
    cond (outline_cannot outlines event) (Some (object_of event)) (outlines_cannot (outlines_changed outlines event) events)
