-- Spans of small histories, evaluated from the definitions.
use Rattle.std.specs.Prelude.{◌≡◌, true, false, [], ◌∷◌, codes}
use Rattle.cds_object.specs.declared.event.Class.TheVariants.{Container, Track}
use Rattle.cds_object.specs.declared.event.Event.TheVariants.{ObjAdd, ObjMod, ObjDel, StDone}
use Rattle.cds_catalog.specs.Library.{FolderMap}
use Rattle.cds_catalog.specs.History.{History, end_of}
use Rattle.cds_catalog.specs.Examples.{one_folder, changed_track, a_track, a_folder, two_tracks, folder_and_track}
use Rattle.cds_changes.specs.Events.{events_between}
use Rattle.cds_changes.specs.Containers.{containers_between}

-- a folder that is added with its track is a subtree update
abbrev pub added_subtree : Type 0
added_subtree = let h : History = record { first = 0; maps = one_folder ∷ [] } in
    (events_between h 0 2 ≡ ObjAdd 1 1 true 0 Container ∷ ObjAdd 2 2 true 1 Track ∷ StDone 1 2 ∷ [])
    × (containers_between h 0 2 ≡ (0, 1) ∷ (1, 2) ∷ [])

-- a folder that goes with its track is one too, the deepest object first; what comes again has new ids
abbrev pub deleted_subtree : Type 0
deleted_subtree = let h : History = record { first = 10; maps = changed_track ∷ one_folder ∷ [] ∷ one_folder ∷ [] } in
    (end_of h ≡ 17)
    × (events_between h 12 17
    ≡ ObjDel 2 13 true ∷ ObjDel 1 14 true ∷ StDone 1 14 ∷ ObjAdd 3 15 true 0 Container ∷ ObjAdd 4 16 true 3 Track ∷ StDone 3 16 ∷ ObjMod 4 17 false ∷ [])
    × (containers_between h 12 17 ≡ (0, 15) ∷ (3, 17) ∷ [])
    × (events_between h 16 17 ≡ ObjMod 4 17 false ∷ [])
    × (containers_between h 16 17 ≡ (3, 17) ∷ [])

-- a folder with descendants that becomes a track goes as a subtree, and the track's addition is none; a track that
-- becomes a folder without anything in it makes no subtree update
abbrev pub track_at_x : FolderMap
track_at_x = (codes "R" ∷ [], a_track 1) ∷ []

abbrev pub kinds_change : Type 0
kinds_change = let h : History = record { first = 0; maps = track_at_x ∷ one_folder ∷ [] } in
    let k : History = record { first = 0; maps = folder_and_track ∷ two_tracks ∷ [] } in
    (events_between h 2 5 ≡ ObjDel 2 3 true ∷ ObjDel 1 4 true ∷ StDone 1 4 ∷ ObjAdd 3 5 false 0 Track ∷ [])
    × (events_between k 2 4 ≡ ObjDel 1 3 false ∷ ObjAdd 3 4 false 0 Container ∷ [])
    × (containers_between k 2 4 ≡ (0, 4) ∷ (3, 4) ∷ [])

-- a folder within a folder belongs to the outer one's subtree update; two folders side by side have one each
abbrev pub nested : FolderMap
nested = (codes "A" ∷ [], a_folder) ∷ (codes "A" ∷ codes "B" ∷ [], a_folder) ∷ (codes "A" ∷ codes "B" ∷ codes "t" ∷ [], a_track 1)
    ∷ (codes "C" ∷ [], a_folder) ∷ (codes "C" ∷ codes "t" ∷ [], a_track 1) ∷ (codes "D" ∷ [], a_folder) ∷ []

abbrev pub nested_subtrees : Type 0
nested_subtrees = let h : History = record { first = 0; maps = nested ∷ [] } in
    events_between h 0 6
    ≡ ObjAdd 1 1 true 0 Container ∷ ObjAdd 2 2 true 1 Container ∷ ObjAdd 3 3 true 2 Track ∷ StDone 1 3
    ∷ ObjAdd 4 4 true 0 Container ∷ ObjAdd 5 5 true 4 Track ∷ StDone 4 5 ∷ ObjAdd 6 6 false 0 Container ∷ []

-- three scans that each bring one more track: the span of the last two touches the root alone
abbrev pub three_tracks : FolderMap
three_tracks = (codes "x" ∷ [], a_track 1) ∷ (codes "y" ∷ [], a_track 1) ∷ (codes "z" ∷ [], a_track 1) ∷ []

abbrev pub span_of_two_scans : Type 0
span_of_two_scans = let h : History = record { first = 0; maps = three_tracks ∷ two_tracks ∷ ((codes "x" ∷ [], a_track 1) ∷ []) ∷ [] } in
    (events_between h 1 3 ≡ ObjAdd 2 2 false 0 Track ∷ ObjAdd 3 3 false 0 Track ∷ [])
    × (containers_between h 1 3 ≡ (0, 3) ∷ [])

-- a folder that comes and goes with its track within one span is told by its events. It is none of the containers of the span:
-- the root alone is
abbrev pub what_comes_and_goes : Type 0
what_comes_and_goes = let h : History = record { first = 10; maps = [] ∷ one_folder ∷ [] } in
    (events_between h 10 14
    ≡ ObjAdd 1 11 true 0 Container ∷ ObjAdd 2 12 true 1 Track ∷ StDone 1 12 ∷ ObjDel 2 13 true ∷ ObjDel 1 14 true ∷ StDone 1 14 ∷ [])
    × (containers_between h 10 14 ≡ (0, 14) ∷ [])
    × (containers_between h 10 12 ≡ (0, 11) ∷ (1, 12) ∷ [])
