-- The steps of a walk: entries, their outcomes and what is handed on.
use Rattle.std.proofs.Common.{◌≡◌, ℕ, ◌+◌, ◌≤◌, Bool, true, false, List, [], ◌∷◌, ◌++◌, Option, Result, Ok, Err, IfErr, refl, sym, ap, subst, ◌∙◌, true≢false, arith}
use Rattle.std.specs.Result.{IsErrAnd}
use Rattle.std.specs.Bool.{IsTrue}
use Rattle.std.specs.List.{list_any}
use Rattle.cds_outside.specs.declared.folder.Entry.{Entry}
use Rattle.cds_outside.specs.declared.folder.Entry.TheVariants.{Folder, File, End}
use Rattle.cds_outside.specs.Entries.{Contents, IsNext, OnEntry, is_file_at, is_tree}
use Rattle.cds_outside.specs.Outside.{Told, raised}
use Rattle.cds_outside.proofs.Given.{just_given}
use Rattle.cds_object.specs.Path.{name_of, path_read}
use Rattle.cds_scan.specs.declared.error.ScanError.{ScanError}
use Rattle.cds_scan.specs.declared.error.ScanError.TheVariants.{FolderFault, TooDeep, Full, TooMany, Mem}
use Rattle.cds_scan.specs.declared.file.Reading.{Reading}
use Rattle.cds_scan.specs.declared.file.Reading.TheVariants.{Read, Unread}
use Rattle.cds_scan.specs.Outcomes.{IsFileOutcome, Kept, ends_in_flac, folder_record, track_record}
use Rattle.cds_scan.specs.Found.{FoundState, IsKeepFault}
use Rattle.cds_scan.specs.Reading.{IsReading}
use Rattle.cds_scan.specs.Scanning.{CameBack, climbed}
use Rattle.cds_scan.specs.Walking.{IsEntryFault, IsFolderLeft, IsGiven, IsOver, IsStepFault, IsTrackFault, is_the_end}

-- what a `?` hands on
pub err_exit : {A E : Type 0} (P : E → Type 0) (result : Result A E) (e : E) → IsErrAnd result (λ x. x ≡ e) → P e → IfErr result P
err_exit P (Ok value) e same p = absurd same
err_exit P (Err x) e same p = subst P (sym same) p

-- a folder that is not kept
pub folder_left : (path : List ℕ) (place : List (List ℕ)) (old : FoundState) (e : ScanError) → path_read path ≡ Ok place → IsKeepFault old e → IsFolderLeft path old e
folder_left path place old (Full objects) read fault = λ contents. (fault.0, fault.1, (folder_record place, (place, read, refl)))
folder_left path place old Mem read fault = λ contents. tt
folder_left path place old FolderFault read fault = absurd fault
folder_left path place old (TooDeep bytes) read fault = absurd fault
folder_left path place old TooMany read fault = absurd fault

-- a track that is not kept
pub track_left : (contents : Option Contents) (path : List ℕ) (place : List (List ℕ)) (size : ℕ) (reading : Reading) (old : FoundState) (e : ScanError) → path_read path ≡ Ok place → ends_in_flac (name_of place) ≡ true → IsReading contents path reading → IsTrackFault reading old e → IsEntryFault contents (File path size) old e
track_left contents path place size (Read info) old (Full objects) read flac reading fault =
    let P : Bool → Type 0 = λ b. IsFileOutcome b contents path place size (Kept (track_record place info size)) in
    (fault.0, fault.1, (track_record place info size, (place, read, subst P (sym flac) (info, refl, reading))))
track_left contents path place size (Read info) old Mem read flac reading fault = tt
track_left contents path place size (Read info) old FolderFault read flac reading fault = absurd fault
track_left contents path place size (Read info) old (TooDeep bytes) read flac reading fault = absurd fault
track_left contents path place size (Read info) old TooMany read flac reading fault = absurd fault
track_left contents path place size (Unread refusal) old (Full objects) read flac reading fault = absurd fault
track_left contents path place size (Unread refusal) old Mem read flac reading fault = tt
track_left contents path place size (Unread refusal) old FolderFault read flac reading fault = absurd fault
track_left contents path place size (Unread refusal) old (TooDeep bytes) read flac reading fault = absurd fault
track_left contents path place size (Unread refusal) old TooMany read flac reading fault = absurd fault

-- the next entry, or the end
module _ (tree : Option (List Entry)) (given : List Entry) where
  pub over : (entry : Entry) (P : Type 0) → Told tree (λ t. IsNext t given entry) → OnEntry entry P (IsTrue (is_tree given)) → IsOver (is_the_end entry) tree given
  over (Folder path) P next new = (Folder path, next)
  over (File path size) P next new = (File path size, next)
  over End P next new = (new, next)

  pub next_of : (entry : Entry) → Told tree (λ t. IsNext t given entry) → is_the_end entry ≡ false → Told tree (λ t. (rest : List Entry) × (t ≡ given ++ entry ∷ rest))
  next_of (Folder path) next going = next
  next_of (File path size) next going = next
  next_of End next going = absurd (true≢false going)

  pub ended : (entry : Entry) → Told tree (λ t. IsNext t given entry) → is_the_end entry ≡ true → Told tree (λ t. t ≡ given)
  ended (Folder path) next over = absurd (true≢false (sym over))
  ended (File path size) next over = absurd (true≢false (sym over))
  ended End next over = next

  pub ended_whole : (entry : Entry) (P : Type 0) → OnEntry entry P (IsTrue (is_tree given)) → is_the_end entry ≡ true → IsTrue (is_tree given)
  ended_whole (Folder path) P new over = absurd (true≢false (sym over))
  ended_whole (File path size) P new over = absurd (true≢false (sym over))
  ended_whole End P new over = new

  pub now_given : (entry : Entry) (now : List Entry) → OnEntry entry (now ≡ given ++ entry ∷ []) (now ≡ []) → is_the_end entry ≡ false → now ≡ given ++ entry ∷ []
  now_given (Folder path) now grows going = grows
  now_given (File path size) now grows going = grows
  now_given End now grows going = absurd (true≢false going)

  pub given_now : (entry : Entry) (now : List Entry) → OnEntry entry (now ≡ given ++ entry ∷ []) (now ≡ []) → is_the_end entry ≡ false → IsGiven entry now
  given_now (Folder path) now grows going = tt
  given_now (File path size) now grows going =
      subst (λ entries. IsTrue (list_any (is_file_at path) entries)) (sym grows) (just_given given path size)
  given_now End now grows going = absurd (true≢false going)

  pub step_left : (contents : Option Contents) (entry : Entry) (old : FoundState) (before now : ℕ) (e : ScanError) → Told tree (λ t. (rest : List Entry) × (t ≡ given ++ entry ∷ rest)) → IsEntryFault contents entry old e → IsStepFault tree contents given old before now e
  step_left contents entry old before now FolderFault told fault = absurd fault
  step_left contents entry old before now Mem told fault = tt
  step_left contents entry old before now TooMany told fault = absurd fault
  step_left contents entry old before now (TooDeep bytes) told fault = record { entry = entry; told = told; fault = fault }
  step_left contents entry old before now (Full objects) told fault = record { entry = entry; told = told; fault = fault }

pub count_next : (entry : Entry) (old new : ℕ) → OnEntry entry (new ≡ raised old 1) (new ≡ old) → new ≤ old + 1
count_next (Folder path) old new count = omega (arith, count)
count_next (File path size) old new count = omega (arith, count)
count_next End old new count = omega (arith, count)

-- files that came back, from counts that are the same
pub back_from : (a mid b c middle d : ℕ) → mid ≡ a → middle ≡ c → CameBack mid b middle d → CameBack a b c d
back_from a mid b c middle d first second back = (back.0, back.1 ∙ ap (climbed back.0) first, back.2 ∙ ap (climbed back.0) second)
