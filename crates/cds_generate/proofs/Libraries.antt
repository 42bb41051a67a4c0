-- What the lines of a generated library say was found: a server accepts it, and track 0 stands in it with its version.
use Rattle.std.proofs.Common.{◌≡◌, ◌+◌, ◌*◌, ◌%◌, ◌^◌, ◌<◌, ◌≤◌, ℕ, zero, suc, Bool, true, false, cond, not, ◌&&◌, ◌||◌, nat_eq, nat_lt, List, [], ◌∷◌, ◌++◌, map, length, slice_get, Option, Some, None, codes, refl, sym, ap, subst, ◌∙◌, arith, append_assoc, length-append}
use Rattle.std.specs.List.{AllByRecursion, list_any, slice_split}
use Rattle.std.specs.Fmt.{decimal}
use Rattle.std.proofs.lemmas.Bool.{and_from, and_right, or_from, or_left, or_right, false_from_ne_true, ltb-true, ltb-false}
use Rattle.std.proofs.lemmas.List.{append-nil, map-append}
use Rattle.std.proofs.lemmas.List.Folds.{list_any-append}
use Rattle.std.proofs.lemmas.Nat.{mod_below}
use Rattle.cds_base.specs.Number.{plain_below}
use Rattle.cds_object.specs.Path.{same_path}
use Rattle.cds_object.specs.Content.{same_text}
use Rattle.cds_object.specs.ContentOf.{bare_info, track_of}
use Rattle.cds_object.specs.Object.{is_folder}
use Rattle.cds_object.specs.declared.content.Content.{Content}
use Rattle.cds_object.specs.declared.content.Content.TheVariants as content
use Rattle.cds_object.specs.declared.info.Comment.{Comment}
use Rattle.cds_object.specs.declared.record.Record.{Record}
use Rattle.cds_catalog.specs.Library.{map_of, content_at}
use Rattle.cds_catalog.specs.Scans.{is_container, is_bad, bad_from, bad_record}
use Rattle.cds_catalog.proofs.Accepted.{accepted_stand}
use Rattle.cds_catalog.proofs.Paths.{same_path_is, same_path_itself}
use Rattle.cds_script.specs.FoundFile.{FoundFile, with_comment}
use Rattle.cds_script.specs.Report.{record_of}
use Rattle.cds_script.specs.declared.found.Found.{Found}
use Rattle.cds_script.specs.declared.found.Found.TheVariants.{Folder as FolderFound, Track as TrackFound}
use Rattle.cds_generate.specs.Generated.{folders_of}
use Rattle.cds_generate.specs.declared.library.Track.{Track}
use Rattle.cds_generate.proofs.Plain.{decimal-not, plain-read, parts-more}

-- ---- lists made for the numbers below n

abbrev pub below : {X : Type 0} → ℕ → (ℕ → List X) → List X
below zero thing = []
below (suc n) thing = below n thing ++ thing n

map-below : {X Y : Type 0} (f : X → Y) (n : ℕ) (thing : ℕ → List X) → map f (below n thing) ≡ below n (λ k. map f (thing k))
map-below f zero thing = refl
map-below f (suc n) thing = map-append f (below n thing) (thing n) ∙ ap (λ xs. xs ++ map f (thing n)) (map-below f n thing)

length-below : {X : Type 0} (n : ℕ) (thing : ℕ → List X) → ((k : ℕ) → length (thing k) ≤ 1) → length (below n thing) ≤ n
length-below zero thing each = omega arith
length-below (suc n) thing each =
    let sum = length-append (below n thing) (thing n) in
    let rest = length-below n thing each in
    let one = each n in
    omega (arith, sum, rest, one)

any-none : {X : Type 0} (p : X → Bool) (n : ℕ) (thing : ℕ → List X) → ((k : ℕ) → k < n → list_any p (thing k) ≡ false) → list_any p (below n thing) ≡ false
any-none p zero thing each = refl
any-none p (suc n) thing each =
    list_any-append p (below n thing) (thing n)
    ∙ or_from (list_any p (below n thing)) (list_any p (thing n)) (any-none p n thing (λ k low. each k (omega (arith, low)))) (each n (omega arith))

any-some : {X : Type 0} (p : X → Bool) (n k : ℕ) (thing : ℕ → List X) → k < n → list_any p (thing k) ≡ true → list_any p (below n thing) ≡ true
any-some p zero k thing low found = absurd (omega (arith, low))
any-some p (suc n) k thing low found = list_any-append p (below n thing) (thing n) ∙ by (nat_lt k n) refl (λ less. any-some p n k thing less found)
  where
    by : (b : Bool) → nat_lt k n ≡ b → (k < n → list_any p (below n thing) ≡ true) → (list_any p (below n thing) || list_any p (thing n)) ≡ true
    by true e go = or_left (list_any p (below n thing)) (list_any p (thing n)) (go (ltb-true k n e))
    by false e go =
        let high = ltb-false k n e in
        let same : k ≡ n = omega (arith, low, high) in
        or_right (list_any p (below n thing)) (list_any p (thing n)) (subst (λ j. list_any p (thing j) ≡ true) same found)

all-later : {X : Type 0} (P : X → Type 0) (xs ys : List X) → AllByRecursion P (xs ++ ys) → AllByRecursion P ys
all-later P [] ys all = all
all-later P (x ∷ xs) ys all = all-later P xs ys all.1

all-former : {X : Type 0} (P : X → Type 0) (xs ys : List X) → AllByRecursion P (xs ++ ys) → AllByRecursion P xs
all-former P [] ys all = tt
all-former P (x ∷ xs) ys all = (all.0, all-former P xs ys all.1)

all-below : {X : Type 0} (P : X → Type 0) (n k : ℕ) (thing : ℕ → List X) → k < n → AllByRecursion P (below n thing) → AllByRecursion P (thing k)
all-below P zero k thing low all = absurd (omega (arith, low))
all-below P (suc n) k thing low all = by (nat_lt k n) refl (λ less. all-below P n k thing less (all-former P (below n thing) (thing n) all))
  where
    by : (b : Bool) → nat_lt k n ≡ b → (k < n → AllByRecursion P (thing k)) → AllByRecursion P (thing k)
    by true e go = go (ltb-true k n e)
    by false e go =
        let high = ltb-false k n e in
        let same : n ≡ k = omega (arith, low, high) in
        subst (λ j. AllByRecursion P (thing j)) same (all-later P (below n thing) (thing n) all)

-- ---- names

abbrev pub folder_name : ℕ → List ℕ
folder_name n = codes "f" ++ decimal n

abbrev pub file_name : ℕ → List ℕ
file_name n = codes "t" ++ (decimal n ++ codes ".flac")

decimal-is : (a b : ℕ) → a < 2 ^ 64 → b < 2 ^ 64 → decimal a ≡ decimal b → a ≡ b
decimal-is a b wide low same =
    let one : Some a ≡ Some b = sym (plain-read (2 ^ 64) a (omega arith) wide) ∙ ap (plain_below (2 ^ 64)) same ∙ plain-read (2 ^ 64) b (omega arith) low in
    cc

folders-differ : (a b : ℕ) → a < 2 ^ 64 → b < 2 ^ 64 → a < b → same_path (folder_name b ∷ []) (folder_name a ∷ []) ≡ false
folders-differ a b wide low less =
    false_from_ne_true (same_path (folder_name b ∷ []) (folder_name a ∷ [])) (λ e.
    let same : (folder_name b ∷ []) ≡ (folder_name a ∷ []) = same_path_is (folder_name b ∷ []) (folder_name a ∷ []) e in
    let names : decimal b ≡ decimal a = cc in
    let is : b ≡ a = decimal-is b a low wide names in
    omega (arith, is, less))

before-dot : (n : ℕ) → n < 2 ^ 64 → slice_split (λ b. nat_eq b 46) (decimal n ++ codes ".flac") ≡ decimal n ∷ codes "flac" ∷ []
before-dot n wide = parts-more 46 (decimal n) (codes "flac") (decimal-not n wide 46 (omega arith))

files-differ : (one two : List ℕ) (a b : ℕ) → a < 2 ^ 64 → b < 2 ^ 64 → a < b → same_path (two ∷ file_name b ∷ []) (one ∷ file_name a ∷ []) ≡ false
files-differ one two a b wide low less =
    false_from_ne_true (same_path (two ∷ file_name b ∷ []) (one ∷ file_name a ∷ [])) (λ e.
    let same : (two ∷ file_name b ∷ []) ≡ (one ∷ file_name a ∷ []) = same_path_is (two ∷ file_name b ∷ []) (one ∷ file_name a ∷ []) e in
    let names : decimal b ++ codes ".flac" ≡ decimal a ++ codes ".flac" = cc in
    let parts : (decimal b ∷ codes "flac" ∷ []) ≡ (decimal a ∷ codes "flac" ∷ []) = sym (before-dot b low) ∙ ap (slice_split (λ c. nat_eq c 46)) names ∙ before-dot a wide in
    let digits : decimal b ≡ decimal a = cc in
    let is : b ≡ a = decimal-is b a low wide digits in
    omega (arith, is, less))

file-no_folder : (one two name : List ℕ) → same_path (two ∷ name ∷ []) (one ∷ []) ≡ false
file-no_folder one two name = and_right (same_text two one) false refl

-- ---- what was found

abbrev pub title_of : ℕ → Comment
title_of n = record { name = codes "TITLE"; value = codes "Title " ++ decimal n }

abbrev pub place_of : ℕ → ℕ → List (List ℕ)
place_of folders n = folder_name (n % folders) ∷ file_name n ∷ []

abbrev pub bare_file : ℕ → ℕ → ℕ → FoundFile
bare_file folders n version = record { path = place_of folders n; info = bare_info 44100 2 16 (441000 + n); size = 1000000 + 1000 * n + version }

abbrev pub file_found : ℕ → ℕ → ℕ → Found
file_found folders n version = TrackFound (with_comment (title_of n) (bare_file folders n version))

abbrev pub track_found : ℕ → ℕ → Option Track → List Found
track_found folders n None = []
track_found folders n (Some track) = cond track.present (file_found folders n track.version ∷ []) []

abbrev pub folders_found : ℕ → List Found
folders_found n = below n (λ k. FolderFound (folder_name k ∷ []) ∷ [])

abbrev pub tracks_found : ℕ → List Track → ℕ → List Found
tracks_found folders tracks n = below n (λ k. track_found folders k (slice_get tracks k))

abbrev pub library_found : List Track → List Found
library_found tracks = folders_found (folders_of (length tracks)) ++ tracks_found (folders_of (length tracks)) tracks (length tracks)

-- what a track says of itself
abbrev pub said_of : ℕ → ℕ → Content
said_of n version = track_of (with_comment (title_of n) (bare_file 1 n version)).info (file_name n) (1000000 + 1000 * n + version)

-- ---- the records of it

abbrev folder_recorded : ℕ → List Record
folder_recorded n = record_of (FolderFound (folder_name n ∷ [])) ∷ []

abbrev track_recorded : ℕ → ℕ → Option Track → List Record
track_recorded folders n track = map record_of (track_found folders n track)

module _ (tracks : List Track) (few : length tracks ≤ 10000) where
  abbrev folders : ℕ
  folders = folders_of (length tracks)

  abbrev of_track : ℕ → List Record
  of_track k = track_recorded folders k (slice_get tracks k)

  abbrev of_folders : List Record
  of_folders = below folders folder_recorded

  abbrev all : List Record
  all = of_folders ++ below (length tracks) of_track

  records-are : map record_of (library_found tracks) ≡ all
  records-are =
      map-append record_of (folders_found folders) (tracks_found folders tracks (length tracks))
      ∙ (λ i. map-below record_of folders (λ k. FolderFound (folder_name k ∷ []) ∷ []) i ++ map-below record_of (length tracks) (λ k. track_found folders k (slice_get tracks k)) i)

  few-folders : folders ≤ 751
  few-folders = omega (arith, few)

  some-folders : 0 < folders
  some-folders = omega arith

  one-track : (k : ℕ) → length (of_track k) ≤ 1
  one-track k = by (slice_get tracks k)
    where
      shown : (track : Track) (b : Bool) → length (map record_of (cond b (file_found folders k track.version ∷ []) [])) ≤ 1
      shown track true = omega arith
      shown track false = omega arith

      by : (o : Option Track) → length (track_recorded folders k o) ≤ 1
      by None = omega arith
      by (Some track) = shown track track.present

  few-records : length all ≤ 10751
  few-records =
      let sum = length-append of_folders (below (length tracks) of_track) in
      let one = length-below folders folder_recorded (λ k. omega arith) in
      let two = length-below (length tracks) of_track one-track in
      let most = few-folders in
      omega (arith, sum, one, two, few, most)

  -- ---- each of them can stand

  good-join : (before xs ys : List Record) → bad_from all before xs ≡ None → bad_from all (before ++ xs) ys ≡ None → bad_from all before (xs ++ ys) ≡ None
  good-join before [] ys one two = ap (λ (rs : List Record). bad_from all rs ys) (sym (append-nil before)) ∙ two
  good-join before (x ∷ xs) ys one two = by (is_bad all before x) one (λ rest. good-join (before ++ x ∷ []) xs ys rest (ap (λ (rs : List Record). bad_from all rs ys) (append_assoc before (x ∷ []) xs) ∙ two))
    where
      by : (b : Bool) → cond b (Some (length before + 1)) (bad_from all (before ++ x ∷ []) xs) ≡ None
          → (bad_from all (before ++ x ∷ []) xs ≡ None → bad_from all (before ++ x ∷ []) (xs ++ ys) ≡ None)
          → cond b (Some (length before + 1)) (bad_from all (before ++ x ∷ []) (xs ++ ys)) ≡ None
      by true e go = absurd (cc)
      by false e go = go e

  good-one : (before : List Record) (x : Record) → is_bad all before x ≡ false → bad_from all before (x ∷ []) ≡ None
  good-one before x good = ap (λ (b : Bool). cond b (Some (length before + 1)) None) good

  good-below : (before : List Record) (n : ℕ) (thing : ℕ → List Record) → ((k : ℕ) → k < n → bad_from all (before ++ below k thing) (thing k) ≡ None) → bad_from all before (below n thing) ≡ None
  good-below before zero thing each = refl
  good-below before (suc n) thing each =
      good-join before (below n thing) (thing n) (good-below before n thing (λ k low. each k (omega (arith, low)))) (each n (omega arith))

  folder-good : (k : ℕ) → k < folders → bad_from all (below k folder_recorded) (folder_recorded k) ≡ None
  folder-good k low =
      let most = few-folders in
      good-one (below k folder_recorded) (record_of (FolderFound (folder_name k ∷ [])))
      (any-none (λ (other : Record). same_path (folder_name k ∷ []) other.path) k folder_recorded
      (λ j less. or_from (same_path (folder_name k ∷ []) (folder_name j ∷ [])) false (folders-differ j k (omega (arith, low, less, most)) (omega (arith, low, most)) less) refl))

  folders-good : bad_from all [] of_folders ≡ None
  folders-good = good-below [] folders folder_recorded folder-good

  held : (k : ℕ) → is_container all (folder_name (k % folders) ∷ []) ≡ true
  held k =
      let rest = mod_below k folders some-folders in
      let p = λ (r : Record). same_path (folder_name (k % folders) ∷ []) r.path && is_folder r.content in
      list_any-append p of_folders (below (length tracks) of_track)
      ∙ or_left (list_any p of_folders) (list_any p (below (length tracks) of_track))
      (any-some p folders (k % folders) folder_recorded rest
      (or_left (same_path (folder_name (k % folders) ∷ []) (folder_name (k % folders) ∷ []) && true) false
      (and_from (same_path (folder_name (k % folders) ∷ []) (folder_name (k % folders) ∷ [])) true (same_path_itself (folder_name (k % folders) ∷ [])) refl)))

  apart : (j k : ℕ) → j < k → k < length tracks → list_any (λ (other : Record). same_path (place_of folders k) other.path) (of_track j) ≡ false
  apart j k less low = by (slice_get tracks j)
    where
      p : Record → Bool
      p other = same_path (place_of folders k) other.path

      shown : (track : Track) (b : Bool) → list_any (λ (other : Record). same_path (place_of folders k) other.path) (map record_of (cond b (file_found folders j track.version ∷ []) [])) ≡ false
      shown track true =
          or_from (same_path (place_of folders k) (place_of folders j)) false
          (files-differ (folder_name (j % folders)) (folder_name (k % folders)) j k (omega (arith, less, low, few)) (omega (arith, low, few)) less) refl
      shown track false = refl

      by : (o : Option Track) → list_any (λ (other : Record). same_path (place_of folders k) other.path) (track_recorded folders j o) ≡ false
      by None = refl
      by (Some track) = shown track track.present

  new-place : (k : ℕ) → k < length tracks → list_any (λ (other : Record). same_path (place_of folders k) other.path) (of_folders ++ below k of_track) ≡ false
  new-place k low =
      let p = λ (other : Record). same_path (place_of folders k) other.path in
      list_any-append p of_folders (below k of_track)
      ∙ or_from (list_any p of_folders) (list_any p (below k of_track))
      (any-none p folders folder_recorded (λ j less. or_from (same_path (place_of folders k) (folder_name j ∷ [])) false (file-no_folder (folder_name j) (folder_name (k % folders)) (file_name k)) refl))
      (any-none p k of_track (λ j less. apart j k less low))

  track-good : (k : ℕ) → k < length tracks → bad_from all (of_folders ++ below k of_track) (of_track k) ≡ None
  track-good k low = by (slice_get tracks k)
    where
      before : List Record
      before = of_folders ++ below k of_track

      shown : (track : Track) (b : Bool) → bad_from all (of_folders ++ below k of_track) (map record_of (cond b (file_found folders k track.version ∷ []) [])) ≡ None
      shown track true =
          good-one (of_folders ++ below k of_track) (record_of (file_found folders k track.version))
          (or_from (not (is_container all (folder_name (k % folders) ∷ []))) (list_any (λ (other : Record). same_path (place_of folders k) other.path) (of_folders ++ below k of_track))
          (ap not (held k)) (new-place k low))
      shown track false = refl

      by : (o : Option Track) → bad_from all (of_folders ++ below k of_track) (track_recorded folders k o) ≡ None
      by None = refl
      by (Some track) = shown track track.present

  pub all-good : bad_record (map record_of (library_found tracks)) ≡ None
  all-good = subst (λ (rs : List Record). bad_from rs [] rs ≡ None) (sym records-are) (good-join [] of_folders (below (length tracks) of_track) folders-good (good-below of_folders (length tracks) of_track track-good))

  pub all-few : length (map record_of (library_found tracks)) ≤ 10751
  all-few = subst (λ (rs : List Record). length rs ≤ 10751) (sym records-are) few-records

  -- ---- track 0 stands in it

  pub first-stands : (version : ℕ) → slice_get tracks 0 ≡ Some (record { version = version; present = true }) → 0 < length tracks
      → content_at (map_of (map record_of (library_found tracks))) (place_of folders 0) ≡ Some (said_of 0 version)
  first-stands version is some =
      let stand : AllByRecursion (λ (r : Record). content_at (map_of all) r.path ≡ Some r.content) all =
      (accepted_stand all (subst (λ (rs : List Record). bad_record rs ≡ None) records-are all-good)).0 in
      let here = all-below (λ (r : Record). content_at (map_of all) r.path ≡ Some r.content) (length tracks) 0 of_track some
      (all-later (λ (r : Record). content_at (map_of all) r.path ≡ Some r.content) of_folders (below (length tracks) of_track) stand) in
      let one : AllByRecursion (λ (r : Record). content_at (map_of all) r.path ≡ Some r.content) (track_recorded folders 0 (Some (record { version = version; present = true }))) =
      subst (λ (o : Option Track). AllByRecursion (λ (r : Record). content_at (map_of all) r.path ≡ Some r.content) (track_recorded folders 0 o)) is here in
      ap (λ (rs : List Record). content_at (map_of rs) (place_of folders 0)) records-are ∙ one.0

-- ---- it says its version

abbrev size_said : Content → ℕ
size_said (content.Folder title) = 0
size_said (content.Track track) = track.size

pub versions-differ : (a b : ℕ) → a < b → said_of 0 a ≡ said_of 0 b → ⊥
versions-differ a b less same =
    let sizes : 1000000 + 1000 * 0 + a ≡ 1000000 + 1000 * 0 + b = ap size_said same in
    omega (arith, sizes, less)
