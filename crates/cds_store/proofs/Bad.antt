-- The places that a walk over the records has seen, and the first record that cannot stand.
use Rattle.std.proofs.Common.{◌≡◌, ◌+◌, ◌<◌, ◌&&◌, ◌||◌, ℕ, suc, Bool, true, false, cond, not, List, [], ◌∷◌, ◌++◌, length, take, drop, get_or, Some, refl, sym, ◌∙◌, ap, arith, add-one}
use Rattle.std.specs.List.{list_any}
use Rattle.std.specs.BTreeMap.{is_at}
use Rattle.std.proofs.Math.Seq.{drop-cons}
use Rattle.std.proofs.lemmas.List.{take_more, length-take-le}
use Rattle.std.proofs.lemmas.List.Folds.{list_any-append}
use Rattle.cds_object.specs.Path.{path_cmp, same_path, parent_of}
use Rattle.cds_object.specs.Object.{is_folder}
use Rattle.cds_object.specs.declared.record.Record.{Record}
use Rattle.cds_catalog.specs.Scans.{is_container, is_bad, bad_from}
use Rattle.cds_catalog.proofs.Paths.{same_path_at, same_path_swap}
use Rattle.cds_store.specs.Records.{is_folder_at, holds_place}

-- whether a record is that of anything at a place
abbrev pub stands_at : List (List ℕ) → Record → Bool
stands_at path r = same_path path r.path

or_false : (b : Bool) → b || false ≡ b
or_false true = refl
or_false false = refl

and_true : (b : Bool) → b && true ≡ b
and_true true = refl
and_true false = refl

and_false : (b : Bool) → b && false ≡ false
and_false true = refl
and_false false = refl

turned : (t b : Bool) → cond t true b ≡ b || t
turned true true = refl
turned true false = refl
turned false true = refl
turned false false = refl

-- a place that was put in is there, besides those that were
pub put_in : (k place q : List (List ℕ)) (old new : Bool) → k ≡ place → new ≡ cond (is_at (path_cmp k) q) true old → new ≡ old || same_path q place
put_in k place q old new is e =
    e ∙ ap (λ t. cond t true old) (sym (same_path_at k q) ∙ same_path_swap k q) ∙ turned (same_path q k) old ∙ ap (λ p. old || same_path q p) is

more_seen : (test : Record → Bool) (records : List Record) (i : ℕ) (r : Record) → i < length records → r ≡ get_or records i r →
    list_any test (take (i + 1) records) ≡ list_any test (take i records) || test r
more_seen test records i r within is =
    ap (list_any test) (take_more records i r within) ∙ list_any-append test (take i records) (get_or records i r ∷ [])
    ∙ ap (λ x. list_any test (take i records) || (test x || false)) (sym is)
    ∙ ap (λ b. list_any test (take i records) || b) (or_false (test r))

pub folder_seen : (records : List Record) (i : ℕ) (r : Record) (q : List (List ℕ)) (old new : Bool) → i < length records → r ≡ get_or records i r →
    is_folder r.content ≡ true → old ≡ list_any (is_folder_at q) (take i records) → new ≡ old || same_path q r.path →
    new ≡ list_any (is_folder_at q) (take (i + 1) records)
folder_seen records i r q old new within is folder so_far e =
    e ∙ ap (λ b. b || same_path q r.path) so_far
    ∙ ap (λ b. list_any (is_folder_at q) (take i records) || b) (sym (and_true (same_path q r.path)) ∙ ap (λ b. same_path q r.path && b) (sym folder))
    ∙ sym (more_seen (is_folder_at q) records i r within is)

pub track_seen : (records : List Record) (i : ℕ) (r : Record) (q : List (List ℕ)) (old : Bool) → i < length records → r ≡ get_or records i r →
    is_folder r.content ≡ false → old ≡ list_any (is_folder_at q) (take i records) → old ≡ list_any (is_folder_at q) (take (i + 1) records)
track_seen records i r q old within is track so_far =
    so_far ∙ sym (or_false (list_any (is_folder_at q) (take i records)))
    ∙ ap (λ b. list_any (is_folder_at q) (take i records) || b) (sym (and_false (same_path q r.path)) ∙ ap (λ b. same_path q r.path && b) (sym track))
    ∙ sym (more_seen (is_folder_at q) records i r within is)

pub place_seen : (records : List Record) (i : ℕ) (r : Record) (q : List (List ℕ)) (old new : Bool) → i < length records → r ≡ get_or records i r →
    old ≡ list_any (stands_at q) (take i records) → new ≡ old || same_path q r.path → new ≡ list_any (stands_at q) (take (i + 1) records)
place_seen records i r q old new within is so_far e =
    e ∙ ap (λ b. b || same_path q r.path) so_far ∙ sym (more_seen (stands_at q) records i r within is)

container_is : (records : List Record) (path : List (List ℕ)) → holds_place (λ p. list_any (is_folder_at p) records) path ≡ is_container records path
container_is records [] = refl
container_is records (name ∷ names) = refl

-- the test by what was seen is that on the records
pub bad_is : (records before : List Record) (r : Record) (folders seen : List (List ℕ) → Bool) →
    ((p : List (List ℕ)) → folders p ≡ list_any (is_folder_at p) records) → ((p : List (List ℕ)) → seen p ≡ list_any (stands_at p) before) →
    (same_path r.path [] || not (holds_place folders (parent_of r.path)) || seen r.path) ≡ is_bad records before r
bad_is records before r folders seen f s =
    ap (λ b. same_path r.path [] || not (same_path (parent_of r.path) [] || b) || seen r.path) (f (parent_of r.path))
    ∙ ap (λ b. same_path r.path [] || not b || seen r.path) (container_is records (parent_of r.path))
    ∙ ap (λ b. same_path r.path [] || not (is_container records (parent_of r.path)) || b) (s r.path)

from_here : (records : List Record) (i : ℕ) (r : Record) → i < length records → r ≡ get_or records i r →
    bad_from records (take i records) (drop i records)
    ≡ cond (is_bad records (take i records) r) (Some (i + 1)) (bad_from records (take (i + 1) records) (drop (i + 1) records))
from_here records i r within is =
    let here : drop i records ≡ r ∷ drop (i + 1) records =
    drop-cons records i r within ∙ ap (λ x. x ∷ drop (suc i) records) (sym is) ∙ ap (λ n. r ∷ drop n records) (sym (add-one i)) in
    let more : take i records ++ r ∷ [] ≡ take (i + 1) records =
    ap (λ x. take i records ++ x ∷ []) is ∙ sym (take_more records i r within) in
    let count : length (take i records) ≡ i = length-take-le i records (omega arith) in
    ap (bad_from records (take i records)) here
    ∙ ap (λ n. cond (is_bad records (take i records) r) (Some (n + 1)) (bad_from records (take i records ++ r ∷ []) (drop (i + 1) records))) count
    ∙ ap (λ l. cond (is_bad records (take i records) r) (Some (i + 1)) (bad_from records l (drop (i + 1) records))) more

pub first_bad : (records : List Record) (i : ℕ) (r : Record) (bad : Bool) → i < length records → r ≡ get_or records i r →
    bad ≡ is_bad records (take i records) r → bad ≡ true → Some (i + 1) ≡ bad_from records (take i records) (drop i records)
first_bad records i r bad within is test fails =
    sym (from_here records i r within is
    ∙ ap (λ b. cond b (Some (i + 1)) (bad_from records (take (i + 1) records) (drop (i + 1) records))) (sym test ∙ fails))

pub none_bad : (records : List Record) (i : ℕ) (r : Record) (bad : Bool) → i < length records → r ≡ get_or records i r →
    bad ≡ is_bad records (take i records) r → bad ≡ false →
    bad_from records (take (i + 1) records) (drop (i + 1) records) ≡ bad_from records (take i records) (drop i records)
none_bad records i r bad within is test passes =
    sym (from_here records i r within is
    ∙ ap (λ b. cond b (Some (i + 1)) (bad_from records (take (i + 1) records) (drop (i + 1) records))) (sym test ∙ passes))
