-- A scan has few records.
use Rattle.std.proofs.Common.{◌≡◌, ℕ, suc, ◌+◌, ◌<◌, ◌≤◌, ◌^◌, List, [], ◌∷◌, length, Option, Less, Equal, Greater, ap, arith}
use Rattle.std.specs.BTreeMap.{insert_entry}
use Rattle.std.specs.Ordering.{match_ordering}
use Rattle.std.proofs.lemmas.List.{length-map}
use Rattle.cds_outside.specs.Entries.{Contents}
use Rattle.cds_outside.specs.declared.folder.Entry.{Entry}
use Rattle.cds_object.specs.Path.{path_cmp}
use Rattle.cds_object.specs.declared.content.Content.{Content}
use Rattle.cds_object.specs.declared.record.Record.{Record}
use Rattle.cds_catalog.specs.Library.{FolderMap, map_from, map_of}
use Rattle.cds_scan.specs.Found.{placed}
use Rattle.cds_scan.specs.Outcomes.{records_of}
use Rattle.cds_scan.specs.Scanning.{IsScan}
use Rattle.cds_scan.specs.declared.scanned.Scan.{Scan}

put_at_most : (k : List (List ℕ)) (v : Content) (es : FolderMap) → length (insert_entry path_cmp es k v) ≤ suc (length es)
put_at_most k v [] = omega arith
put_at_most k v (e ∷ es) =
    elim (path_cmp k e.0) as (λ r. length (match_ordering r ((k, v) ∷ e ∷ es) ((e.0, v) ∷ es) (e ∷ insert_entry path_cmp es k v)) ≤ suc (suc (length es))) [
      | Less ↦ (omega arith)
      | Equal ↦ (omega arith)
      | Greater ↦ (let h = put_at_most k v es in omega (arith, h))
    ]

map_at_most : (library : FolderMap) (records : List Record) → length (map_from library records) ≤ length library + length records
map_at_most library [] = omega arith
map_at_most library (r ∷ records) =
    let one = put_at_most r.path r.content library in
    let others = map_at_most (insert_entry path_cmp library r.path r.content) records in
    omega (arith, one, others)

pub few-records : (tree : Option (List Entry)) (contents : Option Contents) (scan : Scan) → IsScan tree contents scan → length scan.records < 2 ^ 32
few-records tree contents scan i = bound (length scan.records) (length (placed scan.records)) (length (map_of (records_of i.outcomes))) (length (records_of i.outcomes))
    (length-map scan.records (λ (r : Record). (r.path, r.content))) (ap length i.records) (map_at_most [] (records_of i.outcomes)) i.through.room
  where
    bound : (n p m r : ℕ) → p ≡ n → p ≡ m → m ≤ 0 + r → r ≤ 65535 → n < 2 ^ 32
    bound n p m r same is most room = omega (arith, same, is, most, room)
