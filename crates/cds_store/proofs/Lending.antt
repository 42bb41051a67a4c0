-- A folder map whose places and contents are lent shows what one that owns them has.
use Rattle.std.proofs.Common.{◌≡◌, ℕ, Bool, true, false, cond, List, [], ◌∷◌, Some, refl, ap, Bor}
use Rattle.std.specs.Option.{option_map}
use Rattle.std.specs.Map.{lookup}
use Rattle.std.specs.BTreeMap.{insert_entry, is_at}
use Rattle.std.specs.Ordering.{match_ordering}
use Rattle.std.specs.declared.cmp.Ordering.{Ordering}
use Rattle.std.specs.declared.cmp.Ordering.TheVariants.{Less, Equal, Greater}
use Rattle.cds_object.specs.Path.{path_cmp}
use Rattle.cds_object.specs.declared.content.Content.{Content}
use Rattle.cds_store.specs.Lent.{LentMap, shown}

pub seen_insert : (es : LentMap) (k : Bor (List (List ℕ))) (v : Bor Content) → shown (insert_entry (λ x y. path_cmp x.now y.now) es k v) ≡ insert_entry path_cmp (shown es) k.now v.now
seen_insert [] k v = refl
seen_insert (e ∷ es) k v = by (path_cmp k.now e.0.now) (seen_insert es k v) where
  by : (o : Ordering) → shown (insert_entry (λ x y. path_cmp x.now y.now) es k v) ≡ insert_entry path_cmp (shown es) k.now v.now
      → shown (match_ordering o ((k, v) ∷ e ∷ es) ((e.0, v) ∷ es) (e ∷ insert_entry (λ x y. path_cmp x.now y.now) es k v))
      ≡ match_ordering o ((k.now, v.now) ∷ shown (e ∷ es)) ((e.0.now, v.now) ∷ shown es) ((e.0.now, e.1.now) ∷ insert_entry path_cmp (shown es) k.now v.now)
  by Less more = refl
  by Equal more = refl
  by Greater more = ap (λ rest. (e.0.now, e.1.now) ∷ rest) more

pub seen_content : (es : LentMap) (path : List (List ℕ)) → option_map (λ (v : Bor Content). v.now) (lookup (is_at (λ k. path_cmp path k.now)) es) ≡ lookup (is_at (path_cmp path)) (shown es)
seen_content [] path = refl
seen_content (e ∷ es) path = by (is_at (path_cmp path) e.0.now) (seen_content es path) where
  by : (b : Bool) → option_map (λ (v : Bor Content). v.now) (lookup (is_at (λ k. path_cmp path k.now)) es) ≡ lookup (is_at (path_cmp path)) (shown es)
      → option_map (λ (v : Bor Content). v.now) (cond b (Some e.1) (lookup (is_at (λ k. path_cmp path k.now)) es)) ≡ cond b (Some e.1.now) (lookup (is_at (path_cmp path)) (shown es))
  by true more = refl
  by false more = more
