-- A replica is behind its load only for so many reads: those that a load of the catalog takes, and two more where a scan
-- came between.
use Rattle.std.proofs.Common.{◌≡◌, ◌≢◌, ℕ, suc, ◌+◌, ◌<◌, ◌≤◌, List, length, ◌*◌, cond, refl, ap, sym, subst, ◌∙◌, arith, ◌⊎◌, inl, inr, Some}
use Rattle.std.proofs.lemmas.Bool.{ne_eqb, eq-eqb, and_from}
use Rattle.std.specs.List.{sum_by}
use Rattle.cds_object.specs.Object.{ObjectRow}
use Rattle.cds_object.specs.Tree.{row_of}
use Rattle.cds_load.specs.declared.exchange.Ask.{Ask as Asked}
use Rattle.cds_load.specs.declared.exchange.Ask.TheVariants.{Metadata}
use Rattle.cds_load.specs.Server.{Moment, reply_to, metadata_reply}
use Rattle.cds_load.specs.Stages.{Held, Idle, Begun, HasToken, HasNumber, HasRoot, Lists, HasPage, HasCopy, listing_of, listed_id, page_taken, taken, next_ask, Loads}
use Rattle.cds_load.specs.Loads.{pages_for, load_reads, held_with, read_once}
use Rattle.cds_load.proofs.Trees.{folder-found, found-id}
use Rattle.cds_load.proofs.Honest.{IsServed, IsGiven}
use Rattle.cds_load.proofs.Replies.{page-shown}
use Rattle.cds_load.proofs.Ends.{Left}
use Rattle.cds_load.specs.Outcome.{Goes, Tears, after_outcome}

-- a load that has read another number than the one that stands: how many reads it owes
abbrev pub Stale : Moment → Held → ℕ → Type 0
Stale m Idle r = ⊥
Stale m (Loads Begun) r = ⊥
Stale m (Loads HasToken) r = ⊥
Stale m (Loads (HasNumber number)) r = (number ≢ m.number) × (r ≡ load_reads m.rows + 2)
Stale m (Loads (HasRoot number root)) r = (number ≢ m.number) × (r ≡ load_reads m.rows + 1)
Stale m (Loads (Lists number l)) r = (number ≢ m.number) × (r ≡ load_reads m.rows + 2)
Stale m (Loads (HasPage number l page)) r = (number ≢ m.number) × (r ≡ load_reads m.rows + 1)
Stale m (HasCopy number rows) r = ⊥

-- what becomes of a reply
owes-after : (m : Moment) (held : Held) (ask : Asked) → next_ask held ≡ Some ask → read_once m held ≡ after_outcome held (taken held (reply_to m ask))
owes-after m held ask e = ap (held_with m held) e

module _ (Stood : Moment → Type 0) (m : Moment) (served : IsServed Stood m) where
  -- a read of a load that is stale leaves one less to go
  pub read-stale : (held : Held) (r : ℕ) → IsGiven Stood held → Stale m held (suc r) → Stale m (read_once m held) r ⊎ Left m (read_once m held) r
  read-stale Idle r given stale = absurd stale
  read-stale (Loads Begun) r given stale = absurd stale
  read-stale (Loads HasToken) r given stale = absurd stale
  read-stale (Loads (HasNumber number)) r given stale =
      let root = folder-found (row_of 0 m.rows) (served.trees m served.stood).rooted in
      let holds : taken (Loads (HasNumber number)) (reply_to m (Metadata 0)) ≡ Goes (Loads (HasRoot number root.0)) =
      ap (λ o. taken (Loads (HasNumber number)) (metadata_reply m o)) root.1
      ∙ ap (λ b. cond b (Goes (Loads (HasRoot number root.0))) (Tears 0)) (and_from _ _ (eq-eqb root.0.id 0 (found-id 0 m.rows root.0 root.1)) root.2) in
      inl (subst (λ t. Stale m (after_outcome (Loads (HasNumber number)) t) r) (sym holds) (stale.0, omega (arith, stale.1)))
  read-stale (Loads (HasRoot number root)) r given stale =
      inr (subst (λ (h : Held). Left m h r) (sym (ap (λ b. cond b (Loads (Lists number (listing_of root))) (Loads Begun)) (ne_eqb m.number number (λ e. stale.0 (sym e))))) (omega (arith, stale.1)))
  read-stale (Loads (Lists number l)) r given stale =
      let shown = page-shown number l m (length l.part) (row_of (listed_id l) m.rows) in
      inl (subst (λ t. Stale m (after_outcome (Loads (Lists number l)) t) r) (sym shown.1) (stale.0, omega (arith, stale.1)))
  read-stale (Loads (HasPage number l page)) r given stale =
      inr (subst (λ t. Left m (after_outcome (Loads (HasPage number l page)) t) r)
      (sym (ap (λ b. cond b (page_taken number l page) (Goes (Loads Begun))) (ne_eqb m.number number (λ e. stale.0 (sym e))))) (omega (arith, stale.1)))
  read-stale (HasCopy number rows) r given stale = absurd stale

-- what a replica owes: it has a copy, or so many reads to go
abbrev pub Owes : Moment → Held → ℕ → Type 0
Owes m held r = ((number : ℕ) × (rows : List ObjectRow) × (held ≡ HasCopy number rows)) ⊎ (Left m held r ⊎ Stale m held r)

-- no load that is held has read a number above those that stood; after one that is above them all it is stale, or has
-- nothing of the catalog yet
pub scan-stale : (Stood : Moment → Type 0) (old now : Moment) → IsServed Stood old → old.number < now.number → (held : Held) → (held ≢ Idle) → IsGiven Stood held →
    (r : ℕ) × (r ≤ load_reads now.rows + 2) × Owes now held r
scan-stale Stood old now served above Idle begun given = absurd (begun refl)
scan-stale Stood old now served above (Loads Begun) begun given = (load_reads now.rows, omega arith, inr (inl refl))
scan-stale Stood old now served above (Loads HasToken) begun given =
    (3 + 2 * sum_by (λ (row : ObjectRow). pages_for row.trackers) now.rows, omega arith, inr (inl (omega arith)))
scan-stale Stood old now served above (Loads (HasNumber number)) begun given =
    (load_reads now.rows + 2, omega arith, inr (inr ((λ e. absurd (omega (arith, e, given.numbered, served.rising given.moment given.stood, above))), refl)))
scan-stale Stood old now served above (Loads (HasRoot number root)) begun given =
    let had = given.0.had in
    (load_reads now.rows + 1, omega arith, inr (inr ((λ e. absurd (omega (arith, e, had.numbered, served.rising had.moment had.stood, above))), refl)))
scan-stale Stood old now served above (Loads (Lists number l)) begun given =
    let had = given.0 in
    (load_reads now.rows + 2, omega arith, inr (inr ((λ e. absurd (omega (arith, e, had.numbered, served.rising had.moment had.stood, above))), refl)))
scan-stale Stood old now served above (Loads (HasPage number l page)) begun given =
    let had = given.0.had in
    (load_reads now.rows + 1, omega arith, inr (inr ((λ e. absurd (omega (arith, e, had.numbered, served.rising had.moment had.stood, above))), refl)))
scan-stale Stood old now served above (HasCopy number rows) begun given = (0, omega arith, inl (number, rows, refl))
