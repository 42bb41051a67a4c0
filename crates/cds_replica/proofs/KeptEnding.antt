-- The end of a load.
use Rattle.std.proofs.Common.{◌≡◌, ◌+◌, ◌<◌, ℕ, Bool, true, false, cond, not, ◌&&◌, ◌||◌, nat_eq, nat_lt, List, [], ◌∷◌, ◌++◌, map, length, Option, Some, None, refl, sym, ap, ◌∙◌, subst, arith}
use Rattle.std.specs.Prelude.{nat_le, is_some}
use Rattle.std.specs.List.{AllByRecursion, list_any, filter_map, cons_option}
use Rattle.std.specs.Option.{option_map}
use Rattle.std.proofs.lemmas.Bool.{le-leb, lt-leb}
use Rattle.std.proofs.lemmas.List.{map-append}
use Rattle.std.proofs.lemmas.List.Elements.{filter_map-append}
use Rattle.cds_object.specs.Object.{ObjectRow}
use Rattle.cds_object.specs.declared.row.Trackers.{Trackers}
use Rattle.cds_object.specs.declared.event.Event.{Event}
use Rattle.cds_load.specs.Stages.{Lists, HasCopy, Waiting, Listing as Progress, put_by, puts_by, put_rows, put_containers, waiting_of, others_waiting, listed, Loads}
use Rattle.cds_commands.specs.Notes.{changes_above}
use Rattle.cds_replica.specs.CopyState.{KeptRow, KeptCopy, copy_of, bare_rows}
use Rattle.cds_replica.specs.CopySteps.{loaded_row, rows_changed_by, AddsNoRoot, first_cannot, judged_count, count_from, leap_from}
use Rattle.cds_replica.specs.Outlines.{shown_outline, outlines_of, outline_id, outlines_cannot}
use Rattle.cds_replica.specs.Ended.{end_count, whole_rows, tracks, is_end, IsRefusal}
use Rattle.cds_replica.specs.declared.outline.Outline.{Outline}
use Rattle.cds_replica.specs.declared.count_error.CountError.{CountError}
use Rattle.cds_replica.specs.declared.count_error.CountError.TheVariants.{Jump}
use Rattle.cds_replica.proofs.Placing.{puts_by-append}
use Rattle.cds_replica.proofs.KeptOutlines.{outlined-cannot}
use Rattle.cds_replica.proofs.KeptLoops.{count-torn, count-counts, no-root}
use Rattle.cds_object.specs.Events.{update_of}
use Rattle.cds_load.specs.Outcome.{Outcome, Goes, Jumps, Tears}

-- ---- rows that a load has read

pub loaded-copy : (rows : List ObjectRow) → map loaded_row rows ≡ (copy_of rows []).rows
loaded-copy [] = refl
loaded-copy (row ∷ rows) = ap (λ (rest : List KeptRow). loaded_row row ∷ rest) (loaded-copy rows)

outlines-loaded : (rows : List ObjectRow) → outlines_of (copy_of rows []).rows ≡ map shown_outline rows
outlines-loaded [] = refl
outlines-loaded (row ∷ rows) = ap (λ (rest : List Outline). shown_outline row ∷ rest) (outlines-loaded rows)

outlines-put : (row : ObjectRow) (rows : List ObjectRow) → map shown_outline (put_by (λ (r : ObjectRow). r.id) row rows) ≡ put_by outline_id (shown_outline row) (map shown_outline rows)
outlines-put row [] = refl
outlines-put row (next ∷ rows) = by (nat_lt row.id next.id) (outlines-put row rows)
  where
    by : (b : Bool) → map shown_outline (put_by (λ (r : ObjectRow). r.id) row rows) ≡ put_by outline_id (shown_outline row) (map shown_outline rows)
        → map shown_outline (cond b (row ∷ next ∷ rows) (next ∷ put_by (λ (r : ObjectRow). r.id) row rows))
        ≡ cond b (shown_outline row ∷ shown_outline next ∷ map shown_outline rows) (shown_outline next ∷ put_by outline_id (shown_outline row) (map shown_outline rows))
    by true r = refl
    by false r = ap (λ (rest : List Outline). shown_outline next ∷ rest) r

outlines-puts : (new rows : List ObjectRow) → puts_by outline_id (map shown_outline new) (map shown_outline rows) ≡ map shown_outline (put_rows new rows)
outlines-puts [] rows = refl
outlines-puts (row ∷ new) rows =
    ap (puts_by outline_id (map shown_outline new)) (sym (outlines-put row rows)) ∙ outlines-puts new (put_by (λ (r : ObjectRow). r.id) row rows)

-- the outlines of a listing's rows with its part and a page
pub outlines-whole : (listing : Progress) (page : List ObjectRow)
    → puts_by outline_id (map shown_outline page) (puts_by outline_id (map shown_outline listing.part) (map shown_outline listing.rows)) ≡ map shown_outline (whole_rows listing page)
outlines-whole listing page =
    sym (puts_by-append outline_id (map shown_outline listing.part) (map shown_outline page) (map shown_outline listing.rows))
    ∙ ap (λ (l : List Outline). puts_by outline_id l (map shown_outline listing.rows)) (sym (map-append shown_outline listing.part page))
    ∙ outlines-puts (listing.part ++ page) listing.rows

pub length-outlines : (rows : List ObjectRow) → length (map shown_outline rows) ≡ length rows
length-outlines [] = refl
length-outlines (row ∷ rows) = let rest = length-outlines rows in omega (arith, rest)

-- ---- what becomes of the changes

module _ (rows : List ObjectRow) (number : ℕ) (kept changes : List Event) (is : changes ≡ changes_above number kept) where
  whole : (becomes : Outcome KeptCopy) → count_from (copy_of rows []) number changes ≡ becomes → end_count rows number kept ≡ becomes
  whole becomes e = ap (count_from (copy_of rows []) number) (sym is) ∙ e

  cannot : (outlines : List Outline) → outlines ≡ map shown_outline rows → outlines_cannot outlines changes ≡ first_cannot (bare_rows (copy_of rows [])) changes
  cannot outlines e =
      ap (λ (l : List Outline). outlines_cannot l changes) (e ∙ sym (outlines-loaded rows)) ∙ outlined-cannot (copy_of rows []).rows changes

  pub end-counts : (outlines : List Outline) → outlines ≡ map shown_outline rows → leap_from number changes ≡ None → outlines_cannot outlines changes ≡ None
      → end_count rows number kept ≡ Goes (record { rows = rows_changed_by (map loaded_row rows) changes; read_up_to = 0 })
  end-counts outlines e leap none =
      whole (Goes (record { rows = rows_changed_by (copy_of rows []).rows changes; read_up_to = 0 }))
      (count-counts (copy_of rows []) number changes leap (sym (cannot outlines e) ∙ none))
      ∙ ap (λ (l : List KeptRow). Goes (record { rows = rows_changed_by l changes; read_up_to = 0 })) (sym (loaded-copy rows))

  pub end-torn : (outlines : List Outline) (id : ℕ) → outlines ≡ map shown_outline rows → leap_from number changes ≡ None → outlines_cannot outlines changes ≡ Some id
      → end_count rows number kept ≡ Tears id
  end-torn outlines id e leap some = whole (Tears id) (count-torn (copy_of rows []) number changes id leap (sym (cannot outlines e) ∙ some))

  pub end-no-root : (outlines : List Outline) → outlines ≡ map shown_outline rows → outlines_cannot outlines changes ≡ None → AllByRecursion AddsNoRoot changes
  end-no-root outlines e none = no-root (bare_rows (copy_of rows [])) changes (sym (cannot outlines e) ∙ none)

  pub end-leap : (refusal : CountError) → leap_from number changes ≡ Some refusal → IsRefusal (end_count rows number kept) refusal
  end-leap refusal e = subst (λ (l : List Event). IsRefusal (count_from (copy_of rows []) number l) refusal) is (by changes e)
    where
      on : (copy : KeptCopy) (n first : ℕ) (b : Bool) (becomes : Outcome KeptCopy) → cond b None (Some (Jump n first)) ≡ Some refusal → IsRefusal (cond b becomes (Jumps n first)) refusal
      on copy n first true becomes f = let no : ⊥ = cc in absurd no
      on copy n first false becomes f = let same : Jump n first ≡ refusal = cc in subst (IsRefusal (Jumps n first)) same refl

      by : (events : List Event) → leap_from number events ≡ Some refusal → IsRefusal (count_from (copy_of rows []) number events) refusal
      by [] f = let no : ⊥ = cc in absurd no
      by (event ∷ events) f =
          on (copy_of rows []) (number + 1) (update_of event) (nat_eq (update_of event) (number + 1))
          (judged_count (copy_of rows []) (event ∷ events) (first_cannot (bare_rows (copy_of rows [])) (event ∷ events))) f

-- ---- whether a load ends

abbrev pub waits : ℕ → ℕ → Waiting
waits id children = record { id = id; children = children }

abbrev pub is_nil : {X : Type 0} → List X → Bool
is_nil [] = true
is_nil (x ∷ xs) = false

put-nil : {X : Type 0} (key : X → ℕ) (x : X) (xs : List X) → is_nil (put_by key x xs) ≡ false
put-nil key x [] = refl
put-nil key x (y ∷ ys) = by (nat_lt (key x) (key y))
  where
    by : (b : Bool) → is_nil (cond b (x ∷ y ∷ ys) (y ∷ put_by key x ys)) ≡ false
    by true = refl
    by false = refl

puts-nil : {X : Type 0} (key : X → ℕ) (xs others : List X) → is_nil (puts_by key xs others) ≡ is_nil xs && is_nil others
puts-nil key [] others = refl
puts-nil key (x ∷ xs) others = puts-nil key xs (put_by key x others) ∙ ap (λ (b : Bool). is_nil xs && b) (put-nil key x others) ∙ nothing (is_nil xs)
  where
    nothing : (b : Bool) → b && false ≡ false
    nothing true = refl
    nothing false = refl

none-tracks : (rows : List ObjectRow) → is_nil (filter_map waiting_of rows) ≡ not (list_any tracks rows)
none-tracks [] = refl
none-tracks (row ∷ rows) = by row.trackers (none-tracks rows)
  where
    by : (o : Option Trackers) → is_nil (filter_map waiting_of rows) ≡ not (list_any tracks rows)
        → is_nil (cons_option (option_map (λ (t : Trackers). waits row.id t.child_count) o) (filter_map waiting_of rows)) ≡ not (is_some o || list_any tracks rows)
    by None r = r
    by (Some t) r = refl

nil-append : {X : Type 0} (xs ys : List X) → is_nil (xs ++ ys) ≡ is_nil xs && is_nil ys
nil-append [] ys = refl
nil-append (x ∷ xs) ys = refl

others-nil : (listing : Progress) → is_nil (others_waiting listing) ≡ nat_le (length listing.waiting) 1
others-nil listing = by listing.waiting
  where
    by : (waiting : List Waiting) → is_nil (others_waiting (record { rows = listing.rows; waiting = waiting; part = listing.part })) ≡ nat_le (length waiting) 1
    by [] = sym (le-leb 0 1 (omega arith))
    by (w ∷ []) = sym (le-leb 1 1 (omega arith))
    by (w ∷ x ∷ ws) = sym (lt-leb (length (w ∷ x ∷ ws)) 1 (more w x ws))
      where
        more : (a b : Waiting) (cs : List Waiting) → 1 < length (a ∷ b ∷ cs)
        more a b cs = omega arith

and-turn : (a b c : Bool) → (a && b) && c ≡ (c && a) && b
and-turn true true true = refl
and-turn true true false = refl
and-turn true false true = refl
and-turn true false false = refl
and-turn false b true = refl
and-turn false b false = refl

waiting-nil : (listing : Progress) (page : List ObjectRow) → is_nil (put_containers (listing.part ++ page) (others_waiting listing)) ≡ is_end listing page
waiting-nil listing page =
    puts-nil (λ (w : Waiting). w.id) (filter_map waiting_of (listing.part ++ page)) (others_waiting listing)
    ∙ (λ i. is_nil (filter_map-append waiting_of listing.part page i) && others-nil listing i)
    ∙ ap (λ (b : Bool). b && nat_le (length listing.waiting) 1) (nil-append (filter_map waiting_of listing.part) (filter_map waiting_of page))
    ∙ (λ i. (none-tracks listing.part i && none-tracks page i) && nat_le (length listing.waiting) 1)
    ∙ and-turn (not (list_any tracks listing.part)) (not (list_any tracks page)) (nat_le (length listing.waiting) 1)

listed-by : (number : ℕ) (rows : List ObjectRow) (waiting : List Waiting)
    → listed number rows waiting ≡ cond (is_nil waiting) (HasCopy number rows) (Loads (Lists number (record { rows = rows; waiting = waiting; part = [] })))
listed-by number rows [] = refl
listed-by number rows (w ∷ ws) = refl

-- after the last page of a container a load ends, or lists on
pub ends-listed : (number : ℕ) (listing : Progress) (page : List ObjectRow)
    → listed number (whole_rows listing page) (put_containers (listing.part ++ page) (others_waiting listing))
    ≡ cond (is_end listing page) (HasCopy number (whole_rows listing page))
    (Loads (Lists number (record { rows = whole_rows listing page; waiting = put_containers (listing.part ++ page) (others_waiting listing); part = [] })))
ends-listed number listing page =
    listed-by number (whole_rows listing page) (put_containers (listing.part ++ page) (others_waiting listing))
    ∙ (λ i. cond (waiting-nil listing page i) (HasCopy number (whole_rows listing page))
    (Loads (Lists number (record { rows = whole_rows listing page; waiting = put_containers (listing.part ++ page) (others_waiting listing); part = [] }))))
