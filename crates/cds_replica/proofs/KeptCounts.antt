-- What becomes of changes and reads is told by what a copy keeps.
use Rattle.std.proofs.Common.{◌≡◌, ◌+◌, ◌<◌, ℕ, max, Bool, true, false, cond, not, ◌||◌, nat_eq, List, [], ◌∷◌, ◌++◌, map, Option, Some, None, refl, sym, ap, ◌∙◌, subst, true≢false, eqb-true, append_assoc, arith}
use Rattle.std.proofs.lemmas.List.{reverse-append}
use Rattle.cds_object.specs.Object.{ObjectRow}
use Rattle.cds_object.specs.declared.event.Event.{Event}
use Rattle.cds_object.specs.declared.event.Event.TheVariants.{ObjAdd, ObjMod, ObjDel, StDone}
use Rattle.cds_catalog.proofs.StepsFind.{none≢some}
use Rattle.cds_follow.specs.Copy.{KnownRow, known_of, knows, knows_container, cannot_be, changed, Happening, Changes, Reads, rows_after, read_up_to}
use Rattle.cds_follow.specs.Follow.{Known, first_torn, judged, counted_from, is_of}
use Rattle.cds_follow.specs.ServerLaws.{befalling}
use Rattle.cds_follow.proofs.Copies.{read-up-to}
use Rattle.cds_replica.specs.CopyState.{KeptRow, IsSound, AreAbove, kept_row, copy_of, bare_rows}
use Rattle.cds_replica.specs.CopySteps.{rows_changed_by, cannot_come, first_cannot, judged_count, count_from, count_of, version_of, copy_read, can_be_of}
use Rattle.cds_replica.proofs.KeptIds.{root-stays, root-stands, distinct-after}
use Rattle.cds_replica.proofs.KeptSteps.{rows-of, change-kept, read-kept}
use Rattle.cds_object.specs.Events.{update_of, object_of}
use Rattle.cds_load.specs.Outcome.{Goes, Jumps}

-- ---- several changes

befalling-more : (event : Event) (events : List Event) (older : List Happening) → befalling (event ∷ events) ++ older ≡ befalling events ++ (Changes event ∷ older)
befalling-more event events older =
    ap (λ (l : List Happening). l ++ older) (reverse-append (Changes event ∷ []) (map Changes events)) ∙ append_assoc (befalling events) (Changes event ∷ []) older

abbrev pub GoesOn : List ObjectRow → List Event → List Happening → Type 0
GoesOn rows events older =
    IsSound rows (befalling events ++ older)
    × (map (kept_row (befalling events ++ older)) (rows_after rows (befalling events ++ older)) ≡ rows_changed_by (map (kept_row older) (rows_after rows older)) events)

pub changes-kept : (at : ℕ) (rows : List ObjectRow) (events : List Event) (older : List Happening) → IsSound rows older → AreAbove at events
    → first_torn (rows_after rows older) events ≡ None → GoesOn rows events older
changes-kept at rows [] older sound above none = (sound, refl)
changes-kept at rows (event ∷ events) older sound above none =
    by (cannot_be (rows_after rows older) event) refl none (λ s k. changes-kept at rows events (Changes event ∷ older) s above.1 k)
  where
    positive : at < update_of event → 0 < update_of event
    positive l = omega (arith, l)

    by : (b : Bool) → cannot_be (rows_after rows older) event ≡ b
        → cond b (Some (object_of event)) (first_torn (changed (rows_after rows older) event) events) ≡ None
        → (IsSound rows (Changes event ∷ older) → first_torn (changed (rows_after rows older) event) events ≡ None → GoesOn rows events (Changes event ∷ older))
        → GoesOn rows (event ∷ events) older
    by true e k r = none≢some None (object_of event) refl (sym k)
    by false e k r =
        let whole : IsSound rows (Changes event ∷ older) = (e, positive above.0.1, sound) in
        let rest = r whole k in
        let more = befalling-more event events older in (
          subst (IsSound rows) (sym more) rest.0,
          ap (λ (l : List Happening). map (kept_row l) (rows_after rows l)) more ∙ rest.1
              ∙ ap (λ (l : List KeptRow). rows_changed_by l events) (change-kept rows event older whole),
        )

-- ---- what cannot be

come-same : (rows : List KnownRow) (event : Event) → knows 0 rows ≡ true → cannot_come rows event ≡ cannot_be rows event
come-same rows (ObjAdd id number st parent class) e = by (nat_eq id 0) refl
  where
    by : (b : Bool) → nat_eq id 0 ≡ b → b || (knows id rows || not (knows_container parent rows)) ≡ knows id rows || not (knows_container parent rows)
    by true x = ap (λ (c : Bool). c || not (knows_container parent rows)) (sym (ap (λ (n : ℕ). knows n rows) (eqb-true id 0 x) ∙ e))
    by false x = refl
come-same rows (ObjMod id number st) e = refl
come-same rows (ObjDel id number st) e = refl
come-same rows (StDone id number) e = refl

pub first-same : (rows : List KnownRow) (events : List Event) → knows 0 rows ≡ true → first_cannot rows events ≡ first_torn rows events
first-same rows [] e = refl
first-same rows (event ∷ events) e =
    (λ i. cond (come-same rows event e i) (Some (object_of event)) (first_cannot (changed rows event) events))
    ∙ by (cannot_be rows event) refl (λ x. first-same (changed rows event) events (root-stays rows event x e))
  where
    by : (b : Bool) → cannot_be rows event ≡ b → (cannot_be rows event ≡ false → first_cannot (changed rows event) events ≡ first_torn (changed rows event) events)
        → cond b (Some (object_of event)) (first_cannot (changed rows event) events) ≡ cond b (Some (object_of event)) (first_torn (changed rows event) events)
    by true x r = refl
    by false x r = r x

-- ---- what becomes of changes

pub known-copied : (rows : List ObjectRow) (happenings : List Happening) → bare_rows (copy_of rows happenings) ≡ rows_after rows happenings
known-copied rows happenings = rows-of happenings (rows_after rows happenings)

pub cannot-same : (rows : List ObjectRow) (happenings : List Happening) (events : List Event) → IsSound rows happenings
    → first_cannot (bare_rows (copy_of rows happenings)) events ≡ first_torn (rows_after rows happenings) events
cannot-same rows happenings events sound =
    ap (λ (l : List KnownRow). first_cannot l events) (known-copied rows happenings) ∙ first-same (rows_after rows happenings) events (root-stands rows happenings sound)

-- of changes above a position a copy makes what the definition makes of them
pub count-kept : (rows : List ObjectRow) (known : Known) (at : ℕ) (events : List Event) → IsSound rows known.happenings → AreAbove at events
    → count_of rows (counted_from rows known at events) ≡ count_from (copy_of rows known.happenings) at events
count-kept rows known at [] sound above = refl
count-kept rows known at (event ∷ events) sound above = by (nat_eq (update_of event) (at + 1))
  where
    on : (o : Option ℕ) → first_torn (rows_after rows known.happenings) (event ∷ events) ≡ o
        → count_of rows (judged known (event ∷ events) o) ≡ judged_count (copy_of rows known.happenings) (event ∷ events) o
    on (Some id) e = refl
    on None e =
        let rest = changes-kept at rows (event ∷ events) known.happenings sound above e in
        λ i. Goes (record { rows = rest.1 i; read_up_to = read-up-to (event ∷ events) known.happenings i })

    by : (b : Bool) → count_of rows (cond b (judged known (event ∷ events) (first_torn (rows_after rows known.happenings) (event ∷ events))) (Jumps (at + 1) (update_of event)))
        ≡ cond b (judged_count (copy_of rows known.happenings) (event ∷ events) (first_cannot (bare_rows (copy_of rows known.happenings)) (event ∷ events))) (Jumps (at + 1) (update_of event))
    by true =
        on (first_torn (rows_after rows known.happenings) (event ∷ events)) refl
        ∙ ap (judged_count (copy_of rows known.happenings) (event ∷ events)) (sym (cannot-same rows known.happenings (event ∷ events) sound))
    by false = refl

-- and what befell it stays sound
pub count-sound : (rows : List ObjectRow) (known now : Known) (at : ℕ) (events : List Event) → IsSound rows known.happenings → AreAbove at events
    → counted_from rows known at events ≡ Goes now → IsSound rows now.happenings
count-sound rows known now at [] sound above e = let same : known ≡ now = cc in subst (λ (k : Known). IsSound rows k.happenings) same sound
count-sound rows known now at (event ∷ events) sound above e = by (nat_eq (update_of event) (at + 1)) e
  where
    on : (o : Option ℕ) → first_torn (rows_after rows known.happenings) (event ∷ events) ≡ o → judged known (event ∷ events) o ≡ Goes now → IsSound rows now.happenings
    on (Some id) k f = let no : ⊥ = cc in absurd no
    on None k f =
        let same : record known { happenings = befalling (event ∷ events) ++ known.happenings } ≡ now = cc in
        subst (λ (k : Known). IsSound rows k.happenings) same (changes-kept at rows (event ∷ events) known.happenings sound above k).0

    by : (b : Bool) → cond b (judged known (event ∷ events) (first_torn (rows_after rows known.happenings) (event ∷ events))) (Jumps (at + 1) (update_of event)) ≡ Goes now
        → IsSound rows now.happenings
    by true f = on (first_torn (rows_after rows known.happenings) (event ∷ events)) refl f
    by false f = let no : ⊥ = cc in absurd no

-- ---- what becomes of a read

of-known : (id : ℕ) (row : ObjectRow) (rows : List KnownRow) → is_of id row (known_of id rows) ≡ true → knows id rows ≡ true
of-known id row [] e = absurd (true≢false (sym e))
of-known id row (next ∷ rows) e = by (nat_eq next.id id) e (of-known id row rows)
  where
    by : (b : Bool) → is_of id row (cond b (Some next) (known_of id rows)) ≡ true → (is_of id row (known_of id rows) ≡ true → knows id rows ≡ true) → b || knows id rows ≡ true
    by true f r = refl
    by false f r = r f

pub can-same : (rows : List ObjectRow) (happenings : List Happening) (id : ℕ) (row : ObjectRow)
    → can_be_of (copy_of rows happenings) id row ≡ is_of id row (known_of id (rows_after rows happenings))
can-same rows happenings id row = ap (λ (l : List KnownRow). is_of id row (known_of id l)) (known-copied rows happenings)

-- a copy after a read is that after what befell it and the read
pub read-copied : (rows : List ObjectRow) (happenings : List Happening) (id : ℕ) (row : ObjectRow) → IsSound rows happenings
    → copy_read (copy_of rows happenings) id (version_of row) ≡ copy_of rows (Reads id (version_of row) ∷ happenings)
read-copied rows happenings id row sound =
    λ i. record {
      rows = sym (read-kept id (version_of row) happenings (rows_after rows happenings) (distinct-after rows happenings sound)) i;
      read_up_to = max row.object_update (read_up_to happenings);
    }

pub read-sound : (rows : List ObjectRow) (happenings : List Happening) (id : ℕ) (row : ObjectRow) → IsSound rows happenings
    → is_of id row (known_of id (rows_after rows happenings)) ≡ true → IsSound rows (Reads id (version_of row) ∷ happenings)
read-sound rows happenings id row sound e = (of-known id row (rows_after rows happenings) e, sound)
