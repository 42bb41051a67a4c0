-- A copy of an honest server goes on with what the server tells and shows, and when it stands it is the server's rows.
use Rattle.std.proofs.Common.{◌≡◌, ◌⊎◌, inl, inr, ◌<◌, ◌≤◌, ℕ, max, min, Bool, true, false, cond, not, ◌||◌, nat_eq, List, [], ◌∷◌, ◌++◌, map, filter, Option, Some, None, refl, sym, ap, ◌∙◌, subst, arith, true≢false, eq-eqb, eqb-true, ne_eqb}
use Rattle.std.specs.List.{AllByRecursion, list_any, filter_map, cons_option}
use Rattle.std.specs.Option.{option_map}
use Rattle.std.proofs.lemmas.Bool.{cases_lt}
use Rattle.cds_object.specs.Object.{ObjectRow}
use Rattle.cds_object.specs.Tree.{row_of}
use Rattle.cds_object.specs.declared.event.Event.{Event}
use Rattle.cds_object.specs.declared.event.Event.TheVariants.{ObjAdd, ObjMod, ObjDel, StDone}
use Rattle.cds_catalog.specs.History.{end_of}
use Rattle.cds_catalog.specs.Catalog.{catalog}
use Rattle.cds_catalog.specs.Steps.{standing_of}
use Rattle.cds_catalog.specs.Laws.{IsWithin}
use Rattle.cds_catalog.proofs.Maps.{older_are_libraries}
use Rattle.cds_catalog.proofs.StepsFind.{none≢some}
use Rattle.cds_catalog.proofs.StepsWithin.{rows_are_within-proof}
use Rattle.cds_load.proofs.Merge.{Rises}
use Rattle.cds_load.proofs.Trees.{id_of, ascend-rises, each-found, found-id, all-at}
use Rattle.cds_commands.specs.Commands.{Command, scans_of, AreAccepted}
use Rattle.cds_follow.specs.Copy.{Version, KnownRow, known_row, shown_row, known_of, newer, read_anew, Happening, Changes, Reads, rows_after, deletes, marks, shows_from, since_deletion, is_unread, named, least, least_unread, read_up_to}
use Rattle.cds_follow.specs.Follow.{first_torn}
use Rattle.cds_follow.specs.StepLaws.{AreLike, changed_by}
use Rattle.cds_follow.specs.ServerLaws.{served, befalling}
use Rattle.cds_commands.specs.Notes.{told_between}
use Rattle.cds_commands.proofs.Among.{Among, among-filter, filter-among}
use Rattle.cds_follow.proofs.Settled.{is_marked, marked-tail}
use Rattle.cds_commands.proofs.Spanned.{none-told}
use Rattle.cds_follow.proofs.Happened.{Possible, marked-known, shown-says, reads-known, newer-before, rows-befalling, possible-befalling, keeps-changes}
use Rattle.cds_follow.proofs.LeadsSpan.{LeadsTo}
use Rattle.cds_follow.proofs.Served.{pair, risen, serves, served-leads, settled, told-of}
use Rattle.cds_follow.proofs.Copies.{like-known, like-itself, like-read, known-row, Comes, comes-changes, comes-read, comes-from, comes-weaker, marked-more, marked-still, none-deleted, read-up-to}

-- what is known of a row is at least as new as it, or it is marked as unread with its number
abbrev pub IsFresh : ℕ → ObjectRow → KnownRow → List Happening → Type 0
IsFresh id row known happenings =
    ((w : Version) × (known.says ≡ Some w) × (row.object_update ≤ w.object_update)) ⊎ (is_marked id row.object_update happenings ≡ true)

-- a version is that of a row which the server had at a length up to another
abbrev pub ComesFrom : List ℕ → ℕ → List Command → ℕ → ℕ → Version → Type 0
ComesFrom token first commands k id v =
    (j : ℕ) × (j ≤ k) × ((row : ObjectRow) × (row_of id (served token first commands j).rows ≡ Some row) × (v ≡ record { content = row.content; object_update = row.object_update }))

-- a copy, from a load that ended with a number and rows: it is like the server's rows at a length where the server had the
-- position as its number
pub record IsCopy (token : List ℕ) (first : ℕ) (commands : List Command) (k base : ℕ) (rows : List ObjectRow) (happenings : List Happening) (position : ℕ) : Type 0 where
  pub at : ℕ
  pub within : at ≤ k
  pub here : position ≡ (served token first commands at).number
  pub like : AreLike (rows_after rows happenings) (served token first commands at).rows
  pub possible : Possible rows happenings
  pub comes : AllByRecursion (Comes (ComesFrom token first commands k)) (rows_after rows happenings)
  pub bounded : AllByRecursion (Comes (λ id v. v.object_update ≤ max base (read_up_to happenings))) (rows_after rows happenings)
  pub fresh : (id : ℕ) (row : ObjectRow) (known : KnownRow) → row_of id (served token first commands at).rows ≡ Some row
      → known_of id (rows_after rows happenings) ≡ Some known → IsFresh id row known happenings
  pub read : read_up_to happenings ≤ (served token first commands k).number

fresh-of : (id : ℕ) (row : ObjectRow) (one other : KnownRow) (happenings : List Happening) → one.says ≡ other.says → IsFresh id row one happenings → IsFresh id row other happenings
fresh-of id row one other happenings same (inl f) = inl (f.0, sym same ∙ f.1, f.2)
fresh-of id row one other happenings same (inr f) = inr f

same-known : (o : Option KnownRow) (one other : KnownRow) → o ≡ Some one → o ≡ Some other → one ≡ other
same-known o one other e f = let s : Some one ≡ Some other = sym e ∙ f in cc

same-row : (o : Option ObjectRow) (one other : ObjectRow) → o ≡ Some one → o ≡ Some other → one ≡ other
same-row o one other e f = let s : Some one ≡ Some other = sym e ∙ f in cc

module _ (token : List ℕ) (first : ℕ) (commands : List Command) (accepted : AreAccepted first commands) where
  rises : (j : ℕ) → Rises id_of (served token first commands j).rows
  rises j = ascend-rises (served token first commands j).rows ((serves token first commands accepted.libraries).trees j).ascending

  -- no row's objectUpdateID is above the number
  row-within : (j id : ℕ) (row : ObjectRow) → row_of id (served token first commands j).rows ≡ Some row → row.object_update ≤ (served token first commands j).number
  row-within j id row e =
      let p = pair token first commands accepted.libraries j j (omega arith) in
      let all = rows_are_within-proof (record { first = first; maps = p.older }) (older_are_libraries p.newer p.older p.libraries) in
      let within = all-at (IsWithin (standing_of (record { first = first; maps = p.older }))) id (catalog (record { first = first; maps = p.older })) row all.0
      (subst (λ (rows : List ObjectRow). row_of id rows ≡ Some row) (ap catalog p.early) e) in
      let low = within.object_update in
      let number = ap end_of p.early in
      omega (arith, low, number)

  -- what a version that the server showed is, by a row at another length: where the version is not above that length's
  -- number, and the row's is not above the version's, they are one
  one-version : (k at id : ℕ) (row : ObjectRow) (v : Version) → ComesFrom token first commands k id v → row_of id (served token first commands at).rows ≡ Some row
      → row.object_update ≤ v.object_update → v.object_update ≤ (served token first commands at).number
      → v ≡ record { content = row.content; object_update = row.object_update }
  one-version k at id row v from e low high = by (cases_lt from.0 at)
    where
      shown : ObjectRow
      shown = from.2.0

      is : v ≡ record { content = shown.content; object_update = shown.object_update }
      is = from.2.2

      both : (a b : ObjectRow) → a.content ≡ b.content → a.object_update ≡ b.object_update
          → ◌≡◌ {A = Version} (record { content = a.content; object_update = a.object_update }) (record { content = b.content; object_update = b.object_update })
      both a b p q = λ i. record { content = p i; object_update = q i }

      update : v.object_update ≡ shown.object_update
      update = ap (λ (w : Version). w.object_update) is

      by : (from.0 < at) ⊎ (at ≤ from.0) → v ≡ record { content = row.content; object_update = row.object_update }
      by (inl l) =
          let most = row-within from.0 id shown from.2.1 in
          let number = update in
          let then = settled token first commands accepted.libraries from.0 at id row (omega (arith, l)) e (omega (arith, low, most, number)) in
          let same = same-row (row_of id (served token first commands from.0).rows) then.0 shown then.1 from.2.1 in
          is ∙ both shown row (ap (λ (r : ObjectRow). r.content) (sym same) ∙ then.2) (ap (λ (r : ObjectRow). r.object_update) (sym same) ∙ then.3)
      by (inr l) =
          let number = update in
          let then = settled token first commands accepted.libraries at from.0 id shown l from.2.1 (omega (arith, high, number)) in
          let same = same-row (row_of id (served token first commands at).rows) then.0 row then.1 e in
          is ∙ both shown row (sym then.2 ∙ ap (λ (r : ObjectRow). r.content) same) (sym then.3 ∙ ap (λ (r : ObjectRow). r.object_update) same)

  -- ---- a copy begins

  pub copy-begins : (j k : ℕ) → j ≤ k → IsCopy token first commands k (served token first commands j).number (served token first commands j).rows [] (served token first commands j).number
  copy-begins j k l = record {
    at = j;
    within = l;
    here = refl;
    like = like-itself (served token first commands j).rows;
    possible = tt;
    comes = each-known (λ row e. (j, l, (row, e, refl))) (served token first commands j).rows (each-found (served token first commands j).rows (rises j));
    bounded = each-bounded (served token first commands j).rows (each-found (served token first commands j).rows (rises j));
    fresh = λ id row known e f. inl (
      record { content = row.content; object_update = row.object_update },
      ap (λ (x : KnownRow). x.says) (same-known (known_of id (map known_row (served token first commands j).rows)) known (known_row row) f (known-row (served token first commands j).rows id row e)),
      omega arith,
    );
    read = omega arith;
  }
    where
      each-known : ((row : ObjectRow) → row_of row.id (served token first commands j).rows ≡ Some row → ComesFrom token first commands k row.id (record { content = row.content; object_update = row.object_update }))
          → (rows : List ObjectRow) → AllByRecursion (λ (row : ObjectRow). row_of row.id (served token first commands j).rows ≡ Some row) rows
          → AllByRecursion (Comes (ComesFrom token first commands k)) (map known_row rows)
      each-known f [] all = tt
      each-known f (row ∷ rows) all = (f row all.0, each-known f rows all.1)

      each-bounded : (rows : List ObjectRow) → AllByRecursion (λ (row : ObjectRow). row_of row.id (served token first commands j).rows ≡ Some row) rows
          → AllByRecursion (Comes (λ id v. v.object_update ≤ max (served token first commands j).number 0)) (map known_row rows)
      each-bounded [] all = tt
      each-bounded (row ∷ rows) all = (let low = row-within j row.id row all.0 in omega (arith, low), each-bounded rows all.1)

  pub copy-later : (j k base : ℕ) (rows : List ObjectRow) (happenings : List Happening) (position : ℕ) → j ≤ k
      → IsCopy token first commands j base rows happenings position → IsCopy token first commands k base rows happenings position
  copy-later j k base rows happenings position l copy = record {
    at = copy.at;
    within = let w = copy.within in omega (arith, w, l);
    here = copy.here;
    like = copy.like;
    possible = copy.possible;
    comes = comes-weaker (ComesFrom token first commands j) (ComesFrom token first commands k) (λ id v c. (c.0, (let w = c.1 in omega (arith, w, l)), c.2)) (rows_after rows happenings) copy.comes;
    bounded = copy.bounded;
    fresh = copy.fresh;
    read = let low = copy.read in let rise = risen token first commands accepted.libraries j k l in omega (arith, low, rise);
  }

  -- ---- a copy goes on with what is told

  module _ (k base : ℕ) (rows : List ObjectRow) (happenings : List Happening) (position j : ℕ) (l : j ≤ k)
      (copy : IsCopy token first commands k base rows happenings position) (ahead : position ≤ (served token first commands j).number) where
    abbrev events : List Event
    events = told_between first commands position (served token first commands j).number

    Goes : List Event → Type 0
    Goes told = (first_torn (rows_after rows happenings) told ≡ None) × IsCopy token first commands k base rows (befalling told ++ happenings) (served token first commands j).number

    stays : j < copy.at → Goes events
    unfolding Goes
    stays m =
        let rise = risen token first commands accepted.libraries j copy.at (omega (arith, m)) in
        let here = copy.here in
        let low = ahead in
        let same : (served token first commands j).number ≡ position = omega (arith, rise, here, low) in
        subst (λ (told : List Event). (first_torn (rows_after rows happenings) told ≡ None) × IsCopy token first commands k base rows (befalling told ++ happenings) (served token first commands j).number)
        (sym (none-told (scans_of first commands) position (served token first commands j).number (omega (arith, same))))
        (refl, subst (IsCopy token first commands k base rows happenings) (sym same) copy)

    goes : copy.at ≤ j → Goes events
    unfolding Goes
    goes m =
        subst (λ (n : ℕ). (first_torn (rows_after rows happenings) (told_between first commands n (served token first commands j).number) ≡ None)
        × IsCopy token first commands k base rows (befalling (told_between first commands n (served token first commands j).number) ++ happenings) (served token first commands j).number) (sym copy.here) (
          led.0,
          record {
            at = j;
            within = l;
            here = refl;
            like = subst (λ (known : List KnownRow). AreLike known (served token first commands j).rows) (sym after) led.1;
            possible = possible-befalling rows told happenings copy.possible led.0;
            comes = subst (AllByRecursion (Comes (ComesFrom token first commands k))) (sym after) (comes-changes (ComesFrom token first commands k) (rows_after rows happenings) told copy.comes);
            bounded = subst (λ (n : ℕ). AllByRecursion (Comes (λ id v. v.object_update ≤ max base n)) (rows_after rows (befalling told ++ happenings))) (sym (read-up-to told happenings))
                (subst (AllByRecursion (Comes (λ id v. v.object_update ≤ max base (read_up_to happenings)))) (sym after)
                (comes-changes (λ id v. v.object_update ≤ max base (read_up_to happenings)) (rows_after rows happenings) told copy.bounded));
            fresh = fresh;
            read = let low = copy.read in let same = read-up-to told happenings in omega (arith, low, same);
          },
        )
      where
        told : List Event
        told = told_between first commands (served token first commands copy.at).number (served token first commands j).number

        led : LeadsTo (rows_after rows happenings) told (served token first commands j).rows
        led = served-leads token first commands accepted.libraries accepted.numbers copy.at j m (rows_after rows happenings) copy.like

        after : rows_after rows (befalling told ++ happenings) ≡ changed_by (rows_after rows happenings) told
        after = rows-befalling rows told happenings

        fresh : (id : ℕ) (row : ObjectRow) (known : KnownRow) → row_of id (served token first commands j).rows ≡ Some row
            → known_of id (rows_after rows (befalling told ++ happenings)) ≡ Some known → IsFresh id row known (befalling told ++ happenings)
        fresh id row known e f = by (cases_lt (served token first commands copy.at).number row.object_update)
          where
            is : (row.object_update ≤ (served token first commands copy.at).number → AllByRecursion (λ (h : Happening). deletes id h ≡ false) (befalling told))
                × ((served token first commands copy.at).number < row.object_update → list_any (nat_eq row.object_update) (filter_map (marks id) (since_deletion id (befalling told))) ≡ true)
            is = told-of token first commands accepted.libraries copy.at j id row m e

            on : (before : KnownRow) → known.says ≡ before.says → (u : ℕ) → u ≡ row.object_update → AllByRecursion (λ (h : Happening). deletes id h ≡ false) (befalling told)
                → ((w : Version) × (before.says ≡ Some w) × (u ≤ w.object_update)) ⊎ (is_marked id u happenings ≡ true) → IsFresh id row known (befalling told ++ happenings)
            on before same u number none (inl g) = inl (g.0, same ∙ g.1, (let low = g.2 in omega (arith, low, number)))
            on before same u number none (inr g) = inr (marked-still id row.object_update (befalling told) happenings none (subst (λ (n : ℕ). is_marked id n happenings ≡ true) number g))

            by : ((served token first commands copy.at).number < row.object_update) ⊎ (row.object_update ≤ (served token first commands copy.at).number) → IsFresh id row known (befalling told ++ happenings)
            by (inl high) = inr (marked-more id row.object_update (befalling told) happenings (is.1 high))
            by (inr low) =
                let then = settled token first commands accepted.libraries copy.at j id row m e low in
                let before = like-known (rows_after rows happenings) (served token first commands copy.at).rows id then.0 copy.like then.1 in
                let kept = keeps-changes id told (rows_after rows happenings) led.0 (none-deleted id told (is.0 low)) before.0 before.1 in
                let same = same-known (known_of id (rows_after rows (befalling told ++ happenings))) known kept.0 f (ap (known_of id) after ∙ kept.1) in
                on before.0 (ap (λ (x : KnownRow). x.says) same ∙ kept.2) then.0.object_update then.3 (is.0 low) (copy.fresh id then.0 before.0 then.1 before.1)

    pub copy-goes : (first_torn (rows_after rows happenings) events ≡ None) × IsCopy token first commands k base rows (befalling events ++ happenings) (served token first commands j).number
    unfolding Goes
    copy-goes = by (cases_lt j copy.at)
      where
        by : (j < copy.at) ⊎ (copy.at ≤ j) → (first_torn (rows_after rows happenings) events ≡ None) × IsCopy token first commands k base rows (befalling events ++ happenings) (served token first commands j).number
        by (inl m) = stays m
        by (inr m) = goes m

  -- ---- a copy reads an object's own row

  pub copy-reads : (k base : ℕ) (rows : List ObjectRow) (happenings : List Happening) (position : ℕ) → IsCopy token first commands k base rows happenings position
      → (id : ℕ) (row : ObjectRow) (before : KnownRow) → row_of id (served token first commands k).rows ≡ Some row → known_of id (rows_after rows happenings) ≡ Some before
      → IsCopy token first commands k base rows (Reads id (record { content = row.content; object_update = row.object_update }) ∷ happenings) position
  copy-reads k base rows happenings position copy id row before e f = record {
    at = copy.at;
    within = copy.within;
    here = copy.here;
    like = like-read (rows_after rows happenings) (served token first commands copy.at).rows id v copy.like;
    possible = ((before, f), copy.possible);
    comes = comes-read (ComesFrom token first commands k) (rows_after rows happenings) id v (k, omega arith, (row, e, refl)) copy.comes;
    bounded = comes-read (λ i w. w.object_update ≤ max base (max v.object_update (read_up_to happenings))) (rows_after rows happenings) id v (omega arith)
        (comes-weaker (λ i w. w.object_update ≤ max base (read_up_to happenings)) (λ i w. w.object_update ≤ max base (max v.object_update (read_up_to happenings)))
        (λ i w low. omega (arith, low)) (rows_after rows happenings) copy.bounded);
    fresh = fresh;
    read = let low = copy.read in let most = row-within k id row e in omega (arith, low, most);
  }
    where
      v : Version
      v = record { content = row.content; object_update = row.object_update }

      fresh : (other : ℕ) (r : ObjectRow) (known : KnownRow) → row_of other (served token first commands copy.at).rows ≡ Some r
          → known_of other (read_anew (rows_after rows happenings) id v) ≡ Some known → IsFresh other r known (Reads id v ∷ happenings)
      fresh other r known g h =
          let was = like-known (rows_after rows happenings) (served token first commands copy.at).rows other r copy.like g in
          let now = reads-known other id v (rows_after rows happenings) was.0 was.1 in
          let same = same-known (known_of other (read_anew (rows_after rows happenings) id v)) known now.0 h now.1 in
          by was.0 (nat_eq id other) (ap (λ (x : KnownRow). x.says) same ∙ now.2) (copy.fresh other r was.0 g was.1)
        where
          by : (was : KnownRow) (b : Bool) → known.says ≡ cond b (Some (newer v was.says)) was.says
              → IsFresh other r was happenings → IsFresh other r known (Reads id v ∷ happenings)
          by was true s (inl w) =
              let more = newer-before v w.0 in
              let low = w.2 in
              inl (newer v (Some w.0), s ∙ ap (λ (o : Option Version). Some (newer v o)) w.1, omega (arith, more, low))
          by was false s (inl w) = inl (w.0, s ∙ w.1, w.2)
          by was b s (inr m) = inr (marked-tail other r.object_update (Reads id v) happenings refl m)

  -- ---- a copy stands

  any-among : {X : Type 0} (p : X → Bool) (xs : List X) → list_any p xs ≡ true → (x : X) × Among x xs × (p x ≡ true)
  any-among p [] e = absurd (true≢false (sym e))
  any-among {X} p (x ∷ xs) e = by (p x) refl e (any-among p xs)
    where
      by : (b : Bool) → p x ≡ b → b || list_any p xs ≡ true → (list_any p xs ≡ true → (y : X) × Among y xs × (p y ≡ true)) → (y : X) × Among y (x ∷ xs) × (p y ≡ true)
      by true q k r = (x, inl refl, q)
      by false q k r = let rest = r k in (rest.0, inr rest.1, rest.2)

  among-any : {X : Type 0} (p : X → Bool) (xs : List X) (x : X) → Among x xs → p x ≡ true → list_any p xs ≡ true
  among-any p [] x a e = absurd a
  among-any {X} p (y ∷ ys) x a e = by a (λ b. among-any p ys x b e)
    where
      either : (b c : Bool) → c ≡ true → b || c ≡ true
      either true c k = refl
      either false c k = k

      by : (x ≡ y) ⊎ Among x ys → (Among x ys → list_any p ys ≡ true) → p y || list_any p ys ≡ true
      by (inl s) r = (λ i. (ap p (sym s) ∙ e) i || list_any p ys)
      by (inr b) r = either (p y) (list_any p ys) (r b)

  -- what is marked is named
  marked-named : (id number : ℕ) (happenings : List Happening) → Among number (filter_map (marks id) (since_deletion id happenings)) → Among id (filter_map named happenings)
  marked-named id number [] a = absurd a
  marked-named id number (h ∷ happenings) a = by (deletes id h) (marks id h) refl a (marked-named id number happenings)
    where
      open-cons : (o : Option ℕ) → Among id (filter_map named happenings) → Among id (cons_option o (filter_map named happenings))
      open-cons None a = a
      open-cons (Some n) a = inr a

      names : (h : Happening) (n : ℕ) → marks id h ≡ Some n → Among id (cons_option (named h) (filter_map named happenings))
      names (Changes (ObjAdd other number st parent class)) n m = on (nat_eq other id) refl m
        where
          on : (b : Bool) → nat_eq other id ≡ b → cond b (Some number) None ≡ Some n → (id ≡ other) ⊎ Among id (filter_map named happenings)
          on true e k = inl (sym (eqb-true other id e))
          on false e k = none≢some None n refl k
      names (Changes (ObjMod other number st)) n m = on (nat_eq other id) refl m
        where
          on : (b : Bool) → nat_eq other id ≡ b → cond b (Some number) None ≡ Some n → (id ≡ other) ⊎ Among id (filter_map named happenings)
          on true e k = inl (sym (eqb-true other id e))
          on false e k = none≢some None n refl k
      names (Changes (ObjDel other number st)) n m = none≢some None n refl m
      names (Changes (StDone other number)) n m = none≢some None n refl m
      names (Reads other v) n m = none≢some None n refl m

      by : (b : Bool) (o : Option ℕ) → marks id h ≡ o → Among number (filter_map (marks id) (cond b [] (h ∷ since_deletion id happenings)))
          → (Among number (filter_map (marks id) (since_deletion id happenings)) → Among id (filter_map named happenings))
          → Among id (cons_option (named h) (filter_map named happenings))
      by true o m a r = absurd a
      by false None m a r =
          open-cons (named h) (r (subst (λ (x : Option ℕ). Among number (cons_option x (filter_map (marks id) (since_deletion id happenings)))) m a))
      by false (Some n) m a r = names h n m

  least-some : (ns : List ℕ) (n : ℕ) → Among n ns → (m : ℕ) × (least ns ≡ Some m)
  least-some [] n a = absurd a
  least-some (x ∷ ns) n a = by (least ns) refl
    where
      by : (o : Option ℕ) → least ns ≡ o → (m : ℕ) × (least (x ∷ ns) ≡ Some m)
      by None e = (x, rw e refl)
      by (Some other) e = (min x other, rw e refl)

  least-among : (ns : List ℕ) (m : ℕ) → least ns ≡ Some m → Among m ns
  least-among [] m e = none≢some None m refl e
  least-among (x ∷ ns) m e = by (least ns) refl (λ k. least-among ns m k)
    where
      by : (o : Option ℕ) → least ns ≡ o → (least ns ≡ Some m → Among m ns) → (m ≡ x) ⊎ Among m ns
      by None k r = let is : least (x ∷ ns) ≡ Some x = rw k refl in let s : Some x ≡ Some m = sym is ∙ e in let same : x ≡ m = cc in inl (sym same)
      by (Some other) k r = on (cases_lt x other)
        where
          is : least (x ∷ ns) ≡ Some (min x other)
          is = rw k refl

          number : min x other ≡ m
          number = let s : Some (min x other) ≡ Some m = sym is ∙ e in cc

          on : (x < other) ⊎ (other ≤ x) → (m ≡ x) ⊎ Among m ns
          on (inl l) = inl (let n = number in omega (arith, n, l))
          on (inr l) = inr (r (k ∙ ap Some (let n = number in omega (arith, n, l))))

  -- an object that is unread is named by the least one
  pub least-is-unread : (happenings : List Happening) (id : ℕ) → least_unread happenings ≡ Some id → is_unread id happenings ≡ true
  least-is-unread happenings id e =
      (filter-among (λ (n : ℕ). is_unread n happenings) (filter_map named happenings) id
      (least-among (filter (λ (n : ℕ). is_unread n happenings) (filter_map named happenings)) id e)).1

  none-unread : (happenings : List Happening) (id : ℕ) → least_unread happenings ≡ None → is_unread id happenings ≡ true → ⊥
  none-unread happenings id none unread =
      let mark = any-among (λ (number : ℕ). not (list_any (shows_from id number) (since_deletion id happenings))) (filter_map (marks id) (since_deletion id happenings)) unread in
      let some = least-some (filter (λ (n : ℕ). is_unread n happenings) (filter_map named happenings)) id
      (among-filter (λ (n : ℕ). is_unread n happenings) (filter_map named happenings) id (marked-named id mark.0 happenings mark.1) unread) in
      none≢some (least_unread happenings) some.0 none some.1

  -- an unread object is known
  pub unread-known : (rows : List ObjectRow) (happenings : List Happening) → Possible rows happenings → (id : ℕ) → is_unread id happenings ≡ true
      → (known : KnownRow) × (known_of id (rows_after rows happenings) ≡ Some known)
  unread-known rows happenings possible id unread =
      let mark = any-among (λ (number : ℕ). not (list_any (shows_from id number) (since_deletion id happenings))) (filter_map (marks id) (since_deletion id happenings)) unread in
      marked-known rows happenings possible id mark.0 mark.1

  shown-rows : (knowns : List KnownRow) (rows : List ObjectRow) → AreLike knowns rows → Rises id_of rows
      → ((id : ℕ) (known : KnownRow) (row : ObjectRow) → known_of id knowns ≡ Some known → row_of id rows ≡ Some row
      → known.says ≡ Some (record { content = row.content; object_update = row.object_update })) → filter_map shown_row knowns ≡ rows
  shown-rows [] [] like rise says = refl
  shown-rows [] (row ∷ rows) like rise says = absurd like
  shown-rows (known ∷ knowns) [] like rise says = absurd like
  shown-rows (known ∷ knowns) (row ∷ rows) like rise says =
      ap (λ (o : Option ObjectRow). cons_option o (filter_map shown_row knowns)) this ∙ ap (λ (l : List ObjectRow). row ∷ l) (shown-rows knowns rows like.1 rise.1 later)
    where
      head : known.says ≡ Some (record { content = row.content; object_update = row.object_update })
      head = says known.id known row (λ i. cond (eq-eqb known.id known.id refl i) (Some known) (known_of known.id knowns))
          (λ i. cond (eq-eqb row.id known.id (sym like.0.id) i) (Some row) (row_of known.id rows))

      this : shown_row known ≡ Some row
      this =
          ap (λ (o : Option Version). option_map (λ (v : Version). record { id = known.id; parent = known.parent; content = v.content; object_update = v.object_update; trackers = known.trackers }) o) head
          ∙ (λ i. Some (record { id = like.0.id i; parent = like.0.parent i; content = row.content; object_update = row.object_update; trackers = like.0.trackers i }))

      later : (id : ℕ) (k : KnownRow) (r : ObjectRow) → known_of id knowns ≡ Some k → row_of id rows ≡ Some r → k.says ≡ Some (record { content = r.content; object_update = r.object_update })
      later id k r e f =
          let above : row.id < r.id = all-at (λ (x : ObjectRow). row.id < x.id) id rows r rise.0 f in
          let is : r.id ≡ id = found-id id rows r f in
          let of = like.0.id in
          says id k r
          ((λ i. cond (ne_eqb known.id id (λ q. omega (arith, q, above, is, of)) i) (Some known) (known_of id knowns)) ∙ e)
          ((λ i. cond (ne_eqb row.id id (λ q. omega (arith, q, above, is)) i) (Some row) (row_of id rows)) ∙ f)

  -- where nothing is unread and no version that was read is above the position, the copy is the server's rows
  pub copy-stands : (k base : ℕ) (rows : List ObjectRow) (happenings : List Happening) (position : ℕ) (copy : IsCopy token first commands k base rows happenings position)
      → least_unread happenings ≡ None → base ≤ position → read_up_to happenings ≤ position
      → filter_map shown_row (rows_after rows happenings) ≡ (served token first commands copy.at).rows
  copy-stands k base rows happenings position copy none low read =
      shown-rows (rows_after rows happenings) (served token first commands copy.at).rows copy.like (rises copy.at) says
    where
      says : (id : ℕ) (known : KnownRow) (row : ObjectRow) → known_of id (rows_after rows happenings) ≡ Some known → row_of id (served token first commands copy.at).rows ≡ Some row
          → known.says ≡ Some (record { content = row.content; object_update = row.object_update })
      says id known row e f = by (copy.fresh id row known f e)
        where
          final : (w : Version) → known.says ≡ Some w → row.object_update ≤ w.object_update → known.says ≡ Some (record { content = row.content; object_update = row.object_update })
          final w s l =
              let from = comes-from (ComesFrom token first commands k) (rows_after rows happenings) id known w copy.comes e s in
              let most = comes-from (λ i v. v.object_update ≤ max base (read_up_to happenings)) (rows_after rows happenings) id known w copy.bounded e s in
              let here = copy.here in
              let base-low = low in
              let read-low = read in
              s ∙ ap Some (one-version k copy.at id row w from f l (omega (arith, most, here, base-low, read-low)))

          by : IsFresh id row known happenings → known.says ≡ Some (record { content = row.content; object_update = row.object_update })
          by (inl w) = final w.0 w.1 w.2
          by (inr marked) = on (list_any (shows_from id row.object_update) (since_deletion id happenings)) refl
            where
              on : (b : Bool) → list_any (shows_from id row.object_update) (since_deletion id happenings) ≡ b → known.says ≡ Some (record { content = row.content; object_update = row.object_update })
              on true shown =
                  let found = shown-says rows happenings copy.possible id row.object_update shown in
                  let same = same-known (known_of id (rows_after rows happenings)) known found.0 e found.1 in
                  final found.2.0 (ap (λ (x : KnownRow). x.says) same ∙ found.2.1) found.2.2
              on false hidden =
                  let mark = any-among (nat_eq row.object_update) (filter_map (marks id) (since_deletion id happenings)) marked in
                  let number : row.object_update ≡ mark.0 = eqb-true row.object_update mark.0 mark.2 in
                  absurd (none-unread happenings id none
                  (among-any (λ (n : ℕ). not (list_any (shows_from id n) (since_deletion id happenings))) (filter_map (marks id) (since_deletion id happenings)) mark.0 mark.1
                  (ap (λ (n : ℕ). not (list_any (shows_from id n) (since_deletion id happenings))) (sym number) ∙ ap not hidden)))
