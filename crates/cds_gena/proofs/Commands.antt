-- What one command does to the subscriptions that a book keeps, and which of them live.
use Rattle.std.proofs.Common.{◌≡◌, ◌≢◌, ◌⊎◌, inl, inr, ◌+◌, ◌%◌, ◌<◌, ◌≤◌, ℕ, zero, suc, Bool, true, false, cond, not, ◌&&◌, nat_eq, nat_lt, List, [], ◌∷◌, ◌++◌, map, filter, length, Option, Some, None, unwrap_or, is_some, IsSome, refl, sym, ap, ◌∙◌, arith, true≢false, eq-eqb, eqb-true, ne_eqb, ltb-true, ltb-false, lt-ltb}
use Rattle.std.specs.List.{AllByRecursion, filter_map, cons_option, range_with_len}
use Rattle.std.proofs.lemmas.Bool.{cases_lt}
use Rattle.std.proofs.lemmas.List.{append-nil}
use Rattle.std.proofs.lemmas.List.Elements.{filter_map-append}
use Rattle.cds_catalog.specs.Library.{FolderMap}
use Rattle.cds_catalog.specs.History.{end_of}
use Rattle.cds_catalog.proofs.StepsFind.{each-filter, none≢some}
use Rattle.std.specs.Map.{lookup}
use Rattle.cds_changes.proofs.Numbers.{range-more}
use Rattle.cds_commands.specs.Commands.{Command, Start, Scans, Grants, Renews, Ends, Ticks, Stops, scans_of}
use Rattle.cds_commands.specs.Releases.{Release, release_at, releases_of}
use Rattle.cds_commands.specs.Subscriptions.{granted, end_after, renewed_until, unless_past, runs_until, is_alive, callback_of}
use Rattle.cds_commands.specs.Places.{seq_at, seq_after}
use Rattle.cds_commands.proofs.After.{nothing, after}
use Rattle.cds_commands.specs.Notes.{Note, next_place_of, alive_names, released_note, released_notes, first_note, sent_by, notes_of}
use Rattle.cds_commands.proofs.Among.{Among, among-all, row-among, seq-append, seq-none}
use Rattle.cds_commands.proofs.Sent.{Sound, all-sound}
use Rattle.cds_gena.specs.declared.book.Subscription.{Subscription}
use Rattle.cds_gena.specs.SubscribedLaws.{sent_under, next_under}
use Rattle.cds_gena.specs.Subscribed.{running, subscription_of, subscribed_by, alive, with_grant, until, renewed, without, expired, raised, notified, is_running, holds_alive}

abbrev Entry : Type 0
Entry = ℕ × Subscription

-- ---- lists of what some numbers have

agree : {X Y : Type 0} (f g : X → Option Y) (xs : List X) → ((x : X) → Among x xs → f x ≡ g x) → filter_map f xs ≡ filter_map g xs
agree f g [] h = refl
agree f g (x ∷ xs) h = λ i. cons_option (h x (inl refl) i) (agree f g xs (λ y a. h y (inr a)) i)

abbrev kept : {Y : Type 0} → (Y → Bool) → Option Y → Option Y
kept p None = None
kept p (Some y) = cond (p y) (Some y) None

abbrev mapped : {Y Z : Type 0} → (Y → Z) → Option Y → Option Z
mapped f None = None
mapped f (Some y) = Some (f y)

filter-given : {X Y : Type 0} (p : Y → Bool) (f : X → Option Y) (xs : List X) → filter p (filter_map f xs) ≡ filter_map (λ x. kept p (f x)) xs
filter-given p f [] = refl
filter-given {X} {Y} p f (x ∷ xs) = by (f x) (filter-given p f xs)
  where
    on : (b : Bool) (y : Y) → filter p (filter_map f xs) ≡ filter_map (λ z. kept p (f z)) xs
        → cond b (y ∷ filter p (filter_map f xs)) (filter p (filter_map f xs)) ≡ cons_option (cond b (Some y) None) (filter_map (λ z. kept p (f z)) xs)
    on true y r = ap (λ l. y ∷ l) r
    on false y r = r

    by : (o : Option Y) → filter p (filter_map f xs) ≡ filter_map (λ z. kept p (f z)) xs
        → filter p (cons_option o (filter_map f xs)) ≡ cons_option (kept p o) (filter_map (λ z. kept p (f z)) xs)
    by None r = r
    by (Some y) r = on (p y) y r

map-given : {X Y Z : Type 0} (g : Y → Z) (f : X → Option Y) (xs : List X) → map g (filter_map f xs) ≡ filter_map (λ x. mapped g (f x)) xs
map-given g f [] = refl
map-given {X} {Y} {Z} g f (x ∷ xs) = by (f x) (map-given g f xs)
  where
    by : (o : Option Y) → map g (filter_map f xs) ≡ filter_map (λ z. mapped g (f z)) xs
        → map g (cons_option o (filter_map f xs)) ≡ cons_option (mapped g o) (filter_map (λ z. mapped g (f z)) xs)
    by None r = r
    by (Some y) r = ap (λ l. g y ∷ l) r

-- the numbers that pass a test
passing : (p : ℕ → Bool) (xs : List ℕ) → filter p xs ≡ filter_map (λ x. cond (p x) (Some x) None) xs
passing p [] = refl
passing p (x ∷ xs) = by (p x) (passing p xs)
  where
    by : (b : Bool) → filter p xs ≡ filter_map (λ y. cond (p y) (Some y) None) xs
        → cond b (x ∷ filter p xs) (filter p xs) ≡ cons_option (cond b (Some x) None) (filter_map (λ y. cond (p y) (Some y) None) xs)
    by true r = ap (λ l. x ∷ l) r
    by false r = r

-- ---- a subscription by the place of its next note and its end

module _ (wrap name : ℕ) (callback : List ℕ) (place : ℕ) where
  abbrev here : ℕ → Entry
  here end = (name, record { callback = callback; end = end; next_seq = seq_at wrap place })

  -- whether it lives at a moment is seen from either
  lives : (now : ℕ) (o : Option ℕ) →
      cond (is_some (unless_past now o)) (Some name) None
      ≡ mapped (λ (p : Entry). p.0) (kept (λ (p : Entry). nat_lt now p.1.end) (running wrap name callback place o))
  lives now None = refl
  lives now (Some end) = by (nat_lt now end)
    where
      by : (b : Bool) → cond (is_some (cond b (Some end) None)) (Some name) None ≡ mapped (λ (p : Entry). p.0) (cond b (Some (here end)) None)
      by true = refl
      by false = refl

  past : (now : ℕ) (o : Option ℕ) → running wrap name callback place (unless_past now o) ≡ kept (λ (p : Entry). nat_lt now p.1.end) (running wrap name callback place o)
  past now None = refl
  past now (Some end) = by (nat_lt now end)
    where
      by : (b : Bool) → running wrap name callback place (cond b (Some end) None) ≡ cond b (Some (here end)) None
      by true = refl
      by false = refl

  -- given up
  gone : (other : ℕ) (o : Option ℕ) →
      running wrap name callback place (cond (nat_eq name other) None o) ≡ kept (λ (p : Entry). not (nat_eq p.0 other)) (running wrap name callback place o)
  gone other None = by (nat_eq name other)
    where
      by : (b : Bool) → running wrap name callback place (cond b None None) ≡ None
      by true = refl
      by false = refl
  gone other (Some end) = by (nat_eq name other)
    where
      by : (b : Bool) → running wrap name callback place (cond b None (Some end)) ≡ cond (not b) (Some (here end)) None
      by true = refl
      by false = refl

  -- renewed
  put-off : (other end : ℕ) (o : Option ℕ) →
      running wrap name callback place (cond (nat_eq name other) (renewed_until end o) o) ≡ mapped (until other end) (running wrap name callback place o)
  put-off other end None = by (nat_eq name other)
    where
      by : (b : Bool) → running wrap name callback place (cond b None None) ≡ None
      by true = refl
      by false = refl
  put-off other end (Some before) = by (nat_eq name other)
    where
      by : (b : Bool) → running wrap name callback place (cond b (Some end) (Some before)) ≡ Some (cond b (here end) (here before))
      by true = refl
      by false = refl

-- one more note, if it lives
told : (wrap now name : ℕ) (callback : List ℕ) (place : ℕ) (o : Option ℕ) → 0 < wrap →
    running wrap name callback (place + cond (is_some (unless_past now o)) 1 0) (unless_past now o)
    ≡ mapped (raised wrap) (kept (λ (p : Entry). nat_lt now p.1.end) (running wrap name callback place o))
told wrap now name callback place None some = refl
told wrap now name callback place (Some end) some = by (nat_lt now end)
  where
    this : Entry
    this = (name, record { callback = callback; end = end; next_seq = seq_at wrap place })

    more : seq_at wrap (place + 1) ≡ seq_after wrap (seq_at wrap place)
    more = let e : place + 1 ≡ suc place = omega arith in ap (seq_at wrap) e ∙ after wrap place some

    by : (b : Bool) → running wrap name callback (place + cond (is_some (cond b (Some end) None)) 1 0) (cond b (Some end) None) ≡ mapped (raised wrap) (cond b (Some this) None)
    by true = ap (λ (n : ℕ). Some (name, record { callback = callback; end = end; next_seq = n })) more
    by false = refl

-- ---- how many notes of a name a release sends

module _ (f : ℕ → Note) (named : (n : ℕ) → (f n).name ≡ n) (p : ℕ → Bool) where
  none-below : (a n name : ℕ) → name < a → next_place_of name (map f (filter p (range_with_len a n))) ≡ 0
  none-below a zero name l = refl
  none-below a (suc n) name l = by (p a) (none-below (a + 1) n name (omega (arith, l)))
    where
      others : List Note
      others = map f (filter p (range_with_len (a + 1) n))

      by : (b : Bool) → next_place_of name others ≡ 0
          → next_place_of name (map f (cond b (a ∷ filter p (range_with_len (a + 1) n)) (filter p (range_with_len (a + 1) n)))) ≡ 0
      by true r =
          let is = named a in
          (λ i. length (cond (ne_eqb (f a).name name (λ e. omega (arith, e, is, l)) i) (f a ∷ filter (λ (x : Note). nat_eq x.name name) others) (filter (λ (x : Note). nat_eq x.name name) others))) ∙ r
      by false r = r

  counted : (a n name : ℕ) → a ≤ name → name < a + n → next_place_of name (map f (filter p (range_with_len a n))) ≡ cond (p name) 1 0
  counted a zero name l h = let no : ⊥ = omega (arith, l, h) in absurd no
  counted a (suc n) name l h = by (cases_lt a name) (λ m. counted (a + 1) n name m (omega (arith, h)))
    where
      others : List Note
      others = map f (filter p (range_with_len (a + 1) n))

      all : Bool → List Note
      all b = map f (cond b (a ∷ filter p (range_with_len (a + 1) n)) (filter p (range_with_len (a + 1) n)))

      later : (b : Bool) → a < name → next_place_of name others ≡ cond (p name) 1 0 → next_place_of name (all b) ≡ cond (p name) 1 0
      later true m r =
          let is = named a in
          (λ i. length (cond (ne_eqb (f a).name name (λ e. omega (arith, e, is, m)) i) (f a ∷ filter (λ (x : Note). nat_eq x.name name) others) (filter (λ (x : Note). nat_eq x.name name) others))) ∙ r
      later false m r = r

      here : (b : Bool) → a ≡ name → next_place_of name others ≡ 0 → next_place_of name (all b) ≡ cond b 1 0
      here true e r =
          (λ i. length (cond (eq-eqb (f a).name name (named a ∙ e) i) (f a ∷ filter (λ (x : Note). nat_eq x.name name) others) (filter (λ (x : Note). nat_eq x.name name) others)))
          ∙ one-more r
        where
          one-more : next_place_of name others ≡ 0 → suc (next_place_of name others) ≡ 1
          one-more z = omega (arith, z)
      here false e r = r

      by : (a < name) ⊎ (name ≤ a) → (a + 1 ≤ name → next_place_of name others ≡ cond (p name) 1 0) → next_place_of name (all (p a)) ≡ cond (p name) 1 0
      by (inl m) r = later (p a) m (r (omega (arith, m)))
      by (inr m) r =
          let e : a ≡ name = omega (arith, l, m) in
          here (p a) e (none-below (a + 1) n name (omega (arith, e))) ∙ ap (λ (x : ℕ). cond (p x) 1 0) e

-- ---- one command

module _ (start : Start) (older : List Command) where
  abbrev names : List ℕ
  names = range_with_len 1 (granted older)

  abbrev seq_of : ℕ → ℕ
  seq_of name = next_place_of name (notes_of start.first older)

  abbrev at : ℕ → List ℕ
  at name = unwrap_or (callback_of name older) []

  -- no note was sent to a name that was not granted yet
  none-yet : next_place_of (granted older + 1) (notes_of start.first older) ≡ 0
  none-yet =
      seq-none (granted older + 1) (notes_of start.first older)
      (λ note a e. let known = (among-all (Sound start.first older) (notes_of start.first older) note (all-sound start.first older) a).known in omega (arith, known, e))

  silent-same : (command : Command) → sent_by start.first older (notes_of start.first older) command ≡ [] → notes_of start.first (command ∷ older) ≡ notes_of start.first older
  silent-same command e = ap (λ (l : List Note). notes_of start.first older ++ l) e ∙ append-nil (notes_of start.first older)

  pub booked-scan : (library : FolderMap) → subscribed_by start (Scans library ∷ older) ≡ subscribed_by start older
  booked-scan library = λ i. record {
    granted = granted older;
    living = filter_map (λ name. running start.wrap name (at name) (next_place_of name (silent-same (Scans library) refl i)) (runs_until name older)) names;
  }

  pub booked-stop : subscribed_by start (Stops ∷ older) ≡ subscribed_by start older
  booked-stop = λ i. record {
    granted = granted older;
    living = filter_map (λ name. running start.wrap name (at name) (next_place_of name (silent-same Stops refl i)) (runs_until name older)) names;
  }

  pub booked-end : (moment other : ℕ) → subscribed_by start (Ends moment other ∷ older) ≡ without other (subscribed_by start older)
  booked-end moment other = ap (λ (l : List Entry). record { granted = granted older; living = l })
      (agree (subscription_of start (Ends moment other ∷ older)) (λ name. kept (λ (p : Entry). not (nat_eq p.0 other)) (subscription_of start older name)) names
      (λ name a.
      (λ i. running start.wrap name (at name) (next_place_of name (silent-same (Ends moment other) refl i)) (runs_until name (Ends moment other ∷ older)))
      ∙ gone start.wrap name (at name) (seq_of name) other (runs_until name older))
      ∙ sym (filter-given (λ (p : Entry). not (nat_eq p.0 other)) (subscription_of start older) names))

  pub booked-renewal : (moment other seconds : ℕ) → subscribed_by start (Renews moment other seconds ∷ older) ≡ renewed other (end_after moment seconds) (subscribed_by start older)
  booked-renewal moment other seconds = ap (λ (l : List Entry). record { granted = granted older; living = l })
      (agree (subscription_of start (Renews moment other seconds ∷ older)) (λ name. mapped (until other (end_after moment seconds)) (subscription_of start older name)) names
      (λ name a.
      (λ i. running start.wrap name (at name) (next_place_of name (silent-same (Renews moment other seconds) refl i)) (runs_until name (Renews moment other seconds ∷ older)))
      ∙ put-off start.wrap name (at name) (seq_of name) other (end_after moment seconds) (runs_until name older))
      ∙ sym (map-given (until other (end_after moment seconds)) (subscription_of start older) names))

  pub booked-silent : (now : ℕ) → release_at now (scans_of start.first older) (releases_of start.first older) ≡ None → subscribed_by start (Ticks now ∷ older) ≡ expired now (subscribed_by start older)
  booked-silent now e = ap (λ (l : List Entry). record { granted = granted older; living = l })
      (agree (subscription_of start (Ticks now ∷ older)) (λ name. kept (λ (p : Entry). nat_lt now p.1.end) (subscription_of start older name)) names
      (λ name a.
      (λ i. running start.wrap name (at name) (next_place_of name (silent-same (Ticks now) none i)) (unless_past now (runs_until name older)))
      ∙ past start.wrap name (at name) (seq_of name) now (runs_until name older))
      ∙ sym (filter-given (λ (p : Entry). nat_lt now p.1.end) (subscription_of start older) names))
    where
      none : sent_by start.first older (notes_of start.first older) (Ticks now) ≡ []
      none = ap (λ (o : Option Release). released_notes (scans_of start.first older) o (notes_of start.first older) (alive_names now older)) e

  pub booked-release : (now : ℕ) (release : Release) → 0 < start.wrap → release_at now (scans_of start.first older) (releases_of start.first older) ≡ Some release →
      subscribed_by start (Ticks now ∷ older) ≡ notified start.wrap (expired now (subscribed_by start older))
  booked-release now release some e = ap (λ (l : List Entry). record { granted = granted older; living = l })
      (agree (subscription_of start (Ticks now ∷ older)) (λ name. mapped (raised start.wrap) (kept (λ (p : Entry). nat_lt now p.1.end) (subscription_of start older name))) names one
      ∙ sym (map-given (raised start.wrap) (λ name. kept (λ (p : Entry). nat_lt now p.1.end) (subscription_of start older name)) names)
      ∙ ap (map (raised start.wrap)) (sym (filter-given (λ (p : Entry). nat_lt now p.1.end) (subscription_of start older) names)))
    where
      passes : ℕ → Bool
      passes name = is_alive name now older

      count : (name : ℕ) → Among name names → next_place_of name (sent_by start.first older (notes_of start.first older) (Ticks now)) ≡ cond (passes name) 1 0
      count name a =
          let row = row-among 1 (granted older) name a in
          ap (λ (o : Option Release). next_place_of name (released_notes (scans_of start.first older) o (notes_of start.first older) (alive_names now older))) e
          ∙ counted (released_note (scans_of start.first older) release (notes_of start.first older)) (λ n. refl) passes 1 (granted older) name row.0 row.1

      one : (name : ℕ) → Among name names → subscription_of start (Ticks now ∷ older) name
          ≡ mapped (raised start.wrap) (kept (λ (p : Entry). nat_lt now p.1.end) (subscription_of start older name))
      one name a =
          ap (λ (n : ℕ). running start.wrap name (at name) n (unless_past now (runs_until name older)))
          (seq-append name (notes_of start.first older) (sent_by start.first older (notes_of start.first older) (Ticks now))
          ∙ ap (λ (n : ℕ). seq_of name + n) (count name a))
          ∙ told start.wrap now name (at name) (seq_of name) (runs_until name older) some

  pub booked-grant : (now : ℕ) (callback : List ℕ) (seconds : ℕ) → 0 < start.wrap → subscribed_by start (Grants now callback seconds ∷ older) ≡ with_grant now callback seconds (subscribed_by start older)
  booked-grant now callback seconds some =
      let more : granted older + 1 ≡ suc (granted older) = omega arith in
      let next : 1 + granted older ≡ granted older + 1 = omega arith in
      ap (λ (l : List Entry). record { granted = granted older + 1; living = l })
      (ap (λ (n : ℕ). filter_map (subscription_of start newer) (range_with_len 1 n)) more
      ∙ ap (filter_map (subscription_of start newer)) (range-more 1 (granted older))
      ∙ filter_map-append (subscription_of start newer) names ((1 + granted older) ∷ [])
      ∙ ap (λ (n : ℕ). filter_map (subscription_of start newer) names ++ cons_option (subscription_of start newer n) []) next
      ∙ (λ i. agree (subscription_of start newer) (subscription_of start older) names others i ++ cons_option (new i) []))
    where
      newer : List Command
      newer = Grants now callback seconds ∷ older

      note : Note
      note = first_note (granted older + 1) (end_of (scans_of start.first older))

      others : (name : ℕ) → Among name names → subscription_of start newer name ≡ subscription_of start older name
      others name a =
          let row = row-among 1 (granted older) name a in
          let high = row.1 in
          let apart : name ≡ granted older + 1 → ⊥ = λ e. omega (arith, high, e) in
          let back : granted older + 1 ≡ name → ⊥ = λ e. omega (arith, high, e) in
          let none : next_place_of name (note ∷ []) ≡ 0 = (λ i. length (cond (ne_eqb (granted older + 1) name back i) (note ∷ []) [])) in
          let more = seq-append name (notes_of start.first older) (note ∷ []) in
          let same : next_place_of name (notes_of start.first newer) ≡ next_place_of name (notes_of start.first older) = omega (arith, more, none) in
          let other = ne_eqb name (granted older + 1) apart in
          (λ i. running start.wrap name (unwrap_or (cond (other i) (Some callback) (callback_of name older)) []) (same i) (cond (other i) (Some (end_after now seconds)) (runs_until name older)))

      new : subscription_of start newer (granted older + 1) ≡ Some (granted older + 1, record { callback = callback; end = end_after now seconds; next_seq = 1 })
      new =
          let none = none-yet in
          let this = eq-eqb (granted older + 1) (granted older + 1) refl in
          let one : next_place_of (granted older + 1) (note ∷ []) ≡ 1 = (λ i. length (cond (this i) (note ∷ []) [])) in
          let more = seq-append (granted older + 1) (notes_of start.first older) (note ∷ []) in
          let seq : next_place_of (granted older + 1) (notes_of start.first newer) ≡ 1 = omega (arith, more, none, one) in
          (λ i. running start.wrap (granted older + 1) (unwrap_or (cond (this i) (Some callback) (callback_of (granted older + 1) older)) []) (seq i) (cond (this i) (Some (end_after now seconds)) (runs_until (granted older + 1) older)))
          ∙ (let low : 0 % start.wrap ≡ 0 = nothing start.wrap some in ap (λ (n : ℕ). Some (granted older + 1, record { callback = callback; end = end_after now seconds; next_seq = suc n })) low)

some-is : {X : Type 0} (o : Option X) → IsSome o → (x : X) × (o ≡ Some x)
some-is None is = absurd (cc)
some-is (Some x) is = (x, refl)

pub booked-released : (start : Start) (older : List Command) (now : ℕ) → 0 < start.wrap → IsSome (release_at now (scans_of start.first older) (releases_of start.first older)) →
    subscribed_by start (Ticks now ∷ older) ≡ notified start.wrap (expired now (subscribed_by start older))
booked-released start older now some is = let r = some-is (release_at now (scans_of start.first older) (releases_of start.first older)) is in booked-release start older now r.0 some r.1

-- ---- which subscriptions live

pub names-alive : (start : Start) (now : ℕ) (commands : List Command) →
    alive_names now commands ≡ map (λ (p : Entry). p.0) (alive now (subscribed_by start commands).living)
names-alive start now commands =
    passing (λ name. is_alive name now commands) all
    ∙ agree (λ name. cond (is_alive name now commands) (Some name) None)
    (λ name. mapped (λ (p : Entry). p.0) (kept (λ (p : Entry). nat_lt now p.1.end) (subscription_of start commands name))) all
    (λ name a. lives start.wrap name (unwrap_or (callback_of name commands) []) (next_place_of name (notes_of start.first commands)) now (runs_until name commands))
    ∙ sym (map-given (λ (p : Entry). p.0) (λ name. kept (λ (p : Entry). nat_lt now p.1.end) (subscription_of start commands name)) all)
    ∙ ap (map (λ (p : Entry). p.0)) (sym (filter-given (λ (p : Entry). nat_lt now p.1.end) (subscription_of start commands) all))
  where
    all : List ℕ
    all = range_with_len 1 (granted commands)

length-names : (living : List Entry) → length (map (λ (p : Entry). p.0) living) ≡ length living
length-names [] = refl
length-names (p ∷ living) = ap suc (length-names living)

pub as-many : (start : Start) (now : ℕ) (commands : List Command) → length (alive_names now commands) ≡ length (alive now (subscribed_by start commands).living)
as-many start now commands = ap length (names-alive start now commands) ∙ length-names (alive now (subscribed_by start commands).living)

-- the notes of a release are those to the subscriptions that live, each under its next SEQ
each-given : {X Y : Type 0} (P : Y → Type 0) (f : X → Option Y) (xs : List X) → ((x : X) (y : Y) → f x ≡ Some y → P y) → AllByRecursion P (filter_map f xs)
each-given P f [] h = tt
each-given {X} {Y} P f (x ∷ xs) h = by (f x) refl (each-given P f xs h)
  where
    by : (o : Option Y) → f x ≡ o → AllByRecursion P (filter_map f xs) → AllByRecursion P (cons_option o (filter_map f xs))
    by None e r = r
    by (Some y) e r = (h x y e, r)

abbrev Counts : Start → List Command → Entry → Type 0
Counts start commands p = seq_at start.wrap (next_place_of p.0 (notes_of start.first commands)) ≡ p.1.next_seq

running-is : (wrap name : ℕ) (callback : List ℕ) (place : ℕ) (o : Option ℕ) (p : Entry) → running wrap name callback place o ≡ Some p → (name ≡ p.0) × (seq_at wrap place ≡ p.1.next_seq)
running-is wrap name callback place None p e = none≢some None p refl e
running-is wrap name callback place (Some end) p e =
    let same : (name, record { callback = callback; end = end; next_seq = seq_at wrap place }) ≡ p = cc in
    (ap (λ (q : Entry). q.0) same, ap (λ (q : Entry). q.1.next_seq) same)

counts : (start : Start) (commands : List Command) (name : ℕ) (p : Entry) → subscription_of start commands name ≡ Some p → Counts start commands p
counts start commands name p e =
    let is = running-is start.wrap name (unwrap_or (callback_of name commands) []) (next_place_of name (notes_of start.first commands)) (runs_until name commands) p e in
    ap (λ n. seq_at start.wrap (next_place_of n (notes_of start.first commands))) (sym is.0) ∙ is.1

pub notes-counted : (start : Start) (now : ℕ) (older : List Command) (release : Release) → release_at now (scans_of start.first older) (releases_of start.first older) ≡ Some release →
    map (sent_under start.wrap) (sent_by start.first older (notes_of start.first older) (Ticks now)) ≡ map next_under (alive now (subscribed_by start older).living)
notes-counted start now older release e =
    ap (λ (o : Option Release). map (sent_under start.wrap) (released_notes (scans_of start.first older) o (notes_of start.first older) (alive_names now older))) e
    ∙ (ap (λ l. map (sent_under start.wrap) (map (released_note (scans_of start.first older) release (notes_of start.first older)) l)) (names-alive start now older)
    ∙ each (alive now (subscribed_by start older).living)
    (each-filter (Counts start older) (λ (p : Entry). nat_lt now p.1.end) (subscribed_by start older).living (each-given (Counts start older) (subscription_of start older) (range_with_len 1 (granted older)) (counts start older))))
  where
    each : (living : List Entry) → AllByRecursion (Counts start older) living
        → map (sent_under start.wrap) (map (released_note (scans_of start.first older) release (notes_of start.first older)) (map (λ (p : Entry). p.0) living)) ≡ map next_under living
    each [] all = refl
    each (p ∷ living) all = λ i. (p.0, all.0 i) ∷ each living all.1 i

-- ---- that of a number

past-runs : (moment : ℕ) (o : Option ℕ) → is_some (unless_past moment o) ≡ true → is_some o ≡ true
past-runs moment None e = e
past-runs moment (Some end) e = refl

-- one that has not run out was granted
pub runs-named : (name : ℕ) (commands : List Command) → is_some (runs_until name commands) ≡ true → (1 ≤ name) × (name ≤ granted commands)
runs-named name [] e = absurd (true≢false (sym e))
runs-named name (Scans library ∷ older) e = runs-named name older e
runs-named name (Grants moment callback seconds ∷ older) e = by (nat_eq name (granted older + 1)) refl e (λ d. runs-named name older d)
  where
    by : (b : Bool) → nat_eq name (granted older + 1) ≡ b → is_some (cond b (Some (end_after moment seconds)) (runs_until name older)) ≡ true
        → (is_some (runs_until name older) ≡ true → (1 ≤ name) × (name ≤ granted older)) → (1 ≤ name) × (name ≤ granted older + 1)
    by true h d r = let same = eqb-true name (granted older + 1) h in (omega (arith, same), omega (arith, same))
    by false h d r = let low = (r d).0 in let high = (r d).1 in (low, omega (arith, high))
runs-named name (Renews moment other seconds ∷ older) e = by (nat_eq name other) e (λ d. runs-named name older d)
  where
    still : (o : Option ℕ) → is_some (renewed_until (end_after moment seconds) o) ≡ true → is_some o ≡ true
    still None d = d
    still (Some end) d = refl

    by : (b : Bool) → is_some (cond b (renewed_until (end_after moment seconds) (runs_until name older)) (runs_until name older)) ≡ true
        → (is_some (runs_until name older) ≡ true → (1 ≤ name) × (name ≤ granted older)) → (1 ≤ name) × (name ≤ granted older)
    by true d r = r (still (runs_until name older) d)
    by false d r = r d
runs-named name (Ends moment other ∷ older) e = by (nat_eq name other) e (λ d. runs-named name older d)
  where
    by : (b : Bool) → is_some (cond b None (runs_until name older)) ≡ true → (is_some (runs_until name older) ≡ true → (1 ≤ name) × (name ≤ granted older))
        → (1 ≤ name) × (name ≤ granted older)
    by true d r = absurd (true≢false (sym d))
    by false d r = r d
runs-named name (Stops ∷ older) e = runs-named name older e
runs-named name (Ticks moment ∷ older) e = runs-named name older (past-runs moment (runs_until name older) e)

abbrev value_of : Option Entry → Option Subscription
value_of None = None
value_of (Some p) = Some p.1

module _ (f : ℕ → Option Entry) (named : (n : ℕ) (p : Entry) → f n ≡ Some p → n ≡ p.0) (number : ℕ) where
  cons : (n : ℕ) (o : Option Entry) → f n ≡ o → n ≢ number → (rest : List Entry) → lookup (nat_eq number) (cons_option o rest) ≡ lookup (nat_eq number) rest
  cons n None e away rest = refl
  cons n (Some p) e away rest = let is = named n p e in λ i. cond (ne_eqb number p.0 (λ k. away (omega (arith, k, is))) i) (Some p.1) (lookup (nat_eq number) rest)

  here-cons : (o : Option Entry) → f number ≡ o → (rest : List Entry) → lookup (nat_eq number) rest ≡ None → lookup (nat_eq number) (cons_option o rest) ≡ value_of o
  here-cons None e rest none = none
  here-cons (Some p) e rest none = λ i. cond (eq-eqb number p.0 (named number p e) i) (Some p.1) (lookup (nat_eq number) rest)

  outside : (a n : ℕ) → (number < a) ⊎ (a + n ≤ number) → lookup (nat_eq number) (filter_map f (range_with_len a n)) ≡ None
  outside a zero out = refl
  outside a (suc n) out = cons a (f a) refl (away out) (filter_map f (range_with_len (a + 1) n)) ∙ outside (a + 1) n (further out)
    where
      away : (number < a) ⊎ (a + suc n ≤ number) → a ≢ number
      away (inl l) e = omega (arith, l, e)
      away (inr l) e = omega (arith, l, e)

      further : (number < a) ⊎ (a + suc n ≤ number) → (number < a + 1) ⊎ (a + 1 + n ≤ number)
      further (inl l) = inl (omega (arith, l))
      further (inr l) = inr (omega (arith, l))

  inside : (a n : ℕ) → a ≤ number → number < a + n → lookup (nat_eq number) (filter_map f (range_with_len a n)) ≡ value_of (f number)
  inside a zero l h = let no : ⊥ = omega (arith, l, h) in absurd no
  inside a (suc n) l h = by (cases_lt a number) (λ m. inside (a + 1) n m (omega (arith, h)))
    where
      by : (a < number) ⊎ (number ≤ a) → (a + 1 ≤ number → lookup (nat_eq number) (filter_map f (range_with_len (a + 1) n)) ≡ value_of (f number))
          → lookup (nat_eq number) (filter_map f (range_with_len a (suc n))) ≡ value_of (f number)
      by (inl m) r = cons a (f a) refl (λ e. omega (arith, m, e)) (filter_map f (range_with_len (a + 1) n)) ∙ r (omega (arith, m))
      by (inr m) r =
          let e : number ≡ a = omega (arith, l, m) in
          ap (λ x. lookup (nat_eq number) (cons_option (f x) (filter_map f (range_with_len (a + 1) n)))) (sym e)
          ∙ here-cons (f number) refl (filter_map f (range_with_len (a + 1) n)) (outside (a + 1) n (inl (omega (arith, e))))

runs-or : (wrap name : ℕ) (callback : List ℕ) (place now : ℕ) (o : Option ℕ) → is_running now (value_of (running wrap name callback place o)) ≡ is_some (unless_past now o)
runs-or wrap name callback place now None = refl
runs-or wrap name callback place now (Some end) = by (nat_lt now end)
  where
    by : (b : Bool) → b ≡ is_some (cond b (Some end) None)
    by true = refl
    by false = refl

none-alive : (b : Bool) → (b ≡ true → ⊥) → false ≡ b
none-alive true h = absurd (h refl)
none-alive false h = refl

pub number-alive : (start : Start) (now : ℕ) (commands : List Command) (number : ℕ) → holds_alive now number (subscribed_by start commands).living
    ≡ is_alive number now commands
number-alive start now commands number = by (cases_lt number 1) (cases_lt (granted commands) number)
  where
    f : ℕ → Option Entry
    f = subscription_of start commands

    named : (n : ℕ) (p : Entry) → f n ≡ Some p → n ≡ p.0
    named n p e = (running-is start.wrap n (unwrap_or (callback_of n commands) []) (next_place_of n (notes_of start.first commands)) (runs_until n commands) p e).0

    Goal : Type 0
    Goal = holds_alive now number (subscribed_by start commands).living ≡ is_alive number now commands

    out : (number < 1) ⊎ (1 + granted commands ≤ number) → ((is_some (runs_until number commands) ≡ true) → ⊥) → Goal
    out away never =
        ap (is_running now) (outside f named number 1 (granted commands) away)
        ∙ none-alive (is_alive number now commands) (λ e. never (past-runs now (runs_until number commands) e))

    by : (number < 1) ⊎ (1 ≤ number) → (granted commands < number) ⊎ (number ≤ granted commands) → Goal
    by (inl l) any = out (inl l) (λ e. let low = (runs-named number commands e).0 in omega (arith, low, l))
    by (inr l) (inl m) = out (inr (omega (arith, m))) (λ e. let high = (runs-named number commands e).1 in omega (arith, high, m))
    by (inr l) (inr m) =
        ap (is_running now) (inside f named number 1 (granted commands) l (omega (arith, m)))
        ∙ runs-or start.wrap number (unwrap_or (callback_of number commands) []) (next_place_of number (notes_of start.first commands)) now (runs_until number commands)
