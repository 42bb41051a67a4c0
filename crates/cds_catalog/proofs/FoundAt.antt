-- What a scan finds at each place, and in which order.
use Rattle.std.proofs.Common.{◌≡◌, Bool, true, false, cond, map, reverse, List, [], ◌∷◌, ◌++◌, Option, Some, None, MatchOption, Less, is_lt, refl, sym, ◌∙◌, ap, subst}
use Rattle.std.specs.List.{AllByRecursion, filter_map, cons_option}
use Rattle.std.specs.Option.{option_to_list}
use mathlib.Core.List.{reverse-cons}
use Rattle.std.proofs.lemmas.List.{reverse-append, reverse-reverse, map-append}
use Rattle.std.proofs.lemmas.List.Elements.{filter-append}
use Rattle.cds_object.specs.Path.{path_cmp, same_path}
use Rattle.cds_object.specs.Content.{same_content, same_kind}
use Rattle.cds_object.specs.declared.content.Content.{Content}
use Rattle.cds_catalog.specs.Library.{FolderMap, content_at, gone, come, departure, arrival}
use Rattle.cds_catalog.specs.History.{place_of, is_deletion}
use Rattle.cds_catalog.specs.Laws.{Ascends}
use Rattle.cds_catalog.specs.FoundLaws.{owed_at, changes_at, scans_find_what_changed, PlacesRise, scans_find_in_order}
use Rattle.cds_catalog.specs.declared.change.Change.{Change}
use Rattle.cds_catalog.specs.declared.change.Change.TheVariants.{Deletion, Addition, Modification}
use Rattle.cds_catalog.proofs.Paths.{same_path_is}
use Rattle.cds_catalog.proofs.Maps.{Entry, IsBefore, content_at_here, content_at_past, absent_before, ascends_head, ascends_tail}
use Rattle.cds_catalog.proofs.StepsPaths.{Place}
use Rattle.cds_catalog.proofs.StepsFind.{each-append}

-- ---- the change of an entry names its place

abbrev IsNamed : Place → Option Change → Type 0
IsNamed p o = MatchOption o (Unit {0}) (λ c. place_of c ≡ p)

gone_named : (p : Place) (before : Content) (now : Option Content) → IsNamed p (gone p before now)
gone_named p before None = refl
gone_named p before (Some now) = by (same_kind before now)
  where
    by : (b : Bool) → IsNamed p (cond b None (Some (Deletion p)))
    by true = tt
    by false = refl

come_named : (p : Place) (content : Content) (before : Option Content) → IsNamed p (come p content before)
come_named p content None = refl
come_named p content (Some before) = by (same_kind before content) (same_content before content)
  where
    by : (k s : Bool) → IsNamed p (cond k (cond s None (Some (Modification p content))) (Some (Addition p content)))
    by true true = tt
    by true false = refl
    by false s = refl

-- ---- the changes at a place

one_at : (path p : Place) (o : Option Change) → IsNamed p o → (b : Bool) → same_path path p ≡ b → (cs : List Change) →
    changes_at path (cons_option o cs) ≡ cond b (option_to_list o ++ changes_at path cs) (changes_at path cs)
one_at path p None named true x cs = refl
one_at path p None named false x cs = refl
one_at path p (Some c) named b x cs =
    ap (λ t. cond t (c ∷ changes_at path cs) (changes_at path cs)) (ap (same_path path) named ∙ x)
    ∙ by b
  where
    by : (b : Bool) → cond b (c ∷ changes_at path cs) (changes_at path cs) ≡ cond b ((c ∷ []) ++ changes_at path cs) (changes_at path cs)
    by true = refl
    by false = refl

-- the change of what is looked up
abbrev change_of : (Entry → Option Change) → Place → Option Content → List Change
change_of F path None = []
change_of F path (Some content) = option_to_list (F (path, content))

append_none : (l : List Change) → l ++ [] ≡ l
append_none [] = refl
append_none (c ∷ l) = ap (λ (r : List Change). c ∷ r) (append_none l)

at_of : (F : Entry → Option Change) → ((e : Entry) → IsNamed e.0 (F e)) → (es : FolderMap) → Ascends es → (path : Place) →
    changes_at path (filter_map F es) ≡ change_of F path (content_at es path)
at_of F named [] ascends path = refl
at_of F named (e ∷ es) ascends path = by (same_path path e.0) refl (at_of F named es (ascends_tail e es ascends) path)
  where
    none_left : same_path path e.0 ≡ true → content_at es path ≡ None
    none_left x = absent_before path es (subst (λ q. IsBefore q es) (sym (same_path_is path e.0 x)) (ascends_head e es ascends))

    by : (b : Bool) → same_path path e.0 ≡ b → changes_at path (filter_map F es) ≡ change_of F path (content_at es path)
        → changes_at path (cons_option (F e) (filter_map F es)) ≡ change_of F path (content_at (e ∷ es) path)
    by true x r =
        one_at path e.0 (F e) (named e) true x (filter_map F es)
        ∙ ap (λ (l : List Change). option_to_list (F e) ++ l) (r ∙ ap (change_of F path) (none_left x)) ∙ append_none (option_to_list (F e))
        ∙ ap (λ q. option_to_list (F (q, e.1))) (sym (same_path_is path e.0 x))
        ∙ sym (ap (change_of F path) (content_at_here e es path x))
    by false x r =
        one_at path e.0 (F e) (named e) false x (filter_map F es) ∙ r ∙ sym (ap (change_of F path) (content_at_past e es path x))

reversed_at : (path : Place) (cs : List Change) → changes_at path (reverse cs) ≡ reverse (changes_at path cs)
reversed_at path [] = refl
reversed_at path (c ∷ cs) =
    ap (changes_at path) (reverse-cons c cs) ∙ filter-append (λ change. same_path path (place_of change)) (reverse cs) (c ∷ [])
    ∙ ap (λ (l : List Change). l ++ changes_at path (c ∷ [])) (reversed_at path cs) ∙ by (same_path path (place_of c))
  where
    by : (b : Bool) → reverse (changes_at path cs) ++ cond b (c ∷ []) [] ≡ reverse (cond b (c ∷ changes_at path cs) (changes_at path cs))
    by true = sym (reverse-cons c (changes_at path cs))
    by false = append_none (reverse (changes_at path cs))

both_owed : (path : Place) (before now : Option Content) →
    reverse (change_of (λ e. come e.0 e.1 before) path now) ++ change_of (λ e. gone e.0 e.1 now) path before ≡ owed_at path before now
both_owed path None None = refl
both_owed path None (Some now) = refl
both_owed path (Some before) None = refl
both_owed path (Some before) (Some now) = by (same_kind before now) (same_content before now)
  where
    by : (k s : Bool) →
        reverse (option_to_list (cond k (cond s None (Some (Modification path now))) (Some (Addition path now)))) ++ option_to_list (cond k None (Some (Deletion path)))
        ≡ cond k (cond s [] (Modification path now ∷ [])) (Addition path now ∷ Deletion path ∷ [])
    by true true = refl
    by true false = refl
    by false s = refl

-- what is looked up by a change of what is looked up
arrived : (old : FolderMap) (path : Place) (now : Option Content) → change_of (arrival old) path now ≡ change_of (λ e. come e.0 e.1 (content_at old path)) path now
arrived old path None = refl
arrived old path (Some now) = refl

departed : (new : FolderMap) (path : Place) (before : Option Content) → change_of (departure new) path before ≡ change_of (λ e. gone e.0 e.1 (content_at new path)) path before
departed new path None = refl
departed new path (Some before) = refl

pub scans_find_what_changed-proof : scans_find_what_changed
scans_find_what_changed-proof old new is_old is_new path =
    filter-append (λ change. same_path path (place_of change)) (reverse (filter_map (arrival old) new)) (filter_map (departure new) old)
    ∙ ap (λ (l : List Change). l ++ changes_at path (filter_map (departure new) old))
    (reversed_at path (filter_map (arrival old) new)
    ∙ ap reverse (at_of (arrival old) (λ e. come_named e.0 e.1 (content_at old e.0)) new is_new.ascending path ∙ arrived old path (content_at new path)))
    ∙ ap (λ (l : List Change). reverse (change_of (λ e. come e.0 e.1 (content_at old path)) path (content_at new path)) ++ l)
    (at_of (departure new) (λ e. gone_named e.0 e.1 (content_at new e.0)) old is_old.ascending path ∙ departed new path (content_at old path))
    ∙ both_owed path (content_at old path) (content_at new path)

-- ---- in which order

each_reversed : (P : Change → Type 0) (cs : List Change) → AllByRecursion P cs → AllByRecursion P (reverse cs)
each_reversed P [] all = tt
each_reversed P (c ∷ cs) all = subst (AllByRecursion P) (sym (reverse-cons c cs)) (each-append P (reverse cs) (c ∷ []) (each_reversed P cs all.1) (all.0, tt))

each_made : (P : Change → Type 0) (F : Entry → Option Change) → ((e : Entry) → MatchOption (F e) (Unit {0}) P) → (es : FolderMap) → AllByRecursion P (filter_map F es)
each_made P F one [] = tt
each_made P F one (e ∷ es) = by (F e) (one e) (each_made P F one es)
  where
    by : (o : Option Change) → MatchOption o (Unit {0}) P → AllByRecursion P (filter_map F es) → AllByRecursion P (cons_option o (filter_map F es))
    by None h r = r
    by (Some c) h r = (h, r)

gone_deletes : (p : Place) (before : Content) (now : Option Content) → MatchOption (gone p before now) (Unit {0}) (λ c. is_deletion c ≡ true)
gone_deletes p before None = refl
gone_deletes p before (Some now) = by (same_kind before now)
  where
    by : (b : Bool) → MatchOption (cond b None (Some (Deletion p))) (Unit {0}) (λ c. is_deletion c ≡ true)
    by true = tt
    by false = refl

come_stays : (p : Place) (content : Content) (before : Option Content) → MatchOption (come p content before) (Unit {0}) (λ c. is_deletion c ≡ false)
come_stays p content None = refl
come_stays p content (Some before) = by (same_kind before content) (same_content before content)
  where
    by : (k s : Bool) → MatchOption (cond k (cond s None (Some (Modification p content))) (Some (Addition p content))) (Unit {0}) (λ c. is_deletion c ≡ false)
    by true true = tt
    by true false = refl
    by false s = refl

-- a place before each of some others
abbrev IsBelow : Place → List Place → Type 0
IsBelow p ps = AllByRecursion (λ q. path_cmp p q ≡ Less) ps

rises_more : (p : Place) (ps : List Place) → IsBelow p ps → PlacesRise ps → PlacesRise (p ∷ ps)
rises_more p [] below rise = tt
rises_more p (q ∷ ps) below rise = (ap is_lt below.0, rise)

later_made : (F : Entry → Option Change) → ((e : Entry) → IsNamed e.0 (F e)) → (p : Place) (es : FolderMap) → IsBefore p es → IsBelow p (map place_of (filter_map F es))
later_made F named p [] before = tt
later_made F named p (e ∷ es) before = by (F e) (named e) (later_made F named p es before.1)
  where
    by : (o : Option Change) → IsNamed e.0 o → IsBelow p (map place_of (filter_map F es)) → IsBelow p (map place_of (cons_option o (filter_map F es)))
    by None h r = r
    by (Some c) h r = (ap (path_cmp p) h ∙ before.0, r)

made_rise : (F : Entry → Option Change) → ((e : Entry) → IsNamed e.0 (F e)) → (es : FolderMap) → Ascends es → PlacesRise (map place_of (filter_map F es))
made_rise F named [] ascends = tt
made_rise F named (e ∷ es) ascends =
    by (F e) (named e) (made_rise F named es (ascends_tail e es ascends)) (later_made F named e.0 es (ascends_head e es ascends))
  where
    by : (o : Option Change) → IsNamed e.0 o → PlacesRise (map place_of (filter_map F es)) → IsBelow e.0 (map place_of (filter_map F es))
        → PlacesRise (map place_of (cons_option o (filter_map F es)))
    by None h r b = r
    by (Some c) h r b =
        rises_more (place_of c) (map place_of (filter_map F es)) (subst (λ q. IsBelow q (map place_of (filter_map F es))) (sym h) b) r

mapped_reverse : (cs : List Change) → reverse (map place_of (reverse cs)) ≡ map place_of cs
mapped_reverse [] = refl
mapped_reverse (c ∷ cs) =
    ap (λ (l : List Change). reverse (map place_of l)) (reverse-cons c cs)
    ∙ ap reverse (map-append place_of (reverse cs) (c ∷ []))
    ∙ reverse-append (map place_of (reverse cs)) (place_of c ∷ [])
    ∙ ap (λ (l : List Place). place_of c ∷ l) (mapped_reverse cs)

pub scans_find_in_order-proof : scans_find_in_order
scans_find_in_order-proof old new is_old is_new =
    let came : List Change = filter_map (arrival old) new in
    let went : List Change = filter_map (departure new) old in
    record {
      deletions = reverse went;
      others = came;
      parts = reverse-append (reverse came) went ∙ ap (λ (l : List Change). reverse went ++ l) (reverse-reverse came);
      gone = each_reversed (λ change. is_deletion change ≡ true) went
          (each_made (λ change. is_deletion change ≡ true) (departure new) (λ e. gone_deletes e.0 e.1 (content_at new e.0)) old);
      come = each_made (λ change. is_deletion change ≡ false) (arrival old) (λ e. come_stays e.0 e.1 (content_at old e.0)) new;
      fall = subst PlacesRise (sym (mapped_reverse went)) (made_rise (departure new) (λ e. gone_named e.0 e.1 (content_at new e.0)) old is_old.ascending);
      rise = made_rise (arrival old) (λ e. come_named e.0 e.1 (content_at old e.0)) new is_new.ascending;
    }
