-- Where parts stand: behind parts that are judged as they should be, what is open is told by what is said so far.
use Rattle.std.proofs.Common.{◌≡◌, ℕ, ◌+◌, Bool, true, false, cond, Option, Some, None, is_some, Ok, Err, List, [], ◌∷◌, ◌++◌, length, refl, sym, ap, ◌∙◌, append_assoc, append-nil}
use Rattle.cds_object.specs.declared.event.Event.{Event}
use Rattle.cds_markup.specs.declared.name.Name.{Name}
use Rattle.cds_markup.specs.declared.name.Attr.{Attr}
use Rattle.cds_markup.specs.declared.part.Part.{Part}
use Rattle.cds_markup.specs.declared.part.Part.TheVariants.{Start}
use Rattle.cds_markup.specs.declared.tag.Declaration.{Declaration}
use Rattle.cds_markup.specs.declared.tag.Tag.{Tag}
use Rattle.cds_markup.specs.Grammar.{Content}
use Rattle.cds_markup.specs.Parts.{ContentParts, OpensParts}
use Rattle.cds_markup.specs.Refusal.{scopes_of}
use Rattle.cds_lastchange.specs.declared.judge.Level.{Level}
use Rattle.cds_lastchange.specs.declared.judge.Level.TheVariants.{Outside, InRoot, InEvent}
use Rattle.cds_lastchange.specs.declared.judge.Judge.{Judge}
use Rattle.cds_lastchange.specs.Attributes.{event_of, is_state_event}
use Rattle.cds_lastchange.specs.Refusal.{may_stand}
use Rattle.cds_lastchange.specs.Judged.{event_judged, start_judged, part_judged, and_judged, parts_judged, nothing_said}
use Rattle.cds_lastchange.proofs.Judging.{Answer, judged-append, ok-err, same-ok, in_root, in_event, events-keep, events-are, space-keeps, space-is}

abbrev pub level_of : List Tag → Level
level_of [] = Outside
level_of (root ∷ []) = InRoot
level_of (event ∷ root ∷ outer) = InEvent

pub and-ok : (r : Answer) (next : Judge → Answer) (k : Judge) → and_judged r next ≡ Ok k → (j : Judge) × (r ≡ Ok j) × (next j ≡ Ok k)
and-ok (Ok j) next k e = (j, refl, e)
and-ok (Err at) next k e = absurd (ok-err k at e)

pub judged-front : (i k : Judge) (ps qs : List Part) → parts_judged i (ps ++ qs) ≡ Ok k → (j : Judge) × (parts_judged i ps ≡ Ok j) × (parts_judged j qs ≡ Ok k)
judged-front i k ps qs e = and-ok (parts_judged i ps) (λ j. parts_judged j qs) k (sym (judged-append i ps qs) ∙ e)

-- content stays where it is
root-level : (content : Content) (at : ℕ) (scopes : List (List Declaration)) (bytes : List ℕ) (parts : List Part) → ContentParts content at scopes bytes parts → (events : List Event) (k : Judge) → parts_judged (in_root events) parts ≡ Ok k → k.level ≡ InRoot
root-level content at scopes bytes parts g events k e =
    let d : parts_judged (in_root events) (parts ++ []) ≡ Ok k = ap (parts_judged (in_root events)) (append-nil parts) ∙ e in
    let r = events-are content at scopes bytes parts g events k [] d in
    sym (ap (λ j. j.level) (same-ok (in_root (events ++ r.0)) k (sym (events-keep content at scopes bytes parts g r.0 r.1 events []) ∙ d)))

event-level : (content : Content) (at : ℕ) (scopes : List (List Declaration)) (bytes : List ℕ) (parts : List Part) → ContentParts content at scopes bytes parts → (events : List Event) (k : Judge) → parts_judged (in_event events) parts ≡ Ok k → k.level ≡ InEvent
event-level content at scopes bytes parts g events k e =
    let d : parts_judged (in_event events) (parts ++ []) ≡ Ok k = ap (parts_judged (in_event events)) (append-nil parts) ∙ e in
    let s = space-is content at scopes bytes parts g events k [] d in
    sym (ap (λ j. j.level) (same-ok (in_event events) k (sym (space-keeps content at scopes bytes parts g s (in_event events) []) ∙ d)))

-- start tags by what is open
outside-start : (s : Bool) (events : List Event) (at : ℕ) (k : Judge) (next : Judge → Answer) → and_judged (cond s (Ok (in_root events)) (Err at)) next ≡ Ok k → next (in_root events) ≡ Ok k
outside-start true events at k next e = e
outside-start false events at k next e = absurd (ok-err k at e)

root-start : (events : List Event) (at : ℕ) (said : Option Event) (k : Judge) (next : Judge → Answer) → and_judged (event_judged events at said) next ≡ Ok k → (more : List Event) × (next (in_event more) ≡ Ok k)
root-start events at None k next e = absurd (ok-err k at e)
root-start events at (Some event) k next e = (events ++ event ∷ [], e)

abbrev Next : List Part → Judge → Answer
Next parts k = parts_judged k parts

at-level : (j k : Judge) (level : Level) (at end : ℕ) (name : Name) (attrs : List Attr) (inner : List Part) → j.level ≡ level → parts_judged j (Start at end name attrs ∷ inner) ≡ Ok k → and_judged (start_judged level j.events at name attrs) (Next inner) ≡ Ok k
at-level j k level at end name attrs inner e d = sym (ap (λ l. and_judged (start_judged l j.events at name attrs) (Next inner)) e) ∙ d

pub stands-level : (tags : List Tag) (before : List ℕ) (parts : List Part) → OpensParts tags before parts → (k : Judge) → parts_judged nothing_said parts ≡ Ok k → k.level ≡ level_of tags
stands-level [] before parts g k e = sym (ap (λ j. j.level) (same-ok nothing_said k (sym (ap (parts_judged nothing_said) g.1) ∙ e)))
stands-level (t ∷ []) before parts (name, attrs, end, b0, start, inside, content, earlier, inner, e, o, is, says, place, others, deep, p) k d =
    let f = judged-front nothing_said k earlier (Start (length b0) end name attrs ∷ inner) (sym (ap (parts_judged nothing_said) p) ∙ d) in
    let l = stands-level [] b0 earlier o f.0 f.1 in
    root-level content (length b0 + length start) (scopes_of (t ∷ [])) inside inner others f.0.events k
    (outside-start (is_state_event name) f.0.events (length b0) k (Next inner) (at-level f.0 k Outside (length b0) end name attrs inner l f.2))
stands-level (t ∷ root ∷ []) before parts (name, attrs, end, b0, start, inside, content, earlier, inner, e, o, is, says, place, others, deep, p) k d =
    let f = judged-front nothing_said k earlier (Start (length b0) end name attrs ∷ inner) (sym (ap (parts_judged nothing_said) p) ∙ d) in
    let l = stands-level (root ∷ []) b0 earlier o f.0 f.1 in
    let r = root-start f.0.events (length b0) (event_of name attrs) k (Next inner) (at-level f.0 k InRoot (length b0) end name attrs inner l f.2) in
    event-level content (length b0 + length start) (scopes_of (t ∷ root ∷ [])) inside inner others r.0 k r.1
stands-level (t ∷ event ∷ root ∷ outer) before parts (name, attrs, end, b0, start, inside, content, earlier, inner, e, o, is, says, place, others, deep, p) k d =
    let f = judged-front nothing_said k earlier (Start (length b0) end name attrs ∷ inner) (sym (ap (parts_judged nothing_said) p) ∙ d) in
    let l = stands-level (event ∷ root ∷ outer) b0 earlier o f.0 f.1 in
    absurd (ok-err k (length b0) (at-level f.0 k InEvent (length b0) end name attrs inner l f.2))

-- a start tag that may not stand where it does
none-said : (events : List Event) (at : ℕ) (said : Option Event) → is_some said ≡ false → event_judged events at said ≡ Err at
none-said events at None e = refl
none-said events at (Some event) e = let no : true ≡ false = e in cc

said-none : (events : List Event) (at place : ℕ) (said : Option Event) → event_judged events at said ≡ Err place → (is_some said ≡ false) × (place ≡ at)
said-none events at place None e = (refl, same e) where
  same : ◌≡◌ {A = Answer} (Err at) (Err place) → place ≡ at
  same d = cc
said-none events at place (Some event) e = let no : ◌≡◌ {A = Answer} (Ok (in_event (events ++ event ∷ []))) (Err place) = e in absurd (cc)

pub strange-start : (tags : List Tag) (j : Judge) (begin end : ℕ) (name : Name) (attrs : List Attr) → j.level ≡ level_of tags → may_stand tags name attrs ≡ false → part_judged j (Start begin end name attrs) ≡ Err begin
strange-start [] j begin end name attrs l e =
    ap (λ l. start_judged l j.events begin name attrs) l ∙ ap (λ t. cond t (Ok (in_root j.events)) (Err begin)) e
strange-start (root ∷ []) j begin end name attrs l e =
    ap (λ l. start_judged l j.events begin name attrs) l ∙ none-said j.events begin (event_of name attrs) e
strange-start (event ∷ root ∷ outer) j begin end name attrs l e = ap (λ l. start_judged l j.events begin name attrs) l

outside-strange : (s : Bool) (events : List Event) (at place : ℕ) → cond s (Ok (in_root events)) (Err at) ≡ Err place → (s ≡ false) × (place ≡ at)
outside-strange true events at place e = let no : ◌≡◌ {A = Answer} (Ok (in_root events)) (Err place) = e in absurd (cc)
outside-strange false events at place e = (refl, same e) where
  same : ◌≡◌ {A = Answer} (Err at) (Err place) → place ≡ at
  same d = cc

pub start-strange : (tags : List Tag) (j : Judge) (begin end place : ℕ) (name : Name) (attrs : List Attr) → j.level ≡ level_of tags → part_judged j (Start begin end name attrs) ≡ Err place → (may_stand tags name attrs ≡ false) × (place ≡ begin)
start-strange [] j begin end place name attrs l e =
    outside-strange (is_state_event name) j.events begin place (sym (ap (λ l. start_judged l j.events begin name attrs) l) ∙ e)
start-strange (root ∷ []) j begin end place name attrs l e =
    said-none j.events begin place (event_of name attrs) (sym (ap (λ l. start_judged l j.events begin name attrs) l) ∙ e)
start-strange (event ∷ root ∷ outer) j begin end place name attrs l e = (refl, same (sym (ap (λ l. start_judged l j.events begin name attrs) l) ∙ e)) where
  same : ◌≡◌ {A = Answer} (Err begin) (Err place) → place ≡ begin
  same d = cc

-- the first part that does not stand
pub record FirstFault (parts : List Part) (place : ℕ) : Type 0 where
  pub earlier : List Part
  pub part : Part
  pub later : List Part
  pub judge : Judge
  pub is : parts ≡ earlier ++ part ∷ later
  pub stand : parts_judged nothing_said earlier ≡ Ok judge
  pub falls : part_judged judge part ≡ Err place

fault-behind : (parts : List Part) (before : List Part) (j : Judge) (place : ℕ) → parts_judged nothing_said before ≡ Ok j → parts_judged j parts ≡ Err place → FirstFault (before ++ parts) place
fault-behind [] before j place s e = let no : ◌≡◌ {A = Answer} (Ok j) (Err place) = e in absurd (cc)
fault-behind (p ∷ ps) before j place s e = by (part_judged j p) refl e (λ k d f. fault-behind ps (before ++ p ∷ []) k place d f) where
  by : (r : Answer) → part_judged j p ≡ r → and_judged r (Next ps) ≡ Err place → ((k : Judge) → parts_judged nothing_said (before ++ p ∷ []) ≡ Ok k → parts_judged k ps ≡ Err place → FirstFault ((before ++ p ∷ []) ++ ps) place) → FirstFault (before ++ p ∷ ps) place
  by (Err at) d f go = record { earlier = before; part = p; later = ps; judge = j; is = refl; stand = s; falls = d ∙ f }
  by (Ok k) d f go =
      let more = go k (judged-append nothing_said before (p ∷ []) ∙ ap (λ r. and_judged r (Next (p ∷ []))) s ∙ ap (λ r. and_judged r (Next [])) d) f in
      record { earlier = more.earlier; part = more.part; later = more.later; judge = more.judge; is = sym (append_assoc before (p ∷ []) ps) ∙ more.is; stand = more.stand; falls = more.falls }

pub first-fault : (parts : List Part) (place : ℕ) → parts_judged nothing_said parts ≡ Err place → FirstFault parts place
first-fault parts place e = fault-behind parts [] nothing_said place refl e
