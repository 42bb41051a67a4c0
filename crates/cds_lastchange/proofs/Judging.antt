-- The parts of a document are judged as its grammar says: which events it has, if it has any.
use Rattle.std.proofs.Common.{◌≡◌, ℕ, ◌+◌, Bool, true, false, ◌&&◌, cond, Option, Some, None, Result, Ok, Err, List, [], ◌∷◌, ◌++◌, length, refl, sym, ap, ◌∙◌, append_assoc, append-nil}
use Rattle.cds_object.specs.declared.event.Event.{Event}
use Rattle.cds_markup.specs.declared.name.Name.{Name}
use Rattle.cds_markup.specs.declared.name.Attr.{Attr}
use Rattle.cds_markup.specs.declared.part.Part.{Part}
use Rattle.cds_markup.specs.declared.part.Part.TheVariants.{Start, End, Run}
use Rattle.cds_markup.specs.declared.tag.Declaration.{Declaration}
use Rattle.cds_markup.specs.declared.tag.Tag.{Tag}
use Rattle.cds_markup.specs.Grammar.{Leaf, Text, Reference, Section, Comment, Tree, EmptyElement, Full, Content, Nothing, LeafThen, TreeThen}
use Rattle.cds_markup.specs.Namespaces.{declarations, tag_says}
use Rattle.cds_markup.specs.Document.{line_ends}
use Rattle.cds_markup.specs.Parts.{first_non_blank, leaf_parts, TreeParts, ContentParts}
use Rattle.cds_lastchange.specs.declared.judge.Level.TheVariants.{Outside, InRoot, InEvent}
use Rattle.cds_lastchange.specs.declared.judge.Judge.{Judge}
use Rattle.cds_lastchange.specs.Attributes.{event_of, is_state_event}
use Rattle.cds_lastchange.specs.StateEvent.{is_space, has_only_space, event_said, event_in, and_more, events_in, is_root, root_events}
use Rattle.cds_markup.specs.Feeding.{or_then, InRuns, No-runs, A-part, More-text}
use Rattle.cds_markup.specs.Taking.{Takes}
use Rattle.cds_lastchange.specs.Judged.{event_judged, part_judged, and_judged, parts_judged, nothing_said, judged_on, is_misplaced}
use Rattle.cds_lastchange.proofs.Spaces.{non-blank-none, none-non-blank, and-first, and-second}

abbrev pub Answer : Type 0
Answer = Result Judge ℕ

pub ok-err : (j : Judge) (at : ℕ) → ◌≡◌ {A = Answer} (Err at) (Ok j) → ⊥
ok-err j at e = cc

pub same-ok : (j k : Judge) → ◌≡◌ {A = Answer} (Ok j) (Ok k) → j ≡ k
same-ok j k e = cc

-- parts behind parts, a text in several runs, and parts that are taken up to the first that does not stand
pub judged-append : (j : Judge) (ps qs : List Part) → parts_judged j (ps ++ qs) ≡ and_judged (parts_judged j ps) (λ k. parts_judged k qs)
judged-append j [] qs = refl
judged-append j (p ∷ ps) qs = by (part_judged j p) (λ k. judged-append k ps qs) where
  by : (r : Answer) → ((k : Judge) → parts_judged k (ps ++ qs) ≡ and_judged (parts_judged k ps) (λ k. parts_judged k qs)) → and_judged r (λ k. parts_judged k (ps ++ qs)) ≡ and_judged (and_judged r (λ k. parts_judged k ps)) (λ k. parts_judged k qs)
  by (Err at) go = refl
  by (Ok k) go = go k

run-twice : (r : Answer) (at : ℕ) (first second : Option ℕ) (text rest : List ℕ) → and_judged r (λ k. parts_judged k (Run at (or_then first second) (text ++ rest) ∷ [])) ≡ and_judged (and_judged r (λ k. parts_judged k (Run at first text ∷ []))) (λ k. parts_judged k (Run at second rest ∷ []))
run-twice (Err place) at first second text rest = refl
run-twice (Ok k) at (Some place) second text rest = refl
run-twice (Ok k) at None None text rest = refl
run-twice (Ok k) at None (Some place) text rest = refl

pub runs-judged : (bytes : List ℕ) (parts runs : List Part) → InRuns bytes parts runs → (j : Judge) → parts_judged j parts ≡ parts_judged j runs
runs-judged bytes parts runs No-runs j = refl
runs-judged bytes parts runs (A-part ps rs part r) j =
    judged-append j ps (part ∷ []) ∙ ap (λ a. and_judged a (λ k. parts_judged k (part ∷ []))) (runs-judged bytes ps rs r j) ∙ sym (judged-append j rs (part ∷ []))
runs-judged bytes parts runs (More-text ps rs at first second text rest begins r) j =
    judged-append j ps (Run at (or_then first second) (text ++ rest) ∷ []) ∙ run-twice (parts_judged j ps) at first second text rest
    ∙ ap (λ a. and_judged a (λ k. parts_judged k (Run at second rest ∷ []))) (sym (judged-append j ps (Run at first text ∷ [])) ∙ runs-judged bytes (ps ++ Run at first text ∷ []) rs r j)
    ∙ sym (judged-append j rs (Run at second rest ∷ []))

taken-judged : (a : Answer) (runs : List Part) (now : Answer) → Takes judged_on is_misplaced a runs now → now ≡ and_judged a (λ j. parts_judged j runs)
taken-judged (Err at) [] now t = t
taken-judged (Err at) (p ∷ ps) now t = t
taken-judged (Ok j) [] now t = t
taken-judged (Ok j) (p ∷ ps) now (mid, e, t) = taken-judged mid ps now t ∙ ap (λ a. and_judged a (λ k. parts_judged k ps)) e

pub more-judged : (j k : Judge) (given runs : List Part) (now : Answer) → parts_judged j given ≡ Ok k → Takes judged_on is_misplaced (Ok k) runs now → parts_judged j (given ++ runs) ≡ now
more-judged j k given runs now e t = judged-append j given runs ∙ ap (λ a. and_judged a (λ k. parts_judged k runs)) e ∙ sym (taken-judged (Ok k) runs now t)

abbrev pub in_root : List Event → Judge
in_root events = record { level = InRoot; events = events }

abbrev pub in_event : List Event → Judge
in_event events = record { level = InEvent; events = events }

-- a leaf
run-judged : (j : Judge) (at : ℕ) (non_blank : Option ℕ) (text : List ℕ) → non_blank ≡ None → (rest : List Part) → parts_judged j (Run at non_blank text ∷ rest) ≡ parts_judged j rest
run-judged j at non_blank text e rest = ap (λ o. parts_judged j (Run at o text ∷ rest)) e

pub leaf-keeps : (j : Judge) (at : ℕ) (leaf : Leaf) (rest : List Part) → is_space leaf ≡ true → parts_judged j (leaf_parts at leaf ++ rest) ≡ parts_judged j rest
leaf-keeps j at (Text text) rest e = run-judged j at (first_non_blank at text) (line_ends text) (non-blank-none at text e) rest
leaf-keeps j at (Reference c) rest e = let no : false ≡ true = e in cc
leaf-keeps j at (Section text) rest e = let no : false ≡ true = e in cc
leaf-keeps j at Comment rest e = refl

pub leaf-space : (j k : Judge) (at : ℕ) (leaf : Leaf) (rest : List Part) → parts_judged j (leaf_parts at leaf ++ rest) ≡ Ok k → is_space leaf ≡ true
leaf-space j k at (Text text) rest e = none-non-blank at text (by (first_non_blank at text) e) where
  by : (o : Option ℕ) → parts_judged j (Run at o (line_ends text) ∷ rest) ≡ Ok k → o ≡ None
  by None d = refl
  by (Some non_blank) d = absurd (ok-err k non_blank d)
leaf-space j k at (Reference c) rest e = absurd (ok-err k at e)
leaf-space j k at (Section text) rest e = absurd (ok-err k at e)
leaf-space j k at Comment rest e = refl

-- the content of an event
pub space-keeps : (content : Content) (at : ℕ) (scopes : List (List Declaration)) (bytes : List ℕ) (parts : List Part) → ContentParts content at scopes bytes parts → has_only_space content ≡ true → (j : Judge) (rest : List Part) → parts_judged j (parts ++ rest) ≡ parts_judged j rest
space-keeps Nothing at scopes bytes parts g e j rest = ap (λ ps. parts_judged j (ps ++ rest)) g.1
space-keeps (LeafThen leaf more) at scopes bytes parts (front, back, behind, d, is, apart, g, p) e j rest =
    ap (λ ps. parts_judged j (ps ++ rest)) p
    ∙ ap (parts_judged j) (append_assoc (leaf_parts at leaf) behind rest)
    ∙ leaf-keeps j at leaf (behind ++ rest) (and-first (is_space leaf) (has_only_space more) e)
    ∙ space-keeps more (at + length front) scopes back behind g (and-second (is_space leaf) (has_only_space more) e) j rest
space-keeps (TreeThen tree more) at scopes bytes parts g e j rest = let no : false ≡ true = e in cc

empty-fails : (events : List Event) (k : Judge) (at end : ℕ) (name : Name) (attrs : List Attr) (rest : List Part) → parts_judged (in_event events) (Start at end name attrs ∷ rest) ≡ Ok k → ⊥
empty-fails events k at end name attrs rest e = ok-err k at e

tree-fails : (tree : Tree) (at : ℕ) (scopes : List (List Declaration)) (bytes : List ℕ) (parts : List Part) → TreeParts tree at scopes bytes parts → (events : List Event) (k : Judge) (rest : List Part) → parts_judged (in_event events) (parts ++ rest) ≡ Ok k → ⊥
tree-fails (EmptyElement t) at scopes bytes parts (name, attrs, end, is, says, place, p) events k rest e =
    empty-fails events k at end name attrs (End end ∷ rest) (sym (ap (λ ps. parts_judged (in_event events) (ps ++ rest)) p) ∙ e)
tree-fails (Full t content) at scopes bytes parts (name, attrs, end, start, inside, closing, inner, d, is, ends, says, place, g, p) events k rest e =
    empty-fails events k at end name attrs ((inner ++ End (at + length start + length inside) ∷ []) ++ rest) (sym (ap (λ ps. parts_judged (in_event events) (ps ++ rest)) p) ∙ e)

both : (s t : Bool) → s ≡ true → t ≡ true → (s && t) ≡ true
both s t e d = ap (λ x. x && t) e ∙ d

pub space-is : (content : Content) (at : ℕ) (scopes : List (List Declaration)) (bytes : List ℕ) (parts : List Part) → ContentParts content at scopes bytes parts → (events : List Event) (k : Judge) (rest : List Part) → parts_judged (in_event events) (parts ++ rest) ≡ Ok k → has_only_space content ≡ true
space-is Nothing at scopes bytes parts g events k rest e = refl
space-is (LeafThen leaf more) at scopes bytes parts (front, back, behind, d, is, apart, g, p) events k rest e =
    let on : parts_judged (in_event events) (leaf_parts at leaf ++ (behind ++ rest)) ≡ Ok k =
    sym (ap (λ ps. parts_judged (in_event events) (ps ++ rest)) p ∙ ap (parts_judged (in_event events)) (append_assoc (leaf_parts at leaf) behind rest)) ∙ e in
    let blank = leaf-space (in_event events) k at leaf (behind ++ rest) on in
    both (is_space leaf) (has_only_space more) blank
    (space-is more (at + length front) scopes back behind g events k rest (sym (leaf-keeps (in_event events) at leaf (behind ++ rest) blank) ∙ on))
space-is (TreeThen tree more) at scopes bytes parts (front, back, first, behind, d, g, others, p) events k rest e =
    absurd (tree-fails tree at scopes front first g events k (behind ++ rest)
    (sym (ap (λ ps. parts_judged (in_event events) (ps ++ rest)) p ∙ ap (parts_judged (in_event events)) (append_assoc first behind rest)) ∙ e))

-- an event
abbrev pub with_event : List Event → Event → List Event
with_event events event = events ++ event ∷ []

some-event : (events : List Event) (at : ℕ) (said : Option Event) (k : Judge) (next : Judge → Answer) → and_judged (event_judged events at said) next ≡ Ok k → (event : Event) × (said ≡ Some event) × (next (in_event (with_event events event)) ≡ Ok k)
some-event events at None k next e = absurd (ok-err k at e)
some-event events at (Some event) k next e = (event, refl, e)

event-start : (events : List Event) (at end : ℕ) (name : Name) (attrs : List Attr) (event : Event) (rest : List Part) → event_of name attrs ≡ Some event → parts_judged (in_root events) (Start at end name attrs ∷ rest) ≡ parts_judged (in_event (with_event events event)) rest
event-start events at end name attrs event rest e = ap (λ o. and_judged (event_judged events at o) (λ k. parts_judged k rest)) e

said-is : (scopes : List (List Declaration)) (t : Tag) (name : Name) (attrs : List Attr) → tag_says scopes t ≡ Some (name, attrs) → event_said (tag_says scopes t) ≡ event_of name attrs
said-is scopes t name attrs e = ap event_said e

pub where-space : (s : Bool) (said : Option Event) (event : Event) → cond s said None ≡ Some event → (s ≡ true) × (said ≡ Some event)
where-space true said event e = (refl, e)
where-space false said event e = let no : ◌≡◌ {A = Option Event} None (Some event) = e in cc

space-where : (s : Bool) (said : Option Event) (event : Event) → s ≡ true → said ≡ Some event → cond s said None ≡ Some event
space-where s said event e d = ap (λ t. cond t said None) e ∙ d

full-parts : (at end place : ℕ) (name : Name) (attrs : List Attr) (inner rest : List Part) → (Start at end name attrs ∷ (inner ++ End place ∷ [])) ++ rest ≡ Start at end name attrs ∷ (inner ++ (End place ∷ rest))
full-parts at end place name attrs inner rest = ap (λ ps. Start at end name attrs ∷ ps) (append_assoc inner (End place ∷ []) rest)

pub event-keeps : (tree : Tree) (at : ℕ) (scopes : List (List Declaration)) (bytes : List ℕ) (parts : List Part) → TreeParts tree at scopes bytes parts → (event : Event) → event_in scopes tree ≡ Some event → (events : List Event) (rest : List Part) → parts_judged (in_root events) (parts ++ rest) ≡ parts_judged (in_root (with_event events event)) rest
event-keeps (EmptyElement t) at scopes bytes parts (name, attrs, end, is, says, place, p) event e events rest =
    ap (λ ps. parts_judged (in_root events) (ps ++ rest)) p
    ∙ event-start events at end name attrs event (End end ∷ rest) (sym (said-is scopes t name attrs says) ∙ e)
event-keeps (Full t content) at scopes bytes parts (name, attrs, end, start, inside, closing, inner, d, is, ends, says, place, g, p) event e events rest =
    let w = where-space (has_only_space content) (event_said (tag_says scopes t)) event e in
    ap (λ ps. parts_judged (in_root events) (ps ++ rest)) p
    ∙ ap (parts_judged (in_root events)) (full-parts at end (at + length start + length inside) name attrs inner rest)
    ∙ event-start events at end name attrs event (inner ++ (End (at + length start + length inside) ∷ rest)) (sym (said-is scopes t name attrs says) ∙ w.1)
    ∙ space-keeps content (at + length start) (declarations t.attrs ∷ scopes) inside inner g w.0 (in_event (with_event events event)) (End (at + length start + length inside) ∷ rest)

pub event-is : (tree : Tree) (at : ℕ) (scopes : List (List Declaration)) (bytes : List ℕ) (parts : List Part) → TreeParts tree at scopes bytes parts → (events : List Event) (k : Judge) (rest : List Part) → parts_judged (in_root events) (parts ++ rest) ≡ Ok k → (event : Event) × (event_in scopes tree ≡ Some event)
event-is (EmptyElement t) at scopes bytes parts (name, attrs, end, is, says, place, p) events k rest e =
    let s = some-event events at (event_of name attrs) k (λ j. parts_judged j (End end ∷ rest)) (sym (ap (λ ps. parts_judged (in_root events) (ps ++ rest)) p) ∙ e) in
    (s.0, said-is scopes t name attrs says ∙ s.1)
event-is (Full t content) at scopes bytes parts (name, attrs, end, start, inside, closing, inner, d, is, ends, says, place, g, p) events k rest e =
    let behind = End (at + length start + length inside) ∷ rest in
    let s = some-event events at (event_of name attrs) k (λ j. parts_judged j (inner ++ (End (at + length start + length inside) ∷ rest)))
    (sym (ap (λ ps. parts_judged (in_root events) (ps ++ rest)) p ∙ ap (parts_judged (in_root events)) (full-parts at end (at + length start + length inside) name attrs inner rest)) ∙ e) in
    let blank = space-is content (at + length start) (declarations t.attrs ∷ scopes) inside inner g (with_event events s.0) k (End (at + length start + length inside) ∷ rest) s.2 in
    (s.0, space-where (has_only_space content) (event_said (tag_says scopes t)) s.0 blank (said-is scopes t name attrs says ∙ s.1))

-- the content of the root
pub some-more : (event : Option Event) (others : Option (List Event)) (all : List Event) → and_more event others ≡ Some all → (first : Event) × (more : List Event) × (event ≡ Some first) × (others ≡ Some more) × (all ≡ first ∷ more)
some-more None others all e = let no : ◌≡◌ {A = Option (List Event)} None (Some all) = e in absurd (cc)
some-more (Some first) None all e = let no : ◌≡◌ {A = Option (List Event)} None (Some all) = e in absurd (cc)
some-more (Some first) (Some more) all e = (first, more, refl, refl, same (first ∷ more) all e) where
  same : (x y : List Event) → ◌≡◌ {A = Option (List Event)} (Some x) (Some y) → y ≡ x
  same x y d = cc

pub where-some : (s : Bool) (others : Option (List Event)) (all : List Event) → cond s others None ≡ Some all → (s ≡ true) × (others ≡ Some all)
where-some true others all e = (refl, e)
where-some false others all e = let no : ◌≡◌ {A = Option (List Event)} None (Some all) = e in cc

some-where : (s : Bool) (others : Option (List Event)) (all : List Event) → s ≡ true → others ≡ Some all → cond s others None ≡ Some all
some-where s others all e d = ap (λ t. cond t others None) e ∙ d

same-list : (x y : List Event) → ◌≡◌ {A = Option (List Event)} (Some x) (Some y) → x ≡ y
same-list x y d = cc

pub events-keep : (content : Content) (at : ℕ) (scopes : List (List Declaration)) (bytes : List ℕ) (parts : List Part) → ContentParts content at scopes bytes parts → (more : List Event) → events_in scopes content ≡ Some more → (events : List Event) (rest : List Part) → parts_judged (in_root events) (parts ++ rest) ≡ parts_judged (in_root (events ++ more)) rest
events-keep Nothing at scopes bytes parts g more e events rest =
    ap (λ ps. parts_judged (in_root events) (ps ++ rest)) g.1
    ∙ ap (λ es. parts_judged (in_root es) rest) (sym (append-nil events) ∙ ap (λ es. events ++ es) (same-list [] more e))
events-keep (LeafThen leaf others) at scopes bytes parts (front, back, behind, d, is, apart, g, p) more e events rest =
    let w = where-some (is_space leaf) (events_in scopes others) more e in
    ap (λ ps. parts_judged (in_root events) (ps ++ rest)) p
    ∙ ap (parts_judged (in_root events)) (append_assoc (leaf_parts at leaf) behind rest)
    ∙ leaf-keeps (in_root events) at leaf (behind ++ rest) w.0
    ∙ events-keep others (at + length front) scopes back behind g more w.1 events rest
events-keep (TreeThen tree others) at scopes bytes parts (front, back, first, behind, d, g, h, p) more e events rest =
    let s = some-more (event_in scopes tree) (events_in scopes others) more e in
    ap (λ ps. parts_judged (in_root events) (ps ++ rest)) p
    ∙ ap (parts_judged (in_root events)) (append_assoc first behind rest)
    ∙ event-keeps tree at scopes front first g s.0 s.2 events (behind ++ rest)
    ∙ events-keep others (at + length front) scopes back behind h s.1 s.3 (with_event events s.0) rest
    ∙ ap (λ es. parts_judged (in_root es) rest) (append_assoc events (s.0 ∷ []) s.1 ∙ ap (λ es. events ++ es) (sym s.4))

pub events-are : (content : Content) (at : ℕ) (scopes : List (List Declaration)) (bytes : List ℕ) (parts : List Part) → ContentParts content at scopes bytes parts → (events : List Event) (k : Judge) (rest : List Part) → parts_judged (in_root events) (parts ++ rest) ≡ Ok k → (more : List Event) × (events_in scopes content ≡ Some more)
events-are Nothing at scopes bytes parts g events k rest e = ([], refl)
events-are (LeafThen leaf others) at scopes bytes parts (front, back, behind, d, is, apart, g, p) events k rest e =
    let on : parts_judged (in_root events) (leaf_parts at leaf ++ (behind ++ rest)) ≡ Ok k =
    sym (ap (λ ps. parts_judged (in_root events) (ps ++ rest)) p ∙ ap (parts_judged (in_root events)) (append_assoc (leaf_parts at leaf) behind rest)) ∙ e in
    let blank = leaf-space (in_root events) k at leaf (behind ++ rest) on in
    let r = events-are others (at + length front) scopes back behind g events k rest (sym (leaf-keeps (in_root events) at leaf (behind ++ rest) blank) ∙ on) in
    (r.0, some-where (is_space leaf) (events_in scopes others) r.0 blank r.1)
events-are (TreeThen tree others) at scopes bytes parts (front, back, first, behind, d, g, h, p) events k rest e =
    let on : parts_judged (in_root events) (first ++ (behind ++ rest)) ≡ Ok k =
    sym (ap (λ ps. parts_judged (in_root events) (ps ++ rest)) p ∙ ap (parts_judged (in_root events)) (append_assoc first behind rest)) ∙ e in
    let s = event-is tree at scopes front first g events k (behind ++ rest) on in
    let r = events-are others (at + length front) scopes back behind h (with_event events s.0) k rest (sym (event-keeps tree at scopes front first g s.0 s.1 events (behind ++ rest)) ∙ on) in
    (s.0 ∷ r.0, ap (λ o. and_more o (events_in scopes others)) s.1 ∙ ap (and_more (Some s.0)) r.1)

-- the root
abbrev pub outside : List Event → Judge
outside events = record { level = Outside; events = events }

root-start : (at end : ℕ) (name : Name) (attrs : List Attr) (rest : List Part) → is_state_event name ≡ true → parts_judged nothing_said (Start at end name attrs ∷ rest) ≡ parts_judged (in_root []) rest
root-start at end name attrs rest e = ap (λ t. and_judged (cond t (Ok (in_root [])) (Err at)) (λ k. parts_judged k rest)) e

root-starts : (s : Bool) (at : ℕ) (k : Judge) (next : Judge → Answer) → and_judged (cond s (Ok (in_root [])) (Err at)) next ≡ Ok k → (s ≡ true) × (next (in_root []) ≡ Ok k)
root-starts true at k next e = (refl, e)
root-starts false at k next e = absurd (ok-err k at e)

root-is : (t : Tag) (name : Name) (attrs : List Attr) → tag_says [] t ≡ Some (name, attrs) → is_root (tag_says [] t) ≡ is_state_event name
root-is t name attrs e = ap is_root e

pub root-keeps : (root : Tree) (at : ℕ) (bytes : List ℕ) (parts : List Part) → TreeParts root at [] bytes parts → (events : List Event) → root_events root ≡ Some events → parts_judged nothing_said parts ≡ Ok (outside events)
root-keeps (EmptyElement t) at bytes parts (name, attrs, end, is, says, place, p) events e =
    let w = where-some (is_root (tag_says [] t)) (Some []) events e in
    ap (parts_judged nothing_said) p
    ∙ root-start at end name attrs (End end ∷ []) (sym (root-is t name attrs says) ∙ w.0)
    ∙ ap (λ es. Ok (outside es)) (same-list [] events w.1)
root-keeps (Full t content) at bytes parts (name, attrs, end, start, inside, closing, inner, d, is, ends, says, place, g, p) events e =
    let w = where-some (is_root (tag_says [] t)) (events_in (declarations t.attrs ∷ []) content) events e in
    ap (parts_judged nothing_said) p
    ∙ root-start at end name attrs (inner ++ End (at + length start + length inside) ∷ []) (sym (root-is t name attrs says) ∙ w.0)
    ∙ events-keep content (at + length start) (declarations t.attrs ∷ []) inside inner g events w.1 [] (End (at + length start + length inside) ∷ [])

pub root-are : (root : Tree) (at : ℕ) (bytes : List ℕ) (parts : List Part) → TreeParts root at [] bytes parts → (k : Judge) → parts_judged nothing_said parts ≡ Ok k → root_events root ≡ Some k.events
root-are (EmptyElement t) at bytes parts (name, attrs, end, is, says, place, p) k e =
    let s = root-starts (is_state_event name) at k (λ j. parts_judged j (End end ∷ [])) (sym (ap (parts_judged nothing_said) p) ∙ e) in
    some-where (is_root (tag_says [] t)) (Some []) k.events (root-is t name attrs says ∙ s.0) (ap (λ j. Some j.events) (same-ok (outside []) k s.1))
root-are (Full t content) at bytes parts (name, attrs, end, start, inside, closing, inner, d, is, ends, says, place, g, p) k e =
    let last = End (at + length start + length inside) ∷ [] in
    let s = root-starts (is_state_event name) at k (λ j. parts_judged j (inner ++ End (at + length start + length inside) ∷ [])) (sym (ap (parts_judged nothing_said) p) ∙ e) in
    let r = events-are content (at + length start) (declarations t.attrs ∷ []) inside inner g [] k (End (at + length start + length inside) ∷ []) s.1 in
    let f = sym (events-keep content (at + length start) (declarations t.attrs ∷ []) inside inner g r.0 r.1 [] (End (at + length start + length inside) ∷ [])) ∙ s.1 in
    some-where (is_root (tag_says [] t)) (events_in (declarations t.attrs ∷ []) content) k.events (root-is t name attrs says ∙ s.0)
    (r.1 ∙ ap (λ j. Some j.events) (same-ok (outside r.0) k f))
