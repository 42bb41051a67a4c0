-- A document of events has an element, and no more than two elements are open in it.
use Rattle.std.proofs.Common.{◌≡◌, ℕ, suc, ◌≤◌, max, true, false, Option, Some, None, List, [], ◌∷◌, refl, ap, ◌∙◌, arith}
use Rattle.cds_object.specs.declared.event.Event.{Event}
use Rattle.cds_markup.specs.declared.name.Name.{Name}
use Rattle.cds_markup.specs.declared.name.Attr.{Attr}
use Rattle.cds_markup.specs.declared.tag.Declaration.{Declaration}
use Rattle.cds_markup.specs.Grammar.{Tree, EmptyElement, Full, Content, Nothing, LeafThen, TreeThen}
use Rattle.cds_markup.specs.Namespaces.{declarations, tag_says}
use Rattle.cds_markup.specs.Document.{Meaning, Meanings, Element, End, ChildThen, joined, leaf_says, and_joined, and_children, of_tag, meaning, meanings, depth, depths}
use Rattle.cds_lastchange.specs.StateEvent.{is_space, has_only_space, event_said, event_in, events_in, is_root, root_events}
use Rattle.cds_lastchange.proofs.Spaces.{and-second}
use Rattle.cds_lastchange.proofs.Judging.{where-space, some-more, where-some}

space-means : (content : Content) (scopes : List (List Declaration)) → has_only_space content ≡ true → (ms : Meanings) × (meanings content scopes ≡ Some ms) × (depths content ≡ 0)
space-means Nothing scopes e = (End, refl, refl)
space-means (LeafThen leaf more) scopes e =
    let r = space-means more scopes (and-second (is_space leaf) (has_only_space more) e) in
    (joined (leaf_says leaf) r.0, ap (and_joined (leaf_says leaf)) r.1, r.2)
space-means (TreeThen tree more) scopes e = let no : false ≡ true = e in absurd (cc)

abbrev Said : Type 0
Said = Name × List Attr

said-event : (o : Option Said) (event : Event) → event_said o ≡ Some event → (said : Said) × (o ≡ Some said)
said-event None event e = let no : ◌≡◌ {A = Option Event} None (Some event) = e in absurd (cc)
said-event (Some said) event e = (said, refl)

event-means : (tree : Tree) (scopes : List (List Declaration)) (event : Event) → event_in scopes tree ≡ Some event → (m : Meaning) × (meaning tree scopes ≡ Some m) × (depth tree ≡ 1)
event-means (EmptyElement t) scopes event e =
    let s = said-event (tag_says scopes t) event e in
    (Element s.0.0 s.0.1 End, ap (λ o. of_tag o (Some End)) s.1, refl)
event-means (Full t content) scopes event e =
    let w = where-space (has_only_space content) (event_said (tag_says scopes t)) event e in
    let s = said-event (tag_says scopes t) event w.1 in
    let r = space-means content (declarations t.attrs ∷ scopes) w.0 in
    (Element s.0.0 s.0.1 r.0, ap (λ o. of_tag o (meanings content (declarations t.attrs ∷ scopes))) s.1 ∙ ap (of_tag (Some s.0)) r.1, ap suc r.2)

events-mean : (content : Content) (scopes : List (List Declaration)) (events : List Event) → events_in scopes content ≡ Some events → (ms : Meanings) × (meanings content scopes ≡ Some ms) × (depths content ≤ 1)
events-mean Nothing scopes events e = (End, refl, omega arith)
events-mean (LeafThen leaf more) scopes events e =
    let w = where-some (is_space leaf) (events_in scopes more) events e in
    let r = events-mean more scopes events w.1 in
    (joined (leaf_says leaf) r.0, ap (and_joined (leaf_says leaf)) r.1, r.2)
events-mean (TreeThen tree more) scopes events e =
    let s = some-more (event_in scopes tree) (events_in scopes more) events e in
    let f = event-means tree scopes s.0 s.2 in
    let r = events-mean more scopes s.1 s.3 in
    (ChildThen f.0 r.0, ap (λ o. and_children o (meanings more scopes)) f.1 ∙ ap (and_children (Some f.0)) r.1, at-most (depth tree) (depths more) f.2 r.2)
  where
    at-most : (m n : ℕ) → m ≡ 1 → n ≤ 1 → max m n ≤ 1
    at-most m n e h = omega (arith, e, h)

root-said : (o : Option Said) → is_root o ≡ true → (said : Said) × (o ≡ Some said)
root-said None e = let no : false ≡ true = e in absurd (cc)
root-said (Some said) e = (said, refl)

pub root-means : (root : Tree) (events : List Event) → root_events root ≡ Some events → (m : Meaning) × (meaning root [] ≡ Some m) × (depth root ≤ 2)
root-means (EmptyElement t) events e =
    let w = where-some (is_root (tag_says [] t)) (Some []) events e in
    let s = root-said (tag_says [] t) w.0 in
    (Element s.0.0 s.0.1 End, ap (λ o. of_tag o (Some End)) s.1, omega arith)
root-means (Full t content) events e =
    let w = where-some (is_root (tag_says [] t)) (events_in (declarations t.attrs ∷ []) content) events e in
    let s = root-said (tag_says [] t) w.0 in
    let r = events-mean content (declarations t.attrs ∷ []) events w.1 in
    (Element s.0.0 s.0.1 r.0, ap (λ o. of_tag o (meanings content (declarations t.attrs ∷ []))) s.1 ∙ ap (of_tag (Some s.0)) r.1, omega (arith, r.2))
