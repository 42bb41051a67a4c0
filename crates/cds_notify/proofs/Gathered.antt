-- What is gathered of the parts of a document is what its element says as a set of properties.
use Rattle.std.proofs.Common.{◌≡◌, ◌==◌, ◌+◌, ◌^◌, ℕ, suc, Bool, true, false, cond, Option, Some, None, Ok, option_map, List, [], ◌∷◌, ◌++◌, length, filter, codes, refl, sym, ap, ◌∙◌, arith, append_assoc, append-nil}
use Rattle.std.specs.List.{flat_map}
use Rattle.std.specs.Option.{option_and_then}
use Rattle.std.specs.Str.{bytes_eq}
use Rattle.std.proofs.lemmas.Bool.Decides.{nat_tests}
use Rattle.std.proofs.lemmas.List.Elements.{filter-append}
use Rattle.std.proofs.lemmas.Slice.Eq.{bytes_eq-Decides}
use Rattle.cds_base.specs.Number.{number_below}
use Rattle.cds_markup.specs.declared.element.Node.{Node}
use Rattle.cds_markup.specs.declared.element.Node.TheVariants.{Text, Child}
use Rattle.cds_markup.specs.declared.name.Name.{Name}
use Rattle.cds_markup.specs.declared.name.Attr.{Attr}
use Rattle.cds_markup.specs.declared.part.Part.{Part}
use Rattle.cds_markup.specs.declared.part.Part.TheVariants.{End}
use Rattle.cds_markup.specs.declared.tag.Declaration.{Declaration}
use Rattle.cds_markup.specs.Answer.{parts_in}
use Rattle.cds_markup.specs.Grammar.{Leaf, Comment, Tree, EmptyElement, Full, Content, Nothing, LeafThen, TreeThen}
use Rattle.cds_markup.specs.Namespaces.{declarations}
use Rattle.cds_markup.specs.Document.{Meaning, Meanings, Element, TextThen, ChildThen, End as Childless, Doc, joined, leaf_says, meaning, meanings}
use Rattle.cds_markup.specs.Elements.{nodes_of}
use Rattle.cds_markup.specs.Children.{nodes_in, elements_in, texts_in, is_named, is_called, named, called, only_of}
use Rattle.cds_markup.specs.Parts.{TreeParts, ContentParts, leaf_parts}
use Rattle.cds_markup.specs.GivenParts.{TellsTo}
use Rattle.cds_markup.proofs.Built.{takes-all}
use Rattle.cds_markup.proofs.NodesForm.{is-some, joined-none}
use Rattle.cds_markup.proofs.Public.{parts-are-of-roots}
use Rattle.cds_markup.proofs.Readings.{told-read}
use Rattle.cds_markup.proofs.Terms.{some-is}
use Rattle.cds_notify.specs.declared.body.Said.{Said}
use Rattle.cds_notify.specs.declared.variables.Level.{Level}
use Rattle.cds_notify.specs.declared.variables.Level.TheVariants.{Outside, InSet, InProperty, InNumber, InChanges, Passed}
use Rattle.cds_notify.specs.declared.variables.Variables.{Variables}
use Rattle.cds_notify.specs.Joined.{Texts, texts, no_texts, counted, run_kept, only_text}
use Rattle.cds_notify.specs.Gathering.{Gathering, is_event, variable_level, level_in, is_number, is_changes, gathering, gathering_of, gathering_begun, and_run, gathered, gathers, said_by}
use Rattle.cds_notify.specs.Said.{event_space, variables_in, said_of}
use Rattle.cds_notify.specs.Reading.{IsSaid}

-- ---- what a whole element and a whole content make of the variables of one name, which stand in these levels

abbrev mutual
  with_child : (Level → Bool) → Level → Meaning → Texts → Texts
  with_child here level (Element name attrs ms) v = with_all here (level_in level name) ms (counted (here (level_in level name)) v)

  with_all : (Level → Bool) → Level → Meanings → Texts → Texts
  with_all here level Childless v = v
  with_all here level (TextThen text ms) v = with_all here level ms (run_kept (here level) text v)
  with_all here level (ChildThen child ms) v = with_all here level ms (with_child here level child v)

run-none : (b : Bool) (v : Texts) → run_kept b [] v ≡ v
run-none true v = ap (texts v.count) (append-nil v.text)
run-none false v = refl

run-more : (b : Bool) (first more : List ℕ) (v : Texts) → run_kept b more (run_kept b first v) ≡ run_kept b (first ++ more) v
run-more true first more v = ap (texts v.count) (append_assoc v.text first more)
run-more false first more v = refl

all-joined : (here : Level → Bool) (level : Level) (text : List ℕ) (ms : Meanings) (v : Texts) → with_all here level (joined text ms) v ≡ with_all here level ms (run_kept (here level) text v)
all-joined here level text (TextThen more ms) v = ap (with_all here level ms) (sym (run-more (here level) text more v))
all-joined here level [] other v = ap (λ ms. with_all here level ms v) (joined-none other) ∙ ap (with_all here level other) (sym (run-none (here level) v))
all-joined here level (x ∷ text) Childless v = simp is-some
all-joined here level (x ∷ text) (ChildThen child ms) v = simp is-some

-- ---- the parts of a whole element make that of them

abbrev after_child : Level → List Level → Meaning → Texts → Texts → Gathering
after_child level around child n c = gathering level around (with_child is_number level child n) (with_child is_changes level child c)

abbrev after_all : Level → List Level → Meanings → Texts → Texts → Gathering
after_all level around ms n c = gathering level around (with_all is_number level ms n) (with_all is_changes level ms c)

record TreeKept (tree : Tree) (scopes : List (List Declaration)) (ps : List Part) : Type 0 where
  says : Meaning
  means : meaning tree scopes ≡ Some says
  keeps : (level : Level) (around : List Level) (n c : Texts) (rest : List Part) → gathered (gathering level around n c) (ps ++ rest) ≡ gathered (after_child level around says n c) rest

record ContentKept (content : Content) (scopes : List (List Declaration)) (ps : List Part) : Type 0 where
  says : Meanings
  means : meanings content scopes ≡ Some says
  keeps : (level : Level) (around : List Level) (n c : Texts) (rest : List Part) → gathered (gathering level around n c) (ps ++ rest) ≡ gathered (after_all level around says n c) rest

leaf-kept : (leaf : Leaf) (at : ℕ) (level : Level) (around : List Level) (n c : Texts) (rest : List Part) → gathered (gathering level around n c) (leaf_parts at leaf ++ rest) ≡ gathered (and_run (leaf_says leaf) (gathering level around n c)) rest
leaf-kept Comment at level around n c rest = sym (λ i. gathered (gathering level around (run-none (is_number level) n i) (run-none (is_changes level) c i)) rest)
leaf-kept other at level around n c rest = refl

mutual
  tree-kept : (tree : Tree) (at : ℕ) (scopes : List (List Declaration)) (bytes : List ℕ) (ps : List Part) → TreeParts tree at scopes bytes ps → TreeKept tree scopes ps
  tree-kept (EmptyElement t) at scopes bytes ps (name, attrs, end, is, says, place, p) = record {
    says = Element name attrs Childless;
    means = rw says refl;
    keeps = λ level around n c rest. rw p refl;
  }
  tree-kept (Full t content) at scopes bytes ps (name, attrs, end, start, inside, closing, inner, b, is, ends, says, place, others, p) =
      let last : ℕ = at + length start + length inside in
      let m = content-kept content (at + length start) (declarations t.attrs ∷ scopes) inside inner others in
      record {
        says = Element name attrs m.says;
        means = rw (says, m.means) refl;
        keeps = λ level around n c rest.
            let own = level_in level name in
            rw (p, append_assoc inner (End last ∷ []) rest) (m.keeps own (level ∷ around) (counted (is_number own) n) (counted (is_changes own) c) (End last ∷ rest));
      }

  content-kept : (content : Content) (at : ℕ) (scopes : List (List Declaration)) (bytes : List ℕ) (ps : List Part) → ContentParts content at scopes bytes ps → ContentKept content scopes ps
  content-kept Nothing at scopes bytes ps (b, p) = record {
    says = Childless;
    means = refl;
    keeps = λ level around n c rest. rw p refl;
  }
  content-kept (LeafThen leaf more) at scopes bytes ps (front, back, behind, b, g, lone, others, p) =
      let m = content-kept more (at + length front) scopes back behind others in
      let text = leaf_says leaf in
      record {
        says = joined text m.says;
        means = rw m.means refl;
        keeps = λ level around n c rest.
            rw (p, append_assoc (leaf_parts at leaf) behind rest) (leaf-kept leaf at level around n c (behind ++ rest)
            ∙ m.keeps level around (run_kept (is_number level) text n) (run_kept (is_changes level) text c) rest
            ∙ sym (λ i. gathered (gathering level around (all-joined is_number level text m.says n i) (all-joined is_changes level text m.says c i)) rest));
      }
  content-kept (TreeThen tree more) at scopes bytes ps (front, back, first, behind, b, g, others, p) =
      let t = tree-kept tree at scopes front first g in
      let m = content-kept more (at + length front) scopes back behind others in
      record {
        says = ChildThen t.says m.says;
        means = rw (t.means, m.means) refl;
        keeps = λ level around n c rest.
            rw (p, append_assoc first behind rest) (t.keeps level around n c (behind ++ rest)
            ∙ m.keeps level around (with_child is_number level t.says n) (with_child is_changes level t.says c) rest);
      }

-- ---- those are the variables of the set

abbrev own_text : Meaning → List ℕ
own_text element = texts_in (nodes_in element)

-- elements that are variables of the name, one after the other
abbrev and_these : List Meaning → Texts → Texts
and_these [] v = v
and_these (x ∷ xs) v = and_these xs (texts (v.count + 1) (v.text ++ own_text x))

these-append : (xs ys : List Meaning) (v : Texts) → and_these (xs ++ ys) v ≡ and_these ys (and_these xs v)
these-append [] ys v = refl
these-append (x ∷ xs) ys v = these-append xs ys (texts (v.count + 1) (v.text ++ own_text x))

elements-append : (a b : List Node) → elements_in (a ++ b) ≡ elements_in a ++ elements_in b
elements-append [] b = refl
elements-append (Text text ∷ a) b = elements-append a b
elements-append (Child child ∷ a) b = ap (λ l. child ∷ l) (elements-append a b)

called-append : (local : List ℕ) (a b : List Node) → called local (a ++ b) ≡ called local a ++ called local b
called-append local a b = ap (filter (is_called local)) (elements-append a b) ∙ filter-append (is_called local) (elements_in a) (elements_in b)

-- nothing is looked at inside a variable
variable-whole : (name inner : Name) → level_in (variable_level name) inner ≡ Passed
variable-whole name inner = by (bytes_eq name.local (codes "SystemUpdateID")) (bytes_eq name.local (codes "LastChange")) where
  by : (a b : Bool) → level_in (cond a InNumber (cond b InChanges Passed)) inner ≡ Passed
  by true b = refl
  by false true = refl
  by false false = refl

module _ (here : Level → Bool) (local : List ℕ) (no_set : here InSet ≡ false) (no_property : here InProperty ≡ false) (not_passed : here Passed ≡ false) (decides : (name : Name) → here (variable_level name) ≡ bytes_eq name.local local) where
  whole-kept : (level : Level) → ((name : Name) → level_in level name ≡ Passed) → (ms : Meanings) (v : Texts) → with_all here level ms v ≡ run_kept (here level) (texts_in (nodes_of ms)) v
  whole-kept level whole Childless v = sym (run-none (here level) v)
  whole-kept level whole (TextThen text ms) v = whole-kept level whole ms (run_kept (here level) text v) ∙ run-more (here level) text (texts_in (nodes_of ms)) v
  whole-kept level whole (ChildThen (Element name attrs inner) ms) v =
      ap (with_all here level ms)
      (ap (λ k. with_all here k inner (counted (here k) v)) (whole name) ∙ whole-kept Passed (λ n. refl) inner (counted (here Passed) v)
      ∙ ap (λ b. run_kept b (texts_in (nodes_of inner)) (counted b v)) not_passed)
      ∙ whole-kept level whole ms v

  all-passed : (ms : Meanings) (v : Texts) → with_all here Passed ms v ≡ v
  all-passed ms v = whole-kept Passed (λ n. refl) ms v ∙ ap (λ b. run_kept b (texts_in (nodes_of ms)) v) not_passed

  variable-kept : (name : Name) (attrs : List Attr) (ms : Meanings) (v : Texts)
      → with_child here InProperty (Element name attrs ms) v ≡ run_kept (bytes_eq name.local local) (texts_in (nodes_of ms)) (counted (bytes_eq name.local local) v)
  variable-kept name attrs ms v =
      whole-kept (variable_level name) (variable-whole name) ms (counted (here (variable_level name)) v) ∙ ap (λ b. run_kept b (texts_in (nodes_of ms)) (counted b v)) (decides name)

  in-property : (ms : Meanings) (v : Texts) → with_all here InProperty ms v ≡ and_these (called local (nodes_of ms)) v
  in-property Childless v = refl
  in-property (TextThen text ms) v = ap (λ b. with_all here InProperty ms (run_kept b text v)) no_property ∙ in-property ms v
  in-property (ChildThen (Element name attrs inner) ms) v =
      in-property ms (with_child here InProperty (Element name attrs inner) v) ∙ ap (and_these (called local (nodes_of ms))) (variable-kept name attrs inner v)
      ∙ by (bytes_eq name.local local)
    where
      by : (b : Bool) → and_these (called local (nodes_of ms)) (run_kept b (texts_in (nodes_of inner)) (counted b v))
          ≡ and_these (cond b (Element name attrs inner ∷ called local (nodes_of ms)) (called local (nodes_of ms))) v
      by true = refl
      by false = refl

  property-kept : (name : Name) (attrs : List Attr) (ms : Meanings) (v : Texts)
      → with_child here InSet (Element name attrs ms) v ≡ and_these (cond (is_event (codes "property") name) (called local (nodes_of ms)) []) v
  property-kept name attrs ms v = by (is_event (codes "property") name) where
    by : (b : Bool) → with_all here (cond b InProperty Passed) ms (counted (here (cond b InProperty Passed)) v) ≡ and_these (cond b (called local (nodes_of ms)) []) v
    by true = ap (λ b. with_all here InProperty ms (counted b v)) no_property ∙ in-property ms v
    by false = ap (λ b. with_all here Passed ms (counted b v)) not_passed ∙ all-passed ms v

  in-set : (ms : Meanings) (v : Texts) → with_all here InSet ms v ≡ and_these (called local (flat_map nodes_in (named event_space (codes "property") (nodes_of ms)))) v
  in-set Childless v = refl
  in-set (TextThen text ms) v = ap (λ b. with_all here InSet ms (run_kept b text v)) no_set ∙ in-set ms v
  in-set (ChildThen (Element name attrs inner) ms) v =
      in-set ms (with_child here InSet (Element name attrs inner) v) ∙ ap (and_these (called local (flat_map nodes_in properties))) (property-kept name attrs inner v)
      ∙ by (is_event (codes "property") name)
    where
      properties : List Meaning
      properties = named event_space (codes "property") (nodes_of ms)

      by : (b : Bool) → and_these (called local (flat_map nodes_in properties)) (and_these (cond b (called local (nodes_of inner)) []) v)
          ≡ and_these (called local (flat_map nodes_in (cond b (Element name attrs inner ∷ properties) properties))) v
      by true =
          sym (ap (λ xs. and_these xs v) (called-append local (nodes_of inner) (flat_map nodes_in properties))
          ∙ these-append (called local (nodes_of inner)) (called local (flat_map nodes_in properties)) v)
      by false = refl

  root-kept : (root : Meaning) (v : Texts) → with_child here Outside root v ≡ and_these (cond (is_named event_space (codes "propertyset") root) (called local (variables_in root)) []) v
  root-kept (Element name attrs ms) v = by (is_event (codes "propertyset") name) where
    by : (b : Bool) → with_all here (cond b InSet Passed) ms (counted (here (cond b InSet Passed)) v) ≡ and_these (cond b (called local (variables_in (Element name attrs ms))) []) v
    by true = ap (λ b. with_all here InSet ms (counted b v)) no_set ∙ in-set ms v
    by false = ap (λ b. with_all here Passed ms (counted b v)) not_passed ∙ all-passed ms v

-- each of the two
number-decides : (name : Name) → is_number (variable_level name) ≡ bytes_eq name.local (codes "SystemUpdateID")
number-decides name = by (bytes_eq name.local (codes "SystemUpdateID")) (bytes_eq name.local (codes "LastChange")) where
  by : (a b : Bool) → is_number (cond a InNumber (cond b InChanges Passed)) ≡ a
  by true b = refl
  by false true = refl
  by false false = refl

changes-decides : (name : Name) → is_changes (variable_level name) ≡ bytes_eq name.local (codes "LastChange")
changes-decides name = by (bytes_eq name.local (codes "SystemUpdateID")) (bytes_eq name.local (codes "LastChange")) refl refl where
  by : (a b : Bool) → bytes_eq name.local (codes "SystemUpdateID") ≡ a → bytes_eq name.local (codes "LastChange") ≡ b → is_changes (cond a InNumber (cond b InChanges Passed)) ≡ b
  by true b e f = sym (ap (λ text. bytes_eq text (codes "LastChange")) ((bytes_eq-Decides name.local (codes "SystemUpdateID")).0 e)) ∙ f
  by false true e f = refl
  by false false e f = refl

-- ---- what they say

count-these : (xs : List Meaning) (v : Texts) → (and_these xs v).count ≡ v.count + length xs
count-these [] v = omega arith
count-these (x ∷ xs) v = let more = count-these xs (texts (v.count + 1) (v.text ++ own_text x)) in omega (arith, more)

not-one : (k n : ℕ) → k ≡ suc (suc n) → (k == 1) ≡ false
not-one k n e = grind (arith, nat_tests)

only-these : (xs : List Meaning) → only_text (and_these xs no_texts) ≡ option_map own_text (only_of xs)
only-these [] = refl
only-these (x ∷ []) = refl
only-these (x ∷ y ∷ more) =
    let all = and_these (x ∷ y ∷ more) no_texts in
    let count = count-these (x ∷ y ∷ more) no_texts in
    ap (λ b. cond b (Some all.text) None) (not-one all.count (length more) (omega (arith, count)))

abbrev Both : Option (List ℕ) → Option (List ℕ) → Option Said
Both numbers changed = option_and_then (λ number. option_and_then (λ changes. Some (record { number = number; changes = changes })) changed) (option_and_then (number_below (2 ^ 32)) numbers)

abbrev where_so : Bool → Option (Unit {0})
where_so b = cond b (Some tt) None

set-said : (root : Meaning) → said_by (with_child is_number Outside root no_texts) (with_child is_changes Outside root no_texts) ≡ said_of root
unfolding said_by said_of
set-said root =
    (λ i. said_by (root-kept is_number (codes "SystemUpdateID") refl refl refl number-decides root no_texts i) (root-kept is_changes (codes "LastChange") refl refl refl changes-decides root no_texts i))
    ∙ (λ i. Both (only-these (cond set (called (codes "SystemUpdateID") (variables_in root)) []) i) (only-these (cond set (called (codes "LastChange") (variables_in root)) []) i))
    ∙ by set
  where
    set : Bool
    set = is_named event_space (codes "propertyset") root

    by : (b : Bool) → Both (option_map own_text (only_of (cond b (called (codes "SystemUpdateID") (variables_in root)) []))) (option_map own_text (only_of (cond b (called (codes "LastChange") (variables_in root)) [])))
        ≡ option_and_then (λ is. Both (option_map own_text (only_of (called (codes "SystemUpdateID") (variables_in root)))) (option_map own_text (only_of (called (codes "LastChange") (variables_in root))))) (where_so b)
    by true = refl
    by false = refl

document-gathered : (body : List ℕ) (root : Meaning) → Doc body root → gathered gathering_begun (parts_in body) ≡ after_child Outside [] root no_texts no_texts
document-gathered body root (tree, doc) =
    let d = parts-are-of-roots body tree root doc in
    let k = tree-kept d.0.root (length d.0.prolog) [] d.0.element (parts_in body) d.0.is_element in
    let same : k.says ≡ root = some-is (sym k.means ∙ ap (λ t. meaning t []) d.1 ∙ doc.means) in
    ap (gathered gathering_begun) (sym (append-nil (parts_in body))) ∙ k.keeps Outside [] no_texts no_texts []
    ∙ ap (λ m. after_child Outside [] m no_texts no_texts) same

pub gathered-said : (body : List ℕ) (before now : Variables) → TellsTo gathers (λ v. false) body (Ok tt) before now → gathering_of before ≡ gathering_begun → IsSaid body (said_by now.number now.changes)
gathered-said body before now told fresh =
    let r = told-read gathers body before now told in
    let all =
    takes-all gathers gathering_of gathered (λ s. refl) (λ a b part more e. ap (λ s. gathered s more) e) before now (parts_in body) r.0 ∙ ap (λ s. gathered s (parts_in body)) fresh ∙ document-gathered body r.1 r.2 in
    record { root = r.1; document = r.2; is = sym (ap (λ (s : Gathering). said_by s.number s.changes) all ∙ set-said r.1) }
