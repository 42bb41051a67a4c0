-- What an outline keeps of the parts of a document is the outline of its element, and what such an outline has.
use Rattle.std.proofs.Common.{◌≡◌, ◌==◌, ℕ, zero, suc, ◌+◌, ◌-◌, ◌<◌, ◌≤◌, Bool, true, false, cond, Some, Ok, List, [], ◌∷◌, ◌++◌, length, map, take, refl, sym, ap, subst, ◌∙◌, arith, append_assoc, ltb}
use Rattle.cds_markup.specs.declared.name.Name.{Name}
use Rattle.cds_markup.specs.declared.outline.OpenElement.{OpenElement}
use Rattle.cds_markup.specs.declared.outline.OutlineBuilder.{OutlineBuilder}
use Rattle.cds_markup.specs.declared.tag.Declaration.{Declaration}
use Rattle.cds_markup.specs.Answer.{parts_in}
use Rattle.cds_markup.specs.Children.{name_of, texts_in}
use Rattle.cds_markup.specs.Outline.{only_elements, outline, DecidesOutline}
use Rattle.cds_markup.specs.Outlining.{Outlining, opened_as, inner_levels, with_run, cut_of, with_inner, outlining, outlining_of, no_name, outlining_begun, outlined, outlines}
use Rattle.cds_markup.proofs.Terms.{nat_tests, append-nil, some-is, Part, End, Leaf, Grammar-comment, Tree, EmptyElement, Full, Inner, Nothing, LeafThen, TreeThen, declarations, Doc, Meaning, Meanings, Element, TextThen, ChildThen, Childless, joined, leaf_says, meaning, meanings, TreeParts, ContentParts, leaf_parts, and_text, first_element, elements_in, nodes_in, Child, nodes_of, children_then, and_node, TellsTo}
use Rattle.cds_markup.proofs.NodesForm.{is-some, joined-none}
use Rattle.cds_markup.proofs.Built.{children-end, children-twice, takes-all}
use Rattle.cds_markup.proofs.GivenLaws.{parts-are-of-roots}
use Rattle.cds_markup.proofs.Readings.{IsFound, decides-read, told-read}

-- ---- what a whole child and a whole content make of an element that is open

abbrev mutual
  with_child : ℕ → Meaning → OpenElement → OpenElement
  with_child w (Element name attrs ms) o = with_inner (with_all w ms (opened_as name (inner_levels w o))) o

  with_all : ℕ → Meanings → OpenElement → OpenElement
  with_all w Childless o = o
  with_all w (TextThen text ms) o = with_all w ms (with_run text o)
  with_all w (ChildThen child ms) o = with_all w ms (with_child w child o)

-- runs side by side
run-none : (o : OpenElement) → with_run [] o ≡ o
run-none o = by (o.levels == 1) where
  by : (b : Bool) → record o { text = cond b (o.text ++ []) o.text } ≡ o
  by true = ap (λ xs. record o { text = xs }) (append-nil o.text)
  by false = refl

run-more : (s t : List ℕ) (o : OpenElement) → with_run t (with_run s o) ≡ with_run (s ++ t) o
run-more s t o = by (o.levels == 1) where
  by : (b : Bool) → record o { text = cond b (cond b (o.text ++ s) o.text ++ t) (cond b (o.text ++ s) o.text) } ≡ record o { text = cond b (o.text ++ (s ++ t)) o.text }
  by true = ap (λ xs. record o { text = xs }) (append_assoc o.text s t)
  by false = refl

all-joined : (w : ℕ) (text : List ℕ) (ms : Meanings) (o : OpenElement) → with_all w (joined text ms) o ≡ with_all w ms (with_run text o)
all-joined w text (TextThen more ms) o = ap (with_all w ms) (sym (run-more text more o))
all-joined w [] other o = ap (λ ms. with_all w ms o) (joined-none other) ∙ ap (with_all w other) (sym (run-none o))
all-joined w (x ∷ text) Childless o = simp is-some
all-joined w (x ∷ text) (ChildThen child ms) o = simp is-some

record TreeKept (w : ℕ) (tree : Tree) (scopes : List (List Declaration)) (ps : List Part) : Type 0 where
  says : Meaning
  means : meaning tree scopes ≡ Some says
  keeps : (o : OpenElement) (around : List OpenElement) (rest : List Part) → outlined (outlining w o around) (ps ++ rest) ≡ outlined (outlining w (with_child w says o) around) rest

record ContentKept (w : ℕ) (c : Inner) (scopes : List (List Declaration)) (ps : List Part) : Type 0 where
  says : Meanings
  means : meanings c scopes ≡ Some says
  keeps : (o : OpenElement) (around : List OpenElement) (rest : List Part) → outlined (outlining w o around) (ps ++ rest) ≡ outlined (outlining w (with_all w says o) around) rest

leaf-kept : (w : ℕ) (leaf : Leaf) (at : ℕ) (o : OpenElement) (around : List OpenElement) (rest : List Part) → outlined (outlining w o around) (leaf_parts at leaf ++ rest) ≡ outlined (outlining w (with_run (leaf_says leaf) o) around) rest
leaf-kept w Grammar-comment at o around rest = ap (λ x. outlined (outlining w x around) rest) (sym (run-none o))
leaf-kept w other at o around rest = refl

mutual
  tree-kept : (w : ℕ) (tree : Tree) (at : ℕ) (scopes : List (List Declaration)) (bytes : List ℕ) (ps : List Part) → TreeParts tree at scopes bytes ps → TreeKept w tree scopes ps
  tree-kept w (EmptyElement t) at scopes bytes ps (name, attrs, end, is, says, place, p) = record {
    says = Element name attrs Childless;
    means = rw says refl;
    keeps = λ o around rest. rw p refl;
  }
  tree-kept w (Full t content) at scopes bytes ps (name, attrs, end, start, inside, closing, inner, b, is, ends, says, place, others, p) =
      let last : ℕ = at + length start + length inside in
      let c = content-kept w content (at + length start) (declarations t.attrs ∷ scopes) inside inner others in
      record {
        says = Element name attrs c.says;
        means = rw (says, c.means) refl;
        keeps = λ o around rest. rw (p, append_assoc inner (End last ∷ []) rest) (c.keeps (opened_as name (inner_levels w o)) (o ∷ around) (End last ∷ rest));
      }

  content-kept : (w : ℕ) (c : Inner) (at : ℕ) (scopes : List (List Declaration)) (bytes : List ℕ) (ps : List Part) → ContentParts c at scopes bytes ps → ContentKept w c scopes ps
  content-kept w Nothing at scopes bytes ps (b, p) = record {
    says = Childless;
    means = refl;
    keeps = λ o around rest. rw p refl;
  }
  content-kept w (LeafThen leaf more) at scopes bytes ps (front, back, behind, b, g, lone, others, p) =
      let m = content-kept w more (at + length front) scopes back behind others in
      let text = leaf_says leaf in
      record {
        says = joined text m.says;
        means = rw m.means refl;
        keeps = λ o around rest.
            rw (p, append_assoc (leaf_parts at leaf) behind rest) (leaf-kept w leaf at o around (behind ++ rest) ∙ m.keeps (with_run text o) around rest
            ∙ ap (λ x. outlined (outlining w x around) rest) (sym (all-joined w text m.says o)));
      }
  content-kept w (TreeThen tree more) at scopes bytes ps (front, back, first, behind, b, g, others, p) =
      let t = tree-kept w tree at scopes front first g in
      let m = content-kept w more (at + length front) scopes back behind others in
      record {
        says = ChildThen t.says m.says;
        means = rw (t.means, m.means) refl;
        keeps = λ o around rest. rw (p, append_assoc first behind rest) (t.keeps o around (behind ++ rest) ∙ m.keeps (with_child w t.says o) around rest);
      }

-- ---- that is an outline

-- numbers
not-one : (k n : ℕ) → k ≡ suc (suc n) → (k == 1) ≡ false
not-one k n e = grind (arith, nat_tests)

not-none : (k n : ℕ) → k ≡ suc n → (k == 0) ≡ false
not-none k n e = grind (arith, nat_tests)

is-one : (k : ℕ) → k ≡ 1 → (k == 1) ≡ true
is-one k e = grind (arith, nat_tests)

no-levels : (b : Bool) (k : ℕ) → k ≤ 1 → cond b (k - 1) 0 ≡ 0
no-levels true k few = omega arith
no-levels false k few = refl

no-room : (k w n : ℕ) → w ≤ k → cond (ltb k w) n 0 ≡ 0
no-room k w n full = grind (arith, nat_tests)

some-room : (k w l n : ℕ) → k < w → l ≡ suc (suc n) → cond (ltb k w) (l - 1) 0 ≡ suc n
some-room k w l n room e = grind (arith, nat_tests)

-- an element keeps its number of levels, and one of which none are kept stays as it is
all-levels : (w : ℕ) (ms : Meanings) (o : OpenElement) → (with_all w ms o).levels ≡ o.levels
all-levels w Childless o = refl
all-levels w (TextThen text ms) o = all-levels w ms (with_run text o)
all-levels w (ChildThen (Element name attrs inner) ms) o = all-levels w ms (with_child w (Element name attrs inner) o)

child-passed : (w : ℕ) (child : Meaning) (o : OpenElement) → inner_levels w o ≡ 0 → with_child w child o ≡ o
child-passed w (Element name attrs ms) o none =
    let inner = with_all w ms (opened_as name (inner_levels w o)) in
    let nothing : (inner.levels == 0) ≡ true = ap (λ n. n == 0) (all-levels w ms (opened_as name (inner_levels w o)) ∙ none) in
    ap (λ b. record o { children = cond b o.children (and_node o.children (Child (cut_of inner))) }) nothing

run-passed : (text : List ℕ) (o : OpenElement) → (o.levels == 1) ≡ false → with_run text o ≡ o
run-passed text o e = ap (λ b. record o { text = cond b (o.text ++ text) o.text }) e

-- at the last level its text is kept
text-kept : (w : ℕ) (ms : Meanings) (o : OpenElement) → o.levels ≡ 1 → with_all w ms o ≡ record o { text = o.text ++ texts_in (nodes_of ms) }
text-kept w Childless o one = ap (λ xs. record o { text = xs }) (sym (append-nil o.text))
text-kept w (TextThen text ms) o one =
    let rest = texts_in (nodes_of ms) in
    text-kept w ms (with_run text o) one ∙ ap (λ b. record o { text = cond b (o.text ++ text) o.text ++ rest }) (is-one o.levels one)
    ∙ ap (λ xs. record o { text = xs }) (append_assoc o.text text rest)
text-kept w (ChildThen child ms) o one = ap (with_all w ms) (child-passed w child o (no-levels (ltb (length (nodes_of o.children)) w) o.levels (omega (arith, one)))) ∙ text-kept w ms o one

-- above it child elements are
length-more : (children : Meanings) (child : Meaning) → length (nodes_of (and_node children (Child child))) ≡ suc (length (nodes_of children))
length-more Childless child = refl
length-more (TextThen text ms) child = ap suc (length-more ms child)
length-more (ChildThen first ms) child = ap suc (length-more ms child)

none-taken : (w n room : ℕ) (children : Meanings) → children_then children (only_elements (map (λ child. outline w n child) (take room []))) ≡ children
none-taken w n zero children = children-end children
none-taken w n (suc room) children = children-end children

abbrev first_of_them : ℕ → ℕ → ℕ → Meanings → Meanings
first_of_them w n room ms = only_elements (map (λ child. outline w n child) (take room (elements_in (nodes_of ms))))

kept-by : (w n : ℕ) (name : Name) (ms : Meanings) (o : OpenElement) (cut : Meaning) → inner_levels w o ≡ suc n → cut_of (with_all w ms (opened_as name (suc n))) ≡ cut
    → with_inner (with_all w ms (opened_as name (inner_levels w o))) o ≡ record o { children = and_node o.children (Child cut) }
kept-by w n name ms o cut some is =
    let inner = with_all w ms (opened_as name (inner_levels w o)) in
    let something : (inner.levels == 0) ≡ false = not-none inner.levels n (all-levels w ms (opened_as name (inner_levels w o)) ∙ some) in
    ap (λ b. record o { children = cond b o.children (and_node o.children (Child (cut_of inner))) }) something
    ∙ ap (λ m. record o { children = and_node o.children (Child m) }) (ap (λ k. cut_of (with_all w ms (opened_as name k))) some ∙ is)

mutual
  unfolding outline

  child-kept : (w n : ℕ) (child : Meaning) (o : OpenElement) → inner_levels w o ≡ suc n → with_child w child o ≡ record o { children = and_node o.children (Child (outline w n child)) }
  child-kept w zero (Element name attrs ms) o some = kept-by w zero name ms o (outline w zero (Element name attrs ms)) some (ap cut_of (text-kept w ms (opened_as name 1) refl))
  child-kept w (suc n) (Element name attrs ms) o some =
      kept-by w (suc n) name ms o (outline w (suc n) (Element name attrs ms)) some (ap cut_of (elements-kept w n w ms (opened_as name (suc (suc n))) refl (omega arith)))

  elements-kept : (w n room : ℕ) (ms : Meanings) (o : OpenElement) → o.levels ≡ suc (suc n) → length (nodes_of o.children) + room ≡ w
      → with_all w ms o ≡ record o { children = children_then o.children (first_of_them w n room ms) }
  elements-kept w n room Childless o some many = ap (λ m. record o { children = m }) (sym (none-taken w n room o.children))
  elements-kept w n room (TextThen text ms) o some many = ap (with_all w ms) (run-passed text o (not-one o.levels n some)) ∙ elements-kept w n room ms o some many
  elements-kept w n zero (ChildThen child ms) o some many =
      ap (with_all w ms) (child-passed w child o (no-room (length (nodes_of o.children)) w (o.levels - 1) (omega (arith, many)))) ∙ elements-kept w n zero ms o some many
  elements-kept w n (suc room) (ChildThen child ms) o some many =
      let more : OpenElement = record o { children = and_node o.children (Child (outline w n child)) } in
      let count = length-more o.children (outline w n child) in
      ap (with_all w ms) (child-kept w n child o (some-room (length (nodes_of o.children)) w o.levels n (omega (arith, many)) some))
      ∙ elements-kept w n room ms more some (omega (arith, many, count))
      ∙ ap (λ m. record o { children = m }) (children-twice o.children (ChildThen (outline w n child) Childless) (first_of_them w n room ms))

-- what is kept of the parts of a document
document-outlined : (w levels : ℕ) (bytes : List ℕ) (element : Meaning) → 0 < w → Doc bytes element
    → outlined (outlining_begun w levels) (parts_in bytes) ≡ outlining w (record (opened_as no_name (levels + 2)) { children = ChildThen (outline w levels element) Childless }) []
document-outlined w levels bytes element some (root, doc) =
    let base = opened_as no_name (levels + 2) in
    let d = parts-are-of-roots bytes root element doc in
    let k = tree-kept w d.0.root (length d.0.prolog) [] d.0.element (parts_in bytes) d.0.is_element in
    let same : k.says ≡ element = some-is (sym k.means ∙ ap (λ tree. meaning tree []) d.1 ∙ doc.means) in
    ap (outlined (outlining w base [])) (sym (append-nil (parts_in bytes))) ∙ k.keeps base [] []
    ∙ ap (λ x. outlining w x []) (ap (λ m. with_child w m base) same ∙ child-kept w levels element base (some-room 0 w (levels + 2) levels some (omega arith)))

pub outline_read : (w levels : ℕ) (bytes : List ℕ) (before now : OutlineBuilder) → 0 < w → TellsTo outlines (λ b. false) bytes (Ok tt) before now → outlining_of before ≡ outlining_begun w levels
    → IsFound (λ cut. DecidesOutline w levels bytes (Ok cut)) (first_element now.current.children)
outline_read w levels bytes before now some t fresh =
    let r = told-read outlines bytes before now t in
    let state =
    takes-all outlines outlining_of outlined (λ s. refl) (λ a b part more e. ap (λ s. outlined s more) e) before now (parts_in bytes) r.0 ∙ ap (λ s. outlined s (parts_in bytes)) fresh ∙ document-outlined w levels bytes r.1 some r.2 in
    subst (IsFound (λ cut. DecidesOutline w levels bytes (Ok cut))) (sym (ap (λ (s : Outlining). first_element s.current.children) state)) (r.1, decides-read bytes r.1 r.2, refl)

-- ---- what an outline has

pub outline-name : (w levels : ℕ) (element : Meaning) → name_of (outline w levels element) ≡ name_of element
unfolding outline
outline-name w zero element = refl
outline-name w (suc levels) element = refl

elements-again : (children : List Meaning) → elements_in (nodes_of (only_elements children)) ≡ children
elements-again [] = refl
elements-again (child ∷ more) = ap (λ xs. child ∷ xs) (elements-again more)

pub outline-elements : (w levels : ℕ) (element : Meaning) → elements_in (nodes_in (outline w (suc levels) element)) ≡ map (λ child. outline w levels child) (take w (elements_in (nodes_in element)))
unfolding outline
outline-elements w levels element = elements-again (map (λ child. outline w levels child) (take w (elements_in (nodes_in element))))

text-again : (text : List ℕ) → texts_in (nodes_of (and_text Childless text)) ≡ text
text-again [] = refl
text-again (x ∷ text) = simp is-some (append-nil (x ∷ text))

pub outline-text : (w : ℕ) (element : Meaning) → texts_in (nodes_in (outline w 0 element)) ≡ texts_in (nodes_in element)
unfolding outline
outline-text w element = text-again (texts_in (nodes_in element))
