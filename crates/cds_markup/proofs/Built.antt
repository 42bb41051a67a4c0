-- What the parts of an element and of content say from the first to the last: what is built of them, and where children begin.
use Rattle.std.proofs.Common.{◌≡◌, ◌==◌, ℕ, zero, suc, ◌+◌, ◌-◌, ◌≤◌, Bool, true, false, ◌&&◌, Some, None, cond, List, [], ◌∷◌, ◌++◌, length, slice_get, refl, sym, ap, subst, ◌∙◌, arith, append_assoc}
use Rattle.cds_markup.specs.declared.tag.Declaration.{Declaration}
use Rattle.cds_markup.proofs.Terms.{nested, nat_tests, append-nil, length-append, Part, End, Leaf, Grammar-comment, Tree, EmptyElement, Full, Inner, Nothing, LeafThen, TreeThen, is_text, begins_with_text, IsTree, IsContent, IsProlog, IsMisc, Tag, IsTag, IsStartTag, declarations, Meaning, Meanings, Element, TextThen, ChildThen, Childless, joined, leaf_says, meaning, meanings, TreeParts, ContentParts, leaf_parts, some-is, slice_get_within, Frame, State, state, and_text, closed_in, built, and_place, child_starts, root_start, elements_in, nodes_in, trees_in, StandsBehind, ChildStands, TakesAll as Takes, Child, nodes_of, children_then, and_node}
use Rattle.cds_markup.proofs.NodesForm.{is-some, joined-more, joined-none, text-none}
use Rattle.cds_markup.proofs.Standing.{parts-of}
use Rattle.cds_markup.proofs.Ways.{then-of}
use Rattle.cds_markup.proofs.Trails.{tree-is}

-- children behind children
pub children-end : (m : Meanings) → children_then m Childless ≡ m
children-end Childless = refl
children-end (TextThen text m) = ap (TextThen text) (children-end m)
children-end (ChildThen child m) = ap (ChildThen child) (children-end m)

pub children-twice : (m n k : Meanings) → children_then (children_then m n) k ≡ children_then m (children_then n k)
children-twice Childless n k = refl
children-twice (TextThen text m) n k = ap (TextThen text) (children-twice m n k)
children-twice (ChildThen child m) n k = ap (ChildThen child) (children-twice m n k)

text-end : (nodes : Meanings) (text : List ℕ) → and_text nodes text ≡ children_then nodes (joined text Childless)
text-end nodes [] = sym (children-end nodes)
text-end nodes (x ∷ text) = simp is-some

text-child : (nodes : Meanings) (text : List ℕ) (child : Meaning) (m : Meanings) → children_then (and_node (and_text nodes text) (Child child)) m ≡ children_then nodes (joined text (ChildThen child m))
text-child nodes [] child m = children-twice nodes (ChildThen child Childless) m
text-child nodes (x ∷ text) child m = simp (is-some, children-twice)

-- where two elements are open or more, no part is the start of a child
pub no-child : (n at : ℕ) (places : List ℕ) → 2 ≤ n → and_place (cond (n == 1) (Some at) None) places ≡ places
no-child n at places h =
    let no : (n == 1) ≡ false = grind (arith, nat_tests) in
    rw no refl

one-less : (k : ℕ) (rest : List Part) → child_starts (k + 1 - 1) rest ≡ child_starts k rest
one-less k rest = ap (λ n. child_starts n rest) (omega arith)

pub record TreeTold (tree : Tree) (at : ℕ) (scopes : List (List Declaration)) (ps : List Part) : Type 0 where
  pub says : Meaning
  pub means : meaning tree scopes ≡ Some says
  pub makes : (s : State) (rest : List Part) → built s (ps ++ rest) ≡ built (state s.frames (and_node (and_text s.nodes s.text) (Child says)) []) rest
  pub nests : (rest : List Part) (siblings : Meanings) (outer : List Meanings) → nested rest ≡ siblings ∷ outer → nested (ps ++ rest) ≡ ChildThen says siblings ∷ outer
  pub root : root_start ps ≡ Some at
  pub many : length (child_starts 0 ps) ≡ length (elements_in (nodes_in says))
  deep : (k : ℕ) (rest : List Part) → 2 ≤ k → child_starts k (ps ++ rest) ≡ child_starts k rest
  one : (rest : List Part) → child_starts 1 (ps ++ rest) ≡ at ∷ child_starts 1 rest

pub record ContentTold (c : Inner) (scopes : List (List Declaration)) (ps : List Part) : Type 0 where
  pub says : Meanings
  pub means : meanings c scopes ≡ Some says
  makes : (frames : List Frame) (nodes : Meanings) (text : List ℕ) (end : ℕ) (rest : List Part) → built (state frames nodes text) (ps ++ End end ∷ rest) ≡ built (closed_in frames (children_then nodes (joined text says))) rest
  nests : (rest : List Part) (outer : List Meanings) → nested rest ≡ Childless ∷ outer → nested (ps ++ rest) ≡ says ∷ outer
  many : (rest : List Part) → length (child_starts 1 (ps ++ rest)) ≡ length (elements_in (nodes_of says)) + length (child_starts 1 rest)
  deep : (k : ℕ) (rest : List Part) → 2 ≤ k → child_starts k (ps ++ rest) ≡ child_starts k rest

leaf-makes : (leaf : Leaf) (at : ℕ) (frames : List Frame) (nodes : Meanings) (text : List ℕ) (rest : List Part) → built (state frames nodes text) (leaf_parts at leaf ++ rest) ≡ built (state frames nodes (text ++ leaf_says leaf)) rest
leaf-makes Grammar-comment at frames nodes text rest = ap (λ t. built (state frames nodes t) rest) (sym (append-nil text))
leaf-makes other at frames nodes text rest = refl

leaf-nests : (leaf : Leaf) (at : ℕ) (rest : List Part) (children : Meanings) (outer : List Meanings) → nested rest ≡ children ∷ outer → nested (leaf_parts at leaf ++ rest) ≡ joined (leaf_says leaf) children ∷ outer
leaf-nests Grammar-comment at rest children outer e = rw (e, joined-none children) refl
leaf-nests other at rest children outer e = rw e refl

leaf-none : (leaf : Leaf) (at k : ℕ) (rest : List Part) → child_starts k (leaf_parts at leaf ++ rest) ≡ child_starts k rest
leaf-none Grammar-comment at k rest = refl
leaf-none other at k rest = refl

mutual
  pub tree-told : (tree : Tree) (at : ℕ) (scopes : List (List Declaration)) (w : List ℕ) (ps : List Part) → TreeParts tree at scopes w ps → TreeTold tree at scopes ps
  tree-told (EmptyElement t) at scopes w ps (name, attrs, end, is, says, place, p) = record {
    says = Element name attrs Childless;
    means = rw says refl;
    makes = λ s rest. rw p refl;
    nests = λ rest siblings outer e. rw (p, e) refl;
    root = rw p refl;
    many = rw p refl;
    deep = λ k rest two. rw (p, no-child k at (child_starts (k + 1 - 1) rest) two) (one-less k rest);
    one = λ rest. rw p refl;
  }
  tree-told (Full t content) at scopes w ps (name, attrs, end, start, inside, closing, inner, b, is, ends, says, place, others, p) =
      let last : ℕ = at + length start + length inside in
      let c = content-told content (at + length start) (declarations t.attrs ∷ scopes) inside inner others in
      let split = append_assoc inner (End last ∷ []) in
      record {
        says = Element name attrs c.says;
        means = rw (says, c.means) refl;
        makes = λ s rest. rw (p, split rest) (c.makes (record { name = name; attrs = attrs; before = and_text s.nodes s.text } ∷ s.frames) Childless [] last rest ∙ rw (joined-none c.says) refl);
        nests = λ rest siblings outer e. rw (p, split rest, c.nests (End last ∷ rest) (siblings ∷ outer) (rw e refl)) refl;
        root = rw p refl;
        many = rw p (c.many (End last ∷ []) ∙ omega arith);
        deep = λ k rest two. rw (p, split rest, no-child k at (child_starts (k + 1) (inner ++ End last ∷ rest)) two) (c.deep (k + 1) (End last ∷ rest) (omega arith) ∙ one-less k rest);
        one = λ rest. rw (p, split rest) (ap (λ xs. at ∷ xs) (c.deep 2 (End last ∷ rest) (omega arith)));
      }

  pub content-told : (c : Inner) (at : ℕ) (scopes : List (List Declaration)) (w : List ℕ) (ps : List Part) → ContentParts c at scopes w ps → ContentTold c scopes ps
  content-told Nothing at scopes w ps (b, p) = record {
    says = Childless;
    means = refl;
    makes = λ frames nodes text end rest. rw p (ap (λ ms. built (closed_in frames ms) rest) (text-end nodes text));
    nests = λ rest outer e. rw p e;
    many = λ rest. rw p (omega arith);
    deep = λ k rest two. rw p refl;
  }
  content-told (LeafThen leaf more) at scopes w ps (front, back, behind, b, g, lone, others, p) =
      let m = content-told more (at + length front) scopes back behind others in
      let text = leaf_says leaf in
      let split = append_assoc (leaf_parts at leaf) behind in
      record {
        says = joined text m.says;
        means = rw m.means refl;
        makes = λ frames nodes so_far end rest. rw (p, split (End end ∷ rest)) (leaf-makes leaf at frames nodes so_far (behind ++ End end ∷ rest) ∙ m.makes frames nodes (so_far ++ text) end rest ∙ rw (joined-more so_far text m.says) refl);
        nests = λ rest outer e. rw (p, split rest) (leaf-nests leaf at (behind ++ rest) m.says outer (m.nests rest outer e));
        many = λ rest. rw (p, split rest, leaf-none leaf at 1 (behind ++ rest), text-none text m.says) (m.many rest);
        deep = λ k rest two. rw (p, split rest) (leaf-none leaf at k (behind ++ rest) ∙ m.deep k rest two);
      }
  content-told (TreeThen tree more) at scopes w ps (front, back, first, behind, b, g, others, p) =
      let t = tree-told tree at scopes front first g in
      let m = content-told more (at + length front) scopes back behind others in
      let split = append_assoc first behind in
      record {
        says = ChildThen t.says m.says;
        means = rw (t.means, m.means) refl;
        makes = λ frames nodes text end rest.
            rw (p, split (End end ∷ rest)) (t.makes (state frames nodes text) (behind ++ End end ∷ rest) ∙ m.makes frames (and_node (and_text nodes text) (Child t.says)) [] end rest
            ∙ rw (joined-none m.says, text-child nodes text t.says m.says) refl);
        nests = λ rest outer e. rw (p, split rest) (t.nests (behind ++ rest) m.says outer (m.nests rest outer e));
        many = λ rest. rw (p, split rest, t.one (behind ++ rest)) (omega (arith, m.many rest));
        deep = λ k rest two. rw (p, split rest) (t.deep k (behind ++ rest) two ∙ m.deep k rest two);
      }

-- nothing stands before the root and behind it
pub no-misc : IsMisc [] tt
no-misc = then-of [] [] [] refl refl (refl, refl)

pub no-prolog : IsProlog [] tt
no-prolog = then-of [] [] None refl refl (then-of [] [] None refl refl no-misc)

-- what stands somewhere begins with its sign
pub start-parts : (w : List ℕ) (t : Tag) → IsStartTag w t → (u : List ℕ) × (w ≡ 60 ∷ (u ++ 62 ∷ [])) × IsTag u t
start-parts w t g = let p = parts-of (62 ∷ []) w t g in (p.inside, p.spelled, p.is)

pub tree-first : (tree : Tree) (w : List ℕ) → IsTree tree w → (v : List ℕ) × (w ≡ 60 ∷ v)
tree-first (EmptyElement t) w g = let b = parts-of (47 ∷ 62 ∷ []) w t g in (b.inside ++ 47 ∷ 62 ∷ [], b.spelled)
tree-first (Full t content) w (start, inside, closing, e, is, others, ends) =
    let b = start-parts start t is in ((b.0 ++ 62 ∷ []) ++ (inside ++ closing), e ∙ ap (λ xs. xs ++ (inside ++ closing)) b.1)

abbrev pub stands-there : (bytes before w rest : List ℕ) (tree : Tree) (at : ℕ) → bytes ≡ before ++ (w ++ rest) → IsTree tree w → at ≡ length before → StandsBehind bytes before tree at
stands-there bytes before w rest tree at e is place =
    let first = tree-first tree w is in
    record { after_sign = first.0; rest = rest; spelled = subst (λ (xs : List ℕ). bytes ≡ before ++ (xs ++ rest)) first.1 e; is_tree = subst (IsTree tree) first.1 is; place = place }

still-apart : (t u v : Bool) → (t && u) ≡ false → (u ≡ false → v ≡ false) → (t && v) ≡ false
still-apart false u v h f = refl
still-apart true u v h f = f h

module _ (bytes prolog start : List ℕ) (root : Tag) (element : Meaning) (is_prolog : IsProlog prolog tt) (is_start : IsStartTag start root) where
  -- a child of the root is found in what is left of its content, behind what stood before
  child-found : (c : Inner) (w : List ℕ) (at : ℕ) (ps rest : List Part) → ContentParts c at (declarations root.attrs ∷ []) w ps → child_starts 1 rest ≡ []
      → (before behind : List ℕ) → bytes ≡ (prolog ++ (start ++ before)) ++ (w ++ behind) → at ≡ length (prolog ++ (start ++ before))
      → (ahead : Inner → Inner) (count : ℕ) → ((x : Inner) (v : List ℕ) → IsContent x v → (begins_with_text c ≡ false → begins_with_text x ≡ false) → IsContent (ahead x) (before ++ v) × (trees_in (ahead x) ≡ trees_in x + count))
      → ((j : ℕ) (m : Meanings) → meanings c (declarations root.attrs ∷ []) ≡ Some m → slice_get (elements_in (nodes_of m)) j ≡ slice_get (elements_in (nodes_in element)) (j + count))
      → (number k place : ℕ) → number ≡ k + count → slice_get (child_starts 1 (ps ++ rest)) k ≡ Some place → ChildStands bytes element number place
  child-found Nothing w at ps rest (b, p) none before behind spelled here ahead count prior among number k place is e = absurd (omega (arith, slice_get_within [] k place (rw (p, none) at e)))
  child-found (LeafThen leaf more) w at ps rest (front, back, later, b, g, lone, others, p) none before behind spelled here ahead count prior among number k place is e =
      child-found more back (at + length front) later rest others none (before ++ front) behind (rw (spelled, b) (simp append_assoc)) (omega (arith, here, length-append {A = ℕ}))
      (λ x. ahead (LeafThen leaf x)) count
      (λ x v ix begins. rw (append_assoc before front v) (prior (LeafThen leaf x) (front ++ v) (front, v, refl, g, ix, still-apart (is_text leaf) (begins_with_text more) (begins_with_text x) lone begins) (λ h. h)))
      (λ j m f. rw (← (text-none (leaf_says leaf) m)) (among j (joined (leaf_says leaf) m) (rw f refl)))
      number k place is (rw (p, append_assoc (leaf_parts at leaf) later rest, leaf-none leaf at 1 (later ++ rest)) at e)
  child-found (TreeThen tree more) w at ps rest (front, back, first, later, b, g, others, p) none before behind spelled here ahead count prior among number zero place is e =
      let scopes = declarations root.attrs ∷ [] in
      let t = tree-told tree at scopes front first g in
      let m = content-told more (at + length front) scopes back later others in
      let o = prior Nothing [] refl (λ h. refl) in
      let same : at ≡ place = some-is (rw (p, append_assoc first later rest, t.one (later ++ rest)) at e) in
      record {
        root = root;
        child = tree;
        before = prolog ++ (start ++ before);
        says = t.says;
        stands = stands-there bytes (prolog ++ (start ++ before)) front (back ++ behind) tree place (rw (spelled, b) (simp append_assoc)) (tree-is tree at scopes front first g) (sym same ∙ here);
        opens = (prolog, start, before, ahead Nothing, refl, is_prolog, is_start, rw (append-nil before) at o.0);
        so_many = omega (arith, o.1, is);
        means = t.means;
        among = rw is (sym (among zero (ChildThen t.says m.says) (rw (t.means, m.means) refl)));
      }
  child-found (TreeThen tree more) w at ps rest (front, back, first, later, b, g, others, p) none before behind spelled here ahead count prior among number (suc k) place is e =
      let scopes = declarations root.attrs ∷ [] in
      let t = tree-told tree at scopes front first g in
      child-found more back (at + length front) later rest others none (before ++ front) behind (rw (spelled, b) (simp append_assoc)) (omega (arith, here, length-append {A = ℕ}))
      (λ x. ahead (TreeThen tree x)) (count + 1)
      (λ x v ix begins. let o = prior (TreeThen tree x) (front ++ v) (front, v, refl, tree-is tree at scopes front first g, ix) (λ h. refl) in (rw (append_assoc before front v) o.0, omega (arith, o.1)))
      (λ j m f. among (suc j) (ChildThen t.says m) (rw (t.means, f) refl) ∙ ap (slice_get (elements_in (nodes_in element))) (omega arith))
      number k place (omega (arith, is)) (rw (p, append_assoc first later rest, t.one (later ++ rest)) at e)

pub child-in : (bytes prolog w epilog : List ℕ) (tree : Tree) (ps : List Part) (number place : ℕ) (element : Meaning) → TreeParts tree (length prolog) [] w ps → IsProlog prolog tt
    → bytes ≡ prolog ++ (w ++ epilog) → meaning tree [] ≡ Some element → slice_get (child_starts 0 ps) number ≡ Some place → ChildStands bytes element number place
child-in bytes prolog w epilog (EmptyElement t) ps number place element (name, attrs, end, is, says, place_is, p) is_prolog e m s = absurd (omega (arith, slice_get_within [] number place (rw p at s)))
child-in bytes prolog w epilog (Full t content) ps number place element (name, attrs, end, start, inside, closing, inner, b, is, ends, says, place_is, others, p) is_prolog e m s =
    child-found bytes prolog start t element is_prolog is content inside (length prolog + length start) inner (End (length prolog + length start + length inside) ∷ []) others refl [] (closing ++ epilog)
    (rw (e, b) (simp append_assoc)) (omega (arith, length-append prolog (start ++ []), length-append start [])) (λ x. x) 0 (λ x v ix begins. (ix, omega arith))
    (λ j ms f. let same : Element name attrs ms ≡ element = some-is (rw (says, f) at m) in rw (← same) (ap (slice_get (elements_in (nodes_of ms))) (omega arith))) number number place (omega arith) (rw p at s)

-- what is taken of parts is all of them
pub takes-all : {S T : Type 0} (took : S → Part → S → Type 0) (seen : S → T) (all : T → List Part → T) → ((t : T) → all t [] ≡ t) → ((a b : S) (part : Part) (more : List Part) → took a part b → all (seen b) more ≡ all (seen a) (part ∷ more))
    → (before now : S) (parts : List Part) → Takes took (λ s. false) before parts now → seen now ≡ all (seen before) parts
takes-all took seen all none one before now [] e = ap seen e ∙ sym (none (seen before))
takes-all took seen all none one before now (part ∷ more) (mid, first, rest) = takes-all took seen all none one mid now more rest ∙ one before mid part more first
