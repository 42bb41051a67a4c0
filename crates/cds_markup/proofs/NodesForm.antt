-- Children: texts side by side among them are one, one more stands behind them, and they are a list.
use Rattle.std.proofs.Common.{◌≡◌, ℕ, zero, suc, ◌<◌, false, List, [], ◌∷◌, ◌++◌, length, get_or, Option, Some, None, refl, sym, ap, ◌∙◌, arith, append_assoc, append-nil}
use Rattle.cds_markup.proofs.Terms.{nat_tests, is_empty, Meaning, Meanings, Childless as End, TextThen, ChildThen, joined, and_joined, elements_in, meanings_of, and_node, nodes_of}
use Rattle.cds_markup.specs.declared.element.Node.{Node}
use Rattle.cds_markup.specs.declared.element.Node.TheVariants.{Text, Child}
use Rattle.cds_markup.specs.Weight.{weight, weight_one}

pub nodes_push : (nodes : List Node) (node : Node) → meanings_of (nodes ++ node ∷ []) ≡ and_node (meanings_of nodes) node
nodes_push [] node = refl
nodes_push (Text text ∷ nodes) node = ap (TextThen text) (nodes_push nodes node)
nodes_push (Child child ∷ nodes) node = ap (ChildThen child) (nodes_push nodes node)

pub nodes_again : (nodes : List Node) → nodes_of (meanings_of nodes) ≡ nodes
nodes_again [] = refl
nodes_again (Text text ∷ more) = ap (λ xs. Text text ∷ xs) (nodes_again more)
nodes_again (Child child ∷ more) = ap (λ xs. Child child ∷ xs) (nodes_again more)

pub children_again : (children : Meanings) → meanings_of (nodes_of children) ≡ children
children_again End = refl
children_again (TextThen text more) = ap (TextThen text) (children_again more)
children_again (ChildThen child more) = ap (ChildThen child) (children_again more)

-- an element among children has less in it than they have
child-falls : (children : Meanings) (i : ℕ) (d : Node) (child : Meaning) → i < length (nodes_of children) → get_or (nodes_of children) i d ≡ Child child → weight_one child < weight children
child-falls End i d child inside is = absurd (omega arith)
child-falls (TextThen text more) zero d child inside is = absurd (cc)
child-falls (TextThen text more) (suc i) d child inside is = child-falls more i d child (omega arith) is
child-falls (ChildThen first more) zero d child inside is = let same : first ≡ child = cc in omega (arith, ap weight_one same)
child-falls (ChildThen first more) (suc i) d child inside is = omega (arith, child-falls more i d child (omega arith) is)

pub child_of : (nodes : List Node) (children : Meanings) (i : ℕ) (d : Node) (child : Meaning) → nodes ≡ nodes_of children → i < length nodes → d ≡ get_or nodes i d → d ≡ Child child → weight_one child < weight children
child_of nodes children i d child list inside item is = child-falls children i d child (rw list at inside) (rw list at (sym item ∙ is))

-- texts
pub is-some : (x : ℕ) (xs : List ℕ) → is_empty (x ∷ xs) ≡ false
is-some x xs = grind (arith, nat_tests)

pub joined-none : (ms : Meanings) → joined [] ms ≡ ms
joined-none End = refl
joined-none (TextThen text ms) = refl
joined-none (ChildThen child ms) = refl

pub joined-more : (a b : List ℕ) (ms : Meanings) → joined a (joined b ms) ≡ joined (a ++ b) ms
joined-more a b (TextThen text ms) = ap (λ t. TextThen t ms) (sym (append_assoc a b text))
joined-more [] b other = joined-none (joined b other)
joined-more (x ∷ a) [] other = ap (joined (x ∷ a)) (joined-none other) ∙ ap (λ t. joined t other) (sym (append-nil (x ∷ a)))
joined-more (x ∷ a) (y ∷ b) End = simp is-some
joined-more (x ∷ a) (y ∷ b) (ChildThen child ms) = simp is-some

pub and-joined-none : (more : Option Meanings) → and_joined [] more ≡ more
and-joined-none None = refl
and-joined-none (Some ms) = ap Some (joined-none ms)

pub and-joined-more : (a b : List ℕ) (more : Option Meanings) → and_joined a (and_joined b more) ≡ and_joined (a ++ b) more
and-joined-more a b None = refl
and-joined-more a b (Some ms) = ap Some (joined-more a b ms)

-- a text is no element
pub text-none : (text : List ℕ) (ms : Meanings) → elements_in (nodes_of (joined text ms)) ≡ elements_in (nodes_of ms)
text-none text (TextThen more ms) = refl
text-none [] other = ap (λ ms. elements_in (nodes_of ms)) (joined-none other)
text-none (x ∷ text) End = simp is-some
text-none (x ∷ text) (ChildThen child ms) = simp is-some
