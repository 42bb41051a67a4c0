-- What elements mean, in the form that the calls have them.
use Rattle.std.specs.Prelude.{List, [], ◌∷◌}
use Rattle.cds_markup.specs.declared.element.Node.{Node}
use Rattle.cds_markup.specs.declared.element.Node.TheVariants.{Text, Child}
use Rattle.cds_markup.specs.Document.{Meanings, End, TextThen, ChildThen}

-- Children before further ones.
abbrev pub nodes_then : List Node → Meanings → Meanings
nodes_then [] more = more
nodes_then (Text text ∷ nodes) more = TextThen text (nodes_then nodes more)
nodes_then (Child child ∷ nodes) more = ChildThen child (nodes_then nodes more)

abbrev pub meanings_of : List Node → Meanings
meanings_of nodes = nodes_then nodes End

abbrev pub children_then : Meanings → Meanings → Meanings
children_then End more = more
children_then (TextThen text children) more = TextThen text (children_then children more)
children_then (ChildThen child children) more = ChildThen child (children_then children more)

-- Children with one more after them.
abbrev pub and_node : Meanings → Node → Meanings
and_node children node = children_then children (meanings_of (node ∷ []))

-- Children as a list.
abbrev pub nodes_of : Meanings → List Node
nodes_of End = []
nodes_of (TextThen text more) = Text text ∷ nodes_of more
nodes_of (ChildThen child more) = Child child ∷ nodes_of more
