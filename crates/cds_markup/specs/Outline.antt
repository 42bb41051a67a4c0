-- Elements cut back to a few levels, for a caller that looks no deeper.
use Rattle.std.specs.Prelude.{◌≡◌, ℕ, zero, suc, Result, Ok, Err, List, [], ◌∷◌, map, take}
use Rattle.cds_markup.specs.declared.error.MarkupError.{MarkupError}
use Rattle.cds_markup.specs.Document.{Meaning, Meanings, Element, ChildThen, End as Childless}
use Rattle.cds_markup.specs.Building.{and_text}
use Rattle.cds_markup.specs.Children.{name_of, nodes_in, elements_in, texts_in}
use Rattle.cds_markup.specs.Decided.{Decides}

-- Child elements with nothing between them.
abbrev pub only_elements : List Meaning → Meanings
only_elements [] = Childless
only_elements (child ∷ more) = ChildThen child (only_elements more)

-- An element without its attributes, down to this many levels below it. Above the last level an element keeps its first child
-- elements, at most `width` of them, and no text. At the last level it keeps its own text, as one, and no child element.
unfoldable pub outline : ℕ → ℕ → Meaning → Meaning
outline width zero element = Element (name_of element) [] (and_text Childless (texts_in (nodes_in element)))
outline width (suc levels) element =
    Element (name_of element) [] (only_elements (map (λ child. outline width levels child) (take width (elements_in (nodes_in element)))))

-- An answer to bytes: the outline of the element that they are a document of, or the refusal that stands against them.
abbrev pub DecidesOutline : ℕ → ℕ → List ℕ → Result Meaning MarkupError → Type 0
DecidesOutline width levels bytes (Ok cut) = (element : Meaning) × Decides bytes (Ok element) × (cut ≡ outline width levels element)
DecidesOutline width levels bytes (Err e) = Decides bytes (Err e)
