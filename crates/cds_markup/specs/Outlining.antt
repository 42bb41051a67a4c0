-- How an outline is put together from parts, from the first to the last. What stands around the root is kept as an element that is
-- open, too.
use Rattle.std.specs.Prelude.{◌≡◌, ◌==◌, ◌+◌, ◌-◌, ℕ, nat_lt, if◌then◌else◌, List, [], ◌∷◌, ◌++◌, length}
use Rattle.cds_markup.specs.declared.element.Node.TheVariants.{Child}
use Rattle.cds_markup.specs.declared.name.Name.{Name}
use Rattle.cds_markup.specs.declared.outline.OpenElement.{OpenElement}
use Rattle.cds_markup.specs.declared.outline.OutlineBuilder.{OutlineBuilder}
use Rattle.cds_markup.specs.declared.part.Part.{Part}
use Rattle.cds_markup.specs.declared.part.Part.TheVariants.{Start, End, Run}
use Rattle.cds_markup.specs.Document.{Meaning, Element, End as Childless}
use Rattle.cds_markup.specs.Elements.{and_node, nodes_of}
use Rattle.cds_markup.specs.Building.{and_text}

-- ---- one open element

abbrev pub opened_as : Name → ℕ → OpenElement
opened_as name levels = record { name = name; levels = levels; children = Childless; text = [] }

-- How many levels of its next child element are kept.
abbrev pub inner_levels : ℕ → OpenElement → ℕ
inner_levels width o = if nat_lt (length (nodes_of o.children)) width then o.levels - 1 else 0

-- A run of text in it, and the end of an element inside it.
abbrev pub with_run : List ℕ → OpenElement → OpenElement
with_run text o = record o { text = if o.levels == 1 then o.text ++ text else o.text }

abbrev pub cut_of : OpenElement → Meaning
cut_of o = Element o.name [] (and_text o.children o.text)

abbrev pub with_inner : OpenElement → OpenElement → OpenElement
with_inner inner o = record o { children = if inner.levels == 0 then o.children else and_node o.children (Child (cut_of inner)) }

-- ---- all of them

pub record Outlining : Type 0 where
  pub width : ℕ
  pub current : OpenElement
  pub around : List OpenElement

abbrev pub outlining : ℕ → OpenElement → List OpenElement → Outlining
outlining width current around = record { width = width; current = current; around = around }

abbrev pub outlining_of : OutlineBuilder → Outlining
outlining_of b = outlining b.width b.current b.around.items

-- Before the first part. One level more than those of the root is kept of what stands around it.
abbrev pub no_name : Name
no_name = record { space = []; local = [] }

abbrev pub outlining_begun : ℕ → ℕ → Outlining
outlining_begun width levels = outlining width (opened_as no_name (levels + 2)) []

-- What a start tag, the end of an element, and a run of text make of it.
abbrev pub opened : Name → Outlining → Outlining
opened name s = outlining s.width (opened_as name (inner_levels s.width s.current)) (s.current ∷ s.around)

abbrev pub closed_in : ℕ → OpenElement → List OpenElement → Outlining
closed_in width current [] = outlining width current []
closed_in width current (outer ∷ around) = outlining width (with_inner current outer) around

abbrev pub closed : Outlining → Outlining
closed s = closed_in s.width s.current s.around

abbrev pub and_run : List ℕ → Outlining → Outlining
and_run text s = outlining s.width (with_run text s.current) s.around

abbrev pub and_part : Outlining → Part → Outlining
and_part s (Start at end name attrs) = opened name s
and_part s (End at) = closed s
and_part s (Run at non_blank text) = and_run text s

abbrev pub outlined : Outlining → List Part → Outlining
outlined s [] = s
outlined s (part ∷ more) = outlined (and_part s part) more

-- A builder takes the next part.
abbrev pub outlines : OutlineBuilder → Part → OutlineBuilder → Type 0
outlines before part now = outlining_of now ≡ and_part (outlining_of before) part
