-- Elements as lists of marks. A mark is an opening with its name and attributes, a text, or a closing. A proof tells elements
-- apart by these.
use Rattle.std.specs.Prelude.{◌≡◌, ◌⊎◌, ℕ, List, [], ◌∷◌, refl}
use Rattle.std.specs.Coded.{Coded, code_by, coded×, coded⊎, coded_list, coded_ℕ}
use base.Stored.{coded_unit}
use mathlib.Core.Logic.{inl, inr}
use Rattle.std.proofs.Common.{ap, ◌∙◌}
use Rattle.cds_markup.specs.declared.name.Name.{Name}
use Rattle.cds_markup.specs.declared.name.Attr.{Attr}
use Rattle.cds_markup.specs.Document.{Meaning, Meanings, Element, End, TextThen, ChildThen}

abbrev pub Pair : Type 0
Pair = List ℕ × List ℕ

abbrev pub Mark : Type 0
Mark = (Pair × List (Pair × List ℕ)) ⊎ (List ℕ ⊎ Unit {0})

abbrev pub mark_code : Coded Mark
mark_code =
    coded⊎ (coded× (coded× (coded_list coded_ℕ) (coded_list coded_ℕ)) (coded_list (coded× (coded× (coded_list coded_ℕ) (coded_list coded_ℕ)) (coded_list coded_ℕ)))) (coded⊎ (coded_list coded_ℕ) coded_unit)

abbrev pub pair_of : Name → Pair
pair_of name = (name.space, name.local)

abbrev pub name_of : Pair → Name
name_of p = record { space = p.0; local = p.1 }

abbrev pub marked : List Attr → List (Pair × List ℕ)
marked [] = []
marked (a ∷ more) = (pair_of a.name, a.value) ∷ marked more

abbrev pub attrs_of : List (Pair × List ℕ) → List Attr
attrs_of [] = []
attrs_of (p ∷ more) = record { name = name_of p.0; value = p.1 } ∷ attrs_of more

pub attrs-marked : (attrs : List Attr) → attrs_of (marked attrs) ≡ attrs
attrs-marked [] = refl
attrs-marked (a ∷ more) = ap (λ xs. a ∷ xs) (attrs-marked more)

abbrev mutual
  pub marks : Meanings → List Mark → List Mark
  marks End rest = rest
  marks (TextThen text more) rest = inr (inl text) ∷ marks more rest
  marks (ChildThen child more) rest = marks_one child (inr (inr tt) ∷ marks more rest)

  pub marks_one : Meaning → List Mark → List Mark
  marks_one (Element name attrs children) rest = inl (pair_of name, marked attrs) ∷ marks children rest

abbrev pub read_mark : Mark → List Meanings → List Meanings
read_mark (inr (inl text)) [] = []
read_mark (inr (inl text)) (children ∷ outer) = TextThen text children ∷ outer
read_mark (inr (inr closing)) outer = End ∷ outer
read_mark (inl opening) [] = []
read_mark (inl opening) (children ∷ []) = []
read_mark (inl opening) (children ∷ siblings ∷ outer) = ChildThen (Element (name_of opening.0) (attrs_of opening.1) children) siblings ∷ outer

abbrev pub unmarked : List Mark → List Meanings
unmarked [] = End ∷ []
unmarked (mark ∷ rest) = read_mark mark (unmarked rest)

mutual
  pub marks-read : (m : Meanings) (rest : List Mark) (outer : List Meanings) → unmarked rest ≡ End ∷ outer → unmarked (marks m rest) ≡ m ∷ outer
  marks-read End rest outer e = e
  marks-read (TextThen text more) rest outer e = ap (read_mark (inr (inl text))) (marks-read more rest outer e)
  marks-read (ChildThen child more) rest outer e =
      marks-one child (inr (inr tt) ∷ marks more rest) more outer (ap (read_mark (inr (inr tt))) (marks-read more rest outer e))

  pub marks-one : (m : Meaning) (rest : List Mark) (siblings : Meanings) (outer : List Meanings) → unmarked rest ≡ End ∷ siblings ∷ outer → unmarked (marks_one m rest) ≡ ChildThen m siblings ∷ outer
  marks-one (Element name attrs children) rest siblings outer e =
      ap (read_mark (inl (pair_of name, marked attrs))) (marks-read children rest (siblings ∷ outer) e)
      ∙ ap (λ xs. ChildThen (Element name xs children) siblings ∷ outer) (attrs-marked attrs)

abbrev pub innermost : List Meanings → Meanings
innermost [] = End
innermost (children ∷ outer) = children

abbrev pub first_child : Meanings → Meaning
first_child End = Element (record { space = []; local = [] }) [] End
first_child (TextThen text more) = Element (record { space = []; local = [] }) [] End
first_child (ChildThen child more) = child

abbrev pub meanings_code : Coded Meanings
meanings_code =
    code_by (List Mark) (coded_list mark_code) (λ m. marks m []) (λ marks. innermost (unmarked marks)) (λ m. ap innermost (marks-read m [] [] refl))

abbrev pub meaning_code : Coded Meaning
meaning_code =
    code_by (List Mark) (coded_list mark_code) (λ m. marks (ChildThen m End) []) (λ marks. first_child (innermost (unmarked marks))) (λ m. ap (λ xs. first_child (innermost xs)) (marks-read (ChildThen m End) [] [] refl))
