-- How much there is in an element: more than in each that it has.
use Rattle.std.specs.Prelude.{ℕ, suc, ◌+◌}
use Rattle.cds_markup.specs.Document.{Meaning, Meanings, Element, End, TextThen, ChildThen}

abbrev mutual
  pub weight : Meanings → ℕ
  weight End = 0
  weight (TextThen text more) = weight more
  weight (ChildThen child more) = suc (weight_one child) + weight more

  pub weight_one : Meaning → ℕ
  weight_one (Element name attrs children) = suc (weight children)
