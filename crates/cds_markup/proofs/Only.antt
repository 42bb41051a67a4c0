-- The one of what must come once, with what was found before.
use Rattle.std.proofs.Common.{List, [], ◌∷◌, Option, Some, None, ◌≡◌, ◌++◌, refl, sym, ap, append_assoc}
use Rattle.cds_markup.proofs.Terms.{Attr, and_more}

abbrev pub only_behind : {X : Type 0} → Option X → List X → Option X
only_behind found [] = found
only_behind None (x ∷ more) = only_behind (Some x) more
only_behind (Some first) (x ∷ more) = None

-- the attributes so far, and those that are left
abbrev pub named_behind : List Attr → Option (List Attr) → Option (List Attr)
named_behind found None = None
named_behind found (Some more) = Some (found ++ more)

pub named-more : (found : List Attr) (attr : Attr) (more : Option (List Attr)) → named_behind found (and_more (Some attr) more) ≡ named_behind (found ++ attr ∷ []) more
named-more found attr None = refl
named-more found attr (Some more) = ap Some (sym (append_assoc found (attr ∷ []) more))
