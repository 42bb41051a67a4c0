-- The last name is the object's own.
use Rattle.std.proofs.Common.{◌≡◌, ◌∙◌, ap, sym, arith, ℕ, ◌-◌, suc, List, [], ◌∷◌, length, Some}
use Rattle.std.specs.List.{slice_get}
use Rattle.cds_object.specs.Path.{name_of}
use Rattle.cds_object.proofs.path.Path.name.Goals as goal

last_is_name : (p : List (List ℕ)) (name : List ℕ) → Some name ≡ slice_get p (length p - 1) → name ≡ name_of p
last_is_name [] name e = cc
last_is_name (first ∷ []) name e = cc
last_is_name (first ∷ next ∷ names) name e =
    let outer : suc (suc (length names)) - 1 ≡ suc (length names) = omega arith in
    let inner : suc (length names) - 1 ≡ length names = omega arith in
    last_is_name (next ∷ names) name (e ∙ ap (slice_get (first ∷ next ∷ names)) outer ∙ ap (slice_get (next ∷ names)) (sym inner))

pub returns-in-Some : goal.returns-in-Some
returns-in-Some c =
    let all : c.as_slice.result.now ≡ c.args.self.now = c.as_slice.ensures ∙ c.self.view_is in
    c.as_str.ensures ∙ last_is_name c.args.self.now c.in-Some.name.now (rw all at c.in-Some.ensures.value)
