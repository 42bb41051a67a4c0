-- How many bytes stand for an attribute where it is escaped.
use Rattle.std.proofs.Common.{◌≡◌, ℕ, ◌+◌, ◌<◌, ◌≤◌, ◌^◌, List, ◌++◌, codes, refl, arith}
use Rattle.std.specs.Fmt.{decimal}
use Rattle.cds_base.proofs.Wide.{wide, wide-append, wide-decimal}
use Rattle.cds_object.specs.Writing.{attribute, number_attribute}

-- an attribute has 14 bytes round its name and its value
pub wide-attribute : (name value : List ℕ) → wide (attribute name value) ≡ wide name + wide value + 14
unfolding attribute
wide-attribute name value =
    let a = wide-append (((codes " " ++ name) ++ codes "=\"") ++ value) (codes "\"") in
    let b = wide-append ((codes " " ++ name) ++ codes "=\"") value in
    let c = wide-append (codes " " ++ name) (codes "=\"") in
    let d = wide-append (codes " ") name in
    let e : wide (codes " ") ≡ 1 = refl in
    let f : wide (codes "=\"") ≡ 7 = refl in
    let g : wide (codes "\"") ≡ 6 = refl in
    omega (arith, a, b, c, d, e, f, g)

pub wide-number : (name : List ℕ) (n : ℕ) → n < 2 ^ 32 → wide (number_attribute name n) ≤ wide name + 24
unfolding attribute number_attribute
wide-number name n h = let all = wide-attribute name (decimal n) in let short = wide-decimal n h in omega (arith, all, short)
