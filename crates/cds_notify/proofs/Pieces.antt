-- Pieces put at the end one after the other.
use Rattle.std.proofs.Common.{◌≡◌, ℕ, ◌+◌, ◌*◌, List, ◌++◌, length, codes, ap, ◌∙◌, append_assoc, length-append, arith}
use Rattle.cds_notify.specs.Propertyset.{named, property}

pub two : (o a b x y : List ℕ) → x ≡ o ++ a → y ≡ x ++ b → y ≡ o ++ (a ++ b)
two o a b x y e f = f ∙ ap (λ t. t ++ b) e ∙ append_assoc o a b

pub three : (o a b c x y z : List ℕ) → x ≡ o ++ a → y ≡ x ++ b → z ≡ y ++ c → z ≡ o ++ (a ++ (b ++ c))
three o a b c x y z e f g = two o a (b ++ c) x z e (two x b c y z f g)

-- behind nothing
pub five : (a b c d f v w x y z : List ℕ) → v ≡ a → w ≡ v ++ b → x ≡ w ++ c → y ≡ x ++ d → z ≡ y ++ f → z ≡ ((((a ++ b) ++ c) ++ d) ++ f)
five a b c d f v w x y z ea eb ec ed ef =
    ef ∙ ap (λ t. t ++ f) (ed ∙ ap (λ t. t ++ d) (ec ∙ ap (λ t. t ++ c) (eb ∙ ap (λ t. t ++ b) ea)))

-- a property has 31 bytes round its text and twice its name
long-named : (name text : List ℕ) → length (named name text) ≡ length text + 2 * length name + 3
unfolding named
long-named name text =
    let c = length-append (((name ++ codes ">") ++ text) ++ codes "</") name in
    let d = length-append ((name ++ codes ">") ++ text) (codes "</") in
    let e = length-append (name ++ codes ">") text in
    let f = length-append name (codes ">") in
    omega (arith, c, d, e, f)

pub long-property : (name text : List ℕ) → length (property name text) ≡ length text + 2 * length name + 30
unfolding property
long-property name text =
    let a = length-append (named name text) (codes "></e:property>") in
    let b = long-named name text in
    omega (arith, a, b)
