-- Pieces put one after the other at the end of a text are put there as one.
use Rattle.std.proofs.Common.{◌≡◌, ℕ, List, ◌++◌, append_assoc, ap, ◌∙◌}

pub two : (t0 t1 t2 a b : List ℕ) → t1 ≡ t0 ++ a → t2 ≡ t1 ++ b → t2 ≡ t0 ++ (a ++ b)
two t0 t1 t2 a b e f = f ∙ ap (λ v. v ++ b) e ∙ append_assoc t0 a b

pub three : (t0 t1 t2 t3 a b c : List ℕ) → t1 ≡ t0 ++ a → t2 ≡ t1 ++ b → t3 ≡ t2 ++ c → t3 ≡ t0 ++ (a ++ b ++ c)
three t0 t1 t2 t3 a b c e f g = two t0 t2 t3 (a ++ b) c (two t0 t1 t2 a b e f) g
