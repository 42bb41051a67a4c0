-- Texts that are escaped piece by piece.
use Rattle.std.proofs.Common.{◌≡◌, ◌+◌, ◌++◌, ◌≤◌, ℕ, List, take, drop, length, arith, append_assoc, length-append, take-append-drop, ap, ◌∙◌, sym}
use Rattle.cds_base.specs.Escape.{escaped}
use Rattle.cds_base.proofs.Wide.{escaped-append}

-- what a text has in front and behind
pub cut : (text : List ℕ) (n : ℕ) → escaped text ≡ escaped (take n text) ++ escaped (drop n text)
cut text n = ap escaped (sym (take-append-drop n text)) ∙ escaped-append (take n text) (drop n text)

pub length-cut : (text : List ℕ) (n : ℕ) → length (escaped text) ≡ length (escaped (take n text)) + length (escaped (drop n text))
length-cut text n = ap length (cut text n) ∙ length-append (escaped (take n text)) (escaped (drop n text))

-- there is room for all that is left
pub room_left : (before done rest text : List ℕ) (room : ℕ) → done ++ escaped rest ≡ before ++ escaped text → length before + length (escaped text) ≤ room
    → length done + length (escaped rest) ≤ room
room_left before done rest text room same fits =
    let lengths = ap length same in
    omega (arith, lengths, length-append done (escaped rest), length-append before (escaped text), fits)

-- a piece more is done
pub more_done : (done rest all : List ℕ) (n : ℕ) → done ++ escaped rest ≡ all → (done ++ escaped (take n rest)) ++ escaped (drop n rest) ≡ all
more_done done rest all n same =
    append_assoc done (escaped (take n rest)) (escaped (drop n rest)) ∙ ap (λ x. done ++ x) (sym (cut rest n)) ∙ same
