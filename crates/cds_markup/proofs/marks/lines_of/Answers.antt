-- One more character adds what it says behind those before it.
use Rattle.std.proofs.Common.{◌≡◌, List, ℕ, [], ◌∷◌, ◌++◌, encode_utf8, refl, ap, ◌∙◌}
use Rattle.cds_markup.proofs.Terms.{append-nil, encodes-append, encode_utf8_all}
use Rattle.cds_markup.proofs.ScanForms.{line_more, ends_more}
use Rattle.cds_markup.proofs.marks.lines_of.Goals as goal

pub loop-c-preserved : goal.loop-c-preserved
loop-c-preserved c =
    let front : List ℕ = encode_utf8_all c.loop-c.yielded in
    let d = c.in-Some.c in
    let all : encode_utf8_all (c.loop-c.yielded ++ d ∷ []) ≡ front ++ encode_utf8 d = encodes-append c.loop-c.yielded (d ∷ []) ∙ ap (λ xs. front ++ xs) (append-nil (encode_utf8 d)) in
    record { said = rw (c.in_ok-push_line.ensures, c.loop-c.invariant.said, c.loop-c.invariant.behind, all, line_more front d) refl; behind = rw (all, ends_more front d) refl }
