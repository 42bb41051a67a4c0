-- The notes of a name have the SEQs 0, 1, 2 and so on.
use Rattle.std.proofs.Common.{◌≡◌, inl, ◌+◌, ◌≤◌, ℕ, nat_eq, List, [], ◌∷◌, ◌++◌, map, length, refl, sym, ap, ◌∙◌, arith, eqb-true}
use Rattle.std.specs.List.{range_with_len}
use Rattle.std.proofs.lemmas.List.{map-append}
use Rattle.std.proofs.lemmas.List.Elements.{filter-append}
use Rattle.cds_changes.proofs.Numbers.{range-append}
use Rattle.cds_commands.specs.Notes.{Note, next_place_of, sent_by, notes_of, sent_to}
use Rattle.cds_commands.specs.ReleaseLaws.{places_count_from_zero}
use Rattle.cds_commands.proofs.Among.{Among, filter-among, seq-append}
use Rattle.cds_commands.proofs.Sent.{all-fresh}
use Rattle.cds_commands.proofs.Chain.{sent-once}

abbrev seqs : List Note → List ℕ
seqs notes = map (λ (note : Note). note.place) notes

-- at most one note, with a SEQ
one-seq : (seq : ℕ) (notes : List Note) → length notes ≤ 1 → ((note : Note) → Among note notes → note.place ≡ seq) → seqs notes ≡ range_with_len seq (length notes)
one-seq seq [] l is = refl
one-seq seq (note ∷ []) l is = ap (λ (n : ℕ). n ∷ []) (is note (inl refl))
one-seq seq (note ∷ other ∷ notes) l is = let no : ⊥ = omega (arith, l) in absurd no

pub seqs-count : places_count_from_zero
seqs-count first [] name = refl
seqs-count first (command ∷ older) name =
    ap seqs (filter-append (λ (note : Note). nat_eq note.name name) (notes_of first older) new)
    ∙ map-append (λ (note : Note). note.place) (sent_to name (notes_of first older)) (sent_to name new)
    ∙ (λ i. seqs-count first older name i ++ last i)
    ∙ (λ i. range_with_len 0 (next_place_of name (notes_of first older)) ++ range_with_len (here i) (next_place_of name new))
    ∙ sym (range-append 0 (next_place_of name (notes_of first older)) (next_place_of name new))
    ∙ ap (range_with_len 0) (sym (seq-append name (notes_of first older) new))
  where
    new : List Note
    new = sent_by first older (notes_of first older) command

    here : next_place_of name (notes_of first older) ≡ 0 + next_place_of name (notes_of first older)
    here = omega arith

    last : seqs (sent_to name new) ≡ range_with_len (next_place_of name (notes_of first older)) (next_place_of name new)
    last = one-seq (next_place_of name (notes_of first older)) (sent_to name new) (sent-once first older command name) (λ note a.
        let f = filter-among (λ (n : Note). nat_eq n.name name) new note a in
        (all-fresh first older command note f.0).place ∙ ap (λ (n : ℕ). next_place_of n (notes_of first older)) (eqb-true note.name name f.1))
