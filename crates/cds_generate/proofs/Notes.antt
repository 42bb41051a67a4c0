-- What becomes of a note, by its kind.
use Rattle.std.proofs.Common.{◌≡◌, ◌≢◌, ◌+◌, ◌++◌, ℕ, List, [], Bool, true, false, cond, nat_eq, codes, sym, arith}
use Rattle.std.proofs.lemmas.Bool.Decides.{nat_tests}
use Rattle.cds_generate.specs.Generated.{deliver_line, reads_text, note_text}

module _ (reads kind note : ℕ) where
  abbrev renewed : List ℕ
  renewed = codes "unsubscribe\nsubscribe\naccept\n" ++ deliver_line (note + 1) ++ reads_text reads

  abbrev twice : List ℕ
  twice = deliver_line note ++ deliver_line note

  abbrev by_tests : Bool → Bool → Bool → List ℕ
  by_tests a b d = cond a renewed (cond b twice (cond d [] (deliver_line note)))

  pub note-renewed : kind ≡ 0 → renewed ≡ note_text reads kind note
  note-renewed is =
      let one : nat_eq kind 0 ≡ true = grind (arith, nat_tests) in
      sym (λ i. by_tests (one i) (nat_eq kind 1) (nat_eq kind 2))

  pub note-twice : kind ≡ 1 → twice ≡ note_text reads kind note
  note-twice is =
      let one : nat_eq kind 0 ≡ false = grind (arith, nat_tests) in
      let two : nat_eq kind 1 ≡ true = grind (arith, nat_tests) in
      sym (λ i. by_tests (one i) (two i) (nat_eq kind 2))

  pub note-late : kind ≡ 2 → [] ≡ note_text reads kind note
  note-late is =
      let one : nat_eq kind 0 ≡ false = grind (arith, nat_tests) in
      let two : nat_eq kind 1 ≡ false = grind (arith, nat_tests) in
      let three : nat_eq kind 2 ≡ true = grind (arith, nat_tests) in
      sym (λ i. by_tests (one i) (two i) (three i))

  pub note-once : kind ≢ 0 → kind ≢ 1 → kind ≢ 2 → deliver_line note ≡ note_text reads kind note
  note-once not-0 not-1 not-2 =
      let one : nat_eq kind 0 ≡ false = grind (arith, nat_tests) in
      let two : nat_eq kind 1 ≡ false = grind (arith, nat_tests) in
      let three : nat_eq kind 2 ≡ false = grind (arith, nat_tests) in
      sym (λ i. by_tests (one i) (two i) (three i))
