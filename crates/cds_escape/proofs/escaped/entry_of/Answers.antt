-- The table is held against the definition at each of the 256 bytes, by computing.
use Rattle.std.proofs.Common.{◌≡◌, ◌-◌, ◌*◌, ◌<◌, ◌≤◌, ℕ, Bool, true, ◌&&◌, List, take, drop, length, get_or, leb, refl, sym, subst, arith, length-drop, take_all}
use Rattle.std.specs.Str.{bytes_eq}
use Rattle.std.proofs.lemmas.Bool.{agree_below_at, leb-true}
use Rattle.std.proofs.lemmas.Slice.Eq.{bytes_eq-Decides}
use Rattle.cds_base.specs.Escape.{escaped_byte}
use Rattle.cds_base.proofs.Plain.{and-first, and-second}
use Rattle.cds_escape.specs.declared.escaped.TheConstants.{ENTRIES}
use Rattle.cds_escape.proofs.escaped.entry_of.Goals as goal

abbrev size : List ℕ → ℕ
size entry = get_or entry 7 0

-- whether an entry has what stands for a byte
abbrev says : ℕ → List ℕ → Bool
says b entry = leb (size entry) 6 && bytes_eq (take (size entry) entry) (escaped_byte b)

at_byte : (b : ℕ) → b < 256 → says b (drop (8 * b) ENTRIES) ≡ true
at_byte b low = agree_below_at (λ n. says n (drop (8 * n) ENTRIES)) (λ _. true) 256 b refl low

record Entry (b : ℕ) (entry : List ℕ) : Type 0 where
  long : 8 ≤ length entry
  bytes : take (size entry) entry ≡ escaped_byte b
  most : size entry ≤ 6

entry_at : (b : ℕ) → b < 256 → Entry b (drop (8 * b) ENTRIES)
entry_at b low =
    let entry = drop (8 * b) ENTRIES in
    let all : length entry ≡ 2048 - 8 * b = length-drop (8 * b) ENTRIES in
    record {
      long = omega (arith, all);
      bytes = (bytes_eq-Decides (take (size entry) entry) (escaped_byte b)).0 (and-second (leb (size entry) 6) _ (at_byte b low));
      most = leb-true (size entry) 6 (and-first (leb (size entry) 6) _ (at_byte b low));
    }

cut_at : (b n : ℕ) → n ≡ b → b < 256 → Entry b (take (2048 - 8 * n) (drop (8 * n) ENTRIES))
cut_at b n same low =
    let all : length (drop (8 * b) ENTRIES) ≡ 2048 - 8 * b = length-drop (8 * b) ENTRIES in
    subst (λ k. Entry b (take (2048 - 8 * k) (drop (8 * k) ENTRIES))) (sym same)
    (subst (Entry b) (sym (take_all (2048 - 8 * b) (drop (8 * b) ENTRIES) (omega (arith, all)))) (entry_at b low))

pub returns : goal.returns
returns c =
    let entry = cut_at c.args.byte c.from.result c.from.ensures (omega arith) in
    record { long = entry.long; bytes = entry.bytes; most = entry.most }
