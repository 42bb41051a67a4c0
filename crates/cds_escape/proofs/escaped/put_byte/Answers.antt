-- Of an entry as much counts as its last byte says.
use Rattle.std.proofs.Common.{◌≡◌, ◌+◌, ◌++◌, ◌≤◌, ℕ, List, take, length, get_or, arith, length-take-le, take-take, ap, ◌∙◌, sym}
use Rattle.std.proofs.Math.Seq.{take-append-add}
use Rattle.std.proofs.lemmas.List.{take-append-le}
use Rattle.cds_escape.proofs.escaped.put_byte.Goals as goal

placed : (buffer entry tail : List ℕ) (at n : ℕ) → at ≤ length buffer → 8 ≤ length entry → n ≤ 6 → take (at + n) (take at buffer ++ (take 8 entry ++ tail)) ≡ take at buffer ++ take n entry
placed buffer entry tail at n room long few =
    let front = take at buffer in
    let here : length front ≡ at = length-take-le at buffer room in
    let eight : length (take 8 entry) ≡ 8 = length-take-le 8 entry long in
    ap (λ k. take (k + n) (front ++ (take 8 entry ++ tail))) (sym here)
    ∙ take-append-add front (take 8 entry ++ tail) n
    ∙ ap (λ x. front ++ x) (take-append-le n (take 8 entry) tail (omega (arith, eight)) ∙ take-take n 8 entry (omega arith))

pub returns-clause-bytes : goal.returns-clause-bytes
returns-clause-bytes c =
    let entry = c.entry_of-entry.result.now in
    let at = c.args.at in
    let few : get_or entry 7 0 ≤ 6 = c.entry_of-entry.ensures.most in
    ap (take (at + c.from.result)) c.put_entry.ensures
    ∙ placed c.args.buffer.now entry _ at c.from.result (omega arith) c.entry_of-entry.ensures.long (omega (arith, few, c.from.ensures))
    ∙ ap (λ n. take at c.args.buffer.now ++ take n entry) c.from.ensures
    ∙ ap (λ x. take at c.args.buffer.now ++ x) c.entry_of-entry.ensures.bytes
