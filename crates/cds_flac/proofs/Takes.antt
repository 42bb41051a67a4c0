-- Taking bytes, and taking them in pieces.
use Rattle.std.proofs.Common.{◌≡◌, ℕ, ◌+◌, ◌-◌, ◌<◌, ◌≤◌, nat_le, true, false, cond, List, [], ◌++◌, length, take, drop, Ok, Err, ap, sym, ◌∙◌, arith, length-drop, length-append, length-take, ◌⊎◌, inl, inr}
use Rattle.std.proofs.lemmas.Bool.Decides.{nat_tests}
use Rattle.std.proofs.lemmas.List.{take_at, drop_at, take_all, take-append-le, length-take-le}
use Rattle.std.proofs.Math.Seq.{take-add}
use borrow.Rule.Slice.PartMut.{put_mid, post_of}
use Rattle.cds_flac.specs.declared.error.FlacError.TheVariants.{Truncated}
use Rattle.cds_flac.specs.Step.{Step, taken}

-- there are enough bytes
pub taken-enough : (at n : ℕ) (bytes : List ℕ) → n ≤ length bytes → taken at n bytes ≡ Ok (take n bytes, drop n bytes)
taken-enough at n bytes h =
    let test : nat_le n (length bytes) ≡ true = grind (arith, nat_tests) in
    let result : Step (List ℕ) = Ok (take n bytes, drop n bytes) in
    let refusal : Step (List ℕ) = Err (Truncated (at + length bytes)) in
    ap (λ b. cond b result refusal) test

-- the source ended before
pub taken-ended : (at n got : ℕ) (bytes : List ℕ) → got ≤ length bytes → drop got bytes ≡ [] → got < n → taken at n bytes ≡ Err (Truncated (at + got))
taken-ended at n got bytes within none short =
    let gone : length bytes - got ≡ 0 = sym (length-drop got bytes) ∙ ap length none in
    let all : length bytes ≡ got = omega arith in
    let test : nat_le n (length bytes) ≡ false = grind (arith, nat_tests) in
    let result : Step (List ℕ) = Ok (take n bytes, drop n bytes) in
    let refusal : Step (List ℕ) = Err (Truncated (at + length bytes)) in
    ap (λ b. cond b result refusal) test ∙ ap (λ m. Err (Truncated (at + m))) all

-- a piece more
pub within_more : (got n : ℕ) (bytes : List ℕ) → got ≤ length bytes → n ≤ length (drop got bytes) → got + n ≤ length bytes
within_more got n bytes h more = omega (arith, length-drop got bytes)

-- a piece more was written behind what was filled
pub filled_more : (into ys bytes : List ℕ) (got n k : ℕ) → got ≤ length into → n ≤ length ys → take got into ≡ take got bytes → take n ys ≡ take n (drop got bytes) → take (got + n) (put_mid got k into ys) ≡ take (got + n) bytes
filled_more into ys bytes got n k inside enough front piece =
    let after = ys ++ post_of got k into in
    take-add got n (put_mid got k into ys)
    ∙ ap (λ xs. xs ++ take n (drop got (put_mid got k into ys))) (take_at (take got into) after got (length-take-le got into inside) ∙ front)
    ∙ ap (λ xs. take got bytes ++ take n xs) (drop_at (take got into) after got (length-take-le got into inside))
    ∙ ap (λ xs. take got bytes ++ xs) (take-append-le n ys (post_of got k into) enough ∙ piece)
    ∙ sym (take-add got n bytes)

-- what was filled whole is what was taken
pub filled-taken : (at n got : ℕ) (into bytes : List ℕ) → length into ≡ n → length into ≤ got → got ≤ length into → got ≤ length bytes → take got into ≡ take got bytes → taken at n bytes ≡ Ok (into, drop got bytes)
filled-taken at n got into bytes long full inside enough same =
    let all : got ≡ n = omega arith in
    let whole : into ≡ take n bytes = sym (take_all got into full) ∙ same ∙ ap (λ m. take m bytes) all in
    taken-enough at n bytes (omega arith) ∙ ap (λ xs. Ok (xs, drop n bytes)) (sym whole) ∙ ap (λ m. Ok (into, drop m bytes)) (sym all)

-- a front part is at most so long
pub length-take-most : (n : ℕ) (xs : List ℕ) → length (take n xs) ≤ n
length-take-most n xs = omega (arith, length-take n xs)

-- a read of nothing into some room is the end
pub at_end : (room : ℕ) (left : List ℕ) → 0 < room → (room ≡ 0) ⊎ (left ≡ []) → left ≡ []
at_end room left some (inl none) = absurd (omega arith)
at_end room left some (inr empty) = empty

-- a text so far, and a piece more behind it, of which a buffer holds more
pub text_more : (text next piece rest bytes : List ℕ) (n : ℕ) → next ≡ text ++ take n (piece ++ rest) → text ≡ take (length text) bytes → n ≤ length piece → take n piece ≡ take n (drop (length text) bytes) → next ≡ take (length text + n) bytes
text_more text next piece rest bytes n made front enough same =
    made
    ∙ ap (λ xs. text ++ xs) (take-append-le n piece rest enough ∙ same)
    ∙ ap (λ xs. xs ++ take n (drop (length text) bytes)) front
    ∙ sym (take-add (length text) n bytes)

pub length-text_more : (text next piece rest : List ℕ) (n : ℕ) → next ≡ text ++ take n (piece ++ rest) → n ≤ length piece → length next ≡ length text + n
length-text_more text next piece rest n made enough =
    ap length made
    ∙ length-append text (take n (piece ++ rest))
    ∙ ap (λ xs. length text + length xs) (take-append-le n piece rest enough)
    ∙ ap (λ m. length text + m) (length-take-le n piece enough)

-- a text so far that is long enough is what was taken
pub text-taken : (at n : ℕ) (text bytes : List ℕ) → length text ≡ n → length text ≤ length bytes → text ≡ take (length text) bytes → taken at n bytes ≡ Ok (text, drop (length text) bytes)
text-taken at n text bytes long enough same =
    taken-enough at n bytes (omega arith)
    ∙ ap (λ m. Ok (take m bytes, drop m bytes)) (sym long)
    ∙ ap (λ xs. Ok (xs, drop (length text) bytes)) (sym same)
