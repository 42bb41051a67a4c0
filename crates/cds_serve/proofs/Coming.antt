-- How one request is read from a connection, piece by piece.
use Rattle.std.proofs.Common.{◌≡◌, ◌⊎◌, inl, inr, ℕ, false, true, List, [], ◌++◌, length, take, drop, Option, Some, Result, Ok, Err, refl, sym, ◌∙◌, ap, subst, append_assoc, ◌<◌, ◌≤◌, arith}
use Rattle.std.specs.Prelude.{⊤}
use Rattle.std.proofs.lemmas.List.{take-append-drop, append-nil, length-take}
use Rattle.cds_http.specs.declared.error.HttpError.{HttpError}
use Rattle.cds_http.specs.declared.error.HttpError.TheVariants.{BadHead, HeadTooLong, BadLength, BadChunk, TooLong, Truncated, Failed, Mem}
use Rattle.cds_http.specs.declared.message.Fed.TheVariants.{More, Whole as WholeFed}
use Rattle.cds_http.specs.declared.message.Message.{Message}
use Rattle.cds_http.specs.declared.message.Side.TheVariants as side
use Rattle.cds_http.specs.declared.reader.MessageReader.{MessageReader}
use Rattle.cds_http.specs.Decided.{Decides}
use Rattle.cds_http.specs.Known.{Known, Whole, Needs, Refused}
use Rattle.cds_http.specs.Reading.{Finishes, IsWhole, Stands, Takes, at_end}
use Rattle.cds_http.specs.Steps.{Explains}
use Rattle.cds_http.proofs.Once.{one_outcome}
use Rattle.cds_serve.specs.Answered.{ReadsFrom, piece_limit}
use Rattle.cds_serve.specs.declared.request.Request.{Request}
use Rattle.cds_serve.specs.declared.request.Request.TheVariants as request
use Rattle.cds_outside.specs.Outside.{Rose}
use Rattle.cds_serve.specs.Requested.{BrokenRose, ComesTo, HasAll, IsCause, IsLastIn, IsRequest}

-- ---- the end of a message

-- what bytes say, where this was read of them
abbrev pub Said : Known Message → Result Message HttpError → Type 0
Said known (Ok m) = (rest : List ℕ) × (known ≡ Whole m rest)
Said known (Err e) = (known ≡ Refused e) ⊎ ((e ≡ Truncated) × (known ≡ Needs))

said-by : (known : Known Message) → Said known (at_end known)
said-by (Whole m rest) = (rest, refl)
said-by Needs = inr (refl, refl)
said-by (Refused e) = inl refl

pub all-said : (bytes : List ℕ) (reader : MessageReader) (result : Result Message HttpError) (all : HasAll bytes reader)
    → Finishes side.Request (Some all.came) result → (known : Known Message) → Decides true side.Request bytes known → Said known result
all-said bytes reader result all f known d = by all.enough
  where
    by : (all.rest ≡ []) ⊎ ((m : Message) × IsWhole side.Request all.came m) → Said known result
    by (inl none) =
        let whole : bytes ≡ all.came = all.all ∙ ap (λ r. all.came ++ r) none ∙ append-nil all.came in
        let same : known ≡ f.0 = one_outcome true side.Request bytes known f.0 d (subst (λ b. Decides true side.Request b f.0) (sym whole) f.1) in
        subst (λ k. Said k result) (sym same) (subst (λ r. Said f.0 r) (sym f.2) (said-by f.0))
    by (inr w) =
        let here : f.0 ≡ Whole w.0 [] =
        one_outcome true side.Request all.came f.0 (Whole w.0 []) f.1
        (subst (λ b. Decides true side.Request b (Whole w.0 [])) (append-nil all.came) (w.1 true [])) in
        let given : result ≡ Ok w.0 = f.2 ∙ ap at_end here in
        let there : known ≡ Whole w.0 all.rest =
        one_outcome true side.Request bytes known (Whole w.0 all.rest) d
        (subst (λ b. Decides true side.Request b (Whole w.0 all.rest)) (sym all.all) (w.1 true all.rest)) in
        subst (λ r. Said known r) (sym given) (all.rest, there)

pub ok-request : (known : Known Message) (m : Message) (request : Request) → Said known (Ok m) → ((rest : List ℕ) → IsRequest (Whole m rest) request)
    → IsRequest known request
ok-request known m request s judged = subst (λ k. IsRequest k request) (sym s.1) (judged s.0)

pub err-request : (known : Known Message) (e : HttpError) (request : Request) → Said known (Err e) → IsRequest (Refused e) request
    → (e ≡ Truncated → IsRequest Needs request) → IsRequest known request
err-request known e request (inl refused) one other = subst (λ k. IsRequest k request) (sym refused) one
err-request known e request (inr cut) one other = subst (λ k. IsRequest k request) (sym cut.1) (other cut.0)

-- a refusal of bytes is what they say
pub caused : (bytes : List ℕ) (e : HttpError) (request : Request) → IsCause e bytes → (Mem ≡ e → (known : Known Message) → IsRequest known request)
    → IsRequest (Refused e) request → (known : Known Message) → Decides true side.Request bytes known → IsRequest known request
caused bytes Mem request c starved r known d = starved refl known
caused bytes BadHead request c starved r known d = subst (λ k. IsRequest k request) (sym (one_outcome true side.Request bytes known (Refused BadHead) d c)) r
caused bytes HeadTooLong request c starved r known d = subst (λ k. IsRequest k request) (sym (one_outcome true side.Request bytes known (Refused HeadTooLong) d c)) r
caused bytes BadLength request c starved r known d = subst (λ k. IsRequest k request) (sym (one_outcome true side.Request bytes known (Refused BadLength) d c)) r
caused bytes BadChunk request c starved r known d = subst (λ k. IsRequest k request) (sym (one_outcome true side.Request bytes known (Refused BadChunk) d c)) r
caused bytes TooLong request c starved r known d = subst (λ k. IsRequest k request) (sym (one_outcome true side.Request bytes known (Refused TooLong) d c)) r
caused bytes Truncated request c starved r known d = absurd c
caused bytes Failed request c starved r known d = absurd c

-- ---- one piece

-- the piece that came is the next one of what was left
next-piece : (came rest piece : List ℕ) (n : ℕ) → piece ≡ take n rest → (came ++ piece) ++ drop n rest ≡ came ++ rest
next-piece came rest piece n is =
    append_assoc came piece (drop n rest)
    ∙ ap (λ front. came ++ (front ++ drop n rest)) is
    ∙ ap (λ more. came ++ more) (take-append-drop n rest)

pub nothing-left : (bytes : List ℕ) (left : Option (List ℕ)) (reader : MessageReader) (c : ComesTo bytes left reader) → c.rest ≡ [] → HasAll bytes reader
nothing-left bytes left reader c none = record { came = c.came; rest = c.rest; all = c.all; stands = c.stands; enough = inl none }

pub more-needed : (bytes : List ℕ) (left after : Option (List ℕ)) (reader next : MessageReader) (c : ComesTo bytes left reader) (piece : List ℕ) (n : ℕ)
    → piece ≡ take n c.rest → after ≡ Some (drop n c.rest) → (now : Option (List ℕ)) → Stands side.Request next now
    → Takes side.Request (Some c.came) piece (Ok More) now → ComesTo bytes after next
more-needed bytes left after reader next c piece n is told now stands t = record {
  came = c.came ++ piece;
  rest = drop n c.rest;
  all = c.all ∙ sym (next-piece c.came c.rest piece n is);
  told = told;
  stands = subst (λ o. Stands side.Request next o) t.0.1 stands;
  needed = t.0.0;
}

pub whole-now : (bytes : List ℕ) (left : Option (List ℕ)) (reader next : MessageReader) (c : ComesTo bytes left reader) (piece : List ℕ) (n behind : ℕ)
    → piece ≡ take n c.rest → (now : Option (List ℕ)) → Stands side.Request next now
    → Takes side.Request (Some c.came) piece (Ok (WholeFed behind)) now → HasAll bytes next
whole-now bytes left reader next c piece n behind is now stands t =
    let used = t.0.0 in
    record {
      came = c.came ++ take used piece;
      rest = drop used piece ++ drop n c.rest;
      all =
          c.all ∙ sym (next-piece c.came c.rest piece n is)
          ∙ ap (λ p. (c.came ++ p) ++ drop n c.rest) (sym (take-append-drop used piece))
          ∙ ap (λ l. l ++ drop n c.rest) (sym (append_assoc c.came (take used piece) (drop used piece)))
          ∙ append_assoc (c.came ++ take used piece) (drop used piece) (drop n c.rest);
      stands = subst (λ o. Stands side.Request next o) t.0.3 stands;
      enough = inr t.0.4;
    }

explained : (e : HttpError) (bytes : List ℕ) → Explains e (Decides true side.Request bytes (Refused e)) → IsCause e bytes
explained Mem bytes x = tt
explained BadHead bytes x = x
explained HeadTooLong bytes x = x
explained BadLength bytes x = x
explained BadChunk bytes x = x
explained TooLong bytes x = x
explained Truncated bytes x = absurd x
explained Failed bytes x = absurd x

explains-of : (e : HttpError) (P Q : Type 0) → (P → Q) → Explains e P → Explains e Q
explains-of Mem P Q f x = tt
explains-of BadHead P Q f x = f x
explains-of HeadTooLong P Q f x = f x
explains-of BadLength P Q f x = f x
explains-of BadChunk P Q f x = f x
explains-of TooLong P Q f x = f x
explains-of Truncated P Q f x = absurd x
explains-of Failed P Q f x = absurd x

pub refused-now : (bytes : List ℕ) (left : Option (List ℕ)) (reader : MessageReader) (c : ComesTo bytes left reader) (piece : List ℕ) (n : ℕ) (e : HttpError)
    → piece ≡ take n c.rest → (now : Option (List ℕ)) → Takes side.Request (Some c.came) piece (Err e) now → IsCause e bytes
refused-now bytes left reader c piece n e is now t =
    explained e bytes
    (explains-of e _ _ (λ always. subst (λ b. Decides true side.Request b (Refused e)) (next-piece c.came c.rest piece n is ∙ sym c.all) (always true (drop n c.rest))) t.0.1)

-- ---- how much was read

-- no bytes are no message yet
pub nothing-said : Decides false side.Request [] Needs
nothing-said = (Needs, refl, refl)

-- nothing
pub none-read : (bytes : List ℕ) (after : Option (List ℕ)) (P : List ℕ → Type 0) → after ≡ Some bytes → P [] → ReadsFrom bytes after P
none-read bytes after P told last = record { came = []; piece = []; rest = bytes; all = refl; told = told; needed = nothing-said; short = omega arith; last = last }

-- all that came, and no last piece
pub came-read : (bytes : List ℕ) (left after : Option (List ℕ)) (reader : MessageReader) (c : ComesTo bytes left reader) (P : List ℕ → Type 0)
    → after ≡ Some c.rest → P [] → ReadsFrom bytes after P
came-read bytes left after reader c P told last = record {
  came = c.came;
  piece = [];
  rest = c.rest;
  all = c.all ∙ ap (λ front. front ++ c.rest) (sym (append-nil c.came));
  told = told;
  needed = c.needed;
  short = omega arith;
  last = last;
}

-- all that came, and a last piece, which fits the room for it
pub piece-read : (bytes : List ℕ) (left after : Option (List ℕ)) (reader : MessageReader) (c : ComesTo bytes left reader) (piece : List ℕ) (n : ℕ)
    (P : List ℕ → Type 0) (room : List ℕ) → piece ≡ take n room → length room ≤ piece_limit → piece ≡ take n c.rest → after ≡ Some (drop n c.rest) → P piece
    → ReadsFrom bytes after P
piece-read bytes left after reader c piece n P room front fits is told last = record {
  came = c.came;
  piece = piece;
  rest = drop n c.rest;
  all = c.all ∙ sym (next-piece c.came c.rest piece n is);
  told = told;
  needed = c.needed;
  short = omega (arith, ap length front, length-take n room, fits);
  last = last;
}

-- all that came, where the connection ended
pub end-read : (bytes : List ℕ) (left after : Option (List ℕ)) (reader : MessageReader) (c : ComesTo bytes left reader) (room n : ℕ) → 0 < room
    → (room ≡ 0) ⊎ (c.rest ≡ []) → n ≡ 0 → after ≡ Some (drop n c.rest) → HasAll bytes reader × ReadsFrom bytes after (λ piece. ⊤)
end-read bytes left after reader c room n some (inl none) zero told = absurd (omega (arith, some, none))
end-read bytes left after reader c room n some (inr none) zero told = (
  nothing-left bytes left reader c none,
  came-read bytes left after reader c (λ piece. ⊤) (told ∙ ap (λ k. Some (drop k c.rest)) zero) tt,
)

-- another thing that holds of the last piece
pub reads-as : (bytes : List ℕ) (left : Option (List ℕ)) (P Q : List ℕ → Type 0) → ((piece : List ℕ) → P piece → Q piece) → ReadsFrom bytes left P
    → ReadsFrom bytes left Q
reads-as bytes left P Q f r = record { came = r.came; piece = r.piece; rest = r.rest; all = r.all; told = r.told; needed = r.needed; short = r.short; last = f r.piece r.last }

-- what came of a connection that did not fail may be the last piece
pub no-failure : (request : Request) (piece : List ℕ) → ((old new : ℕ) → BrokenRose request old new) → IsLastIn request piece
no-failure (request.Needing m) piece rose = tt
no-failure (request.Fetching asked) piece rose = tt
no-failure (request.Free answer) piece rose = tt
no-failure request.Broken piece rose = absurd (never (rose 1 0))
  where
    never : Rose 1 0 → ⊥
    never (inl less) = omega (arith, less)
    never (inr most) = omega (arith, most)
no-failure request.Starved piece rose = tt
