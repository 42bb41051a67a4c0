-- Bytes say one thing at most.
use Rattle.std.proofs.Common.{◌≡◌, ℕ, zero, suc, Bool, List, [], Result, Ok, Err, sym, ap, ◌∙◌, subst}
use Rattle.httparse.proofs.GrammarLemmas.{request_unique, response_unique}
use Rattle.httparse.proofs.ChunkLemmas.{chunk_line_unique}
use Rattle.httparse.specs.Grammar.{chunk_size}
use Rattle.cds_http.specs.declared.error.HttpError.{HttpError}
use Rattle.cds_http.specs.declared.message.Side.{Side}
use Rattle.cds_http.specs.declared.message.Side.TheVariants.{Request, Reply}
use Rattle.cds_http.specs.declared.message.Message.{Message}
use Rattle.cds_http.specs.declared.framing.Framing.{Framing}
use Rattle.cds_http.specs.declared.framing.Framing.TheVariants.{Counted, Chunked, ToEnd}
use Rattle.cds_http.specs.declared.head.Head.{Head}
use Rattle.cds_http.specs.Known.{Known, Whole, Needs, Refused, Then}
use Rattle.cds_http.specs.Head.{IsHead, HeadOf, HeadKnown, head_cut, request_head, reply_head}
use Rattle.cds_http.specs.Framing.{framing_of}
use Rattle.cds_http.specs.Chunks.{LineOf, LineKnown, line_cut, TrailerOf, TrailerKnown, trailer_cut, one_more, AfterLine, ChunksFrom, BodyKnown}
use Rattle.cds_http.specs.Decided.{with_head, FramedKnown, AfterHead}
use Rattle.cds_http.specs.Laws.{OneOutcome}

pub then_once : {A B : Type 0} (first : Known A) (one two : A → List ℕ → Known B → Type 0)
    → ((a : A) (rest : List ℕ) (x y : Known B) → one a rest x → two a rest y → x ≡ y)
    → (x y : Known B) → Then first one x → Then first two y → x ≡ y
then_once (Whole a rest) one two same x y p q = same a rest x y p q
then_once Needs one two same x y p q = p ∙ sym q
then_once (Refused e) one two same x y p q = p ∙ sym q

one_head : (side : Side) (text : List ℕ) (a b : Head) → IsHead side text a → IsHead side text b → a ≡ b
one_head Request text a b p q = p.3 ∙ ap request_head (request_unique text p.0 q.0 [] [] p.1 q.1).0 ∙ sym q.3
one_head Reply text a b p q = p.3 ∙ ap reply_head (response_unique text p.0 q.0 [] [] p.1 q.1).0 ∙ sym q.3

head_of_once : (side : Side) (text rest : List ℕ) (x y : Known Head) → HeadOf side text rest x → HeadOf side text rest y → x ≡ y
head_of_once side text rest (Whole a left) (Whole b right) p q =
    let same = one_head side text a b p.0 q.0 in
    let ends = p.1 ∙ sym q.1 in cc
head_of_once side text rest (Whole a left) Needs p q = absurd q
head_of_once side text rest (Whole a left) (Refused e) p q = absurd (q.1 a p.0)
head_of_once side text rest Needs y p q = absurd p
head_of_once side text rest (Refused e) (Whole b right) p q = absurd (p.1 b q.0)
head_of_once side text rest (Refused e) Needs p q = absurd q
head_of_once side text rest (Refused e) (Refused d) p q = ap (λ (e : HttpError). Refused e) (p.0 ∙ sym q.0)

pub head_once : (side : Side) (bytes : List ℕ) (x y : Known Head) → HeadKnown side bytes x → HeadKnown side bytes y → x ≡ y
head_once side bytes x y p q = then_once {A = List ℕ} {B = Head} (head_cut bytes) (HeadOf side) (HeadOf side) (head_of_once side) x y p q

line_of_once : (text rest : List ℕ) (x y : Known ℕ) → LineOf text rest x → LineOf text rest y → x ≡ y
line_of_once text rest (Whole a left) (Whole b right) p q =
    let same : a ≡ b = p.0.2 ∙ ap chunk_size (chunk_line_unique text p.0.0 q.0.0 [] [] p.0.1 q.0.1).0 ∙ sym q.0.2 in
    let ends = p.1 ∙ sym q.1 in cc
line_of_once text rest (Whole a left) Needs p q = absurd q
line_of_once text rest (Whole a left) (Refused e) p q = absurd (q.1 a p.0)
line_of_once text rest Needs y p q = absurd p
line_of_once text rest (Refused e) (Whole b right) p q = absurd (p.1 b q.0)
line_of_once text rest (Refused e) Needs p q = absurd q
line_of_once text rest (Refused e) (Refused d) p q = ap (λ (e : HttpError). Refused e) (p.0 ∙ sym q.0)

line_once : (bytes : List ℕ) (x y : Known ℕ) → LineKnown bytes x → LineKnown bytes y → x ≡ y
line_once bytes x y p q = then_once {A = List ℕ} {B = ℕ} (line_cut bytes) LineOf LineOf line_of_once x y p q

trailer_of_once : (body text rest : List ℕ) (x y : Known (List ℕ)) → TrailerOf body text rest x → TrailerOf body text rest y → x ≡ y
trailer_of_once body text rest (Whole a left) (Whole b right) p q =
    let same = p.1 ∙ sym q.1 in
    let ends = p.2 ∙ sym q.2 in cc
trailer_of_once body text rest (Whole a left) Needs p q = absurd q
trailer_of_once body text rest (Whole a left) (Refused e) p q = absurd (q.1 p.0)
trailer_of_once body text rest Needs y p q = absurd p
trailer_of_once body text rest (Refused e) (Whole b right) p q = absurd (p.1 q.0)
trailer_of_once body text rest (Refused e) Needs p q = absurd q
trailer_of_once body text rest (Refused e) (Refused d) p q = ap (λ (e : HttpError). Refused e) (p.0 ∙ sym q.0)

trailer_once : (body bytes : List ℕ) (x y : Known (List ℕ)) → TrailerKnown body bytes x → TrailerKnown body bytes y → x ≡ y
trailer_once body bytes x y p q = then_once {A = List ℕ} {B = List ℕ} (trailer_cut bytes) (TrailerOf body) (TrailerOf body) (trailer_of_once body) x y p q

after_once : (one two : List ℕ → List ℕ → Known (List ℕ) → Type 0)
    → ((body rest : List ℕ) (x y : Known (List ℕ)) → one body rest x → two body rest y → x ≡ y)
    → (body : List ℕ) (size : ℕ) (rest : List ℕ) (x y : Known (List ℕ)) → AfterLine one body size rest x → AfterLine two body size rest y → x ≡ y
after_once one two same body zero rest x y p q = trailer_once body rest x y p q
after_once one two same body (suc n) rest x y p q = then_once {A = List ℕ} {B = List ℕ} (one_more body (suc n) rest) one two same x y p q

chunks_once : (a b : ℕ) (body bytes : List ℕ) (x y : Known (List ℕ)) → ChunksFrom a body bytes x → ChunksFrom b body bytes y → x ≡ y
chunks_once zero b body bytes x y p q = absurd p
chunks_once (suc a) zero body bytes x y p q = absurd q
chunks_once (suc a) (suc b) body bytes x y p q =
    let same = line_once bytes q.0 p.0 q.1 p.1 in
    let there = subst (λ (l : Known ℕ). Then {A = ℕ} {B = List ℕ} l (AfterLine (ChunksFrom b) body) y) same q.2 in
    then_once {A = ℕ} {B = List ℕ} p.0 (AfterLine (ChunksFrom a) body) (AfterLine (ChunksFrom b) body)
    (λ size rest x y. after_once (ChunksFrom a) (ChunksFrom b) (chunks_once a b) body size rest x y) x y p.2 there

pub body_once : (ended : Bool) (framing : Framing) (bytes : List ℕ) (x y : Known (List ℕ)) → BodyKnown ended framing bytes x → BodyKnown ended framing bytes y → x ≡ y
body_once ended (Counted n) bytes x y p q = p ∙ sym q
body_once ended Chunked bytes x y p q = chunks_once p.0 q.0 [] bytes x y p.1 q.1
body_once ended ToEnd bytes x y p q = p ∙ sym q

framed_once : (ended : Bool) (rule : Result Framing HttpError) (head : Head) (rest : List ℕ) (x y : Known Message)
    → FramedKnown ended rule head rest x → FramedKnown ended rule head rest y → x ≡ y
framed_once ended (Err e) head rest x y p q = p ∙ sym q
framed_once ended (Ok framing) head rest x y p q = p.2 ∙ ap (with_head head) (body_once ended framing rest p.0 q.0 p.1 q.1) ∙ sym q.2

pub one_outcome : OneOutcome
one_outcome ended side bytes x y p q =
    let same = head_once side bytes q.0 p.0 q.1 p.1 in
    let there = subst (λ (h : Known Head). Then {A = Head} {B = Message} h (AfterHead ended side) y) same q.2 in
    then_once {A = Head} {B = Message} p.0 (AfterHead ended side) (AfterHead ended side)
    (λ head rest x y. framed_once ended (framing_of side head.fields) head rest x y) x y p.2 there
