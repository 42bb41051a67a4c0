-- Answering some datagrams and then others is answering all of them.
use Rattle.std.proofs.Common.{◌≡◌, ℕ, ◌+◌, ◌-◌, ◌<◌, ◌≤◌, ◌^◌, ◌⊎◌, min, List, [], ◌∷◌, ◌++◌, length, map, take, Some, Result, Ok, Err, OnErr, Option, Vec, Global, get_or, refl, sym, ap, subst, ◌∙◌, inl, inr, arith, append_assoc}
use Rattle.std.proofs.lemmas.List.{append-nil, length-append, map-append, take_all, take_more}
use Rattle.cds_outside.specs.Datagrams.{DatagramRose, DatagramsTold, IsNextDatagram}
use Rattle.cds_outside.specs.Outside.{Rose, Told, raised}
use Rattle.cds_outside.specs.declared.datagrams.DatagramFault.{DatagramFault}
use Rattle.cds_outside.specs.declared.datagrams.DatagramFault.TheVariants.{Failed, Mem}
use Rattle.cds_outside.specs.declared.datagrams.DatagramReply.{DatagramReply}
use Rattle.cds_ssdp.specs.declared.device.Device.{Device}
use Rattle.cds_ssdp.specs.Search.{AnswersSearch}
use Rattle.cds_ssdp.proofs.Single.{one-answer}
use Rattle.cds_announce.specs.Laws.{OneAnnouncement}
use Rattle.cds_announce.specs.Announcing.{Announces, AnswersAll, EndsAnnouncing, counted, reply_to}

-- ---- lists of datagrams

answers-more : (device : Device) (given : ℕ) (first more : List (List ℕ)) (replies others : List DatagramReply) → AnswersAll device given first replies
    → AnswersAll device (counted given first) more others → AnswersAll device given (first ++ more) (replies ++ others)
answers-more device given [] more replies others none all = subst (AnswersAll device given more) (ap (λ (r : List DatagramReply). r ++ others) (sym none)) all
answers-more device given (datagram ∷ first) more replies others (one, rest, is, all, split) then = (
  one,
  rest ++ others,
  is,
  answers-more device (raised given 1) first more rest others all then,
  ap (λ (r : List DatagramReply). r ++ others) split ∙ append_assoc one rest others,
)

counted-more : (given : ℕ) (first more : List (List ℕ)) → counted given (first ++ more) ≡ counted (counted given first) more
counted-more given [] more = refl
counted-more given (datagram ∷ first) more = counted-more (raised given 1) first more

one-more-fits : (n top : ℕ) → n + 1 ≤ top → min (n + 1) top ≡ n + 1
one-more-fits n top fits = grind (arith, fits)

-- few are counted one by one
pub counted-few : (given : ℕ) (datagrams : List (List ℕ)) → given + length datagrams ≤ 2 ^ 64 - 1 → counted given datagrams ≡ given + length datagrams
counted-few given [] few = omega arith
counted-few given (datagram ∷ datagrams) few =
    let one : raised given 1 ≡ given + 1 = one-more-fits given (2 ^ 64 - 1) (omega (arith, few)) in
    ap (λ n. counted n datagrams) one ∙ counted-few (given + 1) datagrams (omega (arith, few)) ∙ omega arith

rejoined : (a b u list left more : List (List ℕ)) → list ≡ (a ++ []) ++ left → left ≡ (b ++ u) ++ more → list ≡ ((a ++ b) ++ u) ++ more
rejoined a b u list left more split then =
    split
    ∙ ap (λ (f : List (List ℕ)). f ++ left) (append-nil a)
    ∙ ap (λ (l : List (List ℕ)). a ++ l) then
    ∙ sym (append_assoc a (b ++ u) more)
    ∙ ap (λ (f : List (List ℕ)). f ++ more) (sym (append_assoc a b u))

rose-before : (old mid new : ℕ) → old ≤ mid → Rose mid new → Rose old new
rose-before old mid new below (inl up) = inl (omega (arith, below, up))
rose-before old mid new below (inr top) = inr top

-- ---- what was answered so far

pub announces-none : (device : Device) (told : DatagramsTold) → Announces device [] [] told told
announces-none device told = record {
  replies = [];
  answers = refl;
  sent = λ list is. is ∙ ap Some (sym (append-nil list));
  came = λ list is. (list, refl, is);
  given = refl;
  never_falls = omega arith;
}

announces-more : (device : Device) (a b u : List (List ℕ)) (old mid new : DatagramsTold) → Announces device a [] old mid → Announces device b u mid new
    → Announces device (a ++ b) u old new
announces-more device a b u old mid new so next =
    let given : mid.given ≡ counted old.given a = so.given ∙ ap (counted old.given) (append-nil a) in
    record {
      replies = so.replies ++ next.replies;
      answers = answers-more device old.given a b so.replies next.replies so.answers (subst (λ g. AnswersAll device g b next.replies) given next.answers);
      sent = λ list is. next.sent (list ++ so.replies) (so.sent list is) ∙ ap Some (append_assoc list so.replies next.replies);
      came = λ list is.
          let first = so.came list is in
          let then = next.came first.0 first.2 in
          (then.0, rejoined a b u list first.0 then.0 first.1 then.1, then.2);
      given =
          next.given
          ∙ ap (λ g. counted g (b ++ u)) given
          ∙ sym (counted-more old.given a (b ++ u))
          ∙ ap (counted old.given) (sym (append_assoc a b u));
      never_falls = omega (arith, so.never_falls, next.never_falls);
    }

-- this many were answered so far
abbrev pub SoFar : Device → ℕ → DatagramsTold → DatagramsTold → Type 0
SoFar device count old new = (answered : List (List ℕ)) × Announces device answered [] old new × (length answered ≡ count)

pub one-more : (device : Device) (count : ℕ) (old mid new : DatagramsTold) → SoFar device count old mid → SoFar device 1 mid new
    → SoFar device (count + 1) old new
one-more device count old mid new (a, so, many) (b, next, one) =
    (a ++ b, announces-more device a b [] old mid new so next, length-append a b ∙ omega (arith, many, one))

pub then-ends : (A : Type 0) (device : Device) (done count : ℕ) (old mid new : DatagramsTold) (fault : DatagramFault) → SoFar device done old mid → done < count
    → EndsAnnouncing {A = A} device 1 (Err fault) mid new → EndsAnnouncing {A = A} device count (Err fault) old new
then-ends A device done count old mid new Failed (a, so, many) fewer (b, next, short, rose) = (
  a ++ b,
  announces-more device a b [] old mid new so next,
  (let all = length-append a b in omega (arith, all, many, fewer, short)),
  rose-before old.faults mid.faults new.faults so.never_falls rose,
)
then-ends A device done count old mid new Mem (a, so, many) fewer (b, u, next, short, few) = (
  a ++ b,
  u,
  announces-more device a b u old mid new so next,
  (let all = length-append a b in omega (arith, all, many, fewer, short)),
  few,
)

-- ---- one datagram

-- no datagram came
stays : (device : Device) (old new : DatagramsTold) → new ≡ record old { faults = new.faults } → old.faults ≤ new.faults → Announces device [] [] old new
stays device old new is never = record {
  replies = [];
  answers = refl;
  sent = λ list had. ap (λ (t : DatagramsTold). t.sent) is ∙ had ∙ ap Some (sym (append-nil list));
  came = λ list had. (list, refl, ap (λ (t : DatagramsTold). t.left) is ∙ had);
  given = ap (λ (t : DatagramsTold). t.given) is;
  never_falls = never;
}

pub none-came : {A : Type 0} (device : Device) (old new : DatagramsTold) (r : Result A DatagramFault) (fault : DatagramFault) → r ≡ Err fault
    → DatagramRose r old.faults new.faults → OnErr r (new ≡ record old { faults = new.faults }) → old.faults ≤ new.faults
    → EndsAnnouncing {A = A} device 1 (Err fault) old new
none-came device old new (Ok value) fault is rose same never = cc
none-came device old new (Err Failed) Failed is rose same never = ([], stays device old new same never, omega arith, rose)
none-came device old new (Err Mem) Mem is rose same never = ([], [], stays device old new same never, omega arith, omega arith)
none-came device old new (Err Failed) Mem is rose same never = cc
none-came device old new (Err Mem) Failed is rose same never = cc

-- a datagram came, and nothing was sent
pub came-alone : (device : Device) (old new : DatagramsTold) (datagram : List ℕ) → Told old.left (λ list. IsNextDatagram datagram list new.left)
    → new.given ≡ raised old.given 1 → new.sent ≡ old.sent → old.faults ≤ new.faults → Announces device [] (datagram ∷ []) old new
came-alone device old new datagram next given same never = record {
  replies = [];
  answers = refl;
  sent = λ list had. same ∙ had ∙ ap Some (sym (append-nil list));
  came = λ list had. next list had;
  given = given;
  never_falls = never;
}

-- a datagram came, and the replies to it were sent
pub came-answered : (device : Device) (old mid new : DatagramsTold) (datagram : List ℕ) (texts : List (List ℕ))
    → Told old.left (λ list. IsNextDatagram datagram list mid.left) → mid.given ≡ raised old.given 1 → mid.sent ≡ old.sent → old.faults ≤ mid.faults
    → AnswersSearch device datagram [] texts → Told mid.sent (λ list. new.sent ≡ Some (list ++ map (reply_to mid.given) texts))
    → new ≡ record mid { sent = new.sent; faults = new.faults } → mid.faults ≤ new.faults
    → SoFar device 1 old new
came-answered device old mid new datagram texts next given same never answers sent others grew =
    let replies = map (reply_to (raised old.given 1)) texts in (
      datagram ∷ [],
      record {
        replies = replies;
        answers = (replies, [], (texts, answers, refl), refl, sym (append-nil replies));
        sent = λ list had. sent list (same ∙ had) ∙ ap (λ n. Some (list ++ map (reply_to n) texts)) given;
        came = λ list had.
            let first = next list had in
            (first.0, first.1, ap (λ (t : DatagramsTold). t.left) others ∙ first.2);
        given = ap (λ (t : DatagramsTold). t.given) others ∙ given;
        never_falls = omega (arith, never, grew);
      },
      refl,
    )

-- ---- the end of an announcement

pub rose-back : (old new before faults : ℕ) → before ≡ 0 → Rose before faults → new ≡ raised old (min 1 faults) → Rose old new
rose-back old new before faults none (inl some) is = once old new before faults (2 ^ 64 - 1) none some is
  where
    once : (old new before faults top : ℕ) → before ≡ 0 → before < faults → new ≡ min (old + min 1 faults) top → (old < new) ⊎ (top ≤ new)
    once old new before faults top none some is = grind (arith, none, some, is)
rose-back old new before faults none (inr most) is = once old new faults (2 ^ 64 - 1) most is
  where
    once : (old new faults top : ℕ) → 2 ^ 64 - 1 ≤ faults → new ≡ min (old + min 1 faults) top → (old < new) ⊎ (top ≤ new)
    once old new faults top most is = grind (arith, most, is)

-- ---- several replies

abbrev pub texts : List (Vec ℕ Global) → List (List ℕ)
texts all = map (λ (v : Vec ℕ Global). v.items) all

-- the replies that are sent of these texts
abbrev pub replies-of : ℕ → List (Vec ℕ Global) → List DatagramReply
replies-of number all = map (reply_to number) (texts all)

abbrev pub SendsAll : List DatagramReply → Option (List DatagramReply) → Option (List DatagramReply) → Type 0
SendsAll replies before after = Told before (λ list. after ≡ Some (list ++ replies))

pub sent-none : (before : Option (List DatagramReply)) → SendsAll [] before before
sent-none before = λ list had. had ∙ ap Some (sym (append-nil list))

pub sent-next : (number now : ℕ) (all : List (Vec ℕ Global)) (i : ℕ) (item : Vec ℕ Global) (bytes : List ℕ) (before mid after : Option (List DatagramReply)) → i < length all
    → item ≡ get_or all i item → bytes ≡ item.items → now ≡ number → SendsAll (replies-of number (take i all)) before mid
    → Told mid (λ list. after ≡ Some (list ++ record { datagram = now; bytes = bytes } ∷ [])) → SendsAll (replies-of number (take (i + 1) all)) before after
sent-next number now all i item bytes before mid after within is same number_is so one = λ list had.
    let sofar = replies-of number (take i all) in
    one (list ++ sofar) (so list had)
    ∙ ap (λ n. Some ((list ++ sofar) ++ reply_to n bytes ∷ [])) number_is
    ∙ ap (λ b. Some ((list ++ sofar) ++ reply_to number b ∷ [])) same
    ∙ ap Some (append_assoc list sofar (reply_to number item.items ∷ []))
    ∙ ap (λ (l : List DatagramReply). Some (list ++ l)) (sym (map-append (reply_to number) (texts (take i all)) (item.items ∷ []))
    ∙ ap (map (reply_to number)) (sym (map-append (λ (v : Vec ℕ Global). v.items) (take i all) (item ∷ []))
    ∙ ap texts (ap (λ (z : Vec ℕ Global). take i all ++ z ∷ []) is ∙ sym (take_more all i item within))))

pub sent-all : (number : ℕ) (all : List (Vec ℕ Global)) (i : ℕ) (before after : Option (List DatagramReply)) → length all ≤ i
    → SendsAll (replies-of number (take i all)) before after → SendsAll (replies-of number all) before after
sent-all number all i before after over so = λ list had. so list had ∙ ap (λ (a : List (Vec ℕ Global)). Some (list ++ replies-of number a)) (take_all i all over)

-- ---- one list of replies

one-of-each : (device : Device) (given : ℕ) (datagrams : List (List ℕ)) (one other : List DatagramReply) → AnswersAll device given datagrams one
    → AnswersAll device given datagrams other → one ≡ other
one-of-each device given [] one other is too = is ∙ sym too
one-of-each device given (datagram ∷ datagrams) one other (a, rest, (t, answer, is), all, split) (b, left, (u, answer_too, is_too), all_too, split_too) =
    let same = one-answer device datagram [] t u answer answer_too in
    split
    ∙ ap (λ (f : List DatagramReply). f ++ rest) (is ∙ ap (map (reply_to (raised given 1))) same ∙ sym is_too)
    ∙ ap (λ (r : List DatagramReply). b ++ r) (one-of-each device (raised given 1) datagrams rest left all all_too)
    ∙ sym split_too

pub one-announcement : OneAnnouncement
one-announcement = one-of-each
