-- What all jobs of a server and its stop gave, by the seats that come back to the last one.
use Rattle.std.proofs.Common.{◌≡◌, ℕ, Bool, true, true≢false, cond, ◌+◌, ◌≤◌, List, [], ◌∷◌, ◌++◌, length, map, Option, Some, None, IfSome, refl, sym, ap, subst, ◌∙◌, append_assoc, append-nil, is_some, arith}
use Rattle.std.specs.List.{AllByRecursion, count_by}
use Rattle.std.proofs.lemmas.List.Sums.{count_by-le-length, sum_by-append, sum_by-cons}
use Rattle.cds_outside.specs.Told.{ClockTold}
use Rattle.cds_commands.specs.Commands.{Command, Scans, Start, Stops, Ticks}
use Rattle.cds_server.specs.Serving.{StandsFor}
use Rattle.cds_turn.specs.Turn.{SeatTold}
use Rattle.cds_serve.specs.Jobs.{AddsAnswers, AddsTicks, FollowAnswers, FollowScans, FollowTicks, HasSeenAll, IsAllGiven, IsOfMessage}
use Rattle.cds_serve.specs.Life.{AllAccepted, AreFirstWords, IsOpenedAt, OfFirst, start_with}

nothing : {A : Type 0} (xs : List A) → length xs ≡ 0 → xs ≡ []
nothing [] is = refl
nothing (x ∷ xs) is = absurd (omega (arith, is))

all-both : {A : Type 0} (P : A → Type 0) (xs ys : List A) → AllByRecursion P xs → AllByRecursion P ys → AllByRecursion P (xs ++ ys)
all-both P [] ys all both = both
all-both P (x ∷ xs) ys all both = (all.0, all-both P xs ys all.1 both)

-- ---- seats that come back

-- what a job added to nothing is all that its seat has
alone-added : (mine theirs added : List Command) → length mine ≡ 0 → theirs ≡ added ++ mine → theirs ≡ added
alone-added mine theirs added none is = is ∙ ap (λ z. added ++ z) (nothing mine none) ∙ append-nil added

pub answers-none : (first : List Command) → FollowAnswers first first
answers-none first = ([], tt, sym (append-nil first))

pub answers-more : (first old theirs new mine : List Command) → FollowAnswers first old → length mine ≡ 0 → AddsAnswers mine theirs → new ≡ old ++ theirs
    → FollowAnswers first new
answers-more first old theirs new mine so none adds is = (
  so.0 ++ adds.0,
  all-both IsOfMessage so.0 adds.0 so.1 adds.1,
  is ∙ ap (λ z. old ++ z) (alone-added mine theirs adds.0 none adds.2) ∙ ap (λ z. z ++ adds.0) so.2 ∙ append_assoc first so.0 adds.0,
)

pub ticks-follow : (old theirs new mine : List Command) → length mine ≡ 0 → AddsTicks mine theirs → new ≡ old ++ theirs → FollowTicks old new
ticks-follow old theirs new mine none adds is = (adds.0, is ∙ ap (λ z. old ++ z) (alone-added mine theirs (map Ticks adds.0) none adds.1))

-- one pass comes back with each seat
pub one-pass : (new old theirs mine : ℕ) → new ≡ old + theirs → theirs ≡ mine → mine ≡ 1 → new ≡ old + 1
one-pass new old theirs mine sum same one = omega (arith, sum, same, one)

-- ---- all of them

count-one : (test : Command → Bool) (x : Command) (xs : List Command) → count_by test (x ∷ xs) ≡ cond (test x) 1 0 + count_by test xs
count-one test x xs = sum_by-cons (λ y. cond (test y) 1 0) x xs

count_append : (test : Command → Bool) (xs ys : List Command) → count_by test (xs ++ ys) ≡ count_by test xs + count_by test ys
count_append test xs ys = sum_by-append (λ x. cond (test x) 1 0) xs ys

-- counted, in whatever order
counted-so : (test : Command → Bool) (answers scans ticks : List Command) (o0 o1 o2 o3 o4 o5 : List Command) → length o0 ≡ 0 → o1 ≡ o0 → o2 ≡ o1 ++ answers
    → o3 ≡ Stops ∷ o2 → o4 ≡ o3 ++ scans → o5 ≡ o4 ++ ticks → count_by test o5 ≡ count_by test (answers ++ scans ++ ticks ++ Stops ∷ [])
counted-so test answers scans ticks o0 o1 o2 o3 o4 o5 none one two three four five =
    let c0 : count_by test o0 ≤ length o0 = count_by-le-length test o0 in
    let c1 : count_by test o1 ≡ count_by test o0 = ap (count_by test) one in
    let c2 : count_by test o2 ≡ count_by test o1 + count_by test answers = ap (count_by test) two ∙ count_append test o1 answers in
    let c3 : count_by test o3 ≡ cond (test Stops) 1 0 + count_by test o2 = ap (count_by test) three ∙ count-one test Stops o2 in
    let c4 : count_by test o4 ≡ count_by test o3 + count_by test scans = ap (count_by test) four ∙ count_append test o3 scans in
    let c5 : count_by test o5 ≡ count_by test o4 + count_by test ticks = ap (count_by test) five ∙ count_append test o4 ticks in
    let d1 : count_by test (answers ++ scans ++ ticks ++ Stops ∷ []) ≡ count_by test (answers ++ scans ++ ticks) + count_by test (Stops ∷ []) = count_append test (answers ++ scans ++ ticks) (Stops ∷ []) in
    let d2 : count_by test (answers ++ scans ++ ticks) ≡ count_by test (answers ++ scans) + count_by test ticks = count_append test (answers ++ scans) ticks in
    let d3 : count_by test (answers ++ scans) ≡ count_by test answers + count_by test scans = count_append test answers scans in
    let d4 : count_by test (Stops ∷ []) ≡ cond (test Stops) 1 0 + 0 = count-one test Stops [] in
    omega (arith, none, c0, c1, c2, c3, c4, c5, d1, d2, d3, d4)

pub all-given : (accepted : ℕ) (o0 o1 o2 o3 o4 o5 own seen : List Command) → length o0 ≡ 0 → o1 ≡ o0 → FollowAnswers o1 o2 → o3 ≡ Stops ∷ o2
    → FollowScans accepted o3 o4 → FollowTicks o4 o5 → own ≡ o5 → ((test : Command → Bool) → count_by test own ≡ count_by test seen) → IsAllGiven seen accepted
all-given accepted o0 o1 o2 o3 o4 o5 own seen none one two three four five same counted = record {
  answers = two.0;
  answered = two.1;
  maps = four.0;
  scanned = four.1;
  moments = five.0;
  all = λ test. sym (counted test) ∙ ap (count_by test) same
      ∙ counted-so test two.0 (map Scans four.0) (map Ticks five.0) o0 o1 o2 o3 o4 o5 none one two.2 three four.2 five.1;
}

-- the passes of six seats came back to the seventh
pub all-passes : (p0 p1 p2 p3 p4 p5 passes workers seats : ℕ) → p0 ≡ 1 → p1 ≡ p0 → p2 ≡ p1 + workers → workers ≡ 4 → p3 ≡ p2 → p4 ≡ p3 + 1 → p5 ≡ p4 + 1
    → passes ≡ p5 → seats ≡ 7 → passes ≡ seats
all-passes p0 p1 p2 p3 p4 p5 passes workers seats e0 e1 e2 four e3 e4 e5 same seven = omega (arith, e0, e1, e2, four, e3, e4, e5, same, seven)

-- where one is there
pub some-then : {A : Type 0} (o : Option A) (Q : Type 0) → is_some o ≡ true → IfSome o (λ v. Q) → Q
some-then (Some v) Q is q = q
some-then None Q is q = absurd (true≢false (sym is))

-- of what is there
pub some-of : {A : Type 0} (o : Option A) (x : A) (P : A → Type 0) → o ≡ Some x → IfSome o P → P x
some-of o x P is p = subst (λ z. IfSome z P) is p

-- ---- the opening

pub opened-at : {A : Type 0} (port : ℕ) (boot : List ℕ) (told : A → ClockTold) (xs : List A) (start : Start) → OfFirst (λ x. AreFirstWords port (told x) boot) xs
    → start ≡ start_with boot → IsOpenedAt port start
opened-at port boot told [] start none is = absurd none
opened-at port boot told (x ∷ xs) start first is = (first.moment, is ∙ ap start_with first.words)

pub all-accepted : (port accepted : ℕ) (start : Start) (seat : SeatTold Command) → IsOpenedAt port start → HasSeenAll start seat accepted → AllAccepted port accepted
all-accepted port accepted start seat opened seen = record {
  commands = seat.seen;
  moment = opened.0;
  serving = seen.serving;
  stands = subst (λ s. StandsFor seen.serving s seat.seen) opened.1 seen.stands;
  given = seen.given;
}
