-- How long a body is at most.
use Rattle.std.proofs.Common.{◌≡◌, ℕ, ◌+◌, ◌*◌, ◌<◌, ◌≤◌, List, [], ◌∷◌, ◌++◌, length, codes, refl, arith, length-append}
use Rattle.std.specs.List.{flat_map, AllByRecursion}
use Rattle.std.specs.Fmt.{decimal}
use Rattle.cds_base.specs.Escape.{escaped}
use Rattle.cds_base.proofs.Wide.{wide, wide-append, short-decimal}
use Rattle.cds_object.specs.declared.event.Event.{Event}
use Rattle.cds_object.specs.declared.event.Event.TheVariants.{ObjAdd, ObjMod, ObjDel, StDone}
use Rattle.cds_lastchange.specs.Spelled.{change_text, flagged_text, added_text, event_text, opening, closing, spelled, IsNumbered}
use Rattle.cds_lastchange.proofs.WideEvents.{wide-change, wide-flagged, wide-added}
use Rattle.cds_notify.specs.Propertyset.{property, pair_text, further_text, pairs_text, set_opening, propertyset_text}
use Rattle.cds_notify.specs.Laws.{IsPair, AreNumbers}
use Rattle.cds_notify.proofs.Pieces.{long-property}

-- an event has at most 188 bytes
wide-event : (event : Event) → IsNumbered event → wide (event_text event) ≤ 188
wide-event (ObjAdd id update st parent class) (i, u, p) =
    let a = wide-append ((codes "<objAdd" ++ flagged_text id update st) ++ added_text parent class) (codes "/>") in
    let b = wide-append (codes "<objAdd" ++ flagged_text id update st) (added_text parent class) in
    let c = wide-append (codes "<objAdd") (flagged_text id update st) in
    let d = wide-flagged id update st i u in
    let e = wide-added parent class p in
    let f : wide (codes "<objAdd") ≡ 10 = refl in
    let g : wide (codes "/>") ≡ 5 = refl in
    omega (arith, a, b, c, d, e, f, g)
wide-event (ObjMod id update st) (i, u) =
    let a = wide-append (codes "<objMod" ++ flagged_text id update st) (codes "/>") in
    let c = wide-append (codes "<objMod") (flagged_text id update st) in
    let d = wide-flagged id update st i u in
    let f : wide (codes "<objMod") ≡ 10 = refl in
    let g : wide (codes "/>") ≡ 5 = refl in
    omega (arith, a, c, d, f, g)
wide-event (ObjDel id update st) (i, u) =
    let a = wide-append (codes "<objDel" ++ flagged_text id update st) (codes "/>") in
    let c = wide-append (codes "<objDel") (flagged_text id update st) in
    let d = wide-flagged id update st i u in
    let f : wide (codes "<objDel") ≡ 10 = refl in
    let g : wide (codes "/>") ≡ 5 = refl in
    omega (arith, a, c, d, f, g)
wide-event (StDone id update) (i, u) =
    let a = wide-append (codes "<stDone" ++ change_text id update) (codes "/>") in
    let c = wide-append (codes "<stDone") (change_text id update) in
    let d = wide-change id update i u in
    let f : wide (codes "<stDone") ≡ 10 = refl in
    let g : wide (codes "/>") ≡ 5 = refl in
    omega (arith, a, c, d, f, g)

wide-events : (events : List Event) → AllByRecursion IsNumbered events → wide (flat_map event_text events) ≤ 188 * length events
wide-events [] each = omega arith
wide-events (event ∷ more) each =
    let all = wide-append (event_text event) (flat_map event_text more) in
    let one = wide-event event each.0 in
    let rest = wide-events more each.1 in
    omega (arith, all, one, rest)

wide-spelled : (events : List Event) → AllByRecursion IsNumbered events → wide (spelled events) ≤ 188 * length events + 103
wide-spelled events each =
    let all = wide-append (opening ++ flat_map event_text events) closing in
    let front = wide-append opening (flat_map event_text events) in
    let inside = wide-events events each in
    let a : wide opening ≤ 82 = omega arith in
    let b : wide closing ≤ 21 = omega arith in
    omega (arith, all, front, inside, a, b)

-- a pair has at most 22 bytes with its comma
short-pair : (p : ℕ × ℕ) → IsPair p → length (pair_text p) ≤ 21
short-pair p (h, k) =
    let a = length-append (decimal p.0 ++ codes ",") (decimal p.1) in
    let b = length-append (decimal p.0) (codes ",") in
    let c = short-decimal p.0 h in
    let d = short-decimal p.1 k in
    omega (arith, a, b, c, d)

short-further : (pairs : List (ℕ × ℕ)) → AllByRecursion IsPair pairs → length (flat_map further_text pairs) ≤ 22 * length pairs
short-further [] each = omega arith
short-further (p ∷ pairs) each =
    let all = length-append (further_text p) (flat_map further_text pairs) in
    let one = length-append (codes ",") (pair_text p) in
    let pair = short-pair p each.0 in
    let rest = short-further pairs each.1 in
    omega (arith, all, one, pair, rest)

short-pairs : (pairs : List (ℕ × ℕ)) → AllByRecursion IsPair pairs → length (pairs_text pairs) ≤ 22 * length pairs
short-pairs [] each = omega arith
short-pairs (p ∷ pairs) each =
    let all = length-append (pair_text p) (flat_map further_text pairs) in
    let pair = short-pair p each.0 in
    let rest = short-further pairs each.1 in
    omega (arith, all, pair, rest)

pub short-body : (number : ℕ) (containers : List (ℕ × ℕ)) (events : List Event) → AreNumbers number containers events
    → length (propertyset_text number containers events) ≤ 22 * length containers + 188 * length events + 393
short-body number containers events fit =
    let a = length-append (((set_opening ++ one) ++ two) ++ three) (codes "</e:propertyset>") in
    let b = length-append ((set_opening ++ one) ++ two) three in
    let c = length-append (set_opening ++ one) two in
    let d = length-append set_opening one in
    let e = long-property (codes "SystemUpdateID") (decimal number) in
    let f = long-property (codes "ContainerUpdateIDs") (pairs_text containers) in
    let g = long-property (codes "LastChange") (escaped (spelled events)) in
    let h = short-decimal number fit.update in
    let i = short-pairs containers fit.pairs in
    let j = wide-spelled events fit.changes in
    omega (arith, a, b, c, d, e, f, g, h, i, j)
  where
    one : List ℕ
    one = property (codes "SystemUpdateID") (decimal number)

    two : List ℕ
    two = property (codes "ContainerUpdateIDs") (pairs_text containers)

    three : List ℕ
    three = property (codes "LastChange") (escaped (spelled events))

pub bodies-short : (number : ℕ) (containers : List (ℕ × ℕ)) (events : List Event) → AreNumbers number containers events
    → length events ≤ 262144 → length containers ≤ 524288 → length (propertyset_text number containers events) < 66000000
bodies-short number containers events fit few some = let all = short-body number containers events fit in omega (arith, all, few, some)
