-- How many bytes stand for the parts of an event where they are escaped.
use Rattle.std.proofs.Common.{◌≡◌, ℕ, ◌+◌, ◌<◌, ◌≤◌, ◌^◌, Bool, true, false, codes, refl, arith}
use Rattle.cds_base.proofs.Wide.{wide, wide-append}
use Rattle.cds_object.specs.Writing.{attribute, number_attribute}
use Rattle.cds_object.proofs.WideAttributes.{wide-attribute, wide-number}
use Rattle.cds_object.specs.declared.event.Class.{Class}
use Rattle.cds_object.specs.declared.event.Class.TheVariants.{Container, Track}
use Rattle.cds_lastchange.specs.Spelled.{change_text, flag_text, flagged_text, class_text, added_text}

pub wide-change : (id update : ℕ) → id < 2 ^ 32 → update < 2 ^ 32 → wide (change_text id update) ≤ 61
unfolding change_text
wide-change id update i u =
    let all = wide-append (number_attribute (codes "objID") id) (number_attribute (codes "updateID") update) in
    let a = wide-number (codes "objID") id i in
    let b = wide-number (codes "updateID") update u in
    let c : wide (codes "objID") ≡ 5 = refl in
    let d : wide (codes "updateID") ≡ 8 = refl in
    omega (arith, all, a, b, c, d)

pub wide-flag : (st : Bool) → wide (flag_text st) ≡ 1
wide-flag true = refl
wide-flag false = refl

pub wide-flagged : (id update : ℕ) (st : Bool) → id < 2 ^ 32 → update < 2 ^ 32 → wide (flagged_text id update st) ≤ 84
unfolding flagged_text
wide-flagged id update st i u =
    let all = wide-append (change_text id update) (attribute (codes "stUpdate") (flag_text st)) in
    let a = wide-change id update i u in
    let b = wide-attribute (codes "stUpdate") (flag_text st) in
    let c = wide-flag st in
    let d : wide (codes "stUpdate") ≡ 8 = refl in
    omega (arith, all, a, b, c, d)

pub wide-class : (class : Class) → wide (class_text class) ≤ 32
unfolding class_text
wide-class Container = omega arith
wide-class Track = omega arith

pub wide-added : (parent : ℕ) (class : Class) → parent < 2 ^ 32 → wide (added_text parent class) ≤ 89
unfolding added_text
wide-added parent class p =
    let all = wide-append (number_attribute (codes "objParentID") parent) (attribute (codes "objClass") (class_text class)) in
    let a = wide-number (codes "objParentID") parent p in
    let b = wide-attribute (codes "objClass") (class_text class) in
    let c = wide-class class in
    let d : wide (codes "objParentID") ≡ 11 = refl in
    let e : wide (codes "objClass") ≡ 8 = refl in
    omega (arith, all, a, b, c, d, e)
