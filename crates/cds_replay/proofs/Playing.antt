-- A replay under way, at its next piece and at its end.
use Rattle.std.proofs.Common.{◌≡◌, ℕ, ◌+◌, ◌-◌, ◌≤◌, min, ◌^◌, List, [], ◌++◌, take, drop, Option, Some, None, Result, Ok, Err, IfErr, OnOk, refl, ap, sym, subst, ◌∙◌, append_assoc, arith}
use Rattle.std.proofs.lemmas.List.{append-nil, take-append-drop}
use Rattle.cds_outside.specs.Outside.{raised, Told}
use Rattle.cds_replay.specs.declared.script.Script.{Script}
use Rattle.cds_replay.specs.declared.script.ScriptStop.TheVariants.{Outside, Limit as PastLimit, Refused as RefusedAt}
use Rattle.cds_replay.specs.declared.play.ReplayError.{ReplayError}
use Rattle.cds_replay.specs.declared.play.ReplayError.TheVariants.{Line, ReadFault, WriteFault, Limit, Refused, Mem}
use Rattle.cds_replay.specs.Script.{stop_text, GoesOn}
use Rattle.cds_replay.specs.Wire.{EndsOver, OnWire}
use Rattle.cds_replay.specs.Replay.{OnLine, OnRefused, OnLimit, Holds, Reports, EndsWith, Closes, EndsIn, Played, StopsIn, Stopped, Under}

-- a text after another
holds-on : (before mid after : Option (List ℕ)) (first last : List ℕ) → Holds before first mid → Holds mid last after → Holds before (first ++ last) after
holds-on before mid after first last one two = λ held told. two (held ++ first) (one held told) ∙ ap Some (append_assoc held first last)

-- the same told of other parts of the bytes and of what was written
pub goes-as : (carried : List ℕ → List ℕ) (script : Script) (before front piece written added more : List ℕ) → GoesOn carried script ((before ++ front) ++ piece) ((written ++ added) ++ more) →
    GoesOn carried script (before ++ (front ++ piece)) (written ++ (added ++ more))
goes-as carried script before front piece written added more goes =
    subst (λ bytes. GoesOn carried script bytes (written ++ (added ++ more))) (append_assoc before front piece)
    (subst (GoesOn carried script ((before ++ front) ++ piece)) (append_assoc written added more) goes)

-- ---- a piece

-- nothing of a piece was taken yet
pub played-begin : (carried : List ℕ → List ℕ) (before written : List ℕ) (script : Script) (held : Option (List ℕ)) → GoesOn carried script before written →
    Played carried before written [] held held script
played-begin carried before written script held goes = record {
  added = [];
  goes = subst (λ bytes. GoesOn carried script bytes (written ++ [])) (sym (append-nil before)) (subst (GoesOn carried script before) (sym (append-nil written)) goes);
  holds = λ bytes told. told ∙ ap Some (sym (append-nil bytes));
}

-- a part of a piece after another that was taken
pub played-on : (carried : List ℕ → List ℕ) (before written front part piece : List ℕ) (held mid after : Option (List ℕ)) (script later : Script) →
    piece ≡ front ++ part → (played : Played carried before written front held mid script) →
    Played carried (before ++ front) (written ++ played.added) part mid after later → Played carried before written piece held after later
played-on carried before written front part piece held mid after script later is played last = record {
  added = played.added ++ last.added;
  goes = subst (λ bytes. GoesOn carried later (before ++ bytes) (written ++ (played.added ++ last.added))) (sym is)
      (goes-as carried later before front part written played.added last.added last.goes);
  holds = holds-on held mid after played.added last.added played.holds last.holds;
}

-- what is still written, where something was
closes-on : (carried : List ℕ → List ℕ) (bytes whole written added : List ℕ) (refused : Option ℕ) (status : ℕ) (last : List ℕ) (held mid after : Option (List ℕ)) → bytes ≡ whole →
    Holds held added mid → Closes carried bytes (written ++ added) refused status last mid after → Closes carried whole written refused status last held after
closes-on carried bytes whole written added refused status last held mid after same holds closes = record {
  ending = closes.ending;
  is = subst (λ bs. EndsOver carried bs closes.ending) same closes.is;
  at = closes.at;
  ends = closes.ends;
  front = added ++ closes.front;
  text = closes.text ∙ append_assoc written added (closes.front ++ last) ∙ ap (λ text. written ++ text) (sym (append_assoc added closes.front last));
  holds = subst (λ text. Holds held text after) (sym (append_assoc added closes.front last)) (holds-on held mid after added (closes.front ++ last) holds closes.holds);
}

stopped-on : (carried : List ℕ → List ℕ) (e : ReplayError) (bytes whole written added : List ℕ) (held mid after : Option (List ℕ)) → bytes ≡ whole → Holds held added mid →
    Stopped carried e bytes (written ++ added) mid after → Stopped carried e whole written held after
stopped-on carried (Line line) bytes whole written added held mid after same holds stops =
    closes-on carried bytes whole written added None 1 (stop_text (Outside line)) held mid after same holds stops
stopped-on carried ReadFault bytes whole written added held mid after same holds stops = tt
stopped-on carried WriteFault bytes whole written added held mid after same holds stops = tt
stopped-on carried Limit bytes whole written added held mid after same holds stops =
    closes-on carried bytes whole written added None 6 (stop_text PastLimit) held mid after same holds stops
stopped-on carried (Refused line) bytes whole written added held mid after same holds stops =
    closes-on carried bytes whole written added (Some line) 0 (stop_text (RefusedAt line)) held mid after same holds stops
stopped-on carried Mem bytes whole written added held mid after same holds stops = tt

-- a part of a piece that the script stops in
pub played-stops : (e : ReplayError) (carried : List ℕ → List ℕ) (before written front left whole : List ℕ) (held mid after : Option (List ℕ)) (script : Script) →
    (before ++ front) ++ left ≡ whole → (played : Played carried before written front held mid script) →
    Stopped carried e ((before ++ front) ++ left) (written ++ played.added) mid after → Stopped carried e whole written held after
played-stops e carried before written front left whole held mid after script same played =
    stopped-on carried e ((before ++ front) ++ left) whole written played.added held mid after same played.holds

-- ---- a replay

-- before the first piece
pub under-begin : (carried : List ℕ → List ℕ) (script : Script) (told held : Option (List ℕ)) (bytes : List ℕ) → GoesOn carried script [] [] → told ≡ Some bytes →
    Under carried bytes told held held script
under-begin carried script told held bytes goes is = record {
  front = [];
  bytes = bytes;
  parts = refl;
  left = is;
  written = [];
  goes = goes;
  holds = λ held told. told ∙ ap Some (sym (append-nil held));
}

-- the bytes that are left, as a piece and what is behind it
parted : (n : ℕ) (whole front bytes piece : List ℕ) → whole ≡ front ++ bytes → piece ≡ take n bytes → whole ≡ (front ++ piece) ++ drop n bytes
parted n whole front bytes piece parts is =
    parts ∙ ap (λ bs. front ++ bs) (sym (ap (λ p. p ++ drop n bytes) is ∙ take-append-drop n bytes)) ∙ sym (append_assoc front piece (drop n bytes))

-- at a piece that the script goes on after
pub under-piece : (carried : List ℕ → List ℕ) (whole : List ℕ) (told next held mid after : Option (List ℕ)) (script later : Script) (piece : List ℕ) (n : ℕ) →
    (under : Under carried whole told held mid script) → piece ≡ take n under.bytes → next ≡ Some (drop n under.bytes) →
    Played carried under.front under.written piece mid after later → Under carried whole next held after later
under-piece carried whole told next held mid after script later piece n under is left played = record {
  front = under.front ++ piece;
  bytes = drop n under.bytes;
  parts = parted n whole under.front under.bytes piece under.parts is;
  left = left;
  written = under.written ++ played.added;
  goes = played.goes;
  holds = holds-on held mid after under.written played.added under.holds played.holds;
}

-- at a piece that the script stops in
pub under-stops : (e : ReplayError) (carried : List ℕ → List ℕ) (whole : List ℕ) (told held mid after : Option (List ℕ)) (script : Script) (piece : List ℕ) (n : ℕ) →
    (under : Under carried whole told held mid script) → piece ≡ take n under.bytes →
    Stopped carried e ((under.front ++ piece) ++ drop n under.bytes) under.written mid after → Stopped carried e whole [] held after
under-stops e carried whole told held mid after script piece n under is =
    stopped-on carried e ((under.front ++ piece) ++ drop n under.bytes) whole [] under.written held mid after
    (sym (parted n whole under.front under.bytes piece under.parts is)) under.holds

-- at the end of the source
all-taken : (whole front bytes : List ℕ) → whole ≡ front ++ bytes → bytes ≡ [] → front ≡ whole
all-taken whole front bytes parts none = sym (parts ∙ ap (λ bs. front ++ bs) none ∙ append-nil front)

pub under-last : (e : ReplayError) (carried : List ℕ → List ℕ) (whole : List ℕ) (told held mid after : Option (List ℕ)) (script : Script) →
    (under : Under carried whole told held mid script) → under.bytes ≡ [] → Stopped carried e under.front under.written mid after → Stopped carried e whole [] held after
under-last e carried whole told held mid after script under none =
    stopped-on carried e under.front whole [] under.written held mid after (all-taken whole under.front under.bytes under.parts none) under.holds

pub under-well : (carried : List ℕ → List ℕ) (whole : List ℕ) (told held mid after : Option (List ℕ)) (script : Script) →
    (under : Under carried whole told held mid script) → under.bytes ≡ [] → EndsIn carried under.front under.written mid after → EndsIn carried whole [] held after
under-well carried whole told held mid after script under none =
    closes-on carried under.front whole [] under.written None 0 [] held mid after (all-taken whole under.front under.bytes under.parts none) under.holds

-- ---- what all bytes report

pub reported : (carried : List ℕ → List ℕ) (bytes : List ℕ) (refused : Option ℕ) (status : ℕ) (last : List ℕ) (held after : Option (List ℕ)) →
    Closes carried bytes [] refused status last held after → OnWire carried bytes (Reports refused status held after)
reported carried bytes refused status last held after closes =
    (closes.ending, closes.is, record { at = closes.at; is = closes.ends; report = subst (λ text. Holds held text after) (sym closes.text) closes.holds })

pub ends-with : (carried : List ℕ → List ℕ) (bytes : List ℕ) (refused : Option ℕ) (status : ℕ) (last : List ℕ) (held after : Option (List ℕ)) →
    Closes carried bytes [] refused status last held after → OnWire carried bytes (EndsWith last)
ends-with carried bytes refused status last held after closes = (closes.ending, closes.is, (closes.front, closes.text))

-- what holds however a call answers
pub on-ok-any : (result : Result (Unit {0}) ReplayError) (P : Type 0) → P → OnOk result P
on-ok-any (Ok done) P holds = holds
on-ok-any (Err e) P holds = tt

-- what never comes
pub never-limit : (e : ReplayError) (P : Type 0) → OnLimit e ⊥ → OnLimit e P
never-limit (Line line) P none = tt
never-limit ReadFault P none = tt
never-limit WriteFault P none = tt
never-limit Limit P none = absurd none
never-limit (Refused line) P none = tt
never-limit Mem P none = tt

-- what holds where the source tells its bytes
pub ok-told : (result : Result (Unit {0}) ReplayError) (told : Option (List ℕ)) (P : List ℕ → Type 0) →
    ((bytes : List ℕ) → told ≡ Some bytes → OnOk result (P bytes)) → OnOk result (Told told P)
ok-told (Ok done) told P from = from
ok-told (Err e) told P from = tt

pub line-told : (carried : List ℕ → List ℕ) (result : Result (Unit {0}) ReplayError) (told held after : Option (List ℕ)) (P : ℕ → List ℕ → Type 0) →
    ((bytes : List ℕ) → told ≡ Some bytes → IfErr result (λ e. Stopped carried e bytes [] held after)) →
    ((line : ℕ) (bytes : List ℕ) → StopsIn carried bytes [] (Outside line) held after → P line bytes) →
    IfErr result (λ e. OnLine e (λ line. Told told (P line)))
line-told carried (Ok done) told held after P stops from = tt
line-told carried (Err (Line line)) told held after P stops from = λ bytes is. from line bytes (stops bytes is)
line-told carried (Err ReadFault) told held after P stops from = tt
line-told carried (Err WriteFault) told held after P stops from = tt
line-told carried (Err Limit) told held after P stops from = tt
line-told carried (Err (Refused line)) told held after P stops from = tt
line-told carried (Err Mem) told held after P stops from = tt

pub refused-told : (carried : List ℕ → List ℕ) (result : Result (Unit {0}) ReplayError) (told held after : Option (List ℕ)) (P : ℕ → List ℕ → Type 0) →
    ((bytes : List ℕ) → told ≡ Some bytes → IfErr result (λ e. Stopped carried e bytes [] held after)) →
    ((line : ℕ) (bytes : List ℕ) → StopsIn carried bytes [] (RefusedAt line) held after → P line bytes) →
    IfErr result (λ e. OnRefused e (λ line. Told told (P line)))
refused-told carried (Ok done) told held after P stops from = tt
refused-told carried (Err (Line line)) told held after P stops from = tt
refused-told carried (Err ReadFault) told held after P stops from = tt
refused-told carried (Err WriteFault) told held after P stops from = tt
refused-told carried (Err Limit) told held after P stops from = tt
refused-told carried (Err (Refused line)) told held after P stops from = λ bytes is. from line bytes (stops bytes is)
refused-told carried (Err Mem) told held after P stops from = tt

pub limit-told : (carried : List ℕ → List ℕ) (result : Result (Unit {0}) ReplayError) (told held after : Option (List ℕ)) (P : List ℕ → Type 0) →
    ((bytes : List ℕ) → told ≡ Some bytes → IfErr result (λ e. Stopped carried e bytes [] held after)) →
    ((bytes : List ℕ) → StopsIn carried bytes [] PastLimit held after → P bytes) →
    IfErr result (λ e. OnLimit e (Told told P))
limit-told carried (Ok done) told held after P stops from = tt
limit-told carried (Err (Line line)) told held after P stops from = tt
limit-told carried (Err ReadFault) told held after P stops from = tt
limit-told carried (Err WriteFault) told held after P stops from = tt
limit-told carried (Err Limit) told held after P stops from = λ bytes is. from bytes (stops bytes is)
limit-told carried (Err (Refused line)) told held after P stops from = tt
limit-told carried (Err Mem) told held after P stops from = tt

-- a count rises by no more than it is raised by
pub moved-by : (old by new : ℕ) → new ≡ raised old by → new ≤ old + by
moved-by old by new is = below new (old + by) (2 ^ 64 - 1) is
  where
    below : (n a b : ℕ) → n ≡ min a b → n ≤ a
    below n a b is = omega arith

-- a count that rose twice
pub raised-twice : (moved one two : ℕ) → raised (raised moved one) two ≡ raised moved (one + two)
raised-twice moved one two = twice moved one two (2 ^ 64 - 1)
  where
    twice : (moved one two top : ℕ) → min (min (moved + one) top + two) top ≡ min (moved + (one + two)) top
    twice moved one two top = omega arith
