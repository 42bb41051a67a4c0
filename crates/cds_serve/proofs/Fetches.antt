-- How a request for a file is answered, put together from its parts.
use Rattle.std.proofs.Common.{◌≡◌, ◌⊎◌, inl, inr, ◌+◌, ◌-◌, ◌≤◌, ◌<◌, ◌^◌, min, zero, suc, ℕ, Bool, true, false, List, [], ◌∷◌, ◌++◌, append_assoc, length, take, drop, Option, Some, None, Result, Ok, Err, IfOk, IfErr, OnOk, OnErr, refl, sym, ap, subst, ◌∙◌, cond, arith, length-append, unwrap_or, is_some, true≢false}
use Rattle.std.specs.Prelude.{⊤}
use Rattle.std.proofs.lemmas.List.{take_all}
use Rattle.cds_base.specs.declared.mem.Mem.{Mem}
use Rattle.cds_outside.specs.Entries.{Contents, FolderTold, HasBytesFrom, and_path}
use Rattle.cds_outside.specs.Outside.{HoldsPart, Rose, SinkTold, Told, raised}
use Rattle.cds_http.specs.declared.message.Message.{Message}
use Rattle.cds_media.specs.Heads.{head_text}
use Rattle.cds_media.specs.Plans.{count_of, is_get, plan_of, start_of}
use Rattle.cds_media.specs.Sent.{OnReadFault, OnShort, OnWriteFault}
use Rattle.cds_media.specs.declared.error.SendError.{SendError}
use Rattle.cds_media.specs.declared.error.SendError.TheVariants.{ReadFault, WriteFault, Short}
use Rattle.cds_media.specs.declared.slice.Plan.{Plan}
use Rattle.cds_server.specs.Media.{path_text}
use Rattle.cds_control.specs.Replies.{empty_reply, fault_reply}
use Rattle.cds_server.specs.declared.media.Media.{Media}
use Rattle.cds_serve.specs.Fetched.{AsksOnce, Bare, CameBack, Fetches, FileAnswer, IsBody, IsRefusal, OnOpens, Opens, OpensAt, WritesFrom, WritesUnless, answer_by, answer_for, body_of, count_for, takes_file}
use Rattle.cds_serve.specs.Told.{Writes}
use Rattle.cds_serve.proofs.Rounds.{rose-on}
use Rattle.cds_serve.specs.declared.fetching.Fate.{Fate}
use Rattle.cds_serve.specs.declared.fetching.Fate.TheVariants.{Starved, Refused, Unopened, Sent}

-- ---- refusals

-- no file was opened: the answer was written, or memory ran out
pub refused : (m : Message) (media : Option Media) (answer : FileAnswer) (text : Result (List ℕ) Mem) (fate : Fate) (folder : FolderTold) (old new : SinkTold)
    → answer_for media m ≡ answer → IfOk text (λ t. IsRefusal answer t) → IfOk text (λ t. (fate ≡ Refused) × Writes t old new)
    → OnErr text ((fate ≡ Starved) × Writes (fault_reply 603) old new) → Fetches m media fate folder folder old new
refused m media answer (Ok text) fate folder old new is owed wrote starved =
    subst (λ f. Fetches m media f folder folder old new) (sym wrote.0) (record {
      text = text;
      owed = subst (λ (a : FileAnswer). IsRefusal a text) (sym is) owed;
      written = wrote.1;
      touched = refl;
    })
refused m media answer (Err memory) fate folder old new is owed wrote starved =
    subst (λ f. Fetches m media f folder folder old new) (sym starved.0) (record {
      text = fault_reply 603;
      owed = refl;
      written = starved.1;
      touched = inl refl;
    })

-- the answer to GET and HEAD of a file, by what is planned of it
pub planned : (media : Media) (m : Message) (plan : Plan) → takes_file m.start ≡ true → plan ≡ plan_of media.size m
    → answer_for (Some media) m ≡ answer_by media plan
planned media m plan takes is = (λ i. cond (takes i) (answer_by media (plan_of media.size m)) (Bare 405)) ∙ ap (answer_by media) (sym is)

-- the answer to another method
pub untaken : (media : Media) (m : Message) → takes_file m.start ≡ false → answer_for (Some media) m ≡ Bare 405
untaken media m takes = (λ i. cond (takes i) (answer_by media (plan_of media.size m)) (Bare 405))

-- ---- what is sent

none-is : {A P : Type 0} (b : A) → None ≡ Some b → P
none-is b e = absurd (true≢false (sym (ap is_some e)))

-- the bytes that follow the head
sent-bytes : (m : Message) (size : ℕ) (plan : Plan) (has_body : Bool) (bytes : List ℕ) → is_get m.start ≡ has_body
    → take (count_for has_body size plan) (drop (start_of plan) bytes) ≡ body_of m size plan bytes
sent-bytes m size plan true bytes is = sym (ap (λ (b : Bool). cond b (take (count_of size plan) (drop (start_of plan) bytes)) []) is)
sent-bytes m size plan false bytes is = sym (ap (λ (b : Bool). cond b (take (count_of size plan) (drop (start_of plan) bytes)) []) is)

module _ (m : Message) (media : Media) (plan : Plan) (has_body : Bool) (gets : is_get m.start ≡ has_body) (is : answer_for (Some media) m ≡ Opens media plan)
    (folder after : FolderTold) (old new : SinkTold) where
  -- the file was opened
  opened : (P : Media → Plan → Type 0) → P media plan → OnOpens (answer_for (Some media) m) P
  opened P p = subst (λ (a : FileAnswer). OnOpens a P) (sym is) p

  sent-with : (contents : Option Contents) → folder.contents ≡ contents
      → Told contents (λ c. WritesFrom (start_of plan) (count_for has_body media.size plan) (head_text media.size plan) (c (path_text media.path)) (Rose folder.file_faults after.file_faults) old new)
      → AsksOnce (path_text media.path) folder after → CameBack folder after → Fetches m (Some media) Sent folder after old new
  sent-with None told wrote asks back = record {
    text = head_text media.size plan ++ [];
    owed = opened _ ([], refl, λ c given. none-is c (sym told ∙ given));
    written = λ c given. none-is c (sym told ∙ given);
    touched = (opened _ asks, back);
  }
  sent-with (Some c) told wrote asks back = by (c (path_text media.path)) refl (wrote c refl)
    where
      by : (held : Option (List ℕ)) → c (path_text media.path) ≡ held
          → WritesFrom (start_of plan) (count_for has_body media.size plan) (head_text media.size plan) held (Rose folder.file_faults after.file_faults) old new
          → Fetches m (Some media) Sent folder after old new
      by None none w = absurd w
      by (Some bytes) has w =
          let body = body_of m media.size plan bytes in record {
            text = head_text media.size plan ++ body;
            owed = opened _ (
              body,
              refl,
              λ d given. subst (λ (k : Option (List ℕ)). IsBody m media.size plan k body) (sym (ap (λ (e : Contents). e (path_text media.path)) (same-told d given) ∙ has)) refl,
            );
            written = λ d given. subst (λ (b : List ℕ). WritesUnless (Rose folder.file_faults after.file_faults) (head_text media.size plan ++ b) old new)
                (sent-bytes m media.size plan has_body bytes gets) w;
            touched = (opened _ asks, back);
          }
        where
          same-told : (d : Contents) → folder.contents ≡ Some d → d ≡ c
          same-told d given = ap (λ (o : Option Contents). unwrap_or o c) (sym given ∙ told)

  -- by how the opening and the sending ended
  pub fetched-at : (fate : Fate)
      → OpensAt (path_text media.path) (start_of plan) (count_for has_body media.size plan) (head_text media.size plan) fate folder after old new
      → Fetches m (Some media) fate folder after old new
  fetched-at Starved o = record { text = fault_reply 603; owed = refl; written = o.0; touched = touched o.1 }
    where
      touched : (after ≡ folder) ⊎ AsksOnce (path_text media.path) folder after
          → (after ≡ folder) ⊎ OnOpens (answer_for (Some media) m) (λ media plan. AsksOnce (path_text media.path) folder after)
      touched (inl same) = inl same
      touched (inr asks) = inr (opened _ asks)
  fetched-at Refused o = absurd o
  fetched-at Unopened o = record { text = empty_reply 404; owed = opened _ refl; written = o.0; touched = (opened _ o.1, o.2) }
  fetched-at Sent o = sent-with folder.contents refl o.0 o.1 o.2

-- memory ran out before the file was opened
pub starved-before : (m : Message) (media : Option Media) (fate : Fate) (folder : FolderTold) (old new : SinkTold) → fate ≡ Starved
    → Writes (fault_reply 603) old new → Fetches m media fate folder folder old new
starved-before m media fate folder old new is wrote =
    subst (λ f. Fetches m media f folder folder old new) (sym is) (record { text = fault_reply 603; owed = refl; written = wrote; touched = inl refl })

-- ---- head and bytes

-- a prefix of a head is one of the head and what follows it
front-holds : (held head more : List ℕ) (after : Option (List ℕ)) → HoldsPart held head after → HoldsPart held (head ++ more) after
front-holds held head more after h =
    (h.0, omega (arith, h.1, length-append head more), h.2 ∙ ap (λ l. Some (held ++ l)) (sym (take-within h.0 head more h.1)))
  where
    take-within : {A : Type 0} (n : ℕ) (xs ys : List A) → n ≤ length xs → take n (xs ++ ys) ≡ take n xs
    take-within zero xs ys within = refl
    take-within (suc n) [] ys within = absurd (omega (arith, within))
    take-within (suc n) (x ∷ xs) ys within = ap (λ l. x ∷ l) (take-within n xs ys (omega (arith, within)))

-- a prefix of what follows a head that was taken
behind-holds : (held head more : List ℕ) (after : Option (List ℕ)) → HoldsPart (held ++ head) more after → HoldsPart held (head ++ more) after
behind-holds held head more after h = (
  length head + h.0,
  omega (arith, h.1, length-append head more),
  h.2 ∙ ap Some (append_assoc held head (take h.0 more) ∙ ap (λ l. held ++ l) (sym (take-front head more h.0))),
)
  where
    take-front : {A : Type 0} (xs ys : List A) (n : ℕ) → take (length xs + n) (xs ++ ys) ≡ xs ++ take n ys
    take-front [] ys n = ap (λ k. take k ys) (zero-plus n)
      where
        zero-plus : (n : ℕ) → 0 + n ≡ n
        zero-plus n = omega arith
    take-front (x ∷ xs) ys n = ap (λ k. take k (x ∷ xs ++ ys)) (one-up (length xs) n) ∙ ap (λ l. x ∷ l) (take-front xs ys n)
      where
        one-up : (k n : ℕ) → suc k + n ≡ suc (k + n)
        one-up k n = omega arith

writes-whole : (Cause : Type 0) (held text : List ℕ) (old new : SinkTold) → new.holds ≡ Some (held ++ text)
    → HoldsPart held text new.holds × ((new.holds ≡ Some (held ++ text)) ⊎ (Rose old.faults new.faults ⊎ Cause))
writes-whole Cause held text old new is =
    ((length text, omega arith, is ∙ ap (λ l. Some (held ++ l)) (sym (take_all (length text) text (omega arith)))), inl is)

-- the head was cut off
pub head-cut : (Cause : Type 0) (head more : List ℕ) (old new : SinkTold) → Told old.holds (λ held. HoldsPart held head new.holds)
    → Rose old.faults new.faults → WritesUnless Cause (head ++ more) old new
head-cut Cause head more old new part rose held told = (front-holds held head more new.holds (part held told), inr (inl rose))

-- the head was written, and then bytes, by how the sending ended
pub body-sent : (head bytes : List ℕ) (count : ℕ) (left : Option (List ℕ)) (old mid new : SinkTold) (before after : ℕ) (result : Result ⊤ SendError)
    → left ≡ Some bytes → Told old.holds (λ held. mid.holds ≡ Some (held ++ head)) → old.faults ≤ mid.faults
    → OnOk result (Told left (λ bytes. Told mid.holds (λ held. new.holds ≡ Some (held ++ take count bytes))))
    → OnErr result (Told left (λ bytes. Told mid.holds (λ held. HoldsPart held (take count bytes) new.holds)))
    → IfErr result (λ e. OnShort e (λ at. (at < count) × Told left (λ bytes. length bytes ≡ at)))
    → IfErr result (λ e. OnShort e (λ _. Told left (λ bytes. Told mid.holds (λ held. new.holds ≡ Some (held ++ bytes)))))
    → IfErr result (λ e. OnReadFault e (Rose before after)) → IfErr result (λ e. OnWriteFault e (Rose mid.faults new.faults))
    → WritesUnless (Rose before after) (head ++ take count bytes) old new
body-sent head bytes count left old mid new before after (Ok value) told headed up whole part short all read write held holds =
    writes-whole _ held (head ++ take count bytes) old new (whole bytes told (held ++ head) (headed held holds) ∙ ap Some (append_assoc held head (take count bytes)))
body-sent head bytes count left old mid new before after (Err ReadFault) told headed up whole part short all read write held holds =
    (behind-holds held head (take count bytes) new.holds (part bytes told (held ++ head) (headed held holds)), inr (inr read))
body-sent head bytes count left old mid new before after (Err WriteFault) told headed up whole part short all read write held holds =
    (behind-holds held head (take count bytes) new.holds (part bytes told (held ++ head) (headed held holds)), inr (inl (rose-on old.faults mid.faults new.faults up write)))
body-sent head bytes count left old mid new before after (Err (Short at)) told headed up whole part short all read write held holds =
    let many : length bytes ≡ at = short.1 bytes told in
    let few = short.0 in
    let every : take count bytes ≡ bytes = take_all count bytes (omega (arith, many, few)) in
    writes-whole _ held (head ++ take count bytes) old new
    (all bytes told (held ++ head) (headed held holds) ∙ ap Some (append_assoc held head bytes) ∙ ap (λ l. Some (held ++ (head ++ l))) (sym every))

-- ---- the file

-- another cause
pub writes-as : (Cause Other : Type 0) (text : List ℕ) (old new : SinkTold) → (Cause → Other) → WritesUnless Cause text old new → WritesUnless Other text old new
writes-as Cause Other text old new f w held told = by (w held told)
  where
    by : HoldsPart held text new.holds × ((new.holds ≡ Some (held ++ text)) ⊎ (Rose old.faults new.faults ⊎ Cause))
        → HoldsPart held text new.holds × ((new.holds ≡ Some (held ++ text)) ⊎ (Rose old.faults new.faults ⊎ Other))
    by (part, inl whole) = (part, inl whole)
    by (part, inr (inl rose)) = (part, inr (inl rose))
    by (part, inr (inr cause)) = (part, inr (inr (f cause)))

-- what was sent of the bytes that the file had left
pub writes-of : (at count : ℕ) (head : List ℕ) (held left : Option (List ℕ)) (Cause : Type 0) (old new : SinkTold) → HasBytesFrom at held left
    → Told left (λ bytes. WritesUnless Cause (head ++ take count bytes) old new) → WritesFrom at count head held Cause old new
writes-of at count head None left Cause old new none w = absurd none
writes-of at count head (Some bytes) left Cause old new has w = w (drop at bytes) has

-- the faults of a file are counted once it is back
pub rose-home : (old new before faults : ℕ) → before ≡ 0 → Rose before faults → new ≡ raised old faults → Rose old new
rose-home old new before faults none (inl some) is = once old new before faults (2 ^ 64 - 1) none some is
  where
    once : (old new before faults top : ℕ) → before ≡ 0 → before < faults → new ≡ min (old + faults) top → (old < new) ⊎ (top ≤ new)
    once old new before faults top none some is = grind (arith, none, some, is)
rose-home old new before faults none (inr most) is = once old new faults (2 ^ 64 - 1) most is
  where
    once : (old new faults top : ℕ) → top ≤ faults → new ≡ min (old + faults) top → (old < new) ⊎ (top ≤ new)
    once old new faults top most is = grind (arith, most, is)

-- the file was opened and came back
module _ (path : List ℕ) (faults : ℕ) (old mid new : FolderTold) (opened : mid ≡ record old { opened = raised old.opened 1; asked = and_path path old.asked })
    (returned : new ≡ record mid { returned = raised mid.returned 1; file_faults = raised mid.file_faults faults }) where
  whole : new
      ≡ record old { opened = raised old.opened 1; returned = raised old.returned 1; asked = and_path path old.asked; file_faults = raised old.file_faults faults }
  whole = returned ∙ ap (λ (t : FolderTold). record t { returned = raised t.returned 1; file_faults = raised t.file_faults faults }) opened

  pub came-back : CameBack old new
  came-back = (ap (λ (t : FolderTold). t.opened) whole, ap (λ (t : FolderTold). t.returned) whole)

  pub came-faults : new.file_faults ≡ raised old.file_faults faults
  came-faults = ap (λ (t : FolderTold). t.file_faults) whole

  pub asks-once : old.file_faults ≤ new.file_faults → AsksOnce path old new
  asks-once up = (
    whole
        ∙ ap (λ (t : FolderTold). record old { opened = t.opened; returned = t.returned; asked = and_path path old.asked; file_faults = t.file_faults }) (sym whole),
    up,
  )

-- the file was not opened
pub asked-in-vain : (path : List ℕ) (old new : FolderTold) → new ≡ record old { asked = and_path path old.asked; file_faults = new.file_faults }
    → old.file_faults ≤ new.file_faults → AsksOnce path old new
asked-in-vain path old new is up = (
  is
      ∙ ap (λ (t : FolderTold). record old { opened = t.opened; returned = t.returned; asked = and_path path old.asked; file_faults = new.file_faults }) (sym is),
  up,
)

-- 404 was written, or memory ran out
pub unopened : (path : List ℕ) (at count : ℕ) (head : List ℕ) (text : Result (List ℕ) Mem) (fate : Fate) (folder after : FolderTold) (old new : SinkTold)
    → IfOk text (λ t. t ≡ empty_reply 404) → IfOk text (λ t. (fate ≡ Unopened) × Writes t old new)
    → OnErr text ((fate ≡ Starved) × Writes (fault_reply 603) old new) → AsksOnce path folder after → Rose folder.file_faults after.file_faults
    → OpensAt path at count head fate folder after old new
unopened path at count head (Ok text) fate folder after old new is wrote starved asks rose =
    subst (λ f. OpensAt path at count head f folder after old new) (sym wrote.0) (subst (λ t. Writes t old new) is wrote.1, asks, rose)
unopened path at count head (Err memory) fate folder after old new is wrote starved asks rose =
    subst (λ f. OpensAt path at count head f folder after old new) (sym starved.0) (starved.1, inr asks)

-- by other names for the same
pub opens-as : (path path2 : List ℕ) (at at2 count count2 : ℕ) (head head2 : List ℕ) (fate : Fate) (folder after : FolderTold) (old new : SinkTold)
    → path ≡ path2 → at ≡ at2 → count ≡ count2 → head ≡ head2 → OpensAt path at count head fate folder after old new
    → OpensAt path2 at2 count2 head2 fate folder after old new
opens-as path path2 at at2 count count2 head head2 fate folder after old new p a n h o =
    subst (λ (x : List ℕ). OpensAt x at2 count2 head2 fate folder after old new) p
    (subst (λ (x : ℕ). OpensAt path x count2 head2 fate folder after old new) a
    (subst (λ (x : ℕ). OpensAt path at x head2 fate folder after old new) n
    (subst (λ (x : List ℕ). OpensAt path at count x fate folder after old new) h o)))

-- what is planned is sent, by other names for the same file and plan
pub slice-fetched : (media other : Media) (plan chosen : Plan) (has_body : Bool) (m : Message) (fate : Fate) (folder after : FolderTold) (old new : SinkTold)
    → other ≡ media → chosen ≡ plan → has_body ≡ is_get m.start → answer_for (Some media) m ≡ Opens media plan
    → ((m : Message) → is_get m.start ≡ has_body → answer_for (Some other) m ≡ Opens other chosen
    → Fetches m (Some other) fate folder after old new)
    → Fetches m (Some media) fate folder after old new
slice-fetched media other plan chosen has_body m fate folder after old new same planned gets is made =
    subst (λ (x : Media). Fetches m (Some x) fate folder after old new) same
    (made m (sym gets) (subst (λ (x : Media). answer_for (Some x) m ≡ Opens x chosen) (sym same) (is ∙ ap (Opens media) (sym planned))))

-- memory ran out, so the folder is as it was
pub unasked : (old new : FolderTold) → new ≡ record old { asked = old.asked; file_faults = new.file_faults } → new.file_faults ≡ old.file_faults
    → new ≡ old
unasked old new is same = is ∙ (λ i. record old { asked = old.asked; file_faults = same i })
