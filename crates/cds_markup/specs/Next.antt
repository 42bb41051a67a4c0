-- Machines over characters. A character leads a machine to another state, or ends what the machine reads, or cannot stand there.

pub data Next (M A : Type 0) : Type 0 where
  Stuck : Next M A
  On : M → Next M A
  Done : A → Next M A

-- The machine inside another one. Its states are states of the outer one, and what it read leads the outer one on.
abbrev pub leads : {M A N B : Type 0} → Next M A → (M → N) → (A → Next N B) → Next N B
leads Stuck on done = Stuck
leads (On m) on done = On (on m)
leads (Done a) on done = done a

-- What holds if a character may stand there: a claim on the state that it leads to, or on what is read.
abbrev pub comes : {M A : Type 0} → Next M A → (M → Type 0) → (A → Type 0) → Type 0
comes Stuck on done = ⊥
comes (On m) on done = on m
comes (Done a) on done = done a
