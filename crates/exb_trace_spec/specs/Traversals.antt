-- Ways of going through a trace from its first line on, which the rules share. A checker goes through it once in the
-- same order: for `EachLine` it keeps what a rule asks of the lines before, and for `EachStep` the lines of one step.
use Rattle.std.specs.Prelude.{◌≡◌, Bool, true, false, if◌then◌else◌, List, [], ◌∷◌, ◌++◌}
use Rattle.exb_model.specs.Traces.{TraceLine, In, Beat}

-- ---- each element
abbrev pub Each : {A : Type 0} → (A → Type 0) → List A → Type 0
Each P [] = Unit {0}
Each P (x ∷ xs) = P x × Each P xs

-- ---- each line, and what stands before it
abbrev pub EachSince : (List TraceLine → TraceLine → Type 0) → List TraceLine → List TraceLine → Type 0
EachSince P before [] = Unit {0}
EachSince P before (l ∷ ls) = P before l × EachSince P (before ++ l ∷ []) ls

abbrev pub EachLine : (List TraceLine → TraceLine → Type 0) → List TraceLine → Type 0
EachLine P lines = EachSince P [] lines

-- what holds of the lines up to each place
abbrev pub AtEachPlace : (List TraceLine → Type 0) → List TraceLine → Type 0
AtEachPlace P lines = P [] × EachLine (λ before l. P (before ++ l ∷ [])) lines

-- ---- each step
-- a step reaches from what comes in, or from a beat, to before the next one
abbrev pub begins : TraceLine → Bool
begins (In n k f) = true
begins Beat = true
begins _ = false

abbrev pub until_next : List TraceLine → List TraceLine
until_next [] = []
until_next (l ∷ ls) = if begins l then [] else l ∷ until_next ls

-- what holds of the first line of each step and those that follow it in the step
abbrev pub EachStep : (TraceLine → List TraceLine → Type 0) → List TraceLine → Type 0
EachStep P [] = Unit {0}
EachStep P (l ∷ ls) = (begins l ≡ true → P l (until_next ls)) × EachStep P ls
