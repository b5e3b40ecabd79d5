-- A checker of traces: for each rule a machine that goes through the lines once, and its verdict at the end.
-- `specs/CheckerLaws` says what the verdicts tell.
use Rattle.std.specs.Prelude.{ℕ, zero, suc, ◌+◌, ◌-◌, ◌==◌, ◌&&◌, ◌||◌, nat_le, Bool, true, false, not, is_some, if◌then◌else◌, List, [], ◌∷◌, ◌++◌, length, Option, Some, None, option_map, option_and_then}
use Rattle.std.specs.List.{list_all}
use Rattle.std.specs.Str.{bytes_eq}
use Rattle.exb_model.specs.ETags.{read_etag, stripped}
use Rattle.exb_model.specs.Frames.{is_control_frame}
use Rattle.exb_model.specs.Lists.{numbered}
use Rattle.exb_model.specs.Traces.{TraceLine, In, Out, Beat, Journal}
use Rattle.exb_model.specs.Tree.{Shape, on, is_extender, is_external}
use Rattle.exb_extender.specs.Forwarding.{Sent}
use Rattle.exb_trace_spec.specs.Rule5Relays.{entries, relays, is_data_at, is_arrival, sent}
use Rattle.exb_trace_spec.specs.JournalLines.{Entry, Relayed, Ignored, entry_in}
use Rattle.exb_trace_spec.specs.Rule1Places.{journal_at, is_place}
use Rattle.exb_trace_spec.specs.Traversals.{begins}
use Rattle.exb_trace_spec.specs.Rules.{Files}
use Rattle.exb_trace_spec.specs.Rule2Extenders.{Watch, side_number, watched, from_power_on}
use Rattle.exb_trace_spec.specs.Rule3Links.{Place, place_of, upstream_of, in_at, out_at, data_of}

-- ---- going through lines
-- the state of a machine after lines
abbrev pub through : {S : Type 0} → (S → TraceLine → S) → S → List TraceLine → S
through step s [] = s
through step s (l ∷ ls) = through step (step s l) ls

-- a machine for each number
abbrev pub for_each : {S : Type 0} → (ℕ → S → TraceLine → S) → (ℕ → S) → TraceLine → ℕ → S
for_each step s l = λ n. step n (s n) l

-- all numbers below n pass
unfoldable pub all_below : (ℕ → Bool) → ℕ → Bool
all_below test zero = true
all_below test (suc n) = test n && all_below test n

-- all numbers of extenders pass, and all external ports
abbrev pub all_extenders : Shape → (ℕ → Bool) → Bool
all_extenders t test = all_below (λ n. not (is_extender t n) || test n) 65

abbrev pub all_external : Shape → (ℕ → Bool) → Bool
all_external t test = all_below (λ p. not (is_external t p) || test p) 4160

-- ---- what some lines have, compared with what they are to have
-- what is left of it, without these at its front; none where they don't stand there
abbrev pub without_front : List (List ℕ) → List (List ℕ) → Option (List (List ℕ))
without_front [] ys = Some ys
without_front (x ∷ xs) [] = None
without_front (x ∷ xs) (y ∷ ys) = if bytes_eq x y then without_front xs ys else None

-- what is still to come, after a line that has what `pick` gives
abbrev pub match_line : (TraceLine → List (List ℕ)) → Option (List (List ℕ)) → TraceLine → Option (List (List ℕ))
match_line pick left l = option_and_then (without_front (pick l)) left

abbrev pub is_used_up : Option (List (List ℕ)) → Bool
is_used_up None = false
is_used_up (Some []) = true
is_used_up (Some (x ∷ xs)) = false

-- ---- rule 1
-- what is left of the journal, and whether all lines named places that are there
pub record Told : Type 0 where
  pub left : Option (List (List ℕ))
  pub places : Bool

abbrev pub names_place : Shape → TraceLine → Bool
names_place t (In n k f) = is_place t n k
names_place t (Out n k f) = is_place t n k
names_place t _ = true

abbrev pub start_1 : List (List ℕ) → Told
start_1 journal = record { left = Some journal; places = true }

abbrev pub step_1 : Shape → Told → TraceLine → Told
step_1 t s l = record { left = match_line journal_at s.left l; places = s.places && names_place t l }

abbrev pub verdict_1 : Told → Bool
verdict_1 s = is_used_up s.left && s.places

-- ---- rule 2
abbrev pub owes_none : List Sent → Bool
owes_none [] = true
owes_none (s ∷ ss) = false

abbrev pub is_first : ℕ → List ℕ → List Sent → Bool
is_first k f [] = false
is_first k f (s ∷ ss) = (side_number s.side == k) && bytes_eq s.bytes f

abbrev pub may_stand : ℕ → Watch → TraceLine → Bool
may_stand n x (In m k f) = not (m == n) || owes_none x.owed
may_stand n x (Out m k f) = not (m == n) || is_first k f x.owed
may_stand n x Beat = owes_none x.owed
may_stand n x (Journal text) = true

-- the watch of extender n, none once a line stood where it may not
abbrev pub watch_line : ℕ → Option Watch → TraceLine → Option Watch
watch_line n None l = None
watch_line n (Some x) l = if may_stand n x l then Some (watched n x l) else None

abbrev pub is_done : Option Watch → Bool
is_done None = false
is_done (Some x) = owes_none x.owed

abbrev pub start_2 : Shape → ℕ → Option Watch
start_2 t n = Some (from_power_on t n)

abbrev pub step_2 : (ℕ → Option Watch) → TraceLine → ℕ → Option Watch
step_2 s l = for_each watch_line s l

abbrev pub verdict_2 : Shape → (ℕ → Option Watch) → Bool
verdict_2 t s = all_extenders t (λ n. is_done (s n))

-- ---- rule 3
-- how many data frames stand before the first such frame
abbrev pub data_before : List ℕ → List (List ℕ) → Option ℕ
data_before f [] = None
data_before f (x ∷ xs) = if bytes_eq x f then Some 0 else option_map (λ n. length (data_of (x ∷ [])) + n)
    (data_before f xs)

abbrev pub some_within : ℕ → Option ℕ → Bool
some_within most None = false
some_within most (Some n) = nat_le n most

-- A control word comes in time: it went out, before its first sending not more data words than came in.
abbrev pub is_in_time : List (List ℕ) → ℕ → List ℕ → Bool
is_in_time sent came f = some_within came (data_before f sent)

-- a control word that went out, and how many data words went out before it
pub record Control : Type 0 where
  pub frame : List ℕ
  pub before : ℕ

-- the control words among these, where so many data words went out before them
abbrev pub controls_from : ℕ → List (List ℕ) → List Control
controls_from n [] = []
controls_from n (x ∷ xs) = if is_control_frame x then record { frame = x; before = n }
    ∷ controls_from n xs else controls_from (n + 1) xs

-- the data words before the first such control word
abbrev pub before_first : List ℕ → List Control → Option ℕ
before_first f [] = None
before_first f (c ∷ cs) = if bytes_eq c.frame f then Some c.before else before_first f cs

-- A direction of a link: the control words that went out, how many data words went out and how many came in, and those
-- that are still to come; none once a word came in that should not.
pub record Link : Type 0 where
  pub controls : List Control
  pub gone : ℕ
  pub came : ℕ
  pub waiting : Option (List (List ℕ))

abbrev pub new_link : Link
new_link = record { controls = []; gone = 0; came = 0; waiting = Some [] }

abbrev pub put_more : List (List ℕ) → Option (List (List ℕ)) → Option (List (List ℕ))
put_more fs waiting = option_map (λ ws. ws ++ data_of fs) waiting

abbrev pub goes_out : List (List ℕ) → Link → Link
goes_out fs x = record {
  controls = x.controls ++ controls_from x.gone fs;
  gone = x.gone + length (data_of fs);
  came = x.came;
  waiting = put_more fs x.waiting;
}

abbrev pub comes_in : List (List ℕ) → Link → Link
comes_in [] x = x
comes_in (f ∷ fs) x =
    if is_control_frame f then record x {
      waiting = if some_within x.came (before_first f x.controls) then x.waiting
          else None;
    }
    else record x { came = x.came + 1; waiting = option_and_then (without_front (f ∷ [])) x.waiting }

-- words go from one place to the other; a line has at most one of either
abbrev pub link_line : Place → Place → Link → TraceLine → Link
link_line from to x l = comes_in (in_at to l) (goes_out (out_at from l) x)

-- both directions
pub record Links : Type 0 where
  pub up : Link
  pub down : Link

abbrev pub links_line : Shape → ℕ → Links → TraceLine → Links
links_line t n x l = record {
  up = link_line (upstream_of n) (place_of (on t n)) x.up l;
  down = link_line (place_of (on t n)) (upstream_of n) x.down l;
}

abbrev pub start_3 : ℕ → Links
start_3 n = record { up = new_link; down = new_link }

abbrev pub step_3 : Shape → (ℕ → Links) → TraceLine → ℕ → Links
step_3 t s l = for_each (links_line t) s l

abbrev pub verdict_3 : Shape → (ℕ → Links) → Bool
verdict_3 t s = all_extenders t (λ n. is_used_up (s n).up.waiting && is_used_up (s n).down.waiting)

-- ---- rule 4
-- what is left of the capture of each port, and of its output file
pub record Left : Type 0 where
  pub arriving : Option (List (List ℕ))
  pub leaving : Option (List (List ℕ))

abbrev pub left_line : ℕ → Left → TraceLine → Left
left_line p x l = record {
  arriving = match_line (in_at (place_of p)) x.arriving l;
  leaving = match_line (out_at (place_of p)) x.leaving l;
}

abbrev pub start_4 : (ℕ → List (List ℕ)) → (ℕ → List (List ℕ)) → ℕ → Left
start_4 captures outputs p = record { arriving = Some (captures p); leaving = Some (outputs p) }

abbrev pub step_4 : (ℕ → Left) → TraceLine → ℕ → Left
step_4 s l = for_each left_line s l

abbrev pub verdict_4 : Shape → (ℕ → Left) → Bool
verdict_4 t s = all_external t (λ p. is_used_up (s p).arriving && is_used_up (s p).leaving)

-- ---- rule 5
-- the line holds the frame
abbrev pub holds_frame : Shape → ℕ → List ℕ → List ℕ → Bool
holds_frame t k f frame = if is_external t (k - 1) then bytes_eq f frame else bytes_eq (stripped f) frame
    && is_some (read_etag f)

abbrev pub holds_some : Shape → ℕ → List ℕ → Option (List ℕ) → Bool
holds_some t k f None = false
holds_some t k f (Some frame) = holds_frame t k f frame

-- the record that a line of the journal names
abbrev pub record_of : (ℕ → List (List ℕ)) → Option Entry → Option (List ℕ)
record_of captures (Some (Relayed p n)) = numbered (captures p) n
record_of captures (Some (Ignored p n)) = numbered (captures p) n
record_of captures _ = None

-- at a local port that of the line
abbrev pub is_here : Shape → ℕ → ℕ → Bool
is_here t k p = not (is_external t (k - 1)) || (p == k - 1)

abbrev pub names_here : Shape → ℕ → Option Entry → Bool
names_here t k (Some (Relayed p n)) = is_here t k p
names_here t k (Some (Ignored p n)) = is_here t k p
names_here t k _ = true

abbrev pub is_entered : Shape → (ℕ → List (List ℕ)) → ℕ → List ℕ → List (List ℕ) → Bool
is_entered t captures k f (line ∷ []) = holds_some t k f (record_of captures (entry_in line))
    && names_here t k (entry_in line)
is_entered t captures k f _ = false

abbrev pub enters : Shape → (ℕ → List (List ℕ)) → TraceLine → List (List ℕ) → Bool
enters t captures (In n k f) said = is_entered t captures k f said
enters t captures _ said = true

abbrev pub says_none : List (List ℕ) → Bool
says_none [] = true
says_none (x ∷ xs) = false

-- the bridge sends no data there
abbrev pub no_data : Shape → TraceLine → Bool
no_data t (Out n j f) = not ((n == 0) && is_data_at t j f)
no_data t _ = true

abbrev pub sends_by_relay : Shape → List TraceLine → Bool
sends_by_relay t lines = not (says_none (relays lines)) || list_all (no_data t) lines

-- among these lines at most two of data at the port of a line
abbrev pub few_at : Shape → List TraceLine → TraceLine → Bool
few_at t lines (Out n j f) = nat_le (length (sent t j lines)) 2
few_at t lines _ = true

abbrev pub is_step : Shape → (ℕ → List (List ℕ)) → TraceLine → List TraceLine → Bool
is_step t captures first rest =
    (if is_arrival t first then enters t captures first (entries rest) else says_none (relays rest))
    && (sends_by_relay t rest && list_all (few_at t rest) rest)

-- the lines before the first step, or those of a step
abbrev pub is_part : Shape → (ℕ → List (List ℕ)) → Option TraceLine → List TraceLine → Bool
is_part t captures None rest = says_none (relays rest) && sends_by_relay t rest
is_part t captures (Some first) rest = is_step t captures first rest

-- the first line of the step, if one has begun, the lines of it so far, and whether what stood before was right
pub record Steps : Type 0 where
  pub first : Option TraceLine
  pub rest : List TraceLine
  pub good : Bool

abbrev pub start_5 : Steps
start_5 = record { first = None; rest = []; good = true }

abbrev pub verdict_5 : Shape → (ℕ → List (List ℕ)) → Steps → Bool
verdict_5 t captures s = s.good && is_part t captures s.first s.rest

abbrev pub step_5 : Shape → (ℕ → List (List ℕ)) → Steps → TraceLine → Steps
step_5 t captures s l =
    if begins l then record { first = Some l; rest = []; good = verdict_5 t captures s }
    else record { first = s.first; rest = s.rest ++ l ∷ []; good = s.good }

-- ---- all rules at once
pub record Checker : Type 0 where
  pub told : Told
  pub watches : ℕ → Option Watch
  pub links : ℕ → Links
  pub left : ℕ → Left
  pub steps : Steps

abbrev pub begin : Files → Checker
begin x = record {
  told = start_1 x.journal;
  watches = start_2 x.tree;
  links = start_3;
  left = start_4 x.captures x.outputs;
  steps = start_5;
}

abbrev pub check_line : Files → Checker → TraceLine → Checker
check_line x s l =
    record {
      told = step_1 x.tree s.told l;
      watches = step_2 s.watches l;
      links = step_3 x.tree s.links l;
      left = step_4 s.left l;
      steps = step_5 x.tree x.captures s.steps l;
    }

abbrev pub unless : Bool → ℕ → Option ℕ → Option ℕ
unless good rule next = if good then next else Some rule

-- the lowest rule that doesn't hold, if any
abbrev pub lowest : Files → Checker → Option ℕ
lowest x s =
    unless (verdict_1 s.told) 1
    (unless (verdict_2 x.tree s.watches) 2 (unless (verdict_3 x.tree s.links) 3
    (unless (verdict_4 x.tree s.left) 4 (unless (verdict_5 x.tree x.captures s.steps) 5 None))))

-- what a checker answers after all lines: none where the trace is legal
unfoldable pub judged : Files → Option ℕ
judged x = lowest x (through (check_line x) (begin x) x.lines)
