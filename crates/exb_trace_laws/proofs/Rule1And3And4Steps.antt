-- Rules 1, 3 and 4 are kept by each step.
use Rattle.std.proofs.Common.{◌≡◌, ℕ, ◌==◌, true, List, [], ◌∷◌, ◌++◌, map, append_assoc, append-nil, Option, Some, None, refl, ap, sym, ◌∙◌, subst, inl, inr}
use Rattle.std.proofs.lemmas.Bool.{cases_Bool, cases_eq, eq-eqb, ne_eqb, false≢true}
use Rattle.std.proofs.lemmas.List.Concat.{flat_map-append}
use Rattle.exb_model.specs.declared.event.Event.{Event}
use Rattle.exb_model.specs.Texts.{line_of as event_text}
use Rattle.exb_model.specs.History.{History, ◌then◌}
use Rattle.exb_model.specs.Tree.{Shape, IsTree, on, is_extender, is_port, is_external}
use Rattle.exb_model.specs.declared.arrival.Arrival.{Arrival}
use Rattle.exb_model.specs.Frames.{is_control_frame}
use Rattle.exb_link.specs.declared.link_frame.LinkFrame.{LinkFrame}
use Rattle.exb_world_spec.specs.Worlds.{World, Way, Up, Down, Step, Arrive, Carry, Control, Lose, Beat, Tick, Order, Mark, Left, Line}
use Rattle.exb_world_spec.specs.Worlds as world
use Rattle.exb_world_spec.specs.Effects.{Effect}
use Rattle.exb_world_spec.specs.Steps.{words_on, first_data, control_at, line_at, line_of_any, lines_in, lines_by}
use Rattle.exb_world_spec.specs.Runs.Sessions.{Each}
use Rattle.exb_world_spec.specs.AllowedSteps.{Can}
use Rattle.exb_world_spec.proofs.LinkFrames.{each_append, each_weaker}
use Rattle.exb_model.specs.Traces.{TraceLine, In, Out, Journal}
use Rattle.exb_world_spec.specs.TraceLines.{told, all_told}
use Rattle.exb_model.specs.Traces as line
use Rattle.exb_trace_spec.specs.Traversals.{begins}
use Rattle.exb_trace_spec.specs.Rule1Places.{journal_at, journal_in, NamesPlace, HasPlaces}
use Rattle.exb_trace_laws.specs.LinkEnds.{start_of, end_of}
use Rattle.exb_trace_spec.specs.Rule3Links.{Place, place_of, in_at, ins, outs, data_of, IsFront, WasSent, DataInOrder, GoesInOrder, LinksInOrder}
use Rattle.exb_trace_spec.specs.JournalLines.{journal_of}
use Rattle.exb_trace_laws.specs.TraceRelation.{captures_of, outputs_of, bytes_of, IsOnLink, given_by}
use Rattle.exb_trace_laws.proofs.LinkLines.{on_push}
use Rattle.exb_trace_laws.proofs.Rule3Lines.{IsAfter, ins_append, outs_append, ins_after, order_rest, order_first}
use Rattle.exb_trace_laws.proofs.EffectLines.{Any, Shows, told_append, outputs_append, at_port, at_other_port, up_not_port, not_on_external, port_is_place, upstream_is_place, on_is_port}
use Rattle.exb_trace_laws.proofs.InputLines.{Takes, told_at}
use Rattle.exb_trace_laws.proofs.StepLines.{IsOutAt}
use Rattle.exb_trace_laws.proofs.LinePredicates.{each_legal, each_machine, both_ways, by_way}

-- ---- the lines of a step
-- at most one, which begins a step
abbrev pub IsHead : List TraceLine → Type 0
IsHead [] = Unit {0}
IsHead (l ∷ []) = begins l ≡ true
IsHead (l ∷ m ∷ ls) = ⊥

abbrev pub journaled : List Event → List TraceLine
journaled es = all_told (map world.Journal es)

-- the lines after the first
abbrev pub after_head : Effect → List TraceLine
after_head e = journaled e.events ++ all_told e.outs

pub lines_are : (firsts : List Line) (e : Effect) → all_told (lines_by firsts e) ≡ all_told firsts ++ after_head e
lines_are firsts e =
    told_append (firsts ++ map world.Journal e.events) e.outs ∙ ap (λ zs. zs ++ all_told e.outs) (told_append firsts (map world.Journal e.events)) ∙ append_assoc (all_told firsts) (journaled e.events) (all_told e.outs)

journal_after : (es : List Event) → Each IsAfter (journaled es)
journal_after [] = tt
journal_after (e ∷ es) = (tt, journal_after es)

pub journal_no_outs : (p : Place) (es : List Event) → outs p (journaled es) ≡ []
journal_no_outs p [] = refl
journal_no_outs p (e ∷ es) = journal_no_outs p es

pub journal_texts : (es : List Event) → journal_in (journaled es) ≡ map event_text es
journal_texts [] = refl
journal_texts (e ∷ es) = ap (λ zs. event_text e ∷ zs) (journal_texts es)

out_is_after : (t : Shape) (l : TraceLine) → IsOutAt t l → IsAfter l
out_is_after t (In n k f) h = absurd h
out_is_after t (Out n k f) h = tt
out_is_after t line.Beat h = absurd h
out_is_after t (Journal x) h = absurd h

pub outs_after : (t : Shape) (ls : List TraceLine) → Each (IsOutAt t) ls → Each IsAfter ls
outs_after t ls all = each_weaker (IsOutAt t) IsAfter ls (out_is_after t) all

pub no_journal : (t : Shape) (ls : List TraceLine) → Each (IsOutAt t) ls → journal_in ls ≡ []
no_journal t [] all = refl
no_journal t (In n k f ∷ ls) all = absurd all.0
no_journal t (Out n k f ∷ ls) all = no_journal t ls all.1
no_journal t (line.Beat ∷ ls) all = absurd all.0
no_journal t (Journal x ∷ ls) all = absurd all.0

pub head_no_outs : (p : Place) (ls : List TraceLine) → IsHead ls → outs p ls ≡ []
head_no_outs p [] h = refl
head_no_outs p (In n k f ∷ []) h = refl
head_no_outs p (Out n k f ∷ []) h = absurd (false≢true h)
head_no_outs p (line.Beat ∷ []) h = refl
head_no_outs p (Journal x ∷ []) h = absurd (false≢true h)
head_no_outs p (l ∷ m ∷ ls) h = absurd h

pub head_no_journal : (ls : List TraceLine) → IsHead ls → journal_in ls ≡ []
head_no_journal [] h = refl
head_no_journal (In n k f ∷ []) h = refl
head_no_journal (Out n k f ∷ []) h = absurd (false≢true h)
head_no_journal (line.Beat ∷ []) h = refl
head_no_journal (Journal x ∷ []) h = absurd (false≢true h)
head_no_journal (l ∷ m ∷ ls) h = absurd h

in_is_head : (p : ℕ) (f : List ℕ) → begins (told (line_at p f)) ≡ true
in_is_head p f = ap begins (told_at p f)

word_is_head : (t : Shape) (n : ℕ) (way : Way) (o : Option LinkFrame) → IsHead (all_told (line_of_any t n way o))
word_is_head t n way None = tt
word_is_head t n Up (Some x) = in_is_head (on t n) x.bytes
word_is_head t n Down (Some x) = refl

pub step_head : (t : Shape) (step : Step) (w : World) → IsHead (all_told (lines_in t step w))
step_head t (Arrive a) w = in_is_head a.port a.bytes
step_head t (Carry n way) w = word_is_head t n way (first_data (words_on n way w))
step_head t (Control n way k keep) w = word_is_head t n way (control_at (words_on n way w) k)
step_head t (Lose n way k) w = tt
step_head t Beat w = refl
step_head t (Tick seconds) w = tt
step_head t (Order c) w = tt
step_head t Mark w = tt

-- ---- rule 3
order_step : (from to : Place) (lines ls rest : List TraceLine) → IsHead ls → Each IsAfter rest → IsFront (data_of (ins to lines ++ ins to ls)) (data_of (outs from lines)) →
    ((f : List ℕ) → ins to ls ≡ f ∷ [] → is_control_frame f ≡ true → WasSent (outs from lines) (data_of (ins to lines)) f) → GoesInOrder from to lines → GoesInOrder from to (lines ++ (ls ++ rest))
order_step from to lines [] rest h all front control g =
    order_rest from to lines rest all (subst (λ zs. IsFront (data_of zs) (data_of (outs from lines))) (append-nil (ins to lines)) front) g
order_step from to lines (l ∷ []) rest h all front control g =
    let i : ins to (lines ++ l ∷ []) ≡ ins to lines ++ ins to (l ∷ []) = ins_append to lines (l ∷ []) in
    let o : outs from (lines ++ l ∷ []) ≡ outs from lines = outs_append from lines (l ∷ []) ∙ ap (λ zs. outs from lines ++ zs) (head_no_outs from (l ∷ []) h) ∙ append-nil (outs from lines) in
    let k : DataInOrder from to (lines ++ l ∷ []) = subst (λ zs. IsFront (data_of (ins to (lines ++ l ∷ []))) (data_of zs)) (sym o) (subst (λ zs. IsFront (data_of zs) (data_of (outs from lines))) (sym i) front) in
    order_first from to lines l rest all k (λ f e c. control f (ap (λ zs. zs ++ []) e) c) g
order_step from to lines (l ∷ m ∷ ls) rest h all front control g = absurd h

module _ (t : Shape) (tree : IsTree t) (w start : World) (ls : List TraceLine) (e : Effect) (head : IsHead ls) (takes : Takes t tree w start ls) (shows : Shows t (IsOutAt t) Any start e) where
  pub rest_after : Each IsAfter (after_head e)
  rest_after = each_append IsAfter (journaled e.events) (all_told e.outs) (journal_after e.events) (outs_after t (all_told e.outs) shows.lines)

  all_outs : (p : Place) (lines : List TraceLine) → outs p (lines ++ (ls ++ after_head e)) ≡ outs p lines ++ outs p (all_told e.outs)
  all_outs p lines =
      outs_append p lines (ls ++ after_head e)
      ∙ ap (λ zs. outs p lines ++ zs) (outs_append p ls (after_head e) ∙ ap (λ zs. zs ++ outs p (after_head e)) (head_no_outs p ls head) ∙ outs_append p (journaled e.events) (all_told e.outs) ∙ ap (λ zs. zs ++ outs p (all_told e.outs)) (journal_no_outs p e.events))

  all_ins : (p : Place) (lines : List TraceLine) → ins p (lines ++ (ls ++ after_head e)) ≡ ins p lines ++ ins p ls
  all_ins p lines =
      ins_append p lines (ls ++ after_head e)
      ∙ ap (λ zs. ins p lines ++ zs) (ins_append p ls (after_head e) ∙ ap (λ zs. ins p ls ++ zs) (ins_after p (after_head e) rest_after) ∙ append-nil (ins p ls))

  -- the words on each link
  pub links_kept : (lines : List TraceLine) → ((n : ℕ) (way : Way) → is_extender t n ≡ true → IsOnLink (outs (start_of t n way) lines) (ins (end_of t n way) lines) (words_on n way w)) →
      (n : ℕ) (way : Way) → is_extender t n ≡ true → IsOnLink (outs (start_of t n way) (lines ++ (ls ++ after_head e))) (ins (end_of t n way) (lines ++ (ls ++ after_head e))) (words_on n way e.world)
  links_kept lines links n way there =
      let from : Place = start_of t n way in
      let to : Place = end_of t n way in
      let taken : IsOnLink (outs from lines) (ins to lines ++ ins to ls) (words_on n way start) = takes.links n way there (outs from lines) (ins to lines) (links n way there) in
      let put = shows.puts n way there in
      let pushed : IsOnLink (outs from lines ++ bytes_of put.words) (ins to lines ++ ins to ls) (words_on n way start ++ put.words) = on_push (outs from lines) (ins to lines ++ ins to ls) (words_on n way start) put.words taken in
      let o : outs from lines ++ bytes_of put.words ≡ outs from (lines ++ (ls ++ after_head e)) = ap (λ zs. outs from lines ++ zs) put.bytes ∙ sym (all_outs from lines) in
      subst (λ ws. IsOnLink (outs from (lines ++ (ls ++ after_head e))) (ins to (lines ++ (ls ++ after_head e))) ws) (sym put.is)
      (subst (λ zs. IsOnLink (outs from (lines ++ (ls ++ after_head e))) zs (words_on n way start ++ put.words)) (sym (all_ins to lines))
      (subst (λ zs. IsOnLink zs (ins to lines ++ ins to ls) (words_on n way start ++ put.words)) o pushed))

  pub rule_3_kept : (lines : List TraceLine) → ((n : ℕ) (way : Way) → is_extender t n ≡ true → IsOnLink (outs (start_of t n way) lines) (ins (end_of t n way) lines) (words_on n way w)) → LinksInOrder t lines → LinksInOrder t (lines ++ (ls ++ after_head e))
  rule_3_kept lines links ordered n there = both_ways (λ from to. GoesInOrder from to (lines ++ (ls ++ after_head e))) t n one
    where
      one : (way : Way) → GoesInOrder (start_of t n way) (end_of t n way) (lines ++ (ls ++ after_head e))
      one way =
          let from : Place = start_of t n way in
          let to : Place = end_of t n way in
          let taken : IsOnLink (outs from lines) (ins to lines ++ ins to ls) (words_on n way start) = takes.links n way there (outs from lines) (ins to lines) (links n way there) in
          order_step from to lines ls (after_head e) head rest_after (record { rest = data_of (bytes_of (words_on n way start)); is = taken.frames })
          (takes.sent n way there (outs from lines) (ins to lines) (links n way there)) (by_way (λ a b. GoesInOrder a b lines) t n (ordered n there) way)

  -- ---- rule 4
  pub outs_kept : (lines : List TraceLine) (left : List Left) → ((p : ℕ) → is_external t p ≡ true → outs (place_of p) lines ≡ outputs_of left p) → (p : ℕ) → is_external t p ≡ true → outs (place_of p) (lines ++ (ls ++ after_head e)) ≡ outputs_of (left ++ e.left) p
  outs_kept lines left k p out = all_outs (place_of p) lines ∙ ap (λ zs. zs ++ outs (place_of p) (all_told e.outs)) (k p out) ∙ ap (λ zs. outputs_of left p ++ zs) (shows.leaves p out) ∙ sym (outputs_append left e.left p)

  -- ---- rule 1
  journal_then : (h : History) (es : List Event) → journal_of (h then es) ≡ journal_of h ++ map event_text es
  journal_then h [] = sym (append-nil (journal_of h))
  journal_then h (x ∷ es) = journal_then (x ∷ h) es ∙ append_assoc (journal_of h) (event_text x ∷ []) (map event_text es)

  pub journal_kept : (lines : List TraceLine) (h : History) → journal_in lines ≡ journal_of h → journal_in (lines ++ (ls ++ after_head e)) ≡ journal_of (h then e.events)
  journal_kept lines h k =
      flat_map-append journal_at lines (ls ++ after_head e)
      ∙ ap (λ zs. journal_in lines ++ zs)
      (flat_map-append journal_at ls (after_head e) ∙ ap (λ zs. zs ++ journal_in (after_head e)) (head_no_journal ls head) ∙ flat_map-append journal_at (journaled e.events) (all_told e.outs)
      ∙ ap (λ zs. journal_in (journaled e.events) ++ zs) (no_journal t (all_told e.outs) shows.lines) ∙ append-nil (journal_in (journaled e.events)) ∙ journal_texts e.events)
      ∙ ap (λ zs. zs ++ map event_text e.events) k ∙ sym (journal_then h e.events)

  out_names : (l : TraceLine) → IsOutAt t l → NamesPlace t l
  out_names (In n k f) h = absurd h
  out_names (Out n k f) h = h
  out_names line.Beat h = absurd h
  out_names (Journal x) h = absurd h

  journal_names : (es : List Event) → Each (NamesPlace t) (journaled es)
  journal_names [] = tt
  journal_names (x ∷ es) = (tt, journal_names es)

  pub places_kept : (lines : List TraceLine) → Each (NamesPlace t) ls → Each (NamesPlace t) lines → Each (NamesPlace t) (lines ++ (ls ++ after_head e))
  places_kept lines first all =
      each_append (NamesPlace t) lines (ls ++ after_head e) all (each_append (NamesPlace t) ls (after_head e) first
      (each_append (NamesPlace t) (journaled e.events) (all_told e.outs) (journal_names e.events) (each_weaker (IsOutAt t) (NamesPlace t) (all_told e.outs) out_names shows.lines)))

  pub rule_1_kept : (lines : List TraceLine) (h : History) → Each (NamesPlace t) ls → HasPlaces t (journal_of h) lines → HasPlaces t (journal_of (h then e.events)) (lines ++ (ls ++ after_head e))
  rule_1_kept lines h first k = record { told = journal_kept lines h k.told; places = each_legal (NamesPlace t) (lines ++ (ls ++ after_head e)) (places_kept lines first (each_machine (NamesPlace t) lines k.places)) }

  pub ins_kept : (lines : List TraceLine) (p : ℕ) → ins (place_of p) (lines ++ (ls ++ after_head e)) ≡ ins (place_of p) lines ++ ins (place_of p) ls
  ins_kept lines p = all_ins (place_of p) lines

-- ---- the first line
module _ (t : Shape) (tree : IsTree t) where
  port_names : (p : ℕ) (f : List ℕ) → is_port t p ≡ true → NamesPlace t (told (line_at p f))
  port_names p f h = subst (NamesPlace t) (sym (told_at p f)) (port_is_place t p h)

  word_names : (n : ℕ) (way : Way) (o : Option LinkFrame) → is_extender t n ≡ true → Each (NamesPlace t) (all_told (line_of_any t n way o))
  word_names n way None there = tt
  word_names n Up (Some x) there = (port_names (on t n) x.bytes (on_is_port t tree n there), tt)
  word_names n Down (Some x) there = (upstream_is_place t n there, tt)

  pub first_names : (step : Step) (w : World) → Can t w step → Each (NamesPlace t) (all_told (lines_in t step w))
  first_names (Arrive a) w can = (port_names a.port a.bytes (Rattle.std.proofs.lemmas.Bool.and_parts (is_port t a.port) _ can.external).0, tt)
  first_names (Carry n way) w can = word_names n way (first_data (words_on n way w)) can.0
  first_names (Control n way k keep) w can = word_names n way (control_at (words_on n way w) k) can.0
  first_names (Lose n way k) w can = tt
  first_names Beat w can = (tt, tt)
  first_names (Tick seconds) w can = tt
  first_names (Order c) w can = tt
  first_names Mark w can = tt

  -- and what it captures
  pub captures_append : (xs ys : List Arrival) (p : ℕ) → captures_of (xs ++ ys) p ≡ captures_of xs p ++ captures_of ys p
  captures_append [] ys p = refl
  captures_append (x ∷ xs) ys p = elim (cases_Bool (x.port == p)) [ inl e ↦ rw e (ap (λ zs. x.bytes ∷ zs) (captures_append xs ys p)) | inr e ↦ rw e (captures_append xs ys p) ]

  word_no_capture : (n : ℕ) (way : Way) (o : Option LinkFrame) (p : ℕ) → is_extender t n ≡ true → is_external t p ≡ true → ins (place_of p) (all_told (line_of_any t n way o)) ≡ []
  word_no_capture n way None p there out = refl
  word_no_capture n Up (Some x) p there out = ap (λ zs. zs ++ []) (ap (in_at (place_of p)) (told_at (on t n) x.bytes) ∙ at_other_port p (on t n) x.bytes (not_on_external t tree n p there out))
  word_no_capture n Down (Some x) p there out = ap (λ zs. zs ++ []) (up_not_port p n x.bytes)

  first_captured : (step : Step) (w : World) (p : ℕ) → Can t w step → is_external t p ≡ true → ins (place_of p) (all_told (lines_in t step w)) ≡ captures_of (given_by step) p
  first_captured (Arrive a) w p can out =
      elim (cases_eq a.port p) [
        | inl e ↦ ap (λ zs. zs ++ []) (ap (in_at (place_of p)) (told_at a.port a.bytes) ∙ at_port p a.port a.bytes e) ∙ (rw (eq-eqb a.port p e) refl)
        | inr ne ↦ ap (λ zs. zs ++ []) (ap (in_at (place_of p)) (told_at a.port a.bytes) ∙ at_other_port p a.port a.bytes ne) ∙ (rw (ne_eqb a.port p ne) refl)
      ]
  first_captured (Carry n way) w p can out = word_no_capture n way (first_data (words_on n way w)) p can.0 out
  first_captured (Control n way k keep) w p can out = word_no_capture n way (control_at (words_on n way w) k) p can.0 out
  first_captured (Lose n way k) w p can out = refl
  first_captured Beat w p can out = refl
  first_captured (Tick seconds) w p can out = refl
  first_captured (Order c) w p can out = refl
  first_captured Mark w p can out = refl

  pub captured_more : (step : Step) (w : World) (arrivals : List Arrival) (p : ℕ) (before : List (List ℕ)) → Can t w step → is_external t p ≡ true → before ≡ captures_of arrivals p →
      before ++ ins (place_of p) (all_told (lines_in t step w)) ≡ captures_of (arrivals ++ given_by step) p
  captured_more step w arrivals p before can out k =
      ap (λ zs. zs ++ ins (place_of p) (all_told (lines_in t step w))) k ∙ ap (λ zs. captures_of arrivals p ++ zs) (first_captured step w p can out) ∙ sym (captures_append arrivals (given_by step) p)
